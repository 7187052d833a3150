-- What the heap reading says of the small function.
use Rattle.std.proofs.Common.{◌≡◌, ◌≢◌, ℕ, ◌<◌, true, List, [], ◌∷◌, refl, ap, sym, ◌∙◌, subst, inl, inr, arith}
use Rattle.std.specs.Prelude.{is_ok}
use Rattle.alias_base.specs.declared.ids.IdentifierId.{IdentifierId}
use Rattle.alias_hir.specs.declared.env.Identifier.{Identifier}
use Rattle.alias_graph.specs.Reach.{end_at}
use Rattle.alias_range_pass.specs.Refusals.{recorded}
use Rattle.alias_ranges.specs.heap.Heap.{New, Copies, History, Object, Holds, IsWithin, itself, stored, Reaches, Writes}
use Rattle.alias_ranges.specs.heap.Making.{makes_once}
use Rattle.alias_ranges.specs.heap.Paths.{is_forward, history_at}
use Rattle.alias_ranges.specs.heap.Reading.{HeapIsCovered}
use Rattle.alias_ranges.specs.heap.Rows.{id, branching, by_first_branch, object_of}

pub branching_forward : is_forward branching ≡ true
branching_forward = refl

pub branching_once : makes_once branching ≡ true
branching_once = refl

pub branching_recorded : is_ok (recorded branching) ≡ true
branching_recorded = refl

abbrev made_three : History
made_three = New (id 3) ∷ New (id 2) ∷ New (id 1) ∷ New (id 0) ∷ []

apart : (a b : ℕ) → (a ≡ b → ⊥) → id a ≢ id b
apart a b h e = h (ap (λ (z : IdentifierId). z.0) e)

differ : (a b : ℕ) → (a ≡ b → ⊥) → object_of a ≢ object_of b
differ a b h e = h (ap (λ (z : Object). z.number) e)

-- ---- what reaches the object of 3

holds_1 : Holds made_three (id 1) (object_of 1)
holds_1 = inr (apart 1 3 (λ e. omega arith), inr (apart 1 2 (λ e. omega arith), inl (refl, refl)))

holds_3 : Holds (Copies (id 1) (id 4) ∷ made_three) (id 3) (object_of 3)
holds_3 = inr (apart 3 4 (λ e. omega arith), inl (refl, refl))

pub branching_writes : Writes (history_at by_first_branch) by_first_branch.next (object_of 3)
branching_writes = holds_3

pub branching_reaches : Reaches (history_at by_first_branch) (id 1) (object_of 3)
branching_reaches = (
  object_of 1,
  inr (apart 1 4 (λ e. omega arith), holds_1),
  stored (object_of 1) (object_of 3) itself (inr (inl (refl, holds_1), holds_3)),
)

-- ---- and what doesn't

only_1 : (o : Object) → Holds made_three (id 1) o → o ≡ object_of 1
only_1 o (inl h) = absurd (apart 1 3 (λ e. omega arith) h.0)
only_1 o (inr (_, inl h)) = absurd (apart 1 2 (λ e. omega arith) h.0)
only_1 o (inr (_, inr (_, inl h))) = h.1
only_1 o (inr (_, inr (_, inr (h, _)))) = absurd (h refl)

only_2 : (o : Object) → Holds made_three (id 2) o → o ≡ object_of 2
only_2 o (inl h) = absurd (apart 2 3 (λ e. omega arith) h.0)
only_2 o (inr (_, inl h)) = h.1
only_2 o (inr (_, inr (h, _))) = absurd (h refl)

-- the phi holds the object of 1 alone
only_4 : (o : Object) → Holds (Copies (id 1) (id 4) ∷ made_three) (id 4) o → o ≡ object_of 1
only_4 o (inl h) = only_1 o h.1
only_4 o (inr h) = absurd (h.0 refl)

-- so the object of 2 stores nothing
alone : (q : Object) → IsWithin (history_at by_first_branch) (object_of 2) q → q ≡ object_of 2
alone _ itself = refl
alone _ (stored p q within (inl st)) = absurd st
alone _ (stored p q within (inr st)) = absurd (differ 1 2 (λ e. omega arith) (sym (only_4 p st.0) ∙ alone p within))

pub branching_apart : Reaches (history_at by_first_branch) (id 2) (object_of 3) → ⊥
branching_apart (o, inl h, within) = absurd (apart 2 4 (λ e. omega arith) h.0)
branching_apart (o, inr h, within) = differ 3 2 (λ e. omega arith)
    (alone (object_of 3) (subst (λ z. IsWithin (history_at by_first_branch) z (object_of 3)) (only_2 o h.1) within))

-- the range of 1 ends past the write of 3
pub branching_ends : (identifiers : List Identifier) → HeapIsCovered branching identifiers → 6 < end_at identifiers 1
branching_ends identifiers covered = covered branching_forward branching_once by_first_branch (object_of 3)
    branching_writes (id 1) branching_reaches
