-- The table of what was seen is that of the entries that were expanded.
use Rattle.std.proofs.Common.{◌≡◌, ℕ, ◌<◌, ⊎_elim, Bool, true, false, cond, ◌&&◌, ◌==◌, List, [], ◌∷◌, Option, Some}
use Rattle.std.proofs.Common.{None, length, slice_index_or, slice_set, replicate, refl, ap, sym, ◌∙◌, subst, arith, suc}
use Rattle.std.proofs.Common.{zero}
use Rattle.std.proofs.lemmas.List.{get_or-set_same, get_or-set_other, length-set, length-replicate}
use Rattle.std.proofs.lemmas.Bool.{cases_eq, false≢true}
use Rattle.alias_base.specs.declared.ids.IdentifierId.{IdentifierId}
use Rattle.alias_graph.specs.declared.types.MutationKind.{MutationKind}
use Rattle.alias_graph.specs.declared.types.MutationKind.TheVariants.{Conditional, Definite}
use Rattle.alias_graph.specs.declared.types.Direction.{Direction}
use Rattle.alias_graph.specs.declared.types.Direction.TheVariants.{Backwards, Forwards}
use Rattle.alias_graph.specs.declared.types.Entry.{Entry}
use Rattle.alias_graph.specs.Nodes.{Node}
use Rattle.alias_graph.specs.declared.seen.Seen.{Seen}
use Rattle.alias_graph.specs.Nodes.{Nodes}
use Rattle.alias_graph.specs.Links.{at_least, is_definite, is_backwards, mode_covers, covers}
use Rattle.alias_graph.specs.Seen.{risen, nothing_seen, level, reaches, is_seen, see_at, see}
use Rattle.alias_graph.specs.Walks.{is_covered}
use Rattle.alias_graph.proofs.Covering.{eqb_is, eqb_itself}
use Rattle.alias_graph.proofs.Slots.{Found}

reaches_risen : (k : MutationKind) (o : Option MutationKind) (j : MutationKind) → reaches (risen k o) j
    ≡ cond (at_least (is_definite k) (is_definite j)) true (reaches o j)
reaches_risen Definite o j = refl
reaches_risen Conditional None Conditional = refl
reaches_risen Conditional None Definite = refl
reaches_risen Conditional (Some Conditional) Conditional = refl
reaches_risen Conditional (Some Conditional) Definite = refl
reaches_risen Conditional (Some Definite) Conditional = refl
reaches_risen Conditional (Some Definite) Definite = refl

seen_more_at : (t : Bool) (x : Direction) (k : MutationKind) (s : Seen) (u : Bool) (y : Direction) (j : MutationKind)
    → reaches (level (see_at t x k s) u y) j
    ≡ cond (at_least t u && at_least (is_backwards x) (is_backwards y) && at_least (is_definite k) (is_definite j))
    true (reaches (level s u y) j)
seen_more_at true Backwards k s true Backwards j = reaches_risen k s.transitive_backwards j
seen_more_at true Backwards k s true Forwards j = reaches_risen k s.transitive_forwards j
seen_more_at true Backwards k s false Backwards j = reaches_risen k s.local_backwards j
seen_more_at true Backwards k s false Forwards j = reaches_risen k s.local_forwards j
seen_more_at true Forwards k s true Backwards j = refl
seen_more_at true Forwards k s true Forwards j = reaches_risen k s.transitive_forwards j
seen_more_at true Forwards k s false Backwards j = refl
seen_more_at true Forwards k s false Forwards j = reaches_risen k s.local_forwards j
seen_more_at false Backwards k s true Backwards j = refl
seen_more_at false Backwards k s true Forwards j = refl
seen_more_at false Backwards k s false Backwards j = reaches_risen k s.local_backwards j
seen_more_at false Backwards k s false Forwards j = reaches_risen k s.local_forwards j
seen_more_at false Forwards k s true Backwards j = refl
seen_more_at false Forwards k s true Forwards j = refl
seen_more_at false Forwards k s false Backwards j = refl
seen_more_at false Forwards k s false Forwards j = reaches_risen k s.local_forwards j

pub seen_more : (d : Entry) (s : Seen) (e : Entry) → is_seen (see d s) e ≡ cond (mode_covers d e) true (is_seen s e)
seen_more d s e = seen_more_at d.transitive d.direction d.kind s e.transitive e.direction e.kind

pub nothing_at : (t : Bool) (x : Direction) (k : MutationKind) → reaches (level nothing_seen t x) k ≡ false
nothing_at true Backwards k = refl
nothing_at true Forwards k = refl
nothing_at false Backwards k = refl
nothing_at false Forwards k = refl

-- a slot has one identifier, and an identifier one slot
pub one_id : (g : Nodes) (a b : IdentifierId) (i : ℕ) (n w : Node) → Found g a i n → Found g b i w → a.0 ≡ b.0
one_id [] a b i n w h k = absurd h
one_id (p ∷ g) a b zero n w h k = let x = eqb_is a.0 p.0.0 h.0 in let y = eqb_is b.0 p.0.0 k.0 in x ∙ sym y
one_id (p ∷ g) a b (suc i) n w h k = one_id g a b i n w h.1 k.1

pub one_slot : (g : Nodes) (a b : IdentifierId) (i j : ℕ) (n w : Node) → a.0 ≡ b.0 → Found g a i n → Found g b j w → i
    ≡ j
one_slot [] a b i j n w e h k = absurd h
one_slot (p ∷ g) a b zero zero n w e h k = refl
one_slot (p ∷ g) a b zero (suc j) n w e h k = absurd (false≢true (sym k.0 ∙ ap (λ m. m == p.0.0) (sym e) ∙ h.0))
one_slot (p ∷ g) a b (suc i) zero n w e h k = absurd (false≢true (sym h.0 ∙ ap (λ m. m == p.0.0) e ∙ k.0))
one_slot (p ∷ g) a b (suc i) (suc j) n w e h k = ap suc (one_slot g a b i j n w e h.1 k.1)

pub found_below : (g : Nodes) (a : IdentifierId) (i : ℕ) (n : Node) → Found g a i n → i < length g
found_below [] a i n h = absurd h
found_below (p ∷ g) a zero n h = omega arith
found_below (p ∷ g) a (suc i) n h = let r = found_below g a i n h.1 in omega arith

-- what the table says at a slot is what the expanded entries say
pub record Sees (g : Nodes) (seen : List Seen) (done : List Entry) : Type 0 where
  pub size : length seen ≡ length g
  pub says : (e : Entry) (i : ℕ) (n : Node) → Found g e.id i n → is_seen (slice_index_or seen i nothing_seen) e
      ≡ is_covered covers done e

at_nothing : (n i : ℕ) → slice_index_or (replicate n nothing_seen) i nothing_seen ≡ nothing_seen
at_nothing zero i = refl
at_nothing (suc n) zero = refl
at_nothing (suc n) (suc i) = at_nothing n i

pub sees_nothing : (g : Nodes) → Sees g (replicate (length g) nothing_seen) []
sees_nothing g = record {
  size = length-replicate (length g) nothing_seen;
  says = λ e i n h. ap (λ s. is_seen s e) (at_nothing (length g) i) ∙ nothing_at e.transitive e.direction e.kind;
}

same_true : (a b c : Bool) → a ≡ true → cond b true c ≡ cond (a && b) true c
same_true true b c h = refl
same_true false b c h = cc

same_false : (a b c : Bool) → a ≡ false → c ≡ cond (a && b) true c
same_false true b c h = cc
same_false false b c h = refl

not_same : (a b : ℕ) → (a ≡ b → ⊥) → (a == b) ≡ false
not_same a b h = grind arith

pub sees_more : (g : Nodes) (seen : List Seen) (done : List Entry) (d : Entry) (p : ℕ) (n : Node) → Found g d.id p n
    → Sees g seen done
    → Sees g (slice_set seen p (see d (slice_index_or seen p nothing_seen))) (d ∷ done)
sees_more g seen done d p n found h =
    let s = slice_index_or seen p nothing_seen in
    let lt : p < length seen = let b = found_below g d.id p n found in omega (arith, h.size) in
    record {
      size = length-set seen p (see d s) ∙ h.size;
      says = λ e i w at. ⊎_elim
          (λ same.
          let at_p = subst (λ j. Found g e.id j w) same at in
          let ids : d.id.0 ≡ e.id.0 = one_id g d.id e.id p n w found at_p in
          ap (λ j. is_seen (slice_index_or (slice_set seen p (see d s)) j nothing_seen) e) same
          ∙ ap (λ z. is_seen z e) (get_or-set_same seen p (see d s) nothing_seen lt)
          ∙ seen_more d s e
          ∙ ap (cond (mode_covers d e) true) (h.says e p w at_p)
          ∙ same_true (d.id.0 == e.id.0) (mode_covers d e) (is_covered covers done e)
          (ap (λ m. m == e.id.0) ids ∙ eqb_itself e.id.0))
          (λ other.
          ap (λ z. is_seen z e) (get_or-set_other seen p i (see d s) nothing_seen other)
          ∙ h.says e i w at
          ∙ same_false (d.id.0 == e.id.0) (mode_covers d e) (is_covered covers done e)
          (not_same d.id.0 e.id.0 (λ ids. other (one_slot g e.id d.id i p w n (sym ids) at found))))
          (cases_eq i p);
    }
