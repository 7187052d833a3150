-- Blocks that are noted for the instructions that they list.
use Rattle.std.proofs.lemmas.Option.{get_or_from_slice_get, slice_get_within}
use Rattle.std.proofs.Common.{◌≡◌, ℕ, ◌+◌, ◌<◌, add-one, drop, drop-cons, ◌==◌, Bool, true, false, cond, ◌&&◌, ◌||◌}
use Rattle.std.proofs.Common.{List, [], ◌∷◌, Option, Some, None, find, get_or, length, nat_lt, option_map, set, refl}
use Rattle.std.proofs.Common.{ap, sym, ◌∙◌, ⊎_elim, subst, arith, zero, suc}
use Rattle.std.specs.Prelude.{slice_get}
use Rattle.std.specs.List.{list_any}
use Rattle.std.specs.Option.{option_map_or}
use Rattle.std.proofs.lemmas.Bool.{lt-ltb, eq-eqb, cases_eq}
use Rattle.std.proofs.lemmas.Bool.Decides.{eqb_tells}
use Rattle.std.proofs.lemmas.List.{length-set, get_or-set_same, get_or-set_other}
use Rattle.alias_base.specs.declared.ids.BlockId.{BlockId}
use Rattle.alias_base.specs.declared.ids.InstructionId.{InstructionId}
use Rattle.alias_hir.specs.declared.hir.BasicBlock.{BasicBlock}
use Rattle.alias_hir.specs.declared.hir.HirFunction.{HirFunction}
use Rattle.alias_lint.specs.Sites.{lists, block_of}
use Rattle.alias_lint.specs.lines.BlockTables.{Table, numbered, first_block, is_free, noted, noted_or, IsNoted}
use Rattle.alias_lint.specs.lines.BlockTables.{IsBlockTable}

pub unlisted : (b : BlockId) (o : Option BlockId) → noted_or false b o ≡ o
unlisted b None = refl
unlisted b (Some a) = refl

taken : (p : Bool) (b : BlockId) (o : Option BlockId) → is_free o ≡ false → noted_or p b o ≡ o
taken p b None h = cc
taken p b (Some a) h = refl

noted_twice : (p q : Bool) (b : BlockId) (o : Option BlockId) → noted_or q b (noted_or p b o) ≡ noted_or (p || q) b o
noted_twice true q b None = refl
noted_twice false q b None = refl
noted_twice true q b (Some a) = refl
noted_twice false q b (Some a) = refl

not_equal : (a b : ℕ) → (a ≡ b → ⊥) → (a == b) ≡ false
not_equal a b h = ⊎_elim (λ t. absurd (h t.1)) (λ f. f.0) (eqb_tells a b)

pub noted_size : (t : Table) (b : BlockId) (j : InstructionId) → length (noted t b j) ≡ length t
noted_size t b j = elim (nat_lt j.0 (length t) && is_free (get_or t j.0 None)) as
    (λ c. length (cond c (set t j.0 (Some b)) t) ≡ length t) [
      | true ↦ length-set t j.0 (Some b)
      | false ↦ refl
    ]

here : (t : Table) (b : BlockId) (k : ℕ) (o : Option BlockId) → get_or t k None ≡ o → k < length t
    → get_or (cond (nat_lt k (length t) && is_free o) (set t k (Some b)) t) k None ≡ noted_or true b o
here t b k None is lt =
    ap (λ c. get_or (cond (c && true) (set t k (Some b)) t) k None) (lt-ltb k (length t) lt)
    ∙ get_or-set_same t k (Some b) None lt
here t b k (Some a) is lt =
    ap (λ c. get_or (cond (c && false) (set t k (Some b)) t) k None) (lt-ltb k (length t) lt) ∙ is

there : (c : Bool) (t : Table) (b : BlockId) (k i : ℕ) → (i ≡ k → ⊥) → get_or (cond c (set t k (Some b)) t) i None
    ≡ get_or t i None
there true t b k i h = get_or-set_other t k i (Some b) None h
there false t b k i h = refl

-- one number is noted
noted_at : (t : Table) (b : BlockId) (j : InstructionId) (i : ℕ) → i < length t → get_or (noted t b j) i None
    ≡ noted_or (j.0 == i) b (get_or t i None)
noted_at t b j i lt = ⊎_elim
    (λ same.
    subst (λ (k : ℕ). get_or (noted t b j) k None ≡ noted_or (j.0 == k) b (get_or t k None)) same
    (here t b j.0 (get_or t j.0 None) refl (let e : j.0 ≡ i = same in omega arith)
    ∙ ap (λ p. noted_or p b (get_or t j.0 None)) (sym (eq-eqb j.0 j.0 refl))))
    (λ other.
    there (nat_lt j.0 (length t) && is_free (get_or t j.0 None)) t b j.0 i (λ e. other (sym e))
    ∙ sym (unlisted b (get_or t i None))
    ∙ ap (λ p. noted_or p b (get_or t i None)) (sym (not_equal j.0 i other)))
    (cases_eq j.0 i)

abbrev lists_number : ℕ → List InstructionId → Bool
lists_number i ids = list_any (λ (j : InstructionId). j.0 == i) ids

-- what is left of the instructions decides
pub record Noting (b : BlockId) (left all : List InstructionId) (first now : Table) : Type 0 where
  pub size : length now ≡ length first
  pub each : (i : ℕ) → i < length first → noted_or (lists_number i left) b (get_or now i None)
      ≡ noted_or (lists_number i all) b (get_or first i None)

pub noting_more : (b : BlockId) (left rest all : List InstructionId) (first now : Table) (j : InstructionId) → left ≡ j
    ∷ rest → Noting b left all first now → Noting b rest all first (noted now b j)
noting_more b left rest all first now j is h = record {
  size = noted_size now b j ∙ h.size;
  each = λ i lt.
      ap (λ o. noted_or (lists_number i rest) b o)
      (noted_at now b j i (let e : length now ≡ length first = h.size in omega arith))
      ∙ noted_twice (j.0 == i) (lists_number i rest) b (get_or now i None)
      ∙ ap (λ ids. noted_or (lists_number i ids) b (get_or now i None)) (sym is)
      ∙ h.each i lt;
}

pub noting_next : (b : BlockId) (k : ℕ) (ids : List InstructionId) (first now new : Table) (j d : InstructionId) → k
    < length ids → new ≡ noted now b j → j ≡ get_or ids k d → Noting b (drop k ids) ids first now
    → Noting b (drop (k + 1) ids) ids first new
noting_next b k ids first now new j d lt is at h =
    let left : drop k ids ≡ j ∷ drop (k + 1) ids =
    rw add-one (drop-cons ids k d lt ∙ ap (λ z. z ∷ drop (suc k) ids) (sym at)) in
    let P : Table → Type 0 = λ t. Noting b (drop (k + 1) ids) ids first t in
    subst P (sym is) (noting_more b (drop k ids) (drop (k + 1) ids) ids first now j left h)

-- ---- all blocks

-- what is noted, or else what the blocks that are left list
abbrev pub noted_first : Option BlockId → Option BlockId → Option BlockId
noted_first None o = o
noted_first (Some b) o = Some b

pub record Tabling (f : HirFunction) (left : List (BlockId × BasicBlock)) (t : Table) : Type 0 where
  pub size : length t ≡ length f.instructions
  pub first : (i : ℕ) → i < length t → noted_first (get_or t i None) (first_block i left) ≡ first_block i f.body.blocks

listed_first : (p : Bool) (e : BlockId × BasicBlock) (o : Option BlockId) (rest : Option (BlockId × BasicBlock))
    → noted_first (noted_or p e.0 o) (option_map (λ (d : BlockId × BasicBlock). d.0) rest)
    ≡ noted_first o (option_map (λ (d : BlockId × BasicBlock). d.0) (cond p (Some e) rest))
listed_first true e None rest = refl
listed_first false e None rest = refl
listed_first true e (Some a) rest = refl
listed_first false e (Some a) rest = refl

pub tabling_more : (f : HirFunction) (left rest : List (BlockId × BasicBlock)) (e : BlockId × BasicBlock)
    (t new : Table) → left ≡ e ∷ rest → IsNoted e.0 e.1.instructions t new → Tabling f left t → Tabling f rest new
tabling_more f left rest e t new is noted h = record {
  size = noted.size ∙ h.size;
  first = λ i lt.
      let low : i < length t = (let s : length new ≡ length t = noted.size in omega arith) in
      ap (λ o. noted_first o (first_block i rest)) (noted.each i low)
      ∙ listed_first (lists_number i e.1.instructions) e (get_or t i None) (find (lists (numbered i)) rest)
      ∙ ap (λ bs. noted_first (get_or t i None) (first_block i bs)) (sym is)
      ∙ h.first i low;
}

pub tabling_next : (f : HirFunction) (left rest : List (BlockId × BasicBlock)) (b : BlockId) (x : BasicBlock)
    (ids : List InstructionId) (t new : Table) → left ≡ (b, x) ∷ rest → ids ≡ x.instructions → IsNoted b ids t new
    → Tabling f left t → Tabling f rest new
tabling_next f left rest b x ids t new is same noted h =
    tabling_more f left rest (b, x) t new is (subst (λ z. IsNoted b z t new) same noted) h

-- ---- look-ups

found : (o : Option (BlockId × BasicBlock)) (b entry : BlockId) → option_map (λ (e : BlockId × BasicBlock). e.0) o
    ≡ Some b → b ≡ option_map_or (λ (e : BlockId × BasicBlock). e.0) o entry
found None b entry h = cc
found (Some e) b entry h = cc

not_found : (o : Option (BlockId × BasicBlock)) (entry : BlockId) → option_map (λ (e : BlockId × BasicBlock). e.0) o
    ≡ None → entry ≡ option_map_or (λ (e : BlockId × BasicBlock). e.0) o entry
not_found None entry h = refl
not_found (Some e) entry h = cc

noted_there : (t : Table) (k : ℕ) (o : Option BlockId) → slice_get t k ≡ Some o → (k < length t) × (get_or t k None ≡ o)
noted_there t k o h = (slice_get_within t k o h, get_or_from_slice_get t k o None h)

pub entry_found : (f : HirFunction) (t : Table) (i : InstructionId) → IsBlockTable f t → slice_get t i.0 ≡ Some None
    → f.body.entry ≡ block_of f i
entry_found f t i table h =
    let w = noted_there t i.0 None h in
    not_found (find (lists i) f.body.blocks) f.body.entry (sym (table.first i.0 w.0) ∙ w.1)
