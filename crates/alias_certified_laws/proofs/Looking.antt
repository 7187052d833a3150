-- Where each instruction is listed once, what is recorded of all blocks has of each instruction what its own block
-- recorded of it.
use Rattle.std.specs.Prelude.{◌≡◌, ℕ, Bool, true, false, ◌==◌, ◌||◌, nat_eq, if◌then◌else◌, List, [], ◌∷◌, ◌++◌, map}
use Rattle.std.specs.Prelude.{Option, Some, None, slice_get, refl}
use Rattle.std.specs.List.{AllByRecursion, flat_map}
use Rattle.std.proofs.Common.{subst, ap, ◌∙◌, append_assoc, arith, eq-eqb}
use Rattle.std.proofs.lemmas.Bool.{eqb-true}
use Rattle.std.proofs.lemmas.Grind.{common_steps}
use Rattle.alias_base.specs.declared.ids.BlockId.{BlockId}
use Rattle.alias_base.specs.declared.ids.InstructionId.{InstructionId}
use Rattle.alias_rules.specs.function_rules.Rules.{is_among, first_again}
use Rattle.alias_hir.specs.declared.effect.AliasingEffect.{AliasingEffect}
use Rattle.alias_hir.specs.declared.hir.BasicBlock.{BasicBlock}
use Rattle.alias_hir.specs.declared.hir.Instruction.{Instruction}
use Rattle.alias_hir.specs.Positions.{Blocks}
use Rattle.alias_step.specs.declared.block.recorded.BlockEffects.{BlockEffects}
use Rattle.alias_step.specs.declared.block.recorded.InstructionEffects.{InstructionEffects}
use Rattle.alias_effects.specs.Inference.{instructions_recorded}
use Rattle.alias_certificate_laws.specs.accepting.Alike.{Paired, none as no_pair, more}
use Rattle.alias_certified_laws.proofs.Aligning.{Aligned, none, skip, take}
use Rattle.alias_certified_laws.proofs.Carrying.{effects_for}

-- ---- lists

all_of_parts : {X : Type 0} (Q : X → Type 0) (xs ys : List X) → AllByRecursion Q (xs ++ ys) → AllByRecursion Q xs
    × AllByRecursion Q ys
all_of_parts Q [] ys h = (tt, h)
all_of_parts Q (x ∷ xs) ys h = let b = all_of_parts Q xs ys h.1 in ((h.0, b.0), b.1)

all_of_both : {X : Type 0} (Q : X → Type 0) (xs ys : List X) → AllByRecursion Q xs → AllByRecursion Q ys
    → AllByRecursion Q (xs ++ ys)
all_of_both Q [] ys h g = g
all_of_both Q (x ∷ xs) ys h g = (h.0, all_of_both Q xs ys h.1 g)

-- ---- numbers that come once

abbrev IsOther : ℕ → ℕ → Type 0
IsOther i k = (k == i) ≡ false

both_false : (a b : Bool) → (a || b) ≡ false → (a ≡ false) × (b ≡ false)
both_false true b h = cc
both_false false b h = (refl, h)

or_back : (a b : Bool) → b ≡ true → (a || b) ≡ true
or_back true b h = refl
or_back false b h = h

or_front : (a b : Bool) → a ≡ true → (a || b) ≡ true
or_front true b h = refl
or_front false b h = cc

taken : (b : Bool) (x : ℕ) (o : Option ℕ) → ◌≡◌ {A = Option ℕ} (if b then Some x else o) None → (b ≡ false) × (o ≡ None)
taken true x o h = cc
taken false x o h = (refl, h)

-- the first isn't among those before, and the others come once behind it
once_step : (seen xs : List ℕ) (x : ℕ) → first_again seen (x ∷ xs) ≡ None → (is_among seen x ≡ false)
    × (first_again (x ∷ seen) xs ≡ None)
once_step seen xs x h = taken (is_among seen x) x (first_again (x ∷ seen) xs) h

other_by : (seen : List ℕ) (i y : ℕ) (b : Bool) → (y == i) ≡ b → is_among seen i ≡ true → is_among seen y ≡ false
    → (y == i) ≡ false
other_by seen i y true is a n = let same : y ≡ i = eqb-true y i is in let no : is_among seen i ≡ false =
    subst (λ k. is_among seen k ≡ false) same n in cc
other_by seen i y false is a n = is

-- what was before isn't among those that come once
apart : (seen xs : List ℕ) (i : ℕ) → first_again seen xs ≡ None → is_among seen i ≡ true → AllByRecursion (IsOther i) xs
apart seen [] i h a = tt
apart seen (y ∷ ys) i h a =
    let p = once_step seen ys y h in
    (other_by seen i y (y == i) refl a p.0, apart (y ∷ seen) ys i p.1 (or_back (nat_eq i y) (is_among seen i) a))

itself : (seen : List ℕ) (i : ℕ) → is_among (i ∷ seen) i ≡ true
itself seen i = or_front (nat_eq i i) (is_among seen i) (eq-eqb i i refl)

turned : (a b : ℕ) → nat_eq a b ≡ false → (b == a) ≡ false
turned a b h = grind (arith, common_steps)

-- behind these numbers
abbrev seen_after : List ℕ → List InstructionId → List ℕ
seen_after seen [] = seen
seen_after seen (i ∷ is) = seen_after (i.0 ∷ seen) is

abbrev numbers : List InstructionId → List ℕ
numbers is = map (λ (i : InstructionId). i.0) is

once_after : (seen : List ℕ) (is : List InstructionId) (later : List ℕ) → first_again seen (numbers is ++ later) ≡ None
    → first_again (seen_after seen is) later ≡ None
once_after seen [] later h = h
once_after seen (i ∷ is) later h = once_after (i.0 ∷ seen) is later (once_step seen (numbers is ++ later) i.0 h).1

still_seen : (seen : List ℕ) (is : List InstructionId) (j : ℕ) → is_among (seen_after seen is) j ≡ false
    → (is_among seen j ≡ false) × AllByRecursion (λ (i : InstructionId). (i.0 == j) ≡ false) is
still_seen seen [] j h = (h, tt)
still_seen seen (i ∷ is) j h =
    let r = still_seen (i.0 ∷ seen) is j h in
    let b = both_false (nat_eq j i.0) (is_among seen j) r.0 in
    (b.1, (turned j i.0 b.0, r.1))

-- ---- what is recorded of a number

-- no entry is of the number
abbrev NotIn : ℕ → List InstructionEffects → Type 0
NotIn i es = AllByRecursion (λ (e : InstructionEffects). (e.instruction.0 == i) ≡ false) es

past : (i : ℕ) (pre rest : List InstructionEffects) → NotIn i pre → effects_for i (pre ++ rest) ≡ effects_for i rest
past i [] rest h = refl
past i (e ∷ es) rest h = ap (λ b. if b then e.effects else effects_for i (es ++ rest)) h.0 ∙ past i es rest h.1

nothing_for : (i : ℕ) (es : List InstructionEffects) → NotIn i es → effects_for i es ≡ []
nothing_for i [] h = refl
nothing_for i (e ∷ es) h = ap (λ b. if b then e.effects else effects_for i es) h.0 ∙ nothing_for i es h.1

module _ (xs : List Instruction) where
  aligned_not_in : (i : ℕ) {is : List InstructionId} {es : List InstructionEffects} → Aligned xs is es
      → AllByRecursion (λ (k : InstructionId). (k.0 == i) ≡ false) is → NotIn i es
  aligned_not_in i none h = tt
  aligned_not_in i (skip k a) h = aligned_not_in i a h.1
  aligned_not_in i (take k x es at a) h = (h.0, aligned_not_in i a h.1)

  -- each of the numbers has in the whole what the entries have
  pub data Lookups (whole : List InstructionEffects) : List InstructionId → List InstructionEffects → Type 0 where
    no_more : Lookups whole [] []
    nothing : (i : InstructionId) {is : List InstructionId} {es : List InstructionEffects} → effects_for i.0 whole ≡ []
        → Lookups whole is es → Lookups whole (i ∷ is) es
    something : (i : InstructionId) (x : Instruction) (es : List AliasingEffect) {is : List InstructionId}
        {rest : List InstructionEffects} → slice_get xs i.0 ≡ Some x
        → effects_for i.0 whole ≡ es → Lookups whole is rest
        → Lookups whole (i ∷ is) (record { instruction = i; effects = es } ∷ rest)

  all_others : (is : List InstructionId) (i : ℕ) → AllByRecursion (IsOther i) (numbers is)
      → AllByRecursion (λ (k : InstructionId). (k.0 == i) ≡ false) is
  all_others [] i h = tt
  all_others (k ∷ is) i h = (h.0, all_others is i h.1)

  -- entries before, of numbers that were seen alone, and entries behind, of numbers that come later alone
  abbrev Before : List InstructionEffects → List ℕ → Type 0
  Before pre seen = (i : ℕ) → is_among seen i ≡ false → NotIn i pre

  abbrev Behind : List InstructionEffects → List ℕ → Type 0
  Behind post later = (i : ℕ) → AllByRecursion (IsOther i) later → NotIn i post

  before_more : (pre : List InstructionEffects) (seen : List ℕ) (i : ℕ) → Before pre seen → Before pre (i ∷ seen)
  before_more pre seen i f j h = f j (both_false (nat_eq j i) (is_among seen j) h).1

  before_one : (pre : List InstructionEffects) (seen : List ℕ) (i : InstructionId) (es : List AliasingEffect)
      → Before pre seen
      → Before (pre ++ record { instruction = i; effects = es } ∷ []) (i.0 ∷ seen)
  before_one pre seen i es f j h =
      let b = both_false (nat_eq j i.0) (is_among seen j) h in
      let e : InstructionEffects = record { instruction = i; effects = es } in
      all_of_both (λ (z : InstructionEffects). (z.instruction.0 == j) ≡ false) pre (e ∷ []) (f j b.1)
      (turned j i.0 b.0, tt)

  one_same : (i : ℕ) (es rest : List AliasingEffect) → (if i == i then es else rest) ≡ es
  one_same i es rest = ap (λ b. if b then es else rest) (eq-eqb i i refl)

  segment : (pre post : List InstructionEffects) (seen later : List ℕ) (is : List InstructionId)
      (here : List InstructionEffects) → Aligned xs is here
      → first_again seen (numbers is ++ later) ≡ None → Before pre seen → Behind post later
      → Lookups (pre ++ (here ++ post)) is here
  segment pre post seen later [] [] none once f g = no_more
  segment pre post seen later [] (e ∷ rest) a once f g = elim a [ ]
  segment pre post seen later (i ∷ is) here (skip k a) once f g =
      let p = once_step seen (numbers is ++ later) i.0 once in
      let others = all_of_parts (IsOther i.0) (numbers is) later
      (apart (i.0 ∷ seen) (numbers is ++ later) i.0 p.1 (itself seen i.0)) in
      let rest = all_of_both (λ (z : InstructionEffects). (z.instruction.0 == i.0) ≡ false) here post
      (aligned_not_in i.0 a (all_others is i.0 others.0)) (g i.0 others.1) in
      nothing i (past i.0 pre (here ++ post) (f i.0 p.0) ∙ nothing_for i.0 (here ++ post) rest)
      (segment pre post (i.0 ∷ seen) later is here a p.1 (before_more pre seen i.0 f) g)
  segment pre post seen later (i ∷ is) (e ∷ rest) (take k x es at a) once f g =
      let p = once_step seen (numbers is ++ later) i.0 once in
      let entry : InstructionEffects = record { instruction = i; effects = es } in
      something i x es at (past i.0 pre (entry ∷ (rest ++ post)) (f i.0 p.0)
      ∙ one_same i.0 es (effects_for i.0 (rest ++ post)))
      (subst (λ l. Lookups l is rest) (append_assoc pre (entry ∷ []) (rest ++ post))
      (segment (pre ++ entry ∷ []) post (i.0 ∷ seen) later is rest a p.1 (before_one pre seen i es f) g))

  -- ---- blocks

  abbrev pub BlockAligned : BlockId × BasicBlock → Option BlockEffects → Type 0
  BlockAligned b r = Aligned xs b.1.instructions (instructions_recorded r)

  abbrev listed : Blocks → List ℕ
  listed bs = flat_map (λ (e : BlockId × BasicBlock). map (λ (i : InstructionId). i.0) e.1.instructions) bs

  behind_all : (bs : Blocks) (rs : List (Option BlockEffects)) → Paired BlockAligned bs rs
      → Behind (flat_map instructions_recorded rs) (listed bs)
  behind_all [] [] no_pair i h = tt
  behind_all [] (r ∷ rs) p i h = elim p [ ]
  behind_all (b ∷ bs) [] p i h = elim p [ ]
  behind_all (b ∷ bs) (r ∷ rs) (more a p) i h =
      let parts = all_of_parts (IsOther i) (numbers b.1.instructions) (listed bs) h in
      all_of_both (λ (z : InstructionEffects). (z.instruction.0 == i) ≡ false) (instructions_recorded r)
      (flat_map instructions_recorded rs)
      (aligned_not_in i a (all_others b.1.instructions i parts.0)) (behind_all bs rs p i parts.1)

  before_block : (pre : List InstructionEffects) (seen : List ℕ) (is : List InstructionId)
      (here : List InstructionEffects) → Aligned xs is here → Before pre seen
      → Before (pre ++ here) (seen_after seen is)
  before_block pre seen is here a f j h =
      let b = still_seen seen is j h in
      all_of_both (λ (z : InstructionEffects). (z.instruction.0 == j) ≡ false) pre here (f j b.0)
      (aligned_not_in j a b.1)

  abbrev pub BlockLookups : List InstructionEffects → BlockId × BasicBlock → Option BlockEffects → Type 0
  BlockLookups whole b r = Lookups whole b.1.instructions (instructions_recorded r)

  each_lookups : (bs : Blocks) (rs : List (Option BlockEffects)) (pre : List InstructionEffects) (seen : List ℕ)
      → Paired BlockAligned bs rs → first_again seen (listed bs) ≡ None → Before pre seen
      → Paired (BlockLookups (pre ++ flat_map instructions_recorded rs)) bs rs
  each_lookups [] [] pre seen no_pair once f = no_pair
  each_lookups [] (r ∷ rs) pre seen p once f = elim p [ ]
  each_lookups (b ∷ bs) [] pre seen p once f = elim p [ ]
  each_lookups (b ∷ bs) (r ∷ rs) pre seen (more a p) once f =
      let here = instructions_recorded r in
      let post = flat_map instructions_recorded rs in
      more (segment pre post seen (listed bs) b.1.instructions here a once f (behind_all bs rs p))
      (subst (λ l. Paired (BlockLookups l) bs rs) (append_assoc pre here post)
      (each_lookups bs rs (pre ++ here) (seen_after seen b.1.instructions) p
      (once_after seen b.1.instructions (listed bs) once) (before_block pre seen b.1.instructions here a f)))

  -- all blocks of a function that lists each instruction once
  pub all_lookup : (bs : Blocks) (rs : List (Option BlockEffects)) → Paired BlockAligned bs rs
      → first_again [] (listed bs) ≡ None → Paired (BlockLookups (flat_map instructions_recorded rs)) bs rs
  all_lookup bs rs p once = each_lookups bs rs [] [] p once (λ i h. tt)
