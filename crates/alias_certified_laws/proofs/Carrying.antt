-- What the instructions and the terminals of a function carry, where what was recorded is put on it.
use Rattle.std.specs.Prelude.{◌≡◌, ℕ, Bool, true, false, ◌==◌, if◌then◌else◌, cond, is_none, List, [], ◌∷◌, Option}
use Rattle.std.specs.Prelude.{Some, None, option_map, slice_get, slice_set, position, refl}
use Rattle.std.specs.List.{list_all}
use Rattle.std.specs.Map.{keys_of}
use Rattle.std.specs.Option.{option_map_or}
use Rattle.std.proofs.Common.{zero, suc, subst, ap, sym, ◌∙◌}
use Rattle.std.proofs.lemmas.Bool.{eqb-true, eqb-false}
use Rattle.indexmap.specs.IndexMap.{set_value_at}
use Rattle.alias_base.specs.AnswerLaws.{both_true}
use Rattle.alias_base.specs.Find.{same_block, value_at}
use Rattle.alias_base.specs.declared.ids.BlockId.{BlockId}
use Rattle.alias_rules.specs.function_rules.Rules.{instruction_is_uninferred, place_is_uninferred}
use Rattle.alias_hir.specs.Values.{places_of}
use Rattle.alias_hir.specs.declared.effect.AliasingEffect.{AliasingEffect}
use Rattle.alias_hir.specs.declared.hir.BasicBlock.{BasicBlock}
use Rattle.alias_hir.specs.declared.hir.Instruction.{Instruction}
use Rattle.alias_step.specs.declared.block.recorded.InstructionEffects.{InstructionEffects}
use Rattle.alias_step.specs.declared.block.recorded.TerminalEffects.{TerminalEffects}
use Rattle.alias_hir.specs.PositionLaws.{position_step}
use Rattle.alias_hir.specs.Positions.{Blocks, position_in}
use Rattle.alias_effects.specs.Recording.{recorded_instructions, block_with, with_terminal_at, recorded_terminals}
use Rattle.alias_text.specs.Lines.{recorded}

-- ---- lists with an item set

set_same : {X : Type 0} (xs : List X) (i : ℕ) (x v : X) → slice_get xs i ≡ Some x → slice_get (slice_set xs i v) i
    ≡ Some v
set_same [] i x v e = cc
set_same (y ∷ ys) zero x v e = refl
set_same (y ∷ ys) (suc i) x v e = set_same ys i x v e

set_other : {X : Type 0} (xs : List X) (j i : ℕ) (v : X) → (j ≡ i → ⊥) → slice_get (slice_set xs j v) i ≡ slice_get xs i
set_other [] j i v e = refl
set_other (y ∷ ys) zero zero v e = absurd (e refl)
set_other (y ∷ ys) zero (suc i) v e = refl
set_other (y ∷ ys) (suc j) zero v e = refl
set_other (y ∷ ys) (suc j) (suc i) v e = set_other ys j i v (λ h. e (ap suc h))

-- ---- instructions

-- what is recorded of the instruction: the first entry of its number
abbrev pub effects_for : ℕ → List InstructionEffects → List AliasingEffect
effects_for i [] = []
effects_for i (e ∷ es) = if e.instruction.0 == i then e.effects else effects_for i es

-- the instruction is there, and carries what is said
abbrev pub Carries : List Instruction → ℕ → List AliasingEffect → Type 0
Carries xs i es = (y : Instruction) × (slice_get xs i ≡ Some y) × (recorded y.effects ≡ es)

pub some_same : {X : Type 0} (x y : X) → Some x ≡ Some y → x ≡ y
some_same x y e = cc

put_at : (ys : List Instruction) (j i : ℕ) (es before : List AliasingEffect) (o : Option Instruction) (b : Bool)
    → slice_get ys j ≡ o → (j == i) ≡ b → Carries ys i before
    → Carries (option_map_or (λ (x : Instruction). slice_set ys j (record x { effects = Some es })) o ys) i
    (if b then es else before)
put_at ys j i es before None true at same h =
    let here : slice_get ys i ≡ None = subst (λ k. slice_get ys k ≡ None) (eqb-true j i same) at in
    let no : None ≡ Some h.0 = sym here ∙ h.1 in
    cc
put_at ys j i es before (Some x) true at same h =
    let is : j ≡ i = eqb-true j i same in
    let w : Instruction = record x { effects = Some es } in
    (w, subst (λ k. slice_get (slice_set ys j w) k ≡ Some w) is (set_same ys j x w at), refl)
put_at ys j i es before None false at same h = h
put_at ys j i es before (Some x) false at same h =
    (h.0, set_other ys j i (record x { effects = Some es }) (eqb-false j i same) ∙ h.1, h.2)

pub none_recorded : (o : Option (List AliasingEffect)) → is_none o ≡ true → recorded o ≡ []
none_recorded None h = refl
none_recorded (Some es) h = cc

uninferred : (x : Instruction) → instruction_is_uninferred x ≡ true → is_none x.effects ≡ true
uninferred x h = (both_true (is_none x.effects) _
    (both_true _ (list_all place_is_uninferred (places_of x.value)) h).0).0

-- an instruction that carried nothing carries what is recorded of it
pub carried : (es : List InstructionEffects) (xs : List Instruction) (i : ℕ) (x : Instruction) → slice_get xs i ≡ Some x
    → instruction_is_uninferred x ≡ true
    → Carries (recorded_instructions es xs) i (effects_for i es)
carried [] xs i x at u = (x, at, none_recorded x.effects (uninferred x u))
carried (e ∷ es) xs i x at u =
    let ys = recorded_instructions es xs in
    put_at ys e.instruction.0 i e.effects (effects_for i es) (slice_get ys e.instruction.0) (e.instruction.0 == i) refl
    refl (carried es xs i x at u)

-- nothing is carried where there is no instruction
still_none : (xs : List Instruction) (j i : ℕ) (w : Instruction → Instruction) (o : Option Instruction) → slice_get xs j
    ≡ o → slice_get xs i ≡ None
    → slice_get (option_map_or (λ (x : Instruction). slice_set xs j (w x)) o xs) i ≡ None
still_none xs j i w None at none = none
still_none xs j i w (Some x) at none =
    set_other xs j i (w x) (λ same. let here : slice_get xs i ≡ Some x = subst (λ k. slice_get xs k ≡ Some x) same at in
    let no : None ≡ Some x = sym none ∙ here in none_some x no) ∙ none
  where
    none_some : (x : Instruction) → ◌≡◌ {A = Option Instruction} None (Some x) → ⊥
    none_some x e = cc

pub not_carried : (es : List InstructionEffects) (xs : List Instruction) (i : ℕ) → slice_get xs i ≡ None
    → slice_get (recorded_instructions es xs) i ≡ None
not_carried [] xs i h = h
not_carried (e ∷ es) xs i h =
    let ys = recorded_instructions es xs in
    still_none ys e.instruction.0 i (λ x. record x { effects = Some e.effects }) (slice_get ys e.instruction.0) refl
    (not_carried es xs i h)

-- ---- terminals

set_value_same : (xs : Blocks) (n : ℕ) (x : BlockId × BasicBlock) (v : BasicBlock) → slice_get xs n ≡ Some x
    → slice_get (set_value_at xs n v) n ≡ Some (x.0, v)
set_value_same [] n x v e = cc
set_value_same (y ∷ ys) zero x v e = let same : y ≡ x = cc in ap (λ (z : BlockId × BasicBlock). Some (z.0, v)) same
set_value_same (y ∷ ys) (suc n) x v e = set_value_same ys n x v e

set_value_other : (xs : Blocks) (m n : ℕ) (v : BasicBlock) → (m ≡ n → ⊥) → slice_get (set_value_at xs m v) n
    ≡ slice_get xs n
set_value_other [] m n v e = refl
set_value_other (y ∷ ys) zero zero v e = absurd (e refl)
set_value_other (y ∷ ys) zero (suc n) v e = refl
set_value_other (y ∷ ys) (suc m) zero v e = refl
set_value_other (y ∷ ys) (suc m) (suc n) v e = set_value_other ys m n v (λ h. e (ap suc h))

set_value_keys : (xs : Blocks) (n : ℕ) (v : BasicBlock) → keys_of (set_value_at xs n v) ≡ keys_of xs
set_value_keys [] n v = refl
set_value_keys (y ∷ ys) zero v = refl
set_value_keys (y ∷ ys) (suc n) v = ap (λ ks. y.0 ∷ ks) (set_value_keys ys n v)

keys_at : (xs : Blocks) (n : ℕ) (es : List AliasingEffect) (o : Option (BlockId × BasicBlock))
    → keys_of (option_map_or (λ (x : BlockId × BasicBlock). set_value_at xs n (block_with x.1 es)) o xs) ≡ keys_of xs
keys_at xs n es None = refl
keys_at xs n es (Some x) = set_value_keys xs n (block_with x.1 es)

keys_put : (xs : Blocks) (es : List AliasingEffect) (o : Option ℕ)
    → keys_of (option_map_or (with_terminal_at es xs) o xs) ≡ keys_of xs
keys_put xs es None = refl
keys_put xs es (Some n) = keys_at xs n es (slice_get xs n)

keys_kept : (es : List TerminalEffects) (xs : Blocks) → keys_of (recorded_terminals es xs) ≡ keys_of xs
keys_kept [] xs = refl
keys_kept (e ∷ es) xs = let ys = recorded_terminals es xs in keys_put ys e.effects (position_in ys e.block)
    ∙ keys_kept es xs

position_kept : (es : List TerminalEffects) (xs : Blocks) (b : BlockId) → position_in (recorded_terminals es xs) b
    ≡ position_in xs b
position_kept es xs b = ap (position (same_block b)) (keys_kept es xs)

-- the entry is of the block at the position
abbrev pub is_of : Blocks → ℕ → TerminalEffects → Bool
is_of bs n e = option_map_or (λ m. m == n) (position_in bs e.block) false

-- the block with what is recorded of its terminal: by the first entry of its position
abbrev pub ends_for : Blocks → ℕ → List TerminalEffects → BasicBlock → BasicBlock
ends_for bs n [] b = b
ends_for bs n (e ∷ es) b = if is_of bs n e then block_with (ends_for bs n es b) e.effects else ends_for bs n es b

end_set : (ys : Blocks) (m n : ℕ) (es : List AliasingEffect) (k : BlockId) (b : BasicBlock)
    (o : Option (BlockId × BasicBlock)) (t : Bool) → slice_get ys m ≡ o → (m == n) ≡ t
    → slice_get ys n ≡ Some (k, b)
    → slice_get (option_map_or (λ (x : BlockId × BasicBlock). set_value_at ys m (block_with x.1 es)) o ys) n
    ≡ Some (k, if t then block_with b es else b)
end_set ys m n es k b None true at same h =
    let here : slice_get ys n ≡ None = subst (λ i. slice_get ys i ≡ None) (eqb-true m n same) at in
    let no : ◌≡◌ {A = Option (BlockId × BasicBlock)} None (Some (k, b)) = sym here ∙ h in
    cc
end_set ys m n es k b (Some x) true at same h =
    let is : m ≡ n = eqb-true m n same in
    let there : slice_get ys n ≡ Some x = subst (λ i. slice_get ys i ≡ Some x) is at in
    let both : x ≡ (k, b) = some_same x (k, b) (sym there ∙ h) in
    subst (λ i. slice_get (set_value_at ys m (block_with x.1 es)) i ≡ Some (x.0, block_with x.1 es)) is
    (set_value_same ys m x (block_with x.1 es) at)
    ∙ ap (λ (z : BlockId × BasicBlock). Some (z.0, block_with z.1 es)) both
end_set ys m n es k b None false at same h = h
end_set ys m n es k b (Some x) false at same h = set_value_other ys m n (block_with x.1 es) (eqb-false m n same) ∙ h

end_put : (ys : Blocks) (n : ℕ) (es : List AliasingEffect) (k : BlockId) (b : BasicBlock) (o : Option ℕ)
    → slice_get ys n ≡ Some (k, b)
    → slice_get (option_map_or (with_terminal_at es ys) o ys) n
    ≡ Some (k, if option_map_or (λ m. m == n) o false then block_with b es else b)
end_put ys n es k b None h = h
end_put ys n es k b (Some m) h = end_set ys m n es k b (slice_get ys m) (m == n) refl refl h

-- the block at a position carries what is recorded of it
pub end_carried : (es : List TerminalEffects) (bs : Blocks) (n : ℕ) (k : BlockId) (b : BasicBlock) → slice_get bs n
    ≡ Some (k, b)
    → slice_get (recorded_terminals es bs) n ≡ Some (k, ends_for bs n es b)
end_carried [] bs n k b h = h
end_carried (e ∷ es) bs n k b h =
    let ys = recorded_terminals es bs in
    end_put ys n e.effects k (ends_for bs n es b) (position_in ys e.block) (end_carried es bs n k b h)
    ∙ ap (λ (o : Option ℕ). Some (
      k,
      if option_map_or (λ m. m == n) o false
          then block_with (ends_for bs n es b) e.effects else ends_for bs n es b,
    )) (position_kept es bs e.block)

-- ---- the value of a name

value_step : (b : BlockId) (e : BlockId × BasicBlock) (es : Blocks) (n : ℕ) (x : BlockId × BasicBlock) (t : Bool)
    (p : Option ℕ) → cond t (Some 0) (option_map suc p) ≡ Some n
    → slice_get (e ∷ es) n ≡ Some x
    → ((m : ℕ) → p ≡ Some m → slice_get es m ≡ Some x → value_at es b ≡ Some x.1) → cond t (Some e.1) (value_at es b)
    ≡ Some x.1
value_step b e es n x true p at h f =
    let is : 0 ≡ n = cc in
    let here : slice_get (e ∷ es) 0 ≡ Some x = subst (λ k. slice_get (e ∷ es) k ≡ Some x) (sym is) h in
    let same : e ≡ x = cc in
    ap (λ (z : BlockId × BasicBlock). Some z.1) same
value_step b e es n x false None at h f = cc
value_step b e es n x false (Some m) at h f =
    let is : suc m ≡ n = cc in
    f m refl (subst (λ k. slice_get (e ∷ es) k ≡ Some x) (sym is) h)

value_by_position : (es : Blocks) (b : BlockId) (n : ℕ) (x : BlockId × BasicBlock) → position_in es b ≡ Some n
    → slice_get es n ≡ Some x → value_at es b ≡ Some x.1
value_by_position [] b n x at h = cc
value_by_position (e ∷ es) b n x at h =
    value_step b e es n x (same_block b e.0) (position_in es b)
    (sym (position_step (same_block b) e.0 (keys_of es)) ∙ at) h (λ m p g. value_by_position es b m x p g)

-- the block of a name whose position it is carries what is recorded of it
pub named_end : (es : List TerminalEffects) (bs : Blocks) (n : ℕ) (b : BlockId × BasicBlock) → slice_get bs n ≡ Some b
    → position_in bs b.0 ≡ Some n
    → value_at (recorded_terminals es bs) b.0 ≡ Some (ends_for bs n es b.1)
named_end es bs n b h at = value_by_position (recorded_terminals es bs) b.0 n (b.0, ends_for bs n es b.1)
    (position_kept es bs b.0 ∙ at) (end_carried es bs n b.0 b.1 h)
