-- Entry states by positions, and by blocks.
use Rattle.std.specs.Prelude.{◌≡◌, ℕ, zero, suc, Bool, true, false, cond, List, [], ◌∷◌, ◌++◌, length, map, Option}
use Rattle.std.specs.Prelude.{Some, None, option_map, slice_get, slice_index_or, refl}
use Rattle.std.proofs.Common.{sym, ◌∙◌, ap, subst, inl, inr}
use Rattle.std.specs.Map.{keys_of}
use Rattle.std.specs.List.{flat_map, AllByRecursion, IsDistinct}
use Rattle.alias_base.specs.Find.{same_block}
use Rattle.alias_base.specs.declared.ids.BlockId.{BlockId}
use Rattle.alias_hir.specs.declared.hir.BasicBlock.{BasicBlock}
use Rattle.alias_lattice.specs.States.{State}
use Rattle.alias_effects.specs.declared.solved.BlockEntry.{BlockEntry}
use Rattle.alias_step.specs.declared.block.recorded.BlockEffects.{BlockEffects}
use Rattle.alias_effects.specs.Inference.{entries_of}
use Rattle.alias_flow.specs.Solutions.{entry_at}
use Rattle.alias_effects.specs.Solutions.{entry_state, IsSubsequence}
use Rattle.alias_hir.specs.PositionLaws.{same_is, same_self, apart_at, other_way}
use Rattle.alias_hir.specs.Positions.{Blocks}

-- a block that isn't there has no entry state
absent : (es : Blocks) (xs : List (Option State)) (k : BlockId)
    → AllByRecursion (λ y. same_block k y ≡ false) (keys_of es) → entry_state (entries_of es xs) k ≡ None
absent [] xs k a = refl
absent (e ∷ es) [] k a = refl
absent (e ∷ es) (None ∷ xs) k a = absent es xs k a.1
absent (e ∷ es) (Some s ∷ xs) k a = ap (λ t. cond t (Some s) (entry_state (entries_of es xs) k)) a.0
    ∙ absent es xs k a.1

-- the entry state of a block is that at its position
pub entered : (es : Blocks) (xs : List (Option State)) (n : ℕ) (b : BlockId) (x : BasicBlock)
    → IsDistinct same_block (keys_of es) → slice_get es n ≡ Some (b, x) → entry_state (entries_of es xs) b
    ≡ entry_at xs n
unfolding IsDistinct
entered [] xs n b x d h = cc
entered (e ∷ es) [] n b x d h = refl
entered (e ∷ es) (None ∷ xs) zero b x d h = let same : e.0 ≡ b = cc in
    subst (λ k. entry_state (entries_of es xs) k ≡ None) same (absent es xs e.0 d.0)
entered (e ∷ es) (None ∷ xs) (suc n) b x d h = entered es xs n b x d.1 h
entered (e ∷ es) (Some s ∷ xs) zero b x d h =
    let same : e.0 ≡ b = cc in
    ap (λ t. cond t (Some s) (entry_state (entries_of es xs) b))
    (subst (λ k. same_block b k ≡ true) (sym same) (same_self b))
entered (e ∷ es) (Some s ∷ xs) (suc n) b x d h =
    ap (λ t. cond t (Some s) (entry_state (entries_of es xs) b)) (other_way e.0 b (apart_at e.0 es n b x d.0 h))
    ∙ entered es xs n b x d.1 h

-- the block is at a position with that entry state
pub record EnteredAt (es : Blocks) (xs : List (Option State)) (b : BlockId) (s : State) : Type 0 where
  pub at : ℕ
  pub block : BasicBlock
  pub at_index : slice_get es at ≡ Some (b, block)
  pub state : entry_at xs at ≡ Some s

entered_later : (e : BlockId × BasicBlock) (o : Option State) (es : Blocks) (xs : List (Option State)) (b : BlockId)
    (s : State) → EnteredAt es xs b s → EnteredAt (e ∷ es) (o ∷ xs) b s
entered_later e o es xs b s r = record { at = suc r.at; block = r.block; at_index = r.at_index; state = r.state }

entered_first : (e : BlockId × BasicBlock) (x : State) (es : Blocks) (xs : List (Option State)) (b : BlockId)
    (s : State) (t : Bool) → same_block b e.0 ≡ t → cond t (Some x) (entry_state (entries_of es xs) b) ≡ Some s
    → (entry_state (entries_of es xs) b ≡ Some s → EnteredAt es xs b s) → EnteredAt (e ∷ es) (Some x ∷ xs) b s
entered_first e x es xs b s true q h f =
    record { at = 0; block = e.1; at_index = ap (λ k. Some (k, e.1)) (sym (same_is b e.0 q)); state = h }
entered_first e x es xs b s false q h f = entered_later e (Some x) es xs b s (f h)

pub has_entered : (es : Blocks) (xs : List (Option State)) (b : BlockId) (s : State) → entry_state (entries_of es xs) b
    ≡ Some s → EnteredAt es xs b s
has_entered [] xs b s h = cc
has_entered (e ∷ es) [] b s h = cc
has_entered (e ∷ es) (None ∷ xs) b s h = entered_later e None es xs b s (has_entered es xs b s h)
has_entered (e ∷ es) (Some x ∷ xs) b s h = entered_first e x es xs b s (same_block b e.0) refl h (has_entered es xs b s)

passed_over : {A : Type 0} (xs ys : List A) (y : A) → IsSubsequence xs ys → IsSubsequence xs (y ∷ ys)
passed_over [] ys y h = tt
passed_over (x ∷ xs) ys y h = inr h

-- entry states stand in the stored order of their blocks
pub entries_in_order : (es : Blocks) (xs : List (Option State))
    → IsSubsequence (map (λ (e : BlockEntry). e.block) (entries_of es xs)) (keys_of es)
entries_in_order [] xs = tt
entries_in_order (e ∷ es) [] = tt
entries_in_order (e ∷ es) (None ∷ xs) = passed_over (map (λ (e : BlockEntry). e.block) (entries_of es xs)) (keys_of es)
    e.0 (entries_in_order es xs)
entries_in_order (e ∷ es) (Some x ∷ xs) = inl (refl, entries_in_order es xs)

-- what is recorded of a block is what its entry records
abbrev pub KeepsRecorded : (BlockEntry → BlockEffects) → Blocks → List (Option State) → List (Option BlockEffects)
    → Type 0
KeepsRecorded from_entry es xs recorded =
    (n : ℕ) (b : BlockId × BasicBlock) → slice_get es n ≡ Some b → slice_index_or recorded n None
    ≡ option_map (λ s. from_entry (record { block = b.0; state = s })) (entry_at xs n)

module _ {A : Type 0} (of : BlockEffects → List A) (of_recorded : Option BlockEffects → List A)
    (none : of_recorded None ≡ []) (some : (r : BlockEffects) → of_recorded (Some r) ≡ of r)
    (from_entry : BlockEntry → BlockEffects) where
  one_recorded : (k : Option BlockEffects) (ks : List (Option BlockEffects)) (o : Option BlockEffects) (rest : List A)
      → k ≡ o → flat_map of_recorded ks ≡ rest → flat_map of_recorded (k ∷ ks) ≡ of_recorded o ++ rest
  one_recorded k ks o rest e r = ap (λ z. of_recorded z ++ flat_map of_recorded ks) e ∙ ap (λ z. of_recorded o ++ z) r

  -- what was recorded of the blocks in order is what their entries record
  pub recorded_over : (es : Blocks) (xs : List (Option State)) (recorded : List (Option BlockEffects)) → length xs
      ≡ length es → length recorded ≡ length es → KeepsRecorded from_entry es xs recorded
      → flat_map of_recorded recorded ≡ flat_map (λ (e : BlockEntry). of (from_entry e)) (entries_of es xs)
  recorded_over [] [] [] l m h = refl
  recorded_over [] [] (k ∷ ks) l m h = cc
  recorded_over [] (x ∷ xs) ks l m h = cc
  recorded_over (e ∷ es) [] ks l m h = cc
  recorded_over (e ∷ es) (x ∷ xs) [] l m h = cc
  recorded_over (e ∷ es) (None ∷ xs) (k ∷ ks) l m h =
      one_recorded k ks None (flat_map (λ (e : BlockEntry). of (from_entry e)) (entries_of es xs)) (h 0 e refl)
      (recorded_over es xs ks (cc) (cc) (λ n. h (suc n)))
      ∙ ap (λ z. z ++ flat_map (λ (e : BlockEntry). of (from_entry e)) (entries_of es xs)) none
  recorded_over (e ∷ es) (Some s ∷ xs) (k ∷ ks) l m h =
      let r = from_entry (record { block = e.0; state = s }) in
      one_recorded k ks (Some r) (flat_map (λ (e : BlockEntry). of (from_entry e)) (entries_of es xs)) (h 0 e refl)
      (recorded_over es xs ks (cc) (cc) (λ n. h (suc n)))
      ∙ ap (λ z. z ++ flat_map (λ (e : BlockEntry). of (from_entry e)) (entries_of es xs)) (some r)
