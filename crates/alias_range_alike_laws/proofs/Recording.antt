-- What functions that carry alike record, where no Apply is left and there are positions enough; or they are refused
-- for the same cause.
use Rattle.std.specs.Prelude.{◌≡◌, ℕ, ◌||◌, false, List, [], ◌∷◌, Option, Some, Result, Ok, if◌then◌else◌, slice_get}
use Rattle.std.specs.Prelude.{length, refl}
use Rattle.std.proofs.Common.{ap, sym, ◌∙◌, subst}
use Rattle.std.specs.List.{list_any}
use Rattle.std.specs.Option.{option_map_or}
use Rattle.alias_base.specs.Answer.{◌>>=◌}
use Rattle.alias_base.specs.declared.ids.BlockId.{BlockId}
use Rattle.alias_base.specs.declared.ids.InstructionId.{InstructionId}
use Rattle.alias_hir.specs.declared.effect.AliasingEffect.{AliasingEffect}
use Rattle.alias_hir.specs.declared.error.HirError.{HirError}
use Rattle.alias_hir.specs.declared.error.InferError.{InferError}
use Rattle.alias_hir.specs.declared.hir.BasicBlock.{BasicBlock}
use Rattle.alias_hir.specs.declared.hir.HirFunction.{HirFunction}
use Rattle.alias_hir.specs.declared.hir.Instruction.{Instruction}
use Rattle.alias_hir.specs.Errors.{infer_error}
use Rattle.alias_rules.specs.Fitting.{is_apply}
use Rattle.alias_graph.specs.declared.recorded.listing.Listing.{Listing}
use Rattle.alias_graph.specs.recorded.BlockListings.{listed}
use Rattle.alias_range_pass.specs.summary.Summaries.{tracked}
use Rattle.alias_range_pass.specs.Refusals.{has_apply, carries_apply, first_apply, or_else, first_apply_of, unreplaced}
use Rattle.alias_range_pass.specs.Refusals.{none_unreplaced, listing_or, positions_left, recorded}
use Rattle.alias_certificate_laws.specs.accepting.Alike.{Paired, none, more, Maybe, nothing, just, Alike, apply}
use Rattle.alias_certificate_laws.specs.accepting.Alike.{create_from, immutable_capture, assign, alias, capture}
use Rattle.alias_certificate_laws.specs.accepting.Alike.{maybe_alias, create, freeze, impure, mutate_frozen}
use Rattle.alias_certificate_laws.specs.accepting.Alike.{mutate_global, render, mutate, mutate_conditionally}
use Rattle.alias_certificate_laws.specs.accepting.Alike.{mutate_transitive, mutate_transitive_conditionally}
use Rattle.alias_certificate_laws.specs.accepting.Alike.{create_function, AlikeEffects}
use Rattle.alias_certificate_laws.proofs.accepting.Likeness.{paired_get}
use Rattle.alias_range_alike_laws.specs.Ranging.{CarryAlike, carried, EndAlike, stays, ended}
use Rattle.alias_range_alike_laws.proofs.Answers.{Both, answered, refused, both_then, both_after}
use Rattle.alias_range_alike_laws.proofs.Listings.{AlikeListing, listing, BothListed}
use Rattle.alias_range_alike_laws.proofs.Blocks.{with_parts, listed_alike}

-- ---- an Apply that is left

same_apply : (e f : AliasingEffect) → Alike e f → is_apply f ≡ is_apply e
same_apply e f (apply r s g h x y mutates args others signature span other a) = refl
same_apply e f (create_from a b x y) = refl
same_apply e f (immutable_capture a b x y) = refl
same_apply e f (assign a b x y) = refl
same_apply e f (alias a b x y) = refl
same_apply e f (capture a b x y) = refl
same_apply e f (maybe_alias a b x y) = refl
same_apply e f (create x y k r) = refl
same_apply e f (freeze v w r) = refl
same_apply e f (impure p q d g) = refl
same_apply e f (mutate_frozen p q d g) = refl
same_apply e f (mutate_global p q d g) = refl
same_apply e f (render p q) = refl
same_apply e f (mutate v w r s) = refl
same_apply e f (mutate_conditionally v w) = refl
same_apply e f (mutate_transitive v w) = refl
same_apply e f (mutate_transitive_conditionally v w) = refl
same_apply e f (create_function x y g ps qs a) = refl

same_applies : (es fs : List AliasingEffect) → AlikeEffects es fs → list_any is_apply fs ≡ list_any is_apply es
same_applies es fs none = refl
same_applies es fs (more {a = e} {b = f} {xs = xs} {ys = ys} q rest) =
    ap (λ b. b || list_any is_apply ys) (same_apply e f q) ∙ ap (λ b. is_apply e || b) (same_applies xs ys rest)

same_has : (o p : Option (List AliasingEffect)) → Maybe AlikeEffects o p → has_apply p ≡ has_apply o
same_has o p nothing = refl
same_has o p (just a) = same_applies _ _ a

same_in : (o p : Option Instruction) → Maybe CarryAlike o p
    → option_map_or (λ (i : Instruction). has_apply i.effects) p false
    ≡ option_map_or (λ (i : Instruction). has_apply i.effects) o false
same_in o p nothing = refl
same_in o p (just (carried i effects q)) = same_has i.effects effects q

module _ (xs ys : List Instruction) (carry : Paired CarryAlike xs ys) where
  same_carries : (id : InstructionId) → carries_apply ys id ≡ carries_apply xs id
  same_carries id = same_in (slice_get xs id.0) (slice_get ys id.0) (paired_get id.0 xs ys carry)

  same_first : (ids : List InstructionId) → first_apply ys ids ≡ first_apply xs ids
  same_first [] = refl
  same_first (id ∷ ids) = ap (λ b. if b then Some id else first_apply ys ids) (same_carries id)
      ∙ ap (λ o. if carries_apply xs id then Some id else o) (same_first ids)

  same_block : (x y : BlockId × BasicBlock) → EndAlike x y → first_apply ys y.1.instructions
      ≡ first_apply xs x.1.instructions
  same_block x y (stays b block) = same_first block.instructions
  same_block x y (ended b block effects h) = same_first block.instructions

  same_left : (bs cs : List (BlockId × BasicBlock)) → Paired EndAlike bs cs → first_apply_of ys cs
      ≡ first_apply_of xs bs
  same_left bs cs none = refl
  same_left bs cs (more {a = a} {b = b} {xs = us} {ys = vs} q qs) =
      ap (λ o. or_else o (first_apply_of ys vs)) (same_block a b q)
      ∙ ap (λ o. or_else (first_apply xs a.1.instructions) o) (same_left us vs qs)

-- ---- what is recorded

listed_or : (r s : Result Listing HirError) → BothListed r s → Both AlikeListing (listing_or r) (listing_or s)
listed_or r s (answered q) = answered q
listed_or r s (refused e) = refused (infer_error e)

left_alike : (n : ℕ) (l m : Listing) → AlikeListing l m
    → Both {E = InferError} AlikeListing (positions_left l.next n >>= (λ _. Ok l))
    (positions_left m.next n >>= (λ _. Ok m))
left_alike n l m (listing _ ms rs es a b c) =
    let other : Listing = record l { mutations = ms; renders = rs; summary = es } in
    both_after AlikeListing (positions_left l.next n) (λ _. Ok l) (λ _. Ok other)
    (λ _. answered (listing l ms rs es a b c))

module _ (f : HirFunction) (is : List Instruction) (bs : List (BlockId × BasicBlock))
    (carry : Paired CarryAlike f.instructions is) (ends : Paired EndAlike f.body.blocks bs) where
  abbrev g : HirFunction
  g = with_parts f is bs

  -- behind an Apply that is left
  abbrev rest : HirFunction → Option InstructionId → Result Listing InferError
  rest h o = none_unreplaced o >>= (λ _. listing_or (listed h)
      >>= (λ l. positions_left l.next (length (tracked h)) >>= (λ _. Ok l)))

  rest_alike : Both AlikeListing (rest f (unreplaced f)) (rest g (unreplaced f))
  rest_alike =
      both_after AlikeListing (none_unreplaced (unreplaced f))
      (λ _. listing_or (listed f) >>= (λ l. positions_left l.next (length (tracked f)) >>= (λ _. Ok l)))
      (λ _. listing_or (listed g) >>= (λ l. positions_left l.next (length (tracked f)) >>= (λ _. Ok l)))
      (λ _.
      both_then AlikeListing AlikeListing (listing_or (listed f)) (listing_or (listed g))
      (λ l. positions_left l.next (length (tracked f)) >>= (λ _. Ok l))
      (λ l. positions_left l.next (length (tracked f)) >>= (λ _. Ok l))
      (listed_or (listed f) (listed g) (listed_alike f is bs carry ends))
      (λ l m q. left_alike (length (tracked f)) l m q))

  pub recordings_alike : Both AlikeListing (recorded f) (recorded g)
  recordings_alike = subst (λ o. Both AlikeListing (recorded f) (rest g o))
      (sym (same_left f.instructions is carry f.body.blocks bs ends)) rest_alike
