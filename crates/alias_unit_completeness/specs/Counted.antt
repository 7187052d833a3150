-- What the effects of a function record is refused for want of positions alone, and never for lack of memory.
use Rattle.std.specs.Prelude.{ℕ, ◌+◌, Bool, true, false, List, [], ◌∷◌, Option, Some, None, Result, Ok, Err, ⊤}
use Rattle.std.specs.Prelude.{if◌then◌else◌, nat_lt, slice_get}
use Rattle.alias_base.specs.Answer.{◌>>=◌}
use Rattle.alias_base.specs.declared.ids.BlockId.{BlockId}
use Rattle.alias_base.specs.declared.ids.EvaluationOrder.{EvaluationOrder}
use Rattle.alias_base.specs.declared.ids.InstructionId.{InstructionId}
use Rattle.alias_hir.specs.Terminals.{terminal_effects}
use Rattle.alias_hir.specs.declared.effect.AliasingEffect.{AliasingEffect}
use Rattle.alias_hir.specs.declared.effect.AliasingEffect.TheVariants as effect
use Rattle.alias_hir.specs.declared.error.Counter.TheVariants.{GraphPositions}
use Rattle.alias_hir.specs.declared.error.HirError.{HirError}
use Rattle.alias_hir.specs.declared.error.HirError.TheVariants as hir
use Rattle.alias_hir.specs.declared.hir.BasicBlock.{BasicBlock}
use Rattle.alias_hir.specs.declared.hir.HirFunction.{HirFunction}
use Rattle.alias_hir.specs.declared.hir.Instruction.{Instruction}
use Rattle.alias_hir.specs.declared.hir.Phi.{Phi}
use Rattle.alias_hir.specs.declared.place.Place.{Place}
use Rattle.alias_hir.specs.declared.terminal.Terminal.{Terminal}
use Rattle.alias_hir.specs.declared.terminal.Terminal.TheVariants as terminal
use Rattle.alias_graph.specs.declared.types.NodeValue.TheVariants.{Phi as PhiNode}
use Rattle.alias_graph.specs.recorded.BlockListings.{operand_listed, phi_listed, returns_listed, alias_listed}
use Rattle.alias_graph.specs.recorded.BlockListings.{aliases_in, with_pending, end_listed, block_listed, blocks_listed}
use Rattle.alias_graph.specs.recorded.BlockListings.{first_listing, listed}
use Rattle.alias_graph.specs.recorded.Each.{each}
use Rattle.alias_graph.specs.recorded.Listings.{position_after, made, made_once, effect_listed, effects_in, recorded_in}
use Rattle.alias_graph.specs.recorded.Listings.{instruction_listed}
use Rattle.alias_graph.specs.declared.recorded.listing.Listing.{Listing}

-- where it is refused, a counter is at its last value
abbrev pub IsCounted : {A : Type 0} → Result A HirError → Type 0
IsCounted (Ok x) = Unit {0}
IsCounted (Err (hir.TooMany which)) = Unit {0}
IsCounted (Err (hir.Memory e)) = ⊥

counted_then : {A B : Type 0} (r : Result A HirError) (g : A → Result B HirError) → IsCounted r
    → ((x : A) → IsCounted (g x)) → IsCounted (r >>= g)
counted_then (Ok x) g h k = k x
counted_then (Err (hir.TooMany which)) g h k = tt
counted_then (Err (hir.Memory e)) g h k = absurd h

counted_each : {X S : Type 0} (f : X → S → Result S HirError) → ((x : X) (s : S) → IsCounted (f x s))
    → (xs : List X) (s : S) → IsCounted (each f xs s)
counted_each f h [] s = tt
counted_each f h (x ∷ xs) s = counted_then (f x s) (λ t. each f xs t) (h x s) (λ t. counted_each f h xs t)

position_if : (n : ℕ) (b : Bool) → (let r : Result ℕ HirError = if b then Ok (n + 1)
    else Err (hir.TooMany GraphPositions) in IsCounted r)
position_if n true = tt
position_if n false = tt

position_counted : (n : ℕ) → IsCounted (position_after n)
position_counted n = position_if n (nat_lt n 4294967295)

-- at the next position, whatever is recorded there
at_position : (n : ℕ) (g : ℕ → Result Listing HirError) → ((m : ℕ) → IsCounted (g m))
    → IsCounted (position_after n >>= g)
at_position n g h = counted_then (position_after n) g (position_counted n) h

-- ---- instructions

effect_counted : (i : InstructionId) (o : EvaluationOrder) (e : AliasingEffect) (l : Listing)
    → IsCounted (effect_listed i o e l)
effect_counted i o (effect.CreateFrom a x) l = at_position l.next _ (λ n. tt)
effect_counted i o (effect.Assign a x) l = at_position (made_once x l).next _ (λ n. tt)
effect_counted i o (effect.Alias a x) l = at_position l.next _ (λ n. tt)
effect_counted i o (effect.Capture a x) l = at_position l.next _ (λ n. tt)
effect_counted i o (effect.MaybeAlias a x) l = at_position l.next _ (λ n. tt)
effect_counted i o (effect.Render x) l = at_position l.next _ (λ n. tt)
effect_counted i o (effect.Mutate x reason) l = at_position l.next _ (λ n. tt)
effect_counted i o (effect.MutateConditionally x) l = at_position l.next _ (λ n. tt)
effect_counted i o (effect.MutateTransitive x) l = at_position l.next _ (λ n. tt)
effect_counted i o (effect.MutateTransitiveConditionally x) l = at_position l.next _ (λ n. tt)
effect_counted i o e l = tt

effects_counted : (i : InstructionId) (o : EvaluationOrder) (es : Option (List AliasingEffect)) (l : Listing)
    → IsCounted (effects_in i o es l)
effects_counted i o None l = tt
effects_counted i o (Some es) l = counted_each (effect_listed i o) (effect_counted i o) es l

recorded_counted : (i : InstructionId) (o : Option Instruction) (l : Listing) → IsCounted (recorded_in i o l)
recorded_counted i None l = tt
recorded_counted i (Some n) l = effects_counted i n.id n.effects l

-- ---- blocks

phi_counted : (blocks : List (BlockId × BasicBlock)) (k : ℕ) (phi : Phi) (l : Listing)
    → IsCounted (phi_listed blocks k phi l)
phi_counted blocks k phi l = counted_each (operand_listed blocks k phi.place) (λ e m. at_position m.next _ (λ n. tt))
    phi.operands (made PhiNode phi.place l)

returns_counted : (returns : Place) (t : Terminal) (l : Listing) → IsCounted (returns_listed returns t l)
returns_counted returns (terminal.Return id value effects) l = at_position l.next _ (λ n. tt)
returns_counted returns t l = tt

alias_counted : (e : AliasingEffect) (l : Listing) → IsCounted (alias_listed e l)
alias_counted (effect.Alias a x) l = at_position l.next _ (λ n. tt)
alias_counted e l = tt

aliases_counted : (es : Option (List AliasingEffect)) (l : Listing) → IsCounted (aliases_in es l)
aliases_counted None l = tt
aliases_counted (Some es) l = counted_each alias_listed alias_counted es l

end_counted : (returns : Place) (k : ℕ) (t : Terminal) (l : Listing) → IsCounted (end_listed returns k t l)
end_counted returns k t l = counted_then (returns_listed returns t (with_pending k l)) (aliases_in (terminal_effects t))
    (returns_counted returns t (with_pending k l)) (aliases_counted (terminal_effects t))

block_counted : (f : HirFunction) (k : ℕ) (b : BasicBlock) (l : Listing) → IsCounted (block_listed f k b l)
block_counted f k b l =
    counted_then (each (phi_listed f.body.blocks k) b.phis l) _
    (counted_each (phi_listed f.body.blocks k) (phi_counted f.body.blocks k) b.phis l) (λ p.
    counted_then (each (instruction_listed f.instructions) b.instructions p) (end_listed f.returns k b.terminal)
    (counted_each (instruction_listed f.instructions) (λ i m. recorded_counted i (slice_get f.instructions i.0) m)
    b.instructions p) (end_counted f.returns k b.terminal))

blocks_counted : (f : HirFunction) (k : ℕ) (bs : List (BlockId × BasicBlock)) (l : Listing)
    → IsCounted (blocks_listed f k bs l)
blocks_counted f k [] l = tt
blocks_counted f k (b ∷ bs) l = counted_then (block_listed f k b.1 l) (blocks_listed f (k + 1) bs)
    (block_counted f k b.1 l) (blocks_counted f (k + 1) bs)

-- what the function's effects record
pub listed_counted : (f : HirFunction) → IsCounted (listed f)
listed_counted f = blocks_counted f 0 f.body.blocks (first_listing f)
