-- All edges of a made unit's function go to later blocks.
use Rattle.std.specs.Prelude.{◌≡◌, ℕ, ◌+◌, ◌<◌, true, false, [], Option, Some, None, slice_get, refl}
use Rattle.std.specs.List.{AllByRecursion}
use Rattle.std.proofs.Common.{ap, sym, ◌∙◌, subst, arith}
use Rattle.alias_base.specs.declared.ids.BlockId.{BlockId}
use Rattle.alias_hir.specs.declared.hir.BasicBlock.{BasicBlock}
use Rattle.alias_hir.specs.declared.hir.HirFunction.{HirFunction}
use Rattle.alias_hir.specs.PositionLaws.{position_is_at}
use Rattle.alias_hir.specs.Positions.{position_in, with_position, edges_at}
use Rattle.alias_completeness.specs.Forward.{GoesForward}
use Rattle.alias_unit_completeness.specs.Refusals.{IsForwardUnit}
use Rattle.alias_made.specs.Blocks.{made_blocks}
use Rattle.alias_made.specs.Units.{made_environment, made_function, made_unit}
use Rattle.alias_made_result_laws.specs.plain.LookupLaws.{Stood, as_block, as_last, stood}

-- the block that stands at a position has its number
number_is : (size n k : ℕ) (x : BasicBlock) → Stood size n (record { 0 = k }, x) → k ≡ n
number_is size n k x (as_block e) = ap (λ (f : BlockId × BasicBlock). f.0.0) e
number_is size n k x (as_last is e) = ap (λ (f : BlockId × BasicBlock). f.0.0) e ∙ sym is

-- the position of the next block is later
next_later : (size m : ℕ) (o : Option ℕ) → position_in (made_blocks size) (record { 0 = m + 1 }) ≡ o
    → AllByRecursion (λ n. m < n) (with_position o [])
next_later size m None h = tt
next_later size m (Some n) h =
    let at = position_is_at (made_blocks size) (record { 0 = m + 1 }) n h in
    let same : m + 1 ≡ n = number_is size n (m + 1) at.0 (stood size n (record { 0 = m + 1 }, at.0) at.1) in
    (omega (arith, same), tt)

edges_later : (size m : ℕ) (e : BlockId × BasicBlock) → Stood size m e
    → AllByRecursion (λ n. m < n) (edges_at (made_blocks size) (Some e))
edges_later size m e (as_block is) = subst
    (λ (f : BlockId × BasicBlock). AllByRecursion (λ n. m < n) (edges_at (made_blocks size) (Some f))) (sym is)
    (next_later size m (position_in (made_blocks size) (record { 0 = m + 1 })) refl)
edges_later size m e (as_last at is) = subst
    (λ (f : BlockId × BasicBlock). AllByRecursion (λ n. m < n) (edges_at (made_blocks size) (Some f))) (sym is) tt

found_later : (size m : ℕ) (o : Option (BlockId × BasicBlock)) → slice_get (made_blocks size) m ≡ o
    → AllByRecursion (λ n. m < n) (edges_at (made_blocks size) o)
found_later size m None h = tt
found_later size m (Some e) h = edges_later size m e (stood size m e h)

function_is_forward : (seed size : ℕ) → GoesForward (made_environment size) (made_function seed size) false
function_is_forward seed size = λ m below. found_later size m (slice_get (made_blocks size) m) refl

no_nested : (seed size k : ℕ) (f : HirFunction) → slice_get (made_environment size).functions k ≡ Some f
    → GoesForward (made_environment size) f true
no_nested seed size k f e = cc

pub made_is_forward : (seed size : ℕ) → IsForwardUnit (made_unit seed size)
made_is_forward seed size = record { root = function_is_forward seed size; nested = no_nested seed size }
