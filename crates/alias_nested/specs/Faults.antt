-- Which pass of the caller a fault names, and which function.
use Rattle.std.specs.Prelude.{◌≡◌, ◌⊎◌, true, List, Some, ⊤, slice_get}
use Rattle.alias_base.specs.declared.ids.FunctionId.{FunctionId}
use Rattle.alias_hir.specs.declared.env.Environment.{Environment}
use Rattle.alias_hir.specs.declared.error.InferError.{InferError}
use Rattle.alias_hir.specs.declared.error.InferError.TheVariants.{PassFault}
use Rattle.alias_hir.specs.declared.error.Pass.{Pass}
use Rattle.alias_hir.specs.declared.hir.HirFunction.{HirFunction}
use Rattle.alias_rules.specs.function_rules.Rules.{is_among}
use Rattle.alias_nested.specs.Order.{numbers, refused_function}

-- whether the last fault of the passes was one of this pass, which left this function
abbrev pub LastFault : Type 1
LastFault = Pass → HirFunction → Type 0

-- A fault names the pass that failed last, and the number of the function that it failed on: in the slot of that number
-- stands what the pass left.
abbrev pub IsNamedFault : LastFault → Environment → InferError → Type 0
IsNamedFault last env (PassFault function pass) = (id : FunctionId) × (function ≡ Some id)
    × (f : HirFunction) × (slice_get env.functions id.0 ≡ Some f) × last pass f
IsNamedFault last env e = ⊤

-- a fault names the pass that failed last, and the function of this number, which is out of its slot
abbrev pub IsFaultOf : LastFault → FunctionId → HirFunction → InferError → Type 0
IsFaultOf last id f (PassFault function pass) = (function ≡ Some id) × last pass f
IsFaultOf last id f e = ⊤

-- a fault names the function of the number, which is out of its slot, or one of those below it, which stands in its own
abbrev pub IsFaultWithin : LastFault → List FunctionId → FunctionId → HirFunction → Environment → InferError → Type 0
IsFaultWithin last below id f env e = IsFaultOf last id f e ⊎ ((other : FunctionId) × (refused_function e ≡ Some other)
    × (is_among (numbers below) other.0 ≡ true) × IsNamedFault last env e)

-- a fault names the pass that failed last, whichever function it failed on
abbrev pub NamesItsPass : LastFault → InferError → Type 0
NamesItsPass last (PassFault function pass) = (f : HirFunction) × last pass f
NamesItsPass last e = ⊤
