-- What is asked of the functions below a function.
use Rattle.std.specs.Prelude.{◌≡◌, ℕ, true, List, [], Some, slice_get}
use Rattle.std.specs.Option.{option_map_or}
use Rattle.alias_hir.specs.declared.effect.AliasingEffect.{AliasingEffect}
use Rattle.alias_hir.specs.declared.env.Environment.{Environment}
use Rattle.alias_hir.specs.declared.hir.HirFunction.{HirFunction}
use Rattle.alias_rules.specs.Nesting.{tree_below}
use Rattle.alias_rules.specs.function_rules.Rules.{is_among}
use Rattle.alias_completeness.specs.Callable.{IsSummary}

-- the numbers of the functions on all levels below it
abbrev pub numbers_below : Environment → HirFunction → List ℕ
numbers_below env func = option_map_or (λ (ks : List ℕ). ks) (tree_below env func) []

-- each of these functions has the property
abbrev pub EachBelow : (HirFunction → Type 0) → Environment → HirFunction → Type 0
EachBelow P env func = (k : ℕ) (f : HirFunction) → is_among (numbers_below env func) k ≡ true
    → slice_get env.functions k ≡ Some f → P f

-- the summary of the function, if it has one, is in order: reports, then writes, then what is returned, then flows
abbrev pub SummaryIsInOrder : HirFunction → Type 0
SummaryIsInOrder f = (es : List AliasingEffect) → f.aliasing_effects ≡ Some es → IsSummary f.returns.identifier.0 es
