-- The explanations of what was inferred of a unit.
use Rattle.std.specs.Prelude.{◌≡◌, Option, Err}
use Rattle.alias_base.specs.declared.ids.FunctionId.{FunctionId}
use Rattle.alias_base.specs.declared.ids.IdentifierId.{IdentifierId}
use Rattle.alias_hir.specs.declared.error.Counter.{Counter}
use Rattle.alias_explain.specs.Explanations.{explained}
use Rattle.alias_explain.specs.declared.explain.ExplainFault.TheVariants.{TooMany}
use Rattle.alias_nested.specs.declared.infer.Inferred.{Inferred}

-- none is refused for want of numbers
abbrev pub NeverTooMany : Inferred → Type 0
NeverTooMany i = (function : Option FunctionId) (id : IdentifierId) (which : Counter) → explained i.unit function id
    ≡ Err (TooMany which) → ⊥
