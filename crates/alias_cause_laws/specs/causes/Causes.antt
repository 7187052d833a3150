-- The causes of ranges in what was inferred of a unit.
use Rattle.std.specs.Prelude.{◌≡◌, Option, Ok}
use Rattle.alias_base.specs.declared.ids.FunctionId.{FunctionId}
use Rattle.alias_base.specs.declared.ids.IdentifierId.{IdentifierId}
use Rattle.alias_explain.specs.Explanations.{explained}
use Rattle.alias_explain.specs.declared.cause.Cause.TheVariants.{NoCause}
use Rattle.alias_explain.specs.declared.explain.Explanation.{Explanation}
use Rattle.alias_nested.specs.declared.infer.Inferred.{Inferred}

-- no explanation says that a range ends without a cause
abbrev pub EachHasCause : Inferred → Type 0
EachHasCause i = (function : Option FunctionId) (id : IdentifierId) (e : Explanation) → explained i.unit function id
    ≡ Ok e → e.cause ≡ NoCause → ⊥
