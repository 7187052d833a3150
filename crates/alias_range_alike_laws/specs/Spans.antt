-- The range pass reads no span of an identifier.
use Rattle.std.specs.Prelude.{◌≡◌, Bool, List, Option, Ok}
use Rattle.alias_hir.specs.declared.env.Environment.{Environment}
use Rattle.alias_hir.specs.declared.env.Identifier.{Identifier}
use Rattle.alias_hir.specs.declared.hir.HirFunction.{HirFunction}
use Rattle.alias_hir.specs.declared.place.Span.{Span}
use Rattle.alias_range_pass.specs.Passes.{Ranged, range_pass}
use Rattle.alias_certificate_laws.specs.accepting.Alike.{Paired}

-- the same identifier with another span
pub data Respanned : Identifier → Identifier → Type 0 where
  respanned : (x : Identifier) (s : Option Span) → Respanned x (record x { span = s })

abbrev pub RangesReadNoSpan : Type 0
RangesReadNoSpan =
    (env : Environment) (is : List Identifier) (f : HirFunction) (b : Bool) (r : Ranged)
    → Paired Respanned env.identifiers is → range_pass b f env ≡ Ok r
    → (js : List Identifier) × Paired Respanned r.after.1.identifiers js
    × (range_pass b f (record env { identifiers = is })
    ≡ Ok (record r { after = (r.after.0, record r.after.1 { identifiers = js }) }))
