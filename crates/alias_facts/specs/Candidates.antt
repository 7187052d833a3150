-- The values that are known to be frozen, and the spreads of patterns that nothing has written so far.
use Rattle.std.specs.Prelude.{ℕ, Bool, cond, nat_eq, List, [], Option, None, Some, take}
use Rattle.std.specs.List.{fold}
use Rattle.alias_base.specs.declared.ids.IdentifierId.{IdentifierId}
use Rattle.alias_hir.specs.declared.hir.FunctionType.{FunctionType}
use Rattle.alias_hir.specs.declared.hir.FunctionType.TheVariants.{Component}
use Rattle.alias_hir.specs.declared.hir.HirFunction.{HirFunction}
use Rattle.alias_hir.specs.declared.hir.ParamPattern.{ParamPattern}
use Rattle.alias_hir.specs.declared.hir.ParamPattern.TheVariants as param
use Rattle.alias_hir.specs.declared.place.Place.{Place}
use Rattle.alias_hir.specs.declared.value.ObjectPropertyOrSpread.{ObjectPropertyOrSpread}
use Rattle.alias_hir.specs.declared.value.ObjectPropertyOrSpread.TheVariants as property
use Rattle.alias_facts.specs.declared.candidates.Candidates.{Candidates}
use Rattle.alias_facts.specs.Numbers.{value_of, with_value, without, has, with_number}

-- the value is known to be frozen
abbrev pub with_frozen : Candidates → IdentifierId → Candidates
with_frozen c id = record c { frozen = with_number c.frozen id.0 }

-- the identifier stands for the spread
abbrev pub with_spread : Candidates → IdentifierId → ℕ → Candidates
with_spread c id s = record c { spreads = with_value c.spreads id.0 s }

abbrev pub is_frozen : Candidates → IdentifierId → Bool
is_frozen c id = has c.frozen id.0

-- the spread that the identifier stands for
abbrev pub spread_of : Candidates → IdentifierId → Option ℕ
spread_of c id = value_of c.spreads id.0

abbrev pub without_spread : Candidates → Option ℕ → Candidates
without_spread c None = c
without_spread c (Some s) = record c { spreads = without c.spreads s }

-- after a place is used in a way that may write it: the spread that it stands for is taken out
unfoldable pub after_use : Candidates → Place → Candidates
after_use c p = without_spread c (spread_of c p.identifier)

-- ---- the parameters

abbrev pub after_param : Candidates → ParamPattern → Candidates
after_param c (param.Place p) = with_frozen c p.identifier
after_param c (param.Spread s) = c

-- the parameters that are frozen: of a component the first alone
abbrev pub frozen_params : FunctionType → List ParamPattern → List ParamPattern
frozen_params Component ps = take 1 ps
frozen_params t ps = ps

-- nothing is a candidate at first
abbrev pub first_candidates : HirFunction → Candidates
first_candidates func = fold after_param (record { frozen = []; spreads = [] }) (frozen_params func.fn_type func.params)

-- ---- patterns

-- a spread of a pattern stands for itself
abbrev pub after_property : Candidates → ObjectPropertyOrSpread → Candidates
after_property c (property.Property p) = c
after_property c (property.Spread s) = with_spread c s.place.identifier s.place.identifier.0

-- ---- what is left

-- the identifiers that stand for themselves
abbrev pub with_self : List ℕ → ℕ × ℕ → List ℕ
with_self xs e = cond (nat_eq e.0 e.1) (with_number xs e.0) xs

abbrev pub selves : Candidates → List ℕ
selves c = fold with_self [] c.spreads
