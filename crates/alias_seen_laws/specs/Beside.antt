-- An environment beside another one: it declares the same, and has some of its functions, and ranges for their
-- parameters like those there; other functions, ranges and reports may be other ones.
use Rattle.std.specs.Prelude.{◌≡◌, List, None, Some, map, slice_get}
use Rattle.std.specs.List.{AllByRecursion}
use Rattle.alias_base.specs.declared.ids.FunctionId.{FunctionId}
use Rattle.alias_hir.specs.Parts.{param_place}
use Rattle.alias_hir.specs.declared.env.Environment.{Environment}
use Rattle.alias_hir.specs.declared.env.Identifier.{Identifier}
use Rattle.alias_hir.specs.declared.hir.HirFunction.{HirFunction}
use Rattle.alias_hir.specs.declared.hir.ParamPattern.{ParamPattern}
use Rattle.alias_hir.specs.declared.report.Interned.{Interned}
use Rattle.alias_hir.specs.declared.report.Report.{Report}
use Rattle.alias_calls.specs.Immutable.{is_long_in}

-- what an environment may have elsewhere
pub record Others : Type 0 where
  pub identifiers : List Identifier
  pub functions : List HirFunction
  pub errors : List Report
  pub interned : List Interned

abbrev pub with_others : Environment → Others → Environment
with_others env o = record env {
  identifiers = o.identifiers;
  functions = o.functions;
  errors = o.errors;
  interned = o.interned;
}

-- all of an identifier but its range and its scope
abbrev pub but_range : Identifier → Identifier
but_range i = record i { mutable_range = record { start = record { 0 = 0 }; end = record { 0 = 0 } }; scope = None }

-- identifiers are the same but for ranges and scopes
abbrev pub DeclareSame : Environment → Others → Type 0
DeclareSame env o = map but_range o.identifiers ≡ map but_range env.identifiers

-- So are all identifiers, and the functions with F are the same; a parameter of one of these is written in it beside as
-- it is here: its range ends above its start + 1 in both, or in neither.
pub record HasSame (F : FunctionId → Type 0) (env : Environment) (o : Others) : Type 0 where
  pub declares : DeclareSame env o
  pub functions : (f : FunctionId) → F f → slice_get o.functions f.0 ≡ slice_get env.functions f.0
  pub params : (f : FunctionId) → F f → (g : HirFunction) → slice_get env.functions f.0 ≡ Some g
      → AllByRecursion (λ (p : ParamPattern).
      is_long_in (slice_get o.identifiers (param_place p).identifier.0)
      ≡ is_long_in (slice_get env.identifiers (param_place p).identifier.0)) g.params
