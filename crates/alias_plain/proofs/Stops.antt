-- A function that isn't gone through to the end ends the unit.
use Rattle.std.proofs.Common.{◌≡◌, ℕ, ◌+◌, ◌<◌, List, [], ◌∷◌, drop, length, get_or, Some, None, ap, sym, ◌∙◌, subst}
use Rattle.std.proofs.Common.{refl}
use Rattle.std.proofs.lemmas.List.{at_drop_more}
use Rattle.std.specs.Prelude.{Option, Result, Ok, Err, IsErrAnd}
use Rattle.std.specs.List.{AllByRecursion}
use Rattle.alias_base.specs.declared.ids.FunctionId.{FunctionId}
use Rattle.alias_hir.specs.declared.env.Environment.{Environment}
use Rattle.alias_hir.specs.declared.env.Unit.{Unit as HirUnit}
use Rattle.alias_hir.specs.declared.hir.HirFunction.{HirFunction}
use Rattle.alias_tables.specs.Tables.{TableLists}
use Rattle.alias_plainness.specs.Calls.{no_tables}
use Rattle.alias_plain.specs.declared.laws.stop.Stop.{Stop}
use Rattle.alias_plain.specs.laws.Answers.{UnitEnd, AllPlain, StopsIn, reports_of, end_in, then_nested, unit_end}
use Rattle.alias_plain.specs.laws.RuleFacts.{Looks}
use Rattle.alias_plain.specs.laws.Scopes.{scope_of}
use Rattle.alias_plain.specs.laws.Scans.{scan_function}
use Rattle.alias_plain.specs.declared.plain.StoppedIn.{StoppedIn}
use Rattle.alias_plain.specs.Ends.{EndsAs, EntriesExist}

-- functions behind a stop change nothing
stopped_stays : (env : Environment) (k : ℕ) (fs : List HirFunction) (g : Option FunctionId) (s : Stop)
    → then_nested env k fs (StopsIn g s) ≡ StopsIn g s
stopped_stays env k [] g s = refl
stopped_stays env k (f ∷ fs) g s = stopped_stays env (k + 1) fs g s

-- a stop in the k-th function is that of all
pub stops_here : (env : Environment) (fs : List HirFunction) (n k : ℕ) (f : HirFunction) (t : TableLists)
    (e : StoppedIn) (q : Result TableLists StoppedIn) (all : UnitEnd)
    → k < length fs → f ≡ get_or fs k f → EndsAs
    (end_in (Some (record { 0 = n })) (scan_function (scope_of f env) (reports_of t))) (Err e)
    → then_nested env n (drop k fs) (AllPlain t) ≡ all
    → IsErrAnd q (λ z. z ≡ e) → EndsAs all q
stops_here env fs n k f t e (Ok u) all there here stops left is = absurd is
stops_here env fs n k f t e (Err z) all there here stops left is =
    subst (λ (y : StoppedIn). EndsAs all (Err y)) (sym is) (λ no.
    sym left
    ∙ at_drop_more (λ gs. then_nested env n gs (AllPlain t)) fs k f there
    ∙ ap (λ g. then_nested env n (g ∷ drop (k + 1) fs) (AllPlain t)) (sym here)
    ∙ ap (then_nested env (n + 1) (drop (k + 1) fs)) (stops no)
    ∙ stopped_stays env (n + 1) (drop (k + 1) fs) e.function e.stop)

-- a stop in the root is that of the unit
pub root_stops : (u : HirUnit) (t : TableLists) (e : StoppedIn) (q : Result TableLists StoppedIn) → t ≡ no_tables
    → EndsAs (end_in None (scan_function (scope_of u.function u.env) (reports_of t))) (Err e) → IsErrAnd q (λ z. z ≡ e)
    → EndsAs (unit_end u) q
root_stops u t e (Ok x) same stops is = absurd is
root_stops u t e (Err z) same stops is =
    subst (λ (y : StoppedIn). EndsAs (unit_end u) (Err y)) (sym is) (λ no.
    ap (λ (x : TableLists). then_nested u.env 0 u.env.functions
    (end_in None (scan_function (scope_of u.function u.env) (reports_of x)))) (sym same)
    ∙ ap (then_nested u.env 0 u.env.functions) (stops no)
    ∙ stopped_stays u.env 0 u.env.functions e.function e.stop)

pub entries_exist : (env : Environment) (fs : List HirFunction) → AllByRecursion (λ (f : HirFunction). Looks f env) fs
    → EntriesExist fs
entries_exist env [] h = tt
entries_exist env (f ∷ fs) h = (h.0.entry, entries_exist env fs h.1)
