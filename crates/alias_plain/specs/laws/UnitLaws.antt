-- What is answered of a unit, and what it says by paths.
use Rattle.std.specs.Prelude.{◌≡◌, ℕ, ◌+◌, ◌<◌, List, [], ◌∷◌, length, Option, Some, None, Result, Ok, Err, ⊤}
use Rattle.std.specs.Prelude.{slice_get, refl}
use Rattle.std.specs.List.{AllByRecursion}
use Rattle.std.proofs.Common.{zero, suc, ap, sym, ◌∙◌, subst, arith}
use Rattle.alias_base.specs.Answer.{Gives}
use Rattle.alias_base.specs.declared.ids.FunctionId.{FunctionId}
use Rattle.alias_base.specs.declared.ids.InstructionId.{InstructionId}
use Rattle.alias_hir.specs.declared.env.Environment.{Environment}
use Rattle.alias_hir.specs.declared.env.Unit.{Unit as HirUnit}
use Rattle.alias_hir.specs.declared.hir.HirFunction.{HirFunction}
use Rattle.alias_rules.specs.Functions.{rules_hold}
use Rattle.alias_tables.specs.Tables.{TableLists}
use Rattle.alias_plainness.specs.Calls.{no_tables}
use Rattle.alias_plainness.specs.Plainness.{IsPlain, BreaksFirst, IsPlainUnit, function_at, ComesBefore, IsFirstOf}
use Rattle.alias_plain.specs.declared.laws.stop.Stop.{Stop}
use Rattle.alias_plain.specs.declared.laws.stop.Stop.TheVariants as stop
use Rattle.alias_plain.specs.declared.laws.answer.Plainness.{Plainness}
use Rattle.alias_plain.specs.declared.laws.answer.Plainness.TheVariants.{Plain, NotPlain}
use Rattle.alias_plain.specs.declared.laws.answer.PlainFault.{PlainFault}
use Rattle.alias_plain.specs.declared.laws.answer.PlainFault.TheVariants as fault
use Rattle.alias_plain.specs.laws.Answers.{UnitEnd, AllPlain, StopsIn, reports_of, end_in, then_function, then_nested}
use Rattle.alias_plain.specs.laws.Answers.{unit_end, answer_of, is_fault_memory}
use Rattle.alias_plain.specs.laws.FunctionLaws.{NamesDiffer, function_is_plain, function_breaks_first}
use Rattle.alias_plain.specs.laws.RuleFacts.{Looks, root_looks, nested_looks}
use Rattle.alias_plain.specs.laws.Scans.{scan_function}
use Rattle.alias_plain.specs.laws.Scopes.{scope_of}
use Rattle.alias_plain.specs.laws.SettleLaws.{NeverSettles, function_never_settles}

-- ---- functions one after the other

-- a function was gone through from some tables
record IsThrough (func : HirFunction) (env : Environment) : Type 0 where
  tables : TableLists
  left : ⊤ × TableLists
  is : scan_function (scope_of func env) tables ≡ Ok left

record IsStopped (func : HirFunction) (env : Environment) (s : Stop) : Type 0 where
  tables : TableLists
  is : scan_function (scope_of func env) tables ≡ Err s

-- what the end of a function says of it
data OneEnd (f : Option FunctionId) (func : HirFunction) (env : Environment) (e : UnitEnd) : Type 0 where
  Through : (t : TableLists) → e ≡ AllPlain t → IsThrough func env → OneEnd f func env e
  StopsHere : (s : Stop) → e ≡ StopsIn f s → IsStopped func env s → OneEnd f func env e

end_case : (f : Option FunctionId) (func : HirFunction) (env : Environment) (t : TableLists)
    (r : Result (⊤ × TableLists) Stop) → scan_function (scope_of func env) t ≡ r → OneEnd f func env (end_in f r)
end_case f func env t (Ok p) h = Through p.1 refl (record { tables = t; left = p; is = h })
end_case f func env t (Err s) h = StopsHere s refl (record { tables = t; is = h })

one_end : (f : Option FunctionId) (func : HirFunction) (env : Environment) (t : TableLists)
    → OneEnd f func env (then_function (AllPlain t) f func env)
one_end f func env t = end_case f func env (reports_of t) (scan_function (scope_of func env) (reports_of t)) refl

module _ (env : Environment) where
  -- those before the position were gone through
  abbrev AreThrough : List HirFunction → ℕ → Type 0
  AreThrough fs n = (j : ℕ) (g : HirFunction) → j < n → slice_get fs j ≡ Some g → IsThrough g env

  record StopsAt (k : ℕ) (fs : List HirFunction) (f : Option FunctionId) (s : Stop) : Type 0 where
    position : ℕ
    func : HirFunction
    at : slice_get fs position ≡ Some func
    number : f ≡ Some (record { 0 = k + position })
    stopped : IsStopped func env s
    before : AreThrough fs position

  -- how the nested functions of a list end
  data ListEnd (k : ℕ) (fs : List HirFunction) (e : UnitEnd) : Type 0 where
    AllThrough : (t : TableLists) → e ≡ AllPlain t → AreThrough fs (length fs) → ListEnd k fs e
    SomeStops : (f : Option FunctionId) (s : Stop) → e ≡ StopsIn f s → StopsAt k fs f s → ListEnd k fs e

  stays_stopped : (k : ℕ) (fs : List HirFunction) (f : Option FunctionId) (s : Stop)
      → then_nested env k fs (StopsIn f s) ≡ StopsIn f s
  stays_stopped k [] f s = refl
  stays_stopped k (g ∷ fs) f s = stays_stopped (k + 1) fs f s

  through_more : (func : HirFunction) (fs : List HirFunction) (n : ℕ) → IsThrough func env → AreThrough fs n
      → AreThrough (func ∷ fs) (suc n)
  through_more func fs n h k zero g l e = let same : func ≡ g = cc in
      subst (λ (x : HirFunction). IsThrough x env) same h
  through_more func fs n h k (suc j) g l e = k j g (omega arith) e

  list_more : (k : ℕ) (func : HirFunction) (fs : List HirFunction) (e : UnitEnd) → IsThrough func env
      → ListEnd (k + 1) fs e → ListEnd k (func ∷ fs) e
  list_more k func fs e h (AllThrough t is all) = AllThrough t is (through_more func fs (length fs) h all)
  list_more k func fs e h (SomeStops f s is a) =
      let there : (k + 1) + a.position ≡ k + suc a.position = omega arith in
      SomeStops f s is (record {
        position = suc a.position;
        func = a.func;
        at = a.at;
        number = a.number ∙ ap (λ (n : ℕ). let x : FunctionId = record { 0 = n } in Some x) there;
        stopped = a.stopped;
        before = through_more func fs a.position h a.before;
      })

  none_before : (fs : List HirFunction) → AreThrough fs 0
  none_before fs j g l e = absurd (omega arith)

  list_case : (k : ℕ) (func : HirFunction) (fs : List HirFunction) (e : UnitEnd)
      → OneEnd (Some (record { 0 = k })) func env e
      → ((t : TableLists) → ListEnd (k + 1) fs (then_nested env (k + 1) fs (AllPlain t)))
      → ListEnd k (func ∷ fs) (then_nested env (k + 1) fs e)
  list_case k func fs e (Through t is h) f =
      subst (λ (x : UnitEnd). ListEnd k (func ∷ fs) (then_nested env (k + 1) fs x)) (sym is)
      (list_more k func fs (then_nested env (k + 1) fs (AllPlain t)) h (f t))
  list_case k func fs e (StopsHere s is h) f =
      let here : k ≡ k + 0 = omega arith in
      SomeStops (Some (record { 0 = k })) s (ap (then_nested env (k + 1) fs) is
      ∙ stays_stopped (k + 1) fs (Some (record { 0 = k })) s) (record {
        position = 0;
        func = func;
        at = refl;
        number = ap (λ (n : ℕ). let x : FunctionId = record { 0 = n } in Some x) here;
        stopped = h;
        before = none_before (func ∷ fs);
      })

  list_end : (k : ℕ) (fs : List HirFunction) (t : TableLists) → ListEnd k fs (then_nested env k fs (AllPlain t))
  list_end k [] t = AllThrough t refl (none_before [])
  list_end k (func ∷ fs) t = list_case k func fs (then_function (AllPlain t) (Some (record { 0 = k })) func env)
      (one_end (Some (record { 0 = k })) func env t) (list_end (k + 1) fs)

-- ---- the unit

-- which function breaks a condition first, and how
pub record UnitBreaksFirst (u : HirUnit) (f : Option FunctionId) (i : InstructionId) (rule : ℕ) : Type 0 where
  pub func : HirFunction
  pub first : IsFirstOf u f func
  pub breaks : BreaksFirst func u.env i rule

-- which function is the first that isn't settled, where those before it are plain
pub record UnitNeverSettles (u : HirUnit) (f : Option FunctionId) : Type 0 where
  pub func : HirFunction
  pub first : IsFirstOf u f func
  pub never : NeverSettles func u.env

-- what an answer says
abbrev pub TellsOf : HirUnit → Result Plainness PlainFault → Type 0
TellsOf u (Ok Plain) = IsPlainUnit u
TellsOf u (Ok (NotPlain f i rule)) = UnitBreaksFirst u f i rule
TellsOf u (Err (fault.NotSettled f)) = UnitNeverSettles u f
TellsOf u (Err e) = Unit {0}

module _ (u : HirUnit) (rules : rules_hold u ≡ Ok tt) (root : NamesDiffer u.function)
    (nested : (k : ℕ) (g : HirFunction) → slice_get u.env.functions k ≡ Some g → NamesDiffer g) where
  root_plain : IsThrough u.function u.env → IsPlain u.function u.env
  root_plain h = function_is_plain u.function u.env root (root_looks u rules) h.tables h.left h.is

  nested_plain : (k : ℕ) (g : HirFunction) → slice_get u.env.functions k ≡ Some g → IsThrough g u.env → IsPlain g u.env
  nested_plain k g e h = function_is_plain g u.env (nested k g e) (nested_looks u rules k g e) h.tables h.left h.is

  stop_tells : (f : Option FunctionId) (func : HirFunction) (s : Stop) → IsFirstOf u f func → NamesDiffer func
      → Looks func u.env → IsStopped func u.env s → TellsOf u (answer_of (StopsIn f s))
  stop_tells f func (stop.Broken i rule) first differ looks h =
      record { func = func; first = first; breaks = function_breaks_first func u.env differ looks h.tables i rule h.is }
  stop_tells f func stop.NotSettled first differ looks h =
      record { func = func; first = first; never = function_never_settles func u.env differ looks h.tables h.is }
  stop_tells f func (stop.TooMany which) first differ looks h = tt
  stop_tells f func (stop.Memory e) first differ looks h = tt

  below_length : {A : Type 0} (xs : List A) (k : ℕ) (x : A) → slice_get xs k ≡ Some x → k < length xs
  below_length [] k x h = cc
  below_length (y ∷ xs) zero x h = omega arith
  below_length (y ∷ xs) (suc k) x h = let l = below_length xs k x h in omega arith

  root_first : IsFirstOf u None u.function
  root_first = record { found = refl; earlier = λ g other b e. absurd b }

  earlier_case : (k : ℕ) → IsThrough u.function u.env → AreThrough u.env u.env.functions k
      → (g : Option FunctionId) (other : HirFunction) → ComesBefore g (Some (record { 0 = k })) → function_at u g
      ≡ Some other → IsPlain other u.env
  earlier_case k h before None other b e = let same : u.function ≡ other = cc in
      subst (λ (x : HirFunction). IsPlain x u.env) same (root_plain h)
  earlier_case k h before (Some g) other b e = nested_plain g.0 other e (before g.0 other b e)

  nested_tells : (e : UnitEnd) → IsThrough u.function u.env → ListEnd u.env 0 u.env.functions e
      → TellsOf u (answer_of e)
  nested_tells e h (AllThrough t is all) =
      subst (λ (x : UnitEnd). TellsOf u (answer_of x)) (sym is)
      (record {
        root = root_plain h;
        nested =
            λ k g at. nested_plain k g at (all k g (below_length u.env.functions k g at) at);
      })
  nested_tells e h (SomeStops f s is a) =
      let plain : 0 + a.position ≡ a.position = omega arith in
      let number : f ≡ Some (record { 0 = a.position }) = a.number
      ∙ ap (λ (n : ℕ). let x : FunctionId = record { 0 = n } in Some x) plain in
      subst (λ (x : UnitEnd). TellsOf u (answer_of x)) (sym is)
      (stop_tells f a.func s (subst (λ (x : Option FunctionId). IsFirstOf u x a.func) (sym number)
      (record { found = a.at; earlier = earlier_case a.position h a.before }))
      (nested a.position a.func a.at) (nested_looks u rules a.position a.func a.at) a.stopped)

  root_case : (e : UnitEnd) → OneEnd None u.function u.env e
      → TellsOf u (answer_of (then_nested u.env 0 u.env.functions e))
  root_case e (Through t is h) =
      subst (λ (x : UnitEnd). TellsOf u (answer_of (then_nested u.env 0 u.env.functions x))) (sym is)
      (nested_tells (then_nested u.env 0 u.env.functions (AllPlain t)) h (list_end u.env 0 u.env.functions t))
  root_case e (StopsHere s is h) =
      subst (λ (x : UnitEnd). TellsOf u (answer_of x))
      (sym (ap (then_nested u.env 0 u.env.functions) is ∙ stays_stopped u.env 0 u.env.functions None s))
      (stop_tells None u.function s root_first root (root_looks u rules) h)

  -- `Plain` is answered of plain units alone, and `NotPlain` of others alone, with what comes first, and `NotSettled`
  -- of those of which a function isn't settled
  pub answer_tells : TellsOf u (answer_of (unit_end u))
  answer_tells = root_case (then_function (AllPlain no_tables) None u.function u.env)
      (one_end None u.function u.env no_tables)

-- the names of all functions of a list differ
pub each_differs : (fs : List HirFunction) → AllByRecursion NamesDiffer fs → (k : ℕ) (g : HirFunction) → slice_get fs k
    ≡ Some g → NamesDiffer g
each_differs [] h k g e = cc
each_differs (f ∷ fs) h zero g e = let same : f ≡ g = cc in subst NamesDiffer same h.0
each_differs (f ∷ fs) h (suc k) g e = each_differs fs h.1 k g e

tells_given : (u : HirUnit) (r : Result Plainness PlainFault) → Gives is_fault_memory (answer_of (unit_end u)) r
    → TellsOf u (answer_of (unit_end u)) → TellsOf u r
tells_given u (Ok x) h t = subst (TellsOf u) h t
tells_given u (Err (fault.NotSettled f)) h t = subst (TellsOf u) (h refl) t
tells_given u (Err (fault.TooMany which)) h t = tt
tells_given u (Err (fault.Memory e)) h t = tt

-- what is answered tells of the unit
pub given_tells : (u : HirUnit) (r : Result Plainness PlainFault) → rules_hold u ≡ Ok tt → NamesDiffer u.function
    → AllByRecursion NamesDiffer u.env.functions → Gives is_fault_memory (answer_of (unit_end u)) r → TellsOf u r
given_tells u r rules root nested h = tells_given u r h
    (answer_tells u rules root (each_differs u.env.functions nested))
