-- The functions that were checked are those of the certificate, one after the other, and each enters its blocks as it
-- says.
use Rattle.std.specs.Prelude.{◌<◌, nat_lt, slice_get}
use Rattle.std.specs.List.{AllByRecursion}
use Rattle.std.proofs.Common.{◌≡◌, ℕ, zero, suc, Bool, true, false, if◌then◌else◌, List, [], ◌∷◌, ◌++◌, length, map}
use Rattle.std.proofs.Common.{Option, Some, None, Result, Ok, Err, refl, ap, sym, subst, ◌∙◌, arith}
use Rattle.std.proofs.lemmas.List.{append-nil}
use Rattle.std.proofs.lemmas.Bool.{lt-ltb}
use Rattle.alias_base.specs.Answer.{◌>>=◌}
use Rattle.alias_base.specs.declared.ids.FunctionId.{FunctionId}
use Rattle.alias_graph.proofs.FitLaws.{went_on}
use Rattle.alias_hir.specs.declared.effect.AliasingEffect.{AliasingEffect}
use Rattle.alias_hir.specs.declared.env.Environment.{Environment}
use Rattle.alias_hir.specs.declared.env.Unit.{Unit as HirUnit}
use Rattle.alias_hir.specs.declared.hir.HirFunction.{HirFunction}
use Rattle.alias_nesting_laws.specs.Slots.{with_function}
use Rattle.alias_nested.specs.Analysis.{most_levels}
use Rattle.alias_nested.specs.Created.{created_functions}
use Rattle.alias_nested.specs.Slots.{emptied}
use Rattle.alias_certificate.specs.declared.certificate.CertFunction.{CertFunction}
use Rattle.alias_certificate.specs.declared.fault.CheckFault.{CheckFault}
use Rattle.alias_certificate.specs.declared.fault.CheckFault.TheVariants as fault
use Rattle.alias_effects.specs.declared.output.PassEnd.{PassEnd}
use Rattle.alias_range_pass.specs.Passes.{range_pass}
use Rattle.alias_nested.specs.Finishing.{finished}
use Rattle.alias_tables.specs.write_back.WriteBack.{tables_of}
use Rattle.alias_cert.specs.function.Temporaries.{temporaries_stated}
use Rattle.alias_cert.specs.function.Functions.{lines_checked, entries_checked, steps_checked, checked_end}
use Rattle.alias_cert.specs.function.Functions.{function_solved}
use Rattle.alias_cert.specs.Functions.{CheckedFunction, Checking, checking, same_name, said_as, said, checked_function}
use Rattle.alias_cert.specs.Functions.{effects_checked, ranging, stored_summary, summary_checked, summed}
use Rattle.alias_cert.specs.Functions.{nested_finished, nested_as_said, nested_checked, root_finished, root_as_said}
use Rattle.alias_cert.specs.Functions.{root_checked, EntersAsSaid, AreAsSaid}
use Rattle.alias_cert.specs.Units.{each, put_back, taken_checked, found_checked, slot_checked, below_checked, none_left}
use Rattle.alias_cert.specs.Units.{unit_checked}
use Rattle.alias_cert.proofs.Coming.{all_appended}

abbrev saids : List CheckedFunction → List CertFunction
saids fs = map (λ (x : CheckedFunction). x.said) fs

-- so far: they are the first of the certificate
record SoFar (functions : List CertFunction) (fs : List CheckedFunction) : Type 0 where
  rest : List CertFunction
  front : functions ≡ saids fs ++ rest
  enter : AllByRecursion EntersAsSaid fs

ok_same : {A E : Type 0} (x y : A) → ◌≡◌ {A = Result A E} (Ok x) (Ok y) → x ≡ y
ok_same x y h = cc

-- ---- one function

said_if : (b : Bool) (n : ℕ) (d c : CertFunction)
    → (let r : Result CertFunction CheckFault = if b then Ok d else Err (fault.Functions n) in r ≡ Ok c) → d ≡ c
said_if true n d c h = cc
said_if false n d c h = cc

said_there : (n : ℕ) (id : Option FunctionId) (o : Option CertFunction) (c : CertFunction) → said_as n id o ≡ Ok c → o
    ≡ Some c
said_there n id None c h = cc
said_there n id (Some d) c h = ap Some (said_if (same_name d.function id) n d c h)

behind : (fs : List CheckedFunction) (rest : List CertFunction) (c : CertFunction)
    → slice_get (saids fs ++ rest) (length fs) ≡ Some c → (more : List CertFunction) × (rest ≡ c ∷ more)
behind [] [] c h = cc
behind [] (d ∷ rest) c h = let same : d ≡ c = cc in (rest, ap (λ z. z ∷ rest) same)
behind (x ∷ fs) rest c h = behind fs rest c h

one_further : (fs : List CheckedFunction) (x : CheckedFunction) (more : List CertFunction) → saids fs ++ x.said ∷ more
    ≡ saids (fs ++ x ∷ []) ++ more
one_further [] x more = refl
one_further (y ∷ fs) x more = ap (λ z. y.said ∷ z) (one_further fs x more)

module _ (id : Option FunctionId) (b : Bool) (f : HirFunction) (env : Environment) (c : CertFunction) (e : PassEnd)
    (solved : function_solved c env f b ≡ Ok e) where
  enters : EntersAsSaid (checked_function id b f env c e)
  enters =
      let lines = went_on (lines_checked c env f b) _ e solved in
      let states = went_on (entries_checked c env f b) _ e lines.2 in
      let tables = went_on (temporaries_stated c.function env c.temporaries (tables_of env)) _ e states.2 in
      let steps = went_on (steps_checked c env f b states.0 tables.0) _ e tables.2 in
      let is : checked_end c env f b states.0 steps.0 ≡ e = cc in
      (states.0, states.1, sym (ap (λ (p : PassEnd). p.solved.entries) is))

  noted : (functions : List CertFunction) (fs : List CheckedFunction) → SoFar functions fs
      → said functions (length fs) id ≡ Ok c → SoFar functions (fs ++ checked_function id b f env c e ∷ [])
  noted functions fs s is =
      let there : slice_get functions (length fs) ≡ Some c =
      said_there (length fs) id (slice_get functions (length fs)) c is in
      let m = behind fs s.rest c (subst (λ cs. slice_get cs (length fs) ≡ Some c) s.front there) in
      record {
        rest = m.0;
        front = s.front ∙ ap (λ r. saids fs ++ r) m.1 ∙ one_further fs (checked_function id b f env c e) m.0;
        enter = all_appended EntersAsSaid fs (checked_function id b f env c e) s.enter enters;
      }

-- ---- a run of the check

module _ (functions : List CertFunction) where
  abbrev Noted : Checking → Type 0
  Noted a = SoFar functions a.functions

  abbrev With : HirFunction × Checking → Type 0
  With s = Noted s.1

  effects_noted : (id : Option FunctionId) (b : Bool) (f : HirFunction) (a : Checking) (c : CertFunction)
      (s : HirFunction × Checking) → Noted a → said functions (length a.functions) id ≡ Ok c
      → effects_checked id b f a c ≡ Ok s → With s
  effects_noted id b f a c s so is h =
      let e = went_on (function_solved c a.env f b) _ s h in
      let same = noted id b f a.env c e.0 e.1 functions a.functions so is in
      let last : _ ≡ s = ok_same _ s e.2 in
      subst With last same

  summed_noted : (c : CertFunction) (summary : List AliasingEffect) (f : HirFunction) (a : Checking)
      (s : HirFunction × Checking) → Noted a → summed c summary f a ≡ Ok s → With s
  summed_noted c summary f a s so h =
      let u = went_on (summary_checked c summary) _ s h in
      subst With (ok_same (f, a) s u.2) so

  nested_noted : (id : FunctionId) (f : HirFunction) (a : Checking) (s : HirFunction × Checking) → Noted a
      → nested_checked functions id f a ≡ Ok s → With s
  nested_noted id f a s so h =
      let c = went_on (said functions (length a.functions) (Some id)) (nested_as_said id f a) s h in
      let e = went_on (effects_checked (Some id) true f a c.0) (nested_finished c.0 id) s c.2 in
      let r = went_on (ranging (Some id) (finished e.0.0 e.0.1.env)) _ s e.2 in
      summed_noted c.0 (stored_summary r.0.0) r.0.0 (checking r.0.1 e.0.1.functions) s
      (effects_noted (Some id) true f a c.0 e.0 so c.1 e.1) r.2

  root_noted : (f : HirFunction) (a : Checking) (s : HirFunction × Checking) → Noted a → root_checked functions f a
      ≡ Ok s → With s
  root_noted f a s so h =
      let c = went_on (said functions (length a.functions) None) (root_as_said f a) s h in
      let e = went_on (effects_checked None false f a c.0) (root_finished c.0) s c.2 in
      let r = went_on (ranging None (range_pass false e.0.0 e.0.1.env)) _ s e.2 in
      summed_noted c.0 r.0.summary r.0.after.0 (checking r.0.after.1 e.0.1.functions) s
      (effects_noted None false f a c.0 e.0 so c.1 e.1) r.2

  abbrev Notes : (Checking → Result Checking CheckFault) → Type 0
  Notes run = (a b : Checking) → Noted a → run a ≡ Ok b → Noted b

  each_notes : {X : Type 0} (step : X → Checking → Result Checking CheckFault) → ((x : X) → Notes (step x))
      → (xs : List X) → Notes (each step xs)
  each_notes step k [] a b so h = subst Noted (ok_same a b h) so
  each_notes step k (x ∷ xs) a b so h = let w = went_on (step x a) (each step xs) b h in
      each_notes step k xs w.0 b (k x a w.0 so w.1) w.2

  module _ (below : HirFunction → Checking → Result Checking CheckFault) (k : (f : HirFunction) → Notes (below f))
      (id : FunctionId) where
    found_notes : (o : Option HirFunction) (a b : Checking) → Noted a → found_checked functions below id a o ≡ Ok b
        → Noted b
    found_notes None a b so h = subst Noted (ok_same a b h) so
    found_notes (Some f) a b so h =
        let out : Checking = record a { env = with_function id (emptied f.returns) a.env } in
        let w = went_on (taken_checked functions below id f out) _ b h in
        let v = went_on (below f out) (nested_checked functions id f) w.0 w.1 in
        subst Noted (ok_same (put_back id w.0) b w.2) (nested_noted id f v.0 w.0 (k f out v.0 so v.1) v.2)

  below_notes : (n : ℕ) (f : HirFunction) → Notes (below_checked functions n f)
  unfolding below_checked
  below_notes zero f a b so h = subst Noted (ok_same a b h) so
  below_notes (suc n) f a b so h =
      each_notes (slot_checked functions (below_checked functions n))
      (λ id c d. found_notes (below_checked functions n) (below_notes n) id (slice_get c.env.functions id.0) c d)
      (created_functions f) a b so h

  -- ---- a unit

  left_if : (b : Bool) (s t : HirFunction × Checking)
      → (let r : Result (HirFunction × Checking) CheckFault = if b then Err (fault.Functions (length s.1.functions))
      else Ok s in r ≡ Ok t) → (b ≡ false) × (s ≡ t)
  left_if true s t h = cc
  left_if false s t h = (refl, ok_same s t h)

  nothing_behind : (fs : List CheckedFunction) (rest : List CertFunction) → (length fs < length (saids fs ++ rest) → ⊥)
      → rest ≡ []
  nothing_behind [] [] h = refl
  nothing_behind [] (c ∷ rest) h = absurd (h (omega arith))
  nothing_behind (x ∷ fs) rest h = nothing_behind fs rest (λ lt. h (omega (arith, lt)))

  pub unit_as_said : (u : HirUnit) (f : HirFunction) (env : Environment) (fs : List CheckedFunction)
      → unit_checked functions u ≡ Ok (f, checking env fs) → AreAsSaid functions fs
  unit_as_said u f env fs h =
      let t : HirFunction × Checking = (f, checking env fs) in
      let w = went_on (below_checked functions most_levels u.function (checking u.env [])
      >>= root_checked functions u.function) (none_left functions) t h in
      let v = went_on (below_checked functions most_levels u.function (checking u.env []))
      (root_checked functions u.function) w.0 w.1 in
      let first : Noted v.0 = below_notes most_levels u.function (checking u.env []) v.0
      (record { rest = functions; front = refl; enter = tt }) v.1 in
      let root : With w.0 = root_noted u.function v.0 w.0 first v.2 in
      let l = left_if (nat_lt (length w.0.1.functions) (length functions)) w.0 t w.2 in
      let so : SoFar functions fs = subst With l.1 root in
      let none : nat_lt (length fs) (length functions) ≡ false =
      subst (λ s. nat_lt (length s.1.functions) (length functions) ≡ false) l.1 l.0 in
      let nothing : so.rest ≡ [] = nothing_behind fs so.rest
      (λ lt. let on : nat_lt (length fs) (length functions) ≡ true =
      lt-ltb (length fs) (length functions) (subst (λ cs. length fs < length cs) (sym so.front) lt) in cc) in
      record {
        same = sym (append-nil (saids fs)) ∙ ap (λ r. saids fs ++ r) (sym nothing) ∙ sym so.front;
        enter = so.enter;
      }
