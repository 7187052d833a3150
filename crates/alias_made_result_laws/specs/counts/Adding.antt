-- Steps that add no more than so many reports, so that no counter comes to its last value.
use Rattle.std.specs.Prelude.{◌≡◌, ℕ, ◌+◌, ◌≤◌, ◌<◌, Bool, true, false, cond, ◌&&◌, if◌then◌else◌, nat_lt, List, []}
use Rattle.std.specs.Prelude.{◌∷◌, ◌++◌, length, Option, Some, None, Result, Ok, Err, slice_get}
use Rattle.std.proofs.Common.{arith}
use Rattle.std.proofs.lemmas.Bool.Decides.{nat_tests}
use Rattle.std.proofs.lemmas.List.{length-append}
use Rattle.alias_base.specs.declared.ids.IdentifierId.{IdentifierId}
use Rattle.alias_hir.specs.ReportNumbers.{same_identity, same_instance, number_of, interned}
use Rattle.alias_hir.specs.declared.effect.AliasingEffect.{AliasingEffect}
use Rattle.alias_hir.specs.declared.env.Environment.{Environment}
use Rattle.alias_hir.specs.declared.error.Counter.TheVariants.{Diagnostics}
use Rattle.alias_hir.specs.declared.report.ReportId.{ReportId}
use Rattle.alias_hir.specs.declared.report.Interned.{Interned}
use Rattle.alias_hir.specs.declared.report.Report.{Report}
use Rattle.alias_tables.specs.declared.faults.Refusal.{Refusal}
use Rattle.alias_tables.specs.declared.faults.Refusal.TheVariants.{TooMany}
use Rattle.alias_tables.specs.declared.key.EffectKey.{EffectKey}
use Rattle.alias_tables.specs.declared.temporaries.Temporary.{Temporary}
use Rattle.alias_tables.specs.InternedEffects.{first_like}
use Rattle.alias_tables.specs.Keys.{key_of}
use Rattle.alias_tables.specs.Steps.{◌>>=◌, and_then, gives}
use Rattle.alias_tables.specs.Tables.{TableLists, intern, intern_by, intern_after, intern_report}
use Rattle.alias_completeness.specs.Leading.{LeadsAt}
use Rattle.alias_completeness.specs.Shapes.{IsAlike, leads_intern}

-- the refusal isn't that a counter is at its last value
abbrev pub IsOther : Refusal → Type 0
IsOther (TooMany which) = ⊥
IsOther c = Unit {0}

-- the answers of steps that are refused for C, of which these aren't for a counter
module _ {C : Type 0} (other : C → Type 0) where
  -- a step from these tables added k reports at most, and gave what is P; or it was refused, and not for a counter
  abbrev pub AddsAt : {A : Type 0} → ℕ → (A → Type 0) → TableLists → Result (A × TableLists) C → Type 0
  AddsAt k P t (Ok p) = (length p.1.reports ≤ length t.reports + k) × P p.0
  AddsAt k P t (Err c) = other c

  -- so it is, where there are numbers for k reports more
  abbrev pub Adds : {A : Type 0} → ℕ → (A → Type 0) → (TableLists → Result (A × TableLists) C) → Type 0
  Adds k P f = (t : TableLists) → length t.reports + k ≤ 4294967295 → AddsAt k P t (f t)

  -- ---- steps one after the other

  pub adds_gives : {A : Type 0} (k : ℕ) (P : A → Type 0) (x : A) → P x → Adds k P (gives x)
  adds_gives k P x p t room = (omega arith, p)

  more_at : {A : Type 0} (j k : ℕ) (P Q : A → Type 0) (t u : TableLists) (r : Result (A × TableLists) C)
      → length u.reports + j ≤ length t.reports + k → ((x : A) → P x → Q x) → AddsAt j P u r → AddsAt k Q t r
  more_at j k P Q t u (Ok p) h f a = (omega (arith, h, a.0), f p.0 a.1)
  more_at j k P Q t u (Err c) h f a = a

  -- what adds fewer and gives more
  pub adds_on : {A : Type 0} (j k : ℕ) (P Q : A → Type 0) (f : TableLists → Result (A × TableLists) C) → j ≤ k
      → ((x : A) → P x → Q x) → Adds j P f → Adds k Q f
  adds_on j k P Q f le g h t room = more_at j k P Q t t (f t) (omega (arith, le)) g (h t (omega (arith, le, room)))

  bound_at : {A B : Type 0} (j k : ℕ) (P : A → Type 0) (Q : B → Type 0) (t : TableLists) (r : Result (A × TableLists) C)
      (g : A → TableLists → Result (B × TableLists) C) → length t.reports + (j + k) ≤ 4294967295
      → AddsAt j P t r → ((x : A) → P x → Adds k Q (g x)) → AddsAt (j + k) Q t (and_then r g)
  bound_at j k P Q t (Ok p) g room a h = more_at k (j + k) Q Q t p.1 (g p.0 p.1) (omega (arith, a.0)) (λ x q. q)
      (h p.0 a.1 p.1 (omega (arith, room, a.0)))
  bound_at j k P Q t (Err c) g room a h = a

  pub adds_then : {A B : Type 0} (j k : ℕ) (P : A → Type 0) (Q : B → Type 0)
      (f : TableLists → Result (A × TableLists) C) (g : A → TableLists → Result (B × TableLists) C)
      → Adds j P f → ((x : A) → P x → Adds k Q (g x)) → Adds (j + k) Q (f >>= g)
  adds_then j k P Q f g h m t room = bound_at j k P Q t (f t) g room (h t (omega (arith, room))) m

  pub adds_if : {A : Type 0} (k : ℕ) (P : A → Type 0) (b : Bool) (f g : TableLists → Result (A × TableLists) C)
      → Adds k P f → Adds k P g → Adds k P (if b then f else g)
  adds_if k P true f g h m = h
  adds_if k P false f g h m = m

-- ---- reports

number_within : (f : Interned → Bool) (es : List Interned) → number_of f es ≤ length es
number_within f [] = omega arith
number_within f (e ∷ es) = by_test (f e) (number_within f es)
  where
    by_test : (b : Bool) → number_of f es ≤ length es → cond b 0 (number_of f es + 1) ≤ length (e ∷ es)
    by_test true h = omega arith
    by_test false h = omega (arith, h)

less : (m n : ℕ) → m < n → nat_lt m n ≡ true
less m n h = grind (arith, nat_tests)

one_more : (b : Bool) (es : List Interned) (e : Interned) → length (cond b (es ++ e ∷ []) es) ≤ length es + 1
one_more true es e = omega (arith, length-append es (e ∷ []))
one_more false es e = omega arith

interned_if : (a b : Bool) (d : ReportId) (t u : TableLists) → a ≡ true → b ≡ true → length u.reports ≤ length t.reports
    + 1 → AddsAt IsOther 1 (λ (d : ReportId). Unit {0}) t (if a && b then Ok (d, u) else Err (TooMany Diagnostics))
interned_if true true d t u h g le = (le, tt)
interned_if true false d t u h g le = cc
interned_if false b d t u h g le = cc

pub adds_report : (id : IdentifierId) (r : Report) → Adds IsOther 1 (λ (d : ReportId). Unit {0}) (intern_report id r)
adds_report id r t room =
    let identity = number_of (same_identity id r) t.reports in
    let instance = number_of (same_instance id r) t.reports in
    interned_if (nat_lt identity 4294967295) (nat_lt instance 4294967295) _ t _
    (less identity 4294967295 (omega (arith, room, number_within (same_identity id r) t.reports)))
    (less instance 4294967295 (omega (arith, room, number_within (same_instance id r) t.reports)))
    (one_more _ t.reports (interned id r))

-- ---- effects

module _ (env : Environment) where
  -- the tables without temporaries
  abbrev without : TableLists → TableLists
  without t = record t { temporaries = [] }

  none_numbered : (n : ℕ) (x : Temporary) → slice_get {X = Temporary} [] n ≡ Some x → x.place.identifier.0
      ≡ length env.identifiers + n
  none_numbered n x e = cc

  alike_after : (o : Option AliasingEffect) (e : AliasingEffect) (t : TableLists)
      → LeadsAt env (IsAlike e) (intern_after o e (without t)) → AddsAt IsOther 0 (IsAlike e) t (intern_after o e t)
  alike_after None e t h = (omega arith, h.0)
  alike_after (Some z) e t h = (omega arith, h.0)

  alike_by : (o : Option EffectKey) (e : AliasingEffect) (t : TableLists)
      → LeadsAt env (IsAlike e) (intern_by o e (without t)) → AddsAt IsOther 0 (IsAlike e) t (intern_by o e t)
  alike_by None e t h = (omega arith, h.0)
  alike_by (Some k) e t h = alike_after (first_like k t.first) e t h

  -- interning an effect adds no report, and gives one that is alike
  pub adds_intern : (e : AliasingEffect) → Adds IsOther 0 (IsAlike e) (intern e)
  adds_intern e t room = alike_by (key_of e) e t (leads_intern env e (without t) none_numbered)
