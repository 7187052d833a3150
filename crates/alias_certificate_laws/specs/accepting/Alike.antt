-- Effects, temporaries and steps that are alike: they differ in spans, in what places are said to be used for, and in
-- the numbers of reports alone.
use Rattle.std.specs.Prelude.{◌≡◌, Bool, List, [], ◌∷◌, Option, Some, None, Result, Ok, Err}
use Rattle.alias_base.specs.declared.ids.FunctionId.{FunctionId}
use Rattle.alias_base.specs.declared.ids.TypeId.{TypeId}
use Rattle.alias_hir.specs.declared.effect.AliasingEffect.{AliasingEffect}
use Rattle.alias_hir.specs.declared.effect.AliasingEffect.TheVariants as effect
use Rattle.alias_hir.specs.declared.effect.MutationReason.{MutationReason}
use Rattle.alias_hir.specs.declared.effect.ValueKind.{ValueKind}
use Rattle.alias_hir.specs.declared.effect.ValueReason.{ValueReason}
use Rattle.alias_hir.specs.declared.env.Environment.{Environment}
use Rattle.alias_hir.specs.declared.hir.HirFunction.{HirFunction}
use Rattle.alias_hir.specs.declared.place.Place.{Place}
use Rattle.alias_hir.specs.declared.place.PlaceOrSpreadOrHole.{PlaceOrSpreadOrHole}
use Rattle.alias_hir.specs.declared.place.PlaceOrSpreadOrHole.TheVariants as arg
use Rattle.alias_hir.specs.declared.place.Span.{Span}
use Rattle.alias_hir.specs.declared.report.ReportId.{ReportId}
use Rattle.alias_hir.specs.declared.report.Interned.{Interned}
use Rattle.alias_lattice.specs.declared.lookup.MissingLookup.{MissingLookup}
use Rattle.alias_hir.specs.declared.error.Counter.TheVariants.{Diagnostics}
use Rattle.alias_tables.specs.GrowingLaws.{Grows}
use Rattle.alias_tables.specs.Tables.{TableLists}
use Rattle.alias_tables.specs.declared.faults.Refusal.{Refusal}
use Rattle.alias_tables.specs.declared.faults.Refusal.TheVariants.{TooMany}
use Rattle.alias_tables.specs.declared.temp_key.TempKey.{TempKey}
use Rattle.alias_tables.specs.declared.temporaries.Temporary.{Temporary}
use Rattle.alias_apply.specs.declared.progress.StepProgress.{StepProgress}
use Rattle.alias_calls.specs.declared.call.CallSite.{CallSite}
use Rattle.alias_calls.specs.declared.legacy.Legacy.{Legacy}

-- two lists, pair by pair
pub data Paired {A B : Type 0} (Q : A → B → Type 0) : List A → List B → Type 0 where
  none : Paired Q [] []
  more : {a : A} {b : B} {xs : List A} {ys : List B} → Q a b → Paired Q xs ys → Paired Q (a ∷ xs) (b ∷ ys)

-- ---- effects

-- the second place, of the identifier of the first
abbrev pub moved : Place → Place → Place
moved p q = record q { identifier = p.identifier }

-- two places of one identifier
pub data AlikePlace : Place → Place → Type 0 where
  at : (p q : Place) → AlikePlace p (moved p q)

abbrev pub AlikePlaces : List Place → List Place → Type 0
AlikePlaces = Paired AlikePlace

pub data AlikeArgument : PlaceOrSpreadOrHole → PlaceOrSpreadOrHole → Type 0 where
  plain : (p q : Place) → AlikeArgument (arg.Place p) (arg.Place (moved p q))
  spread : (p q : Place) → AlikeArgument (arg.Spread (record { place = p })) (arg.Spread (record { place = moved p q }))
  hole : AlikeArgument arg.Hole arg.Hole

abbrev pub AlikeArguments : List PlaceOrSpreadOrHole → List PlaceOrSpreadOrHole → Type 0
AlikeArguments = Paired AlikeArgument

pub data Alike : AliasingEffect → AliasingEffect → Type 0 where
  apply : (r s f g x y : Place) (mutates : Bool) (args others : List PlaceOrSpreadOrHole) (signature : Option TypeId)
      (span other : Option Span) → AlikeArguments args others
      → Alike (effect.Apply r f mutates args x signature span)
      (effect.Apply (moved r s) (moved f g) mutates others (moved x y) signature other)
  create_from : (a b x y : Place) → Alike (effect.CreateFrom a x) (effect.CreateFrom (moved a b) (moved x y))
  immutable_capture : (a b x y : Place) → Alike (effect.ImmutableCapture a x)
      (effect.ImmutableCapture (moved a b) (moved x y))
  assign : (a b x y : Place) → Alike (effect.Assign a x) (effect.Assign (moved a b) (moved x y))
  alias : (a b x y : Place) → Alike (effect.Alias a x) (effect.Alias (moved a b) (moved x y))
  capture : (a b x y : Place) → Alike (effect.Capture a x) (effect.Capture (moved a b) (moved x y))
  maybe_alias : (a b x y : Place) → Alike (effect.MaybeAlias a x) (effect.MaybeAlias (moved a b) (moved x y))
  create : (x y : Place) (k : ValueKind) (r : ValueReason) → Alike (effect.Create x k r) (effect.Create (moved x y) k r)
  freeze : (v w : Place) (r : ValueReason) → Alike (effect.Freeze v r) (effect.Freeze (moved v w) r)
  impure : (p q : Place) (d e : ReportId) → Alike (effect.Impure p d) (effect.Impure (moved p q) e)
  mutate_frozen : (p q : Place) (d e : ReportId) → Alike (effect.MutateFrozen p d) (effect.MutateFrozen (moved p q) e)
  mutate_global : (p q : Place) (d e : ReportId) → Alike (effect.MutateGlobal p d) (effect.MutateGlobal (moved p q) e)
  render : (p q : Place) → Alike (effect.Render p) (effect.Render (moved p q))
  mutate : (v w : Place) (r s : Option MutationReason) → Alike (effect.Mutate v r) (effect.Mutate (moved v w) s)
  mutate_conditionally : (v w : Place) → Alike (effect.MutateConditionally v) (effect.MutateConditionally (moved v w))
  mutate_transitive : (v w : Place) → Alike (effect.MutateTransitive v) (effect.MutateTransitive (moved v w))
  mutate_transitive_conditionally : (v w : Place)
      → Alike (effect.MutateTransitiveConditionally v) (effect.MutateTransitiveConditionally (moved v w))
  create_function : (x y : Place) (f : FunctionId) (ps qs : List Place) → AlikePlaces ps qs
      → Alike (effect.CreateFunction x f ps) (effect.CreateFunction (moved x y) f qs)

abbrev pub AlikeEffects : List AliasingEffect → List AliasingEffect → Type 0
AlikeEffects = Paired Alike

-- ---- steps

-- both looks are missing, or neither is
pub data AlikeLookup : Option MissingLookup → Option MissingLookup → Type 0 where
  there : AlikeLookup None None
  missing : (l m : MissingLookup) → AlikeLookup (Some l) (Some m)

-- the state is the same, and so is what was made; what is recorded is alike
pub data AlikeProgress : StepProgress → StepProgress → Type 0 where
  like : (s : StepProgress) (recorded : List AliasingEffect) (lookup : Option MissingLookup)
      → AlikeEffects s.recorded recorded → AlikeLookup s.missing lookup
      → AlikeProgress s (record s { recorded = recorded; missing = lookup })

-- ---- tables

-- no number is left for a report
abbrev pub IsFull : Refusal → Type 0
IsFull c = c ≡ TooMany Diagnostics

pub data AlikeTemporary : Temporary → Temporary → Type 0 where
  of_key : (key : TempKey) (p q : Place) → AlikeTemporary (record { key = key; place = p })
      (record { key = key; place = moved p q })

abbrev pub AlikeTemporaries : List Temporary → List Temporary → Type 0
AlikeTemporaries = Paired AlikeTemporary

module _ {C : Type 0} (is_excused : C → Type 0) (whole : List Temporary) where
  -- a step gives what is alike, and leaves such temporaries as it found; or it is refused for an excused cause
  pub data Gives {A : Type 0} (R : A → A → Type 0) (x : A) (r : Result (A × TableLists) C) : Type 0 where
    given : (y : A) (v : TableLists) → r ≡ Ok (y, v) → R x y → AlikeTemporaries whole v.temporaries → Gives R x r
    excused : (c : C) → r ≡ Err c → is_excused c → Gives R x r

  -- What the first step gives, where the temporaries that it leaves are the first of the whole, the second gives under
  -- any tables whose temporaries are
  -- alike to the whole: it gives what is alike, or is refused for an excused cause.
  pub record Repeats {A : Type 0} (R : A → A → Type 0) (f g : TableLists → Result (A × TableLists) C) : Type 0 where
    pub grows : (t u : TableLists) (x : A) → f t ≡ Ok (x, u) → Grows t.temporaries u.temporaries
    pub again : (t u v : TableLists) (x : A) → f t ≡ Ok (x, u) → Grows u.temporaries whole
        → AlikeTemporaries whole v.temporaries → Gives R x (g v)

-- ---- calls

-- two options, of which neither is there, or both with what is alike
pub data Maybe {A B : Type 0} (Q : A → B → Type 0) : Option A → Option B → Type 0 where
  nothing : Maybe Q None None
  just : {a : A} {b : B} → Q a b → Maybe Q (Some a) (Some b)

abbrev pub AlikeList : Option (List AliasingEffect) → Option (List AliasingEffect) → Type 0
AlikeList = Maybe AlikeEffects

-- where a call is made, at places of the same identifiers
pub data AlikeSite : CallSite → CallSite → Type 0 where
  called : (s t : CallSite) → AlikeSite s
      (record { receiver = moved s.receiver t.receiver; into = moved s.into t.into; span = t.span })

-- the effects are alike, and the lookup is the same
pub data AlikeLegacy : Legacy → Legacy → Type 0 where
  listed : (es fs : List AliasingEffect) (lookup : Option MissingLookup) → AlikeEffects es fs
      → AlikeLegacy (record { effects = es; missing = lookup }) (record { effects = fs; missing = lookup })

-- ---- environments

-- functions that others see alike: of the same parameters, context places and result, with summaries that are alike
pub data AlikeFunction : HirFunction → HirFunction → Type 0 where
  seen : (f g : HirFunction) → Maybe AlikeEffects f.aliasing_effects g.aliasing_effects
      → AlikeFunction f (record g { params = f.params; context = f.context; returns = f.returns })

-- what an environment may have elsewhere: functions that are seen alike, and other reports
pub record Elsewhere (env : Environment) : Type 0 where
  pub functions : List HirFunction
  pub interned : List Interned
  pub alike : Paired AlikeFunction env.functions functions

abbrev pub elsewhere : (env : Environment) → Elsewhere env → Environment
elsewhere env o = record env { functions = o.functions; interned = o.interned }
