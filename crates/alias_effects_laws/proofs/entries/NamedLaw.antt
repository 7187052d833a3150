-- The law that states name only what is there: identifiers with N, which those of the table and of the temporaries
-- have, and functions with F.
use Rattle.std.specs.Prelude.{◌≡◌, ℕ, ◌+◌, ◌<◌, List, [], ◌∷◌, length, Option, Some, None, true, slice_get, refl}
use Rattle.std.specs.List.{AllByRecursion, list_any}
use Rattle.std.proofs.Common.{arith}
use Rattle.alias_base.specs.declared.ids.FunctionId.{FunctionId}
use Rattle.alias_base.specs.declared.ids.IdentifierId.{IdentifierId}
use Rattle.alias_base.specs.declared.ids.TypeId.{TypeId}
use Rattle.alias_hir.specs.ReportNumbers.{summary}
use Rattle.alias_hir.specs.declared.effect.AliasingEffect.{AliasingEffect}
use Rattle.alias_hir.specs.declared.effect.AliasingEffect.TheVariants as effect
use Rattle.alias_hir.specs.declared.env.Environment.{Environment}
use Rattle.alias_hir.specs.declared.place.Place.{Place}
use Rattle.alias_hir.specs.declared.report.ReportId.{ReportId}
use Rattle.alias_lattice.specs.States.{State, Sites, sites_of, given, mutable_other}
use Rattle.alias_lattice.specs.declared.site.Site.{Site}
use Rattle.alias_lattice.specs.declared.site.Site.TheVariants.{Created, CreatedFrom, Function, AssignFrozen, AssignCopy}
use Rattle.alias_lattice.specs.declared.site.Site.TheVariants.{Default}
use Rattle.alias_lattice.specs.declared.value.AbstractValue.{AbstractValue}
use Rattle.alias_tables.specs.GrowingLaws.{Extends}
use Rattle.alias_tables.specs.Tables.{TableLists}
use Rattle.alias_tables.specs.declared.temp_key.TempKey.{TempKey}
use Rattle.alias_apply.specs.Apply.{function_value}
use Rattle.alias_apply.specs.Kinds.{value_with}
use Rattle.alias_apply.specs.declared.progress.StepProgress.{StepProgress}
use Rattle.alias_apply.specs.freezing.Contexts.{context_of}
use Rattle.alias_apply.specs.freezing.Sites.{listed}
use Rattle.alias_step.specs.Expansions.{function_of_site, only_function, called_function}
use Rattle.alias_walks.specs.Knowing.{among_known}
use Rattle.alias_walks.specs.Law.{InternedNames, KeyKnown, of_name, of_rest, Puts, creates, creates_from}
use Rattle.alias_walks.specs.Law.{assigns_frozen, assigns_copy, creates_function, has_result, Copied, Law}
use Rattle.alias_walks.specs.OfProgress.{Any}
use Rattle.alias_walks.specs.Words.{all_of, all_mapped}
use Rattle.alias_step_laws.specs.steps.TableLaws.{place_grows}
use Rattle.alias_step_laws.specs.steps.Within.{PlaceWithin}
use Rattle.alias_effects_laws.specs.entries.Named.{SiteNamed, KeyNamed, CreatesHas}
use Rattle.alias_effects_laws.proofs.entries.Counting.{EffectNamed, Counted, counted_intern, counted_temporary}
use Rattle.alias_effects_laws.proofs.entries.Counting.{counted_report, counted_note}
use Rattle.alias_effects_laws.proofs.entries.States.{Stating, IfNamed, set_found, named_given, named_assigned}
use Rattle.alias_effects_laws.proofs.entries.States.{named_frozen, named_place_frozen_transitively, stating_on}

abbrev pub InTable : Environment → Place → Type 0
InTable env p = p.identifier.0 < length env.identifiers

-- the function is in the table, and so are its context places
abbrev pub IsThere : Environment → FunctionId → Type 0
IsThere env f = (f.0 < length env.functions) × AllByRecursion (InTable env) (context_of env f)

-- what the names are: identifiers of the table and of the temporaries have N, which stays as tables grow, and functions
-- with F are there
pub record Naming (env : Environment) (N : TableLists → ℕ → Type 0) (F : FunctionId → Type 0) : Type 0 where
  pub identifiers : (t : TableLists) (n : ℕ) → n < length env.identifiers + length t.temporaries → N t n
  pub later : (t u : TableLists) → Extends t u → (n : ℕ) → N t n → N u n
  pub functions : (f : FunctionId) → F f → IsThere env f

pub in_table_within : (env : Environment) (t : TableLists) (p : Place) → InTable env p → PlaceWithin env t p
in_table_within env t p h = omega (arith, h)

module _ (N : ℕ → Type 0) (F : FunctionId → Type 0) where
  site_function : (k : Site) → SiteNamed N F k → CreatesHas F (function_of_site k)
  site_function (Function f) h = h
  site_function k h = tt

  only_has : (o : Option Sites) → IfNamed N F o → CreatesHas F (only_function (listed o))
  only_has None h = tt
  only_has (Some []) h = tt
  only_has (Some (e ∷ [])) h = site_function e.0 h.0.0
  only_has (Some (e ∷ f ∷ es)) h = tt

  pub called_has : (s : State) (p : Place) → Stating N F s → CreatesHas F (called_function s p)
  called_has s p h = only_has (sites_of s p.identifier) (set_found N F s p.identifier (sites_of s p.identifier) refl h)

  module _ (P : Place → Type 0) (is : (p : Place) → P p → N p.identifier.0) where
    pub named_put : (x : IdentifierId) (k : Site) (v : AbstractValue) (s : State)
        → Puts P P (CreatesHas F) (Any {X = AbstractValue}) x k v → Stating N F s → Stating N F (given x k v s)
    named_put x k v s (creates p kind r h) g =
        named_given N F p.identifier (Created p.identifier kind r) (value_with kind r) s (is p h) (is p h) g
    named_put x k v s (creates_from a p w i h o) g =
        named_given N F p.identifier (CreatedFrom a.identifier p.identifier) w s (is p h) (is a i, is p h) g
    named_put x k v s (assigns_frozen a p w i h o) g =
        named_given N F p.identifier (AssignFrozen a.identifier p.identifier) w s (is p h) (is a i, is p h) g
    named_put x k v s (assigns_copy a p w i h o) g =
        named_given N F p.identifier (AssignCopy a.identifier p.identifier) w s (is p h) (is a i, is p h) g
    named_put x k v s (creates_function p f mutable h i) g =
        named_given N F p.identifier (Function f) (function_value mutable) s (is p h) i g
    named_put x k v s (has_result p h) g =
        named_given N F p.identifier (Default p.identifier) mutable_other s (is p h) (is p h) g

module _ (env : Environment) (N : TableLists → ℕ → Type 0) (F : FunctionId → Type 0) (names : Naming env N F) where
  pub placed : (t : TableLists) (p : Place) → PlaceWithin env t p → N t p.identifier.0
  placed t p h = names.identifiers t p.identifier.0 h

  pub later : (t u : TableLists) → Extends t u → (s : State) → Stating (N t) F s → Stating (N u) F s
  later t u x s h = stating_on (N t) (N u) F F (names.later t u x) (λ f i. i) s h

  pub key_named : (t : TableLists) (key : TempKey) → KeyKnown (PlaceWithin env t) (CreatesHas F) key
      → KeyNamed (length env.identifiers + length t.temporaries) (length env.functions) key
  key_named t key (of_name into name h) = h
  key_named t key (of_rest f h) = (names.functions f h).0

  pub interned_names : (t : TableLists) (e : AliasingEffect) → EffectNamed env F t e
      → InternedNames (PlaceWithin env t) (Any {X = Option ReportId}) (CreatesHas F) (Any {X = Option TypeId}) e
  interned_names t (effect.Apply receiver function mutates args into signature span) h = tt
  interned_names t e h = (h.0, (tt, (h.1, tt)))

  pub contexts_within : (t : TableLists) (f : FunctionId) → F f → AllByRecursion (PlaceWithin env t) (context_of env f)
  contexts_within t f h = all_mapped (InTable env) (PlaceWithin env t) (in_table_within env t) (context_of env f)
      (names.functions f h).1

abbrev pub naming : (env : Environment) (N : TableLists → ℕ → Type 0) (F : FunctionId → Type 0) → Naming env N F
    → Law env
naming env N F names = record {
  Kept = Counted env F;
  Raised = PlaceWithin env;
  Seen = PlaceWithin env;
  Told = λ t. Any {X = Option ReportId};
  Made = CreatesHas F;
  Typed = Any {X = Option TypeId};
  Valued = Any {X = AbstractValue};
  Here = λ t s. Stating (N t) F s.state;
  no_report = λ t. tt;
  no_function = tt;
  no_type = tt;
  seen = λ t p h. h;
  raised_later = place_grows env;
  seen_later = place_grows env;
  told_later = λ t u x o h. tt;
  here_later = λ t u x s h. later env N F names t u x s.state h;
  interns = λ e t u x k n g is. let a = counted_intern env F e t u x (n.0, n.1.1.0) k is in
      (a.0, interned_names env N F names u x a.1);
  reports = λ id r t u d c k g is. (counted_report env F id r t u d k is, tt);
  numbers = λ key span t u p n k g is. counted_temporary env F key span t k (key_named env N F names t key n) u p is;
  notes = λ r t m k. counted_note env F r t m k;
  records = λ e s t other n h. h;
  misses = λ m s t h. h;
  makes = λ xs s t h. h;
  puts = λ x k v s t p h. named_put (N t) F (PlaceWithin env t) (placed env N F names t) x k v s.state p h;
  assigns = λ a x s t p q h. named_assigned (N t) F x.identifier a.identifier s.state (placed env N F names t x q)
      (placed env N F names t a p) h;
  freezes = λ v r s t p h. named_frozen (N t) F v.identifier r s.state h;
  freezes_through = λ v r s t p h. named_place_frozen_transitively (N t) F r (context_of env) v.identifier s.state h;
  values = λ p s t h. tt;
  calls = λ p s t h. called_has (N t) F s.state p h;
  contexts = λ f t k m. contexts_within env N F names t f m;
  summaries = λ f t k m.
      all_of (Copied env (PlaceWithin env t) (Any {X = Option ReportId}) f)
      (λ e. (
        tt,
        λ v is among. among_known (λ n. n < length env.identifiers + length t.temporaries) (context_of env f) v
            (contexts_within env N F names t f m) among,
      )) (summary (slice_get env.functions f.0));
}
