-- The entry states of a pass name what is there, and its temporaries are counted on.
use Rattle.std.specs.Prelude.{slice_get}
use Rattle.std.specs.List.{AllByRecursion, list_all, flat_map}
use Rattle.std.proofs.Common.{◌≡◌, ℕ, ◌+◌, ◌<◌, Bool, true, false, ◌||◌, ◌==◌, List, [], ◌∷◌, ◌++◌, length, Option}
use Rattle.std.proofs.Common.{Some, None, refl, subst, eq-eqb}
use Rattle.std.proofs.lemmas.Bool.{lt-ltb}
use Rattle.alias_base.specs.declared.ids.BlockId.{BlockId}
use Rattle.alias_base.specs.declared.ids.FunctionId.{FunctionId}
use Rattle.alias_base.specs.declared.ids.IdentifierId.{IdentifierId}
use Rattle.alias_base.specs.declared.ids.InstructionId.{InstructionId}
use Rattle.alias_hir.specs.Values.{created}
use Rattle.alias_hir.specs.declared.env.Environment.{Environment}
use Rattle.alias_hir.specs.declared.hir.BasicBlock.{BasicBlock}
use Rattle.alias_hir.specs.declared.hir.HirFunction.{HirFunction}
use Rattle.alias_hir.specs.declared.hir.Instruction.{Instruction}
use Rattle.alias_lattice.specs.States.{State, Sites}
use Rattle.alias_lattice.specs.declared.site.Site.{Site}
use Rattle.alias_lattice.specs.declared.site.Site.TheVariants as site
use Rattle.alias_lattice.specs.declared.value.AbstractValue.{AbstractValue}
use Rattle.alias_flow.specs.Machine.{SolverState, VisitLog, Solved}
use Rattle.alias_flow.specs.RecordingLaws.{HoldsOf}
use Rattle.alias_rules.specs.Fitting.{function_fits}
use Rattle.alias_rules.specs.RuleLaws.{fitting_entry}
use Rattle.alias_tables.specs.Tables.{TableLists}
use Rattle.alias_tables.specs.declared.temp_key.TempKey.{TempKey}
use Rattle.alias_tables.specs.declared.temp_key.TempKey.TheVariants as key
use Rattle.alias_tables.specs.declared.temporaries.Temporary.{Temporary}
use Rattle.alias_step.specs.block.Contexts.{context_of}
use Rattle.alias_step.specs.declared.block.recorded.BlockEffects.{BlockEffects}
use Rattle.alias_effects.specs.Numbered.{visits_end}
use Rattle.alias_nested.specs.Created.{one_of, created_by, created_by_all, created_functions}
use Rattle.alias_nesting_laws.specs.FittingLaws.{together}
use Rattle.alias_certificate.specs.states.States.{is_created, is_site_there}
use Rattle.alias_cert.specs.function.Temporaries.{is_key_there}
use Rattle.alias_effects_laws.specs.entries.Named.{SiteNamed, SitesNamed, StateNamed, KeyNamed, AreNumbered, CreatesAt}
use Rattle.alias_effects_laws.specs.entries.Named.{CreatesHas, BlocksCreate, EntriesNamed}
use Rattle.alias_effects_laws.proofs.entries.Entries.{entries_named}
use Rattle.alias_certificate_laws.specs.accepting.Certifying.{NamesItsOwn, IsAcceptedAsSaid}
use Rattle.alias_certificate_laws.specs.accepting.Saying.{NamesThere, AreCounted}
use Rattle.alias_effects_laws.proofs.entries.Keeping.{at_holds}
use Rattle.alias_certificate_laws.proofs.accepting.Passing.{pass_accepted}
use Rattle.alias_walks.specs.Words.{all_mapped as all_on}

-- ---- lists

parts_of : {X : Type 0} (Q : X → Type 0) (xs ys : List X) → AllByRecursion Q (xs ++ ys) → AllByRecursion Q xs
    × AllByRecursion Q ys
parts_of Q [] ys h = (tt, h)
parts_of Q (x ∷ xs) ys h = let b = parts_of Q xs ys h.1 in ((h.0, b.0), b.1)

each_of : {A X : Type 0} (Q : X → Type 0) (f : A → List X) (as_ : List A) → AllByRecursion Q (flat_map f as_)
    → AllByRecursion (λ a. AllByRecursion Q (f a)) as_
each_of Q f [] h = tt
each_of Q f (a ∷ as_) h = let b = parts_of Q (f a) (flat_map f as_) h in (b.0, each_of Q f as_ b.1)

or_front : (a b : Bool) → a ≡ true → (a || b) ≡ true
or_front true b h = refl
or_front false b h = cc

or_back : (a b : Bool) → b ≡ true → (a || b) ≡ true
or_back true b h = refl
or_back false b h = h

-- ---- the functions that are created

all_created : (fs : List FunctionId) → AllByRecursion (λ f. is_created fs f ≡ true) fs
all_created [] = tt
all_created (f ∷ fs) = (
  or_front (f.0 == f.0) (is_created fs f) (eq-eqb f.0 f.0 refl),
  all_on (λ g. is_created fs g ≡ true) (λ g. is_created (f ∷ fs) g ≡ true) (λ g. or_back (f.0 == g.0) (is_created fs g))
      fs (all_created fs),
)

module _ (func : HirFunction) where
  abbrev IsOne : FunctionId → Type 0
  IsOne f = is_created (created_functions func) f ≡ true

  one_has : (o : Option FunctionId) → AllByRecursion IsOne (one_of o) → CreatesHas IsOne o
  one_has None h = tt
  one_has (Some f) h = h.0

  at_has : (o : Option Instruction) → AllByRecursion IsOne (created_by o) → CreatesAt IsOne o
  at_has None h = tt
  at_has (Some x) h = one_has (created x.value) h

  blocks_create : BlocksCreate IsOne func
  blocks_create =
      all_on (λ (b : BlockId × BasicBlock). AllByRecursion IsOne (created_by_all func b.1.instructions))
      (λ (b : BlockId × BasicBlock). AllByRecursion
      (λ (i : InstructionId). CreatesAt IsOne (slice_get func.instructions i.0)) b.1.instructions)
      (λ b h. all_on (λ (i : InstructionId). AllByRecursion IsOne (created_by (slice_get func.instructions i.0)))
      (λ (i : InstructionId). CreatesAt IsOne (slice_get func.instructions i.0))
      (λ i. at_has (slice_get func.instructions i.0)) b.1.instructions
      (each_of IsOne (λ (i : InstructionId). created_by (slice_get func.instructions i.0)) b.1.instructions h))
      func.body.blocks (each_of IsOne (λ (b : BlockId × BasicBlock). created_by_all func b.1.instructions)
      func.body.blocks (all_created (created_functions func)))

-- ---- states

module _ (n : ℕ) (created : List FunctionId) where
  abbrev Below : ℕ → Type 0
  Below k = k < n

  abbrev Created : FunctionId → Type 0
  Created f = is_created created f ≡ true

  site_there : (k : Site) → SiteNamed Below Created k → is_site_there n created k ≡ true
  site_there (site.Parameter x) h = lt-ltb x.0 n h
  site_there (site.Context x) h = lt-ltb x.0 n h
  site_there (site.Created into kind reason) h = lt-ltb into.0 n h
  site_there (site.CreatedFrom from into) h = together _ _ (lt-ltb from.0 n h.0) (lt-ltb into.0 n h.1)
  site_there (site.Function f) h = h
  site_there (site.AssignFrozen from into) h = together _ _ (lt-ltb from.0 n h.0) (lt-ltb into.0 n h.1)
  site_there (site.AssignCopy from into) h = together _ _ (lt-ltb from.0 n h.0) (lt-ltb into.0 n h.1)
  site_there (site.Default x) h = lt-ltb x.0 n h

  values_there : (vs : List (Site × AbstractValue))
      → AllByRecursion (λ (e : Site × AbstractValue). SiteNamed Below Created e.0) vs
      → list_all (λ (e : Site × AbstractValue). is_site_there n created e.0) vs ≡ true
  values_there [] h = refl
  values_there (e ∷ es) h = together (is_site_there n created e.0)
      (list_all (λ (e : Site × AbstractValue). is_site_there n created e.0) es) (site_there e.0 h.0)
      (values_there es h.1)

  state_there : (s : State) → StateNamed Below Created s → NamesThere n created s
  state_there s h = record {
    values = values_there s.values h.values;
    variables = all_on (λ (e : IdentifierId × Sites). Below e.0.0 × SitesNamed Below Created e.1)
        (λ (e : IdentifierId × Sites). e.0.0 < n) (λ e i. i.0) s.variables h.variables;
  }

-- ---- temporaries

key_there : (n f : ℕ) (k : TempKey) → KeyNamed n f k → is_key_there n f k ≡ true
key_there n f (key.Named x name) h = lt-ltb x.0 n h
key_there n f (key.Rest g) h = lt-ltb g.0 f h

are_counted : (env : Environment) (done xs : List Temporary) → AreNumbered env done xs → AreCounted env done xs
are_counted env done [] h = tt
are_counted env done (x ∷ xs) h = (
  h.0.0,
  h.0.1,
  key_there (length env.identifiers + length done) (length env.functions) x.key h.0.2,
  h.0.3,
  are_counted env (done ++ x ∷ []) xs h.1,
)

-- ---- a pass

module _ (env : Environment) (func : HirFunction) (e : Bool) (w : SolverState (VisitLog State) TableLists BlockEffects)
    (fits : function_fits func env ≡ true)
    (ends : visits_end (context_of env func e) ≡ Solved w) where
  named : EntriesNamed env (IsOne func) w
  named = entries_named func env e fits (IsOne func) (blocks_create func) w ends

  pub names_there : NamesItsOwn env func e w.tables w.progress.joined_input
  names_there =
      let n = length env.identifiers + length w.tables.temporaries in
      record {
        states = λ b s is. state_there n (created_functions func) s
            (subst (HoldsOf (StateNamed (λ k. k < n) (IsOne func))) is
            (at_holds (StateNamed (λ k. k < n) (IsOne func)) w.progress.joined_input b named.states));
        temporaries = are_counted env [] w.tables.temporaries named.temporaries;
      }

  pub pass_is_accepted : IsAcceptedAsSaid env func e w.tables w.progress.joined_input w.recorded
  pass_is_accepted = pass_accepted env func e (fitting_entry func env fits) w ends names_there
