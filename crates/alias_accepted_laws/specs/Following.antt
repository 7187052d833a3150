-- How the check of a unit follows its inference: what is the same in both after each function, and what may differ.
use Rattle.std.specs.Prelude.{◌≡◌, ◌⊎◌, ℕ, Bool, true, List, [], length, Option, Result, Ok, Err}
use Rattle.std.specs.List.{AllByRecursion}
use Rattle.alias_base.specs.declared.ids.FunctionId.{FunctionId}
use Rattle.alias_hir.specs.declared.env.Environment.{Environment}
use Rattle.alias_hir.specs.declared.error.Counter.TheVariants.{Diagnostics}
use Rattle.alias_hir.specs.declared.hir.HirFunction.{HirFunction}
use Rattle.alias_lattice.specs.States.{State}
use Rattle.alias_flow.specs.Machine.{SolverState, VisitLog, Solved}
use Rattle.alias_rules.specs.Fitting.{function_fits}
use Rattle.alias_tables.specs.Tables.{TableLists}
use Rattle.alias_tables.specs.declared.reads.ContextRead.{ContextRead}
use Rattle.alias_step.specs.block.Contexts.{context_of}
use Rattle.alias_step.specs.declared.block.recorded.BlockEffects.{BlockEffects}
use Rattle.alias_effects.specs.Inference.{end_of}
use Rattle.alias_effects.specs.Numbered.{visits_end}
use Rattle.alias_effects.specs.Recording.{with_effects_of}
use Rattle.alias_effects.specs.declared.output.PassEnd.{PassEnd}
use Rattle.alias_range_pass.specs.Passes.{Ranged, range_pass}
use Rattle.alias_nested.specs.Analysis.{Analysis}
use Rattle.alias_nested.specs.Order.{SameInSlot}
use Rattle.alias_certificate.specs.declared.fault.CheckFault.{CheckFault}
use Rattle.alias_certificate.specs.declared.fault.CheckFault.TheVariants as fault
use Rattle.alias_cert.specs.Functions.{Checking}
use Rattle.alias_cert.specs.function.Functions.{function_solved}
use Rattle.alias_certificate_laws.specs.accepting.Alike.{Paired, AlikeEffects, AlikeTemporaries, AlikeFunction}
use Rattle.alias_certificate_laws.specs.accepting.Saying.{said_function}
use Rattle.alias_inferred_laws.specs.handed.Handed.{IsNamed}
use Rattle.alias_range_alike_laws.specs.Ranging.{CarriesAlike, NearlyAlike, SameContextAt, SetsContext}
use Rattle.alias_range_alike_laws.specs.Spans.{Respanned}

-- ---- environments

-- all of an environment but identifiers, functions and interned reports
abbrev pub but_seen : Environment → Environment
but_seen env = record env { identifiers = []; functions = []; interned = [] }

-- The other environment is the same, but for spans of identifiers, functions that are seen alike (of the same
-- parameters, context places with their effects, and result, with
-- summaries that are alike), and interned reports.
pub record SeenAlike (env other : Environment) : Type 0 where
  pub identifiers : Paired Respanned env.identifiers other.identifiers
  pub functions : Paired AlikeFunction env.functions other.functions
  pub rest : but_seen other ≡ but_seen env

-- The same while a function is between its two passes, which carries these effects: effects of context places may
-- differ, but only of functions that an instruction creates that carries
-- an effect. The range pass sets these anew.
pub record SeenNearly (f : HirFunction) (env other : Environment) : Type 0 where
  pub identifiers : Paired Respanned env.identifiers other.identifiers
  pub functions : Paired NearlyAlike env.functions other.functions
  pub rest : but_seen other ≡ but_seen env
  pub contexts : (k : ℕ) → SetsContext f k ⊎ SameContextAt env.functions other.functions k

-- ---- one function

-- what a check may end in: what has the property, or no number is left for a report
pub data OrFull {A : Type 0} (P : A → Type 0) (r : Result A CheckFault) : Type 0 where
  done : (x : A) → r ≡ Ok x → P x → OrFull P r
  full : r ≡ Err (fault.TooMany Diagnostics) → OrFull P r

-- each context place that was found to be only read is of a function that an instruction creates that carries an effect
abbrev pub ReadsAreSetIn : HirFunction → List ContextRead → Type 0
ReadsAreSetIn f reads = AllByRecursion (λ (r : ContextRead). SetsContext f r.function.0) reads

-- what the pass of a function ended with, and what the check of it did: temporaries of the same keys and identifiers,
-- effects that are alike, and reads of functions that are set anew
pub record EndsAlike (func : HirFunction) (e o : PassEnd) : Type 0 where
  pub temporaries : AlikeTemporaries e.solved.temporaries o.solved.temporaries
  pub carries : CarriesAlike (with_effects_of e.solved func) (with_effects_of o.solved func)
  pub reads : ReadsAreSetIn (with_effects_of e.solved func) o.reads

-- the check of a function follows its effects pass
abbrev pub PassesAreFollowed : Type 0
PassesAreFollowed =
    (env other : Environment) (func : HirFunction) (b : Bool) (w : SolverState (VisitLog State) TableLists BlockEffects)
    → function_fits func env ≡ true → visits_end (context_of env func b) ≡ Solved w → SeenAlike env other
    → (id : Option FunctionId) (summary : List (List ℕ))
    → OrFull (EndsAlike func (end_of func w))
    (function_solved (said_function id func w.progress.joined_input w.recorded w.tables.temporaries summary) other
    func b)

-- what an effects pass notes of context places is set anew
abbrev pub ReadsAreSet : Type 0
ReadsAreSet =
    (env : Environment) (func : HirFunction) (b : Bool) (w : SolverState (VisitLog State) TableLists BlockEffects)
    → function_fits func env ≡ true → visits_end (context_of env func b) ≡ Solved w
    → ReadsAreSetIn (with_effects_of (end_of func w).solved func) (end_of func w).reads

-- what the range pass gives in the check
pub record RangeFollowed (other : Environment) (g : HirFunction) (b : Bool) (r : Ranged) : Type 0 where
  pub there : Ranged
  pub is : range_pass b g other ≡ Ok there
  pub summary : AlikeEffects r.summary there.summary
  pub function : CarriesAlike r.after.0 there.after.0
  pub nested : b ≡ true → SeenAlike r.after.1 there.after.1

-- the range pass of the check follows that of the inference; of a nested function the environments are seen alike again
abbrev pub RangesAreFollowed : Type 0
RangesAreFollowed =
    (env other : Environment) (f g : HirFunction) (b : Bool) (r : Ranged) → SeenNearly f env other → CarriesAlike f g
    → range_pass b f env ≡ Ok r → RangeFollowed other g b r

-- ---- the walk over the functions of a unit

-- After the functions that were analysed so far, as many were checked, and the environments are seen alike. In the
-- slots of others stand the same functions.
pub record Follows (a : Analysis) (c : Checking) : Type 0 where
  pub alike : SeenAlike a.env c.env
  pub count : length c.functions ≡ length a.functions
  pub slots : (id : FunctionId) → (IsNamed id a.functions → ⊥) → SameInSlot a.env c.env id.0
