-- States that name identifiers with N and functions with F alone, and temporaries that are counted on from the
-- identifiers.
use Rattle.std.specs.Prelude.{◌≡◌, true, ℕ, ◌+◌, ◌<◌, List, [], ◌∷◌, ◌++◌, length, Option, None, Some, slice_get}
use Rattle.std.specs.List.{AllByRecursion}
use Rattle.alias_base.specs.declared.ids.BlockId.{BlockId}
use Rattle.alias_base.specs.declared.ids.FunctionId.{FunctionId}
use Rattle.alias_base.specs.declared.ids.IdentifierId.{IdentifierId}
use Rattle.alias_base.specs.declared.ids.InstructionId.{InstructionId}
use Rattle.alias_flow.specs.Machine.{SolverState, VisitLog}
use Rattle.alias_flow.specs.RecordingLaws.{AllHold}
use Rattle.alias_hir.specs.Values.{created}
use Rattle.alias_hir.specs.declared.env.Environment.{Environment}
use Rattle.alias_hir.specs.declared.hir.BasicBlock.{BasicBlock}
use Rattle.alias_hir.specs.declared.hir.HirFunction.{HirFunction}
use Rattle.alias_hir.specs.declared.hir.Instruction.{Instruction}
use Rattle.alias_lattice.specs.States.{State, Sites}
use Rattle.alias_lattice.specs.declared.site.Site.{Site}
use Rattle.alias_lattice.specs.declared.site.Site.TheVariants as site
use Rattle.alias_lattice.specs.declared.value.AbstractValue.{AbstractValue}
use Rattle.alias_step.specs.declared.block.recorded.BlockEffects.{BlockEffects}
use Rattle.alias_tables.specs.Tables.{TableLists, has_room}
use Rattle.alias_tables.specs.Temporaries.{temp_like}
use Rattle.alias_tables.specs.declared.temp_key.TempKey.{TempKey}
use Rattle.alias_tables.specs.declared.temp_key.TempKey.TheVariants as key
use Rattle.alias_tables.specs.declared.temporaries.Temporary.{Temporary}

module _ (N : ℕ → Type 0) (F : FunctionId → Type 0) where
  -- the identifiers of the site have N, and its function has F
  abbrev pub SiteNamed : Site → Type 0
  SiteNamed (site.Parameter x) = N x.0
  SiteNamed (site.Context x) = N x.0
  SiteNamed (site.Created into kind reason) = N into.0
  SiteNamed (site.CreatedFrom from into) = N from.0 × N into.0
  SiteNamed (site.Function f) = F f
  SiteNamed (site.AssignFrozen from into) = N from.0 × N into.0
  SiteNamed (site.AssignCopy from into) = N from.0 × N into.0
  SiteNamed (site.Default x) = N x.0

  abbrev pub SitesNamed : Sites → Type 0
  SitesNamed t = AllByRecursion (λ (e : Site × Unit {0}). SiteNamed e.0) t

  -- the sites that have values are named so, and so is each variable with its sites
  pub record StateNamed (s : State) : Type 0 where
    pub values : AllByRecursion (λ (e : Site × AbstractValue). SiteNamed e.0) s.values
    pub variables : AllByRecursion (λ (e : IdentifierId × Sites). N e.0.0 × SitesNamed e.1) s.variables

-- what the key names is below the numbers of identifiers and functions
abbrev pub KeyNamed : ℕ → ℕ → TempKey → Type 0
KeyNamed identifiers functions (key.Named x name) = x.0 < identifiers
KeyNamed identifiers functions (key.Rest f) = f.0 < functions

-- behind those that are done: the temporary has the next number, of which there is one left, and a key that none of
-- them has and that names what is there
abbrev pub IsNext : Environment → List Temporary → Temporary → Type 0
IsNext env done x =
    (x.place.identifier.0 ≡ length env.identifiers + length done) × (temp_like x.key done ≡ None)
    × KeyNamed (length env.identifiers + length done) (length env.functions) x.key
    × (has_room (length env.identifiers) (length env.types) (length done) ≡ true)

-- behind those that are done, each temporary is the next
abbrev pub AreNumbered : Environment → List Temporary → List Temporary → Type 0
AreNumbered env done [] = Unit {0}
AreNumbered env done (x ∷ rest) = IsNext env done x × AreNumbered env (done ++ x ∷ []) rest

-- ---- a function

-- the function that is created, if one is, has F
abbrev pub CreatesHas : (FunctionId → Type 0) → Option FunctionId → Type 0
CreatesHas F None = Unit {0}
CreatesHas F (Some f) = F f

-- where there is an instruction, the function that it creates
abbrev pub CreatesAt : (FunctionId → Type 0) → Option Instruction → Type 0
CreatesAt F None = Unit {0}
CreatesAt F (Some x) = CreatesHas F (created x.value)

-- each function that an instruction of a block creates has F
abbrev pub BlocksCreate : (FunctionId → Type 0) → HirFunction → Type 0
BlocksCreate F func = AllByRecursion (λ (b : BlockId × BasicBlock).
    AllByRecursion (λ (i : InstructionId). CreatesAt F (slice_get func.instructions i.0)) b.1.instructions)
    func.body.blocks

-- the entry states at the end of the visits name identifiers of the table and of the temporaries, and functions with F;
-- and the temporaries are counted on
pub record EntriesNamed (env : Environment) (F : FunctionId → Type 0)
    (w : SolverState (VisitLog State) TableLists BlockEffects) : Type 0 where
  pub states : AllHold (StateNamed (λ n. n < length env.identifiers + length w.tables.temporaries) F)
      w.progress.joined_input
  pub temporaries : AreNumbered env [] w.tables.temporaries
