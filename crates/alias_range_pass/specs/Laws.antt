-- What holds of range ends after the pass, and what the pass keeps on every answer.
use Rattle.std.specs.Prelude.{◌≡◌, ℕ, ◌≤◌, ◌⊎◌, List, [], map}
use Rattle.alias_hir.specs.declared.env.Environment.{Environment}
use Rattle.alias_hir.specs.declared.env.Identifier.{Identifier}
use Rattle.alias_hir.specs.declared.hir.HirFunction.{HirFunction}
use Rattle.alias_hir.specs.declared.hir.Instruction.{Instruction}
use Rattle.alias_hir.specs.declared.hir.ParamPattern.{ParamPattern}
use Rattle.alias_hir.specs.declared.hir.ParamPattern.TheVariants as param
use Rattle.alias_graph.specs.Nodes.{Nodes}
use Rattle.alias_graph.specs.Reach.{end_at}
use Rattle.alias_graph.specs.Renders.{Grown}
use Rattle.alias_graph.specs.declared.recorded.listing.RecordedMutation.{RecordedMutation}
use Rattle.alias_range_pass.specs.places.Causes.{InstructionCause}
use Rattle.alias_range_pass.specs.places.Keeping.{but_range, but_effect, but_context, but_effects}
use Rattle.alias_range_pass.specs.summary.Laws.{MutationCause}

-- each range end is that of before, or one past a recorded mutation that a legal path joins to the identifier, or one
-- past an instruction that assigns or stores it
abbrev pub Causes : Nodes → List RecordedMutation → List Instruction → List Identifier → List Identifier → Type 0
Causes g ms is old new = (k : ℕ) → (end_at new k ≡ end_at old k)
    ⊎ (MutationCause g ms k (end_at new k) ⊎ InstructionCause is k (end_at new k))

-- all of the environment but reports, ranges and the effects of context places
abbrev pub but_inferred : Environment → Environment
but_inferred env = record env {
  identifiers = map but_range env.identifiers;
  functions = map but_context env.functions;
  errors = [];
}

-- nothing but ranges, effects of context places and reports changes, no end falls, and no report goes
pub record PassKeeps (old new : Environment) : Type 0 where
  pub rest : but_inferred new ≡ but_inferred old
  pub ends : (i : ℕ) → end_at old.identifiers i ≤ end_at new.identifiers i
  pub errors : Grown old.errors new.errors

abbrev pub but_param : ParamPattern → ParamPattern
but_param (param.Place p) = param.Place (but_effect p)
but_param (param.Spread s) = param.Spread (record s { place = but_effect s.place })

-- all of a function but the effects of its places
abbrev pub but_places : HirFunction → HirFunction
but_places f = record (but_effects f) { params = map but_param f.params; context = map but_effect f.context }
