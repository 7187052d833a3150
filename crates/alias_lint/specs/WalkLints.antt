-- The reports of the root's error effects, of the walks of its mutations and of its renders, with their places.
use Rattle.std.specs.Prelude.{List, [], ◌∷◌, ◌++◌, Option, Some, None, cond, fold, slice_get}
use Rattle.std.specs.List.{flat_map}
use Rattle.alias_base.specs.declared.ids.BlockId.{BlockId}
use Rattle.alias_base.specs.declared.ids.InstructionId.{InstructionId}
use Rattle.alias_hir.specs.declared.effect.AliasingEffect.{AliasingEffect}
use Rattle.alias_hir.specs.declared.env.Environment.{Environment}
use Rattle.alias_hir.specs.declared.hir.BasicBlock.{BasicBlock}
use Rattle.alias_hir.specs.declared.hir.HirFunction.{HirFunction}
use Rattle.alias_hir.specs.declared.hir.Instruction.{Instruction}
use Rattle.alias_hir.specs.declared.report.Report.{Report}
use Rattle.alias_hir.specs.ReportNumbers.{effect_reports}
use Rattle.alias_graph.specs.Nodes.{Nodes}
use Rattle.alias_graph.specs.Renders.{rendered, render_reports}
use Rattle.alias_graph.specs.Reports.{reports_after}
use Rattle.alias_graph.specs.declared.recorded.listing.Listing.{Listing}
use Rattle.alias_graph.specs.declared.recorded.listing.RecordedMutation.{RecordedMutation}
use Rattle.alias_graph.specs.declared.recorded.listing.RecordedRender.{RecordedRender}
use Rattle.alias_graph.specs.recorded.Recording.{graph_listed}
use Rattle.alias_range_pass.specs.summary.Walking.{start_origin, expanded, mutation_start, nodes_after}
use Rattle.alias_lint.specs.declared.sites.Lint.{Lint}
use Rattle.alias_lint.specs.Sites.{site, lints_at, in_root}

-- ---- error effects

abbrev pub recorded : Option (List AliasingEffect) → List AliasingEffect
recorded None = []
recorded (Some es) = es

abbrev pub effects_at : Option Instruction → List AliasingEffect
effects_at None = []
effects_at (Some i) = recorded i.effects

abbrev pub instruction_lints : Environment → HirFunction → BlockId → InstructionId → List Lint
instruction_lints env f b i = lints_at (site None b (Some i))
    (effect_reports env.interned (effects_at (slice_get f.instructions i.0)))

abbrev pub block_lints : Environment → HirFunction → BlockId × BasicBlock → List Lint
block_lints env f e = flat_map (instruction_lints env f e.0) e.1.instructions

-- each error effect's report, at the instruction that records it
abbrev pub effect_lints : Environment → HirFunction → List Lint
effect_lints env f = flat_map (block_lints env f) f.body.blocks

-- ---- walks

abbrev pub walk_reports : Environment → Nodes → RecordedMutation → List Report
walk_reports env g m = reports_after env m.index (start_origin (mutation_start m)) g (expanded g (mutation_start m))

abbrev pub after_walk : Nodes → RecordedMutation → Nodes
after_walk g m = nodes_after (mutation_start m) g

-- what the walk of each mutation reports, at the instruction that recorded the mutation
abbrev pub mutation_lints : Environment → HirFunction → Nodes → List RecordedMutation → List Lint
mutation_lints env f g [] = []
mutation_lints env f g (m ∷ ms) = lints_at (in_root f m.instruction) (walk_reports env g m)
    ++ mutation_lints env f (after_walk g m) ms

abbrev pub render_lint : Environment → HirFunction → Nodes → RecordedRender → List Lint
render_lint env f g r = lints_at (in_root f r.instruction)
    (render_reports env g (rendered g r.index r.place.identifier).done)

-- the same of each render
abbrev pub render_lints : Environment → HirFunction → Nodes → List RecordedRender → List Lint
render_lints env f g rs = flat_map (render_lint env f g) rs

-- those of the walks and renders of what is listed, over a graph
abbrev pub found_lints : Environment → HirFunction → Nodes → Listing → List Lint
found_lints env f g l = mutation_lints env f g l.mutations
    ++ render_lints env f (fold after_walk g l.mutations) l.renders

-- the error effects first
abbrev pub walked_lints : Environment → HirFunction → Listing → List Lint
walked_lints env f l = effect_lints env f ++ found_lints env f (graph_listed l) l

-- none where validations are off
abbrev pub walk_lints : Environment → HirFunction → Listing → List Lint
walk_lints env f l = cond env.config.enable_validations (walked_lints env f l) []
