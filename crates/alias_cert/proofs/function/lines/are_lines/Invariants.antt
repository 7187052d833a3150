use Rattle.std.proofs.Common.{◌≡◌, ◌-◌, length, None}
use Rattle.std.specs.Prelude.{slice_index_or}
use Rattle.std.specs.List.{list_all}
use Rattle.alias_flow.specs.Machine.{up}
use Rattle.alias_effects.specs.Inference.{block_at}
use Rattle.alias_cert.specs.function.Blocks.{line_is}
use Rattle.alias_cert.proofs.function.lines.are_lines.Given as goal

abbrev pub invariant-loop-index : goal.invariant-loop-index
invariant-loop-index l =
    list_all (λ i. line_is l.lines (block_at l.blocks i) (slice_index_or l.numbers i None))
    (up l.index (length l.blocks - l.index))
    ≡ list_all (λ i. line_is l.lines (block_at l.blocks i) (slice_index_or l.numbers i None)) (up 0 (length l.blocks))
