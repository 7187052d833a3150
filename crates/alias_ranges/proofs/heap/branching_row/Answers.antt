use Rattle.alias_ranges.proofs.heap.RowLaws.{branching_forward, branching_once, branching_recorded, branching_writes}
use Rattle.alias_ranges.proofs.heap.RowLaws.{branching_reaches, branching_apart, branching_ends}
use Rattle.alias_ranges.proofs.heap.branching_row.Goals as goal

pub returns : goal.returns
returns c = record {
  forward = branching_forward;
  once = branching_once;
  listed = branching_recorded;
  writes = branching_writes;
  reaches = branching_reaches;
  apart = branching_apart;
  ends = branching_ends;
}
