use Rattle.alias_ranges.proofs.heap.HeapLaws.{heap_is_covered}
use Rattle.alias_ranges.proofs.heap.heap_reading.Goals as goal

pub returns : goal.returns
returns c = heap_is_covered
