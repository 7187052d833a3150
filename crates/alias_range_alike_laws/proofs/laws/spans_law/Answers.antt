-- The range pass reads no span of an identifier.
use Rattle.alias_range_alike_laws.proofs.Spanning.{reads_no_span}
use Rattle.alias_range_alike_laws.proofs.laws.spans_law.Goals as goal

pub returns : goal.returns
returns c = λ env is f b r spans answers. reads_no_span env is f b r spans answers
