-- The range pass gives what is alike.
use Rattle.alias_range_alike_laws.proofs.Ranging.{ranges_elsewhere}
use Rattle.alias_range_alike_laws.proofs.laws.range_law.Goals as goal

pub returns : goal.returns
returns c = λ env o f g b r carries answers. ranges_elsewhere env o f g b r carries answers
