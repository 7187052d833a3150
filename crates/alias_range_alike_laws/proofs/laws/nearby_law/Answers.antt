-- The range pass gives what is nearly alike.
use Rattle.alias_range_alike_laws.proofs.Ranging.{ranges_nearby}
use Rattle.alias_range_alike_laws.proofs.laws.nearby_law.Goals as goal

pub returns : goal.returns
returns c = λ env o f g b r carries answers. ranges_nearby env o f b r g carries answers
