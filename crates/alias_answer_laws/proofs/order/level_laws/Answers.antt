use Rattle.alias_answer_laws.proofs.order.Levels.{fits_within}
use Rattle.alias_answer_laws.proofs.order.level_laws.Goals as goal

pub returns : goal.returns
returns c = record { levels = fits_within }
