use Rattle.alias_walks.specs.Proper.{fine_intern_and_apply_plain}
use Rattle.alias_walks.specs.Replaying.{again_intern_and_apply_plain}
use Rattle.alias_walks.proofs.steps.effect_laws.Goals as goal

pub returns : goal.returns
returns c = record { replays = again_intern_and_apply_plain; proper = fine_intern_and_apply_plain }
