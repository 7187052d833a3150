use Rattle.alias_fitting_laws.specs.pruning.PassLaws.{pass_prunes}
use Rattle.alias_fitting_laws.specs.pruning.PruningLaws.{fits_pruned}
use Rattle.alias_fitting_laws.proofs.pruning.pruning_laws.Goals as goal

pub returns : goal.returns
returns c = record {
  fits = λ p t g h. fits_pruned c.args.env.now c.args.more.now p t g h;
  passes = λ f g k. pass_prunes f c.args.env.now g c.args.more.now k;
}
