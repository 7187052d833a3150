use Rattle.alias_fitting_laws.specs.pruning.PutBackLaws.{prunes_back}
use Rattle.alias_fitting_laws.proofs.pruning.put_back_laws.Goals as goal

pub returns : goal.returns
returns c = λ id f g stand_in at none empty other p.
    prunes_back c.args.env.now c.args.after.now id f g stand_in at none empty other p
