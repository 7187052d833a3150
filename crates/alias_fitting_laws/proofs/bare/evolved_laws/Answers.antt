use Rattle.alias_fitting_laws.specs.bare.EvolvedLaws.{fits_evolved}
use Rattle.alias_fitting_laws.specs.bare.RangedLaws.{evolves_alike}
use Rattle.alias_fitting_laws.proofs.bare.evolved_laws.Goals as goal

pub returns : goal.returns
returns c = record {
  ranges = evolves_alike c.args.env.now c.args.more.now;
  fits = fits_evolved c.args.env.now c.args.more.now;
}
