use Rattle.alias_fitting_laws.specs.bare.BareLaws.{rule_of_bare, fits_with_other_places}
use Rattle.alias_fitting_laws.proofs.bare.bare_laws.Goals as goal

pub returns : goal.returns
returns c = record {
  rules = λ r o f g e. rule_of_bare r c.args.env.now o f g e;
  fits = λ f g e h. fits_with_other_places f g c.args.env.now e h;
}
