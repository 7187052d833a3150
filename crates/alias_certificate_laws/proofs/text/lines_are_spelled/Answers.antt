use Rattle.alias_certificate_laws.proofs.text.LineInverse.{line_is}
use Rattle.alias_certificate_laws.proofs.text.lines_are_spelled.Goals as goal

pub returns : goal.returns
returns c = line_is
