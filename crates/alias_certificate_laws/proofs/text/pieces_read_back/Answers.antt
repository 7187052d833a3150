use Rattle.alias_certificate_laws.proofs.text.Inverse.{number_is, site_is, key_is}
use Rattle.alias_certificate_laws.proofs.text.Lists.{reasons_back}
use Rattle.alias_certificate_laws.proofs.text.Pieces.{number_back, site_back, key_back}
use Rattle.alias_certificate_laws.proofs.text.ReasonInverse.{reasons_is}
use Rattle.alias_certificate_laws.proofs.text.pieces_read_back.Goals as goal

pub returns-clause-numbers : goal.returns-clause-numbers
returns-clause-numbers c = (number_back, number_is)

pub returns-clause-sites : goal.returns-clause-sites
returns-clause-sites c = (site_back, site_is)

pub returns-clause-reasons : goal.returns-clause-reasons
returns-clause-reasons c = (reasons_back, reasons_is)

pub returns-clause-keys : goal.returns-clause-keys
returns-clause-keys c = (key_back, key_is)
