use Rattle.alias_key_laws.proofs.KeySites.{one_key_one_site}
use Rattle.alias_key_laws.proofs.keys.key_sites.Goals as goal

pub returns : goal.returns
returns c = λ e f h. one_key_one_site e f h
