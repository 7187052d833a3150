use Rattle.alias_key_laws.proofs.sites.Steps.{step_gives, interned_gives}
use Rattle.alias_key_laws.proofs.sites.site_laws.Goals as goal

pub returns-clause-given : goal.returns-clause-given
returns-clause-given c = λ context e s u t v i. step_gives context e s t v u i

pub returns-clause-interned : goal.returns-clause-interned
returns-clause-interned c = λ context e s u t v i. interned_gives context e s t v u i
