use Rattle.std.proofs.Common.{◌≡◌, [], drop}
use Rattle.alias_certificate.specs.states.States.{with_sites}
use Rattle.alias_certificate.proofs.states.set_of.Given as goal

abbrev pub invariant-loop-site : goal.invariant-loop-site
invariant-loop-site l = with_sites (drop l.site-index l.sites) l.set ≡ with_sites l.sites []
