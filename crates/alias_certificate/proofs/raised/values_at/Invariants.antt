use Rattle.std.proofs.Common.{◌≡◌, ◌++◌, length}
use Rattle.alias_lattice.specs.SiteOrder.{site_cmp}
use Rattle.alias_lattice.specs.WalkLaws.{left_after}
use Rattle.alias_certificate.specs.states.Beyond.{more_value}
use Rattle.alias_certificate.specs.states.Lines.{at_keys}
use Rattle.alias_certificate.proofs.raised.values_at.Given as goal

-- what is found at the sites that are left completes what was found
abbrev pub invariant-values : goal.invariant-values
invariant-values l =
    l.more ++ at_keys site_cmp (more_value l.old) l.state.values (left_after site_cmp l.after l.said.values)
    ≡ at_keys site_cmp (more_value l.old) l.state.values l.said.values

abbrev pub decreases-values : goal.decreases-values
decreases-values l = length (left_after site_cmp l.after l.said.values)
