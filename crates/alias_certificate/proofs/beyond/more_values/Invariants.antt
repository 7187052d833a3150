use Rattle.std.proofs.Common.{◌≡◌, ◌++◌, length}
use Rattle.alias_lattice.specs.SiteOrder.{site_cmp}
use Rattle.alias_lattice.specs.WalkLaws.{left_after}
use Rattle.alias_certificate.specs.states.Beyond.{more_values}
use Rattle.alias_certificate.proofs.beyond.more_values.Given as goal

-- what is found of the values that are left completes what was found
abbrev pub invariant-values : goal.invariant-values
invariant-values l = l.more ++ more_values l.old (left_after site_cmp l.after l.state.values)
    ≡ more_values l.old l.state.values

abbrev pub decreases-values : goal.decreases-values
decreases-values l = length (left_after site_cmp l.after l.state.values)
