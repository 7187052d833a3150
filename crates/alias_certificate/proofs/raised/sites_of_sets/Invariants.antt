use Rattle.std.proofs.Common.{◌≡◌, ◌++◌, length}
use Rattle.alias_lattice.specs.Keys.{id_cmp}
use Rattle.alias_lattice.specs.WalkLaws.{left_after}
use Rattle.alias_certificate.specs.states.Beyond.{more_variables}
use Rattle.alias_certificate.proofs.raised.sites_of_sets.Given as goal

-- what is found of the sets that are left completes what was found
abbrev pub invariant-variables : goal.invariant-variables
invariant-variables l = l.more ++ more_variables l.old (left_after id_cmp l.after l.sets)
    ≡ more_variables l.old l.sets

abbrev pub decreases-variables : goal.decreases-variables
decreases-variables l = length (left_after id_cmp l.after l.sets)
