use Rattle.std.proofs.Common.{◌≡◌, ◌++◌, length}
use Rattle.std.specs.Prelude.{option_map}
use Rattle.alias_lattice.specs.SiteOrder.{site_cmp}
use Rattle.alias_lattice.specs.WalkLaws.{left_after}
use Rattle.alias_certificate.specs.states.Beyond.{more_sites}
use Rattle.alias_certificate.proofs.beyond.more_sites.Given as goal

-- what is found of the sites that are left completes what was found
abbrev pub invariant-sites : goal.invariant-sites
invariant-sites l = l.more ++ more_sites (option_map (λ t. t.now) l.old) (left_after site_cmp l.after l.sites)
    ≡ more_sites (option_map (λ t. t.now) l.old) l.sites

abbrev pub decreases-sites : goal.decreases-sites
decreases-sites l = length (left_after site_cmp l.after l.sites)
