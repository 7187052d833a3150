use Rattle.std.proofs.Common.{◌≡◌, ◌++◌, length}
use Rattle.std.specs.List.{AllByRecursion}
use Rattle.alias_lattice.specs.SiteOrder.{site_cmp}
use Rattle.alias_text.specs.Certificates.{sites_text}
use Rattle.alias_text.specs.Fitting.{SmallEntry}
use Rattle.alias_lattice.specs.WalkLaws.{left_after}
use Rattle.alias_text.proofs.certificates.push_sites.Given as goal

-- the sites that are left complete the text, and all are small where they are
abbrev pub invariant-sites : goal.invariant-sites
invariant-sites l =
    (l.out ++ sites_text (left_after site_cmp l.after l.sites) ≡ l.initial.out ++ sites_text l.sites)
    × (AllByRecursion SmallEntry (left_after site_cmp l.after l.sites) → AllByRecursion SmallEntry l.sites)

abbrev pub decreases-sites : goal.decreases-sites
decreases-sites l = length (left_after site_cmp l.after l.sites)
