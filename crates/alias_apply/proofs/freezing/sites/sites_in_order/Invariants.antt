use Rattle.std.proofs.Common.{◌≡◌, ◌++◌, length}
use Rattle.alias_apply.specs.freezing.Sites.{in_order, above}
use Rattle.alias_apply.proofs.freezing.sites.sites_in_order.Given as goal

-- the sites so far, and those that are left
abbrev pub invariant-sites : goal.invariant-sites
invariant-sites l = l.listed.items ++ in_order (above l.after l.sites) ≡ in_order l.sites

abbrev pub decreases-sites : goal.decreases-sites
decreases-sites l = length (above l.after l.sites)
