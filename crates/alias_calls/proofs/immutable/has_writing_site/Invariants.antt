use Rattle.std.proofs.Common.{◌≡◌, length}
use Rattle.alias_apply.specs.freezing.Sites.{in_order, above}
use Rattle.alias_calls.specs.Immutable.{has_writing_site}
use Rattle.alias_calls.proofs.immutable.has_writing_site.Given as goal

-- what is left decides
abbrev pub invariant-sites : goal.invariant-sites
invariant-sites l = has_writing_site l.env (in_order (above l.after l.sites))
    ≡ has_writing_site l.env (in_order l.sites)

abbrev pub decreases-sites : goal.decreases-sites
decreases-sites l = length (above l.after l.sites)
