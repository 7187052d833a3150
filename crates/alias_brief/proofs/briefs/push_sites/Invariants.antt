use Rattle.std.proofs.Common.{◌≡◌, ◌++◌, take}
use Rattle.std.specs.List.{AllByRecursion, flat_map}
use Rattle.alias_text.specs.Certificates.{spaced_site}
use Rattle.alias_text.specs.Fitting.{SmallSite}
use Rattle.alias_brief.proofs.briefs.push_sites.Given as goal

abbrev pub invariant-loop-site : goal.invariant-loop-site
invariant-loop-site l = (l.out ≡ l.initial.out ++ flat_map spaced_site (take l.site-index l.sites))
    × AllByRecursion SmallSite (take l.site-index l.sites)
