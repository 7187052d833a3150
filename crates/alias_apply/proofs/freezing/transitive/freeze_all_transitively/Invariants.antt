use Rattle.std.proofs.Common.{◌≡◌, drop}
use Rattle.alias_apply.specs.freezing.Contexts.{context_of}
use Rattle.alias_apply.specs.freezing.Transitive.{frozen_transitively, at_sites}
use Rattle.alias_apply.proofs.freezing.transitive.freeze_all_transitively.Given as goal

-- the sites that are left go where all of them do
abbrev pub invariant-loop-site : goal.invariant-loop-site
invariant-loop-site l = at_sites (frozen_transitively l.reason (context_of l.env)) (drop l.site-index l.sites) l.state
    ≡ at_sites (frozen_transitively l.reason (context_of l.env)) l.sites l.initial.state
