use Rattle.std.proofs.Common.{◌++◌, ◌∙◌, ap, sym, List, None}
use Rattle.std.specs.FinMap.{find}
use Rattle.alias_lattice.specs.SiteOrder.{site_cmp}
use Rattle.alias_lattice.specs.SiteOrderLaws.{sites_total}
use Rattle.alias_lattice.specs.WalkLaws.{left_after, left-none, left_fewer}
use Rattle.alias_lattice.specs.States.{State}
use Rattle.alias_lattice.specs.declared.site.Site.{Site}
use Rattle.alias_lattice.specs.declared.value.AbstractValue.{AbstractValue}
use Rattle.alias_certificate.specs.declared.certificate.CertValue.{CertValue}
use Rattle.alias_certificate.specs.states.Beyond.{more_value}
use Rattle.alias_certificate.specs.states.Lines.{at_key, at_keys}
use Rattle.alias_certificate.proofs.beyond.Walking.{still_found, now_found}
use Rattle.alias_certificate.proofs.raised.values_at.Goals as goal

-- what is found at a site
abbrev at_site : State → State → Site × AbstractValue → List CertValue
at_site state old l = at_key (more_value old) l.0 (find site_cmp l.0 state.values)

pub values-init : goal.values-init
values-init c =
    let found = at_keys site_cmp (more_value c.args.old.now) c.args.state.now.values in
    ap (λ m. m ++ found (left_after site_cmp None c.args.said.now.values)) c.new-more.ensures
    ∙ ap found (left-none site_cmp c.args.said.now.values)

pub values-smaller : goal.values-smaller
values-smaller c =
    let next = sym c.next_value.ensures ∙ c.in-Some.is in
    left_fewer site_cmp sites_total c.values.after c.args.said.now.values c.in-Some.entry next
    c.recall_proper.ensures.values.0

pub values-preserved : goal.values-preserved
values-preserved c =
    let next = sym c.next_value.ensures ∙ c.in-Some.is in
    still_found site_cmp (at_site c.args.state.now c.args.old.now) sites_total
    (at_keys site_cmp (more_value c.args.old.now) c.args.state.now.values c.args.said.now.values)
    c.values.more c.push_value_at.new.more c.values.after c.args.said.now.values c.in-Some.entry
    next c.recall_proper.ensures.values.0 c.in_ok-push_value_at.ensures c.values.invariant

pub returns : goal.returns
returns c = now_found site_cmp (at_site c.args.state.now c.args.old.now)
    (at_keys site_cmp (more_value c.args.old.now) c.args.state.now.values c.args.said.now.values)
    c.values.more c.values.after c.args.said.now.values (sym c.next_value.ensures ∙ c.in_default.is)
    c.values.invariant
