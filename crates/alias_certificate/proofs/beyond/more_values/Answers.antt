use Rattle.std.proofs.Common.{◌≡◌, ◌++◌, ◌∙◌, ap, sym, Some, None}
use Rattle.alias_lattice.specs.Nexts.{next_entry}
use Rattle.alias_lattice.specs.SiteOrder.{site_cmp}
use Rattle.alias_lattice.specs.SiteOrderLaws.{sites_total}
use Rattle.alias_lattice.specs.WalkLaws.{left_after, left-none, left_fewer}
use Rattle.alias_certificate.specs.states.Beyond.{more_value, more_values}
use Rattle.alias_certificate.proofs.beyond.Walking.{still_found, now_found}
use Rattle.alias_certificate.proofs.beyond.more_values.Goals as goal

pub values-init : goal.values-init
values-init c =
    ap (λ m. m ++ more_values c.args.old.now (left_after site_cmp None c.args.state.now.values)) c.new-more.ensures
    ∙ ap (more_values c.args.old.now) (left-none site_cmp c.args.state.now.values)

pub values-smaller : goal.values-smaller
values-smaller c =
    let next : next_entry site_cmp c.values.after c.args.state.now.values ≡ Some (c.in-Some.site, c.in-Some.value) =
    cc in
    left_fewer site_cmp sites_total c.values.after c.args.state.now.values (c.in-Some.site, c.in-Some.value) next
    c.recall_proper.ensures.values.0

pub values-preserved : goal.values-preserved
values-preserved c =
    let next : next_entry site_cmp c.values.after c.args.state.now.values ≡ Some (c.in-Some.site, c.in-Some.value) =
    cc in
    still_found site_cmp (more_value c.args.old.now) sites_total (more_values c.args.old.now c.args.state.now.values)
    c.values.more c.push_more_value.new.more c.values.after c.args.state.now.values (c.in-Some.site, c.in-Some.value)
    next c.recall_proper.ensures.values.0 c.in_ok-push_more_value.ensures c.values.invariant

pub returns : goal.returns
returns c = now_found site_cmp (more_value c.args.old.now) (more_values c.args.old.now c.args.state.now.values)
    c.values.more c.values.after c.args.state.now.values (sym c.next_value.ensures ∙ c.in_default.is)
    c.values.invariant
