use Rattle.std.proofs.Common.{◌≡◌, ◌++◌, ◌∙◌, ap, sym, subst, Some}
use Rattle.std.specs.List.{AllByRecursion, flat_map}
use Rattle.alias_lattice.specs.Nexts.{next_entry}
use Rattle.alias_lattice.specs.SiteOrder.{site_cmp}
use Rattle.alias_lattice.specs.SiteOrderLaws.{sites_total}
use Rattle.alias_text.specs.Certificates.{value_line}
use Rattle.alias_text.specs.Fitting.{FittingValue}
use Rattle.alias_lattice.specs.WalkLaws.{left-none, left_fewer}
use Rattle.alias_text.proofs.Walks.{still_complete, still_all, now_complete, now_all}
use Rattle.alias_text.proofs.certificates.push_values.Goals as goal

pub values-init : goal.values-init
values-init c =
    let all = left-none site_cmp c.args.state.now.values in
    (ap (λ l. c.args.out.now ++ flat_map value_line l) all, λ h. subst (AllByRecursion FittingValue) all h)

pub values-smaller : goal.values-smaller
values-smaller c =
    let next : next_entry site_cmp c.values.after c.args.state.now.values ≡ Some (c.in-Some.site, c.in-Some.value) =
    cc in
    left_fewer site_cmp sites_total c.values.after c.args.state.now.values (c.in-Some.site, c.in-Some.value) next
    c.recall_proper.ensures.values.0

pub values-preserved : goal.values-preserved
values-preserved c =
    let all = c.args.out.now ++ flat_map value_line c.args.state.now.values in
    let next : next_entry site_cmp c.values.after c.args.state.now.values ≡ Some (c.in-Some.site, c.in-Some.value) =
    cc in (
      still_complete site_cmp sites_total value_line all c.values.out c.push_value_line.new.out c.values.after
          c.args.state.now.values (c.in-Some.site, c.in-Some.value) next c.recall_proper.ensures.values.0
          c.in_ok-push_value_line.ensures.text c.values.invariant.0,
      still_all site_cmp sites_total FittingValue c.values.after c.args.state.now.values
          (c.in-Some.site, c.in-Some.value) next c.recall_proper.ensures.values.0 c.in_ok-push_value_line.ensures.fits
          c.values.invariant.1,
    )

pub returns-clause-text : goal.returns-clause-text
returns-clause-text c =
    let all = c.args.out.now ++ flat_map value_line c.args.state.now.values in
    now_complete site_cmp value_line all c.values.out c.values.after c.args.state.now.values
    (sym c.next_value.ensures ∙ c.in_default.is) c.values.invariant.0

pub returns-clause-fits : goal.returns-clause-fits
returns-clause-fits c = now_all site_cmp FittingValue c.values.after c.args.state.now.values
    (sym c.next_value.ensures ∙ c.in_default.is) c.values.invariant.1
