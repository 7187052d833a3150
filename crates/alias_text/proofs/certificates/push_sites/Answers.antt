use Rattle.std.proofs.Common.{◌≡◌, ◌++◌, ◌∙◌, ap, sym, refl, subst, Some, None}
use Rattle.std.specs.Prelude.{Option}
use Rattle.std.specs.List.{AllByRecursion}
use Rattle.std.specs.Option.{option_map}
use Rattle.alias_lattice.specs.Nexts.{next_entry}
use Rattle.alias_lattice.specs.SiteOrder.{site_cmp}
use Rattle.alias_lattice.specs.SiteOrderLaws.{sites_total}
use Rattle.alias_lattice.specs.declared.site.Site.{Site}
use Rattle.alias_text.specs.Certificates.{spaced_site, sites_text}
use Rattle.alias_text.specs.Fitting.{SmallEntry}
use Rattle.alias_lattice.specs.WalkLaws.{left-none, left_fewer}
use Rattle.alias_text.proofs.Walks.{still_complete, still_all, now_complete, now_all}
use Rattle.alias_text.proofs.certificates.push_sites.Goals as goal

entry_of : (o : Option (Site × Unit {0})) (k : Site) → option_map (λ (e : Site × Unit {0}). e.0) o ≡ Some k → o
    ≡ Some (k, tt)
entry_of None k h = cc
entry_of (Some e) k h = let same : e.0 ≡ k = cc in ap (λ q. Some (q, tt)) same

no_entry : (o : Option (Site × Unit {0})) → option_map (λ (e : Site × Unit {0}). e.0) o ≡ None → o ≡ None
no_entry None h = refl
no_entry (Some e) h = cc

pub sites-init : goal.sites-init
sites-init c =
    let all = left-none site_cmp c.args.sites.now in
    (ap (λ l. c.args.out.now ++ sites_text l) all, λ h. subst (AllByRecursion SmallEntry) all h)

pub sites-smaller : goal.sites-smaller
sites-smaller c =
    let next = entry_of (next_entry site_cmp c.sites.after c.args.sites.now) c.in-Some.site
    (sym c.next_site.ensures ∙ c.in-Some.is) in
    left_fewer site_cmp sites_total c.sites.after c.args.sites.now (c.in-Some.site, tt) next c.recall_proper.ensures.0

pub sites-preserved : goal.sites-preserved
sites-preserved c =
    let all = c.args.out.now ++ sites_text c.args.sites.now in
    let next = entry_of (next_entry site_cmp c.sites.after c.args.sites.now) c.in-Some.site
    (sym c.next_site.ensures ∙ c.in-Some.is) in (
      still_complete site_cmp sites_total (λ (e : Site × Unit {0}). spaced_site e.0) all c.sites.out
          c.push_spaced_site.new.out c.sites.after c.args.sites.now (c.in-Some.site, tt) next c.recall_proper.ensures.0
          c.in_ok-push_spaced_site.ensures.text c.sites.invariant.0,
      still_all site_cmp sites_total SmallEntry c.sites.after c.args.sites.now (c.in-Some.site, tt) next
          c.recall_proper.ensures.0 c.in_ok-push_spaced_site.ensures.fits c.sites.invariant.1,
    )

pub returns-clause-text : goal.returns-clause-text
returns-clause-text c =
    let all = c.args.out.now ++ sites_text c.args.sites.now in
    let next = no_entry (next_entry site_cmp c.sites.after c.args.sites.now)
    (sym c.next_site.ensures ∙ c.in_default.is) in
    now_complete site_cmp (λ (e : Site × Unit {0}). spaced_site e.0) all c.sites.out c.sites.after c.args.sites.now next
    c.sites.invariant.0

pub returns-clause-fits : goal.returns-clause-fits
returns-clause-fits c =
    let next = no_entry (next_entry site_cmp c.sites.after c.args.sites.now)
    (sym c.next_site.ensures ∙ c.in_default.is) in
    now_all site_cmp SmallEntry c.sites.after c.args.sites.now next c.sites.invariant.1
