use Rattle.std.proofs.Common.{◌≡◌, ◌++◌, ◌∙◌, ap, sym, refl, Some, None}
use Rattle.std.specs.Prelude.{Option, option_map}
use Rattle.alias_lattice.specs.Nexts.{next_entry}
use Rattle.alias_lattice.specs.SiteOrder.{site_cmp}
use Rattle.alias_lattice.specs.SiteOrderLaws.{sites_total}
use Rattle.alias_lattice.specs.declared.site.Site.{Site}
use Rattle.alias_lattice.specs.WalkLaws.{left_after, left-none, left_fewer}
use Rattle.alias_certificate.specs.states.Beyond.{more_site, more_sites}
use Rattle.alias_certificate.proofs.beyond.Walking.{still_found, now_found}
use Rattle.alias_certificate.proofs.beyond.more_sites.Goals as goal

entry_of : (o : Option (Site × Unit {0})) (k : Site) → option_map (λ (e : Site × Unit {0}). e.0) o ≡ Some k → o
    ≡ Some (k, tt)
entry_of None k h = cc
entry_of (Some e) k h = let same : e.0 ≡ k = cc in ap (λ q. Some (q, tt)) same

no_entry : (o : Option (Site × Unit {0})) → option_map (λ (e : Site × Unit {0}). e.0) o ≡ None → o ≡ None
no_entry None h = refl
no_entry (Some e) h = cc

pub sites-init : goal.sites-init
sites-init c =
    let old = option_map (λ t. t.now) c.args.old in
    ap (λ m. m ++ more_sites old (left_after site_cmp None c.args.sites.now)) c.new-more.ensures
    ∙ ap (more_sites old) (left-none site_cmp c.args.sites.now)

pub sites-smaller : goal.sites-smaller
sites-smaller c =
    let next = entry_of (next_entry site_cmp c.sites.after c.args.sites.now) c.in-Some.site
    (sym c.next_site.ensures ∙ c.in-Some.is) in
    left_fewer site_cmp sites_total c.sites.after c.args.sites.now (c.in-Some.site, tt) next c.recall_proper.ensures.0

pub sites-preserved : goal.sites-preserved
sites-preserved c =
    let old = option_map (λ t. t.now) c.args.old in
    let next = entry_of (next_entry site_cmp c.sites.after c.args.sites.now) c.in-Some.site
    (sym c.next_site.ensures ∙ c.in-Some.is) in
    still_found site_cmp (more_site old) sites_total (more_sites old c.args.sites.now) c.sites.more
    c.push_more_site.new.more c.sites.after c.args.sites.now (c.in-Some.site, tt) next c.recall_proper.ensures.0
    c.in_ok-push_more_site.ensures c.sites.invariant

pub returns : goal.returns
returns c =
    let old = option_map (λ t. t.now) c.args.old in
    now_found site_cmp (more_site old) (more_sites old c.args.sites.now) c.sites.more c.sites.after c.args.sites.now
    (no_entry (next_entry site_cmp c.sites.after c.args.sites.now) (sym c.next_site.ensures ∙ c.in_default.is))
    c.sites.invariant
