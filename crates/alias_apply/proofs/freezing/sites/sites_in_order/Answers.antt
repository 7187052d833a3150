use Rattle.std.proofs.Common.{◌≡◌, ◌++◌, ◌∷◌, [], ap, sym, ◌∙◌, append_assoc, append-nil}
use Rattle.std.specs.Prelude.{Some, None}
use Rattle.alias_lattice.specs.States.{next_site}
use Rattle.alias_apply.specs.freezing.Sites.{in_order, above}
use Rattle.alias_apply.specs.freezing.SiteLaws.{above-none, left_more, left_fewer, left_none}
use Rattle.alias_apply.proofs.freezing.sites.sites_in_order.Goals as goal

pub sites-init : goal.sites-init
sites-init c = ap (λ l. l ++ in_order (above None c.args.sites.now)) c.new-listed.ensures.items
    ∙ ap in_order (above-none c.args.sites.now)

pub sites-smaller : goal.sites-smaller
sites-smaller c = left_fewer c.sites.after c.args.sites.now c.in-Some.site (sym c.next_site.ensures ∙ c.in-Some.is)
    c.recall_proper.ensures.0

pub sites-preserved : goal.sites-preserved
sites-preserved c =
    let t = c.args.sites.now in
    let k = c.in-Some.site in
    let next : next_site c.sites.after t ≡ Some k = sym c.next_site.ensures ∙ c.in-Some.is in
    ap (λ l. l ++ in_order (above (Some k) t)) c.in_ok-push.ensures.items
    ∙ append_assoc c.sites.listed.items (k ∷ []) (in_order (above (Some k) t))
    ∙ ap (λ r. c.sites.listed.items ++ r) (sym (left_more c.sites.after t k next c.recall_proper.ensures.0))
    ∙ c.sites.invariant

pub returns : goal.returns
returns c =
    let t = c.args.sites.now in
    sym (append-nil c.sites.listed.items)
    ∙ ap (λ r. c.sites.listed.items ++ r) (sym (left_none c.sites.after t (sym c.next_site.ensures ∙ c.in_default.is)))
    ∙ c.sites.invariant
