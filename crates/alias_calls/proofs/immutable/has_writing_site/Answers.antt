use Rattle.std.proofs.Common.{◌≡◌, ◌∷◌, ap, sym, ◌∙◌}
use Rattle.std.specs.Prelude.{Some, None, false, ◌||◌}
use Rattle.alias_lattice.specs.States.{next_site}
use Rattle.alias_apply.specs.freezing.Sites.{in_order, above}
use Rattle.alias_apply.specs.freezing.SiteLaws.{above-none, left_more, left_fewer, left_none}
use Rattle.alias_calls.specs.Immutable.{is_writing_site, has_writing_site}
use Rattle.alias_calls.proofs.immutable.has_writing_site.Goals as goal

pub sites-init : goal.sites-init
sites-init c = ap (λ t. has_writing_site c.args.env.now (in_order t)) (above-none c.args.sites.now)

pub sites-smaller : goal.sites-smaller
sites-smaller c = left_fewer c.sites.after c.args.sites.now c.in-Some.site (sym c.next_site.ensures ∙ c.in-Some.is)
    c.recall_proper.ensures.0

pub sites-preserved : goal.sites-preserved
sites-preserved c =
    let t = c.args.sites.now in
    let k = c.in-Some.site in
    let next : next_site c.sites.after t ≡ Some k = sym c.next_site.ensures ∙ c.in-Some.is in
    let others = has_writing_site c.args.env.now (in_order (above (Some k) t)) in
    sym (ap (has_writing_site c.args.env.now) (left_more c.sites.after t k next c.recall_proper.ensures.0)
    ∙ ap (λ b. b || others) (sym c.is_writing_site.ensures ∙ c.if-is_writing_site.false))
    ∙ c.sites.invariant

pub returns-then-is_writing_site : goal.returns-then-is_writing_site
returns-then-is_writing_site c =
    let t = c.args.sites.now in
    let k = c.in-Some.site in
    let next : next_site c.sites.after t ≡ Some k = sym c.next_site.ensures ∙ c.in-Some.is in
    let others = has_writing_site c.args.env.now (in_order (above (Some k) t)) in
    sym (ap (λ b. b || others) (sym c.is_writing_site.ensures ∙ c.if-is_writing_site.true))
    ∙ sym (ap (has_writing_site c.args.env.now) (left_more c.sites.after t k next c.recall_proper.ensures.0))
    ∙ c.sites.invariant

pub returns : goal.returns
returns c =
    let t = c.args.sites.now in
    sym (ap (has_writing_site c.args.env.now) (left_none c.sites.after t (sym c.next_site.ensures ∙ c.in_default.is)))
    ∙ c.sites.invariant
