use Rattle.std.proofs.Common.{◌≡◌, ◌∷◌, ap, sym, ◌∙◌}
use Rattle.std.proofs.Math.Dec.{T}
use Rattle.std.specs.FinMap.{is_sorted}
use Rattle.std.specs.Prelude.{Some, None}
use Rattle.alias_lattice.specs.declared.site.Site.{Site}
use Rattle.alias_lattice.specs.SiteOrder.{site_cmp}
use Rattle.alias_lattice.specs.States.{Sites, next_site}
use Rattle.alias_apply.specs.freezing.Sites.{in_order, above}
use Rattle.alias_apply.specs.freezing.SiteLaws.{above-none, left_more, left_none}
use Rattle.alias_step.specs.Expansions.{function_of_site, only_function}
use Rattle.alias_step.proofs.expansions.only_function.Goals as goal

-- the sites are those that are left from the first on
all_left : (t : Sites) → in_order t ≡ in_order (above None t)
all_left t = ap in_order (sym (above-none t))

none : (t : Sites) → next_site None t ≡ None → only_function (in_order t) ≡ None
none t e = ap only_function (all_left t ∙ left_none None t e)

one : (t : Sites) (k : Site) → T (is_sorted site_cmp t) → next_site None t ≡ Some k → next_site (Some k) t ≡ None
    → only_function (in_order t) ≡ function_of_site k
one t k s e f = ap only_function (all_left t ∙ left_more None t k e s ∙ ap (λ r. k ∷ r) (left_none (Some k) t f))

several : (t : Sites) (k l : Site) → T (is_sorted site_cmp t) → next_site None t ≡ Some k → next_site (Some k) t
    ≡ Some l → only_function (in_order t) ≡ None
several t k l s e f = ap only_function (all_left t ∙ left_more None t k e s
    ∙ ap (λ r. k ∷ r) (left_more (Some k) t l f s))

pub returns-in-None : goal.returns-in-None
returns-in-None c = sym (none c.args.sites.now (sym c.next_site.ensures ∙ c.in-None.is))

pub returns-in-Some-next_site : goal.returns-in-Some-next_site
returns-in-Some-next_site c =
    sym (several c.args.sites.now c.in-Some.first c.in-Some-next_site.field-0 c.recall_proper.ensures.0
    (sym c.next_site.ensures ∙ c.in-Some.is) (sym c.next_site-in-Some.ensures ∙ c.in-Some-next_site.is))

pub returns-in-None-next_site : goal.returns-in-None-next_site
returns-in-None-next_site c =
    c.function_of_site.ensures
    ∙ sym (one c.args.sites.now c.in-Some.first c.recall_proper.ensures.0 (sym c.next_site.ensures ∙ c.in-Some.is)
    (sym c.next_site-in-Some.ensures ∙ c.in-None-next_site.is))
