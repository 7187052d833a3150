-- What a state has beyond another stands in order.
use Rattle.std.proofs.Common.{◌≡◌, Bool, true, false, List, [], ◌∷◌, ◌++◌, refl, if◌then◌else◌}
use Rattle.std.proofs.Math.Dec.{T}
use Rattle.std.specs.List.{AllByRecursion}
use Rattle.std.specs.Ordering.{is_lt}
use Rattle.std.specs.FinMap.{is_sorted}
use Rattle.std.specs.FinMap.Entries.{below_all}
use Rattle.alias_base.specs.declared.ids.IdentifierId.{IdentifierId}
use Rattle.alias_lattice.specs.Keys.{id_cmp}
use Rattle.alias_lattice.specs.PairLaws.{T-first, T-second}
use Rattle.alias_lattice.specs.ProperStates.{StateProper}
use Rattle.alias_lattice.specs.SiteOrder.{site_cmp}
use Rattle.alias_lattice.specs.States.{State, Sites, value_at, sites_of}
use Rattle.alias_lattice.specs.declared.site.Site.{Site}
use Rattle.alias_lattice.specs.declared.value.AbstractValue.{AbstractValue}
use Rattle.alias_certificate.specs.declared.certificate.CertValue.{CertValue}
use Rattle.alias_certificate.specs.declared.certificate.CertVariable.{CertVariable}
use Rattle.alias_certificate.specs.states.Beyond.{is_there, more_values, more_sites, more_of, more_variables, beyond_of}
use Rattle.alias_brief_text_laws.specs.Orderly.{Ascends, value_below, variable_below, NamesSite, Orderly}

true_of : (b : Bool) → T b → b ≡ true
true_of true h = refl
true_of false h = absurd h

-- ---- values

abbrev said : Site × AbstractValue → CertValue
said e = record { site = e.0; value = e.1 }

abbrev one_value : Bool → Site × AbstractValue → List CertValue
one_value there e = if there then [] else said e ∷ []

abbrev AboveSite : Site → List CertValue → Type 0
AboveSite k vs = AllByRecursion (λ w. is_lt (site_cmp k w.site) ≡ true) vs

one_above : (there : Bool) (k : Site) (e : Site × AbstractValue) (rest : List CertValue)
    → is_lt (site_cmp k e.0) ≡ true → AboveSite k rest → AboveSite k (one_value there e ++ rest)
one_above true k e rest h all = all
one_above false k e rest h all = (h, all)

values_above : (old : State) (k : Site) (es : List (Site × AbstractValue)) → T (below_all site_cmp k es)
    → AboveSite k (more_values old es)
values_above old k [] h = tt
values_above old k (e ∷ es) h =
    one_above (is_there (value_at old e.0) e.1) k e (more_values old es)
    (true_of (is_lt (site_cmp k e.0)) (T-first (is_lt (site_cmp k e.0)) (below_all site_cmp k es) h))
    (values_above old k es (T-second (is_lt (site_cmp k e.0)) (below_all site_cmp k es) h))

one_ascends : (there : Bool) (e : Site × AbstractValue) (rest : List CertValue) → AboveSite e.0 rest
    → Ascends value_below rest → Ascends value_below (one_value there e ++ rest)
one_ascends true e rest all h = h
one_ascends false e rest all h = (all, h)

values_ascend : (old : State) (es : List (Site × AbstractValue)) → T (is_sorted site_cmp es)
    → Ascends value_below (more_values old es)
values_ascend old [] h = tt
values_ascend old (e ∷ es) h =
    one_ascends (is_there (value_at old e.0) e.1) e (more_values old es)
    (values_above old e.0 es (T-first (below_all site_cmp e.0 es) (is_sorted site_cmp es) h))
    (values_ascend old es (T-second (below_all site_cmp e.0 es) (is_sorted site_cmp es) h))

-- ---- variables

abbrev AboveIdentifier : IdentifierId → List CertVariable → Type 0
AboveIdentifier x vs = AllByRecursion (λ w. is_lt (id_cmp x w.identifier) ≡ true) vs

variable_above : (ks : List Site) (x y : IdentifierId) (rest : List CertVariable) → is_lt (id_cmp x y) ≡ true
    → AboveIdentifier x rest → AboveIdentifier x (more_of y ks ++ rest)
variable_above [] x y rest h all = all
variable_above (k ∷ ks) x y rest h all = (h, all)

variables_above : (old : State) (x : IdentifierId) (es : List (IdentifierId × Sites)) → T (below_all id_cmp x es)
    → AboveIdentifier x (more_variables old es)
variables_above old x [] h = tt
variables_above old x (e ∷ es) h =
    variable_above (more_sites (sites_of old e.0) e.1) x e.0 (more_variables old es)
    (true_of (is_lt (id_cmp x e.0)) (T-first (is_lt (id_cmp x e.0)) (below_all id_cmp x es) h))
    (variables_above old x es (T-second (is_lt (id_cmp x e.0)) (below_all id_cmp x es) h))

variable_ascends : (ks : List Site) (x : IdentifierId) (rest : List CertVariable) → AboveIdentifier x rest
    → Ascends variable_below rest → Ascends variable_below (more_of x ks ++ rest)
variable_ascends [] x rest all h = h
variable_ascends (k ∷ ks) x rest all h = (all, h)

variables_ascend : (old : State) (es : List (IdentifierId × Sites)) → T (is_sorted id_cmp es)
    → Ascends variable_below (more_variables old es)
variables_ascend old [] h = tt
variables_ascend old (e ∷ es) h =
    variable_ascends (more_sites (sites_of old e.0) e.1) e.0 (more_variables old es)
    (variables_above old e.0 es (T-first (below_all id_cmp e.0 es) (is_sorted id_cmp es) h))
    (variables_ascend old es (T-second (below_all id_cmp e.0 es) (is_sorted id_cmp es) h))

variable_named : (ks : List Site) (x : IdentifierId) (rest : List CertVariable) → AllByRecursion NamesSite rest
    → AllByRecursion NamesSite (more_of x ks ++ rest)
variable_named [] x rest h = h
variable_named (k ∷ ks) x rest h = (refl, h)

variables_named : (old : State) (es : List (IdentifierId × Sites)) → AllByRecursion NamesSite (more_variables old es)
variables_named old [] = tt
variables_named old (e ∷ es) = variable_named (more_sites (sites_of old e.0) e.1) e.0 (more_variables old es)
    (variables_named old es)

-- ---- both

pub beyond_orderly : (s old : State) → StateProper s → Orderly (beyond_of s old)
beyond_orderly s old p = record {
  values = values_ascend old s.values p.values.0;
  variables = variables_ascend old s.variables p.variables.0;
  named = variables_named old s.variables;
}
