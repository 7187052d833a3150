-- A total order by the laws of its trait, in which only equal values tie, is a linear one.
use Rattle.std.specs.Prelude.{◌≡◌, refl}
use Rattle.std.proofs.Common.{inl, inr, ap, ◌∙◌, subst}
use Rattle.std.specs.Cmp.{IsTotalOrder, tied_itself}
use Rattle.std.specs.FinMap.{IsAntisymmetric}
use Rattle.std.specs.Ordering.{ordering_reverse}
use Rattle.std.specs.declared.cmp.Ordering.{Ordering}
use Rattle.std.specs.declared.cmp.Ordering.TheVariants.{Less, Equal, Greater}
use Rattle.alias_lattice.specs.SiteOrder.{site_cmp}
use Rattle.alias_lattice.specs.SiteOrderLaws.{sites_apart, sites_total}
use Rattle.alias_graph.specs.declared.types.MutationKind.TheVariants.{Conditional, Definite}
use Rattle.alias_graph.specs.contracts.types.MutationKindOrd.TheImpl.Laws as kind_laws
use Rattle.alias_tables.specs.InternedEffects.{key_cmp}
use Rattle.alias_tables.specs.contracts.key.EffectKeyOrd.TheImpl.Laws as key_laws
use Rattle.alias_key_laws.specs.Orders.{ExactlyOne, IsLinearOrder, mutation_kind_cmp}
use Rattle.alias_key_laws.proofs.Apart.{keys_apart}

module _ {K : Type 0} (R : K → K → Ordering) (total : IsTotalOrder R) (apart : IsAntisymmetric R) where
  tied : (x y : K) → x ≡ y → R x y ≡ Equal
  tied x y e = subst (λ z. R x z ≡ Equal) e (tied_itself total x)

  turned : (x y : K) (r : Ordering) → R x y ≡ r → R y x ≡ ordering_reverse r
  turned x y r h = total.antisymm y x ∙ ap ordering_reverse h

  one_by : (x y : K) (r : Ordering) → R x y ≡ r → ExactlyOne (R x y ≡ Less) (x ≡ y) (R y x ≡ Less)
  one_by x y Less h = inl (
    h,
    (λ e. let t : R x y ≡ Equal = tied x y e in absurd (cc)),
    (λ g. let t : R y x ≡ Greater = turned x y Less h in absurd (cc)),
  )
  one_by x y Equal h = inr (inl (
    (λ g. absurd (cc)),
    apart x y h,
    (λ g. let t : R y x ≡ Equal = turned x y Equal h in absurd (cc)),
  ))
  one_by x y Greater h = inr (inr (
    (λ g. absurd (cc)),
    (λ e. let t : R x y ≡ Equal = tied x y e in absurd (cc)),
    turned x y Greater h,
  ))

  pub linear : IsLinearOrder R
  linear = record {
    one = λ x y. one_by x y (R x y) refl;
    greater = λ x y. ((λ h. turned x y Greater h), (λ h. turned y x Less h));
    equal = λ x y. ((λ h. apart x y h), (λ e. tied x y e));
    transitive = λ x y z h g. total.trans x y z h g;
  }

kinds_apart : IsAntisymmetric mutation_kind_cmp
kinds_apart Conditional Conditional h = refl
kinds_apart Conditional Definite h = cc
kinds_apart Definite Conditional h = cc
kinds_apart Definite Definite h = refl

pub sites_are_linear : IsLinearOrder site_cmp
sites_are_linear = linear site_cmp sites_total sites_apart

pub keys_are_linear : IsLinearOrder key_cmp
keys_are_linear = linear key_cmp key_laws.total-law keys_apart

pub mutation_kinds_are_linear : IsLinearOrder mutation_kind_cmp
mutation_kinds_are_linear = linear mutation_kind_cmp kind_laws.total-law kinds_apart
