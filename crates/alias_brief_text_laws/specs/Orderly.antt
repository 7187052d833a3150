-- The order that lines of entry states are read in.
use Rattle.std.specs.Prelude.{◌≡◌, Bool, true, false, List, [], ◌∷◌}
use Rattle.std.specs.List.{AllByRecursion}
use Rattle.std.specs.Ordering.{is_lt}
use Rattle.alias_lattice.specs.Keys.{id_cmp}
use Rattle.alias_lattice.specs.SiteOrder.{site_cmp}
use Rattle.alias_certificate.specs.declared.beyond.Beyond.{Beyond}
use Rattle.alias_certificate.specs.declared.certificate.CertValue.{CertValue}
use Rattle.alias_certificate.specs.declared.certificate.CertVariable.{CertVariable}
use Rattle.alias_follow.specs.lines.Entering.{none_of}
use Rattle.alias_follow.specs.declared.function.follow.FunctionBeyond.{FunctionBeyond}
use Rattle.alias_follow.specs.declared.unit.Followed.{Followed}

-- each is below those behind it
abbrev pub Ascends : {A : Type 0} → (A → A → Bool) → List A → Type 0
Ascends below [] = Unit {0}
Ascends below (x ∷ xs) = AllByRecursion (λ y. below x y ≡ true) xs × Ascends below xs

abbrev pub value_below : CertValue → CertValue → Bool
value_below v w = is_lt (site_cmp v.site w.site)

abbrev pub variable_below : CertVariable → CertVariable → Bool
variable_below v w = is_lt (id_cmp v.identifier w.identifier)

-- the line names a site
abbrev pub NamesSite : CertVariable → Type 0
NamesSite v = none_of v.sites ≡ false

-- values by ascending sites, and variables by ascending identifiers, each with a site
pub record Orderly (b : Beyond) : Type 0 where
  pub values : Ascends value_below b.values
  pub variables : Ascends variable_below b.variables
  pub named : AllByRecursion NamesSite b.variables

abbrev pub OrderlyBlocks : FunctionBeyond → Type 0
OrderlyBlocks b = AllByRecursion Orderly b.blocks

-- so is what all entry states have beyond what arrived
abbrev pub IsOrderly : Followed → Type 0
IsOrderly f = AllByRecursion OrderlyBlocks f.beyond
