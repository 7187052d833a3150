-- A set of sites that have values.
use Rattle.std.proofs.Common.{◌≡◌, ℕ, nat_lt, true, ◌&&◌, List, [], ◌∷◌, sym, subst}
use Rattle.std.proofs.lemmas.Bool.{false≢true}
use Rattle.std.specs.Option.{is_some}
use Rattle.alias_base.specs.AnswerLaws.{both_true}
use Rattle.alias_lattice.specs.declared.site.Site.{Site}
use Rattle.alias_lattice.specs.ProperStates.{AreValued}
use Rattle.alias_lattice.specs.StateLaws.{valued-one, valued-with}
use Rattle.alias_lattice.specs.States.{State, Sites, value_at, with_site}
use Rattle.alias_certificate.specs.declared.certificate.CertVariable.{CertVariable}
use Rattle.alias_certificate.specs.states.States.{with_sites, is_full, are_valued, is_variable_there}

more_valued : (s : State) (ks : List Site) (t : Sites) → AreValued s.values t → are_valued s ks ≡ true
    → AreValued s.values (with_sites ks t)
more_valued s [] t a h = a
more_valued s (k ∷ ks) t a h =
    let both = both_true (is_some (value_at s k)) (are_valued s ks) h in
    more_valued s ks (with_site k t) (valued-with k s.values t a both.0) both.1

-- sites that all have values, one or more
pub sites_are_valued : (s : State) (ks : List Site) → is_full ks ≡ true → are_valued s ks ≡ true
    → AreValued s.values (with_sites ks [])
sites_are_valued s [] full h = let no : ⊥ = false≢true full in absurd no
sites_are_valued s (k ∷ ks) full h =
    let both = both_true (is_some (value_at s k)) (are_valued s ks) h in
    more_valued s ks (with_site k []) (valued-one k s.values both.0) both.1

-- so are those of an identifier that is there
pub variable_is_valued : (n : ℕ) (s : State) (x : CertVariable) (t : Sites) → t ≡ with_sites x.sites []
    → is_variable_there n s x ≡ true → AreValued s.values t
variable_is_valued n s x t is h =
    let both = both_true (nat_lt x.identifier.0 n) (is_full x.sites && are_valued s x.sites) h in
    let more = both_true (is_full x.sites) (are_valued s x.sites) both.1 in
    subst (AreValued s.values) (sym is) (sites_are_valued s x.sites more.0 more.1)
