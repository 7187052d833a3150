-- A key that is put into a set of what was made goes last, where it wasn't made, and else the set stays.
use Rattle.std.proofs.Common.{◌≡◌, Bool, true, false, ◌==◌, ◌||◌, List, [], ◌∷◌, ◌++◌, refl, ap, sym, ◌∙◌}
use Rattle.std.proofs.Common.{if◌then◌else◌}
use Rattle.std.specs.List.{list_any}
use Rattle.std.proofs.lemmas.Bool.{eq-eqb, eqb-true}
use Rattle.alias_base.specs.declared.ids.IdentifierId.{IdentifierId}
use Rattle.alias_apply.specs.Made.{is_made}

by_tests : (p q : Bool) → (p ≡ true → q ≡ true) → (q ≡ true → p ≡ true) → p ≡ q
by_tests true q f g = sym (f refl)
by_tests false true f g = g refl
by_tests false false f g = refl

either_way : (k : IdentifierId) (ks : List IdentifierId) → list_any (λ (y : IdentifierId). k.0 == y.0) ks ≡ is_made k ks
either_way k [] = refl
either_way k (y ∷ ys) =
    ap (λ t. t || list_any (λ (y : IdentifierId). k.0 == y.0) ys)
    (by_tests (k.0 == y.0) (y.0 == k.0) (λ h. eq-eqb _ _ (sym (eqb-true _ _ h)))
    (λ h. eq-eqb _ _ (sym (eqb-true _ _ h))))
    ∙ ap (λ t. (y.0 == k.0) || t) (either_way k ys)

pub goes_last : (k : IdentifierId) (old new : List IdentifierId) → new
    ≡ (if list_any (λ (y : IdentifierId). k.0 == y.0) old then old else old ++ k ∷ []) → is_made k old ≡ false → new
    ≡ old ++ k ∷ []
goes_last k old new e h = e ∙ ap (λ t. if t then old else old ++ k ∷ []) (either_way k old ∙ h)

pub stays : (k : IdentifierId) (old new : List IdentifierId) → new
    ≡ (if list_any (λ (y : IdentifierId). k.0 == y.0) old then old else old ++ k ∷ []) → is_made k old ≡ true → new
    ≡ old
stays k old new e h = e ∙ ap (λ t. if t then old else old ++ k ∷ []) (either_way k old ∙ h)
