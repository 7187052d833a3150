-- What is printed of an inference fits.
use Rattle.std.proofs.Common.{◌≡◌, ◌≤◌, ◌<◌, ◌+◌, ℕ, zero, suc, List, [], ◌∷◌, ◌++◌, ◌∙◌, Some, length, take, get_or}
use Rattle.std.proofs.Common.{refl, ap, sym, subst, add-one, append-nil, append_assoc, arith}
use Rattle.std.specs.List.{AllByRecursion, flat_map}
use Rattle.std.proofs.Math.Dec.{T}
use Rattle.std.proofs.lemmas.List.{take_all}
use Rattle.std.specs.Cmp.{tied_itself}
use Rattle.std.specs.FinMap.{find, is_sorted}
use Rattle.std.specs.FinMap.Entries.{below_all}
use Rattle.std.specs.Ordering.{is_eq}
use Rattle.std.specs.Prelude.{IsTrue, cond}
use Rattle.alias_base.specs.declared.ids.IdentifierId.{IdentifierId}
use Rattle.alias_lattice.specs.Keys.{id_cmp}
use Rattle.alias_lattice.specs.KeyLaws.{ids_total}
use Rattle.alias_lattice.specs.PairLaws.{T-second}
use Rattle.alias_lattice.specs.ProperStates.{StateProper, is_full}
use Rattle.alias_lattice.specs.States.{State, Sites}
use Rattle.alias_lattice.proofs.CoverLemmas.{found_behind}
use Rattle.alias_text.specs.Fitting.{FittingValue, SmallVariable, FittingVariable, FittingState, IfCertify}
use Rattle.alias_text.specs.declared.detail.Detail.{Detail}
use Rattle.alias_text.specs.declared.detail.Detail.TheVariants.{Infer, Certify, Counts}

-- the set of the first entry is found
first_found : (e : IdentifierId × Sites) (es : List (IdentifierId × Sites)) → find id_cmp e.0 (e ∷ es) ≡ Some e.1
first_found e es = ap (λ r. cond (is_eq r) (Some e.1) (find id_cmp e.0 es)) (tied_itself ids_total e.0)

-- sets that are found aren't empty, so no set is
all_full : (es : List (IdentifierId × Sites)) → T (is_sorted id_cmp es)
    → ((x : IdentifierId) (t : Sites) → find id_cmp x es ≡ Some t → IsTrue (is_full t))
    → AllByRecursion SmallVariable es → AllByRecursion FittingVariable es
all_full [] s full h = tt
all_full (e ∷ es) s full h = (
  (h.0, full e.0 e.1 (first_found e es)),
  all_full es (T-second (below_all id_cmp e.0 es) (is_sorted id_cmp es) s)
      (λ x t f. full x t (found_behind id_cmp ids_total (e ∷ es) 1 x t s f)) h.1,
)

-- a proper state whose numbers are small fits
pub state_fits : (s : State) → StateProper s → AllByRecursion FittingValue s.values
    → AllByRecursion SmallVariable s.variables → FittingState s
state_fits s p v x = record {
  values = v;
  values_rise = p.values.0;
  variables = all_full s.variables p.variables.0 (λ y t f. (p.all_valued y t f).full) x;
  variables_rise = p.variables.0;
}

-- which default is given makes no difference where there is an element
pub get_or_there : {A : Type 0} (xs : List A) (i : ℕ) (d e : A) → i < length xs → get_or xs i d ≡ get_or xs i e
get_or_there [] i d e w = let no : ⊥ = omega arith in absurd no
get_or_there (x ∷ xs) zero d e w = refl
get_or_there (x ∷ xs) (suc i) d e w = get_or_there xs i d e (omega arith)

text_upto : {A : Type 0} (f : A → List ℕ) (xs : List A) (i : ℕ) (x : A) → i < length xs → x ≡ get_or xs i x
    → flat_map f (take (suc i) xs) ≡ flat_map f (take i xs) ++ f x
text_upto f [] i x w e = let no : ⊥ = omega arith in absurd no
text_upto f (y ∷ ys) zero x w e = append-nil (f y) ∙ ap f (sym e)
text_upto f (y ∷ ys) (suc i) x w e = ap (λ t. f y ++ t) (text_upto f ys i x (omega arith) e)
    ∙ sym (append_assoc (f y) (flat_map f (take i ys)) (f x))

-- the text of one more
pub text_more : {A : Type 0} (f : A → List ℕ) (xs : List A) (i : ℕ) (x : A) (out more before : List ℕ) → i < length xs
    → x ≡ get_or xs i x → out ≡ before ++ flat_map f (take i xs) → more ≡ out ++ f x
    → more ≡ before ++ flat_map f (take (i + 1) xs)
text_more f xs i x out more before w e so now =
    now ∙ ap (λ t. t ++ f x) so ∙ append_assoc before (flat_map f (take i xs)) (f x)
    ∙ ap (λ t. before ++ t) (sym (text_upto f xs i x w e))
    ∙ ap (λ n. before ++ flat_map f (take n xs)) (sym (add-one i))

-- what is so of each so far is so of all in the end
pub all_taken : {A : Type 0} (P : A → Type 0) (xs : List A) (n : ℕ) → length xs ≤ n → AllByRecursion P (take n xs)
    → AllByRecursion P xs
all_taken P xs n l h = subst (AllByRecursion P) (take_all n xs l) h

-- what is so of two where a certificate is printed
pub if_both : {A B C : Type 0} → (A → B → C) → (d : Detail) → IfCertify d A → IfCertify d B → IfCertify d C
if_both f Certify a b = f a b
if_both f Infer a b = tt
if_both f Counts a b = tt

pub if_one : {A B : Type 0} → (A → B) → (d : Detail) → IfCertify d A → IfCertify d B
if_one f Certify a = f a
if_one f Infer a = tt
if_one f Counts a = tt

pub if_so : {A : Type 0} → (d : Detail) → A → IfCertify d A
if_so Certify a = a
if_so Infer a = tt
if_so Counts a = tt
