-- Lists of words read back: reasons and sites.
use Rattle.std.proofs.Common.{◌≡◌, ℕ, ◌+◌, ◌==◌, true, false, List, [], ◌∷◌, ◌++◌, Some, option_map, refl, ap, ◌∙◌}
use Rattle.std.proofs.Common.{arith, append-nil, bit_or}
use Rattle.std.specs.Prelude.{codes, map}
use Rattle.std.specs.List.{AllByRecursion, flat_map, slice_split, onto_first, join_by}
use Rattle.std.proofs.lemmas.Bool.{eq-eqb, le-ltb}
use Rattle.alias_hir.specs.declared.effect.ValueReason.{ValueReason}
use Rattle.alias_hir.specs.declared.effect.ValueReason.TheVariants as reason
use Rattle.alias_lattice.specs.Reasons.{reason_index, single_reason, reasons_in, ReasonBits}
use Rattle.alias_lattice.specs.States.{Sites}
use Rattle.alias_lattice.specs.declared.site.Site.{Site}
use Rattle.alias_lattice.specs.declared.site.Site.TheVariants.{Parameter, Context, Created, CreatedFrom, Function}
use Rattle.alias_lattice.specs.declared.site.Site.TheVariants.{AssignFrozen, AssignCopy, Default}
use Rattle.alias_text.specs.Lines.{reason_word, kind_word}
use Rattle.alias_text.specs.Certificates.{site_text, reasons_text, sites_text, form_text, both_text}
use Rattle.alias_cert_text.specs.Lines.{sites_of}
use Rattle.alias_cert_text.specs.Reasons.{reasons_from, reasons_of}
use Rattle.alias_cert_text.specs.Words.{text_is}
use Rattle.alias_cert_text.proofs.Cutting.{Lacks}
use Rattle.alias_certificate_laws.specs.text.Certifying.{sites_in}
use Rattle.alias_text.specs.Fitting.{SmallEntry}
use Rattle.alias_certificate_laws.proofs.text.Bits.{gathered, Ascend, all_gathered, reasons_ascend}
use Rattle.alias_certificate_laws.proofs.text.Bytes.{AtLeast, at_least, at_least_is, at_least_append, at_least_flat}
use Rattle.alias_certificate_laws.proofs.text.Bytes.{lower, lacks_below, decimal_high}
use Rattle.alias_certificate_laws.proofs.text.Pieces.{reason_back, reason_high, kind_high, site_back}

split_alone : (c : ℕ) (xs : List ℕ) → Lacks c xs → slice_split (λ b. b == c) xs ≡ xs ∷ []
split_alone c [] h = refl
split_alone c (x ∷ xs) h = rw h.0 (ap (onto_first x) (split_alone c xs h.1))

eqb_same : (c : ℕ) → (c == c) ≡ true
eqb_same c = eq-eqb c c refl

split_there : (c : ℕ) (xs ys : List ℕ) → Lacks c xs → slice_split (λ b. b == c) (xs ++ c ∷ ys) ≡ xs
    ∷ slice_split (λ b. b == c) ys
split_there c [] ys h = rw (eqb_same c) refl
split_there c (x ∷ xs) ys h = rw h.0 (ap (onto_first x) (split_there c xs ys h.1))

-- ---- reasons

reason_lacks : (r : ValueReason) → Lacks 43 (reason_word r)
reason_lacks r = lacks_below 43 65 (reason_word r) (omega arith) (at_least_is 65 (reason_word r) (reason_high r))

pub further_split : (r : ValueReason) (rs : List ValueReason)
    → slice_split (λ b. b == 43) (join_by reason_word (codes "+") (r ∷ rs)) ≡ map reason_word (r ∷ rs)
further_split r [] = ap (slice_split (λ b. b == 43)) (append-nil (reason_word r))
    ∙ split_alone 43 (reason_word r) (reason_lacks r)
further_split r (q ∷ rs) = split_there 43 (reason_word r) (join_by reason_word (codes "+") (q ∷ rs)) (reason_lacks r)
    ∙ ap (λ ws. reason_word r ∷ ws) (further_split q rs)

words_gathered : (set least : ℕ) (rs : List ValueReason) → Ascend least rs → reasons_from set least (map reason_word rs)
    ≡ Some (gathered set rs)
words_gathered set least [] h = refl
words_gathered set least (r ∷ rs) h = rw (reason_back r)
    (rw (le-ltb (reason_index r) least h.0) (words_gathered (bit_or set (single_reason r)) (reason_index r + 1) rs h.1))

no_dash : (r : ValueReason) (more : List ℕ) → text_is (reason_word r ++ more) (codes "-") ≡ false
no_dash reason.KnownReturnSignature more = refl
no_dash reason.State more = refl
no_dash reason.ReducerState more = refl
no_dash reason.Context more = refl
no_dash reason.Effect more = refl
no_dash reason.HookCaptured more = refl
no_dash reason.HookReturn more = refl
no_dash reason.Global more = refl
no_dash reason.JsxCaptured more = refl
no_dash reason.StoreLocal more = refl
no_dash reason.ReactiveFunctionArgument more = refl
no_dash reason.Other more = refl

listed_back : (rs : List ValueReason) → Ascend 0 rs → reasons_of (reasons_text rs) ≡ Some (gathered 0 rs)
listed_back [] h = refl
listed_back (r ∷ rs) h =
    rw (no_dash r (flat_map (λ q. codes "+" ++ reason_word q) rs))
    (ap (reasons_from 0 0) (further_split r rs) ∙ words_gathered 0 0 (r ∷ rs) h)

pub reasons_back : (n : ℕ) → ReasonBits n → reasons_of (reasons_text (reasons_in n)) ≡ Some n
reasons_back n h = listed_back (reasons_in n) (reasons_ascend n) ∙ ap Some (all_gathered n h)

listed_high : (rs : List ValueReason) → AtLeast 33 (reasons_text rs)
listed_high [] = at_least_is 33 (codes "-") refl
listed_high (r ∷ rs) =
    at_least_append 33 (reason_word r) (flat_map (λ q. codes "+" ++ reason_word q) rs) (word r)
    (at_least_flat 33 (λ q. codes "+" ++ reason_word q) rs (λ q. (omega arith, word q)))
  where
    word : (q : ValueReason) → AtLeast 33 (reason_word q)
    word q = lower 65 33 (reason_word q) (omega arith) (at_least_is 65 (reason_word q) (reason_high q))

pub reasons_high : (n : ℕ) → AtLeast 33 (reasons_text (reasons_in n))
reasons_high n = listed_high (reasons_in n)

-- ---- sites

form_high : (form names : List ℕ) → at_least 33 form ≡ true → AtLeast 33 names → AtLeast 33 (form_text form names)
form_high form names f n =
    at_least_append 33 ((form ++ codes "(") ++ names) (codes ")")
    (at_least_append 33 (form ++ codes "(") names
    (at_least_append 33 form (codes "(") (at_least_is 33 form f) (at_least_is 33 (codes "(") refl)) n)
    (at_least_is 33 (codes ")") refl)

both_high : (a b : List ℕ) → AtLeast 33 a → AtLeast 33 b → AtLeast 33 (both_text a b)
both_high a b h g = at_least_append 33 (a ++ codes ",") b
    (at_least_append 33 a (codes ",") h (at_least_is 33 (codes ",") refl)) g

pub site_high : (s : Site) → AtLeast 33 (site_text s)
site_high (Parameter x) = form_high (codes "Parameter") _ refl (decimal_high x.0)
site_high (Context x) = form_high (codes "Context") _ refl (decimal_high x.0)
site_high (Created into k r) =
    form_high (codes "Created") _ refl
    (both_high _ _ (decimal_high into.0)
    (both_high (kind_word k) (reason_word r)
    (lower 65 33 (kind_word k) (omega arith) (at_least_is 65 (kind_word k) (kind_high k)))
    (lower 65 33 (reason_word r) (omega arith) (at_least_is 65 (reason_word r) (reason_high r)))))
site_high (CreatedFrom from into) = form_high (codes "CreatedFrom") _ refl
    (both_high _ _ (decimal_high from.0) (decimal_high into.0))
site_high (Function f) = form_high (codes "Function") _ refl (decimal_high f.0)
site_high (AssignFrozen from into) = form_high (codes "AssignFrozen") _ refl
    (both_high _ _ (decimal_high from.0) (decimal_high into.0))
site_high (AssignCopy from into) = form_high (codes "AssignCopy") _ refl
    (both_high _ _ (decimal_high from.0) (decimal_high into.0))
site_high (Default x) = form_high (codes "Default") _ refl (decimal_high x.0)

pub site_lacks : (s : Site) → Lacks 32 (site_text s)
site_lacks s = lacks_below 32 33 (site_text s) (omega arith) (site_high s)

sites_split : (s : Site) (t : Sites) → slice_split (λ b. b == 32) (site_text s ++ sites_text t) ≡ site_text s
    ∷ map site_text (sites_in t)
sites_split s [] = ap (slice_split (λ b. b == 32)) (append-nil (site_text s))
    ∙ split_alone 32 (site_text s) (site_lacks s)
sites_split s (e ∷ t) = split_there 32 (site_text s) (site_text e.0 ++ sites_text t) (site_lacks s)
    ∙ ap (λ ws. site_text s ∷ ws) (sites_split e.0 t)

site_words : (t : Sites) → AllByRecursion SmallEntry t → sites_of (map site_text (sites_in t)) ≡ Some (sites_in t)
site_words [] h = refl
site_words (e ∷ t) h = rw (site_back e.0 h.0) (ap (option_map (λ sites. e.0 ∷ sites)) (site_words t h.1))

-- one site and others
pub sites_back : (e : Site × Unit {0}) (t : Sites) → AllByRecursion SmallEntry (e ∷ t)
    → sites_of (slice_split (λ b. b == 32) (site_text e.0 ++ sites_text t)) ≡ Some (sites_in (e ∷ t))
sites_back e t h = ap sites_of (sites_split e.0 t) ∙ site_words (e ∷ t) h
