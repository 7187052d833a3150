-- Effects that are alike are told by each other's texts.
use Rattle.std.specs.Prelude.{codes, decimal, if◌then◌else◌, ◌==◌}
use Rattle.std.proofs.Common.{◌≡◌, ℕ, suc, ◌+◌, ◌⊎◌, inl, inr, Bool, true, false, ◌&&◌, nat_lt, List, [], ◌∷◌, ◌++◌}
use Rattle.std.proofs.Common.{length, take, drop, Option, Some, None, refl, ap, sym, ◌∙◌, arith, eq-eqb, length-append}
use Rattle.std.specs.List.{flat_map}
use Rattle.std.proofs.lemmas.Bool.{lt-ltb}
use Rattle.alias_hir.specs.declared.effect.AliasingEffect.{AliasingEffect}
use Rattle.alias_hir.specs.declared.effect.AliasingEffect.TheVariants as effect
use Rattle.alias_hir.specs.declared.effect.MutationReason.{MutationReason}
use Rattle.alias_hir.specs.declared.effect.MutationReason.TheVariants.{AssignCurrentProperty}
use Rattle.alias_hir.specs.declared.place.Place.{Place}
use Rattle.alias_hir.specs.declared.place.PlaceOrSpreadOrHole.{PlaceOrSpreadOrHole}
use Rattle.alias_hir.specs.declared.report.ReportId.{ReportId}
use Rattle.alias_text.specs.Lines.{spaced, mutation_text, arg_text, effect_text, pair_text, one_text}
use Rattle.alias_cert_text.proofs.Cutting.{Lacks}
use Rattle.alias_cert_text.proofs.Digits.{decimal_lacks}
use Rattle.alias_cert.specs.effects.Kept.{word_end, same_text, has_more, kept_length, kept}
use Rattle.alias_cert.specs.effects.Telling.{tells}
use Rattle.alias_certificate_laws.specs.accepting.Alike.{none, more, at, AlikePlaces, AlikeArgument, plain, spread}
use Rattle.alias_certificate_laws.specs.accepting.Alike.{hole, AlikeArguments, Alike, apply, impure, mutate_frozen}
use Rattle.alias_certificate_laws.specs.accepting.Alike.{mutate_global, mutate, create_function}

-- ---- what is kept of a text of two words and more

-- whether a text has no space
abbrev has_none : List ℕ → Bool
has_none [] = true
has_none (c ∷ cs) = if c == 32 then false else has_none cs

lacks_first : (b : Bool) (cs : List ℕ) → (if b then false else has_none cs) ≡ true → (b ≡ false) × (has_none cs ≡ true)
lacks_first true cs h = cc
lacks_first false cs h = (refl, h)

lacks : (cs : List ℕ) → has_none cs ≡ true → Lacks 32 cs
lacks [] h = tt
lacks (c ∷ cs) h = let p = lacks_first (c == 32) cs h in (p.0, lacks cs p.1)

-- it ends, or goes on with a space
abbrev Ends : List ℕ → Type 0
Ends tail = (tail ≡ []) ⊎ ((rest : List ℕ) × (tail ≡ 32 ∷ rest))

ends_none : (tail : List ℕ) → Ends tail → word_end tail ≡ 0
ends_none tail (inl h) = ap word_end h
ends_none tail (inr h) = ap word_end h.1

word_before : (ds tail : List ℕ) → Lacks 32 ds → Ends tail → word_end (ds ++ tail) ≡ length ds
word_before [] tail h e = ends_none tail e
word_before (d ∷ ds) tail h e = ap (λ b. if b then 0 else 1 + word_end (ds ++ tail)) h.0
    ∙ (let rest : word_end (ds ++ tail) ≡ length ds = word_before ds tail h.1 e in omega arith)

take_all : (xs ys : List ℕ) → take (length xs) (xs ++ ys) ≡ xs
take_all [] ys = refl
take_all (x ∷ xs) ys = ap (λ zs. x ∷ zs) (take_all xs ys)

module _ (ds tail : List ℕ) where
  take_name : (name : List ℕ) → take (length name) (name ++ 32 ∷ (ds ++ tail)) ≡ name
  take_name [] = refl
  take_name (c ∷ cs) = ap (λ xs. c ∷ xs) (take_name cs)

  drop_name : (name : List ℕ) → drop (suc (length name)) (name ++ 32 ∷ (ds ++ tail)) ≡ ds ++ tail
  drop_name [] = refl
  drop_name (c ∷ cs) = drop_name cs

  take_both : (name : List ℕ) (n : ℕ) → n ≡ suc (length name + length ds) → take n (name ++ 32 ∷ (ds ++ tail)) ≡ name
      ++ 32 ∷ ds
  take_both [] n h = let m : n ≡ suc (length ds) = omega (arith, h) in ap (λ k. take k (32 ∷ (ds ++ tail))) m
      ∙ ap (λ zs. 32 ∷ zs) (take_all ds tail)
  take_both (c ∷ cs) n h = let m : n ≡ suc (suc (length cs + length ds)) = omega (arith, h) in
      ap (λ k. take k (c ∷ (cs ++ 32 ∷ (ds ++ tail)))) m
      ∙ ap (λ zs. c ∷ zs) (take_both cs (suc (length cs + length ds)) refl)

  module _ (digits : Lacks 32 ds) (ends : Ends tail) (name : List ℕ) (plain_name : Lacks 32 name)
      (has : has_more name ≡ true) where
    first_word : word_end (name ++ 32 ∷ (ds ++ tail)) ≡ length name
    first_word = word_before name (32 ∷ (ds ++ tail)) plain_name (inr (ds ++ tail, refl))

    longer : nat_lt (length name) (length (name ++ 32 ∷ (ds ++ tail))) ≡ true
    longer = let n : length (name ++ 32 ∷ (ds ++ tail)) ≡ length name + suc (length (ds ++ tail)) =
        length-append name (32 ∷ (ds ++ tail)) in
        lt-ltb (length name) (length (name ++ 32 ∷ (ds ++ tail))) (omega arith)

    two_words : kept (name ++ 32 ∷ (ds ++ tail)) ≡ name ++ 32 ∷ ds
    two_words =
        let t = name ++ 32 ∷ (ds ++ tail) in
        let step : ℕ → ℕ = λ n. if has_more (take n t)
        then (if nat_lt n (length t) then n + 1 + word_end (drop (n + 1) t) else n) else length t in
        let one : kept_length t ≡ step (length name) = ap step first_word in
        let two : step (length name) ≡ (if has_more name
        then (if nat_lt (length name) (length t) then length name + 1 + word_end (drop (length name + 1) t)
        else length name) else length t) =
        ap (λ z. if has_more z then (if nat_lt (length name) (length t) then length name + 1
        + word_end (drop (length name + 1) t) else length name) else length t) (take_name name) in
        let three : (if has_more name then (if nat_lt (length name) (length t) then length name + 1
        + word_end (drop (length name + 1) t) else length name) else length t) ≡ length name + 1
        + word_end (drop (length name + 1) t) =
        ap (λ b. if b then (if nat_lt (length name) (length t) then length name + 1
        + word_end (drop (length name + 1) t) else length name) else length t) has
        ∙ ap (λ b. if b then length name + 1 + word_end (drop (length name + 1) t) else length name) longer in
        let next : length name + 1 ≡ suc (length name) = omega arith in
        let behind : word_end (drop (length name + 1) t) ≡ length ds = ap (λ n. word_end (drop n t)) next
        ∙ ap word_end (drop_name name) ∙ word_before ds tail digits ends in
        let four : kept_length t ≡ suc (length name + length ds) = one ∙ two ∙ three ∙ (omega arith) in
        ap (λ n. take n t) four ∙ take_both name (suc (length name + length ds)) refl

-- ---- effects

number_lacks : (n : ℕ) → Lacks 32 (decimal n)
number_lacks n = decimal_lacks 32 n (omega arith)

mutation_ends : (r : Option MutationReason) → Ends (mutation_text r)
mutation_ends None = inl refl
mutation_ends (Some AssignCurrentProperty) = inr (codes "AssignCurrentProperty", refl)

kept_mutate : (v : Place) (r : Option MutationReason) → kept (effect_text (effect.Mutate v r)) ≡ codes "Mutate" ++ 32
    ∷ decimal v.identifier.0
kept_mutate v r = two_words (decimal v.identifier.0) (mutation_text r) (number_lacks v.identifier.0) (mutation_ends r)
    (codes "Mutate") (lacks (codes "Mutate") refl) refl

kept_error : (name : List ℕ) (p : Place) (d : ReportId) → has_none name ≡ true → has_more name ≡ true
    → kept (name ++ 32 ∷ (decimal p.identifier.0 ++ spaced d.instance)) ≡ name ++ 32 ∷ decimal p.identifier.0
kept_error name p d lacking has = two_words (decimal p.identifier.0) (spaced d.instance) (number_lacks p.identifier.0)
    (inr (decimal d.instance, refl)) name (lacks name lacking) has

same_places : (ps qs : List Place) → AlikePlaces ps qs → flat_map (λ (p : Place). spaced p.identifier.0) ps
    ≡ flat_map (λ (p : Place). spaced p.identifier.0) qs
same_places ps qs none = refl
same_places ps qs (more {xs = xs} {ys = ys} (at p q) rest) =
    ap (λ z. spaced p.identifier.0 ++ z) (same_places xs ys rest)

same_argument : (a b : PlaceOrSpreadOrHole) → AlikeArgument a b → arg_text a ≡ arg_text b
same_argument a b (plain p q) = refl
same_argument a b (spread p q) = refl
same_argument a b hole = refl

same_arguments : (args others : List PlaceOrSpreadOrHole) → AlikeArguments args others → flat_map arg_text args
    ≡ flat_map arg_text others
same_arguments args others none = refl
same_arguments args others (more {a = a} {b = b} {xs = xs} {ys = ys} q rest) =
    ap (λ z. z ++ flat_map arg_text xs) (same_argument a b q) ∙ ap (λ z. arg_text b ++ z) (same_arguments xs ys rest)

pub kept_alike : (e f : AliasingEffect) → Alike e f → kept (effect_text e) ≡ kept (effect_text f)
kept_alike e f (apply r s g h x y mutates args others signature span other a) =
    ap (λ z. kept (pair_text (codes "Apply") r g ++ z ++ spaced x.identifier.0)) (same_arguments args others a)
kept_alike e f (create_function x y g ps qs a) =
    ap (λ z. kept (one_text (codes "CreateFunction") x ++ spaced g.0 ++ z)) (same_places ps qs a)
kept_alike e f (impure p q d g) = kept_error (codes "Impure") p d refl refl
    ∙ sym (kept_error (codes "Impure") p g refl refl)
kept_alike e f (mutate_frozen p q d g) = kept_error (codes "MutateFrozen") p d refl refl
    ∙ sym (kept_error (codes "MutateFrozen") p g refl refl)
kept_alike e f (mutate_global p q d g) = kept_error (codes "MutateGlobal") p d refl refl
    ∙ sym (kept_error (codes "MutateGlobal") p g refl refl)
kept_alike e f (mutate v w r s) = kept_mutate v r ∙ sym (kept_mutate v s)
kept_alike e f a = refl

same_self : (xs : List ℕ) → same_text xs xs ≡ true
same_self [] = refl
same_self (x ∷ xs) = ap (λ b. b && same_text xs xs) (eq-eqb x x refl) ∙ same_self xs

pub claimed_alike : (e f : AliasingEffect) → Alike e f → tells f (effect_text e) ≡ true
claimed_alike e f a = ap (λ t. same_text t (kept (effect_text e))) (sym (kept_alike e f a))
    ∙ same_self (kept (effect_text e))
