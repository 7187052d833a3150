-- Pieces that are taken and added one after the other.
use Rattle.std.proofs.Common.{ℕ, ◌≡◌, ◌+◌, ◌-◌, ◌<◌, ◌≤◌, Bool, List, [], ◌∷◌, ◌++◌, Option, None, Some, length, take}
use Rattle.std.proofs.Common.{drop, refl, sym, ◌∙◌, ap, subst, inl, inr, append_assoc, arith, length-append}
use Rattle.std.proofs.Math.Seq.{take-add, take-append_seam}
use Rattle.std.proofs.lemmas.List.{append-nil, take_rest}
use Rattle.std.proofs.lemmas.List.Folds.{drop_split}
use Rattle.alias_stream.specs.Streams.{Takes, IsAtEnd, Adds, HasFailed, IsAllOf, IfKnown}

rest_empty : (xs ys : List ℕ) → xs ++ ys ≡ [] → ys ≡ []
rest_empty [] ys e = e
rest_empty (x ∷ xs) ys e = cc

pub takes-none : (a : Option (List ℕ)) → Takes a [] a
takes-none None = refl
takes-none (Some xs) = (xs, refl, refl)

pub takes-more : (a : Option (List ℕ)) (xs : List ℕ) (b : Option (List ℕ)) (ys : List ℕ) (c : Option (List ℕ))
    → Takes a xs b → Takes b ys c → Takes a (xs ++ ys) c
takes-more None xs b ys c p q = let P : Option (List ℕ) → Type 0 = λ o. Takes o ys c in subst P p q
takes-more (Some old) xs b ys c p q =
    let P : Option (List ℕ) → Type 0 = λ o. Takes o ys c in
    let r : Takes (Some p.0) ys c = subst P p.2 q in
    let e : old ≡ (xs ++ ys) ++ r.0 = p.1 ∙ ap (λ zs. xs ++ zs) r.1 ∙ sym (append_assoc xs ys r.0) in
    (r.0, e, r.2)

pub takes-all : (a : Option (List ℕ)) (xs : List ℕ) (b : Option (List ℕ)) → Takes a xs b → IsAtEnd b → IsAllOf a xs
takes-all None xs b p q = tt
takes-all (Some old) xs b p q =
    let e : p.0 ≡ [] = subst IsAtEnd p.2 q in
    p.1 ∙ ap (λ zs. xs ++ zs) e ∙ append-nil xs

-- what is at its end gives nothing, and stays there
pub takes-end : (a : Option (List ℕ)) (xs : List ℕ) (b : Option (List ℕ)) → Takes a xs b → IsAtEnd a → IsAtEnd b
takes-end None xs b p q = subst IsAtEnd (sym p) tt
takes-end (Some old) xs b p q =
    let both : xs ++ p.0 ≡ [] = sym p.1 ∙ q in
    let rest : IsAtEnd (Some p.0) = rest_empty xs p.0 both in
    subst IsAtEnd (sym p.2) rest

pub takes-long : (a : Option (List ℕ)) (xs : List ℕ) (b : Option (List ℕ)) (n : ℕ) → Takes a xs b → n < length xs
    → IfKnown a (λ all. n < length all)
takes-long None xs b n p h = tt
takes-long (Some old) xs b n p h = omega (arith, ap length p.1, length-append xs p.0)

pub adds-more : (a : Option (List ℕ)) (xs : List ℕ) (b : Option (List ℕ)) (ys : List ℕ) (c : Option (List ℕ))
    → Adds a xs b → Adds b ys c → Adds a (xs ++ ys) c
adds-more None xs b ys c p q = let P : Option (List ℕ) → Type 0 = λ o. Adds o ys c in subst P p q
adds-more (Some old) xs b ys c p q =
    let P : Option (List ℕ) → Type 0 = λ o. Adds o ys c in
    let r : Adds (Some (old ++ xs)) ys c = subst P p q in
    r ∙ ap Some (append_assoc old xs ys)

-- a fault after others
pub failed-later : (a b c : ℕ) (last : Bool) → a ≤ b → HasFailed b c last → HasFailed a c last
failed-later a b c last h f = elim f [ inl lt ↦ inl (omega arith) | inr t ↦ inr t ]

-- the rest of a text from n on, and k bytes of that
pub adds-rest : (a : Option (List ℕ)) (text : List ℕ) (n k : ℕ) (b c : Option (List ℕ)) → Adds a (take n text) b
    → Adds b (take k (take (length text - n) (drop n text))) c → Adds a (take (n + k) text) c
adds-rest a text n k b c p q =
    let r : Adds b (take k (drop n text)) c = rw (take_rest text n) at q in
    rw (take-add n k text) (adds-more a (take n text) b (take k (drop n text)) c p r)

pub takes-piece : (a : Option (List ℕ)) (xs : List ℕ) (b : Option (List ℕ)) (ys : List ℕ) (c : Option (List ℕ))
    (new : List ℕ) → Takes a xs b → Takes b ys c → new ≡ xs ++ ys → Takes a new c
takes-piece a xs b ys c new p q e = rw e (takes-more a xs b ys c p q)

-- what is left once a piece was copied to the front of a buffer
pub takes-copy : (bytes : List ℕ) (at n : ℕ) (copy back : List ℕ) → length copy ≡ n → copy
    ≡ take (at + n - at) (drop at bytes) → drop at bytes ≡ take n (copy ++ back) ++ drop (at + n) bytes
takes-copy bytes at n copy back h e =
    let f : take n (copy ++ back) ≡ copy =
    subst (λ (k : ℕ). take k (copy ++ back) ≡ copy) h (take-append_seam copy back) in
    let le : at ≤ at + n = omega arith in
    rw f (rw e (drop_split bytes at (at + n) le))
