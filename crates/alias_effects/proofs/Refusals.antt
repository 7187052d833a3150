-- A refusal goes on unchanged, whatever was to be made of the answer.
use Rattle.std.proofs.Common.{◌≡◌, sym, subst}
use Rattle.std.specs.Prelude.{Result, Ok, Err, ⊤, IsErrAnd}
use Rattle.alias_base.specs.Answer.{◌>>=◌, Gives}
use Rattle.alias_hir.specs.Errors.{is_memory}
use Rattle.alias_hir.specs.declared.error.InferError.{InferError}
use Rattle.alias_effects.specs.Faults.{GivesInto}

same_refusal : {A B C E : Type 0} (r : Result A E) (f : A → B) (g : A → C) (e : E)
    → ◌≡◌ {A = Result B E} (r >>= (λ x. Ok (f x))) (Err e) → ◌≡◌ {A = Result C E} (r >>= (λ x. Ok (g x))) (Err e)
same_refusal (Ok x) f g e h = cc
same_refusal (Err z) f g e h = cc

-- what refuses one answer refuses another that is made of the same
pub refused_alike : {A B C : Type 0} (r : Result A InferError) (f : A → B) (g : A → C) (q : Result ⊤ InferError)
    (now : C) (e : InferError)
    → Gives {A = B} is_memory (r >>= (λ x. Ok (f x))) (Err e) → IsErrAnd q (λ z. z ≡ e)
    → GivesInto is_memory (r >>= (λ x. Ok (g x))) q now
refused_alike r f g (Ok u) now e h is = absurd is
refused_alike r f g (Err z) now e h is =
    subst (λ (y : InferError). GivesInto is_memory (r >>= (λ x. Ok (g x))) (Err y) now) (sym is)
    (λ m. same_refusal r f g e (h m))
