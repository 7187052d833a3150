-- Names and the places that they stand for.
use Rattle.std.specs.Prelude.{◌≡◌, ℕ, ◌+◌, ◌-◌, ◌<◌, ◌≤◌, take, length, List, [], ◌∷◌, ◌++◌, refl}
use Rattle.std.proofs.Common.{ap, sym, ◌∙◌, append_assoc, append-nil, get_or, arith}
use Rattle.std.proofs.lemmas.List.{take_more}
use Rattle.alias_hir.specs.declared.env.Environment.{Environment}
use Rattle.alias_hir.specs.declared.place.Place.{Place}
use Rattle.alias_call_effects.specs.declared.named.NamedPlaces.{NamedPlaces}
use Rattle.alias_call_effects.specs.Parts.{nothing_named, both_named, context_named, contexts_named}

pub named_nothing : (ns : NamedPlaces) → both_named ns nothing_named ≡ ns
named_nothing ns = rw (append-nil ns.names, append-nil ns.places) refl

named_assoc : (ns ms ls : NamedPlaces) → both_named (both_named ns ms) ls ≡ both_named ns (both_named ms ls)
named_assoc ns ms ls = rw (append_assoc ns.names ms.names ls.names, append_assoc ns.places ms.places ls.places) refl

-- the last context place comes first
contexts_last : (env : Environment) (ps : List Place) (p : Place) → contexts_named env (ps ++ p ∷ [])
    ≡ both_named (context_named env p) (contexts_named env ps)
contexts_last env [] p = sym (named_nothing (context_named env p))
contexts_last env (x ∷ ps) p = ap (λ l. both_named l (context_named env x)) (contexts_last env ps p)
    ∙ named_assoc (context_named env p) (contexts_named env ps) (context_named env x)

-- one context place fewer is left
pub contexts_step : (env : Environment) (ps : List Place) (left : ℕ) (d : Place) (ns more all : NamedPlaces) → 0 < left
    → left ≤ length ps → both_named ns (contexts_named env (take left ps)) ≡ all
    → more ≡ both_named ns (context_named env (get_or ps (left - 1) d))
    → both_named more (contexts_named env (take (left - 1) ps)) ≡ all
contexts_step env ps left d ns more all some within is next =
    let i = left - 1 in
    let e : left ≡ i + 1 = omega arith in
    let front : contexts_named env (take left ps)
    ≡ both_named (context_named env (get_or ps i d)) (contexts_named env (take i ps)) =
    ap (λ n. contexts_named env (take n ps)) e ∙ ap (contexts_named env) (take_more ps i d (omega arith))
    ∙ contexts_last env (take i ps) (get_or ps i d) in
    ap (λ l. both_named l (contexts_named env (take i ps))) next
    ∙ named_assoc ns (context_named env (get_or ps i d)) (contexts_named env (take i ps))
    ∙ ap (both_named ns) (sym front)
    ∙ is
