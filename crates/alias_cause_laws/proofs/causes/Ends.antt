-- How range ends change as a function's effects pass ends, and as the ranges of its context are reset.
use Rattle.std.specs.Prelude.{◌≡◌, ℕ, ◌≤◌, ◌&&◌, ◌==◌, nat_eq, true, false, is_none, List, [], ◌∷◌, ◌++◌, Option, Some}
use Rattle.std.specs.Prelude.{None, length, slice_get, slice_set, refl}
use Rattle.std.specs.List.{list_all}
use Rattle.std.proofs.Common.{zero, suc, ap, ◌∙◌, length-append, arith}
use Rattle.std.proofs.lemmas.Bool.{eqb-true}
use Rattle.alias_base.specs.AnswerLaws.{both_true}
use Rattle.alias_fitting_laws.specs.bare.Bare.{without_range}
use Rattle.alias_effects.specs.Inference.{end_tables, env_after}
use Rattle.alias_effects.specs.declared.output.PassEnd.{PassEnd}
use Rattle.alias_rules.specs.function_rules.Rules.{is_among, identifier_is_uninferred, environment_is_uninferred}
use Rattle.alias_rules.specs.function_rules.Rules.{function_is_uninferred}
use Rattle.alias_hir.specs.Tables.{fresh_identifier, with_identifier}
use Rattle.alias_hir.specs.declared.env.Environment.{Environment}
use Rattle.alias_hir.specs.declared.env.Identifier.{Identifier}
use Rattle.alias_hir.specs.declared.place.Place.{Place}
use Rattle.alias_hir.specs.declared.place.Span.{Span}
use Rattle.alias_nested.specs.Annotating.{reset_at, reset}
use Rattle.alias_nesting_laws.specs.PartLaws.{among_cases}
use Rattle.alias_nesting_laws.specs.SlotLaws.{length_set}
use Rattle.alias_answer_laws.proofs.order.Ordering.{neither, differs}
use Rattle.alias_range_pass.specs.places.Causes.{numbers_of}
use Rattle.alias_graph.specs.Reach.{end_of, end_at}
use Rattle.alias_tables.specs.declared.temporaries.Temporary.{Temporary}
use Rattle.alias_tables.specs.write_back.WriteBack.{with_identifiers}

-- ---- the effects pass

-- an identifier that is added has no end
added_end : (is : List Identifier) (span : Option Span) (number ty n : ℕ)
    → end_at (is ++ fresh_identifier span number ty ∷ []) n ≡ end_at is n
added_end [] span number ty zero = refl
added_end [] span number ty (suc n) = refl
added_end (i ∷ is) span number ty zero = refl
added_end (i ∷ is) span number ty (suc n) = added_end is span number ty n

identified_ends : (ts : List Temporary) (env : Environment) (n : ℕ) → end_at (with_identifiers ts env).identifiers n
    ≡ end_at env.identifiers n
identified_ends [] env n = refl
identified_ends (t ∷ ts) env n = identified_ends ts (with_identifier t.place.span env) n
    ∙ added_end env.identifiers t.place.span (length env.identifiers) (length env.types) n

-- the effects pass ends no range
pub passed_ends : (env : Environment) (e : PassEnd) (n : ℕ) → end_at (env_after env e).identifiers n
    ≡ end_at env.identifiers n
passed_ends env e n = identified_ends (end_tables e).temporaries env n

identified_length : (ts : List Temporary) (env : Environment) → length env.identifiers
    ≤ length (with_identifiers ts env).identifiers
identified_length [] env = omega arith
identified_length (t ∷ ts) env =
    let one = length-append env.identifiers
    (fresh_identifier t.place.span (length env.identifiers) (length env.types) ∷ []) in
    let rest = identified_length ts (with_identifier t.place.span env) in
    omega (arith, one, rest)

-- and lets no identifier go
pub passed_length : (env : Environment) (e : PassEnd) → length env.identifiers ≤ length (env_after env e).identifiers
passed_length env e = identified_length (end_tables e).temporaries env

-- behind the table there is no end
pub past_ends : (is : List Identifier) (n : ℕ) → length is ≤ n → end_at is n ≡ 0
past_ends [] n h = refl
past_ends (i ∷ is) zero h = absurd (omega arith)
past_ends (i ∷ is) (suc n) h = past_ends is n (omega arith)

-- ---- ranges are reset

set_end : (is : List Identifier) (k : ℕ) (x : Identifier) → end_at (slice_set is k (without_range x)) k ≡ 0
set_end [] k x = refl
set_end (i ∷ is) zero x = refl
set_end (i ∷ is) (suc k) x = set_end is k x

end_there : (is : List Identifier) (k : ℕ) (o : Option Identifier) → slice_get is k ≡ o → end_at (reset_at is k o) k ≡ 0
end_there is k None h = ap end_of h
end_there is k (Some x) h = set_end is k x

set_apart : (is : List Identifier) (k n : ℕ) (x : Identifier) → (n ≡ k → ⊥) → end_at (slice_set is k x) n ≡ end_at is n
set_apart [] k n x h = refl
set_apart (i ∷ is) zero zero x h = absurd (h refl)
set_apart (i ∷ is) zero (suc n) x h = refl
set_apart (i ∷ is) (suc k) zero x h = refl
set_apart (i ∷ is) (suc k) (suc n) x h = set_apart is k n x (λ e. h (ap suc e))

end_apart : (is : List Identifier) (k n : ℕ) (o : Option Identifier) → (n ≡ k → ⊥) → end_at (reset_at is k o) n
    ≡ end_at is n
end_apart is k n None h = refl
end_apart is k n (Some x) h = set_apart is k n (without_range x) h

-- where the identifier is none of the places', its end stays
pub reset_stays : (ps : List Place) (is : List Identifier) (n : ℕ) → is_among (numbers_of ps) n ≡ false
    → end_at (reset ps is) n ≡ end_at is n
reset_stays [] is n h = refl
reset_stays (p ∷ ps) is n h =
    let b = neither (nat_eq n p.identifier.0) (is_among (numbers_of ps) n) h in
    reset_stays ps (reset_at is p.identifier.0 (slice_get is p.identifier.0)) n b.1
    ∙ end_apart is p.identifier.0 n (slice_get is p.identifier.0) (differs n p.identifier.0 b.0)

-- an unset end stays unset
still_unset : (is : List Identifier) (k n : ℕ) (o : Option Identifier) → slice_get is k ≡ o → end_at is n ≡ 0
    → end_at (reset_at is k o) n ≡ 0
still_unset is k n o e h =
    elim (nat_eq n k) as (λ b. nat_eq n k ≡ b → end_at (reset_at is k o) n ≡ 0) [
      | true ↦ λ same. ap (λ z. end_at (reset_at is k o) z) (eqb-true n k same) ∙ end_there is k o e
      | false ↦ λ other. end_apart is k n o (differs n k other) ∙ h
    ] refl

unset_stays : (ps : List Place) (is : List Identifier) (n : ℕ) → end_at is n ≡ 0 → end_at (reset ps is) n ≡ 0
unset_stays [] is n h = h
unset_stays (p ∷ ps) is n h = unset_stays ps (reset_at is p.identifier.0 (slice_get is p.identifier.0)) n
    (still_unset is p.identifier.0 n (slice_get is p.identifier.0) refl h)

-- where it is that of one of the places, it is unset
pub reset_unset : (ps : List Place) (is : List Identifier) (n : ℕ) → is_among (numbers_of ps) n ≡ true
    → end_at (reset ps is) n ≡ 0
reset_unset [] is n h = cc
reset_unset (p ∷ ps) is n h =
    let k : ℕ = p.identifier.0 in
    let o : Option Identifier = slice_get is k in
    among_cases k (numbers_of ps) n (end_at (reset (p ∷ ps) is) n ≡ 0) h
    (λ e. unset_stays ps (reset_at is k o) n (ap (λ z. end_at (reset_at is k o) z) e ∙ end_there is k o refl))
    (λ later. reset_unset ps (reset_at is k o) n later)

reset_at_length : (is : List Identifier) (n : ℕ) (o : Option Identifier) → length (reset_at is n o) ≡ length is
reset_at_length is n None = refl
reset_at_length is n (Some i) = length_set is n (without_range i)

pub reset_length : (ps : List Place) (is : List Identifier) → length (reset ps is) ≡ length is
reset_length [] is = refl
reset_length (p ∷ ps) is = reset_length ps (reset_at is p.identifier.0 (slice_get is p.identifier.0))
    ∙ reset_at_length is p.identifier.0 (slice_get is p.identifier.0)

-- ---- nothing is inferred yet

uninferred_ends : (is : List Identifier) (n : ℕ) → list_all identifier_is_uninferred is ≡ true → end_at is n ≡ 0
uninferred_ends [] n h = refl
uninferred_ends (i ∷ is) zero h =
    let b = both_true (identifier_is_uninferred i) (list_all identifier_is_uninferred is) h in
    let c = both_true ((i.mutable_range.start.0 == 0) && (i.mutable_range.end.0 == 0)) (is_none i.scope) b.0 in
    eqb-true i.mutable_range.end.0 0 (both_true (i.mutable_range.start.0 == 0) (i.mutable_range.end.0 == 0) c.0).1
uninferred_ends (i ∷ is) (suc n) h = uninferred_ends is n
    (both_true (identifier_is_uninferred i) (list_all identifier_is_uninferred is) h).1

pub begun_unset : (env : Environment) (n : ℕ) → environment_is_uninferred env ≡ true → end_at env.identifiers n ≡ 0
begun_unset env n h =
    let a = both_true ((length env.errors == 0) && (length env.interned == 0)
    && list_all identifier_is_uninferred env.identifiers) (list_all function_is_uninferred env.functions) h in
    uninferred_ends env.identifiers n (both_true ((length env.errors == 0) && (length env.interned == 0))
    (list_all identifier_is_uninferred env.identifiers) a.0).1
