-- A function whose own identifiers are distinct is callable, where its summary is in order.
use Rattle.std.specs.Prelude.{◌≡◌, ◌≢◌, ℕ, ◌<◌, Bool, true, false, ◌||◌, List, [], ◌∷◌, ◌++◌, Option, Some, None, Ok}
use Rattle.std.specs.Prelude.{map, length, nat_eq, if◌then◌else◌, refl}
use Rattle.std.proofs.Common.{sym, ◌∙◌, arith}
use Rattle.std.proofs.lemmas.Bool.Decides.{nat_tests}
use Rattle.std.specs.List.{AllByRecursion}
use Rattle.alias_base.specs.declared.ids.FunctionId.{FunctionId}
use Rattle.alias_base.specs.declared.ids.IdentifierId.{IdentifierId}
use Rattle.alias_rules.specs.function_rules.Rules.{is_among, first_again, own_identifiers, repeated, places_distinct}
use Rattle.alias_hir.specs.Parts.{param_place}
use Rattle.alias_hir.specs.declared.effect.AliasingEffect.{AliasingEffect}
use Rattle.alias_hir.specs.declared.env.Environment.{Environment}
use Rattle.alias_hir.specs.declared.hir.HirFunction.{HirFunction}
use Rattle.alias_hir.specs.declared.hir.ParamPattern.{ParamPattern}
use Rattle.alias_hir.specs.declared.hir.ParamPattern.TheVariants as param
use Rattle.alias_hir.specs.declared.place.Place.{Place}
use Rattle.alias_calls.specs.Summaries.{same_id, plain_params, last_spread}
use Rattle.alias_completeness.specs.Fitting.{again_left, among_both}
use Rattle.alias_completeness.specs.Going.{all_both}
use Rattle.alias_completeness.specs.Callable.{IsSummary, IsNoParam, IsNotRest, IsCallable}

not_repeated : (o : Option FunctionId) (r : Option ℕ) → repeated o r ≡ Ok tt → r ≡ None
not_repeated o None h = refl
not_repeated o (Some k) h = cc

last_new : (b : Bool) (n : ℕ) → (if b then Some n else None) ≡ None → b ≡ false
last_new true n h = cc
last_new false n h = refl

both_false : (a b : Bool) → (a || b) ≡ false → (a ≡ false) × (b ≡ false)
both_false true b h = cc
both_false false b h = (refl, h)

-- the last of a list without repetition is none of those before it
last_apart : (xs : List ℕ) (n : ℕ) → first_again [] (xs ++ n ∷ []) ≡ None → is_among xs n ≡ false
last_apart xs n h =
    let left = again_left [] xs (n ∷ []) h in
    sym (left.same n) ∙ last_new (is_among left.passed n) n left.none

other_number : (m n : ℕ) → nat_eq n m ≡ false → m ≢ n
other_number m n h e = grind (arith, nat_tests)

other_param : (x r : IdentifierId) → nat_eq r.0 x.0 ≡ false → same_id x r ≡ false
other_param x r h = grind (arith, nat_tests)

abbrev param_numbers : List ParamPattern → List ℕ
param_numbers ps = map (λ p. (param_place p).identifier.0) ps

params_apart : (r : IdentifierId) (ps : List ParamPattern) → is_among (param_numbers ps) r.0 ≡ false
    → IsNoParam same_id r (plain_params ps)
params_apart r [] h = tt
params_apart r (param.Place p ∷ ps) h = let b = both_false (nat_eq r.0 p.identifier.0) _ h in
    (other_param p.identifier r b.0, params_apart r ps b.1)
params_apart r (param.Spread s ∷ ps) h = params_apart r ps (both_false (nat_eq r.0 s.place.identifier.0) _ h).1

spread_apart : (r : IdentifierId) (ps : List ParamPattern) (before : Option IdentifierId)
    → is_among (param_numbers ps) r.0 ≡ false → IsNotRest same_id r before → IsNotRest same_id r (last_spread ps before)
spread_apart r [] before h g = g
spread_apart r (param.Place p ∷ ps) before h g =
    spread_apart r ps before (both_false (nat_eq r.0 p.identifier.0) _ h).1 g
spread_apart r (param.Spread s ∷ ps) before h g = let b = both_false (nat_eq r.0 s.place.identifier.0) _ h in
    spread_apart r ps (Some s.place.identifier) b.1 (other_param s.place.identifier r b.0)

places_apart : (n : ℕ) (ps : List Place) → is_among (map (λ (p : Place). p.identifier.0) ps) n ≡ false
    → AllByRecursion (λ (p : Place). p.identifier.0 ≢ n) ps
places_apart n [] h = tt
places_apart n (p ∷ ps) h = let b = both_false (nat_eq n p.identifier.0) _ h in
    (other_number p.identifier.0 n b.0, places_apart n ps b.1)

-- what it returns has an identifier of its own
pub callable : (env : Environment) (o : Option FunctionId) (f : HirFunction) → places_distinct o f ≡ Ok tt
    → f.returns.identifier.0 < length env.identifiers
    → ((es : List AliasingEffect) → f.aliasing_effects ≡ Some es → IsSummary f.returns.identifier.0 es)
    → IsCallable env f
callable env o f distinct within summary =
    let ps = param_numbers f.params in
    let cs = map (λ (p : Place). p.identifier.0) f.context in
    let r = f.returns.identifier in
    let none : first_again [] (own_identifiers f) ≡ None =
    not_repeated o (first_again [] (own_identifiers f)) distinct in
    let both = both_false (is_among ps r.0) (is_among cs r.0)
    (sym (among_both ps cs r.0) ∙ last_apart (ps ++ cs) r.0 none) in
    record {
      within = within;
      params = params_apart r f.params both.0;
      rest = spread_apart r f.params None both.0 tt;
      context = places_apart r.0 f.context both.1;
      summary = summary;
    }

params_elsewhere : (n : ℕ) (ps : List ParamPattern) → is_among (param_numbers ps) n ≡ false
    → AllByRecursion (λ (p : Place). p.identifier.0 ≢ n) (map param_place ps)
params_elsewhere n [] h = tt
params_elsewhere n (p ∷ ps) h = let b = both_false (nat_eq n (param_place p).identifier.0) _ h in
    (other_number (param_place p).identifier.0 n b.0, params_elsewhere n ps b.1)

-- what it returns is neither a context place nor a parameter
pub returns_apart : (o : Option FunctionId) (f : HirFunction) → places_distinct o f ≡ Ok tt
    → AllByRecursion (λ (p : Place). p.identifier.0 ≢ f.returns.identifier.0) (f.context ++ map param_place f.params)
returns_apart o f distinct =
    let ps = param_numbers f.params in
    let cs = map (λ (p : Place). p.identifier.0) f.context in
    let r = f.returns.identifier.0 in
    let none : first_again [] (own_identifiers f) ≡ None =
    not_repeated o (first_again [] (own_identifiers f)) distinct in
    let both = both_false (is_among ps r) (is_among cs r) (sym (among_both ps cs r) ∙ last_apart (ps ++ cs) r none) in
    all_both (λ (p : Place). p.identifier.0 ≢ r) f.context (map param_place f.params) (places_apart r f.context both.1)
    (params_elsewhere r f.params both.0)
