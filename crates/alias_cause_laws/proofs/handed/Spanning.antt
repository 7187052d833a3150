-- The ranges of parameters stay once their function is analysed.
use Rattle.std.specs.Prelude.{◌≡◌, ℕ, ◌+◌, ◌<◌, ◌≤◌, ◌⊎◌, nat_eq, Bool, true, false, List, [], ◌∷◌, ◌++◌, length, map}
use Rattle.std.specs.Prelude.{Option, Some, None, Ok, slice_get, refl}
use Rattle.std.proofs.Common.{zero, suc, inl, inr, ⊎_elim, ap, sym, ◌∙◌, subst, arith}
use Rattle.std.proofs.lemmas.List.{append-nil, append_assoc}
use Rattle.alias_base.specs.declared.ids.FunctionId.{FunctionId}
use Rattle.alias_effects.specs.Inference.{end_tables, env_after}
use Rattle.alias_effects.specs.Recording.{with_effects_of}
use Rattle.alias_effects.specs.declared.output.PassEnd.{PassEnd}
use Rattle.alias_effects.specs.declared.solved.Solved.{Solved}
use Rattle.alias_fitting_laws.specs.bare.Bare.{bare, without_range}
use Rattle.alias_fitting_laws.specs.bare.BareIdentifiers.{params_ids}
use Rattle.alias_graph.specs.Reach.{end_at}
use Rattle.alias_graph.specs.Walks.{IsOneOf}
use Rattle.alias_hir.specs.Parts.{param_place}
use Rattle.alias_hir.specs.Tables.{fresh_identifier, with_identifier}
use Rattle.alias_hir.specs.declared.env.Environment.{Environment}
use Rattle.alias_hir.specs.declared.env.Identifier.{Identifier}
use Rattle.alias_hir.specs.declared.env.Unit.{Unit as HirUnit}
use Rattle.alias_hir.specs.declared.hir.HirFunction.{HirFunction}
use Rattle.alias_hir.specs.declared.hir.ParamPattern.{ParamPattern}
use Rattle.alias_hir.specs.declared.place.Place.{Place}
use Rattle.alias_hir.specs.declared.place.Span.{Span}
use Rattle.alias_nested.proofs.Changing.{slots_stay}
use Rattle.alias_nested.proofs.Creating.{once_again}
use Rattle.alias_nested.proofs.Evolving.{passed_contexts}
use Rattle.alias_nested.specs.Analysis.{Analysed}
use Rattle.alias_nested.specs.Annotating.{summarized, reset_at, reset}
use Rattle.alias_nested.specs.Roots.{with_effects}
use Rattle.alias_nested.specs.Units.{UnitAnalysis, unit_analysed}
use Rattle.alias_nesting_laws.specs.FittingLaws.{first_among, later_among}
use Rattle.alias_nesting_laws.specs.PartLaws.{absent, among_cases}
use Rattle.alias_nesting_laws.specs.SlotLaws.{set_other}
use Rattle.alias_answer_laws.proofs.order.Ordering.{neither, differs}
use Rattle.alias_range_pass.specs.places.Causes.{numbers_of}
use Rattle.alias_rules.specs.Functions.{of_function, rules_hold}
use Rattle.alias_rules.specs.Nesting.{times}
use Rattle.alias_rules.specs.RuleLaws.{nested_of_rules}
use Rattle.alias_rules.specs.Sharing.{identifiers_of, identifiers_at, context_of, context_at}
use Rattle.alias_rules.specs.TreeLaws.{counted, times_both}
use Rattle.alias_rules.specs.declared.rules.Rule.TheVariants.{Distinct}
use Rattle.alias_rules.specs.function_rules.Rules.{is_among, first_again, own_identifiers, repeated}
use Rattle.alias_rules.specs.function_rules.Rules.{function_is_uninferred, environment_is_uninferred}
use Rattle.alias_tables.specs.declared.temporaries.Temporary.{Temporary}
use Rattle.alias_tables.specs.write_back.WriteBack.{with_identifiers}
use Rattle.alias_visit.specs.Places.{identifiers_in}
use Rattle.alias_inferred_laws.proofs.handed.Preceding.{WasThere, IsNew, new_or_there}
use Rattle.alias_inferred_laws.proofs.inferred.Rooting.{root_entry}
use Rattle.alias_inferred_laws.specs.handed.Handed.{IsNamed}
use Rattle.alias_cause_laws.proofs.causes.Caused.{bare_alike, slots_same}
use Rattle.alias_cause_laws.proofs.causes.Chain.{Around, around, link_uninferred, link_context, link_named, link_left}
use Rattle.alias_cause_laws.proofs.causes.Chain.{link_length, chain_stays}
use Rattle.alias_cause_laws.proofs.causes.Passes.{PassesRan, Named, own_places, begun, begun_bare, after}
use Rattle.alias_cause_laws.proofs.causes.Ranges.{order, parts, root, root_ran, walked, IsOwn, own_free, own_below}
use Rattle.alias_cause_laws.proofs.causes.Ranges.{own_stays, not_behind, not_root}
use Rattle.alias_cause_laws.proofs.causes.Walking.{Link, Chained, chained_then, Stored, stored_still}
use Rattle.alias_cause_laws.proofs.handed.Starting.{pass_starts}
use Rattle.alias_cause_laws.specs.handed.Spans.{start_of, start_at, SameRange, ParamsStay}

some_same : {A : Type 0} (x y : A) → Some x ≡ Some y → x ≡ y
some_same x y e = cc

-- ---- the effects pass, and what is reset

-- an identifier that is added has no start
added_start : (is : List Identifier) (span : Option Span) (number ty n : ℕ)
    → start_at (is ++ fresh_identifier span number ty ∷ []) n ≡ start_at is n
added_start [] span number ty zero = refl
added_start [] span number ty (suc n) = refl
added_start (i ∷ is) span number ty zero = refl
added_start (i ∷ is) span number ty (suc n) = added_start is span number ty n

identified_starts : (ts : List Temporary) (env : Environment) (n : ℕ) → start_at (with_identifiers ts env).identifiers n
    ≡ start_at env.identifiers n
identified_starts [] env n = refl
identified_starts (t ∷ ts) env n = identified_starts ts (with_identifier t.place.span env) n
    ∙ added_start env.identifiers t.place.span (length env.identifiers) (length env.types) n

passed_starts : (env : Environment) (e : PassEnd) (n : ℕ) → start_at (env_after env e).identifiers n
    ≡ start_at env.identifiers n
passed_starts env e n = identified_starts (end_tables e).temporaries env n

start_apart : (is : List Identifier) (k n : ℕ) (o : Option Identifier) → (n ≡ k → ⊥) → start_at (reset_at is k o) n
    ≡ start_at is n
start_apart is k n None h = refl
start_apart is k n (Some x) h = ap start_of (set_other is k n (without_range x) h)

reset_starts : (ps : List Place) (is : List Identifier) (n : ℕ) → is_among (numbers_of ps) n ≡ false
    → start_at (reset ps is) n ≡ start_at is n
reset_starts [] is n h = refl
reset_starts (p ∷ ps) is n h =
    let b = neither (nat_eq n p.identifier.0) (is_among (numbers_of ps) n) h in
    let o : Option Identifier = slice_get is p.identifier.0 in
    reset_starts ps (reset_at is p.identifier.0 o) n b.1
    ∙ start_apart is p.identifier.0 n o (differs n p.identifier.0 b.0)

-- ---- the passes on a function

module _ (u : Environment) (g : HirFunction) (uninferred : function_is_uninferred g ≡ true) (b : Bool)
    (env : Environment) (f : HirFunction) (p : PassesRan u g b env f) where
  -- what the function doesn't name keeps its start
  starts_stay : (n : ℕ) → (Named u g uninferred b env f p n → ⊥) → start_at p.ranged.after.1.identifiers n
      ≡ start_at env.identifiers n
  starts_stay n off =
      let N : ℕ → Type 0 = Named u g uninferred b env f p in
      let own = own_places u g uninferred b env f p N (begun u g uninferred b env f p) (λ x m. inl m)
      (begun_bare u g uninferred b env f p) in
      pass_starts N b (begun u g uninferred b env f p) env (after u g uninferred b env f p) p.ranged n p.ran own
      (passed_contexts env p.end) off ∙ passed_starts env p.end n

module _ (u : Environment) (uninferred : environment_is_uninferred u ≡ true) where
  module _ (id : FunctionId) (x : Analysed) (new : List Identifier) (l : Link u id x new) where
    -- but for context places starts are those that the range pass left
    left_start : (n : ℕ) → is_among (context_at u id.0) n ≡ false → start_at new n
        ≡ start_at l.ran.ranged.after.1.identifiers n
    left_start n h =
        ap (λ is. start_at is n) (sym l.left)
        ∙ reset_starts (summarized l.ran.ranged.summary l.ran.ranged.after.0).context l.ran.ranged.after.1.identifiers n
        (subst (λ xs. is_among xs n ≡ false) (sym (link_context u uninferred id x new l)) h)

    -- what doesn't stand in the function keeps its start
    link_start : (n : ℕ) → (is_among (identifiers_at u id.0) n ≡ true → ⊥) → n < length x.env.identifiers
        → start_at new n ≡ start_at x.env.identifiers n
    link_start n off below =
        let free : is_among (context_at u id.0) n ≡ false =
        absent (is_among (context_at u id.0) n) (λ c. off (link_named u uninferred id x new l n c)) in
        left_start n free
        ∙ starts_stay u l.func (link_uninferred u uninferred id x new l) true x.env x.func l.ran n
        (λ named. ⊎_elim (λ there. off (subst (λ xs. is_among xs n ≡ true) (sym (ap (identifiers_of u) l.slot)) there))
        (λ past. absurd (omega arith)) named)

  chain_start : (old new : List Identifier) (ids : List FunctionId) (xs : List Analysed) → Chained u old ids xs new
      → (n : ℕ) → ((id : FunctionId) → IsOneOf id ids → is_among (identifiers_at u id.0) n ≡ true → ⊥) → n < length old
      → start_at new n ≡ start_at old n
  chain_start old new [] [] c n off below = ap (λ is. start_at is n) (sym c)
  chain_start old new [] (x ∷ xs) c n off below = absurd c
  chain_start old new (id ∷ ids) [] c n off below = absurd c
  chain_start old new (id ∷ ids) (x ∷ xs) c n off below =
      let e : length x.env.identifiers ≡ length old = ap length c.0 in
      let there : n < length x.env.identifiers = omega arith in
      let more = link_length u uninferred id x c.1 c.2 in
      chain_start c.1 new ids xs c.3 n (λ j i. off j (inr i)) (omega arith)
      ∙ link_start id x c.1 c.2 n (off id (inl refl)) there ∙ ap (λ is. start_at is n) c.0

-- ---- chains in two parts

record Split (u : Environment) (old : List Identifier) (ids : List FunctionId) (xs zs : List Analysed)
    (new : List Identifier) : Type 0 where
  front : List FunctionId
  back : List FunctionId
  split : ids ≡ front ++ back
  mid : List Identifier
  first : Chained u old front xs mid
  rest : Chained u mid back zs new

split_chain : (u : Environment) (old new : List Identifier) (ids : List FunctionId) (xs zs : List Analysed)
    → Chained u old ids (xs ++ zs) new → Split u old ids xs zs new
split_chain u old new ids [] zs c = record { front = []; back = ids; split = refl; mid = old; first = refl; rest = c }
split_chain u old new [] (x ∷ xs) zs c = absurd c
split_chain u old new (id ∷ ids) (x ∷ xs) zs c =
    let s : Split u c.1 ids xs zs new = split_chain u c.1 new ids xs zs c.3 in
    record {
      front = id ∷ s.front;
      back = s.back;
      split = ap (λ z. id ∷ z) s.split;
      mid = s.mid;
      first = (c.0, c.1, c.2, s.first);
      rest = s.rest;
    }

begins_at : (u : Environment) (mid new : List Identifier) (ids : List FunctionId) (x : Analysed) (zs : List Analysed)
    → Chained u mid ids (x ∷ zs) new → x.env.identifiers ≡ mid
begins_at u mid new [] x zs c = absurd c
begins_at u mid new (id ∷ ids) x zs c = c.0

ends_at : (u : Environment) (mid new : List Identifier) (ids : List FunctionId) → Chained u mid ids [] new → mid ≡ new
ends_at u mid new [] c = c
ends_at u mid new (id ∷ ids) c = absurd c

front_of : (xs ys : List FunctionId) (id : FunctionId) → IsOneOf id xs → IsOneOf id (xs ++ ys)
front_of [] ys id i = absurd i
front_of (x ∷ xs) ys id i = ⊎_elim (λ same. inl same) (λ later. inr (front_of xs ys id later)) i

found_named : (id : FunctionId) (xs : List Analysed) → IsNamed id xs → (y : Analysed) × IsOneOf y xs
    × (y.solved.function ≡ Some id)
found_named id [] i = absurd i
found_named id (x ∷ xs) i = ⊎_elim (λ here. (x, inl refl, sym here))
    (λ later. let r = found_named id xs later in (r.0, inr r.1, r.2)) i

-- ---- parameters

abbrev number_of : ParamPattern → ℕ
number_of p = (param_place p).identifier.0

number_there : (ps : List ParamPattern) (p : ParamPattern) → IsOneOf p ps → is_among (map number_of ps) (number_of p)
    ≡ true
number_there [] p i = absurd i
number_there (x ∷ ps) p i =
    ⊎_elim (λ (same : p ≡ x). subst (λ z. is_among (number_of z ∷ map number_of ps) (number_of p) ≡ true) same
    (first_among (number_of p) (map number_of ps)))
    (λ later. later_among (number_of x) (map number_of ps) (number_of p) (number_there ps p later)) i

param_among : (ps : List ParamPattern) (cs rs bs : List Place) (n : ℕ) → is_among (map number_of ps) n ≡ true
    → is_among (map (λ (p : Place). p.identifier.0) (map param_place ps ++ cs ++ rs ++ bs)) n ≡ true
param_among [] cs rs bs n h = cc
param_among (p ∷ ps) cs rs bs n h =
    let others : List ℕ = map (λ (q : Place). q.identifier.0) (map param_place ps ++ cs ++ rs ++ bs) in
    among_cases (number_of p) (map number_of ps) n (is_among (number_of p ∷ others) n ≡ true) h
    (λ same. subst (λ z. is_among (z ∷ others) n ≡ true) same (first_among n others))
    (λ later. later_among (number_of p) others n (param_among ps cs rs bs n later))

not_again : (o : Option FunctionId) (k : Option ℕ) → repeated o k ≡ Ok tt → k ≡ None
not_again o None h = refl
not_again o (Some k) h = cc

-- a parameter is no context place
apart_from_context : (o : Option FunctionId) (f : HirFunction) (n : ℕ) → repeated o (first_again [] (own_identifiers f))
    ≡ Ok tt → is_among (map number_of f.params) n ≡ true → is_among (map (λ (p : Place). p.identifier.0) f.context) n
    ≡ false
apart_from_context o f n h param =
    let params : List ℕ = map number_of f.params in
    let context : List ℕ = map (λ (p : Place). p.identifier.0) f.context in
    let once : times (own_identifiers f) n ≤ 1 =
    once_again [] (own_identifiers f) n (not_again o (first_again [] (own_identifiers f)) h) in
    absent (is_among context n) (λ there.
    let one = counted params n param in
    let two = counted context n there in
    let s = times_both (params ++ context) (f.returns.identifier.0 ∷ []) n in
    let t = times_both params context n in
    absurd (omega arith))

-- ---- the unit

module _ (u : HirUnit) (a : UnitAnalysis) (rules : rules_hold u ≡ Ok tt) (is : unit_analysed u ≡ Ok a) where
  abbrev ids_given : List Identifier
  ids_given = u.env.identifiers

  abbrev ids_nested : List Identifier
  ids_nested = (root u a rules is).nested.env.identifiers

  abbrev ids_handed : List Identifier
  ids_handed = a.inferred.unit.env.identifiers

  abbrev tables_bare : environment_is_uninferred u.env ≡ true
  tables_bare = (parts u a rules is).environment

  -- a nested function, and those analysed after it up to another one
  module _ (y : Analysed) (r : Around u.env ids_given (order u a rules is) ids_nested y) (n : ℕ)
      (own : IsOwn u a rules is y r n) where
    start_handed : start_at ids_handed n ≡ start_at r.left n
    start_handed =
        ap (λ ids. start_at ids n) (root u a rules is).identifiers
        ∙ starts_stay u.env u.function (parts u a rules is).function false (root u a rules is).nested.env u.function
        (root_ran u a rules is) n (not_root u a rules is y r n own)
        ∙ chain_start u.env tables_bare r.left ids_nested r.behind r.later r.rest n (not_behind u a rules is y r n own)
        (own_below u a rules is y r n own)

    end_handed : end_at ids_handed n ≡ end_at r.left n
    end_handed = own_stays u a rules is y r n own
        ∙ sym (link_left u.env tables_bare r.id y r.left r.link n (own_free u a rules is y r n own))

    -- the range in tables that stand after it is that of the unit that is handed out
    same_range : (mid : List Identifier) (between : List FunctionId) (zs : List Analysed)
        → ((id : FunctionId) → IsOneOf id between → IsOneOf id r.behind) → Chained u.env r.left between zs mid
        → SameRange mid ids_handed n
    same_range mid between zs sub c =
        let off : (id : FunctionId) → IsOneOf id between → is_among (identifiers_at u.env id.0) n ≡ true → ⊥ =
        λ id i. not_behind u a rules is y r n own id (sub id i) in
        let below : n < length r.left = own_below u a rules is y r n own in
        record {
          start = start_handed ∙ sym (chain_start u.env tables_bare r.left mid between zs c n off below);
          end = end_handed ∙ sym (chain_stays u.env tables_bare r.left mid between zs c n off below);
        }

  -- ---- a parameter is the function's own

  module _ (y : Analysed) (r : Around u.env ids_given (order u a rules is) ids_nested y) where
    abbrev given : HirFunction
    given = r.link.func

    fresh : function_is_uninferred given ≡ true
    fresh = link_uninferred u.env tables_bare r.id y r.left r.link

    with_effects_bare : bare (with_effects y) ≡ bare given
    with_effects_bare =
        ap (λ (z : Solved). bare (with_effects_of z y.func)) r.link.solved
        ∙ begun_bare u.env given fresh true y.env y.func r.link.ran

    param_own : (f : HirFunction) → bare f ≡ bare given → (p : ParamPattern) → IsOneOf p f.params
        → IsOwn u a rules is y r (number_of p)
    param_own f same p i =
        let n : ℕ = number_of p in
        let params : map number_of given.params ≡ map number_of f.params = sym (params_ids given.params)
        ∙ ap (λ (z : HirFunction). map number_of z.params) (sym same) ∙ params_ids f.params in
        let there : is_among (map number_of given.params) n ≡ true =
        subst (λ xs. is_among xs n ≡ true) (sym params) (number_there f.params p i) in
        let named : is_among (identifiers_in u.env given) n ≡ true = param_among given.params _ _ _ n there in
        let rule : repeated (Some r.id) (first_again [] (own_identifiers given)) ≡ Ok tt
        = sym (ap (of_function Distinct u.env r.id.0) r.link.slot)
        ∙ nested_of_rules Distinct u r.id.0 (parts u a rules is).distinct in
        inl (
          subst (λ xs. is_among xs n ≡ true) (sym (ap (identifiers_of u.env) r.link.slot)) named,
          subst (λ xs. is_among xs n ≡ false) (sym (ap context_of r.link.slot))
              (apart_from_context (Some r.id) given n rule there),
        )

  handed_alike : (y : Analysed) (id : FunctionId) → IsOneOf y (walked u a rules is).taken → y.solved.function ≡ Some id
      → Stored y (slice_get a.inferred.unit.env.functions id.0)
  handed_alike y id there number =
      stored_still y (slice_get (root u a rules is).nested.env.functions id.0)
      (slice_get a.inferred.unit.env.functions id.0)
      (slots_stay (root u a rules is).nested.env a.inferred.unit.env (slots_same u a rules is) id.0)
      ((walked u a rules is).stored y there id number).1

  -- ---- parts of the order

  module _ (xs zs : List Analysed) (split : (walked u a rules is).taken ≡ xs ++ zs) where
    parted : Split u.env ids_given (order u a rules is) xs zs ids_nested
    parted = split_chain u.env ids_given ids_nested (order u a rules is) xs zs
        (subst (λ ws. Chained u.env ids_given (order u a rules is) ws ids_nested) split (walked u a rules is).chain)

    -- one of those before
    module _ (y : Analysed) (i : IsOneOf y xs) where
      here : Around u.env ids_given parted.front parted.mid y
      here = around u.env ids_given parted.mid parted.front xs y parted.first i

      whole : Around u.env ids_given (order u a rules is) ids_nested y
      whole = record {
        before = here.before;
        id = here.id;
        behind = here.behind ++ parted.back;
        split = parted.split ∙ ap (λ z. z ++ parted.back) here.split
            ∙ append_assoc here.before (here.id ∷ here.behind) parted.back;
        earlier = here.earlier;
        later = here.later ++ zs;
        left = here.left;
        first = here.first;
        link = here.link;
        rest = chained_then u.env here.left parted.mid ids_nested here.behind parted.back here.later zs here.rest
            parted.rest;
      }

      param_range : (id : FunctionId) → IsOneOf y (walked u a rules is).taken → y.solved.function ≡ Some id
          → (f : HirFunction) → slice_get a.inferred.unit.env.functions id.0 ≡ Some f → (p : ParamPattern)
          → IsOneOf p f.params
          → SameRange parted.mid ids_handed (number_of p)
      unfolding whole here
      param_range id there number f slot p among =
          let s : Stored y (slice_get a.inferred.unit.env.functions id.0) = handed_alike y id there number in
          let func : s.func ≡ f = some_same s.func f (sym s.in_slot ∙ slot) in
          let alike : bare f ≡ bare whole.link.func = ap bare (sym func) ∙ bare_alike (with_effects y) s.func s.alike
          ∙ with_effects_bare y whole in
          same_range y whole (number_of p) (param_own y whole f alike p among) parted.mid here.behind here.later
          (λ j k. front_of here.behind parted.back j k) here.rest

    -- of all of them
    params_there : (id : FunctionId) → IsNamed id xs → (f : HirFunction) → slice_get a.inferred.unit.env.functions id.0
        ≡ Some f → (p : ParamPattern) → IsOneOf p f.params → SameRange parted.mid ids_handed (number_of p)
    params_there id named f slot p among =
        let y = found_named id xs named in
        param_range y.0 y.1 id (subst (IsOneOf y.0) (sym split) (in_front_of xs zs y.0 y.1)) y.2 f slot p among
      where
        in_front_of : (xs zs : List Analysed) (y : Analysed) → IsOneOf y xs → IsOneOf y (xs ++ zs)
        in_front_of [] zs y i = absurd i
        in_front_of (x ∷ xs) zs y i = ⊎_elim (λ same. inl same) (λ later. inr (in_front_of xs zs y later)) i

  abbrev last : Analysed
  last = root_entry u (root u a rules is).nested (root u a rules is).end

  pub params_stay : ParamsStay a
  params_stay xs ys x id whole named f slot p among =
      let fs : List Analysed = (root u a rules is).nested.functions in
      let taken : fs ≡ (walked u a rules is).taken = (walked u a rules is).functions in
      let split : fs ++ last ∷ [] ≡ xs ++ x ∷ ys = sym (root u a rules is).all ∙ whole in
      ⊎_elim
      (λ (n : IsNew fs last xs ys x).
      let all : (walked u a rules is).taken ≡ xs ++ [] = sym taken ∙ n.before ∙ sym (append-nil xs) in
      let s = parted xs [] all in
      let at : s.mid ≡ x.env.identifiers = ends_at u.env s.mid ids_nested s.back s.rest
      ∙ ap (λ (z : Analysed). z.env.identifiers) n.same in
      subst (λ ids. SameRange ids ids_handed (number_of p)) at (params_there xs [] all id named f slot p among))
      (λ (t : WasThere fs last xs ys x).
      let all : (walked u a rules is).taken ≡ xs ++ x ∷ t.rest = sym taken ∙ t.all in
      let s = parted xs (x ∷ t.rest) all in
      let at : s.mid ≡ x.env.identifiers = sym (begins_at u.env s.mid ids_nested s.back x t.rest s.rest) in
      subst (λ ids. SameRange ids ids_handed (number_of p)) at
      (params_there xs (x ∷ t.rest) all id named f slot p among))
      (new_or_there fs xs ys x last split)
