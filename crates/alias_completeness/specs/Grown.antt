-- A function that is plain over an environment does what plain functions do over one that agrees with it on what the
-- function names: its instructions are as asked,
-- and its effects pass is refused for a counter alone, or since its visits aren't settled.
use Rattle.std.specs.Prelude.{◌≡◌, ℕ, Bool, true, false, not, if◌then◌else◌, List, [], ◌∷◌, ◌++◌, Option, Some, None}
use Rattle.std.specs.Prelude.{map, filter, slice_get, refl}
use Rattle.std.proofs.Common.{ap, sym, ◌∙◌, subst}
use Rattle.std.proofs.lemmas.List.{map-append}
use Rattle.std.specs.List.{flat_map, list_all}
use Rattle.std.specs.Option.{option_map_or}
use Rattle.alias_base.specs.AnswerLaws.{both_true}
use Rattle.alias_base.specs.Find.{value_at}
use Rattle.alias_base.specs.declared.ids.BlockId.{BlockId}
use Rattle.alias_base.specs.declared.ids.FunctionId.{FunctionId}
use Rattle.alias_base.specs.declared.ids.InstructionId.{InstructionId}
use Rattle.alias_base.specs.declared.ids.TypeId.{TypeId}
use Rattle.alias_facts.specs.Facts.{function_facts}
use Rattle.alias_rules.specs.function_rules.Rules.{is_among}
use Rattle.alias_hir.specs.Values.{places_of, created}
use Rattle.alias_hir.specs.declared.effect.AliasingEffect.{AliasingEffect}
use Rattle.alias_hir.specs.declared.effect.AliasingEffect.TheVariants.{Apply}
use Rattle.alias_hir.specs.declared.env.Environment.{Environment}
use Rattle.alias_hir.specs.declared.hir.HirFunction.{HirFunction}
use Rattle.alias_hir.specs.declared.hir.Hir.{Hir}
use Rattle.alias_hir.specs.declared.hir.Instruction.{Instruction}
use Rattle.alias_hir.specs.declared.place.Effect.{Effect}
use Rattle.alias_hir.specs.declared.place.Effect.TheVariants as operand
use Rattle.alias_hir.specs.declared.place.Place.{Place}
use Rattle.alias_hir.specs.declared.place.PlaceOrSpread.{PlaceOrSpread}
use Rattle.alias_hir.specs.declared.place.Span.{Span}
use Rattle.alias_hir.specs.declared.report.ReportId.{ReportId}
use Rattle.alias_visit.specs.Operands.{context_at}
use Rattle.alias_visit.specs.Places.{created_places}
use Rattle.alias_signature.specs.Calls.{argument, call_effects, type_id_of}
use Rattle.alias_signature.specs.Functions.{captured_by, captured, function_effects}
use Rattle.alias_signature.specs.Known.{known}
use Rattle.alias_signature.specs.Signatures.{signature_of}
use Rattle.alias_plainness.specs.Making.{number, all_made, needed}
use Rattle.alias_plainness.specs.Sureness.{Sure, with_sure, defined_params, sure_at_first, with_phis, list_of, adds_at}
use Rattle.alias_plainness.specs.Sureness.{after_instruction, after_instructions}
use Rattle.alias_plainness.specs.Paths.{Path, begins, goes_on, phis_of, instructions_of, sure_on, sure_before}
use Rattle.alias_plainness.specs.Conditions.{needs, names_sure, are_distinct, makes_well, is_compatible}
use Rattle.alias_plainness.specs.Conditions.{freezes_no_spread}
use Rattle.alias_plainness.specs.Plainness.{IsPlain}
use Rattle.alias_completeness.specs.Blocking.{AllSuit}
use Rattle.alias_completeness.specs.CallPlaces.{IsWithin, call_within}
use Rattle.alias_completeness.specs.Conditions.{AllHold, all_hold, call_without}
use Rattle.alias_completeness.specs.Forward.{GoesForward}
use Rattle.alias_completeness.specs.Going.{all_both}
use Rattle.alias_completeness.specs.Suiting.{rows_fit}
use Rattle.alias_nesting_laws.specs.FittingLaws.{together}
use Rattle.alias_completeness.specs.AgreeingFacts.{InTable, IsInside, AllInside, AgreesOn, same_hoisted, found_spreads}
use Rattle.alias_completeness.specs.AgreeingLists.{same_effects, creates_by_function}

-- ---- what is sure of lists

sure_both : (s : Sure) (ms ns : List ℕ) → list_all s (ms ++ ns) ≡ true → (list_all s ms ≡ true) × (list_all s ns ≡ true)
sure_both s [] ns h = (refl, h)
sure_both s (m ∷ ms) ns h =
    let b = both_true (s m) (list_all s (ms ++ ns)) h in
    let r = sure_both s ms ns b.1 in
    (together (s m) (list_all s ms) b.0 r.0, r.1)

both_sure : (s : Sure) (ms ns : List ℕ) → list_all s ms ≡ true → list_all s ns ≡ true → list_all s (ms ++ ns) ≡ true
both_sure s [] ns h g = g
both_sure s (m ∷ ms) ns h g = let b = both_true (s m) (list_all s ms) h in
    together (s m) (list_all s (ms ++ ns)) b.0 (both_sure s ms ns b.1 g)

sure_filtered : (s : Sure) (p : ℕ → Bool) (ns : List ℕ) → list_all s ns ≡ true → list_all s (filter p ns) ≡ true
sure_filtered s p [] h = refl
sure_filtered s p (n ∷ ns) h = let b = both_true (s n) (list_all s ns) h in by_test (p n) b.0 (sure_filtered s p ns b.1)
  where
    by_test : (b : Bool) → s n ≡ true → list_all s (filter p ns) ≡ true
        → list_all s (if b then n ∷ filter p ns else filter p ns) ≡ true
    by_test true one rest = together (s n) (list_all s (filter p ns)) one rest
    by_test false one rest = rest

sure_captured_by : (s : Sure) (e : Effect) (p : Place) → s (number p) ≡ true → list_all s (map number (captured_by e p))
    ≡ true
sure_captured_by s operand.Capture p h = together (s (number p)) true h refl
sure_captured_by s e p h = refl

-- what is captured is of the context
sure_captured : (s : Sure) (ps : List Place) → list_all s (map number ps) ≡ true
    → list_all s (map number (flat_map captured ps)) ≡ true
sure_captured s [] h = refl
sure_captured s (p ∷ ps) h =
    let b = both_true (s (number p)) (list_all s (map number ps)) h in
    ap (list_all s) (map-append number (captured p) (flat_map captured ps))
    ∙ both_sure s (map number (captured p)) (map number (flat_map captured ps)) (sure_captured_by s p.effect p b.0)
    (sure_captured s ps b.1)

-- ---- a function whose context places have other effects, over an environment that agrees

module _ (func : HirFunction) (env more : Environment) (agrees : AgreesOn func env more) (inside : AllInside env func)
    (cs : List Place) (same_context : map number cs ≡ map number func.context) where
  -- the function with these context places
  abbrev other : HirFunction
  other = record func { context = cs }

  within : IsWithin env func
  within i x e = let h = inside.instructions i x e in
      (h.lvalue, all_both (InTable env) (places_of x.value) (created_places env (created x.value)) h.places h.contexts)

  -- ---- an instruction

  module _ (i : InstructionId) (x : Instruction) (found : slice_get func.instructions i.0 ≡ Some x) where
    here : IsInside env x
    here = inside.instructions i x found

    same_list : (error : Option ReportId) → created x.value ≡ None
        → signature_of (known more (function_facts func more) error) x
        ≡ signature_of (known env (function_facts func env) error) x
    same_list error none =
        same_effects env more agrees.agrees (function_facts func env) (function_facts func more)
        (same_hoisted func env more agrees inside) (found_spreads func env more agrees inside) error x.lvalue x.span
        x.value here.lvalue here.places none

    function_list : (e : Environment) (error : Option ReportId) (f : FunctionId) → created x.value ≡ Some f
        → signature_of (known e (function_facts func e) error) x ≡ function_effects e x.lvalue f
    function_list e error f is = creates_by_function (known e (function_facts func e) error) x.lvalue x.span x.value f
        is

    made_by_kind : (o : Option FunctionId) → created x.value ≡ o → all_made (list_of func more x)
        ≡ all_made (list_of func env x)
    made_by_kind None is = ap all_made (same_list None is)
    made_by_kind (Some f) is = ap all_made (function_list more None f is)
        ∙ sym (ap all_made (function_list env None f is))

    -- it makes the same
    same_made : all_made (list_of func more x) ≡ all_made (list_of func env x)
    same_made = made_by_kind (created x.value) refl

    needs_by_kind : (s : Sure) (o : Option FunctionId) → created x.value ≡ o
        → list_all s (needed (list_of func env x) ++ map number (created_places env o)) ≡ true
        → map number (created_places more o) ≡ map number (created_places env o)
        → list_all s (needed (list_of func more x) ++ map number (created_places more o)) ≡ true
    needs_by_kind s None is h same = ap (λ (es : List AliasingEffect). list_all s (needed es ++ [])) (same_list None is)
        ∙ h
    needs_by_kind s (Some f) is h same =
        let context : list_all s (map number (context_at more f)) ≡ true = ap (list_all s) same
        ∙ (sure_both s (needed (list_of func env x)) (map number (context_at env f)) h).1 in
        let named : list_all s (needed (function_effects more x.lvalue f)) ≡ true
        = both_sure s (filter (λ n. not (is_among [] n)) (map number (flat_map captured (context_at more f)))) []
        (sure_filtered s (λ n. not (is_among [] n)) (map number (flat_map captured (context_at more f)))
        (sure_captured s (context_at more f) context)) refl in
        both_sure s (needed (list_of func more x)) (map number (context_at more f))
        (ap (λ (es : List AliasingEffect). list_all s (needed es)) (function_list more None f is) ∙ named) context

    -- where what it needs is sure over env, what it needs over more is
    needs_sure : (s : Sure) → list_all s (needs func env x) ≡ true → list_all s (needs func more x) ≡ true
    needs_sure s h = needs_by_kind s (created x.value) refl h (agrees.contexts i x found)

    abbrev IsCall : Environment → List AliasingEffect → Place → Place → Bool → List PlaceOrSpread → Place → Option Span
        → Type 0
    IsCall e es r f m args into span = es ≡ call_effects e r f m args into span

    call_by_kind : (error : Option ReportId) (r f : Place) (m : Bool) (args : List PlaceOrSpread) (into : Place)
        (span : Option Span) (o : Option FunctionId) → created x.value ≡ o
        → IsCall more (signature_of (known more (function_facts func more) error) x) r f m args into span
        → IsCall env (list_of func env x) r f m args into span
    call_by_kind error r f m args into span None none is =
        let call : list_of func env x ≡ Apply r f m (map argument args) into (type_id_of more f.identifier) span ∷ []
        = sym (same_list None none) ∙ call_without more (function_facts func more) error x.lvalue x.span x.value r f m
        args into span is in
        let p = call_within env func within (function_facts func env) None i x found r f m args into
        (type_id_of more f.identifier) span call in
        call ∙ ap (λ (t : Option TypeId). let es : List AliasingEffect = Apply r f m (map argument args) into t span
        ∷ [] in es) (agrees.agrees.type_ids f.identifier p.function_within)
    call_by_kind error r f m args into span (Some g) some is = let wrong : function_effects more x.lvalue g
        ≡ call_effects more r f m args into span = sym (function_list more error g some) ∙ is in cc

  -- ---- what is sure

  same_adds : (i : InstructionId) → adds_at func more i ≡ adds_at func env i
  same_adds i = by_found (slice_get func.instructions i.0) refl
    where
      by_found : (o : Option Instruction) → slice_get func.instructions i.0 ≡ o
          → option_map_or (λ (x : Instruction). number x.lvalue ∷ all_made (list_of func more x)) o []
          ≡ option_map_or (λ (x : Instruction). number x.lvalue ∷ all_made (list_of func env x)) o []
      by_found None e = refl
      by_found (Some x) e = ap (λ (ns : List ℕ). number x.lvalue ∷ ns) (same_made i x e)

  same_after : (is : List InstructionId) (s : Sure) → after_instructions func more is s
      ≡ after_instructions func env is s
  same_after [] s = refl
  same_after (i ∷ is) s = ap (λ (ns : List ℕ). after_instructions func more is (with_sure ns s)) (same_adds i)
      ∙ same_after is (after_instruction func env s i)

  -- a path of the one is one of the other
  abbrev back : {b : BlockId} → Path other b → Path func b
  back begins = begins
  back (goes_on b c p edge) = goes_on b c (back p) edge

  first_sure : sure_at_first other ≡ sure_at_first func
  first_sure =
      let params : List Place = defined_params func.fn_type func.params in
      ap (λ (ns : List ℕ). let s : Sure = λ n. is_among ns n in s)
      (map-append number cs params ∙ ap (λ (ns : List ℕ). ns ++ map number params) same_context
      ∙ sym (map-append number func.context params))

  same_sure : {b : BlockId} (p : Path other b) → sure_on other more p ≡ sure_on func env (back p)
  same_sure begins = ap (λ (s : Sure). with_phis None (phis_of (value_at func.body.blocks func.body.entry)) s)
      first_sure
  same_sure (goes_on b c p edge) =
      ap (λ (s : Sure). with_phis (Some b) (phis_of (value_at func.body.blocks c))
      (after_instructions func more (instructions_of (value_at func.body.blocks b)) s)) (same_sure p)
      ∙ ap (λ (s : Sure). with_phis (Some b) (phis_of (value_at func.body.blocks c)) s)
      (same_after (instructions_of (value_at func.body.blocks b)) (sure_on func env (back p)))

  same_before : {b : BlockId} (p : Path other b) (done : List InstructionId) → sure_before other more p done
      ≡ sure_before func env (back p) done
  same_before p done = ap (λ (s : Sure). after_instructions func more done s) (same_sure p)
      ∙ same_after done (sure_on func env (back p))

  -- where the function is plain over env, the instructions are as asked over more
  pub grown_suits : IsPlain func env → AllSuit more other
  grown_suits plain b path done rest i x split e =
      let s : Sure = sure_before func env (back path) done in
      let list = list_of func env x in
      let holds : AllHold (names_sure func env s x) (are_distinct (all_made list)) (makes_well env list)
      (is_compatible env list) (freezes_no_spread env list) =
      all_hold func env s x (plain b done i rest split (back path) x e) in
      record {
        names = ap (λ (z : Sure). list_all z (needs func more x)) (same_before path done)
            ∙ needs_sure i x e s holds.first;
        distinct = ap are_distinct (same_made i x e) ∙ holds.second;
        rows = λ error u none. rows_fit env more agrees.agrees func within i x e
            (record { makes = holds.third; compatible = holds.fourth; freezes = holds.fifth })
            (signature_of (known more (function_facts func more) error) x)
            (λ r f m args into span is. call_by_kind i x e error r f m args into span (created x.value) refl is) u none;
      }

-- ---- the pass

-- a function with the blocks of another goes forward where that one does
pub forward_alike : (func other : HirFunction) (env more : Environment) (b : Bool) → other.body ≡ func.body
    → GoesForward env func b → GoesForward more other b
forward_alike func other env more b same forward =
    subst (λ (body : Hir). GoesForward more (record other { body = body }) b) (sym same) forward
