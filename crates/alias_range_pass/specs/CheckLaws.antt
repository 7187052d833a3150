-- The range pass takes each function that the inference takes.
use Rattle.std.proofs.Common.{◌≡◌, ◌≢◌, ℕ, ◌<◌, ◌==◌, ◌||◌, Bool, true, false, if◌then◌else◌, nat_lt, List, [], ◌∷◌}
use Rattle.std.proofs.Common.{◌++◌, Option, Some, None, length, map, refl, arith}
use Rattle.std.specs.Prelude.{Result, Ok, Err, ⊤, is_ok}
use Rattle.std.specs.List.{list_all}
use Rattle.std.proofs.lemmas.Bool.Decides.{nat_tests}
use Rattle.alias_base.specs.Answer.{all_pass}
use Rattle.alias_base.specs.AnswerLaws.{both_true, both_pass}
use Rattle.alias_base.specs.declared.ids.BlockId.{BlockId}
use Rattle.alias_base.specs.declared.ids.EvaluationOrder.{EvaluationOrder}
use Rattle.alias_hir.specs.declared.effect.AliasingEffect.{AliasingEffect}
use Rattle.alias_hir.specs.declared.effect.AliasingEffect.TheVariants as effect
use Rattle.alias_hir.specs.declared.env.Environment.{Environment}
use Rattle.alias_hir.specs.declared.hir.BasicBlock.{BasicBlock}
use Rattle.alias_hir.specs.declared.hir.HirFunction.{HirFunction}
use Rattle.alias_hir.specs.declared.hir.Instruction.{Instruction}
use Rattle.alias_hir.specs.declared.hir.ParamPattern.{ParamPattern}
use Rattle.alias_hir.specs.declared.hir.Phi.{Phi}
use Rattle.alias_hir.specs.declared.place.Place.{Place}
use Rattle.alias_hir.specs.Effects.{effect_places, error_of, function_of, signature_of}
use Rattle.alias_hir.specs.Parts.{param_place}
use Rattle.alias_rules.specs.declared.function_rules.fault.Table.TheVariants.{Identifiers}
use Rattle.alias_rules.specs.declared.function_rules.fault.UnitFault.{UnitFault}
use Rattle.alias_rules.specs.declared.function_rules.fault.UnitFault.TheVariants.{IdOutOfRange, OrderOutOfRange}
use Rattle.alias_rules.specs.function_rules.Rules.{place_fits, phi_fits, block_fits, instruction_fits, numbers_fit}
use Rattle.alias_rules.specs.function_rules.Rules.{order_fits, orders_fit, tables_fit, types_fit}
use Rattle.alias_rules.specs.declared.rules.Rule.TheVariants.{Numbers, Entry, Successors, ListedOnce, Handlers, Phis}
use Rattle.alias_rules.specs.declared.rules.Rule.TheVariants.{Orders}
use Rattle.alias_rules.specs.Functions.{each_function}
use Rattle.alias_rules.specs.Fitting.{place_within_tables, error_within_tables, function_within_tables}
use Rattle.alias_rules.specs.Fitting.{type_within_tables, named_within_tables, summary_within_tables}
use Rattle.alias_rules.specs.Fitting.{effect_within_tables, recorded_within_tables, effects_within_tables}
use Rattle.alias_rules.specs.Fitting.{holds_no_call, effects_fit, effects_fit_at, reports_no_invariant, function_rules}
use Rattle.alias_rules.specs.Fitting.{function_fits}
use Rattle.alias_rules.specs.RuleLaws.{fitting_tree, fitting_rules}
use Rattle.alias_graph.specs.recorded.Fitting.{AllOf, EffectFits, EffectsFit, OrderHasNext, InstructionFits, PhiFits}
use Rattle.alias_graph.specs.recorded.Fitting.{BlockFits, EventFits, FunctionFits}
use Rattle.alias_graph.proofs.FitLaws.{all_append}
use Rattle.alias_graph.specs.recorded.BlockListings.{object_of}

-- ---- places and orders

when_ok : (b : Bool) (e : UnitFault) → (let r : Result ⊤ UnitFault = if b then Ok tt else Err e in r ≡ Ok tt) → b ≡ true
when_ok true e h = refl
when_ok false e h = cc

unless_ok : (b : Bool) (e : UnitFault) → (let r : Result ⊤ UnitFault = if b then Err e else Ok tt in r ≡ Ok tt) → b
    ≡ false
unless_ok true e h = cc
unless_ok false e h = refl

is_below : (k n : ℕ) → nat_lt k n ≡ true → k < n
is_below k n h = grind (arith, nat_tests)

place_in : (env : Environment) (p : Place) → place_fits env p ≡ Ok tt → p.identifier.0 < length env.identifiers
place_in env p h = is_below p.identifier.0 (length env.identifiers)
    (when_ok (nat_lt p.identifier.0 (length env.identifiers)) (IdOutOfRange Identifiers p.identifier.0) h)

has_next : (k : ℕ) → ((k == 0) || (k == 4294967295)) ≡ false → k ≢ 4294967295
has_next k h = λ is. grind (arith, nat_tests)

order_in : (o : EvaluationOrder) → order_fits None o ≡ Ok tt → OrderHasNext o
order_in o h = has_next o.0 (unless_ok ((o.0 == 0) || (o.0 == 4294967295)) (OrderOutOfRange None o) h)

-- ---- effects

module _ (env : Environment) where
  abbrev count : ℕ
  count = length env.identifiers

  makes_in : (e : AliasingEffect) → list_all (place_within_tables env) (effect_places e) ≡ true → EffectFits count e
  makes_in (effect.Create x value reason) h =
      is_below x.identifier.0 count (both_true (place_within_tables env x) _ h).0
  makes_in (effect.CreateFunction x f captures) h =
      is_below x.identifier.0 count (both_true (place_within_tables env x) _ h).0
  makes_in (effect.CreateFrom a x) h = is_below x.identifier.0 count
      (both_true (place_within_tables env x) _ (both_true (place_within_tables env a) _ h).1).0
  makes_in (effect.Assign a x) h = is_below x.identifier.0 count
      (both_true (place_within_tables env x) _ (both_true (place_within_tables env a) _ h).1).0
  makes_in e h = tt

  effect_in : (e : AliasingEffect) → effect_within_tables env e ≡ true → EffectFits count e
  effect_in e h =
      let named = (both_true (named_within_tables env e) (summary_within_tables env (function_of e)) h).0 in
      let typed = (both_true _ (error_within_tables env (error_of e)) named).0 in
      let created = (both_true _ (type_within_tables env (signature_of e)) typed).0 in
      makes_in e (both_true (list_all (place_within_tables env) (effect_places e))
      (function_within_tables env (function_of e)) created).0

  effects_in : (es : List AliasingEffect) → list_all (effect_within_tables env) es ≡ true → AllOf (EffectFits count) es
  effects_in [] h = tt
  effects_in (e ∷ es) h = let b = both_true (effect_within_tables env e) _ h in (effect_in e b.0, effects_in es b.1)

  recorded_in : (o : Option (List AliasingEffect)) → recorded_within_tables env o ≡ true → EffectsFit count o
  recorded_in None h = tt
  recorded_in (Some es) h = effects_in es h

  -- ---- parts of a function

  instructions_in : (is : List Instruction) → all_pass (λ (i : Instruction). order_fits None i.id) is ≡ Ok tt
      → list_all (λ (i : Instruction). recorded_within_tables env i.effects) is ≡ true
      → AllOf (InstructionFits count) is
  instructions_in [] h k = tt
  instructions_in (i ∷ is) h k =
      let b = both_pass (order_fits None i.id) _ h in
      let c = both_true (recorded_within_tables env i.effects) _ k in
      ((order_in i.id b.0, recorded_in i.effects c.0), instructions_in is b.1 c.1)

  phis_in : (ps : List Phi) → all_pass (phi_fits env) ps ≡ Ok tt → AllOf (PhiFits count) ps
  phis_in [] h = tt
  phis_in (p ∷ ps) h =
      let b = both_pass (phi_fits env p) _ h in
      (place_in env p.place (both_pass (place_fits env p.place) _ b.0).0, phis_in ps b.1)

  blocks_in : (f : HirFunction) (bs : List (BlockId × BasicBlock))
      → all_pass (λ (e : BlockId × BasicBlock). block_fits env f e.1) bs ≡ Ok tt → AllOf (BlockFits count) bs
  blocks_in f [] h = tt
  blocks_in f (x ∷ xs) h =
      let b = both_pass (block_fits env f x.1) _ h in
      (phis_in x.1.phis (both_pass (all_pass (phi_fits env) x.1.phis) _ b.0).0, blocks_in f xs b.1)

  params_in : (ps : List ParamPattern) → all_pass (λ p. place_fits env (param_place p)) ps ≡ Ok tt
      → AllOf (EventFits count) (map (λ p. object_of (param_place p)) ps)
  params_in [] h = tt
  params_in (p ∷ ps) h = let b = both_pass (place_fits env (param_place p)) _ h in
      (place_in env (param_place p) b.0, params_in ps b.1)

  places_in : (ps : List Place) → all_pass (place_fits env) ps ≡ Ok tt → AllOf (EventFits count) (map object_of ps)
  places_in [] h = tt
  places_in (p ∷ ps) h = let b = both_pass (place_fits env p) _ h in (place_in env p b.0, places_in ps b.1)

  -- ---- a function

  parts_in : (f : HirFunction) → numbers_fit env f ≡ Ok tt → orders_fit None f ≡ Ok tt → effects_fit env f ≡ true
      → FunctionFits count f
  parts_in f numbers orders effects =
      let a = both_pass (all_pass (λ p. place_fits env (param_place p)) f.params) _ numbers in
      let b = both_pass (all_pass (place_fits env) f.context) _ a.1 in
      let c = both_pass (place_fits env f.returns) _ b.1 in
      let d = both_pass (all_pass (instruction_fits env) f.instructions) _ c.1 in
      let o = both_pass (all_pass (λ (i : Instruction). order_fits None i.id) f.instructions) _ orders in
      let within = (both_true (effects_within_tables env f) (holds_no_call f.aliasing_effects) effects).0 in
      let listed = (both_true _ (recorded_within_tables env f.aliasing_effects) within).0 in
      let recorded = (both_true (list_all (λ (i : Instruction). recorded_within_tables env i.effects) f.instructions) _
      listed).0 in
      record {
        first_events = all_append (EventFits count)
            (map (λ p. object_of (param_place p)) f.params ++ map object_of f.context) (object_of f.returns ∷ [])
            (all_append (EventFits count) (map (λ p. object_of (param_place p)) f.params) (map object_of f.context)
            (params_in f.params a.0) (places_in f.context b.0)) (place_in env f.returns c.0, tt);
        blocks = blocks_in f f.body.blocks d.1;
        instructions = instructions_in f.instructions o.0 recorded;
      }

-- what `check_function` accepts
pub checked_fits : (f : HirFunction) (env : Environment) → function_fits f env ≡ true
    → FunctionFits (length env.identifiers) f
checked_fits f env h =
    let t = fitting_tree f env h in
    let a = both_pass (tables_fit env) _ (fitting_rules f env t.0 t.2) in
    let numbers = both_pass (each_function Numbers env f t.0) _ a.1 in
    let entry = both_pass (each_function Entry env f t.0) _ numbers.1 in
    let successors = both_pass (each_function Successors env f t.0) _ entry.1 in
    let types = both_pass (types_fit env) _ successors.1 in
    let once = both_pass (each_function ListedOnce env f t.0) _ types.1 in
    let handlers = both_pass (each_function Handlers env f t.0) _ once.1 in
    let phis = both_pass (each_function Phis env f t.0) _ handlers.1 in
    let orders = both_pass (each_function Orders env f t.0) _ phis.1 in
    let inner = (both_true _ (list_all (effects_fit_at env) t.0) (both_true _ (reports_no_invariant env) t.2).0).0 in
    let effects = (both_true (is_ok (function_rules env f t.0)) (effects_fit env f) inner).1 in
    parts_in env f (both_pass (numbers_fit env f) _ numbers.0).0 (both_pass (orders_fit None f) _ orders.0).0 effects
