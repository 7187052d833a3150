-- What a function that the inference takes begins with, and so do those below it; and that tables which are kept agree
-- with those of before.
use Rattle.std.specs.Prelude.{◌≡◌, ℕ, ◌+◌, ◌<◌, ◌≤◌, ◌==◌, Bool, true, cond, List, [], ◌∷◌, Option, Some, None, Ok}
use Rattle.std.specs.Prelude.{option_map, nat_lt, length, slice_get, refl}
use Rattle.std.proofs.Common.{zero, suc, ap, sym, ◌∙◌, subst, ltb-true, arith}
use Rattle.std.proofs.lemmas.Bool.Decides.{nat_tests}
use Rattle.std.specs.List.{AllByRecursion, flat_map}
use Rattle.std.specs.Option.{option_map_or}
use Rattle.alias_base.specs.Answer.{all_pass}
use Rattle.alias_base.specs.AnswerLaws.{both_pass}
use Rattle.alias_base.specs.declared.ids.BlockId.{BlockId}
use Rattle.alias_base.specs.declared.ids.DeclarationId.{DeclarationId}
use Rattle.alias_base.specs.declared.ids.FunctionId.{FunctionId}
use Rattle.alias_base.specs.declared.ids.InstructionId.{InstructionId}
use Rattle.alias_base.specs.declared.ids.TypeId.{TypeId}
use Rattle.alias_step_laws.specs.blocks.ContextLaws.{numbers_of}
use Rattle.alias_rules.specs.function_rules.Rules.{place_fits, created_fits, identifier_fits, instruction_fits}
use Rattle.alias_rules.specs.function_rules.Rules.{phi_fits, block_fits, numbers_fit, tables_fit, is_block, is_among}
use Rattle.alias_hir.specs.Terminals.{terminal_places}
use Rattle.alias_hir.specs.Types.{type_at}
use Rattle.alias_hir.specs.Values.{places_of, created}
use Rattle.alias_hir.specs.declared.env.Environment.{Environment}
use Rattle.alias_hir.specs.declared.env.Identifier.{Identifier}
use Rattle.alias_hir.specs.declared.hir.BasicBlock.{BasicBlock}
use Rattle.alias_hir.specs.declared.hir.HirFunction.{HirFunction}
use Rattle.alias_hir.specs.declared.hir.Instruction.{Instruction}
use Rattle.alias_hir.specs.declared.place.Place.{Place}
use Rattle.alias_nested.proofs.Counting.{there_among}
use Rattle.alias_nesting_laws.specs.ClosureLaws.{Closed, tree_closed}
use Rattle.alias_nesting_laws.specs.FittingLaws.{Fitted}
use Rattle.alias_rules.specs.Functions.{of_function}
use Rattle.alias_rules.specs.Nesting.{number_of, created_in, created_of, times}
use Rattle.alias_rules.specs.RuleLaws.{passes_at}
use Rattle.alias_rules.specs.TreeLaws.{times_cons, times_both}
use Rattle.alias_rules.specs.declared.rules.Rule.TheVariants.{Numbers, Entry}
use Rattle.alias_visit.specs.Places.{created_places}
use Rattle.alias_completeness.specs.Agreeing.{Agrees}
use Rattle.alias_completeness.specs.summaries.KeptTables.{bound_to, TablesKept}
use Rattle.alias_completeness.specs.AgreeingFacts.{InTable, IsInside, AllInside}
use Rattle.alias_unit_completeness.specs.Moments.{asked}

-- ---- what instructions create

pub self_once : (n : ℕ) → times (n ∷ []) n ≡ 1
self_once n =
    let self : (n == n) ≡ true = grind (arith, nat_tests) in
    times_cons n [] n ∙ ap (λ (z : Bool). cond z 1 0 + 0) self

-- the functions that instructions create
abbrev pub creates : List Instruction → List ℕ
creates is = flat_map (λ (i : Instruction). number_of (created i.value)) is

-- what one of them creates is among these
pub created_there : (is : List Instruction) (n : ℕ) (x : Instruction) (c : FunctionId) → slice_get is n ≡ Some x
    → created x.value ≡ Some c → 1 ≤ times (creates is) c.0
created_there [] n x c e h = cc
created_there (y ∷ is) zero x c e h =
    let same : y ≡ x = cc in
    let first : number_of (created y.value) ≡ c.0 ∷ [] = ap (λ (i : Instruction). number_of (created i.value)) same
    ∙ ap number_of h in
    let one : times (number_of (created y.value)) c.0 ≡ times (c.0 ∷ []) c.0 = ap (λ ns. times ns c.0) first in
    let t : times (c.0 ∷ []) c.0 ≡ 1 = self_once c.0 in
    let all : times (creates (y ∷ is)) c.0 ≡ times (number_of (created y.value)) c.0 + times (creates is) c.0 =
    times_both (number_of (created y.value)) (creates is) c.0 in
    omega arith
created_there (y ∷ is) (suc n) x c e h =
    let rest : 1 ≤ times (creates is) c.0 = created_there is n x c e h in
    let all : times (creates (y ∷ is)) c.0 ≡ times (number_of (created y.value)) c.0 + times (creates is) c.0 =
    times_both (number_of (created y.value)) (creates is) c.0 in
    omega arith

-- and it is one of those that the function creates
pub created_among : (g : HirFunction) (i : InstructionId) (x : Instruction) (c : FunctionId)
    → slice_get g.instructions i.0 ≡ Some x → created x.value ≡ Some c → is_among (created_in g) c.0 ≡ true
created_among g i x c e makes = there_among (created_in g) c.0 (created_there g.instructions i.0 x c e makes)

-- ---- numbers that fit

module _ (env : Environment) where
  place_in : (p : Place) → place_fits env p ≡ Ok tt → InTable env p
  place_in p h = ltb-true p.identifier.0 (length env.identifiers)
      (asked (nat_lt p.identifier.0 (length env.identifiers)) _ h)

  places_in : (ps : List Place) → all_pass (place_fits env) ps ≡ Ok tt → AllByRecursion (InTable env) ps
  places_in [] h = tt
  places_in (p ∷ ps) h = let b = both_pass (place_fits env p) (all_pass (place_fits env) ps) h in
      (place_in p b.0, places_in ps b.1)

  -- the numbers of these nested functions fit
  module _ (These : ℕ → Type 0)
      (nested : (k : ℕ) (g : HirFunction) → These k → slice_get env.functions k ≡ Some g
      → numbers_fit env g ≡ Ok tt) where
    context_in : (o : Option HirFunction) → ((g : HirFunction) → o ≡ Some g → numbers_fit env g ≡ Ok tt)
        → AllByRecursion (InTable env) (option_map_or (λ (g : HirFunction). g.context) o [])
    context_in None h = tt
    context_in (Some g) h = places_in g.context (numbers_of env g (h g refl)).context

    contexts_in : (o : Option FunctionId) → ((c : FunctionId) → o ≡ Some c → These c.0)
        → AllByRecursion (InTable env) (created_places env o)
    contexts_in None these = tt
    contexts_in (Some f) these = context_in (slice_get env.functions f.0) (λ g e. nested f.0 g (these f refl) e)

    instruction_in : (x : Instruction) → instruction_fits env x ≡ Ok tt
        → ((c : FunctionId) → created x.value ≡ Some c → These c.0) → IsInside env x
    instruction_in x h these =
        let a = both_pass (place_fits env x.lvalue) _ h in
        let b = both_pass (created_fits env (created x.value)) (all_pass (place_fits env) (places_of x.value)) a.1 in
        record {
          lvalue = place_in x.lvalue a.0;
          places = places_in (places_of x.value) b.1;
          contexts = contexts_in (created x.value) these;
        }

    ends_in : (g : HirFunction) (bs : List (BlockId × BasicBlock))
        → all_pass (λ (e : BlockId × BasicBlock). block_fits env g e.1) bs ≡ Ok tt
        → AllByRecursion (λ (e : BlockId × BasicBlock). AllByRecursion (InTable env) (terminal_places e.1.terminal)) bs
    ends_in g [] h = tt
    ends_in g (b ∷ bs) h =
        let p = both_pass (block_fits env g b.1) (all_pass (λ (e : BlockId × BasicBlock). block_fits env g e.1) bs) h in
        let q = both_pass (all_pass (phi_fits env) b.1.phis) _ p.0 in
        let r = both_pass _ (all_pass (place_fits env) (terminal_places b.1.terminal)) q.1 in
        (places_in (terminal_places b.1.terminal) r.1, ends_in g bs p.1)

    pub all_inside : (g : HirFunction) → numbers_fit env g ≡ Ok tt
        → ((k : ℕ) → is_among (created_in g) k ≡ true → These k) → AllInside env g
    all_inside g h these =
        let n = numbers_of env g h in
        record {
          instructions = λ i x e. instruction_in x
              (passes_at (instruction_fits env) g.instructions i.0 x n.instructions e)
              (λ c makes. these c.0 (created_among g i x c e makes));
          ends = ends_in g g.body.blocks n.blocks;
        }

-- ---- tables that are kept

declared_as : (o : Option Identifier) → option_map (λ (b : DeclarationId × TypeId). b.0) (option_map bound_to o)
    ≡ option_map (λ (i : Identifier). i.declaration_id) o
declared_as None = refl
declared_as (Some i) = refl

typed_as : (o : Option Identifier) → option_map (λ (b : DeclarationId × TypeId). b.1) (option_map bound_to o)
    ≡ option_map (λ (i : Identifier). i.type_) o
typed_as None = refl
typed_as (Some i) = refl

types_alike : (base more : Environment) → TablesKept base more → (o p : Option Identifier) → option_map bound_to p
    ≡ option_map bound_to o → ((i : Identifier) → o ≡ Some i → i.type_.0 < length base.types) → type_at more p
    ≡ type_at base o
types_alike base more k None None e h = refl
types_alike base more k None (Some j) e h = cc
types_alike base more k (Some i) None e h = cc
types_alike base more k (Some i) (Some j) e h =
    let same : bound_to j ≡ bound_to i = cc in
    ap (λ (b : DeclarationId × TypeId). slice_get more.types b.1.0) same ∙ k.types i.type_.0 (h i refl)

type_in : (base : Environment) (i : Identifier) → identifier_fits base i ≡ Ok tt → i.type_.0 < length base.types
type_in base i h = ltb-true i.type_.0 (length base.types)
    (asked (nat_lt i.type_.0 (length base.types)) _ (both_pass _ _ h).1)

-- what the tables of base say of its identifiers, those that kept them say
pub agrees_kept : (base more : Environment) → tables_fit base ≡ Ok tt → TablesKept base more → Agrees base more
agrees_kept base more fit k = record {
  longer = k.longer;
  declarations = λ x h. sym (declared_as (slice_get more.identifiers x.0))
      ∙ ap (option_map (λ (b : DeclarationId × TypeId). b.0)) (k.identifiers x.0 h)
      ∙ declared_as (slice_get base.identifiers x.0);
  type_ids = λ x h. sym (typed_as (slice_get more.identifiers x.0))
      ∙ ap (option_map (λ (b : DeclarationId × TypeId). b.1)) (k.identifiers x.0 h)
      ∙ typed_as (slice_get base.identifiers x.0);
  types = λ x h. types_alike base more k (slice_get base.identifiers x.0) (slice_get more.identifiers x.0)
      (k.identifiers x.0 h) (λ i e. type_in base i (passes_at (identifier_fits base) base.identifiers x.0 i fit e));
  shapes = k.shapes;
  config = k.config;
}

-- ---- a function that the inference takes, with those below it

module _ (func : HirFunction) (env : Environment) (fit : Fitted func env) where
  abbrev pub IsBelow : ℕ → Type 0
  IsBelow k = is_among fit.below k ≡ true

  pub closed : Closed env [] (created_in func) fit.below
  closed = tree_closed env 63 [] (created_in func) fit.below fit.tree

  pub below_fit : (k : ℕ) (g : HirFunction) → IsBelow k → slice_get env.functions k ≡ Some g → numbers_fit env g ≡ Ok tt
  below_fit k g h e = sym (ap (of_function Numbers env k) e) ∙ fit.rule_below Numbers refl k h

  pub created_below : (k : ℕ) (g : HirFunction) → IsBelow k → slice_get env.functions k ≡ Some g → (j : ℕ)
      → is_among (created_in g) j ≡ true → IsBelow j
  created_below k g h e j made = closed.closed k h refl j
      (subst (λ (o : Option HirFunction). is_among (created_of o) j ≡ true) (sym e) made)

  pub root_inside : AllInside env func
  root_inside = all_inside env IsBelow below_fit func (fit.rule Numbers refl) closed.has_level

  pub nested_inside : (k : ℕ) (g : HirFunction) → IsBelow k → slice_get env.functions k ≡ Some g → AllInside env g
  nested_inside k g h e = all_inside env IsBelow below_fit g (below_fit k g h e) (created_below k g h e)

  pub root_entry : is_block func func.body.entry ≡ true
  root_entry = asked (is_block func func.body.entry) _ (fit.rule Entry refl)

  pub nested_entry : (k : ℕ) (g : HirFunction) → IsBelow k → slice_get env.functions k ≡ Some g
      → is_block g g.body.entry ≡ true
  nested_entry k g h e = asked (is_block g g.body.entry) _
      (sym (ap (of_function Entry env k) e) ∙ fit.rule_below Entry refl k h)
