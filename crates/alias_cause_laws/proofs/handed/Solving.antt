-- The entry states of each function solve its flow over the environment that is computed of what is handed out.
use Rattle.std.specs.Prelude.{◌≡◌, ℕ, ◌+◌, nat_lt, Bool, true, List, [], ◌∷◌, ◌++◌, Option, Some, None, Ok}
use Rattle.std.specs.Prelude.{map, slice_get, refl}
use Rattle.std.specs.List.{AllByRecursion}
use Rattle.std.proofs.Common.{ap, sym, ◌∙◌, subst, inl, inr, ⊎_elim}
use Rattle.alias_base.specs.declared.ids.BlockId.{BlockId}
use Rattle.alias_base.specs.declared.ids.FunctionId.{FunctionId}
use Rattle.alias_base.specs.declared.ids.InstructionId.{InstructionId}
use Rattle.alias_effects.specs.Inference.{pass_end, end_tables}
use Rattle.alias_effects.specs.Solutions.{IsSolved, IsSolvedUnder}
use Rattle.alias_effects.specs.declared.output.PassEnd.{PassEnd}
use Rattle.alias_effects.specs.declared.solved.Solved.{Solved}
use Rattle.alias_effects_laws.specs.entries.Named.{CreatesHas, CreatesAt, BlocksCreate}
use Rattle.alias_effects_laws.specs.naming.PassLaws.{each_of}
use Rattle.alias_graph.specs.Reach.{end_at, end_of}
use Rattle.alias_graph.specs.Walks.{IsOneOf}
use Rattle.alias_hir.specs.Parts.{param_place}
use Rattle.alias_hir.specs.Values.{created}
use Rattle.alias_hir.specs.declared.env.Environment.{Environment}
use Rattle.alias_hir.specs.declared.env.Identifier.{Identifier}
use Rattle.alias_hir.specs.declared.env.Unit.{Unit as HirUnit}
use Rattle.alias_hir.specs.declared.hir.BasicBlock.{BasicBlock}
use Rattle.alias_hir.specs.declared.hir.HirFunction.{HirFunction}
use Rattle.alias_hir.specs.declared.hir.Instruction.{Instruction}
use Rattle.alias_hir.specs.declared.hir.ParamPattern.{ParamPattern}
use Rattle.alias_nested.specs.Analysis.{Analysed, SolvesItsFlow}
use Rattle.alias_nested.specs.Created.{one_of, created_by, created_by_all, created_functions}
use Rattle.alias_nested.specs.Units.{UnitAnalysis, unit_analysed}
use Rattle.alias_rules.specs.Fitting.{function_fits}
use Rattle.alias_rules.specs.Functions.{rules_hold}
use Rattle.alias_explain.proofs.Lists.{in_longer}
use Rattle.alias_inferred_laws.proofs.inferred.Rooting.{root_entry}
use Rattle.alias_calls.specs.Immutable.{is_long_in}
use Rattle.alias_seen_laws.specs.Beside.{Others, with_others, HasSame}
use Rattle.alias_seen_laws.proofs.flow.Flowing.{pass_beside}
use Rattle.alias_walks.specs.Words.{all_mapped}
use Rattle.alias_cause_laws.proofs.causes.Chain.{Around, around}
use Rattle.alias_cause_laws.proofs.causes.Ranges.{order, root, root_ran, walked}
use Rattle.alias_cause_laws.specs.handed.Seen.{environment_before, LooksLike, EachLooksAsHanded}
use Rattle.alias_cause_laws.specs.handed.Solving.{SolvesOver, EachSolvesOver}
use Rattle.alias_cause_laws.specs.handed.Spans.{start_of, start_at, SameRange}

-- ---- the functions that a function creates

all_among : {X : Type 0} (xs : List X) → AllByRecursion (λ x. IsOneOf x xs) xs
all_among [] = tt
all_among (x ∷ xs) = (
  inl refl,
  all_mapped (λ y. IsOneOf y xs) (λ y. IsOneOf y (x ∷ xs)) (λ y i. inr i) xs (all_among xs),
)

module _ (func : HirFunction) where
  abbrev IsCreated : FunctionId → Type 0
  IsCreated f = IsOneOf f (created_functions func)

  one_has : (o : Option FunctionId) → AllByRecursion IsCreated (one_of o) → CreatesHas IsCreated o
  one_has None h = tt
  one_has (Some f) h = h.0

  at_has : (o : Option Instruction) → AllByRecursion IsCreated (created_by o) → CreatesAt IsCreated o
  at_has None h = tt
  at_has (Some x) h = one_has (created x.value) h

  blocks_create : BlocksCreate IsCreated func
  blocks_create =
      all_mapped (λ (b : BlockId × BasicBlock). AllByRecursion IsCreated (created_by_all func b.1.instructions))
      (λ (b : BlockId × BasicBlock). AllByRecursion
      (λ (i : InstructionId). CreatesAt IsCreated (slice_get func.instructions i.0)) b.1.instructions)
      (λ b h. all_mapped
      (λ (i : InstructionId). AllByRecursion IsCreated (created_by (slice_get func.instructions i.0)))
      (λ (i : InstructionId). CreatesAt IsCreated (slice_get func.instructions i.0))
      (λ i. at_has (slice_get func.instructions i.0)) b.1.instructions
      (each_of IsCreated (λ (i : InstructionId). created_by (slice_get func.instructions i.0)) b.1.instructions h))
      func.body.blocks (each_of IsCreated (λ (b : BlockId × BasicBlock). created_by_all func b.1.instructions)
      func.body.blocks (all_among (created_functions func)))

-- ---- a function

-- the effects pass of the function ended with what was solved of it
record IsPassed (x : Analysed) : Type 0 where
  fits : function_fits x.func x.env ≡ true
  end : PassEnd
  ended : pass_end x.env x.func x.is_function_expression ≡ Ok end
  entries : x.solved.entries ≡ end.solved.entries

long_is : (o : Option Identifier) → is_long_in o ≡ nat_lt (start_of o + 1) (end_of o)
long_is None = refl
long_is (Some i) = refl

all_members : {X : Type 0} (Q : X → Type 0) (xs : List X) → ((x : X) → IsOneOf x xs → Q x) → AllByRecursion Q xs
all_members Q [] f = tt
all_members Q (x ∷ xs) f = (f x (inl refl), all_members Q xs (λ y i. f y (inr i)))

-- where an environment looked like another one, it has the same beside
module _ (x : Analysed) (before : Environment) (looks : LooksLike x.func before x.env) (p : IsPassed x)
    (solves : SolvesItsFlow x) where
  abbrev others : Others
  others = record {
    identifiers = before.identifiers;
    functions = before.functions;
    errors = before.errors;
    interned = before.interned;
  }

  beside_is : with_others x.env others ≡ before
  beside_is = ap (λ (q : Environment). with_others q others) looks.declares

  long_same : (n : ℕ) → SameRange x.env.identifiers before.identifiers n
      → is_long_in (slice_get before.identifiers n) ≡ is_long_in (slice_get x.env.identifiers n)
  long_same n s =
      long_is (slice_get before.identifiers n)
      ∙ ap (λ k. nat_lt (k + 1) (end_at before.identifiers n)) s.start
      ∙ ap (λ k. nat_lt (start_at x.env.identifiers n + 1) k) s.end
      ∙ sym (long_is (slice_get x.env.identifiers n))

  has_same : HasSame (IsCreated x.func) x.env others
  has_same = record {
    declares = ap (λ (q : Environment). q.identifiers) (sym looks.declares);
    functions = λ id i. sym (looks.created id i);
    params = λ id i g at.
        all_members (λ (q : ParamPattern).
        is_long_in (slice_get before.identifiers (param_place q).identifier.0)
        ≡ is_long_in (slice_get x.env.identifiers (param_place q).identifier.0)) g.params
        (λ q among. long_same (param_place q).identifier.0
        (looks.params id i g (sym (looks.created id i) ∙ at) q among));
  }

  solves_over : SolvesOver before x
  solves_over = record {
    tables = end_tables p.end;
    solves =
        subst (λ (e : Environment). IsSolvedUnder e x.func x.is_function_expression (end_tables p.end) x.solved)
        beside_is
        (pass_beside x.func x.env x.is_function_expression p.fits (IsCreated x.func) (blocks_create x.func) others
        has_same p.end x.solved p.ended p.entries solves);
  }

-- ---- the unit

module _ (u : HirUnit) (a : UnitAnalysis) (rules : rules_hold u ≡ Ok tt) (is : unit_analysed u ≡ Ok a) where
  abbrev last : Analysed
  last = root_entry u (root u a rules is).nested (root u a rules is).end

  nested_passed : (x : Analysed) → IsOneOf x (root u a rules is).nested.functions → IsPassed x
  nested_passed x i =
      let w = walked u a rules is in
      let there : IsOneOf x w.taken = subst (IsOneOf x) w.functions i in
      let r : Around u.env u.env.identifiers (order u a rules is) (root u a rules is).nested.env.identifiers x
      = around u.env u.env.identifiers (root u a rules is).nested.env.identifiers (order u a rules is) w.taken x w.chain
      there in
      let ran = r.link.ran in
      record {
        fits = ran.fits;
        end = ran.end;
        ended = ap (λ b. pass_end x.env x.func b) r.link.expression ∙ ran.ended;
        entries = ap (λ (s : Solved). s.entries) r.link.solved;
      }

  last_passed : IsPassed last
  last_passed = record {
    fits = (root_ran u a rules is).fits;
    end = (root u a rules is).end;
    ended = (root u a rules is).ended;
    entries = refl;
  }

  each_passed : (x : Analysed) → IsOneOf x a.functions → IsPassed x
  each_passed x i =
      ⊎_elim (λ there. nested_passed x there) (λ (same : x ≡ last). subst IsPassed (sym same) last_passed)
      (in_longer (root u a rules is).nested.functions last x (subst (IsOneOf x) (root u a rules is).all i))

  among : (xs ys : List Analysed) (x : Analysed) → IsOneOf x (xs ++ x ∷ ys)
  among [] ys x = inl refl
  among (z ∷ xs) ys x = inr (among xs ys x)

  solves_at : (xs ys : List Analysed) (x : Analysed) → AllByRecursion SolvesItsFlow (xs ++ x ∷ ys) → SolvesItsFlow x
  solves_at [] ys x h = h.0
  solves_at (z ∷ xs) ys x h = solves_at xs ys x h.1

  pub each_solves_over : EachLooksAsHanded a → AllByRecursion SolvesItsFlow a.functions → EachSolvesOver a
  each_solves_over looks solve = λ xs ys x whole.
      solves_over x (environment_before (map (λ (z : Analysed). z.solved) (x ∷ ys)) a.inferred.unit.env)
      (looks xs ys x whole) (each_passed x (subst (IsOneOf x) (sym whole) (among xs ys x)))
      (solves_at xs ys x (subst (AllByRecursion SolvesItsFlow) whole solve))
