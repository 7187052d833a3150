-- The certificate of an inference says of each function, in the order in which they were analysed, what its passes
-- ended with.
use Rattle.std.specs.Prelude.{◌≡◌, ℕ, nat_eq, Bool, true, false, cond, List, [], ◌∷◌, ◌++◌, length, map, ◌&&◌, Option}
use Rattle.std.specs.Prelude.{Some, None, Result, Ok, slice_get, refl}
use Rattle.std.proofs.Common.{inl, inr, ⊎_elim, ap, sym, ◌∙◌, subst, arith, ◌+◌, ◌≤◌}
use Rattle.std.proofs.lemmas.Bool.{eqb-true}
use Rattle.std.specs.List.{list_all}
use Rattle.alias_base.specs.AnswerLaws.{both_true}
use Rattle.alias_base.specs.declared.ids.BlockId.{BlockId}
use Rattle.alias_base.specs.declared.ids.FunctionId.{FunctionId}
use Rattle.alias_hir.specs.declared.effect.AliasingEffect.{AliasingEffect}
use Rattle.alias_hir.specs.declared.env.Environment.{Environment}
use Rattle.alias_hir.specs.declared.env.Unit.{Unit as HirUnit}
use Rattle.alias_hir.specs.declared.hir.BasicBlock.{BasicBlock}
use Rattle.alias_hir.specs.declared.hir.HirFunction.{HirFunction}
use Rattle.alias_lattice.specs.States.{State}
use Rattle.alias_flow.specs.Machine.{SolverState, VisitLog, End, Solved}
use Rattle.alias_flow.specs.Machine as end
use Rattle.alias_rules.specs.function_rules.Rules.{instruction_is_uninferred, terminal_is_uninferred, phi_is_uninferred}
use Rattle.alias_rules.specs.function_rules.Rules.{block_is_uninferred, function_is_uninferred}
use Rattle.alias_rules.specs.Fitting.{function_fits}
use Rattle.alias_rules.specs.Functions.{rules_hold}
use Rattle.alias_rules.specs.Nesting.{times}
use Rattle.alias_rules.specs.RuleLaws.{Parts, parts_of_rules, rules_make_function_fit}
use Rattle.alias_rules.specs.TreeLaws.{times_cons}
use Rattle.alias_tables.specs.Tables.{TableLists}
use Rattle.alias_step.specs.block.Contexts.{context_of}
use Rattle.alias_step.specs.declared.block.faults.BlockRefusal.{BlockRefusal}
use Rattle.alias_step.specs.declared.block.recorded.BlockEffects.{BlockEffects}
use Rattle.alias_effects.specs.Inference.{solved_of, end_of, env_after, answer_of, pass_end}
use Rattle.alias_effects.specs.Numbered.{visits_end}
use Rattle.alias_effects.specs.Recording.{with_effects_of}
use Rattle.alias_effects.specs.declared.output.PassEnd.{PassEnd}
use Rattle.alias_effects.specs.declared.solved.Solved.{Solved as Solution}
use Rattle.alias_graph.specs.Walks.{IsOneOf}
use Rattle.alias_range_pass.specs.Passes.{Ranged, range_pass}
use Rattle.alias_range_pass.specs.places.Keeping.{but_context}
use Rattle.alias_explain.proofs.Lists.{in_longer}
use Rattle.alias_nested.specs.Analysis.{Analysed, Analysis, analysis, most_levels, numbered, function_analysed}
use Rattle.alias_nested.specs.Order.{functions_of, numbers}
use Rattle.alias_nested.specs.Units.{UnitAnalysis, handed_out, unit_analysed}
use Rattle.alias_nested.proofs.Changing.{slots_stay}
use Rattle.alias_nested.proofs.Evolving.{passed_contexts}
use Rattle.alias_nested.proofs.InOrder.{once_below}
use Rattle.alias_nested.proofs.Keeping.{pruned_fits}
use Rattle.alias_answer_laws.specs.order.Order.{nested_innermost_first}
use Rattle.alias_answer_laws.proofs.order.Ordering.{goes_over}
use Rattle.alias_answer_laws.proofs.order.Solving.{root_apart, solved_in_order}
use Rattle.alias_text.specs.Lines.{effect_text, recorded}
use Rattle.alias_text.specs.Summaries.{recorded_summary}
use Rattle.alias_certificate.specs.declared.certificate.CertBlock.{CertBlock}
use Rattle.alias_certificate.specs.declared.certificate.CertFunction.{CertFunction}
use Rattle.alias_certificate_laws.specs.text.Certifying.{cert_blocks, cert_function, certificate_of}
use Rattle.alias_certificate_laws.specs.accepting.Saying.{said_temporary, said_function}
use Rattle.alias_inferred_laws.specs.inferred.Solutions.{but_ranged}
use Rattle.alias_inferred_laws.proofs.inferred.Explaining.{RootRanged}
use Rattle.alias_inferred_laws.proofs.inferred.Lasting.{is_numbered, later, own, number_itself, some_number, last_of}
use Rattle.alias_inferred_laws.proofs.inferred.Lasting.{Entered, SlotHolds, slot_holds, analysed_holds, none_hold}
use Rattle.alias_inferred_laws.proofs.inferred.Listing.{Passed, function_passed, without_summary}
use Rattle.alias_inferred_laws.proofs.inferred.Ranging.{PassLeaves, pass_leaves}
use Rattle.alias_inferred_laws.proofs.inferred.Rooting.{RootBegun, root_entry, root_begun, root_validated, RootEnded}
use Rattle.alias_inferred_laws.proofs.inferred.Rooting.{root_ended}
use Rattle.alias_inferred_laws.specs.handed.Handed.{names_of, IsNamed}
use Rattle.alias_cause_laws.proofs.causes.Chain.{Around, around, link_uninferred}
use Rattle.alias_cause_laws.proofs.causes.Walking.{Stored, stored_still, Walked, analysed_walked}
use Rattle.alias_certified_laws.specs.Printed.{PrintsWhatIsSaid}
use Rattle.alias_accepted_laws.proofs.Blocks.{blocks_alike}
use Rattle.alias_accepted_laws.proofs.Telling.{IsSaidOf, IsSaidAt}

-- ---- passes

-- how an effects pass ended that answered
record Ended (env : Environment) (f : HirFunction) (b : Bool) (e : PassEnd) : Type 0 where
  left : SolverState (VisitLog State) TableLists BlockEffects
  ends : visits_end (context_of env f b) ≡ Solved left
  is : end_of f left ≡ e

end_answered : (env : Environment) (f : HirFunction) (b : Bool) (e : PassEnd)
    (x : End (VisitLog State) TableLists BlockEffects BlockRefusal) → visits_end (context_of env f b) ≡ x
    → answer_of env f x ≡ Ok e → Ended env f b e
end_answered env f b e (end.Solved w) same h = let is : end_of f w ≡ e = cc in record { left = w; ends = same; is = is }
end_answered env f b e (end.Fault n c) same h = cc
end_answered env f b e (end.NotSettled v) same h = cc

ended : (env : Environment) (f : HirFunction) (b : Bool) (e : PassEnd) → pass_end env f b ≡ Ok e → Ended env f b e
ended env f b e h = end_answered env f b e (visits_end (context_of env f b)) refl h

-- ---- functions of which nothing is inferred yet

ends_uninferred : (bs : List (BlockId × BasicBlock))
    → list_all (λ (e : BlockId × BasicBlock). block_is_uninferred e.1) bs ≡ true
    → list_all (λ (b : BlockId × BasicBlock). terminal_is_uninferred b.1.terminal) bs ≡ true
ends_uninferred [] h = refl
ends_uninferred (b ∷ bs) h =
    let p = both_true (block_is_uninferred b.1) (list_all (λ (e : BlockId × BasicBlock). block_is_uninferred e.1) bs)
    h in
    let t = both_true (list_all phi_is_uninferred b.1.phis) (terminal_is_uninferred b.1.terminal) p.0 in
    together (terminal_is_uninferred b.1.terminal)
    (list_all (λ (b : BlockId × BasicBlock). terminal_is_uninferred b.1.terminal) bs) t.1 (ends_uninferred bs p.1)
  where
    together : (a b : Bool) → a ≡ true → b ≡ true → (a && b) ≡ true
    together true b p q = q
    together false b p q = cc

record Plain (f : HirFunction) : Type 0 where
  instructions : list_all instruction_is_uninferred f.instructions ≡ true
  terminals : list_all (λ (b : BlockId × BasicBlock). terminal_is_uninferred b.1.terminal) f.body.blocks ≡ true

plain_of : (f : HirFunction) → function_is_uninferred f ≡ true → Plain f
plain_of f h =
    let a = both_true _ (list_all (λ (e : BlockId × BasicBlock). block_is_uninferred e.1) f.body.blocks) h in
    let b = both_true _ (list_all instruction_is_uninferred f.instructions) a.0 in
    record { instructions = b.1; terminals = ends_uninferred f.body.blocks a.1 }

plain_alike : (f g : HirFunction) → but_context f ≡ but_context g → Plain g → Plain f
plain_alike f g e p = record {
  instructions = ap (λ (z : HirFunction). list_all instruction_is_uninferred z.instructions) e ∙ p.instructions;
  terminals = ap (λ (z : HirFunction). list_all (λ (b : BlockId × BasicBlock). terminal_is_uninferred b.1.terminal)
      z.body.blocks) e ∙ p.terminals;
}

-- ---- what is said of one

module _ (prints : PrintsWhatIsSaid) (u : HirUnit) (env : Environment) (f : HirFunction)
    (w : SolverState (VisitLog State) TableLists BlockEffects) (fits : function_fits f env ≡ true) (plain : Plain f)
    (h : HirFunction)
    (alike : but_ranged h ≡ but_ranged (with_effects_of (solved_of f w) f)) where
  -- a nested function, with the summary that is stored
  nested_said : (id : FunctionId) (ends : visits_end (context_of env f true) ≡ Solved w) (r : Ranged)
      → range_pass true (with_effects_of (solved_of f w) f) (env_after env (end_of f w)) ≡ Ok r
      → slice_get u.env.functions id.0 ≡ Some h
      → h.aliasing_effects ≡ Some r.summary → (summary : List AliasingEffect)
      → IsSaidOf (record {
        env = env;
        func = f;
        is_function_expression = true;
        solved = numbered id (solved_of f w);
      }) (cert_function u summary (numbered id (solved_of f w)))
  nested_said id ends r ran slot stores summary =
      let blocks : cert_blocks (slice_get u.env.functions id.0) (solved_of f w).entries
      ≡ (said_function (Some id) f w.progress.joined_input w.recorded w.tables.temporaries []).blocks
      = ap (λ o. cert_blocks o (solved_of f w).entries) slot
      ∙ blocks_alike h (with_effects_of (solved_of f w) f) alike (solved_of f w).entries
      ∙ prints env f true w fits plain.instructions plain.terminals ends in
      let texts : map effect_text (recorded_summary (slice_get u.env.functions id.0)) ≡ map effect_text r.summary
      = ap (λ o. map effect_text (recorded_summary o)) slot ∙ ap (λ o. map effect_text (recorded o)) stores in
      let line : List CertBlock → List (List ℕ) → CertFunction =
      λ bs ts. record {
        function = Some id;
        blocks = bs;
        temporaries = map said_temporary w.tables.temporaries;
        summary = ts;
      } in
      record {
        fits = fits;
        left = w;
        ends = ends;
        ranged = r;
        ran = ran;
        is = ap (λ bs. line bs (map effect_text r.summary)) (sym blocks)
            ∙ ap (line (cert_blocks (slice_get u.env.functions id.0) (solved_of f w).entries)) (sym texts);
      }

  -- the root, with the summary that is handed out
  root_said : (ends : visits_end (context_of env f false) ≡ Solved w) (r : Ranged)
      → range_pass false (with_effects_of (solved_of f w) f) (env_after env (end_of f w)) ≡ Ok r → u.function ≡ h
      → (summary : List AliasingEffect) → summary ≡ r.summary
      → IsSaidOf (record { env = env; func = f; is_function_expression = false; solved = solved_of f w })
      (cert_function u summary (solved_of f w))
  root_said ends r ran root summary handed =
      let blocks : cert_blocks (Some u.function) (solved_of f w).entries
      ≡ (said_function None f w.progress.joined_input w.recorded w.tables.temporaries []).blocks
      = ap (λ o. cert_blocks (Some o) (solved_of f w).entries) root
      ∙ blocks_alike h (with_effects_of (solved_of f w) f) alike (solved_of f w).entries
      ∙ prints env f false w fits plain.instructions plain.terminals ends in
      let line : List CertBlock → List (List ℕ) → CertFunction =
      λ bs ts. record {
        function = None;
        blocks = bs;
        temporaries = map said_temporary w.tables.temporaries;
        summary = ts;
      } in
      record {
        fits = fits;
        left = w;
        ends = ends;
        ranged = r;
        ran = ran;
        is = ap (λ bs. line bs (map effect_text r.summary)) (sym blocks)
            ∙ ap (λ s. line (cert_blocks (Some u.function) (solved_of f w).entries) (map effect_text s)) (sym handed);
      }

-- ---- what is stored of a nested function

-- both passes ran on the function, and its summary is stored
record Kept (x : Analysed) (h : HirFunction) : Type 0 where
  expression : x.is_function_expression ≡ true
  end : PassEnd
  ended : pass_end x.env x.func true ≡ Ok end
  ranged : Ranged
  ran : range_pass true (with_effects_of end.solved x.func) (env_after x.env end) ≡ Ok ranged
  stores : h.aliasing_effects ≡ Some ranged.summary

kept_still : (x : Analysed) (f g : HirFunction) → but_context g ≡ but_context f → Kept x f → Kept x g
kept_still x f g e k = record {
  expression = k.expression;
  end = k.end;
  ended = k.ended;
  ranged = k.ranged;
  ran = k.ran;
  stores = ap (λ (z : HirFunction). z.aliasing_effects) e ∙ k.stores;
}

function_kept : (id : FunctionId) (f : HirFunction) (a : Analysis) (s : HirFunction × Analysis)
    → function_analysed id f a ≡ Ok s → (x : Analysed) × Entered id a s x × Kept x s.0
function_kept id f a s h =
    let p : Passed id f a s = function_passed id f a s h in
    let x : Analysed = record {
      env = a.env;
      func = f;
      is_function_expression = true;
      solved = numbered id p.end.solved;
    } in (
      x,
      record { functions = ap (λ (q : HirFunction × Analysis). q.1.functions) (sym p.is); number = refl },
      record {
        expression = refl;
        end = p.end;
        ended = p.ended;
        ranged = p.ranged;
        ran = p.ran;
        stores = ap (λ (q : HirFunction × Analysis). q.0.aliasing_effects) (sym p.is);
      },
    )

-- ---- each number once

not_own : (id k : FunctionId) (x : Analysed) → x.solved.function ≡ Some k → nat_eq id.0 k.0 ≡ false → own id x ≡ None
not_own id k x e n = ap (λ o. cond (is_numbered id o) (Some x) None) e ∙ ap (λ b. cond b (Some x) None) n

first_counted : (k : ℕ) (ks : List ℕ) (n : ℕ) → k ≡ n → times (k ∷ ks) n ≡ 1 + times ks n
first_counted k ks n e = subst (λ z. times (k ∷ ks) z ≡ 1 + times ks z) e
    (times_cons k ks k ∙ ap (λ b. cond b 1 0 + times ks k) (number_itself k))

none_last : (id : FunctionId) (xs : List Analysed) (ids : List FunctionId) → names_of xs ≡ map Some ids
    → times (numbers ids) id.0 ≡ 0 → last_of id xs ≡ None
none_last id [] ids e t = refl
none_last id (x ∷ xs) [] e t = cc
none_last id (x ∷ xs) (k ∷ ks) e t =
    let first : x.solved.function ≡ Some k = cc in
    let rest : names_of xs ≡ map Some ks = cc in
    let c : times (k.0 ∷ numbers ks) id.0 ≡ cond (nat_eq k.0 id.0) 1 0 + times (numbers ks) id.0 =
    times_cons k.0 (numbers ks) id.0 in
    elim (nat_eq id.0 k.0) as (λ b. nat_eq id.0 k.0 ≡ b → last_of id (x ∷ xs) ≡ None) [
      | true ↦ λ n. let f : times (k.0 ∷ numbers ks) id.0 ≡ 1 + times (numbers ks) id.0 =
          first_counted k.0 (numbers ks) id.0 (sym (eqb-true id.0 k.0 n)) in absurd (omega arith)
      | false ↦ λ n. ap (λ o. later o (own id x)) (none_last id xs ks rest (omega arith)) ∙ not_own id k x first n
    ] refl

last_is : (id : FunctionId) (xs : List Analysed) (ids : List FunctionId) (x : Analysed) → names_of xs ≡ map Some ids
    → times (numbers ids) id.0 ≤ 1 → IsOneOf x xs → x.solved.function ≡ Some id → last_of id xs ≡ Some x
last_is id [] ids x e t i n = absurd i
last_is id (y ∷ ys) [] x e t i n = cc
last_is id (y ∷ ys) (k ∷ ks) x e t i n =
    let rest : names_of ys ≡ map Some ks = cc in
    let c : times (k.0 ∷ numbers ks) id.0 ≡ cond (nat_eq k.0 id.0) 1 0 + times (numbers ks) id.0 =
    times_cons k.0 (numbers ks) id.0 in
    ⊎_elim
    (λ (same : x ≡ y).
    let mine : y.solved.function ≡ Some id = ap (λ (z : Analysed). z.solved.function) (sym same) ∙ n in
    let is : k ≡ id = cc in
    let f : times (k.0 ∷ numbers ks) id.0 ≡ 1 + times (numbers ks) id.0 =
    first_counted k.0 (numbers ks) id.0 (ap (λ (z : FunctionId). z.0) is) in
    ap (λ o. later o (own id y)) (none_last id ys ks rest (omega arith))
    ∙ ap (λ b. cond b (Some y) None) (some_number id y.solved.function (sym mine)) ∙ ap Some (sym same))
    (λ there. ap (λ o. later o (own id y)) (last_is id ys ks x rest (omega arith) there n))
    i

-- functions of which the last has no number
abbrev Ordered : List FunctionId → List Analysed → Type 0
Ordered ids xs = names_of xs ≡ map Some ids ++ None ∷ []

none_named : (id : FunctionId) (zs : List Analysed) → names_of zs ≡ [] → IsNamed id zs → ⊥
none_named id [] e i = i
none_named id (z ∷ zs) e i = cc

named_behind : (id : FunctionId) (xs zs : List Analysed) → IsNamed id zs → IsNamed id (xs ++ zs)
named_behind id [] zs i = i
named_behind id (x ∷ xs) zs i = inr (named_behind id xs zs i)

first_counts : (id k : FunctionId) (ks : List FunctionId) → id ≡ k → times (numbers (k ∷ ks)) id.0 ≡ 1
    + times (numbers ks) id.0
first_counts id k ks is = first_counted k.0 (numbers ks) id.0 (ap (λ (z : FunctionId). z.0) (sym is))

named_counts : (id : FunctionId) (zs : List Analysed) (ids : List FunctionId) → Ordered ids zs → IsNamed id zs → 1
    ≤ times (numbers ids) id.0
named_counts id [] ids e i = absurd i
named_counts id (z ∷ zs) [] e i =
    let nameless : z.solved.function ≡ None = cc in
    let rest : names_of zs ≡ [] = cc in
    absurd (⊎_elim (λ (here : Some id ≡ z.solved.function). let no : Some id ≡ None = here ∙ nameless in none_is id no)
    (λ there. none_named id zs rest there) i)
  where
    none_is : (id : FunctionId) → Some id ≡ None → ⊥
    none_is id e = cc
named_counts id (z ∷ zs) (k ∷ ks) e i =
    let first : z.solved.function ≡ Some k = cc in
    let rest : Ordered ks zs = cc in
    let c : times (numbers (k ∷ ks)) id.0 ≡ cond (nat_eq k.0 id.0) 1 0 + times (numbers ks) id.0 =
    times_cons k.0 (numbers ks) id.0 in
    ⊎_elim
    (λ (here : Some id ≡ z.solved.function). let is : id ≡ k = cc in let f : times (numbers (k ∷ ks)) id.0 ≡ 1
    + times (numbers ks) id.0 = first_counts id k ks is in omega arith)
    (λ there. let more : 1 ≤ times (numbers ks) id.0 = named_counts id zs ks rest there in omega arith)
    i

named_twice : (id : FunctionId) (xs zs : List Analysed) (ids : List FunctionId) → Ordered ids (xs ++ zs) → IsNamed id xs
    → IsNamed id zs → 2 ≤ times (numbers ids) id.0
named_twice id [] zs ids e i j = absurd i
named_twice id (x ∷ xs) zs [] e i j = let rest : names_of (xs ++ zs) ≡ [] = cc in
    absurd (none_named id (xs ++ zs) rest (named_behind id xs zs j))
named_twice id (x ∷ xs) zs (k ∷ ks) e i j =
    let first : x.solved.function ≡ Some k = cc in
    let rest : Ordered ks (xs ++ zs) = cc in
    let c : times (numbers (k ∷ ks)) id.0 ≡ cond (nat_eq k.0 id.0) 1 0 + times (numbers ks) id.0 =
    times_cons k.0 (numbers ks) id.0 in
    ⊎_elim
    (λ (here : Some id ≡ x.solved.function).
    let is : id ≡ k = cc in
    let f : times (numbers (k ∷ ks)) id.0 ≡ 1 + times (numbers ks) id.0 = first_counts id k ks is in
    let more : 1 ≤ times (numbers ks) id.0 = named_counts id (xs ++ zs) ks rest (named_behind id xs zs j) in
    omega arith)
    (λ there. let more : 2 ≤ times (numbers ks) id.0 = named_twice id xs zs ks rest there j in omega arith)
    i

-- ---- lists

split_there : (xs ys : List Analysed) (x : Analysed) → IsOneOf x (xs ++ x ∷ ys)
split_there [] ys x = inl refl
split_there (z ∷ xs) ys x = inr (split_there xs ys x)

said_at : {A B C : Type 0} (g : B → C) (h : A → B) (xs ys : List A) (x : A)
    → slice_get (map g (map h (xs ++ x ∷ ys))) (length xs) ≡ Some (g (h x))
said_at g h [] ys x = refl
said_at g h (z ∷ xs) ys x = said_at g h xs ys x

solved_names : (xs : List Analysed) → functions_of (map (λ (x : Analysed). x.solved) xs) ≡ names_of xs
solved_names [] = refl
solved_names (x ∷ xs) = ap (λ zs. x.solved.function ∷ zs) (solved_names xs)

ok_same : {A E : Type 0} (x y : A) → ◌≡◌ {A = Result A E} (Ok x) (Ok y) → x ≡ y
ok_same x y h = cc

-- what holds of the slot of the last one holds of it
slot_is : (l : Option Analysed) (o : Option HirFunction) (x : Analysed) (f : HirFunction) → l ≡ Some x → o ≡ Some f
    → SlotHolds Kept kept_still function_kept l o → Kept x f
slot_is None o x f e h r = cc
slot_is (Some y) None x f e h r = cc
slot_is (Some y) (Some g) x f e h r =
    let ys : y ≡ x = cc in
    let gs : g ≡ f = cc in
    subst (λ z. Kept z f) ys (subst (λ z. Kept y z) gs r)

-- ---- a unit

-- the root's range pass, and the summary that is handed out
pub record Known (u : HirUnit) (a : UnitAnalysis) : Type 0 where
  pub root : RootRanged u a
  pub summary : a.inferred.summary ≡ root.ranged.summary
  pub solutions : a.inferred.solved ≡ map (λ (x : Analysed). x.solved) a.functions

pub known : (u : HirUnit) (a : UnitAnalysis) → unit_analysed u ≡ Ok a → Known u a
known u a h =
    let b : RootBegun u a = root_begun u a h in
    let fs : List Analysed = b.nested.functions ++ root_entry u b.nested b.end ∷ [] in
    let e : RootEnded (with_effects_of b.end.solved u.function) (env_after b.nested.env b.end) fs b.root =
    root_ended (with_effects_of b.end.solved u.function) (env_after b.nested.env b.end) fs b.root b.finishes in
    let whole : handed_out (root_validated e.ranged e.reassigned fs) ≡ a = ap handed_out e.is ∙ b.out in
    record {
      root = record {
        nested = b.nested;
        analyses = b.analyses;
        end = b.end;
        ended = b.ended;
        ranged = e.ranged;
        ran = e.ran;
        root = ap (λ (q : UnitAnalysis). q.inferred.unit.function) (sym whole);
        slots = ap (λ (q : UnitAnalysis). q.inferred.unit.env.functions) (sym whole);
        identifiers = ap (λ (q : UnitAnalysis). q.inferred.unit.env.identifiers) (sym whole);
        all = ap (λ (q : UnitAnalysis). q.functions) (sym whole);
      };
      summary = ap (λ (q : UnitAnalysis). q.inferred.summary) (sym whole);
      solutions = subst (λ (z : UnitAnalysis). z.inferred.solved ≡ map (λ (x : Analysed). x.solved) z.functions) b.out
          refl;
    }

module _ (prints : PrintsWhatIsSaid) (u : HirUnit) (a : UnitAnalysis) (rules : rules_hold u ≡ Ok tt)
    (is : unit_analysed u ≡ Ok a) where
  pub k : Known u a
  k = known u a is

  abbrev nested : Analysis
  nested = k.root.nested

  abbrev order : List FunctionId
  order = nested_innermost_first u

  abbrev last : Analysed
  last = root_entry u nested k.root.end

  parts : Parts u
  parts = parts_of_rules u rules

  unit_fits : function_fits u.function u.env ≡ true
  unit_fits = rules_make_function_fit u rules

  walked : Walked u.env order (analysis u.env []) nested
  walked = analysed_walked u.env 63 u.function (analysis u.env []) nested unit_fits (λ k x h. h)
      (record { slots = λ k h. refl; once = λ k. once_below u.function u.env unit_fits 63 k }) k.root.analyses

  leaves : PassLeaves false (with_effects_of k.root.end.solved u.function) (env_after nested.env k.root.end)
      k.root.ranged
  leaves = pass_leaves false (with_effects_of k.root.end.solved u.function) (env_after nested.env k.root.end)
      k.root.ranged k.root.ran

  contexts : map but_context a.inferred.unit.env.functions ≡ map but_context nested.env.functions
  contexts = ap (map but_context) k.root.slots ∙ ap (λ (e : Environment). e.functions) leaves.kept.rest
      ∙ passed_contexts nested.env k.root.end

  names : Ordered order a.functions
  names = sym (solved_names a.functions) ∙ ap functions_of (sym k.solutions) ∙ solved_in_order u a rules is

  -- no function is analysed again
  pub once : (xs ys : List Analysed) (x : Analysed) (id : FunctionId) → a.functions ≡ xs ++ x ∷ ys → x.solved.function
      ≡ Some id → IsNamed id xs → ⊥
  once xs ys x id split number before =
      let two : 2 ≤ times (numbers order) id.0 =
      named_twice id xs (x ∷ ys) order (ap names_of (sym split) ∙ names) before (inl (sym number)) in
      let one = (root_apart u rules).once id.0 in
      absurd (omega arith)

  -- ---- a nested function

  module _ (x : Analysed) (one : IsOneOf x nested.functions) where
    taken : IsOneOf x walked.taken
    taken = subst (IsOneOf x) walked.functions one

    place : Around u.env u.env.identifiers order nested.env.identifiers x
    place = around u.env u.env.identifiers nested.env.identifiers order walked.taken x walked.chain taken

    abbrev id : FunctionId
    id = place.id

    number : x.solved.function ≡ Some id
    number = ap (λ (z : Solution). z.function) place.link.solved

    stored : Stored x (slice_get a.inferred.unit.env.functions id.0)
    stored = stored_still x (slice_get nested.env.functions id.0) (slice_get a.inferred.unit.env.functions id.0)
        (slots_stay nested.env a.inferred.unit.env contexts id.0) (walked.stored x taken id number).1

    slot_kept : SlotHolds Kept kept_still function_kept (last_of id nested.functions)
        (slice_get a.inferred.unit.env.functions id.0)
    slot_kept =
        slot_holds Kept kept_still function_kept (last_of id nested.functions) (slice_get nested.env.functions id.0)
        (slice_get a.inferred.unit.env.functions id.0) (slots_stay nested.env a.inferred.unit.env contexts id.0)
        (analysed_holds Kept kept_still function_kept most_levels u.function [] (analysis u.env []) nested
        (none_hold Kept kept_still function_kept u.env) k.root.analyses id refl)

    nested_names : names_of nested.functions ≡ map Some order
    nested_names = (goes_over u.env.functions most_levels u.function [] (analysis u.env []) nested
        (record { count = refl; slots = λ k h. refl }) (root_apart u rules) k.root.analyses).functions

    last_one : last_of id nested.functions ≡ Some x
    last_one = let c = (root_apart u rules).once id.0 in let one_time : times (numbers order) id.0 ≤ 1 = omega arith in
        last_is id nested.functions order x nested_names one_time one number

    kept : Kept x stored.func
    kept = slot_is (last_of id nested.functions) (slice_get a.inferred.unit.env.functions id.0) x stored.func last_one
        stored.in_slot slot_kept

    abbrev pass : Ended x.env x.func true kept.end
    pass = ended x.env x.func true kept.end kept.ended

    -- its solution is that of its pass
    solution : numbered id (solved_of x.func pass.left) ≡ x.solved
    solution =
        let same : kept.end ≡ place.link.ran.end =
        ok_same kept.end place.link.ran.end (sym kept.ended ∙ place.link.ran.ended) in
        ap (λ (z : PassEnd). numbered id z.solved) (pass.is ∙ same) ∙ sym place.link.solved

    plain : Plain x.func
    plain = plain_alike x.func place.link.func place.link.ran.same
        (plain_of place.link.func (link_uninferred u.env parts.environment place.id x place.left place.link))

    -- the function as it is reported
    itself : ◌≡◌ {A = Analysed} (record {
      env = x.env;
      func = x.func;
      is_function_expression = true;
      solved = numbered id (solved_of x.func pass.left);
    }) x
    itself =
        ap (λ s. let z : Analysed = record { env = x.env; func = x.func; is_function_expression = true; solved = s } in
        z) solution
        ∙ ap (λ b. let z : Analysed = record {
          env = x.env;
          func = x.func;
          is_function_expression = b;
          solved = x.solved;
        } in z) (sym kept.expression)

    pub nested_is_said : IsSaidOf x (cert_function a.inferred.unit a.inferred.summary x.solved)
    nested_is_said =
        subst (λ (z : Analysed). IsSaidOf z (cert_function a.inferred.unit a.inferred.summary z.solved)) itself
        (nested_said prints a.inferred.unit x.env x.func pass.left place.link.ran.fits plain stored.func
        (subst (λ s. but_ranged stored.func ≡ but_ranged (with_effects_of s x.func)) (sym solution) stored.alike)
        id pass.ends kept.ranged (subst (λ (e : PassEnd).
        range_pass true (with_effects_of e.solved x.func) (env_after x.env e) ≡ Ok kept.ranged) (sym pass.is)
        kept.ran) stored.in_slot kept.stores a.inferred.summary)

  -- ---- the root

  root_pass : Ended nested.env u.function false k.root.end
  root_pass = ended nested.env u.function false k.root.end k.root.ended

  root_is_said : IsSaidOf last (cert_function a.inferred.unit a.inferred.summary last.solved)
  root_is_said =
      let alike : but_ranged k.root.ranged.after.0
      ≡ but_ranged (with_effects_of (solved_of u.function root_pass.left) u.function)
      = ap without_summary leaves.still ∙ ap (λ (e : PassEnd). but_ranged (with_effects_of e.solved u.function))
      (sym root_pass.is) in
      subst (λ (e : PassEnd). IsSaidOf (root_entry u nested e)
      (cert_function a.inferred.unit a.inferred.summary e.solved)) root_pass.is
      (root_said prints a.inferred.unit nested.env u.function root_pass.left
      (pruned_fits u.env nested.env walked.pruned u.function unit_fits) (plain_of u.function parts.function)
      k.root.ranged.after.0 alike
      root_pass.ends k.root.ranged (subst (λ (e : PassEnd).
      range_pass false (with_effects_of e.solved u.function) (env_after nested.env e) ≡ Ok k.root.ranged)
      (sym root_pass.is) k.root.ran) k.root.root a.inferred.summary k.summary)

  -- ---- each

  is_said : (x : Analysed) → IsOneOf x a.functions
      → IsSaidOf x (cert_function a.inferred.unit a.inferred.summary x.solved)
  is_said x i =
      ⊎_elim (λ there. nested_is_said x there)
      (λ (same : x ≡ last). subst (λ (z : Analysed).
      IsSaidOf z (cert_function a.inferred.unit a.inferred.summary z.solved)) (sym same) root_is_said)
      (in_longer nested.functions last x (subst (IsOneOf x) k.root.all i))

  -- the certificate says it of each at its position
  pub says : (xs ys : List Analysed) (x : Analysed) → a.functions ≡ xs ++ x ∷ ys
      → IsSaidAt (certificate_of a.inferred.unit a.inferred.solved a.inferred.summary).functions (length xs) x
  says xs ys x split = record {
    said = cert_function a.inferred.unit a.inferred.summary x.solved;
    there =
        ap (λ ss. slice_get (map (cert_function a.inferred.unit a.inferred.summary) ss) (length xs))
        (k.solutions ∙ ap (map (λ (x : Analysed). x.solved)) split)
        ∙ said_at (cert_function a.inferred.unit a.inferred.summary) (λ (x : Analysed). x.solved) xs ys x;
    tells = is_said x (subst (IsOneOf x) (sym split) (split_there xs ys x));
  }
