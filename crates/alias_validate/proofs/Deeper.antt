-- More levels than functions are nested in change nothing.
use Rattle.std.proofs.Common.{◌≡◌, ℕ, zero, suc, ◌+◌, Bool, true, false, List, [], ◌∷◌, refl, ap, sym, ◌∙◌, arith}
use Rattle.std.specs.Prelude.{◌||◌, unwrap_or, Option, None, Some, Result, Ok, Err, slice_get}
use Rattle.std.specs.List.{list_all}
use Rattle.std.specs.Option.{option_or}
use Rattle.alias_base.specs.Answer.{◌>>=◌}
use Rattle.alias_base.specs.AnswerLaws.{both_true}
use Rattle.alias_base.specs.declared.ids.BlockId.{BlockId}
use Rattle.alias_base.specs.declared.ids.FunctionId.{FunctionId}
use Rattle.alias_base.specs.declared.ids.IdentifierId.{IdentifierId}
use Rattle.alias_base.specs.declared.ids.InstructionId.{InstructionId}
use Rattle.alias_hir.specs.Terminals.{terminal_places}
use Rattle.alias_hir.specs.Values.{created}
use Rattle.alias_hir.specs.declared.env.Environment.{Environment}
use Rattle.alias_hir.specs.declared.error.InferError.{InferError}
use Rattle.alias_hir.specs.declared.hir.BasicBlock.{BasicBlock}
use Rattle.alias_hir.specs.declared.hir.HirFunction.{HirFunction}
use Rattle.alias_hir.specs.declared.hir.Instruction.{Instruction}
use Rattle.alias_hir.specs.declared.place.Place.{Place}
use Rattle.alias_validate.specs.Levels.{function_within, created_within, is_within}
use Rattle.alias_validate.specs.InstructionSteps.{found}
use Rattle.alias_validate.specs.OperandMarks.{first_mark, Seen}
use Rattle.alias_validate.specs.Reassigning.{Below, created_step, value_step, instruction_step, block_step, block_steps}
use Rattle.alias_validate.specs.Reassigning.{context_reassignment, reassignment_reports, reassigned_within}
use Rattle.alias_validate.specs.Walks.{and_then, each, ended, place_of}
use Rattle.alias_validate.specs.declared.outcome.WalkOutcome.{WalkOutcome}
use Rattle.alias_validate.specs.declared.outcome.WalkOutcome.TheVariants.{Continue, End}
use Rattle.alias_validate.specs.declared.outcome.Shared.{Shared}

bind_same : {A B : Type 0} (r : Result A InferError) (f g : A → Result B InferError) → ((x : A) → f x ≡ g x) → (r >>= f)
    ≡ (r >>= g)
bind_same (Ok x) f g h = h x
bind_same (Err e) f g h = refl

and_then_same : {S : Type 0} (f g : S → Result (S × WalkOutcome) InferError) → ((s : S) → f s ≡ g s)
    → (s : S) (o : WalkOutcome) → and_then f s o ≡ and_then g s o
and_then_same f g h s Continue = h s
and_then_same f g h s (End p) = refl

each_same : {S X : Type 0} (f g : S → X → Result (S × WalkOutcome) InferError) → ((s : S) (x : X) → f s x ≡ g s x)
    → (s : S) (xs : List X) → each f s xs ≡ each g s xs
each_same f g h s [] = refl
each_same {S} f g h s (x ∷ xs) =
    ap (λ (z : Result (S × WalkOutcome) InferError). z >>= (λ r. and_then (λ t. each f t xs) r.0 r.1)) (h s x)
    ∙ bind_same (g s x) (λ r. and_then (λ t. each f t xs) r.0 r.1) (λ r. and_then (λ t. each g t xs) r.0 r.1)
    (λ r. and_then_same (λ t. each f t xs) (λ t. each g t xs) (λ t. each_same f g h t xs) r.0 r.1)

some_same : (a b : Instruction) → Some a ≡ Some b → a ≡ b
some_same a b e = ap (λ o. unwrap_or o a) e

all_at : (p : Instruction → Bool) (xs : List Instruction) (k : ℕ) (x : Instruction) → list_all p xs ≡ true
    → slice_get xs k ≡ Some x → p x ≡ true
all_at p [] k x h e = cc
all_at p (y ∷ ys) zero x h e = let both = both_true (p y) (list_all p ys) h in ap p (sym (some_same y x e)) ∙ both.0
all_at p (y ∷ ys) (suc k) x h e = let both = both_true (p y) (list_all p ys) h in all_at p ys k x both.1 e

module _ (env : Environment) (b c : Below) (within : HirFunction → Bool)
    (same : (f : HirFunction) → within f ≡ true → (async : Bool) (sh : Shared) → b async f sh ≡ c async f sh) where
  created_same : (async : Bool) (lvalue : IdentifierId) (s : Seen) (o : Option HirFunction) → function_within within o
      ≡ true → created_step env b async lvalue s o ≡ created_step env c async lvalue s o
  created_same async lvalue s None h = refl
  created_same async lvalue s (Some f) h =
      ap (λ (z : Result (Shared × Option Place) InferError). z
      >>= (λ r. Ok (found env (async || f.is_async) lvalue s.0 r.0 (option_or r.1 (first_mark s.0 f.context)))))
      (same f h (async || f.is_async) s.1)

  module _ (is_function_expression async : Bool) where
    value_same : (s : Seen) (i : Instruction) (f : Option FunctionId) → created_within within env f ≡ true
        → value_step env b is_function_expression async s i f ≡ value_step env c is_function_expression async s i f
    value_same s i None h = refl
    value_same s i (Some f) h = created_same async i.lvalue.identifier s (slice_get env.functions f.0) h

    step_same : (s : Seen) (o : Option Instruction)
        → ((i : Instruction) → o ≡ Some i → created_within within env (created i.value) ≡ true)
        → instruction_step env b is_function_expression async s o
        ≡ instruction_step env c is_function_expression async s o
    step_same s None h = refl
    step_same s (Some i) h = value_same s i (created i.value) (h i refl)

    blocks_same : (func : HirFunction) → list_all (λ (i : Instruction). created_within within env (created i.value))
        func.instructions ≡ true → (s : Seen) (bs : List (BlockId × BasicBlock))
        → block_steps env b is_function_expression async func s bs
        ≡ block_steps env c is_function_expression async func s bs
    blocks_same func h s bs =
        each_same (λ t (e : BlockId × BasicBlock). block_step env b is_function_expression async func t e.1)
        (λ t (e : BlockId × BasicBlock). block_step env c is_function_expression async func t e.1)
        (λ t e. ap (λ (z : Result (Seen × WalkOutcome) InferError). z
        >>= (λ r. and_then (λ u. Ok (u, ended (first_mark u.0 (terminal_places e.1.terminal)))) r.0 r.1))
        (each_same (λ u (i : InstructionId). instruction_step env b is_function_expression async u
        (slice_get func.instructions i.0)) (λ u (i : InstructionId).
        instruction_step env c is_function_expression async u (slice_get func.instructions i.0))
        (λ u i. step_same u (slice_get func.instructions i.0)
        (λ x at. all_at (λ (j : Instruction). created_within within env (created j.value)) func.instructions i.0 x h
        at)) t e.1.instructions)) s bs

none_within : (env : Environment) (func : HirFunction) → is_within zero env func ≡ false
unfolding is_within
none_within env func = refl

more_within : (n : ℕ) (env : Environment) (func : HirFunction) → is_within (suc n) env func
    ≡ list_all (λ (i : Instruction). created_within (is_within n env) env (created i.value)) func.instructions
unfolding is_within
more_within n env func = refl

one_walked : (m : ℕ) (env : Environment) (is_function_expression async : Bool) (func : HirFunction) (sh : Shared)
    → context_reassignment (suc m) env is_function_expression async func sh
    ≡ block_steps env (context_reassignment m env true) is_function_expression async func ([], sh) func.body.blocks
    >>= (λ r. Ok (r.0.1, place_of r.1))
unfolding context_reassignment
one_walked m env is_function_expression async func sh = refl

pub levels_enough : (n k : ℕ) (env : Environment) (func : HirFunction) → is_within n env func ≡ true
    → (is_function_expression async : Bool) (sh : Shared)
    → context_reassignment (n + k) env is_function_expression async func sh
    ≡ context_reassignment n env is_function_expression async func sh
levels_enough zero k env func h is_function_expression async sh = let no : false ≡ true = sym (none_within env func)
    ∙ h in cc
levels_enough (suc n) k env func h is_function_expression async sh =
    let shift : suc n + k ≡ suc (n + k) = omega arith in
    ap (λ (z : ℕ). context_reassignment z env is_function_expression async func sh) shift
    ∙ one_walked (n + k) env is_function_expression async func sh
    ∙ ap (λ (z : Result (Seen × WalkOutcome) InferError). z >>= (λ r. Ok (r.0.1, place_of r.1)))
    (blocks_same env (context_reassignment (n + k) env true) (context_reassignment n env true) (is_within n env)
    (λ f g async₁ sh₁. levels_enough n k env f g true async₁ sh₁) is_function_expression async func
    (sym (more_within n env func) ∙ h) ([], sh) func.body.blocks)
    ∙ sym (one_walked n env is_function_expression async func sh)

pub reports_enough : (n k : ℕ) (env : Environment) (func : HirFunction) → is_within n env func ≡ true
    → reassigned_within (n + k) env func ≡ reassigned_within n env func
reports_enough n k env func h = ap (λ (z : Result (Shared × Option Place) InferError). z
    >>= (λ r. Ok (reassignment_reports env r.0 r.1)))
    (levels_enough n k env func h false false (record { context_variables = []; reports = [] }))
