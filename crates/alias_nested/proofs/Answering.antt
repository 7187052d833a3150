-- Which answers calls come to.
use Rattle.std.specs.Prelude.{◌≡◌, ℕ, Bool, true, false, List, [], ◌∷◌, Option, Some, None, Result, Ok, Err, ⊤}
use Rattle.std.specs.Prelude.{slice_get, refl}
use Rattle.std.proofs.Common.{zero, suc, ap, sym, subst, ◌∙◌}
use Rattle.alias_base.specs.Answer.{◌>>=◌}
use Rattle.alias_base.specs.declared.ids.FunctionId.{FunctionId}
use Rattle.alias_effects.specs.declared.solved.Solved.{Solved}
use Rattle.alias_hir.specs.Errors.{is_memory}
use Rattle.alias_hir.specs.declared.effect.AliasingEffect.{AliasingEffect}
use Rattle.alias_hir.specs.declared.env.Environment.{Environment}
use Rattle.alias_hir.specs.declared.error.InferError.{InferError}
use Rattle.alias_hir.specs.declared.error.InferError.TheVariants as error
use Rattle.alias_hir.specs.declared.error.Pass.{Pass}
use Rattle.alias_hir.specs.declared.error.Pass.TheVariants.{DeadCodeElimination}
use Rattle.alias_hir.specs.declared.error.Pass.TheVariants.{RewriteInstructionKindsBasedOnReassignment}
use Rattle.alias_hir.specs.declared.error.Pass.TheVariants.{InferReactiveScopeVariables}
use Rattle.alias_hir.specs.declared.hir.HirFunction.{HirFunction}
use Rattle.alias_nested.specs.Analysis.{Analysed, Analysis, analysis, naming, each, effects_analysed, completed}
use Rattle.alias_nested.specs.Analysis.{completed_with, function_analysed, taken_analysed, found_analysed}
use Rattle.alias_nested.specs.Analysis.{slot_analysed, analysed, is_free, IsFault, IsPassFault, Accounts, Leads}
use Rattle.alias_nested.specs.Answers.{Answers, Only, Then, done, refused, Each, IsPassed, Passed, Completed}
use Rattle.alias_nested.specs.Answers.{CompletedWith, FunctionAnalysed, TakenAnalysed, FoundAnalysed, SlotAnalysed}
use Rattle.alias_nested.specs.Answers.{AnalysedWith, Analyses, AnalysesInto, AnalysesExactly, AnalysesExactlyInto}
use Rattle.alias_nested.specs.Refusals.{Refusals, OneOfRefused, at_once, later, CompletionRefused, FunctionRefused}
use Rattle.alias_nested.specs.Refusals.{TakenRefused, SlotRefused, AnalysisRefused, Leaves, CompletesOne, LeadsToOne}
use Rattle.alias_nested.specs.Refusals.{LeadsToOneWith}
use Rattle.alias_nested.specs.Created.{created_functions}
use Rattle.alias_nested.specs.Annotating.{annotated}
use Rattle.alias_nested.specs.Slots.{emptied}
use Rattle.alias_nested.proofs.Ending.{unfree}
use Rattle.alias_nesting_laws.specs.Slots.{with_function}
use Rattle.alias_range_pass.specs.Passes.{Ranged, range_pass}

-- ---- what follows the effects pass

both_same : (f g : HirFunction) (env more : Environment) → f ≡ g → env ≡ more
    → ◌≡◌ {A = HirFunction × Environment} (f, env) (g, more)
both_same f g env more same same_env = ap (λ x. (x, env)) same ∙ ap (λ x. (g, x)) same_env

module _ (keeps_all : Bool) (id : FunctionId) (f₀ f₁ : HirFunction) (e₀ e₁ : Environment)
    (first : IsPassed keeps_all (f₀, e₀) (f₁, e₁)) where
  pub completes_refused : (f₂ : HirFunction) (e₂ : Environment) (e : InferError) → naming id (range_pass true f₁ e₁)
      ≡ Err e → f₂ ≡ f₁ → e₂ ≡ e₁ → CompletionRefused keeps_all id (f₀, e₀) e (f₂, e₂)
  completes_refused f₂ e₂ e h same same_env = later (f₁, e₁) first (at_once (h, both_same f₂ f₁ e₂ e₁ same same_env))

  pub second_refused : (f₂ f₃ : HirFunction) (e₂ e₃ : Environment) (summary : List AliasingEffect) (e : InferError)
      → naming id (range_pass true f₁ e₁) ≡ Ok (record { summary = summary; after = (f₂, e₂) })
      → e ≡ error.PassFault (Some id) RewriteInstructionKindsBasedOnReassignment → IsPassed keeps_all (f₂, e₂) (f₃, e₃)
      → CompletionRefused keeps_all id (f₀, e₀) e (f₃, e₃)
  second_refused f₂ f₃ e₂ e₃ summary e h is left =
      later (f₁, e₁) first (later (record { summary = summary; after = (f₂, e₂) }) h (at_once (is, left)))

  pub third_refused : (f₂ f₃ f₄ : HirFunction) (e₂ e₃ e₄ : Environment) (summary : List AliasingEffect) (e : InferError)
      → naming id (range_pass true f₁ e₁) ≡ Ok (record { summary = summary; after = (f₂, e₂) })
      → IsPassed keeps_all (f₂, e₂) (f₃, e₃) → e ≡ error.PassFault (Some id) InferReactiveScopeVariables
      → IsPassed keeps_all (f₃, e₃) (f₄, e₄) → CompletionRefused keeps_all id (f₀, e₀) e (f₄, e₄)
  third_refused f₂ f₃ f₄ e₂ e₃ e₄ summary e h second is left =
      later (f₁, e₁) first (later (record { summary = summary; after = (f₂, e₂) }) h (later (f₃, e₃) second (is, left)))

  pub completes : (f₂ f₃ f₄ f₅ : HirFunction) (e₂ e₃ e₄ e₅ : Environment) (summary : List AliasingEffect)
      → naming id (range_pass true f₁ e₁) ≡ Ok (record { summary = summary; after = (f₂, e₂) })
      → IsPassed keeps_all (f₂, e₂) (f₃, e₃) → IsPassed keeps_all (f₃, e₃) (f₄, e₄) → (f₅, e₅)
      ≡ annotated summary (f₄, e₄) → Completed keeps_all id (f₀, e₀) (Ok (f₅, e₅))
  completes f₂ f₃ f₄ f₅ e₂ e₃ e₄ e₅ summary h second third set =
      done (f₁, e₁) first (done (record { summary = summary; after = (f₂, e₂) }) h
      (done (f₃, e₃) second (done (f₄, e₄) third (ap Ok (sym set)))))

pub first_refused : (keeps_all : Bool) (id : FunctionId) (s left : HirFunction × Environment) (e : InferError) → e
    ≡ error.PassFault (Some id) DeadCodeElimination → IsPassed keeps_all s left
    → CompletionRefused keeps_all id s e left
first_refused keeps_all id s left e is kept = at_once (is, kept)

pub completes_error : (answers : Answers (HirFunction × Environment)) (refusals : Refusals (HirFunction × Environment))
    (r : Result ⊤ InferError) (e : InferError) (f : HirFunction) (env : Environment) → r ≡ Err e
    → (is_memory e ≡ false → refusals e (f, env)) → CompletesOne answers refusals r f env
completes_error answers refusals r e f env is h = subst (λ q. CompletesOne answers refusals q f env) (sym is) h

-- ---- a nested function

module _ (keeps_all : Bool) (id : FunctionId) (f : HirFunction) (a : Analysis) where
  pub function_refused : (g : HirFunction) (env : Environment) (e : InferError) → effects_analysed id f a ≡ Err e → g
      ≡ f → env ≡ a.env → FunctionRefused keeps_all id f a e (g, env)
  function_refused g env e h same same_env = at_once (h, both_same g f env a.env same same_env)

  pub function_leads : (f₁ f₂ : HirFunction) (e₁ e₂ : Environment) (fs : List Analysed) (solved : List Solved)
      (r : Result ⊤ InferError) → effects_analysed id f a ≡ Ok (f₁, analysis e₁ fs) → Accounts fs solved
      → CompletesOne (Completed keeps_all id (f₁, e₁)) (CompletionRefused keeps_all id (f₁, e₁)) r f₂ e₂
      → LeadsToOneWith (FunctionAnalysed keeps_all id f a) (FunctionRefused keeps_all id f a) r f₂ e₂ solved
  function_leads f₁ f₂ e₁ e₂ fs solved (Ok u) h i c = (fs, done (f₁, analysis e₁ fs) h (done (f₂, e₂) c refl), i)
  function_leads f₁ f₂ e₁ e₂ fs solved (Err e) h i c = λ free. later (f₁, analysis e₁ fs) h (c free)

pub leads_with_error : (answers : Answers (HirFunction × Analysis)) (refusals : Refusals (HirFunction × Environment))
    (r : Result ⊤ InferError) (e : InferError) (f : HirFunction) (env : Environment) (solved : List Solved) → r ≡ Err e
    → (is_memory e ≡ false → refusals e (f, env)) → LeadsToOneWith answers refusals r f env solved
leads_with_error answers refusals r e f env solved is h =
    subst (λ q. LeadsToOneWith answers refusals q f env solved) (sym is) h

-- first those below it
module _ (keeps_all : Bool) (n : ℕ) (id : FunctionId) (f : HirFunction) (a : Analysis) where
  pub taken_refused : (env : Environment) (e : InferError) → AnalysisRefused keeps_all n f a e env
      → TakenRefused keeps_all n (AnalysisRefused keeps_all n) id f a e (f, env)
  taken_refused env e h = at_once (h, refl)

  pub taken_leads : (g : HirFunction) (e₁ e₂ : Environment) (fs : List Analysed) (solved : List Solved)
      (r : Result ⊤ InferError) → AnalysedWith keeps_all n f a (Ok (analysis e₁ fs))
      → LeadsToOneWith (FunctionAnalysed keeps_all id f (analysis e₁ fs))
      (FunctionRefused keeps_all id f (analysis e₁ fs)) r g e₂ solved
      → LeadsToOneWith (TakenAnalysed keeps_all (AnalysedWith keeps_all n) id f a)
      (TakenRefused keeps_all n (AnalysisRefused keeps_all n) id f a) r g e₂ solved
  taken_leads g e₁ e₂ fs solved (Ok u) h l = (l.0, done (analysis e₁ fs) h l.1, l.2)
  taken_leads g e₁ e₂ fs solved (Err e) h l = λ free. later (analysis e₁ fs) h (l free)

-- the function is taken out, and put back
module _ (keeps_all : Bool) (n : ℕ) (id : FunctionId) (env out : Environment) (fs : List Analysed) (f : HirFunction)
    (at : slice_get env.functions id.0 ≡ Some f) (is : out ≡ with_function id (emptied f.returns) env) where
  found_one : (r : Result Analysis InferError)
      → FoundAnalysed keeps_all (AnalysedWith keeps_all n) id (analysis env fs) (Some f) r
      → SlotAnalysed keeps_all (AnalysedWith keeps_all n) id (analysis env fs) r
  found_one r h = subst (λ o. FoundAnalysed keeps_all (AnalysedWith keeps_all n) id (analysis env fs) o r) (sym at) h

  taken_there : (r : Result (HirFunction × Analysis) InferError)
      → TakenAnalysed keeps_all (AnalysedWith keeps_all n) id f (analysis out fs) r
      → TakenAnalysed keeps_all (AnalysedWith keeps_all n) id f (analysis (with_function id (emptied f.returns) env) fs)
      r
  taken_there r h = subst (λ e. TakenAnalysed keeps_all (AnalysedWith keeps_all n) id f (analysis e fs) r) is h

  refused_there : (e : InferError) (last : HirFunction × Environment)
      → TakenRefused keeps_all n (AnalysisRefused keeps_all n) id f (analysis out fs) e last
      → TakenRefused keeps_all n (AnalysisRefused keeps_all n) id f
      (analysis (with_function id (emptied f.returns) env) fs) e last
  refused_there e last h = subst (λ v. TakenRefused keeps_all n (AnalysisRefused keeps_all n) id f (analysis v fs) e
      last) is h

  pub slot_leads : (g : HirFunction) (after back : Environment) (solved : List Solved) (r : Result ⊤ InferError) → back
      ≡ with_function id g after
      → LeadsToOneWith (TakenAnalysed keeps_all (AnalysedWith keeps_all n) id f (analysis out fs))
      (TakenRefused keeps_all n (AnalysisRefused keeps_all n) id f (analysis out fs)) r g after solved
      → LeadsToOne (SlotAnalysed keeps_all (AnalysedWith keeps_all n) id (analysis env fs))
      (SlotRefused keeps_all n (AnalysisRefused keeps_all n) id (analysis env fs)) r back solved
  slot_leads g after back solved (Ok u) put l = (
    l.0,
    found_one _ (done (g, analysis after l.0) (taken_there _ l.1) (ap (λ e. Ok (analysis e l.0)) (sym put))),
    l.2,
  )
  slot_leads g after back solved (Err e) put l =
      λ free. record {
        func = f;
        there = at;
        last = (g, after);
        refused = refused_there e (g, after) (l free);
        back = put;
      }

-- ---- a refusal is one of the answers

completion_answers : (keeps_all : Bool) (id : FunctionId) (s : HirFunction × Environment) (e : InferError)
    (left : HirFunction × Environment) → CompletionRefused keeps_all id s e left → Completed keeps_all id s (Err e)
completion_answers keeps_all id s e left (at_once h) = refused e h.0 refl
completion_answers keeps_all id s e left (later dead d (at_once h)) = done dead d (refused e h.0 refl)
completion_answers keeps_all id s e left (later dead d (later r i (at_once h))) =
    done dead d (done r i (refused e h.0 refl))
completion_answers keeps_all id s e left (later dead d (later r i (later kinds j h))) =
    done dead d (done r i (done kinds j (refused e h.0 refl)))

function_answers : (keeps_all : Bool) (id : FunctionId) (f : HirFunction) (a : Analysis) (e : InferError)
    (left : HirFunction × Environment) → FunctionRefused keeps_all id f a e left
    → FunctionAnalysed keeps_all id f a (Err e)
function_answers keeps_all id f a e left (at_once h) = refused e h.0 refl
function_answers keeps_all id f a e left (later s d h) =
    done s d (refused e (completion_answers keeps_all id (s.0, s.1.env) e left h) refl)

module _ (keeps_all : Bool) (n : ℕ) (below : HirFunction → Analysis → Refusals Environment)
    (below_answers : (f : HirFunction) (a : Analysis) (e : InferError) (left : Environment) → below f a e left
    → AnalysedWith keeps_all n f a (Err e)) where
  taken_answers : (id : FunctionId) (f : HirFunction) (a : Analysis) (e : InferError) (left : HirFunction × Environment)
      → TakenRefused keeps_all n below id f a e left → TakenAnalysed keeps_all (AnalysedWith keeps_all n) id f a (Err e)
  taken_answers id f a e left (at_once h) = refused e (below_answers f a e left.1 h.0) refl
  taken_answers id f a e left (later b d h) = done b d (function_answers keeps_all id f b e left h)

  slot_answers : (id : FunctionId) (a : Analysis) (e : InferError) (left : Environment)
      → SlotRefused keeps_all n below id a e left → SlotAnalysed keeps_all (AnalysedWith keeps_all n) id a (Err e)
  slot_answers id a e left h =
      subst (λ o. FoundAnalysed keeps_all (AnalysedWith keeps_all n) id a o (Err e)) (sym h.there)
      (refused e (taken_answers id h.func (record a { env = with_function id (emptied h.func.returns) a.env }) e h.last
      h.refused) refl)

  one_answers : (ids : List FunctionId) (a : Analysis) (e : InferError) (left : Environment)
      → OneOfRefused (SlotRefused keeps_all n below) (SlotAnalysed keeps_all (AnalysedWith keeps_all n)) ids a e left
      → Each (SlotAnalysed keeps_all (AnalysedWith keeps_all n)) ids a (Err e)
  one_answers [] a e left h = absurd h
  one_answers (id ∷ ids) a e left (at_once h) = refused e (slot_answers id a e left h) refl
  one_answers (id ∷ ids) a e left (later b d h) = done b d (one_answers ids b e left h)

pub refusal_answers : (keeps_all : Bool) (n : ℕ) (f : HirFunction) (a : Analysis) (e : InferError) (left : Environment)
    → AnalysisRefused keeps_all n f a e left → AnalysedWith keeps_all n f a (Err e)
unfolding AnalysedWith AnalysisRefused
refusal_answers keeps_all zero f a e left h = absurd h
refusal_answers keeps_all (suc n) f a e left h =
    one_answers keeps_all n (AnalysisRefused keeps_all n) (refusal_answers keeps_all n) (created_functions f) a e left h

-- ---- where the passes keep everything there is one answer, but for faults

-- the answer is no fault of a pass of the caller
abbrev IsCalm : {A : Type 0} → Result A InferError → Type 0
IsCalm r = IsPassFault r → ⊥

then_is : {A B : Type 0} (first : Answers A) (next : A → Answers B) (p : Result A InferError)
    (q : A → Result B InferError) → ((s : Result A InferError) → IsCalm s → first s → p ≡ s)
    → ((x : A) (s : Result B InferError) → IsCalm s → next x s → q x ≡ s)
    → (r : Result B InferError) → IsCalm r → Then first next r → (p >>= q) ≡ r
then_is {A} {B} first next p q f g r calm (done x h i) = ap (λ z. z >>= q) (f (Ok x) (λ b. b) h) ∙ g x r calm i
then_is {A} {B} first next p q f g r calm (refused e h is) =
    ap (λ z. z >>= q) (f (Err e) (λ b. calm (subst (λ (q : Result B InferError). IsPassFault q) (sym is) b)) h) ∙ sym is

passed_is : (s t : HirFunction × Environment) → IsPassed true s t → t ≡ s
passed_is s t p = let e = p.same refl in both_same t.0 s.0 t.1 s.1 e.0 e.1

passed_on : {B : Type 0} (id : FunctionId) (pass : Pass) (s : HirFunction × Environment)
    (next : HirFunction × Environment → Answers B) (r : Result B InferError) → IsCalm r
    → Then (Passed true id pass s) next r → next s r
passed_on {B} id pass s next r calm (done t p h) = subst (λ z. next z r) (passed_is s t p) h
passed_on {B} id pass s next r calm (refused e h is) =
    absurd (calm (subst (λ (q : Result B InferError). IsPassFault q) (sym is) (subst IsFault (sym h) tt)))

abbrev Scoped : FunctionId → List AliasingEffect → HirFunction × Environment → Answers (HirFunction × Environment)
Scoped id summary kinds = Then (Passed true id InferReactiveScopeVariables kinds)
    (λ scopes. Only (Ok (annotated summary scopes)))

abbrev Rewritten : FunctionId → Ranged → Answers (HirFunction × Environment)
Rewritten id z = Then (Passed true id RewriteInstructionKindsBasedOnReassignment z.after) (Scoped id z.summary)

completed_is : (id : FunctionId) (s : HirFunction × Environment) (r : Result (HirFunction × Environment) InferError)
    → IsCalm r → Completed true id s r → completed id s.0 s.1 ≡ r
completed_is id s r calm h =
    then_is (Only (naming id (range_pass true s.0 s.1))) (Rewritten id) (naming id (range_pass true s.0 s.1))
    (λ z. Ok (annotated z.summary z.after))
    (λ q k e. e)
    (λ z q k e. passed_on id InferReactiveScopeVariables z.after (λ scopes. Only (Ok (annotated z.summary scopes))) q k
    (passed_on id RewriteInstructionKindsBasedOnReassignment z.after (Scoped id z.summary) q k e))
    r calm
    (passed_on id DeadCodeElimination s (λ dead. Then (Only (naming id (range_pass true dead.0 dead.1))) (Rewritten id))
    r calm h)

completed_with_is : (id : FunctionId) (s : HirFunction × Analysis) (r : Result (HirFunction × Analysis) InferError)
    → IsCalm r → CompletedWith true id s r → completed_with id s ≡ r
completed_with_is id s r calm h =
    then_is (Completed true id (s.0, s.1.env)) (λ c. Only (Ok (c.0, analysis c.1 s.1.functions)))
    (completed id s.0 s.1.env) (λ c. Ok (c.0, analysis c.1 s.1.functions)) (completed_is id (s.0, s.1.env))
    (λ c q k e. e) r calm h

function_is : (id : FunctionId) (f : HirFunction) (a : Analysis) (r : Result (HirFunction × Analysis) InferError)
    → IsCalm r → FunctionAnalysed true id f a r → function_analysed id f a ≡ r
function_is id f a r calm h = then_is (Only (effects_analysed id f a)) (CompletedWith true id) (effects_analysed id f a)
    (completed_with id) (λ q k e. e) (completed_with_is id) r calm h

module _ (Below : HirFunction → Analysis → Answers Analysis)
    (below : HirFunction → Analysis → Result Analysis InferError)
    (below_is : (f : HirFunction) (a : Analysis) (r : Result Analysis InferError) → IsCalm r → Below f a r → below f a
    ≡ r) where
  taken_is : (id : FunctionId) (f : HirFunction) (a : Analysis) (r : Result (HirFunction × Analysis) InferError)
      → IsCalm r → TakenAnalysed true Below id f a r → taken_analysed below id f a ≡ r
  taken_is id f a r calm h = then_is (Below f a) (FunctionAnalysed true id f) (below f a) (function_analysed id f)
      (below_is f a) (function_is id f) r calm h

  found_is : (id : FunctionId) (a : Analysis) (o : Option HirFunction) (r : Result Analysis InferError) → IsCalm r
      → FoundAnalysed true Below id a o r → found_analysed below id a o ≡ r
  found_is id a None r calm h = h
  found_is id a (Some f) r calm h =
      let out : Analysis = record a { env = with_function id (emptied f.returns) a.env } in
      then_is (TakenAnalysed true Below id f out) (λ s. Only (Ok (record s.1 { env = with_function id s.0 s.1.env })))
      (taken_analysed below id f out) (λ s. Ok (record s.1 { env = with_function id s.0 s.1.env }))
      (taken_is id f out) (λ s q k e. e) r calm h

  slot_is : (id : FunctionId) (a : Analysis) (r : Result Analysis InferError) → IsCalm r
      → SlotAnalysed true Below id a r → slot_analysed below id a ≡ r
  slot_is id a r calm h = found_is id a (slice_get a.env.functions id.0) r calm h

each_is : {X A : Type 0} (Step : X → A → Answers A) (step : X → A → Result A InferError)
    → ((x : X) (a : A) (r : Result A InferError) → IsCalm r → Step x a r → step x a ≡ r)
    → (xs : List X) (a : A) (r : Result A InferError) → IsCalm r → Each Step xs a r → each step xs a ≡ r
each_is Step step s [] a r calm h = h
each_is Step step s (x ∷ xs) a r calm h =
    then_is (Step x a) (Each Step xs) (step x a) (each step xs) (s x a) (each_is Step step s xs) r calm h

analysed_is : (n : ℕ) (f : HirFunction) (a : Analysis) (r : Result Analysis InferError) → IsCalm r
    → AnalysedWith true n f a r → analysed n f a ≡ r
unfolding AnalysedWith analysed
analysed_is zero f a r calm h = h
analysed_is (suc n) f a r calm h = each_is (SlotAnalysed true (AnalysedWith true n)) (slot_analysed (analysed n))
    (slot_is (AnalysedWith true n) (analysed n) (analysed_is n)) (created_functions f) a r calm h

-- a refusal that isn't free is no fault
not_fault : (e : InferError) → is_free e ≡ false → IsFault e → ⊥
not_fault (error.Memory m) h i = i
not_fault (error.PassFault f p) h i = cc
not_fault (error.NotSettled f v r) h i = i
not_fault (error.Uninitialized f b x s r) h i = i
not_fault (error.Reinitialized f n x) h i = i
not_fault (error.AliasBeforeCreate f n x) h i = i
not_fault (error.IncompatibleLibrary f n r) h i = i
not_fault (error.SpreadArgument f n s r) h i = i
not_fault (error.UnreplacedApply n r) h i = i
not_fault (error.EffectsNotInferred x) h i = i
not_fault (error.TooMany w) h i = i

-- where the passes keep everything, what the call comes to is the analysis stated, or its refusal
pub analyses_exactly : (keeps_all : Bool) → keeps_all ≡ true
    → (n : ℕ) (f : HirFunction) (a : Analysis) (r : Result (List Solved) InferError) (env : Environment)
    → Analyses (AnalysedWith keeps_all n f a) r env → AnalysesExactly (analysed n f a) r env
analyses_exactly keeps_all k n f a (Ok solved) env h = (
  h.0,
  analysed_is n f a (Ok (analysis env h.0)) (λ b. b)
      (subst (λ b. AnalysedWith b n f a (Ok (analysis env h.0))) k h.1),
  h.2,
)
analyses_exactly keeps_all k n f a (Err e) env h =
    λ free. analysed_is n f a (Err e) (not_fault e free)
    (subst (λ b. AnalysedWith b n f a (Err e)) k (h (unfree e free)))

pub leads_exactly : (keeps_all : Bool) → keeps_all ≡ true
    → (n : ℕ) (f : HirFunction) (a : Analysis) (r : Result ⊤ InferError) (env : Environment) (solved : List Solved)
    → LeadsToOne (AnalysedWith keeps_all n f a) (AnalysisRefused keeps_all n f a) r env solved
    → Leads (analysed n f a) r env solved
leads_exactly keeps_all k n f a (Ok u) env solved h = (
  h.0,
  analysed_is n f a (Ok (analysis env h.0)) (λ b. b)
      (subst (λ b. AnalysedWith b n f a (Ok (analysis env h.0))) k h.1),
  h.2,
)
leads_exactly keeps_all k n f a (Err e) env solved h =
    λ free. analysed_is n f a (Err e) (not_fault e free)
    (subst (λ b. AnalysedWith b n f a (Err e)) k (refusal_answers keeps_all n f a e env (h (unfree e free))))

-- ---- the calls

pub analyses_error : (answers : Answers Analysis) (r : Result (List Solved) InferError) (e : InferError)
    (env : Environment) → r ≡ Err e → (is_memory e ≡ false → answers (Err e)) → Analyses answers r env
analyses_error answers r e env is h = subst (λ q. Analyses answers q env) (sym is) h

pub into_error : (answers : Answers Analysis) (r : Result ⊤ InferError) (e : InferError) (env : Environment) → r ≡ Err e
    → (is_memory e ≡ false → answers (Err e)) → AnalysesInto answers r env
into_error answers r e env is h = subst (λ q. AnalysesInto answers q env) (sym is) h

pub exactly_error : (stated : Result Analysis InferError) (r : Result ⊤ InferError) (e : InferError) (env : Environment)
    → r ≡ Err e → (is_free e ≡ false → stated ≡ Err e) → AnalysesExactlyInto stated r env
exactly_error stated r e env is h = subst (λ q. AnalysesExactlyInto stated q env) (sym is) h

pub leaves_error : {A : Type 0} (refusals : Refusals Environment) (r : Result A InferError) (e : InferError)
    (env : Environment) → r ≡ Err e → (is_memory e ≡ false → refusals e env) → Leaves refusals r env
leaves_error refusals r e env is h = subst (λ q. Leaves refusals q env) (sym is) h
