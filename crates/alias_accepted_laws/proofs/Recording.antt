-- The step of a block records something of each instruction that creates a function.
use Rattle.std.specs.Prelude.{◌≡◌, ◌⊎◌, Bool, true, false, if◌then◌else◌, List, [], ◌∷◌, ◌++◌, Option, Some, None}
use Rattle.std.specs.Prelude.{Result, Ok, Err, slice_get, refl}
use Rattle.std.proofs.Common.{inl, inr, ⊎_elim, ap, sym, ◌∙◌, subst}
use Rattle.std.specs.List.{AllByRecursion}
use Rattle.alias_base.specs.declared.ids.BlockId.{BlockId}
use Rattle.alias_base.specs.declared.ids.FunctionId.{FunctionId}
use Rattle.alias_base.specs.declared.ids.IdentifierId.{IdentifierId}
use Rattle.alias_base.specs.declared.ids.InstructionId.{InstructionId}
use Rattle.alias_facts.specs.declared.facts.FunctionFacts.{FunctionFacts}
use Rattle.alias_hir.specs.Values.{created}
use Rattle.alias_hir.specs.declared.effect.AliasingEffect.{AliasingEffect}
use Rattle.alias_hir.specs.declared.effect.AliasingEffect.TheVariants as effect
use Rattle.alias_hir.specs.declared.env.Environment.{Environment}
use Rattle.alias_hir.specs.declared.hir.BasicBlock.{BasicBlock}
use Rattle.alias_hir.specs.declared.hir.Instruction.{Instruction}
use Rattle.alias_hir.specs.declared.place.Place.{Place}
use Rattle.alias_hir.specs.declared.place.Span.{Span}
use Rattle.alias_hir.specs.declared.report.ReportId.{ReportId}
use Rattle.alias_hir.specs.declared.value.InstructionValue.{InstructionValue}
use Rattle.alias_hir.specs.declared.value.InstructionValue.TheVariants.{FunctionExpression, ObjectMethod}
use Rattle.alias_lattice.specs.States.{State}
use Rattle.alias_lattice.specs.declared.lookup.MissingLookup.{MissingLookup}
use Rattle.alias_graph.specs.Walks.{IsOneOf}
use Rattle.alias_rules.specs.Fitting.{is_apply}
use Rattle.alias_tables.specs.ReplayLaws.{first_is, not_given}
use Rattle.alias_tables.specs.Steps.{◌>>=◌, and_then, gives, each}
use Rattle.alias_tables.specs.Tables.{TableLists, Step, noted}
use Rattle.alias_apply.specs.freezing.Contexts.{context_of}
use Rattle.alias_signature.specs.Known.{Known, known}
use Rattle.alias_signature.specs.Signatures.{signature_of_value}
use Rattle.alias_apply.specs.Apply.{apply_simple, intern_and_apply_simple, is_read_capture, note_read_capture}
use Rattle.alias_apply.specs.Apply.{apply_create_function, apply_plain, intern_and_apply_plain}
use Rattle.alias_apply.specs.Contexts.{StepContext}
use Rattle.alias_apply.specs.Progress.{record_of, made}
use Rattle.alias_apply.specs.declared.progress.StepProgress.{StepProgress}
use Rattle.alias_step.specs.Calls.{apply_effect, apply_effects}
use Rattle.alias_step.specs.Instructions.{begun, check_created, with_result, apply_instruction, context_with}
use Rattle.alias_step.specs.Instructions.{apply_signature_with, apply_signature}
use Rattle.alias_step_laws.specs.steps.KeepingLaws as keeping
use Rattle.alias_step.specs.block.Blocks.{step_start, after_instruction, infer_instruction_at, apply_signatures}
use Rattle.alias_step.specs.block.Blocks.{after_terminal, apply_terminal, block_start, finished_at, finished}
use Rattle.alias_step.specs.block.Blocks.{infer_phis, infer_block}
use Rattle.alias_step.specs.block.Actions.{terminal_action}
use Rattle.alias_step.specs.block.Contexts.{BlockContext}
use Rattle.alias_step.specs.block.Faults.{in_block}
use Rattle.alias_step.specs.block.Recorded.{recorded_as}
use Rattle.alias_step.specs.block.ReplayLaws.{in_block_gives}
use Rattle.alias_step.specs.declared.block.block.BlockProgress.{BlockProgress}
use Rattle.alias_step.specs.declared.block.recorded.BlockEffects.{BlockEffects}
use Rattle.alias_step.specs.declared.block.recorded.InstructionEffects.{InstructionEffects}
use Rattle.alias_certificate_laws.specs.accepting.Alike.{Alike, capture, create_function}
use Rattle.alias_certificate_laws.proofs.accepting.Interning.{interned}

-- ---- what is recorded

-- something is
abbrev pub Filled : List AliasingEffect → Type 0
Filled es = (first : AliasingEffect) × (rest : List AliasingEffect) × (es ≡ first ∷ rest)

filled_more : (e : AliasingEffect) → is_apply e ≡ false → (es : List AliasingEffect) → Filled es → Filled (es ++ e ∷ [])
filled_more e other es f = (f.0, f.1 ++ e ∷ [], ap (λ zs. zs ++ e ∷ []) f.2)

filled_last : (es : List AliasingEffect) (e : AliasingEffect) → Filled (es ++ e ∷ [])
filled_last [] e = (e, [], refl)
filled_last (x ∷ xs) e = (x, xs ++ e ∷ [], refl)

-- entries have effects
abbrev pub AllFilled : List InstructionEffects → Type 0
AllFilled is = AllByRecursion (λ (i : InstructionEffects). Filled i.effects) is

-- one of the entries is of the instruction
abbrev pub HasEntry : List InstructionEffects → InstructionId → Type 0
HasEntry [] id = ⊥
HasEntry (i ∷ is) id = (i.instruction ≡ id) ⊎ HasEntry is id

pub has_front : (is js : List InstructionEffects) (id : InstructionId) → HasEntry is id → HasEntry (is ++ js) id
has_front [] js id h = absurd h
has_front (i ∷ is) js id h = ⊎_elim (λ same. inl same) (λ later. inr (has_front is js id later)) h

pub has_rest : (is js : List InstructionEffects) (id : InstructionId) → HasEntry js id → HasEntry (is ++ js) id
has_rest [] js id h = h
has_rest (i ∷ is) js id h = inr (has_rest is js id h)

pub all_filled : (is js : List InstructionEffects) → AllFilled is → AllFilled js → AllFilled (is ++ js)
all_filled [] js h g = g
all_filled (i ∷ is) js h g = (h.0, all_filled is js h.1 g)

recorded_has : (id : InstructionId) (es : List AliasingEffect) → Filled es → HasEntry (recorded_as id es) id
recorded_has id [] f = let no : [] ≡ f.0 ∷ f.1 = f.2 in cc
recorded_has id (e ∷ es) f = inl refl

recorded_filled : (id : InstructionId) (es : List AliasingEffect) → AllFilled (recorded_as id es)
recorded_filled id [] = tt
recorded_filled id (e ∷ es) = ((e, es, refl), tt)

-- ---- words of steps

abbrev StepOf : Type 0 → Type 0 → Type 0
StepOf C A = TableLists → Result (A × TableLists) C

-- what the step gives has P
abbrev pub Gives : {A C : Type 0} → (A → Type 0) → (TableLists → Result (A × TableLists) C) → Type 0
Gives {A} P f = (t u : TableLists) (y : A) → f t ≡ Ok (y, u) → P y

abbrev Anything : {A : Type 0} → A → Type 0
Anything x = Unit {0}

split : {A B C : Type 0} (g : A → StepOf C B) (r : Result (A × TableLists) C) (y : B) (w : TableLists) → and_then r g
    ≡ Ok (y, w) → (x : A) × (u : TableLists) × (r ≡ Ok (x, u)) × (g x u ≡ Ok (y, w))
split g (Ok p) y w e = (p.0, p.1, refl, e)
split g (Err c) y w e = not_given c y w e

gives_gives : {A C : Type 0} (P : A → Type 0) (x : A) → P x → Gives {C = C} P (gives x)
gives_gives P x p t u y e = subst P (first_is x y t u e) p

gives_then : {A B C : Type 0} (P : A → Type 0) (Q : B → Type 0) (f : StepOf C A) (g : A → StepOf C B) → Gives P f
    → ((x : A) → P x → Gives Q (g x)) → Gives Q (f >>= g)
gives_then P Q f g hf hg t w y e = let s = split g (f t) y w e in hg s.0 (hf t s.1 s.0 s.2) s.1 w y s.3

gives_if : {A C : Type 0} (P : A → Type 0) (b : Bool) (f g : StepOf C A) → Gives P f → Gives P g
    → Gives P (if b then f else g)
gives_if P true f g hf hg = hf
gives_if P false f g hf hg = hg

gives_each : {X A C : Type 0} (P : A → Type 0) (f : X → A → StepOf C A) → ((x : X) (a : A) → P a → Gives P (f x a))
    → (xs : List X) (a : A) → P a → Gives P (each f xs a)
gives_each P f h [] a p = gives_gives P a p
gives_each P f h (x ∷ xs) a p = gives_then P P (f x a) (each f xs) (h x a p) (λ b q. gives_each P f h xs b q)

anything : {A C : Type 0} (f : StepOf C A) → Gives (Anything {A = A}) f
anything f t u y e = tt

-- ---- the step of a new function

abbrev Has : StepProgress → Type 0
Has s = Filled s.recorded

module _ (c : StepContext) where
  captured_same : (p x : Place) (f : AliasingEffect) (s : StepProgress) → Alike (effect.Capture p x) f
      → apply_simple c f s ≡ apply_plain c f s
  captured_same p x f s (capture a b y z) = refl

  -- a capture, as an effect that isn't a call
  captures_same : (p x : Place) (s : StepProgress) (t : TableLists) → intern_and_apply_simple c (effect.Capture p x) s t
      ≡ intern_and_apply_plain c (effect.Capture p x) s t
  captures_same p x s t =
      let i = interned (effect.Capture p x) t in
      ap (λ r. and_then r (λ f. apply_simple c f s)) i.is
      ∙ ap (λ (g : Step StepProgress). g i.tables) (captured_same p x i.effect s i.alike)
      ∙ sym (ap (λ r. and_then r (λ f. apply_plain c f s)) i.is)

  capture_has : (x p : Place) (s : StepProgress) → Has s → Gives Has (intern_and_apply_simple c (effect.Capture p x) s)
  capture_has x p s h t u y e = keeping.keeps_intern_and_apply_plain Filled filled_more c (effect.Capture p x) s h t u y
      (sym (captures_same p x s t) ∙ e)

  note_has : (f : FunctionId) (p : Place) (s : StepProgress) → Has s → Gives Has (note_read_capture f p s)
  note_has f p s h = gives_if Has (is_read_capture s.state p) (noted (record { function = f; place = p.identifier }) s)
      (gives s) (λ t u y e. subst Has (first_is s y _ u e) h) (gives_gives Has s h)

  function_has : (x : Place) (f : FunctionId) (ps : List Place) (s : StepProgress)
      → Gives Has (apply_create_function c x f ps s)
  function_has x f ps s =
      gives_then (Anything {A = StepProgress}) Has (made x.identifier s) _ (anything (made x.identifier s)) (λ u none.
      gives_then Has Has (each (note_read_capture f) (context_of c.env f) (record_of (effect.CreateFunction x f ps) u))
      _
      (gives_each Has (note_read_capture f) (note_has f) (context_of c.env f)
      (record_of (effect.CreateFunction x f ps) u) (filled_last u.recorded (effect.CreateFunction x f ps)))
      (λ v h. gives_each Has (λ p. intern_and_apply_simple c (effect.Capture p x)) (λ p w g. capture_has x p w g) ps _
      h))

  plain_has : (x : Place) (f : FunctionId) (ps : List Place) (e : AliasingEffect) (s : StepProgress)
      → Alike (effect.CreateFunction x f ps) e → Gives Has (apply_plain c e s)
  plain_has x f ps e s (create_function y z g qs rs a) = function_has _ g rs s

  effect_has : (x : Place) (f : FunctionId) (ps : List Place) (s : StepProgress)
      → Gives Has (apply_effect c (effect.CreateFunction x f ps) s)
  effect_has x f ps s t u y e =
      let i = interned (effect.CreateFunction x f ps) t in
      plain_has x f ps i.effect s i.alike i.tables u y (sym (ap (λ r. and_then r (λ z. apply_plain c z s)) i.is) ∙ e)

  result_has : (b : Bool) (x : IdentifierId) (s : StepProgress) → Has s → Has (with_result b x s)
  result_has true x s h = h
  result_has false x s h = h

  instruction_has : (o : Option FunctionId) (x : Place) (f : FunctionId) (ps : List Place) (id : IdentifierId)
      (s : StepProgress) → Gives Has (apply_instruction c o (effect.CreateFunction x f ps ∷ []) id s)
  instruction_has o x f ps id s =
      gives_then (Anything {A = StepProgress}) Has (check_created c o (begun s)) _
      (anything (check_created c o (begun s))) (λ t none.
      gives_then Has Has (apply_effects c (effect.CreateFunction x f ps ∷ []) t) _
      (gives_then Has Has (apply_effect c (effect.CreateFunction x f ps) t) (each (apply_effect c) [])
      (effect_has x f ps t) (λ u h. gives_gives Has u h))
      (λ u h. gives_gives Has _ (result_has _ id u h)))

-- an instruction that creates a function has this one effect
record IsNew (k : Known) (l : Place) (span : Option Span) (v : InstructionValue) : Type 0 where
  func : FunctionId
  captures : List Place
  is : signature_of_value k l span v ≡ effect.CreateFunction l func captures ∷ []

new_function : (k : Known) (l : Place) (span : Option Span) (v : InstructionValue) (f : FunctionId) → created v ≡ Some f
    → IsNew k l span v
new_function k l span (FunctionExpression lowered) f e = record { func = lowered.func; captures = _; is = refl }
new_function k l span (ObjectMethod lowered) f e = record { func = lowered.func; captures = _; is = refl }
new_function k l span v f e = cc

signature_has : (env : Environment) (facts : FunctionFacts) (i : Instruction) (f : FunctionId) (s : StepProgress)
    → created i.value ≡ Some f → Gives Has (apply_signature env facts i s)
signature_has env facts i f s e =
    gives_then (Anything {A = Option ReportId}) Has _ (λ error. apply_signature_with env facts i error s) (anything _)
    (λ error none.
    let n = new_function (known env facts error) i.lvalue i.span i.value f e in
    subst (λ es. Gives Has (apply_instruction (context_with env facts) (created i.value) es i.lvalue.identifier s))
    (sym n.is) (instruction_has (context_with env facts) (created i.value) i.lvalue n.func n.captures
    i.lvalue.identifier s))

-- ---- blocks

module _ (c : BlockContext) where
  step_in_block : (P : StepProgress → Type 0) (i : InstructionId) (f : Step StepProgress) → Gives P f
      → Gives P (in_block i f)
  step_in_block P i f h t u y e = h t u y (in_block_gives i (f t) (y, u) e)

  -- entries of before stay, and all have effects
  abbrev Keeps : List InstructionEffects → BlockProgress → Type 0
  Keeps before s = AllFilled s.effects.instructions
      × ((id : InstructionId) → HasEntry before id → HasEntry s.effects.instructions id)

  after_keeps : (i : InstructionId) (s : BlockProgress) (u : StepProgress) → AllFilled s.effects.instructions
      → Keeps s.effects.instructions (after_instruction i s.effects u)
  after_keeps i s u h = (
    all_filled s.effects.instructions (recorded_as i u.recorded) h (recorded_filled i u.recorded),
    λ id g. has_front s.effects.instructions (recorded_as i u.recorded) id g,
  )

  instruction_keeps : (i : InstructionId) (o : Option Instruction) (s : BlockProgress)
      → AllFilled s.effects.instructions → Gives (Keeps s.effects.instructions) (infer_instruction_at c i o s)
  instruction_keeps i None s h = gives_gives (Keeps s.effects.instructions) s (h, λ id g. g)
  instruction_keeps i (Some x) s h =
      gives_then (Anything {A = StepProgress}) (Keeps s.effects.instructions)
      (in_block i (apply_signature c.env c.facts x (step_start s))) (λ u. gives (after_instruction i s.effects u))
      (anything _)
      (λ u none. gives_gives (Keeps s.effects.instructions) (after_instruction i s.effects u) (after_keeps i s u h))

  signatures_keep : (is : List InstructionId) (s : BlockProgress) → AllFilled s.effects.instructions
      → Gives (Keeps s.effects.instructions) (apply_signatures c is s)
  signatures_keep [] s h = gives_gives (Keeps s.effects.instructions) s (h, λ id g. g)
  signatures_keep (i ∷ is) s h =
      gives_then (Keeps s.effects.instructions) (Keeps s.effects.instructions)
      (infer_instruction_at c i (slice_get c.func.instructions i.0) s) (apply_signatures c is)
      (instruction_keeps i (slice_get c.func.instructions i.0) s h)
      (λ w k t u y e. let r = signatures_keep is w k.0 t u y e in (r.0, λ id g. r.1 id (k.1 id g)))

  -- the instruction is given an entry
  instruction_enters : (i : InstructionId) (x : Instruction) (f : FunctionId) (s : BlockProgress) → created x.value
      ≡ Some f → Gives (λ (z : BlockProgress). HasEntry z.effects.instructions i) (infer_instruction_at c i (Some x) s)
  instruction_enters i x f s e =
      gives_then Has (λ (z : BlockProgress). HasEntry z.effects.instructions i)
      (in_block i (apply_signature c.env c.facts x (step_start s))) (λ u. gives (after_instruction i s.effects u))
      (step_in_block Has i (apply_signature c.env c.facts x (step_start s))
      (signature_has c.env c.facts x f (step_start s) e))
      (λ u h. gives_gives (λ (z : BlockProgress). HasEntry z.effects.instructions i) (after_instruction i s.effects u)
      (has_rest s.effects.instructions (recorded_as i u.recorded) i (recorded_has i u.recorded h)))

  module _ (id : InstructionId) (x : Instruction) (f : FunctionId) (at : slice_get c.func.instructions id.0 ≡ Some x)
      (e : created x.value ≡ Some f) where
    abbrev Entered : BlockProgress → Type 0
    Entered z = HasEntry z.effects.instructions id

    one_enters : (i : InstructionId) (s : BlockProgress) → id ≡ i
        → Gives Entered (infer_instruction_at c i (slice_get c.func.instructions i.0) s)
    one_enters i s same =
        subst (λ (j : InstructionId). Gives Entered (infer_instruction_at c j (slice_get c.func.instructions j.0) s))
        same
        (subst (λ o. Gives Entered (infer_instruction_at c id o s)) (sym at) (instruction_enters id x f s e))

    signatures_enter : (is : List InstructionId) (s : BlockProgress) → AllFilled s.effects.instructions → IsOneOf id is
        → Gives Entered (apply_signatures c is s)
    signatures_enter [] s h i = absurd i
    signatures_enter (j ∷ is) s h i =
        ⊎_elim
        (λ (here : id ≡ j) t u y g.
        let p = split (apply_signatures c is) (infer_instruction_at c j (slice_get c.func.instructions j.0) s t) y u
        g in
        let first : Entered p.0 = one_enters j s here t p.1 p.0 p.2 in
        (signatures_keep is p.0 (instruction_keeps j (slice_get c.func.instructions j.0) s h t p.1 p.0 p.2).0 p.1 u y
        p.3).1 id first)
        (λ there.
        gives_then (Keeps s.effects.instructions) Entered
        (infer_instruction_at c j (slice_get c.func.instructions j.0) s) (apply_signatures c is)
        (instruction_keeps j (slice_get c.func.instructions j.0) s h) (λ w k. signatures_enter is w k.0 there))
        i

  -- ---- the whole step

  abbrev Out : (List InstructionEffects → Type 0) → State × BlockEffects → Type 0
  Out P r = P r.1.instructions

  ended_out : (P : List InstructionEffects → Type 0) (m : Option MissingLookup) (s : BlockProgress)
      → P s.effects.instructions → Gives (Out P) (finished_at m s)
  ended_out P (Some lookup) s h = λ t u y e. not_given _ y u e
  ended_out P None s h = gives_gives (Out P) (s.state, s.effects) h

  block_out : (P : List InstructionEffects → Type 0) (b : BlockId) (block : BasicBlock) (x : State)
      → Gives (λ (z : BlockProgress). P z.effects.instructions)
      (apply_signatures c block.instructions (block_start (infer_phis block.phis x)))
      → Gives (Out P) (infer_block c b block x)
  block_out P b block x h =
      gives_then (λ (z : BlockProgress). P z.effects.instructions) (Out P)
      (apply_signatures c block.instructions (block_start (infer_phis block.phis x))) _ h (λ s p.
      gives_then (λ (z : BlockProgress). P z.effects.instructions) (Out P) (apply_terminal c b block s) finished
      (gives_then (Anything {A = StepProgress}) (λ (z : BlockProgress). P z.effects.instructions)
      (terminal_action c block.instructions block.terminal (step_start s))
      (λ u. gives (after_terminal b s.effects u)) (anything _)
      (λ u none. gives_gives (λ (z : BlockProgress). P z.effects.instructions) (after_terminal b s.effects u) p))
      (λ w q. ended_out P w.missing w q))

  pub block_filled : (b : BlockId) (block : BasicBlock) (x : State) → Gives (Out AllFilled) (infer_block c b block x)
  block_filled b block x = block_out AllFilled b block x
      (λ t u y e. (signatures_keep block.instructions (block_start (infer_phis block.phis x)) tt t u y e).0)

  pub block_enters : (id : InstructionId) (i : Instruction) (f : FunctionId) → slice_get c.func.instructions id.0
      ≡ Some i → created i.value ≡ Some f → (b : BlockId) (block : BasicBlock) (x : State)
      → IsOneOf id block.instructions
      → Gives (Out (λ is. HasEntry is id)) (infer_block c b block x)
  block_enters id i f at e b block x listed =
      block_out (λ is. HasEntry is id) b block x
      (signatures_enter id i f at e block.instructions (block_start (infer_phis block.phis x)) tt listed)
