-- What an instruction writes for certain, where the value isn't to be written, it records as an error.
use Rattle.std.specs.Prelude.{◌≡◌, ℕ, Bool, true, false, ◌&&◌, ◌||◌, not, ◌==◌, List, [], ◌∷◌, ◌++◌, Option, None, Some}
use Rattle.std.specs.Prelude.{refl, if◌then◌else◌}
use Rattle.std.specs.List.{AllByRecursion, list_any}
use Rattle.std.specs.Option.{is_some}
use Rattle.std.specs.Cmp.{unsigned_tied}
use Rattle.std.specs.Ordering.{ordering_then, is_eq, nat_cmp}
use Rattle.std.specs.declared.cmp.Ordering.{Ordering}
use Rattle.std.specs.declared.cmp.Ordering.TheVariants.{Less, Equal, Greater}
use Rattle.std.proofs.Common.{ap, sym, ◌∙◌, subst, eq-eqb}
use Rattle.alias_base.specs.Indexes.{has_key}
use Rattle.alias_base.specs.declared.ids.FunctionId.{FunctionId}
use Rattle.alias_base.specs.declared.ids.IdentifierId.{IdentifierId}
use Rattle.alias_base.specs.declared.ids.TypeId.{TypeId}
use Rattle.alias_hir.specs.declared.effect.AliasingEffect.{AliasingEffect}
use Rattle.alias_hir.specs.declared.effect.AliasingEffect.TheVariants as effect
use Rattle.alias_hir.specs.declared.effect.ValueKind.{ValueKind}
use Rattle.alias_hir.specs.declared.effect.ValueKind.TheVariants.{Global, Frozen, MaybeFrozen}
use Rattle.alias_hir.specs.declared.env.Environment.{Environment}
use Rattle.alias_hir.specs.declared.hir.Instruction.{Instruction}
use Rattle.alias_hir.specs.declared.place.Place.{Place}
use Rattle.alias_hir.specs.declared.report.ReportId.{ReportId}
use Rattle.alias_hir.specs.declared.report.Report.{Report}
use Rattle.alias_hir.specs.declared.signature.FunctionSignature.{FunctionSignature}
use Rattle.alias_hir.specs.Types.{is_ref_at}
use Rattle.alias_hir.specs.Values.{created}
use Rattle.alias_facts.specs.declared.facts.FunctionFacts.{FunctionFacts}
use Rattle.alias_signature.specs.Globals.{instruction_report}
use Rattle.alias_signature.specs.Known.{known}
use Rattle.alias_signature.specs.Signatures.{signature_of}
use Rattle.alias_lattice.specs.declared.value.AbstractValue.{AbstractValue}
use Rattle.alias_lattice.specs.States.{lookup, sites_of}
use Rattle.alias_tables.specs.declared.key.EffectKey.{EffectKey}
use Rattle.alias_tables.specs.declared.key.EffectKey.TheVariants as key
use Rattle.alias_tables.specs.InternedEffects.{same_key, first_like}
use Rattle.alias_tables.specs.Keys.{key_of, with_error_of}
use Rattle.alias_tables.specs.ReplayLaws.{first_is}
use Rattle.alias_tables.specs.Steps.{◌>>=◌, gives, each}
use Rattle.alias_tables.specs.Tables.{TableLists, Step, intern, intern_after, intern_report}
use Rattle.alias_apply.specs.declared.progress.StepProgress.{StepProgress}
use Rattle.alias_apply.specs.Apply.{apply_plain, intern_and_apply_plain, intern_and_apply_all_plain}
use Rattle.alias_apply.specs.Apply.{intern_and_apply_simple}
use Rattle.alias_apply.specs.Contexts.{StepContext, hoisted_access}
use Rattle.alias_apply.specs.Kinds.{is_frozen}
use Rattle.alias_apply.specs.Leaves.{apply_leaf, intern_and_apply_leaf}
use Rattle.alias_apply.specs.Mutation.{intern_and_apply_mutate_frozen, intern_and_apply_mutate_global, report_write}
use Rattle.alias_apply.specs.Mutation.{report_hoisted_write, record_mutation, apply_mutate}
use Rattle.alias_apply.specs.Progress.{kind_at, looked_up_with_span}
use Rattle.alias_apply.specs.ProperLaws.{Sound, sound_gives, sound_then, sound_after, sound_if}
use Rattle.alias_apply.specs.Reports.{write_report, hoisting_report}
use Rattle.alias_calls.specs.Copies.{Collected}
use Rattle.alias_calls.specs.Legacy.{legacy_expansion}
use Rattle.alias_step.specs.Calls.{call_of, with_missing, apply_by_summary, apply_inner_call_by, apply_inner_call}
use Rattle.alias_step.specs.Calls.{apply_inner_effect, apply_by_legacy, apply_by_config, incompatible, apply_compatible}
use Rattle.alias_step.specs.Calls.{apply_by_signature, apply_call_by, apply_call, apply_effect, apply_effects}
use Rattle.alias_step.specs.Instructions.{written_by, check_created, begun, with_result, apply_instruction}
use Rattle.alias_step.specs.Instructions.{intern_reported, context_with, apply_signature_with, apply_signature}
use Rattle.alias_step.specs.Expansions.{called_function, expansion_of_called, signature_of_type, expansion_of_config}
use Rattle.alias_step.specs.Operands.{Call}
use Rattle.alias_step_laws.specs.steps.KeepingLaws.{keeps_intern_and_apply_plain, keeps_inner_effect, keeps_effect}
use Rattle.alias_effects_laws.specs.writes.Telling.{LeadsTo, All, Tells, tells_nothing, tells_after, tells_before}
use Rattle.alias_effects_laws.specs.writes.Telling.{tells_each}
use Rattle.alias_effects_laws.specs.writes.Writes.{Write, over_each, write_of, plain_writes, list_writes}
use Rattle.alias_effects_laws.specs.writes.Writes.{summary_writes, inner_call_writes_by, inner_call_writes}
use Rattle.alias_effects_laws.specs.writes.Writes.{inner_writes, legacy_writes, config_writes, compatible_writes}
use Rattle.alias_effects_laws.specs.writes.Writes.{signature_writes, call_writes_by, call_writes, effect_writes}
use Rattle.alias_effects_laws.specs.writes.Writes.{writes_of_effects, writes_with, instruction_writes, is_protected}
use Rattle.alias_effects_laws.specs.writes.Writes.{is_forbidden, is_write_error, has_write_error}

-- ---- lists

more_of : (a b c : Bool) → (a || b) ≡ true → (b ≡ true → c ≡ true) → (a || c) ≡ true
more_of true b c h f = refl
more_of false b c h f = f h

pub or_true : (a b : Bool) → b ≡ true → (a || b) ≡ true
or_true true b h = refl
or_true false b h = h

pub any_more : {X : Type 0} (p : X → Bool) (xs ys : List X) → list_any p xs ≡ true → list_any p (xs ++ ys) ≡ true
any_more p [] ys h = cc
any_more p (x ∷ xs) ys h = more_of (p x) (list_any p xs) (list_any p (xs ++ ys)) h (any_more p xs ys)

pub any_last : {X : Type 0} (p : X → Bool) (xs : List X) (x : X) → p x ≡ true → list_any p (xs ++ x ∷ []) ≡ true
any_last p [] x h = ap (λ b. b || false) h
any_last p (y ∷ xs) x h = or_true (p y) (list_any p (xs ++ x ∷ [])) (any_last p xs x h)

-- ---- the interned effect of a key

first_tied : (a b : Ordering) → is_eq (ordering_then a b) ≡ true → is_eq a ≡ true
first_tied Less b h = h
first_tied Equal b h = refl
first_tied Greater b h = h

same_first : (x y : IdentifierId) (d e : ℕ) → is_eq (ordering_then (nat_cmp x.0 y.0) (nat_cmp d e)) ≡ true
    → (x.0 == y.0) ≡ true
same_first x y d e h = sym (unsigned_tied x.0 y.0) ∙ first_tied (nat_cmp x.0 y.0) (nat_cmp d e) h

step_has : {V : Type 0} (b : Bool) (test : V → Bool) (e z : V) (o : Option V) → (b ≡ true → test e ≡ true)
    → (o ≡ Some z → test z ≡ true) → (if b then Some e else o) ≡ Some z → test z ≡ true
step_has true test e z o f g h = let is : e ≡ z = cc in subst (λ x. test x ≡ true) is (f refl)
step_has false test e z o f g h = g h

first_has_key : (k : EffectKey) (es : List AliasingEffect) (z : AliasingEffect) → first_like k es ≡ Some z
    → has_key same_key key_of k z ≡ true
first_has_key k [] z h = cc
first_has_key k (e ∷ es) z h = step_has (has_key same_key key_of k e) (has_key same_key key_of k) e z (first_like k es)
    (λ b. b) (first_has_key k es z) h

-- the interned effect of the key of an error is the error of the same identifier
abbrev frozen_key : IdentifierId → ReportId → EffectKey
frozen_key x d = key.MutateFrozen x d.identity

abbrev global_key : IdentifierId → ReportId → EffectKey
global_key x d = key.MutateGlobal x d.identity

frozen_first : (v : Place) (d : ReportId) (f : AliasingEffect) → has_key same_key key_of (frozen_key v.identifier d) f
    ≡ true → is_write_error v.identifier (with_error_of f (effect.MutateFrozen v d)) ≡ true
frozen_first v d (effect.MutateFrozen p error) h = same_first p.identifier v.identifier error.identity d.identity h
frozen_first v d f h = cc

global_first : (v : Place) (d : ReportId) (f : AliasingEffect) → has_key same_key key_of (global_key v.identifier d) f
    ≡ true → is_write_error v.identifier (with_error_of f (effect.MutateGlobal v d)) ≡ true
global_first v d (effect.MutateGlobal p error) h = same_first p.identifier v.identifier error.identity d.identity h
global_first v d f h = cc

-- the effect is the error of a write of the identifier
abbrev IsErrorOf : IdentifierId → AliasingEffect → Type 0
IsErrorOf x e = is_write_error x e ≡ true

sound_first : (x : IdentifierId) (e : AliasingEffect) (o : Option AliasingEffect) → IsErrorOf x e
    → ((f : AliasingEffect) → o ≡ Some f → IsErrorOf x (with_error_of f e)) → Sound (IsErrorOf x) (intern_after o e)
sound_first x e None h g t u y i = subst (IsErrorOf x) (first_is e y (record t { first = t.first ++ e ∷ [] }) u i) h
sound_first x e (Some f) h g t u y i = subst (IsErrorOf x) (first_is (with_error_of f e) y t u i) (g f refl)

sound_frozen : (v : Place) (d : ReportId) → Sound (IsErrorOf v.identifier) (intern (effect.MutateFrozen v d))
sound_frozen v d t =
    sound_first v.identifier (effect.MutateFrozen v d) (first_like (frozen_key v.identifier d) t.first)
    (eq-eqb v.identifier.0 v.identifier.0 refl)
    (λ f i. frozen_first v d f (first_has_key (frozen_key v.identifier d) t.first f i)) t

sound_global : (v : Place) (d : ReportId) → Sound (IsErrorOf v.identifier) (intern (effect.MutateGlobal v d))
sound_global v d t =
    sound_first v.identifier (effect.MutateGlobal v d) (first_like (global_key v.identifier d) t.first)
    (eq-eqb v.identifier.0 v.identifier.0 refl)
    (λ f i. global_first v d f (first_has_key (global_key v.identifier d) t.first f i)) t

-- ---- a forbidden write is reported

-- the error of a write of the identifier is recorded
abbrev Errs : IdentifierId → StepProgress → Type 0
Errs x s = has_write_error x s.recorded ≡ true

errs_leaf : (x : IdentifierId) (e : AliasingEffect) (s : StepProgress) → IsErrorOf x e → Errs x (apply_leaf e s)
errs_leaf x (effect.MutateFrozen p error) s h = any_last (is_write_error x) s.recorded (effect.MutateFrozen p error) h
errs_leaf x (effect.MutateGlobal p error) s h = any_last (is_write_error x) s.recorded (effect.MutateGlobal p error) h
errs_leaf x e s h = cc

errs_raised : (x : IdentifierId) (e : AliasingEffect) (s : StepProgress) → Sound (IsErrorOf x) (intern e)
    → Sound (Errs x) (intern_and_apply_leaf e s)
errs_raised x e s h = sound_then (IsErrorOf x) (Errs x) (intern e) (λ f. gives (apply_leaf f s)) h
    (λ f i. sound_gives (Errs x) (apply_leaf f s) (errs_leaf x f s i))

errs_frozen : (r : Report) (v : Place) (s : StepProgress)
    → Sound (Errs v.identifier) (intern_and_apply_mutate_frozen r v s)
errs_frozen r v s = sound_after (Errs v.identifier) (intern_report v.identifier r) _
    (λ d. errs_raised v.identifier (effect.MutateFrozen v d) s (sound_frozen v d))

errs_global : (r : Report) (v : Place) (s : StepProgress)
    → Sound (Errs v.identifier) (intern_and_apply_mutate_global r v s)
errs_global r v s = sound_after (Errs v.identifier) (intern_report v.identifier r) _
    (λ d. errs_raised v.identifier (effect.MutateGlobal v d) s (sound_global v d))

absurd_and : {X : Type 0} (b : Bool) → (b && false) ≡ true → X
absurd_and true h = cc
absurd_and false h = cc

and_first : (b : Bool) → (b && true) ≡ true → b ≡ true
and_first true h = refl
and_first false h = h

module _ (c : StepContext) where
  errs_write : (there : AbstractValue) (v : Place) (s : StepProgress)
      → Sound (Errs v.identifier) (report_write c there v s)
  errs_write there v s =
      let r = write_report c.env v.identifier v.span there.reason in
      sound_if (Errs v.identifier) (is_frozen there.kind) _ _ (errs_frozen r v s) (errs_global r v s)

  errs_hoisted : (o : Option (Option Place)) (there : AbstractValue) (v : Place) (s : StepProgress)
      → Sound (Errs v.identifier) (report_hoisted_write c o there v s)
  errs_hoisted (Some access) there v s = errs_frozen (hoisting_report c.env v.identifier v.span access) v s
  errs_hoisted None there v s = errs_write there v s

  errs_mutation : (k : ValueKind) (there : AbstractValue) (e : AliasingEffect) (v : Place) (s : StepProgress)
      → is_protected k ≡ true → Sound (Errs v.identifier) (record_mutation c k there e v s)
  errs_mutation Frozen there e v s h = errs_hoisted (hoisted_access c v.identifier) there v s
  errs_mutation MaybeFrozen there e v s h = errs_hoisted (hoisted_access c v.identifier) there v s
  errs_mutation Global there e v s h = errs_write there v s
  errs_mutation k there e v s h = cc

  errs_unless : (b : Bool) (k : ValueKind) (there : AbstractValue) (e : AliasingEffect) (v : Place) (s u : StepProgress)
      → (is_protected k && not b) ≡ true → Sound (Errs v.identifier)
      (if b then gives s else record_mutation c k there e v u)
  errs_unless true k there e v s u h = absurd_and (is_protected k) h
  errs_unless false k there e v s u h = errs_mutation k there e v u (and_first (is_protected k) h)

  errs_mutate : (e : AliasingEffect) (v : Place) (s : StepProgress)
      → is_forbidden c.env (record { place = v; state = s.state }) ≡ true
      → Sound (Errs v.identifier) (apply_mutate c e v s)
  errs_mutate e v s h = errs_unless (is_ref_at c.env v.identifier) (kind_at v s) (lookup s.state v.identifier) e v s
      (looked_up_with_span v s) h

  -- ---- what steps come to

  -- if the write isn't allowed, its error is recorded
  abbrev pub ReportedFor : List AliasingEffect → Write → Type 0
  ReportedFor recorded w = is_forbidden c.env w ≡ true → has_write_error w.place.identifier recorded ≡ true

  abbrev pub AllReported : List Write → List AliasingEffect → Type 0
  AllReported ws recorded = AllByRecursion (ReportedFor recorded) ws

  all_reported_more : (e : AliasingEffect) (ws : List Write) (recorded : List AliasingEffect) → AllReported ws recorded
      → AllReported ws (recorded ++ e ∷ [])
  all_reported_more e [] recorded h = tt
  all_reported_more e (w ∷ ws) recorded h = (
    (λ f. any_more (is_write_error w.place.identifier) recorded (e ∷ []) (h.0 f)),
    all_reported_more e ws recorded h.1,
  )

  -- each forbidden write that the step comes to is told in what it gives
  abbrev pub Reported : StepProgress → Write → Type 0
  Reported s w = ReportedFor s.recorded w

  abbrev pub TellsWrites : Step StepProgress → (TableLists → List Write) → Type 0
  TellsWrites f writes = Tells Reported f writes

  -- ---- effects

  tells_plain : (e : AliasingEffect) (s : StepProgress)
      → TellsWrites (apply_plain c e s) (λ t. write_of (written_by e) s.state)
  tells_plain (effect.Mutate v r) s t u y h = ((λ f. errs_mutate (effect.Mutate v r) v s f t u y h), tt)
  tells_plain (effect.MutateTransitive v) s t u y h = ((λ f. errs_mutate (effect.MutateTransitive v) v s f t u y h), tt)
  tells_plain e s t u y h = tt

  tells_intern_and_apply_plain : (e : AliasingEffect) (s : StepProgress)
      → TellsWrites (intern_and_apply_plain c e s) (plain_writes e s)
  tells_intern_and_apply_plain e s = tells_after Reported (intern e) (λ first. apply_plain c first s)
      (λ first t. write_of (written_by first) s.state) (λ first. tells_plain first s)

  tells_list : (es : List AliasingEffect) (s : StepProgress)
      → TellsWrites (intern_and_apply_all_plain c es s) (list_writes c es s)
  tells_list = tells_each Reported (intern_and_apply_plain c) plain_writes tells_intern_and_apply_plain
      (λ ws. keeps_intern_and_apply_plain (AllReported ws) (λ e other es. all_reported_more e ws es) c)

  -- ---- calls

  tells_by_summary : (call : Call) (list : List AliasingEffect) (s : StepProgress)
      → TellsWrites (apply_by_summary c call list s) (summary_writes c call list s)
  tells_by_summary call list s = tells_after Reported
      (intern_and_apply_simple c (effect.MutateTransitiveConditionally call.function) s)
      (intern_and_apply_all_plain c list) (list_writes c list) (tells_list list)

  tells_inner_call_by : (o : Collected) (call : Call) (s : StepProgress)
      → TellsWrites (apply_inner_call_by c o call s) (inner_call_writes_by c o call s)
  tells_inner_call_by (Some list) call s = tells_by_summary call list s
  tells_inner_call_by None call s = tells_nothing Reported (apply_inner_call_by c None call s)

  tells_inner_call : (call : Call) (s : StepProgress)
      → TellsWrites (apply_inner_call c call s) (inner_call_writes c call s)
  tells_inner_call call s =
      tells_after Reported (expansion_of_called c.env call (called_function s.state call.function))
      (λ list. apply_inner_call_by c list call s) (λ list. inner_call_writes_by c list call s)
      (λ list. tells_inner_call_by list call s)

  tells_inner_effect : (e : AliasingEffect) (s : StepProgress)
      → TellsWrites (apply_inner_effect c e s) (inner_writes c e s)
  tells_inner_effect (effect.Apply receiver function mutates args into signature span) s =
      tells_inner_call (call_of receiver function mutates args into span) s
  tells_inner_effect e s = tells_intern_and_apply_plain e s

  tells_inner_effects : (es : List AliasingEffect) (s : StepProgress)
      → TellsWrites (each (apply_inner_effect c) es s) (over_each (apply_inner_effect c) (inner_writes c) es s)
  tells_inner_effects = tells_each Reported (apply_inner_effect c) (inner_writes c) tells_inner_effect
      (λ ws. keeps_inner_effect (AllReported ws) (λ e other es. all_reported_more e ws es) c)

  tells_by_legacy : (signature : FunctionSignature) (call : Call) (s : StepProgress)
      → TellsWrites (apply_by_legacy c signature call s) (legacy_writes c signature call s)
  tells_by_legacy signature call s =
      tells_after Reported (legacy_expansion c.env signature call.site call.args s.state)
      (λ legacy. intern_and_apply_all_plain c legacy.effects (with_missing legacy.missing s))
      (λ legacy. list_writes c legacy.effects (with_missing legacy.missing s))
      (λ legacy. tells_list legacy.effects (with_missing legacy.missing s))

  tells_by_config : (o : Collected) (signature : FunctionSignature) (call : Call) (s : StepProgress)
      → TellsWrites (apply_by_config c o signature call s) (config_writes c o signature call s)
  tells_by_config (Some list) signature call s = tells_inner_effects list s
  tells_by_config None signature call s = tells_by_legacy signature call s

  tells_compatible : (o : Option (List ℕ)) (signature : FunctionSignature) (call : Call) (s : StepProgress)
      → TellsWrites (apply_compatible c o signature call s) (compatible_writes c o signature call s)
  tells_compatible (Some text) signature call s =
      tells_nothing Reported (apply_compatible c (Some text) signature call s)
  tells_compatible None signature call s =
      tells_after Reported (expansion_of_config c.env call signature.aliasing)
      (λ list. apply_by_config c list signature call s) (λ list. config_writes c list signature call s)
      (λ list. tells_by_config list signature call s)

  tells_by_signature : (o : Option FunctionSignature) (call : Call) (s : StepProgress)
      → TellsWrites (apply_by_signature c o call s) (signature_writes c o call s)
  tells_by_signature (Some signature) call s = tells_compatible (incompatible c signature) signature call s
  tells_by_signature None call s = tells_nothing Reported (apply_by_signature c None call s)

  tells_call_by : (o : Collected) (signature : Option TypeId) (call : Call) (s : StepProgress)
      → TellsWrites (apply_call_by c o signature call s) (call_writes_by c o signature call s)
  tells_call_by (Some list) signature call s = tells_by_summary call list s
  tells_call_by None signature call s = tells_by_signature (signature_of_type c.env signature) call s

  tells_call : (signature : Option TypeId) (call : Call) (s : StepProgress)
      → TellsWrites (apply_call c signature call s) (call_writes c signature call s)
  tells_call signature call s =
      tells_after Reported (expansion_of_called c.env call (called_function s.state call.function))
      (λ list. apply_call_by c list signature call s) (λ list. call_writes_by c list signature call s)
      (λ list. tells_call_by list signature call s)

  tells_effect : (e : AliasingEffect) (s : StepProgress) → TellsWrites (apply_effect c e s) (effect_writes c e s)
  tells_effect (effect.Apply receiver function mutates args into signature span) s =
      tells_call signature (call_of receiver function mutates args into span) s
  tells_effect e s = tells_intern_and_apply_plain e s

  tells_effects : (es : List AliasingEffect) (s : StepProgress)
      → TellsWrites (apply_effects c es s) (over_each (apply_effect c) (effect_writes c) es s)
  tells_effects = tells_each Reported (apply_effect c) (effect_writes c) tells_effect
      (λ ws. keeps_effect (AllReported ws) (λ e other es. all_reported_more e ws es) c)

  -- ---- instructions

  reported_with_result : (ws : List Write) (b : Bool) (x : IdentifierId) (s : StepProgress) → AllReported ws s.recorded
      → AllReported ws (with_result b x s).recorded
  reported_with_result ws true x s h = h
  reported_with_result ws false x s h = h

  abbrev finish : IdentifierId → StepProgress → Step StepProgress
  finish x u = gives (with_result (is_some (sites_of u.state x)) x u)

  finish_keeps : (x : IdentifierId) (ws : List Write) (s : StepProgress) → AllReported ws s.recorded
      → LeadsTo (All Reported ws) (finish x s)
  finish_keeps x ws s h = sound_gives (λ (v : StepProgress). AllReported ws v.recorded)
      (with_result (is_some (sites_of s.state x)) x s) (reported_with_result ws (is_some (sites_of s.state x)) x s h)

  tells_applied : (effects : List AliasingEffect) (x : IdentifierId) (t : StepProgress)
      → TellsWrites (apply_effects c effects t >>= finish x) (over_each (apply_effect c) (effect_writes c) effects t)
  tells_applied effects x t = tells_before Reported (apply_effects c effects t)
      (over_each (apply_effect c) (effect_writes c) effects t) (finish x) (tells_effects effects t) (finish_keeps x)

  tells_instruction : (f : Option FunctionId) (effects : List AliasingEffect) (x : IdentifierId) (s : StepProgress)
      → TellsWrites (apply_instruction c f effects x s) (writes_of_effects c f effects s)
  tells_instruction f effects x s = tells_after Reported (check_created c f (begun s))
      (λ t. apply_effects c effects t >>= finish x) (over_each (apply_effect c) (effect_writes c) effects)
      (tells_applied effects x)

-- what the step of an instruction writes for certain and isn't to be written, it records as an error
pub tells_signature : (env : Environment) (facts : FunctionFacts) (i : Instruction) (s : StepProgress)
    → TellsWrites (context_with env facts) (apply_signature env facts i s) (instruction_writes env facts i s)
tells_signature env facts i s =
    tells_after (Reported (context_with env facts)) (intern_reported (instruction_report i.value i.span))
    (λ error. apply_signature_with env facts i error s) (λ error. writes_with env facts i error s)
    (λ error. tells_instruction (context_with env facts) (created i.value) (signature_of (known env facts error) i)
    i.lvalue.identifier s)
