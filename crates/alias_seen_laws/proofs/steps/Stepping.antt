-- The steps of calls are the same beside.
use Rattle.std.specs.Prelude.{◌≡◌, ℕ, if◌then◌else◌, false, ◌&&◌, not, List, [], ◌∷◌, Option, None, Some}
use Rattle.std.specs.Prelude.{refl}
use Rattle.std.specs.List.{AllByRecursion}
use Rattle.alias_base.specs.declared.ids.TypeId.{TypeId}
use Rattle.alias_hir.specs.Types.{is_builtin_collection_at}
use Rattle.alias_hir.specs.declared.effect.AliasingEffect.{AliasingEffect}
use Rattle.alias_hir.specs.declared.effect.AliasingEffect.TheVariants as effect
use Rattle.alias_hir.specs.declared.effect.ValueKind.TheVariants.{Mutable}
use Rattle.alias_hir.specs.declared.effect.ValueReason.TheVariants.{Other}
use Rattle.alias_hir.specs.declared.place.Place.{Place}
use Rattle.alias_hir.specs.declared.place.PlaceOrSpreadOrHole.{PlaceOrSpreadOrHole}
use Rattle.alias_hir.specs.declared.place.PlaceOrSpreadOrHole.TheVariants as arg
use Rattle.alias_hir.specs.declared.signature.FunctionSignature.{FunctionSignature}
use Rattle.alias_tables.specs.Steps.{gives}
use Rattle.alias_tables.specs.Tables.{TableLists}
use Rattle.alias_tables.specs.declared.faults.Refusal.TheVariants.{IncompatibleLibrary}
use Rattle.alias_apply.specs.Apply.{intern_and_apply_simple, intern_and_apply_all_plain}
use Rattle.alias_apply.specs.Contexts.{StepContext}
use Rattle.alias_apply.specs.Progress.{first_missing}
use Rattle.alias_apply.specs.Reports.{incompatible_report}
use Rattle.alias_apply.specs.declared.progress.StepProgress.{StepProgress}
use Rattle.alias_calls.specs.Copies.{Collected}
use Rattle.alias_calls.specs.Legacy.{legacy_expansion}
use Rattle.alias_step.specs.Calls.{call_of, with_missing, apply_by_summary, apply_inner_call_by, apply_inner_call}
use Rattle.alias_step.specs.Calls.{apply_inner_effect, apply_inner_effects, apply_by_legacy, apply_by_config}
use Rattle.alias_step.specs.Calls.{incompatible, apply_compatible, apply_by_signature, apply_call_by, apply_call}
use Rattle.alias_step.specs.Calls.{apply_effect, apply_effects}
use Rattle.alias_step.specs.Defaults.{mutate_operand, iterate_operand, capture_operand, capture_operand_in_each}
use Rattle.alias_step.specs.Defaults.{apply_operand, apply_operands, apply_by_default}
use Rattle.alias_step.specs.Expansions.{called_function}
use Rattle.alias_step.specs.Expansions.{expansion_of_called, signature_of_type, expansion_of_config}
use Rattle.alias_step.specs.Operands.{Call, same_place, operands}
use Rattle.alias_step.specs.declared.call.Operand.{Operand}
use Rattle.alias_walks.specs.Expanding.{LegacyKnown}
use Rattle.alias_walks.specs.Expanding.{legacy_expansion_known}
use Rattle.alias_walks.specs.Knowing.{Known, AllKnown, known_later, all_known_later, of_place, of_pair}
use Rattle.alias_walks.specs.Law.{Law}
use Rattle.alias_walks.specs.Words.{IfGiven}
use Rattle.alias_lattice.specs.States.{lookup}
use Rattle.std.specs.Prelude.{option_and_then}
use Rattle.std.proofs.Common.{ap, ◌∙◌}
use Rattle.alias_lattice.specs.States.{missing_lookup}
use Rattle.alias_lattice.specs.declared.lookup.MissingLookup.{MissingLookup}
use Rattle.alias_tables.specs.Steps.{◌>>=◌}
use Rattle.alias_calls.specs.Immutable.{is_still, answered_by, verdict, verdict_by, signature_at, verdict_of, checked}
use Rattle.alias_calls.specs.Immutable.{unless_answered, immutables}
use Rattle.alias_calls.specs.Legacy.{with_impure, return_reason, legacy_after, asked}
use Rattle.alias_calls.specs.declared.immutable.Checked.{Checked}
use Rattle.alias_calls.specs.declared.immutable.Verdict.{Verdict}
use Rattle.alias_seen_laws.specs.Beside.{Others}
use Rattle.alias_hir.specs.Tables.{function_signature}
use Rattle.alias_hir.specs.declared.types.Ty.{Ty}
use Rattle.alias_tables.specs.Tables.{Step}
use Rattle.alias_calls.specs.declared.legacy.Legacy.{Legacy}
use Rattle.alias_seen_laws.proofs.same.Calling.{of_config_same, legacy_after_same}
use Rattle.alias_seen_laws.proofs.same.Identifiers.{type_same, collection_same}
use Rattle.alias_seen_laws.proofs.same.Writing.{beside}
use Rattle.alias_seen_laws.proofs.steps.Applying.{Sees, Twice, simple_twice, plain_twice, all_plain_twice}
use Rattle.alias_seen_laws.proofs.steps.Both.{both_gives, both_refuses, both_then, both_if, both_each}
use Rattle.alias_seen_laws.proofs.steps.Calling.{call_grows, call_known, config_known, OperandKnown, operands_grow}
use Rattle.alias_seen_laws.proofs.steps.Calling.{operands_known, called_list_twice}
use Rattle.alias_walks.specs.Stepping.{CallKnown}

module _ (c : StepContext) (L : Law c.env) (z : Others) (S : Sees L z) where
  abbrev d : StepContext
  d = beside c z

  simple : (e : AliasingEffect) (s : StepProgress) (t : TableLists) → L.Kept t → Known L t e → L.Here t s
      → Twice c L z S (intern_and_apply_simple c e s) (intern_and_apply_simple d e s) t
  simple e s t k n h = simple_twice c L z S e s t k n h

  stays : (s : StepProgress) (t : TableLists) → L.Kept t → L.Here t s → Twice c L z S (gives s) (gives s) t
  stays s t k h = both_gives L L.Here s t k h

  -- ---- by default

  mutated_operand : (call : Call) (o : Operand) (s : StepProgress) (t : TableLists) → L.Kept t → OperandKnown L t o
      → L.Here t s → Twice c L z S (mutate_operand c call o s) (mutate_operand d call o s) t
  mutated_operand call o s t k p h =
      both_if L L.Here (same_place o.place call.function && not call.mutates_function) (gives s) (gives s) _ _ t
      (stays s t k h)
      (simple (effect.MutateTransitiveConditionally o.place) s t k (of_place L t o.place p) h)

  iterated_operand : (o : Operand) (s : StepProgress) (t : TableLists) → L.Kept t → OperandKnown L t o → L.Here t s
      → Twice c L z S (iterate_operand c o s) (iterate_operand d o s) t
  iterated_operand o s t k p h =
      let e = effect.MutateTransitiveConditionally o.place in
      let b : Twice c L z S (iterate_operand c o s)
      (if o.is_spread && not (is_builtin_collection_at c.env o.place.identifier) then intern_and_apply_simple d e s
      else gives s) t =
      both_if L L.Here (o.is_spread && not (is_builtin_collection_at c.env o.place.identifier))
      (intern_and_apply_simple c e s) (intern_and_apply_simple d e s) (gives s) (gives s) t
      (simple e s t k (of_place L t o.place p) h) (stays s t k h) in
      record {
        leads = b.leads;
        same =
            ap (λ is. let q : Step StepProgress = if o.is_spread && not is then intern_and_apply_simple d e s
            else gives s in q t) (collection_same c.env z S.declares o.place.identifier) ∙ b.same;
      }

  captured_operand : (o other : Operand) (s : StepProgress) (t : TableLists) → L.Kept t → OperandKnown L t o
      → OperandKnown L t other → L.Here t s
      → Twice c L z S (capture_operand c o other s) (capture_operand d o other s) t
  captured_operand o other s t k p q h =
      both_if L L.Here (same_place other.place o.place && not o.is_spread) (gives s) (gives s) _ _ t (stays s t k h)
      (simple (effect.Capture o.place other.place) s t k (of_pair L t o.place other.place p q) h)

  captured_in_each : (o : Operand) (os : List Operand) (s : StepProgress) (t : TableLists) → L.Kept t
      → OperandKnown L t o → AllByRecursion (OperandKnown L t) os → L.Here t s
      → Twice c L z S (capture_operand_in_each c o os s) (capture_operand_in_each d o os s) t
  captured_in_each o [] s t k p q h = stays s t k h
  captured_in_each o (other ∷ os) s t k p q h =
      both_then L L.Here L.Here (capture_operand c o other s) (capture_operand d o other s)
      (capture_operand_in_each c o os) (capture_operand_in_each d o os) t
      (captured_operand o other s t k p q.0 h)
      (λ w u x l i. captured_in_each o os w u l (L.raised_later t u x o.place p) (operands_grow L t u x os q.1) i)

  operand_known : (call : Call) (all : List Operand) (o : Operand) (s : StepProgress) (t : TableLists)
      → L.Kept t → CallKnown L t call → AllByRecursion (OperandKnown L t) all → OperandKnown L t o → L.Here t s
      → Twice c L z S (apply_operand c call all o s) (apply_operand d call all o s) t
  operand_known call all o s t k h a p g =
      both_then L L.Here L.Here (mutate_operand c call o s) (mutate_operand d call o s) _ _ t
      (mutated_operand call o s t k p g) (λ s1 t1 x1 k1 g1.
      let p1 = L.raised_later t t1 x1 o.place p in
      both_then L L.Here L.Here (iterate_operand c o s1) (iterate_operand d o s1) _ _ t1
      (iterated_operand o s1 t1 k1 p1 g1) (λ s2 t2 x2 k2 g2.
      let p2 = L.raised_later t1 t2 x2 o.place p1 in
      let i2 = L.raised_later t1 t2 x2 call.site.into (L.raised_later t t1 x1 call.site.into h.into) in
      both_then L L.Here L.Here (intern_and_apply_simple c (effect.MaybeAlias o.place call.site.into) s2)
      (intern_and_apply_simple d (effect.MaybeAlias o.place call.site.into) s2)
      (capture_operand_in_each c o all) (capture_operand_in_each d o all) t2
      (simple (effect.MaybeAlias o.place call.site.into) s2 t2 k2 (of_pair L t2 o.place call.site.into p2 i2)
      g2) (λ s3 t3 x3 k3 g3.
      captured_in_each o all s3 t3 k3 (L.raised_later t2 t3 x3 o.place p2)
      (operands_grow L t2 t3 x3 all (operands_grow L t1 t2 x2 all (operands_grow L t t1 x1 all a))) g3)))

  operands_applied : (call : Call) (all os : List Operand) (s : StepProgress) (t : TableLists)
      → L.Kept t → CallKnown L t call → AllByRecursion (OperandKnown L t) all → AllByRecursion (OperandKnown L t) os
      → L.Here t s → Twice c L z S (apply_operands c call all os s) (apply_operands d call all os s) t
  operands_applied call all [] s t k h a p g = stays s t k g
  operands_applied call all (o ∷ os) s t k h a p g =
      both_then L L.Here L.Here (apply_operand c call all o s) (apply_operand d call all o s)
      (apply_operands c call all os) (apply_operands d call all os) t
      (operand_known call all o s t k h a p.0 g)
      (λ w u x l i. operands_applied call all os w u l (call_grows L t u x call h) (operands_grow L t u x all a)
      (operands_grow L t u x os p.1) i)

  by_default : (call : Call) (s : StepProgress) (t : TableLists) → L.Kept t → CallKnown L t call → L.Here t s
      → Twice c L z S (apply_by_default c call s) (apply_by_default d call s) t
  by_default call s t k h g =
      both_then L L.Here L.Here (intern_and_apply_simple c (effect.Create call.site.into Mutable Other) s)
      (intern_and_apply_simple d (effect.Create call.site.into Mutable Other) s) _ _ t
      (simple (effect.Create call.site.into Mutable Other) s t k (of_place L t call.site.into h.into) g)
      (λ w u x l i. let m = call_grows L t u x call h in
      operands_applied call (operands call) (operands call) w u l m (operands_known L u call m)
      (operands_known L u call m) i)

  -- ---- by a summary

  by_summary : (call : Call) (list : List AliasingEffect) (s : StepProgress) (t : TableLists) → L.Kept t
      → CallKnown L t call → AllKnown L t list → L.Here t s
      → Twice c L z S (apply_by_summary c call list s) (apply_by_summary d call list s) t
  by_summary call list s t k h o g =
      both_then L L.Here L.Here (intern_and_apply_simple c (effect.MutateTransitiveConditionally call.function) s)
      (intern_and_apply_simple d (effect.MutateTransitiveConditionally call.function) s)
      (intern_and_apply_all_plain c list) (intern_and_apply_all_plain d list) t
      (simple (effect.MutateTransitiveConditionally call.function) s t k (of_place L t call.function h.function) g)
      (λ w u x l i. all_plain_twice c L z S list w u l (all_known_later L t u x list o) i)

  -- ---- a call in the list of an aliasing part

  inner_call_by : (o : Collected) (call : Call) (s : StepProgress) (t : TableLists) → L.Kept t → CallKnown L t call
      → IfGiven (AllKnown L) t o → L.Here t s
      → Twice c L z S (apply_inner_call_by c o call s) (apply_inner_call_by d o call s) t
  inner_call_by (Some list) call s t k h o g = by_summary call list s t k h o g
  inner_call_by None call s t k h o g = by_default call s t k h g

  inner_call : (call : Call) (s : StepProgress) (t : TableLists) → L.Kept t → CallKnown L t call → L.Here t s
      → Twice c L z S (apply_inner_call c call s) (apply_inner_call d call s) t
  inner_call call s t k h g =
      both_then L (IfGiven (AllKnown L)) L.Here (expansion_of_called c.env call (called_function s.state call.function))
      (expansion_of_called d.env call (called_function s.state call.function))
      (λ o. apply_inner_call_by c o call s) (λ o. apply_inner_call_by d o call s) t
      (called_list_twice L z S call (called_function s.state call.function) t k h (L.calls call.function s t g))
      (λ o u x l i. inner_call_by o call s u l (call_grows L t u x call h) i (L.here_later t u x s g))

  inner_effect : (e : AliasingEffect) (s : StepProgress) (t : TableLists) → L.Kept t → Known L t e → L.Here t s
      → Twice c L z S (apply_inner_effect c e s) (apply_inner_effect d e s) t
  inner_effect (effect.Apply receiver function mutates args into signature span) s t k g h =
      inner_call (call_of receiver function mutates args into span) s t k
      (call_known L receiver function mutates args into signature span t g) h
  inner_effect e s t k g h = plain_twice c L z S e s t k g h

  inner_effects : (es : List AliasingEffect) (s : StepProgress) (t : TableLists) → L.Kept t → AllKnown L t es
      → L.Here t s → Twice c L z S (apply_inner_effects c es s) (apply_inner_effects d es s) t
  inner_effects es s t k g h =
      both_each L (Known L) L.Here (apply_inner_effect c) (apply_inner_effect d) (known_later L)
      (λ e a u l i j. inner_effect e a u l i j) es s t k g h

  -- ---- by a signature

  -- the arguments are asked for what the sites of their places write
  verdict_same : (o : Option FunctionSignature) (s : StepProgress) (p : Place) (m : Option MissingLookup)
      (t : TableLists)
      → L.Here t s → verdict_by o d.env s.state p m ≡ verdict_by o c.env s.state p m
  verdict_same (Some signature) s p m t h = refl
  verdict_same None s p m t h =
      ap (λ b. verdict (answered_by (is_still (lookup s.state p.identifier).kind && not b))
      (first_missing m (missing_lookup s.state p.identifier None))) (S.writes p.identifier s t h)

  asked_of_each : (args : List PlaceOrSpreadOrHole) (s : StepProgress) (m : Option MissingLookup) (t : TableLists)
      → L.Here t s → immutables d.env s.state args m ≡ immutables c.env s.state args m
  asked_of_each [] s m t h = refl
  asked_of_each (a ∷ others) s m t h =
      ap (λ (v : Verdict). unless_answered v.answer v.missing (immutables d.env s.state others v.missing)) (of_one a)
      ∙ (let v = verdict_of c.env s.state a m in
      ap (λ (r : Checked). unless_answered v.answer v.missing r) (asked_of_each others s v.missing t h))
    where
      of_one : (a : PlaceOrSpreadOrHole) → verdict_of d.env s.state a m ≡ verdict_of c.env s.state a m
      of_one (arg.Place p) =
          ap (λ (o : Option FunctionSignature). verdict_by o d.env s.state p m)
          (ap (λ (o : Option Ty). option_and_then (function_signature c.env) o)
          (type_same c.env z S.declares p.identifier)) ∙ verdict_same (signature_at c.env p.identifier) s p m t h
      of_one (arg.Spread x) = verdict_same None s x.place m t h
      of_one arg.Hole = refl

  asked_same : (signature : FunctionSignature) (args : List PlaceOrSpreadOrHole) (s : StepProgress) (t : TableLists)
      → L.Here t s → asked d.env signature args s.state ≡ asked c.env signature args s.state
  asked_same signature args s t h = ap (λ (r : Checked). if signature.mutable_only_if_operands_are_mutable then r
      else checked false None) (asked_of_each args s None t h)

  by_legacy : (signature : FunctionSignature) (call : Call) (s : StepProgress) (t : TableLists) → L.Kept t
      → CallKnown L t call → L.Here t s
      → Twice c L z S (apply_by_legacy c signature call s) (apply_by_legacy d signature call s) t
  by_legacy signature call s t k h g =
      both_then L (LegacyKnown L) L.Here (legacy_expansion c.env signature call.site call.args s.state)
      (legacy_expansion d.env signature call.site call.args s.state)
      (λ l. intern_and_apply_all_plain c l.effects (with_missing l.missing s))
      (λ l. intern_and_apply_all_plain d l.effects (with_missing l.missing s)) t
      (record {
        leads = legacy_expansion_known L signature call.site call.args s.state t k (h.receiver, h.into) h.args;
        same =
            ap (λ (r : Checked).
            (with_impure c.env signature call.site
            (effect.Create call.site.into signature.return_value_kind (return_reason signature) ∷ [])
            >>= legacy_after d.env signature call.site call.args r) t) (asked_same signature call.args s t g)
            ∙ ap (λ (after : List AliasingEffect → Step Legacy).
            (with_impure c.env signature call.site
            (effect.Create call.site.into signature.return_value_kind (return_reason signature) ∷ []) >>= after) t)
            (λ i out. legacy_after_same c.env z S.declares signature call.site call.args
            (asked c.env signature call.args s.state) out i);
      })
      (λ l u x n i. all_plain_twice c L z S l.effects (with_missing l.missing s) u n i
      (L.misses (first_missing s.missing l.missing) s u (L.here_later t u x s g)))

  by_config : (o : Collected) (signature : FunctionSignature) (call : Call) (s : StepProgress) (t : TableLists)
      → L.Kept t → CallKnown L t call → IfGiven (AllKnown L) t o → L.Here t s
      → Twice c L z S (apply_by_config c o signature call s) (apply_by_config d o signature call s) t
  by_config (Some list) signature call s t k h o g = inner_effects list s t k o g
  by_config None signature call s t k h o g = by_legacy signature call s t k h g

  compatible : (o : Option (List ℕ)) (signature : FunctionSignature) (call : Call) (s : StepProgress) (t : TableLists)
      → L.Kept t → CallKnown L t call → L.Here t s
      → Twice c L z S (apply_compatible c o signature call s) (apply_compatible d o signature call s) t
  compatible (Some text) signature call s t k h g =
      both_refuses L L.Here (IncompatibleLibrary (incompatible_report call.site.receiver.span text)) t
  compatible None signature call s t k h g =
      both_then L (IfGiven (AllKnown L)) L.Here (expansion_of_config c.env call signature.aliasing)
      (expansion_of_config d.env call signature.aliasing)
      (λ o. apply_by_config c o signature call s) (λ o. apply_by_config d o signature call s) t
      (record {
        leads = config_known L call signature.aliasing t k h;
        same = ap (λ (q : Step Collected). q t) (of_config_same c.env z S.declares call signature.aliasing);
      })
      (λ o u x l i. by_config o signature call s u l (call_grows L t u x call h) i (L.here_later t u x s g))

  by_signature : (o : Option FunctionSignature) (call : Call) (s : StepProgress) (t : TableLists) → L.Kept t
      → CallKnown L t call → L.Here t s
      → Twice c L z S (apply_by_signature c o call s) (apply_by_signature d o call s) t
  by_signature (Some signature) call s t k h g = compatible (incompatible c signature) signature call s t k h g
  by_signature None call s t k h g = by_default call s t k h g

  -- ---- a call of an instruction

  call_by : (o : Collected) (signature : Option TypeId) (call : Call) (s : StepProgress) (t : TableLists) → L.Kept t
      → CallKnown L t call → IfGiven (AllKnown L) t o → L.Here t s
      → Twice c L z S (apply_call_by c o signature call s) (apply_call_by d o signature call s) t
  call_by (Some list) signature call s t k h o g = by_summary call list s t k h o g
  call_by None signature call s t k h o g = by_signature (signature_of_type c.env signature) call s t k h g

  call_applied : (signature : Option TypeId) (call : Call) (s : StepProgress) (t : TableLists) → L.Kept t
      → CallKnown L t call → L.Here t s
      → Twice c L z S (apply_call c signature call s) (apply_call d signature call s) t
  call_applied signature call s t k h g =
      both_then L (IfGiven (AllKnown L)) L.Here (expansion_of_called c.env call (called_function s.state call.function))
      (expansion_of_called d.env call (called_function s.state call.function))
      (λ o. apply_call_by c o signature call s) (λ o. apply_call_by d o signature call s) t
      (called_list_twice L z S call (called_function s.state call.function) t k h (L.calls call.function s t g))
      (λ o u x l i. call_by o signature call s u l (call_grows L t u x call h) i (L.here_later t u x s g))

  effect_applied : (e : AliasingEffect) (s : StepProgress) (t : TableLists) → L.Kept t → Known L t e → L.Here t s
      → Twice c L z S (apply_effect c e s) (apply_effect d e s) t
  effect_applied (effect.Apply receiver function mutates args into signature span) s t k g h =
      call_applied signature (call_of receiver function mutates args into span) s t k
      (call_known L receiver function mutates args into signature span t g) h
  effect_applied e s t k g h = plain_twice c L z S e s t k g h

  -- the steps of effects that name what is known
  pub effects_twice : (es : List AliasingEffect) (s : StepProgress) (t : TableLists) → L.Kept t → AllKnown L t es
      → L.Here t s → Twice c L z S (apply_effects c es s) (apply_effects d es s) t
  effects_twice es s t k g h =
      both_each L (Known L) L.Here (apply_effect c) (apply_effect d) (known_later L)
      (λ e a u l i j. effect_applied e a u l i j) es s t k g h
