-- The step of each effect but calls repeats, whatever interned effects and reports there are.
use Rattle.std.specs.Prelude.{◌≡◌, ◌||◌, refl, Bool, true, false, List, [], ◌∷◌, ◌++◌, Option, None, Some}
use Rattle.std.specs.Prelude.{if◌then◌else◌}
use Rattle.std.proofs.Common.{ap, sym, ◌∙◌, subst}
use Rattle.std.specs.List.{list_any}
use Rattle.alias_base.specs.declared.ids.FunctionId.{FunctionId}
use Rattle.alias_base.specs.declared.ids.IdentifierId.{IdentifierId}
use Rattle.alias_hir.specs.declared.effect.AliasingEffect.{AliasingEffect}
use Rattle.alias_hir.specs.declared.effect.AliasingEffect.TheVariants as effect
use Rattle.alias_hir.specs.declared.effect.ValueKind.{ValueKind}
use Rattle.alias_hir.specs.declared.effect.ValueKind.TheVariants.{Primitive, Global, Frozen, Mutable, Context}
use Rattle.alias_hir.specs.declared.effect.ValueKind.TheVariants.{MaybeFrozen}
use Rattle.alias_hir.specs.declared.effect.ValueReason.{ValueReason}
use Rattle.alias_hir.specs.declared.place.Place.{Place}
use Rattle.alias_hir.specs.declared.place.Span.{Span}
use Rattle.alias_hir.specs.declared.report.Report.{Report}
use Rattle.alias_hir.specs.Types.{is_ref_at}
use Rattle.alias_lattice.specs.declared.lookup.MissingLookup.{MissingLookup}
use Rattle.alias_lattice.specs.declared.site.Site.TheVariants.{AssignFrozen, AssignCopy, Created, CreatedFrom, Function}
use Rattle.alias_lattice.specs.declared.value.AbstractValue.{AbstractValue}
use Rattle.alias_lattice.specs.Reasons.{primary_reason}
use Rattle.alias_lattice.specs.States.{State, Sites, lookup, given, assigned, frozen, does_freeze, sites_of, missing_at}
use Rattle.alias_lattice.specs.States.{missing_lookup}
use Rattle.alias_apply.specs.freezing.Contexts.{context_of}
use Rattle.alias_apply.specs.freezing.Transitive.{place_frozen_transitively}
use Rattle.alias_tables.specs.Steps.{◌>>=◌, gives}
use Rattle.alias_tables.specs.Tables.{Step, intern}
use Rattle.alias_tables.specs.declared.faults.Refusal.TheVariants.{AliasBeforeCreate, Reinitialized}
use Rattle.alias_tables.specs.declared.temporaries.Temporary.{Temporary}
use Rattle.alias_apply.specs.declared.progress.StepProgress.{StepProgress}
use Rattle.alias_apply.specs.Contexts.{StepContext, hoisted_access, summary_of}
use Rattle.alias_apply.specs.Kinds.{is_constant, is_frozen, is_writable, may_be_frozen, captures, may_alias, value_with}
use Rattle.alias_apply.specs.Progress.{kind_at, is_made, made, first_missing, looked_up, looked_up_at}
use Rattle.alias_apply.specs.Progress.{looked_up_with_span, record_of, with_state}
use Rattle.alias_apply.specs.Leaves.{apply_leaf, intern_and_apply_leaf, apply_maybe_alias, apply_aliasing}
use Rattle.alias_apply.specs.Leaves.{intern_and_apply_aliasing}
use Rattle.alias_apply.specs.Values.{apply_create, record_create_from, apply_create_from, assign_value, apply_assign}
use Rattle.alias_apply.specs.Values.{apply_link, apply_alias}
use Rattle.alias_apply.specs.Mutation.{intern_and_apply_mutate_frozen, intern_and_apply_mutate_global, report_write}
use Rattle.alias_apply.specs.Mutation.{report_hoisted_write, record_mutation, apply_mutate, apply_mutate_conditionally}
use Rattle.alias_apply.specs.Mutation.{apply_freeze, freezes_on}
use Rattle.alias_apply.specs.Apply.{apply_simple, intern_and_apply_simple, is_read_capture, note_read_capture}
use Rattle.alias_apply.specs.Apply.{is_mutable_capture, has_error, is_mutable_function, function_value, capture_each}
use Rattle.alias_apply.specs.Apply.{apply_create_function, apply_plain, intern_and_apply_plain}
use Rattle.alias_apply.specs.Apply.{intern_and_apply_all_plain}
use Rattle.alias_certificate_laws.specs.accepting.Alike.{Paired, none, more, moved, AlikePlace, at, AlikePlaces, Alike}
use Rattle.alias_certificate_laws.specs.accepting.Alike.{apply, create_from, immutable_capture, assign, alias, capture}
use Rattle.alias_certificate_laws.specs.accepting.Alike.{maybe_alias, create, freeze, impure, mutate_frozen}
use Rattle.alias_certificate_laws.specs.accepting.Alike.{mutate_global, render, mutate, mutate_conditionally}
use Rattle.alias_certificate_laws.specs.accepting.Alike.{mutate_transitive, mutate_transitive_conditionally}
use Rattle.alias_certificate_laws.specs.accepting.Alike.{create_function, AlikeEffects, AlikeLookup, there, missing}
use Rattle.alias_certificate_laws.specs.accepting.Alike.{AlikeProgress, like, IsFull, Repeats, Elsewhere, elsewhere}
use Rattle.alias_certificate_laws.proofs.accepting.Elsewhere.{other, same_has_error, summary_elsewhere}
use Rattle.alias_certificate_laws.proofs.accepting.Elsewhere.{context_elsewhere, contexts_elsewhere}
use Rattle.alias_certificate_laws.proofs.accepting.Interning.{repeats_intern}
use Rattle.alias_certificate_laws.proofs.accepting.Likeness.{paired_append, paired_self, alike_self, progress_self}
use Rattle.alias_certificate_laws.proofs.accepting.Repeating.{repeats_gives, repeats_refuses, repeats_then, repeats_if}
use Rattle.alias_certificate_laws.proofs.accepting.Repeating.{repeats_each}
use Rattle.alias_certificate_laws.proofs.accepting.Tabling.{AnyNumber, repeats_report, repeats_noted}

-- ---- parts of a step

pub recorded_alike : (e f : AliasingEffect) (s t : StepProgress) → Alike e f → AlikeProgress s t
    → AlikeProgress (record_of e s) (record_of f t)
recorded_alike e f s t a (like u r m b l) = like (record_of e u) (r ++ f ∷ []) m (paired_append b (more a none)) l

missing_alike : (o : Option Sites) (x : IdentifierId) (a b : Option Span)
    → AlikeLookup (missing_at o x a) (missing_at o x b)
missing_alike None x a b = missing _ _
missing_alike (Some t) x a b = there

pub first_alike : (l m n o : Option MissingLookup) → AlikeLookup l m → AlikeLookup n o
    → AlikeLookup (first_missing l n) (first_missing m o)
first_alike l m n o there b = b
first_alike l m n o (missing x y) b = missing x y

pub looked_up_alike : (x : IdentifierId) (a b : Option Span) (s t : StepProgress) → AlikeProgress s t
    → AlikeProgress (looked_up x a s) (looked_up x b t)
looked_up_alike x a b s t (like u r m c l) =
    like (looked_up x a u) r (first_missing m (missing_lookup u.state x b)) c
    (first_alike u.missing m (missing_lookup u.state x a) (missing_lookup u.state x b) l
    (missing_alike (sites_of u.state x) x a b))

if_alike : (b : Bool) (s t u v : StepProgress) → AlikeProgress s t → AlikeProgress u v
    → AlikeProgress (if b then s else u) (if b then t else v)
if_alike true s t u v a b = a
if_alike false s t u v a b = b

leaf_alike : (e f : AliasingEffect) (s t : StepProgress) → Alike e f → AlikeProgress s t
    → AlikeProgress (apply_leaf e s) (apply_leaf f t)
leaf_alike e f s t (immutable_capture a b x y) (like u r m c l) =
    if_alike (is_constant (kind_at a u)) _ _ _ _ (looked_up_alike a.identifier None None u _ (like u r m c l))
    (recorded_alike (effect.ImmutableCapture a x) (effect.ImmutableCapture (moved a b) (moved x y)) _ _
    (immutable_capture a b x y) (looked_up_alike a.identifier None None u _ (like u r m c l)))
leaf_alike e f s t (impure p q d g) a = recorded_alike _ _ s t (impure p q d g) a
leaf_alike e f s t (mutate_frozen p q d g) a = recorded_alike _ _ s t (mutate_frozen p q d g) a
leaf_alike e f s t (mutate_global p q d g) a = recorded_alike _ _ s t (mutate_global p q d g) a
leaf_alike e f s t (render p q) a = recorded_alike _ _ s t (render p q) a
leaf_alike e f s t b a = a

both_looked_up : (a b x y : Place) (s t : StepProgress) → AlikeProgress s t
    → AlikeProgress (looked_up_with_span a (looked_up_with_span x s))
    (looked_up_with_span (moved a b) (looked_up_with_span (moved x y) t))
both_looked_up a b x y s t c = looked_up_alike a.identifier a.span b.span _ _
    (looked_up_alike x.identifier x.span y.span s t c)

-- the second step repeats the first
abbrev pub Same : List Temporary → Step StepProgress → Step StepProgress → Type 0
Same whole f g = Repeats IsFull whole AlikeProgress f g

-- a state that is made of the state
pub stated : (h : State → State) (s t : StepProgress) → AlikeProgress s t
    → AlikeProgress (with_state (h s.state) s) (with_state (h t.state) t)
stated h s t (like u r m a l) = like (with_state (h u.state) u) r m a l

module _ (c : StepContext) (o : Elsewhere c.env) where
  conditionally_alike : (e f : AliasingEffect) (v w : Place) (s t : StepProgress) → Alike e f → AlikeProgress s t
      → AlikeProgress (apply_mutate_conditionally c e v s) (apply_mutate_conditionally (other c o) f (moved v w) t)
  conditionally_alike e f v w s t b (like u r m a l) =
      let now = looked_up_alike v.identifier v.span w.span u _ (like u r m a l) in
      if_alike (is_ref_at c.env v.identifier) _ _ _ _ (like u r m a l)
      (if_alike (is_writable (kind_at v u)) _ _ _ _ (recorded_alike e f _ _ b now) now)

  freeze_alike : (v w : Place) (r : ValueReason) (s t : StepProgress) → AlikeProgress s t
      → AlikeProgress (apply_freeze c v r s) (apply_freeze (other c o) (moved v w) r t)
  freeze_alike v w r s t (like u q m a l) =
      let now = stated (frozen v.identifier r) u _ (like u q m a l) in
      let first : StepProgress = record_of (effect.Freeze v r) (with_state (frozen v.identifier r u.state) u) in
      let second : StepProgress = record_of (effect.Freeze (moved v w) r)
      (with_state (frozen v.identifier r u.state) (record u { recorded = q; missing = m })) in
      let claimed : AlikeProgress first second = recorded_alike _ _ _ _ (freeze v w r) now in
      let gone = subst (λ (z : FunctionId → List Place).
      AlikeProgress (with_state (place_frozen_transitively r (context_of c.env) v.identifier first.state) first)
      (with_state (place_frozen_transitively r z v.identifier second.state) second))
      (sym (contexts_elsewhere c.env o))
      (stated (place_frozen_transitively r (context_of c.env) v.identifier) first second claimed) in
      if_alike (does_freeze u.state v.identifier) _ _ _ _ (if_alike (freezes_on c.env.config) _ _ _ _ gone claimed) now

  any_mutable : (u : State) (ps qs : List Place) → AlikePlaces ps qs → list_any (is_mutable_capture u) ps
      ≡ list_any (is_mutable_capture u) qs
  any_mutable u ps qs none = refl
  any_mutable u ps qs (more {xs = xs} {ys = ys} (at p q) rest) =
      ap (λ b. is_mutable_capture u p || b) (any_mutable u xs ys rest)

  same_function : (f : FunctionId) (ps qs : List Place) (u : State) → AlikePlaces ps qs → is_mutable_function c f ps u
      ≡ is_mutable_function (other c o) f qs u
  same_function f ps qs u a =
      ap (λ b. b || has_error (summary_of c.env f)
      || list_any (λ (p : Place). is_ref_at c.env p.identifier) (context_of c.env f)) (any_mutable u ps qs a)
      ∙ ap (λ b. list_any (is_mutable_capture u) qs || b
      || list_any (λ (p : Place). is_ref_at c.env p.identifier) (context_of c.env f))
      (same_has_error _ _ (summary_elsewhere c.env o f))
      ∙ ap (λ zs. list_any (is_mutable_capture u) qs || has_error (summary_of (elsewhere c.env o) f)
      || list_any (λ (p : Place). is_ref_at c.env p.identifier) zs) (sym (context_elsewhere c.env o f))

  function_alike : (x : IdentifierId) (f : FunctionId) (ps qs : List Place) (s t : StepProgress) → AlikePlaces ps qs
      → AlikeProgress s t
      → AlikeProgress (with_state (given x (Function f) (function_value (is_mutable_function c f ps s.state)) s.state)
      s) (with_state (given x (Function f) (function_value (is_mutable_function (other c o) f qs t.state)) t.state)
      t)
  function_alike x f ps qs s t b (like u r m a l) =
      subst (λ v. AlikeProgress (with_state (given x (Function f) (function_value (is_mutable_function c f ps u.state))
      u.state) u) (with_state (given x (Function f) (function_value v) u.state)
      (record u { recorded = r; missing = m })))
      (same_function f ps qs u.state b)
      (stated (given x (Function f) (function_value (is_mutable_function c f ps u.state))) u _ (like u r m a l))

module _ {whole : List Temporary} where
  pub same_gives : (s t : StepProgress) → AlikeProgress s t → Same whole (gives s) (gives t)
  same_gives s t a = repeats_gives AlikeProgress s t a

  pub same_then : (f g : Step StepProgress) (h k : StepProgress → Step StepProgress) → Same whole f g
      → ((s t : StepProgress) → AlikeProgress s t → Same whole (h s) (k t)) → Same whole (f >>= h) (g >>= k)
  same_then f g h k a b = repeats_then AlikeProgress AlikeProgress progress_self f g h k a b

  pub same_if : (b : Bool) (f g h k : Step StepProgress) → Same whole f g → Same whole h k
      → Same whole (if b then f else h) (if b then g else k)
  same_if b f g h k a c = repeats_if AlikeProgress b f g h k a c

  -- an effect is interned, and then stepped
  raised : (h k : AliasingEffect → Step StepProgress) (e f : AliasingEffect) → Alike e f
      → ((x y : AliasingEffect) → Alike x y → Same whole (h x) (k y)) → Same whole (intern e >>= h) (intern f >>= k)
  raised h k e f a b = repeats_then Alike AlikeProgress alike_self (intern e) (intern f) h k (repeats_intern e f a) b

  same_made : (x : IdentifierId) (s t : StepProgress) → AlikeProgress s t → Same whole (made x s) (made x t)
  same_made x s t (like u r m a l) = same_if (is_made x u.made) _ _ _ _
      (repeats_refuses AlikeProgress (Reinitialized x) _)
      (same_gives _ _ (like (record u { made = u.made ++ x ∷ [] }) r m a l))

  -- ---- leaves

  pub same_intern_and_apply_leaf : (e f : AliasingEffect) (s t : StepProgress) → Alike e f → AlikeProgress s t
      → Same whole (intern_and_apply_leaf e s) (intern_and_apply_leaf f t)
  same_intern_and_apply_leaf e f s t a b = raised _ _ e f a (λ x y c. same_gives _ _ (leaf_alike x y s t c b))

  same_maybe_alias : (a b x y : Place) (s t : StepProgress) → AlikeProgress s t
      → Same whole (apply_maybe_alias a x s) (apply_maybe_alias (moved a b) (moved x y) t)
  same_maybe_alias a b x y s t (like u r m c l) =
      let now = both_looked_up a b x y u _ (like u r m c l) in
      same_if (may_be_frozen (kind_at a u)) _ _ _ _ (same_intern_and_apply_leaf _ _ _ _ (immutable_capture a b x y) now)
      (same_gives _ _ (recorded_alike _ _ _ _ (maybe_alias a b x y) now))

  same_aliasing : (e f : AliasingEffect) (s t : StepProgress) → Alike e f → AlikeProgress s t
      → Same whole (apply_aliasing e s) (apply_aliasing f t)
  same_aliasing e f s t (maybe_alias a b x y) c = same_maybe_alias a b x y s t c
  same_aliasing e f s t a c = same_gives _ _ (leaf_alike e f s t a c)

  same_intern_and_apply_aliasing : (e f : AliasingEffect) (s t : StepProgress) → Alike e f → AlikeProgress s t
      → Same whole (intern_and_apply_aliasing e s) (intern_and_apply_aliasing f t)
  same_intern_and_apply_aliasing e f s t a b = raised _ _ e f a (λ x y c. same_aliasing x y s t c b)

  -- ---- values that are made

  same_create : (x y : Place) (k : ValueKind) (r : ValueReason) (s t : StepProgress) → AlikeProgress s t
      → Same whole (apply_create x k r s) (apply_create (moved x y) k r t)
  same_create x y k r s t a =
      same_then _ _ _ _ (same_made x.identifier s t a)
      (λ u v b. same_gives _ _ (recorded_alike _ _ _ _ (create x y k r)
      (stated (given x.identifier (Created x.identifier k r) (value_with k r)) u v b)))

  same_record_create_from : (k : ValueKind) (r : ValueReason) (a b x y : Place) (s t : StepProgress) → AlikeProgress s t
      → Same whole (record_create_from k r a x s) (record_create_from k r (moved a b) (moved x y) t)
  same_record_create_from Primitive r a b x y s t c = same_gives _ _ (recorded_alike _ _ s t (create x y Primitive r) c)
  same_record_create_from Global r a b x y s t c = same_gives _ _ (recorded_alike _ _ s t (create x y Global r) c)
  same_record_create_from Frozen r a b x y s t c =
      same_intern_and_apply_leaf _ _ _ _ (immutable_capture a b x y) (recorded_alike _ _ s t (create x y Frozen r) c)
  same_record_create_from Mutable r a b x y s t c = same_gives _ _ (recorded_alike _ _ s t (create_from a b x y) c)
  same_record_create_from Context r a b x y s t c = same_gives _ _ (recorded_alike _ _ s t (create_from a b x y) c)
  same_record_create_from MaybeFrozen r a b x y s t c = same_gives _ _ (recorded_alike _ _ s t (create_from a b x y) c)

  same_from_made : (a b x y : Place) (s t : StepProgress) → AlikeProgress s t
      → Same whole (record_create_from (lookup s.state a.identifier).kind
      (primary_reason (lookup s.state a.identifier).reason) a x
      (with_state (given x.identifier (CreatedFrom a.identifier x.identifier) (lookup s.state a.identifier) s.state)
      (looked_up_at a s)))
      (record_create_from (lookup t.state a.identifier).kind (primary_reason (lookup t.state a.identifier).reason)
      (moved a b) (moved x y) (with_state (given x.identifier (CreatedFrom a.identifier x.identifier)
      (lookup t.state a.identifier) t.state) (looked_up_at (moved a b) t)))
  same_from_made a b x y s t (like u r m c l) =
      let v = lookup u.state a.identifier in
      same_record_create_from v.kind (primary_reason v.reason) a b x y _ _
      (stated (given x.identifier (CreatedFrom a.identifier x.identifier) v) _ _
      (looked_up_alike a.identifier None None u _ (like u r m c l)))

  same_create_from : (a b x y : Place) (s t : StepProgress) → AlikeProgress s t
      → Same whole (apply_create_from a x s) (apply_create_from (moved a b) (moved x y) t)
  same_create_from a b x y s t c = same_then _ _ _ _ (same_made x.identifier s t c)
      (λ u v d. same_from_made a b x y u v d)

  same_assign_value : (v : AbstractValue) (a b x y : Place) (s t : StepProgress) → AlikeProgress s t
      → Same whole (assign_value v a x s) (assign_value v (moved a b) (moved x y) t)
  same_assign_value v a b x y s t c =
      same_if (is_frozen v.kind) _ _ _ _
      (same_then _ _ _ _ (same_intern_and_apply_leaf _ _ s t (immutable_capture a b x y) c)
      (λ p q d. same_gives _ _ (stated (given x.identifier (AssignFrozen a.identifier x.identifier) v) p q d)))
      (same_if (is_constant v.kind) _ _ _ _
      (same_gives _ _ (stated (given x.identifier (AssignCopy a.identifier x.identifier) v) s t c))
      (same_gives _ _ (recorded_alike _ _ _ _ (assign a b x y) (stated (assigned x.identifier a.identifier) s t c))))

  same_assign_made : (a b x y : Place) (s t : StepProgress) → AlikeProgress s t
      → Same whole (assign_value (lookup s.state a.identifier) a x (looked_up_with_span a s))
      (assign_value (lookup t.state a.identifier) (moved a b) (moved x y) (looked_up_with_span (moved a b) t))
  same_assign_made a b x y s t (like u r m c l) =
      same_assign_value (lookup u.state a.identifier) a b x y _ _
      (looked_up_alike a.identifier a.span b.span u _ (like u r m c l))

  same_assign : (a b x y : Place) (s t : StepProgress) → AlikeProgress s t
      → Same whole (apply_assign a x s) (apply_assign (moved a b) (moved x y) t)
  same_assign a b x y s t c = same_then _ _ _ _ (same_made x.identifier s t c) (λ u v d. same_assign_made a b x y u v d)

  -- ---- values that are put into others

  same_link : (e f : AliasingEffect) (a b x y : Place) (s t : StepProgress) → Alike e f → AlikeProgress s t
      → Same whole (apply_link e a x s) (apply_link f (moved a b) (moved x y) t)
  same_link e f a b x y s t g (like u r m c l) =
      let now = both_looked_up a b x y u _ (like u r m c l) in
      same_if (may_be_frozen (kind_at a u)) _ _ _ _ (same_intern_and_apply_leaf _ _ _ _ (immutable_capture a b x y) now)
      (same_if (captures (kind_at a u) (kind_at x u)) _ _ _ _ (same_gives _ _ (recorded_alike e f _ _ g now))
      (same_if (may_alias (kind_at a u) (kind_at x u)) _ _ _ _
      (same_intern_and_apply_aliasing _ _ _ _ (maybe_alias a b x y) now) (same_gives _ _ now)))

  same_alias : (a b x y : Place) (s t : StepProgress) → AlikeProgress s t
      → Same whole (apply_alias a x s) (apply_alias (moved a b) (moved x y) t)
  same_alias a b x y s t (like u r m c l) =
      same_if (is_made x.identifier u.made) _ _ _ _ (same_link _ _ a b x y u _ (alias a b x y) (like u r m c l))
      (repeats_refuses AlikeProgress (AliasBeforeCreate x.identifier) _)

  -- ---- writes

  same_frozen_write : (r q : Report) (v w : Place) (s t : StepProgress) → AlikeProgress s t
      → Same whole (intern_and_apply_mutate_frozen r v s) (intern_and_apply_mutate_frozen q (moved v w) t)
  same_frozen_write r q v w s t a =
      repeats_then AnyNumber AlikeProgress (λ d. tt) _ _ _ _ (repeats_report v.identifier r q)
      (λ d e n. same_intern_and_apply_leaf _ _ s t (mutate_frozen v w d e) a)

  same_global_write : (r q : Report) (v w : Place) (s t : StepProgress) → AlikeProgress s t
      → Same whole (intern_and_apply_mutate_global r v s) (intern_and_apply_mutate_global q (moved v w) t)
  same_global_write r q v w s t a =
      repeats_then AnyNumber AlikeProgress (λ d. tt) _ _ _ _ (repeats_report v.identifier r q)
      (λ d e n. same_intern_and_apply_leaf _ _ s t (mutate_global v w d e) a)

  same_note_read : (f : FunctionId) (p : Place) (s t : StepProgress) → AlikeProgress s t
      → Same whole (note_read_capture f p s) (note_read_capture f p t)
  same_note_read f p s t (like u r m c l) =
      same_if (is_read_capture u.state p) _ _ _ _
      (repeats_noted AlikeProgress (record { function = f; place = p.identifier }) u _ (like u r m c l))
      (same_gives u _ (like u r m c l))

  module _ (c : StepContext) (o : Elsewhere c.env) where
    same_report_write : (is : AbstractValue) (v w : Place) (s t : StepProgress) → AlikeProgress s t
        → Same whole (report_write c is v s) (report_write (other c o) is (moved v w) t)
    same_report_write is v w s t a = same_if (is_frozen is.kind) _ _ _ _ (same_frozen_write _ _ v w s t a)
        (same_global_write _ _ v w s t a)

    same_report_hoisted_write : (h : Option (Option Place)) (is : AbstractValue) (v w : Place) (s t : StepProgress)
        → AlikeProgress s t → Same whole (report_hoisted_write c h is v s)
        (report_hoisted_write (other c o) h is (moved v w) t)
    same_report_hoisted_write (Some access) is v w s t a = same_frozen_write _ _ v w s t a
    same_report_hoisted_write None is v w s t a = same_report_write is v w s t a

    same_mutation : (k : ValueKind) (is : AbstractValue) (e f : AliasingEffect) (v w : Place) (s t : StepProgress)
        → Alike e f → AlikeProgress s t → Same whole (record_mutation c k is e v s)
        (record_mutation (other c o) k is f (moved v w) t)
    same_mutation Mutable is e f v w s t b a = same_gives _ _ (recorded_alike e f s t b a)
    same_mutation Context is e f v w s t b a = same_gives _ _ (recorded_alike e f s t b a)
    same_mutation Primitive is e f v w s t b a = same_gives s t a
    same_mutation Frozen is e f v w s t b a = same_report_hoisted_write (hoisted_access c v.identifier) is v w s t a
    same_mutation MaybeFrozen is e f v w s t b a =
        same_report_hoisted_write (hoisted_access c v.identifier) is v w s t a
    same_mutation Global is e f v w s t b a = same_report_write is v w s t a

    same_mutate : (e f : AliasingEffect) (v w : Place) (s t : StepProgress) → Alike e f → AlikeProgress s t
        → Same whole (apply_mutate c e v s) (apply_mutate (other c o) f (moved v w) t)
    same_mutate e f v w s t b (like u r m a l) =
        same_if (is_ref_at c.env v.identifier) _ _ _ _ (same_gives u _ (like u r m a l))
        (same_mutation (kind_at v u) (lookup u.state v.identifier) e f v w _ _ b
        (looked_up_alike v.identifier v.span w.span u _ (like u r m a l)))

    same_simple : (e f : AliasingEffect) (s t : StepProgress) → Alike e f → AlikeProgress s t
        → Same whole (apply_simple c e s) (apply_simple (other c o) f t)
    same_simple e f s t (create x y k r) a = same_create x y k r s t a
    same_simple e f s t (create_from a b x y) d = same_create_from a b x y s t d
    same_simple e f s t (assign a b x y) d = same_assign a b x y s t d
    same_simple e f s t (capture a b x y) d = same_link _ _ a b x y s t (capture a b x y) d
    same_simple e f s t (alias a b x y) d = same_alias a b x y s t d
    same_simple e f s t (freeze v w r) d = same_gives _ _ (freeze_alike c o v w r s t d)
    same_simple e f s t (mutate v w r q) d = same_mutate _ _ v w s t (mutate v w r q) d
    same_simple e f s t (mutate_transitive v w) d = same_mutate _ _ v w s t (mutate_transitive v w) d
    same_simple e f s t (mutate_conditionally v w) d =
        same_gives _ _ (conditionally_alike c o _ _ v w s t (mutate_conditionally v w) d)
    same_simple e f s t (mutate_transitive_conditionally v w) d =
        same_gives _ _ (conditionally_alike c o _ _ v w s t (mutate_transitive_conditionally v w) d)
    same_simple e f s t b d = same_aliasing e f s t b d

    pub same_intern_and_apply_simple : (e f : AliasingEffect) (s t : StepProgress) → Alike e f → AlikeProgress s t
        → Same whole (intern_and_apply_simple c e s) (intern_and_apply_simple (other c o) f t)
    same_intern_and_apply_simple e f s t a b = raised _ _ e f a (λ x y d. same_simple x y s t d b)

    same_capture : (x y p q : Place) (s t : StepProgress) → AlikePlace p q → AlikeProgress s t
        → Same whole (intern_and_apply_simple c (effect.Capture p x) s)
        (intern_and_apply_simple (other c o) (effect.Capture q (moved x y)) t)
    same_capture x y p q s t (at a b) d = same_intern_and_apply_simple _ _ s t (capture a b x y) d

    same_capture_each : (x y : Place) (ps qs : List Place) (s t : StepProgress) → AlikePlaces ps qs → AlikeProgress s t
        → Same whole (capture_each c x ps s) (capture_each (other c o) (moved x y) qs t)
    same_capture_each x y ps qs s t a d = repeats_each AlikePlace AlikeProgress progress_self _ _
        (λ p q b u v e. same_capture x y p q u v b e) ps qs a s t d

    same_create_function : (x y : Place) (f : FunctionId) (ps qs : List Place) (s t : StepProgress) → AlikePlaces ps qs
        → AlikeProgress s t → Same whole (apply_create_function c x f ps s)
        (apply_create_function (other c o) (moved x y) f qs t)
    same_create_function x y f ps qs s t b a =
        same_then _ _ _ _ (same_made x.identifier s t a) (λ u v d.
        same_then _ _ _ _
        (repeats_each (λ p q. p ≡ q) AlikeProgress progress_self (note_read_capture f) (note_read_capture f)
        (λ p q e g h i. subst (λ z. Same whole (note_read_capture f p g) (note_read_capture f z h)) e
        (same_note_read f p g h i)) (context_of c.env f) (context_of (elsewhere c.env o) f)
        (subst (λ zs. Paired (λ p q. p ≡ q) (context_of c.env f) zs) (sym (context_elsewhere c.env o f))
        (paired_self (λ p q. p ≡ q) (λ p. refl) (context_of c.env f))) _ _
        (recorded_alike _ _ u v (create_function x y f ps qs b) d))
        (λ p q e. same_capture_each x y ps qs _ _ b (function_alike c o x.identifier f ps qs p q b e)))

    same_plain : (e f : AliasingEffect) (s t : StepProgress) → Alike e f → AlikeProgress s t
        → Same whole (apply_plain c e s) (apply_plain (other c o) f t)
    same_plain e f s t (create_function x y g ps qs b) a = same_create_function x y g ps qs s t b a
    same_plain e f s t (apply r q g h x y mutates args others signature span other b) a = same_gives s t a
    same_plain e f s t b a = same_simple e f s t b a

    pub same_intern_and_apply_plain : (e f : AliasingEffect) (s t : StepProgress) → Alike e f → AlikeProgress s t
        → Same whole (intern_and_apply_plain c e s) (intern_and_apply_plain (other c o) f t)
    same_intern_and_apply_plain e f s t a b = raised _ _ e f a (λ x y d. same_plain x y s t d b)

    pub same_intern_and_apply_all_plain : (es fs : List AliasingEffect) (s t : StepProgress) → AlikeEffects es fs
        → AlikeProgress s t → Same whole (intern_and_apply_all_plain c es s)
        (intern_and_apply_all_plain (other c o) fs t)
    same_intern_and_apply_all_plain es fs s t a b =
        repeats_each Alike AlikeProgress progress_self (intern_and_apply_plain c) (intern_and_apply_plain (other c o))
        (λ e f d u v g. same_intern_and_apply_plain e f u v d g) es fs a s t b
