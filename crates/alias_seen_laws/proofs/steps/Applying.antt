-- The steps of effects are the same beside, where functions that are known to a law are.
use Rattle.std.specs.Prelude.{◌≡◌, ◌||◌, ◌++◌, Bool, List, [], ◌∷◌, Some, refl, slice_get, if◌then◌else◌}
use Rattle.std.specs.List.{AllByRecursion, list_any}
use Rattle.std.proofs.Common.{ap, ◌∙◌}
use Rattle.alias_base.specs.declared.ids.FunctionId.{FunctionId}
use Rattle.alias_base.specs.declared.ids.IdentifierId.{IdentifierId}
use Rattle.alias_hir.specs.Types.{is_ref_at}
use Rattle.alias_hir.specs.declared.effect.AliasingEffect.{AliasingEffect}
use Rattle.alias_hir.specs.declared.effect.AliasingEffect.TheVariants as effect
use Rattle.alias_hir.specs.declared.effect.ValueReason.{ValueReason}
use Rattle.alias_hir.specs.declared.env.Environment.{Environment}
use Rattle.alias_hir.specs.declared.place.Place.{Place}
use Rattle.alias_lattice.specs.States.{State, frozen, does_freeze, given}
use Rattle.alias_lattice.specs.declared.site.Site.TheVariants.{Function}
use Rattle.alias_tables.specs.Steps.{◌>>=◌, gives, each}
use Rattle.alias_tables.specs.Tables.{TableLists, Step, intern}
use Rattle.alias_apply.specs.Apply.{apply_simple, intern_and_apply_simple, is_read_capture, note_read_capture}
use Rattle.alias_apply.specs.Apply.{has_error}
use Rattle.alias_apply.specs.Apply.{is_mutable_capture, is_mutable_function, function_value, capture_each}
use Rattle.alias_apply.specs.Apply.{apply_create_function, apply_plain, intern_and_apply_plain}
use Rattle.alias_apply.specs.Apply.{intern_and_apply_all_plain}
use Rattle.alias_apply.specs.Contexts.{StepContext, summary_in, summary_of}
use Rattle.alias_apply.specs.Mutation.{freezes_on, apply_freeze}
use Rattle.alias_apply.specs.Progress.{record_of, with_state, is_made, made}
use Rattle.alias_apply.specs.declared.progress.StepProgress.{StepProgress}
use Rattle.alias_apply.specs.freezing.Contexts.{context_in, context_of}
use Rattle.alias_apply.specs.freezing.Sites.{sites_at}
use Rattle.alias_apply.specs.freezing.Transitive.{place_frozen_transitively}
use Rattle.alias_calls.specs.Immutable.{has_writing_site}
use Rattle.alias_walks.specs.Applying.{To, to_gives, to_if, raised_simple, raised_plain}
use Rattle.alias_walks.specs.Knowing.{Known, AllKnown, Interned, known_later, known_of, of_pair, interning, noting}
use Rattle.alias_walks.specs.Law.{Law, creates_function}
use Rattle.alias_walks.specs.Words.{all_mapped, all_of, Always, lead_refuses, lead_each}
use Rattle.alias_seen_laws.specs.Beside.{Others, with_others, DeclareSame}
use Rattle.alias_seen_laws.proofs.same.Identifiers.{ref_same}
use Rattle.alias_seen_laws.proofs.same.Writing.{beside, mutate_same, condition_same}
use Rattle.alias_seen_laws.proofs.steps.Both.{Both, same_then, both_each}

-- what a law knows is the same beside: what is declared, the functions that are made, and what states lead to
pub record Sees {env : Environment} (L : Law env) (o : Others) : Type 0 where
  pub declares : DeclareSame env o
  pub functions : (f : FunctionId) → L.Made (Some f) → slice_get o.functions f.0 ≡ slice_get env.functions f.0
  pub freezes : (r : ValueReason) (p : IdentifierId) (s : StepProgress) (t : TableLists) → L.Here t s
      → place_frozen_transitively r (context_of (with_others env o)) p s.state
      ≡ place_frozen_transitively r (context_of env) p s.state
  pub writes : (p : IdentifierId) (s : StepProgress) (t : TableLists) → L.Here t s
      → has_writing_site (with_others env o) (sites_at s.state p) ≡ has_writing_site env (sites_at s.state p)

module _ (c : StepContext) (L : Law c.env) (o : Others) (S : Sees L o) where
  abbrev d : StepContext
  d = beside c o

  -- the steps of both come to the same progress
  abbrev pub Twice : Step StepProgress → Step StepProgress → TableLists → Type 0
  Twice f g t = Both L L.Here f g t

  pub context_same : (f : FunctionId) → L.Made (Some f) → context_of d.env f ≡ context_of c.env f
  context_same f m = ap context_in (S.functions f m)

  pub summary_same : (f : FunctionId) → L.Made (Some f) → summary_of d.env f ≡ summary_of c.env f
  summary_same f m = ap summary_in (S.functions f m)

  freeze_same : (v : Place) (r : ValueReason) (s : StepProgress) (t : TableLists) → L.Seen t v → L.Here t s
      → apply_freeze d v r s ≡ apply_freeze c v r s
  freeze_same v r s t p h =
      let f = with_state (frozen v.identifier r s.state) s in
      let u = record_of (effect.Freeze v r) f in
      ap (λ (x : State). if does_freeze s.state v.identifier
      then (if freezes_on c.env.config then with_state x u else u) else f) (S.freezes r v.identifier f t (L.freezes v r s t p h))

  simple_same : (e : AliasingEffect) (s : StepProgress) (t : TableLists) → Interned L t e → L.Here t s
      → apply_simple d e s ≡ apply_simple c e s
  simple_same (effect.Create x v r) s t i h = refl
  simple_same (effect.CreateFrom a x) s t i h = refl
  simple_same (effect.Assign a x) s t i h = refl
  simple_same (effect.Capture a x) s t i h = refl
  simple_same (effect.Alias a x) s t i h = refl
  simple_same (effect.Freeze v r) s t i h = ap (λ (x : StepProgress). gives x) (freeze_same v r s t i.0.0 h)
  simple_same (effect.Mutate v r) s t i h = mutate_same c o S.declares (effect.Mutate v r) v s
  simple_same (effect.MutateTransitive v) s t i h = mutate_same c o S.declares (effect.MutateTransitive v) v s
  simple_same (effect.MutateConditionally v) s t i h =
      ap (λ (x : StepProgress). gives x) (condition_same c o S.declares (effect.MutateConditionally v) v s)
  simple_same (effect.MutateTransitiveConditionally v) s t i h =
      ap (λ (x : StepProgress). gives x) (condition_same c o S.declares (effect.MutateTransitiveConditionally v) v s)
  simple_same e s t i h = refl

  -- an effect but calls and new functions, raised
  pub simple_twice : (e : AliasingEffect) (s : StepProgress) (t : TableLists) → L.Kept t → Known L t e → L.Here t s
      → Twice (intern_and_apply_simple c e s) (intern_and_apply_simple d e s) t
  simple_twice e s t k n h = record {
    leads = raised_simple c L e s t k n h;
    same =
        same_then L (Interned L) (intern e) (λ f. apply_simple c f s) (λ f. apply_simple d f s) t (interning L e t k n)
        (λ f u x l i. ap (λ (q : Step StepProgress). q u) (simple_same f s u i (L.here_later t u x s h)));
  }

  -- ---- a function that is created

  making : (x : IdentifierId) (s : StepProgress) (t : TableLists) → L.Kept t → L.Here t s → To L (made x s) t
  making x s t k h = to_if L (is_made x s.made) _ _ t (lead_refuses L L.Here _ t)
      (to_gives L (record s { made = s.made ++ x ∷ [] }) t k (L.makes (s.made ++ x ∷ []) s t h))

  note_read : (f : FunctionId) (p : Place) (s : StepProgress) (t : TableLists) → L.Kept t → L.Made (Some f) → L.Here t s
      → To L (note_read_capture f p s) t
  note_read f p s t k m h = to_if L (is_read_capture s.state p) _ _ t
      (noting L (record { function = f; place = p.identifier }) s t m k h) (to_gives L s t k h)

  note_each : (f : FunctionId) (ps : List Place) (s : StepProgress) (t : TableLists) → L.Kept t → L.Made (Some f)
      → L.Here t s → To L (each (note_read_capture f) ps s) t
  note_each f ps s t k m h = lead_each L Always L.Here (note_read_capture f) (λ u v x p g. tt)
      (λ p a u l g i. note_read f p a u l m i) ps s t k (all_of (Always t) (λ p. tt) ps) h

  -- the places to capture, together with the one that they go into
  captures_twice : (x : Place) (ps : List Place) (s : StepProgress) (t : TableLists) → L.Kept t → L.Raised t x
      → AllByRecursion (L.Raised t) ps → L.Here t s → Twice (capture_each c x ps s) (capture_each d x ps s) t
  captures_twice x ps s t k p qs h =
      both_each L (λ u a. L.Raised u a × L.Raised u x) L.Here (λ a. intern_and_apply_simple c (effect.Capture a x))
      (λ a. intern_and_apply_simple d (effect.Capture a x))
      (λ u v y a g. (L.raised_later u v y a g.0, L.raised_later u v y x g.1))
      (λ a w u l g i. simple_twice (effect.Capture a x) w u l (of_pair L u a x g.0 g.1) i) ps s t k
      (all_mapped (L.Raised t) (λ a. L.Raised t a × L.Raised t x) (λ a g. (g, p)) ps qs) h

  mutable_same : (f : FunctionId) (ps : List Place) (u : State) → L.Made (Some f)
      → is_mutable_function d f ps u ≡ is_mutable_function c f ps u
  mutable_same f ps u m =
      ap (λ b. list_any (is_mutable_capture u) ps || has_error b
      || list_any (λ (p : Place). is_ref_at d.env p.identifier) (context_of d.env f)) (summary_same f m)
      ∙ ap (λ qs. list_any (is_mutable_capture u) ps || has_error (summary_of c.env f)
      || list_any (λ (p : Place). is_ref_at d.env p.identifier) qs) (context_same f m)
      ∙ ap (λ (is_ref : Place → Bool). list_any (is_mutable_capture u) ps || has_error (summary_of c.env f)
      || list_any is_ref (context_of c.env f)) (λ i p. ref_same c.env o S.declares p.identifier i)

  created_same : (x : Place) (f : FunctionId) (ps : List Place) (s : StepProgress) (t : TableLists) → L.Kept t
      → Interned L t (effect.CreateFunction x f ps) → L.Here t s
      → apply_create_function d x f ps s t ≡ apply_create_function c x f ps s t
  created_same x f ps s t k i h =
      let e = effect.CreateFunction x f ps in
      let m = i.1.1.0 in
      let with_function : Bool → StepProgress → StepProgress = λ b a.
      with_state (given x.identifier (Function f) (function_value b) a.state) a in
      let now : StepProgress → Step StepProgress = λ a.
      capture_each c x ps (with_function (is_mutable_function c f ps a.state) a) in
      let beside_now : StepProgress → Step StepProgress = λ a.
      capture_each d x ps (with_function (is_mutable_function d f ps a.state) a) in
      same_then L L.Here (made x.identifier s)
      (λ w. each (note_read_capture f) (context_of c.env f) (record_of e w) >>= now)
      (λ w. each (note_read_capture f) (context_of d.env f) (record_of e w) >>= beside_now) t
      (making x.identifier s t k h)
      (λ w u y l j.
      let n = known_later L t u y e (known_of L t e refl i) in
      ap (λ (qs : List Place). (each (note_read_capture f) qs (record_of e w) >>= beside_now) u) (context_same f m)
      ∙ same_then L L.Here (each (note_read_capture f) (context_of c.env f) (record_of e w)) now beside_now u
      (note_each f (context_of c.env f) (record_of e w) u l m (L.records e w u refl n j))
      (λ a v z o b.
      let q = known_later L u v z e n in
      let value = is_mutable_function c f ps a.state in
      ap (λ b. capture_each d x ps (with_function b a) v) (mutable_same f ps a.state m)
      ∙ (captures_twice x ps (with_function value a) v o q.0.0 q.0.1
      (L.puts x.identifier (Function f) (function_value value) a v
      (creates_function x f value (L.seen_later u v z x (L.seen_later t u y x i.0.0)) m) b)).same))

  plain_same : (e : AliasingEffect) (s : StepProgress) (t : TableLists) → L.Kept t → Interned L t e → L.Here t s
      → apply_plain d e s t ≡ apply_plain c e s t
  plain_same (effect.CreateFunction x f ps) s t k i h = created_same x f ps s t k i h
  plain_same (effect.Apply receiver function mutates args into signature span) s t k i h = refl
  plain_same e s t k i h = ap (λ (q : Step StepProgress). q t) (simple_same e s t i h)

  -- each effect but calls, raised
  pub plain_twice : (e : AliasingEffect) (s : StepProgress) (t : TableLists) → L.Kept t → Known L t e → L.Here t s
      → Twice (intern_and_apply_plain c e s) (intern_and_apply_plain d e s) t
  plain_twice e s t k n h = record {
    leads = raised_plain c L e s t k n h;
    same =
        same_then L (Interned L) (intern e) (λ f. apply_plain c f s) (λ f. apply_plain d f s) t (interning L e t k n)
        (λ f u x l i. plain_same f s u l i (L.here_later t u x s h));
  }

  pub all_plain_twice : (es : List AliasingEffect) (s : StepProgress) (t : TableLists) → L.Kept t → AllKnown L t es
      → L.Here t s → Twice (intern_and_apply_all_plain c es s) (intern_and_apply_all_plain d es s) t
  all_plain_twice es s t k n h = both_each L (Known L) L.Here (intern_and_apply_plain c) (intern_and_apply_plain d)
      (known_later L) (λ e a u l i j. plain_twice e a u l i j) es s t k n h
