-- What adds to tables that are counted leaves such tables.
use Rattle.std.proofs.Common.{◌≡◌, ℕ, ◌+◌, ◌≤◌, ◌<◌, Bool, true, false, cond, ◌&&◌, nat_lt, List, [], ◌∷◌, ◌++◌, length}
use Rattle.std.proofs.Common.{Option, Some, None, refl, subst, sym, append_assoc, append-nil, length-append, arith}
use Rattle.std.specs.Prelude.{Result, Ok, Err, if◌then◌else◌}
use Rattle.std.specs.List.{AllByRecursion}
use Rattle.alias_base.specs.Indexes.{has_key, first_of}
use Rattle.alias_base.specs.declared.ids.FunctionId.{FunctionId}
use Rattle.alias_base.specs.declared.ids.IdentifierId.{IdentifierId}
use Rattle.alias_hir.specs.ReportNumbers.{same_identity, same_instance, number_of, with_interned}
use Rattle.alias_hir.specs.Effects.{effect_places, function_of}
use Rattle.alias_hir.specs.declared.effect.AliasingEffect.{AliasingEffect}
use Rattle.alias_hir.specs.declared.effect.AliasingEffect.TheVariants as effect
use Rattle.alias_hir.specs.declared.env.Environment.{Environment}
use Rattle.alias_hir.specs.declared.error.Counter.TheVariants.{Diagnostics, Identifiers}
use Rattle.alias_hir.specs.declared.place.Place.{Place}
use Rattle.alias_hir.specs.declared.place.Span.{Span}
use Rattle.alias_hir.specs.declared.report.ReportId.{ReportId}
use Rattle.alias_hir.specs.declared.report.Report.{Report}
use Rattle.alias_tables.specs.InternedEffects.{same_key, first_like}
use Rattle.alias_tables.specs.Keys.{key_of, with_error_of}
use Rattle.alias_tables.specs.ReplayLaws.{first_is, tables_are, not_given}
use Rattle.alias_tables.specs.Reads.{is_noted}
use Rattle.alias_tables.specs.Tables.{TableLists, intern, intern_by, intern_after, has_room, new_place, temporary}
use Rattle.alias_tables.specs.Tables.{temporary_after, with_reports, intern_report, note_read}
use Rattle.alias_tables.specs.Temporaries.{same_temp, key_in, temp_like, temporary_of}
use Rattle.alias_tables.specs.declared.faults.Refusal.{Refusal}
use Rattle.alias_tables.specs.declared.faults.Refusal.TheVariants.{TooMany}
use Rattle.alias_tables.specs.declared.key.EffectKey.{EffectKey}
use Rattle.alias_tables.specs.declared.reads.ContextRead.{ContextRead}
use Rattle.alias_tables.specs.declared.temp_key.TempKey.{TempKey}
use Rattle.alias_tables.specs.declared.temporaries.Temporary.{Temporary}
use Rattle.alias_walks.specs.Words.{all_mapped, all_appended}
use Rattle.alias_step_laws.specs.steps.Within.{PlaceWithin}
use Rattle.alias_effects_laws.specs.entries.Named.{KeyNamed, IsNext, AreNumbered, CreatesHas}

-- the first item of a key is one of the list
first_has : {K V : Type 0} (same : K → K → Bool) (key : V → Option K) (Q : V → Type 0) (k : K) (es : List V) (z : V)
    → first_of same key k es ≡ Some z → AllByRecursion Q es → Q z
first_has same key Q k [] z e h = cc
first_has same key Q k (x ∷ es) z e h =
    elim (has_key same key k x) as (λ b. cond b (Some x) (first_of same key k es) ≡ Some z → Q z) [
      | true ↦ λ g. let is : x ≡ z = cc in subst Q is h.0
      | false ↦ λ g. first_has same key Q k es z g h.1
    ] e

-- ---- what is known of effects and tables

-- context places that were read are of functions with F
abbrev pub ReadsHave : (FunctionId → Type 0) → List ContextRead → Type 0
ReadsHave F rs = AllByRecursion (λ (r : ContextRead). F r.function) rs

module _ (env : Environment) (F : FunctionId → Type 0) where
  -- the places of an interned effect are of the table or were added, and the function that it creates has F
  abbrev pub EffectNamed : TableLists → AliasingEffect → Type 0
  EffectNamed t e = AllByRecursion (PlaceWithin env t) (effect_places e) × CreatesHas F (function_of e)

  -- interned effects are named so, the temporaries are counted on from the identifiers, and context places are read of
  -- functions with F
  pub record Counted (t : TableLists) : Type 0 where
    pub first : AllByRecursion (EffectNamed t) t.first
    pub temporaries : AreNumbered env [] t.temporaries
    pub reads : ReadsHave F t.reads

  left_as : {A C : Type 0} (Q : TableLists → A → Type 0) (x y : A) (v u : TableLists)
      → ◌≡◌ {A = Result (A × TableLists) C} (Ok (x, v)) (Ok (y, u)) → Counted v → Q v x → Counted u × Q u y
  left_as Q x y v u e h q = (
    subst Counted (tables_are x y v u e) h,
    subst (λ w. Q w y) (tables_are x y v u e) (subst (Q v) (first_is x y v u e) q),
  )

  -- ---- effects

  -- the interned effect of a key, with the report of another
  error_taken : (t : TableLists) (first e : AliasingEffect) → EffectNamed t first
      → EffectNamed t (with_error_of first e)
  error_taken t (effect.Impure p error) (effect.Impure q own) h = h
  error_taken t (effect.MutateFrozen p error) (effect.MutateFrozen q own) h = h
  error_taken t (effect.MutateGlobal p error) (effect.MutateGlobal q own) h = h
  error_taken t first e h = h

  interned_after : (k : EffectKey) (o : Option AliasingEffect) (e : AliasingEffect) (t u : TableLists)
      (y : AliasingEffect) → first_like k t.first ≡ o → EffectNamed t e → Counted t → intern_after o e t ≡ Ok (y, u)
      → Counted u × EffectNamed u y
  interned_after k None e t u y is n h i =
      left_as EffectNamed e y (record t { first = t.first ++ e ∷ [] }) u i
      (record {
        first = all_appended (EffectNamed t) t.first (e ∷ []) h.first (n, tt);
        temporaries = h.temporaries;
        reads = h.reads;
      }) n
  interned_after k (Some z) e t u y is n h i =
      left_as EffectNamed (with_error_of z e) y t u i h
      (error_taken t z e (first_has same_key key_of (EffectNamed t) k t.first z is h.first))

  interned_by : (o : Option EffectKey) (e : AliasingEffect) (t u : TableLists) (y : AliasingEffect) → EffectNamed t e
      → Counted t → intern_by o e t ≡ Ok (y, u) → Counted u × EffectNamed u y
  interned_by None e t u y n h i = left_as EffectNamed e y t u i h n
  interned_by (Some k) e t u y n h i = interned_after k (first_like k t.first) e t u y refl n h i

  pub counted_intern : (e : AliasingEffect) (t u : TableLists) (y : AliasingEffect) → EffectNamed t e → Counted t
      → intern e t ≡ Ok (y, u) → Counted u × EffectNamed u y
  counted_intern e t u y n h i = interned_by (key_of e) e t u y n h i

  -- ---- temporaries

  -- one more behind the others
  numbered_more : (done xs : List Temporary) (x : Temporary) → AreNumbered env done xs → IsNext env (done ++ xs) x
      → AreNumbered env done (xs ++ x ∷ [])
  numbered_more done [] x h n = (subst (λ l. IsNext env l x) (append-nil done) n, tt)
  numbered_more done (y ∷ ys) x h n = (
    h.0,
    numbered_more (done ++ y ∷ []) ys x h.1 (subst (λ l. IsNext env l x) (sym (append_assoc done (y ∷ []) ys)) n),
  )

  -- those that are counted on are below the next
  abbrev Below : ℕ → Temporary → Type 0
  Below n x = x.place.identifier.0 < length env.identifiers + n

  numbered_below : (done xs : List Temporary) → AreNumbered env done xs
      → AllByRecursion (Below (length done + length xs)) xs
  numbered_below done [] h = tt
  numbered_below done (x ∷ xs) h =
      let is = h.0.0 in
      let l = length-append done (x ∷ []) in (
        omega (arith, is),
        all_mapped (Below (length (done ++ x ∷ []) + length xs)) (Below (length done + length (x ∷ xs)))
            (λ y i. omega (arith, i, l)) xs (numbered_below (done ++ x ∷ []) xs h.1),
      )

  module _ (key : TempKey) (span : Option Span) (t : TableLists) (h : Counted t)
      (k : KeyNamed (length env.identifiers + length t.temporaries) (length env.functions) key) where
    abbrev next : Place
    next = new_place (length env.identifiers) (length t.temporaries) span

    abbrev added : TableLists
    added = record t { temporaries = t.temporaries ++ temporary_of key next ∷ [] }

    wider : (p : Place) → PlaceWithin env t p → PlaceWithin env added p
    wider p i = let l = length-append t.temporaries (temporary_of key next ∷ []) in omega (arith, i, l)

    next_within : PlaceWithin env added next
    next_within = let l = length-append t.temporaries (temporary_of key next ∷ []) in omega (arith, l)

    new_counted : (u : TableLists) (y : Place) (b : Bool)
        → has_room (length env.identifiers) (length env.types) (length t.temporaries) ≡ b → temp_like key t.temporaries
        ≡ None
        → (let r : Result (Place × TableLists) Refusal = if b then Ok (next, added) else Err (TooMany Identifiers) in r
        ≡ Ok (y, u)) → Counted u × PlaceWithin env u y
    new_counted u y true room none e =
        left_as (PlaceWithin env) next y added u e
        (record {
          first = all_mapped (EffectNamed t) (EffectNamed added)
              (λ x i. (all_mapped (PlaceWithin env t) (PlaceWithin env added) wider (effect_places x) i.0, i.1)) t.first
              h.first;
          temporaries = numbered_more [] t.temporaries (temporary_of key next) h.temporaries (refl, none, k, room);
          reads = h.reads;
        }) next_within
    new_counted u y false room none e = not_given _ y u e

    old_within : (x : Temporary) → temp_like key t.temporaries ≡ Some x → PlaceWithin env t x.place
    old_within x is =
        let i = first_has same_temp key_in (Below (length {A = Temporary} [] + length t.temporaries)) key t.temporaries
        x is (numbered_below [] t.temporaries h.temporaries) in
        let z : length {A = Temporary} [] ≡ 0 = refl in
        omega (arith, i, z)

    after_counted : (u : TableLists) (y : Place) (o : Option Temporary) → temp_like key t.temporaries ≡ o
        → temporary_after o env key span t ≡ Ok (y, u) → Counted u × PlaceWithin env u y
    after_counted u y None is e = new_counted u y
        (has_room (length env.identifiers) (length env.types) (length t.temporaries)) refl is e
    after_counted u y (Some x) is e = left_as (PlaceWithin env) x.place y t u e h (old_within x is)

    pub counted_temporary : (u : TableLists) (y : Place) → temporary env key span t ≡ Ok (y, u) → Counted u
        × PlaceWithin env u y
    counted_temporary u y e = after_counted u y (temp_like key t.temporaries) refl e

  -- ---- reports and context places

  report_counted : (u : TableLists) (y d : ReportId) (v : TableLists) (b : Bool) → Counted v
      → (let r : Result (ReportId × TableLists) Refusal = if b then Ok (d, v) else Err (TooMany Diagnostics) in r
      ≡ Ok (y, u)) → Counted u
  report_counted u y d v true h e = subst Counted (tables_are d y v u e) h
  report_counted u y d v false h e = not_given _ y u e

  pub counted_report : (id : IdentifierId) (r : Report) (t u : TableLists) (d : ReportId) → Counted t
      → intern_report id r t ≡ Ok (d, u) → Counted u
  counted_report id r t u d h e =
      report_counted u d (record {
        identity = number_of (same_identity id r) t.reports;
        instance = number_of (same_instance id r) t.reports;
      }) (with_reports t (with_interned t.reports id r))
      (nat_lt (number_of (same_identity id r) t.reports) 4294967295
      && nat_lt (number_of (same_instance id r) t.reports) 4294967295)
      (record { first = h.first; temporaries = h.temporaries; reads = h.reads }) e

  noted_have : (b : Bool) (r : ContextRead) (rs : List ContextRead) → F r.function → ReadsHave F rs
      → ReadsHave F (if b then rs else rs ++ r ∷ [])
  noted_have true r rs h g = g
  noted_have false r rs h g = all_appended (λ (q : ContextRead). F q.function) rs (r ∷ []) g (h, tt)

  pub counted_note : (r : ContextRead) (t : TableLists) → F r.function → Counted t → Counted (note_read r t)
  counted_note r t own h = record {
    first = h.first;
    temporaries = h.temporaries;
    reads = noted_have (is_noted r t.reads) r t.reads own h.reads;
  }
