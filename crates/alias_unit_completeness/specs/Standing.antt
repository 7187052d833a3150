-- What stands of the environment of a unit while functions are out of their slots.
use Rattle.std.specs.Prelude.{◌≡◌, ℕ, ◌<◌, ◌≤◌, nat_eq, true, false, List, [], ◌∷◌}
use Rattle.std.specs.Prelude.{Option, Some, None, option_map, length, map, slice_get, slice_set, refl}
use Rattle.std.proofs.Common.{zero, suc, ap, sym, ◌∙◌, subst, arith}
use Rattle.std.proofs.lemmas.Bool.{eqb-true}
use Rattle.std.proofs.lemmas.List.{length-map}
use Rattle.std.specs.Option.{option_map_or}
use Rattle.alias_base.specs.declared.ids.FunctionId.{FunctionId}
use Rattle.alias_rules.specs.function_rules.Rules.{is_among}
use Rattle.alias_hir.specs.declared.env.Environment.{Environment}
use Rattle.alias_hir.specs.declared.hir.HirFunction.{HirFunction}
use Rattle.alias_nested.proofs.Changing.{slots_stay}
use Rattle.alias_nested.specs.Slots.{emptied}
use Rattle.alias_nesting_laws.specs.SlotLaws.{length_set, set_other}
use Rattle.alias_nesting_laws.specs.Slots.{with_function}
use Rattle.alias_answer_laws.proofs.order.Ordering.{neither, both_false, differs}
use Rattle.alias_range_pass.specs.places.Keeping.{but_context}
use Rattle.alias_plainness.specs.Making.{number}
use Rattle.alias_completeness.specs.summaries.Faces.{HasFace, TheseHaveFaces}
use Rattle.alias_completeness.specs.summaries.Faces.{context_ids, in_slot, face_alike, Stays}
use Rattle.alias_completeness.specs.summaries.KeptTables.{TablesKept, tables_self, tables_then}
use Rattle.alias_unit_completeness.specs.Moments.{stand_in}

abbrev pub context_numbers : Option HirFunction → List ℕ
context_numbers o = map number (option_map_or (λ (g : HirFunction). g.context) o [])

-- Of the environment of a unit: its tables are kept; the functions that aren't out have context places of the same
-- identifiers; those that wait for their analysis are the same but for the effects of these; and some have faces.
pub record Stands (Faced : ℕ → Type 0) (base : Environment) (out : List ℕ) (Waits : ℕ → Type 0) (env : Environment)
    : Type 0 where
  pub tables : TablesKept base env
  pub faces : TheseHaveFaces Faced (length env.identifiers) env.functions
  pub count : length env.functions ≡ length base.functions
  pub contexts : (k : ℕ) → is_among out k ≡ false → context_numbers (slice_get env.functions k)
      ≡ context_numbers (slice_get base.functions k)
  pub waiting : (k : ℕ) → is_among out k ≡ false → Waits k → option_map but_context (slice_get env.functions k)
      ≡ option_map but_context (slice_get base.functions k)

pub stands_self : (Faced : ℕ → Type 0) (base : Environment)
    → TheseHaveFaces Faced (length base.identifiers) base.functions → Stands Faced base [] (λ k. Unit {0}) base
stands_self Faced base faces = record {
  tables = tables_self base;
  faces = faces;
  count = refl;
  contexts = λ k h. refl;
  waiting = λ k h w. refl;
}

-- fewer wait
pub stands_fewer : (Faced : ℕ → Type 0) (base : Environment) (out : List ℕ) (V W : ℕ → Type 0) (env : Environment)
    → ((k : ℕ) → W k → V k) → Stands Faced base out V env → Stands Faced base out W env
stands_fewer Faced base out V W env f s = record {
  tables = s.tables;
  faces = s.faces;
  count = s.count;
  contexts = s.contexts;
  waiting = λ k h w. s.waiting k h (f k w);
}

same_numbers : (o p : Option HirFunction) → option_map but_context p ≡ option_map but_context o → context_numbers p
    ≡ context_numbers o
same_numbers None None e = refl
same_numbers None (Some g) e = cc
same_numbers (Some f) None e = cc
same_numbers (Some f) (Some g) e = context_ids f g (let same : but_context g ≡ but_context f = cc in same)

as_many : (fs gs : List HirFunction) → map but_context gs ≡ map but_context fs → length gs ≡ length fs
as_many fs gs e = sym (length-map gs but_context) ∙ ap length e ∙ length-map fs but_context

face_stays : (n m : ℕ) (o : Option HirFunction) (g : HirFunction) → option_map but_context (Some g)
    ≡ option_map but_context o → n ≤ m → ((f : HirFunction) → o ≡ Some f → HasFace n f) → HasFace m g
face_stays n m None g e l h = cc
face_stays n m (Some f) g e l h =
    let same : but_context g ≡ but_context f = cc in
    face_alike n m f g (in_slot f g same) (ap (λ (z : HirFunction). z.aliasing_effects) same) l (h f refl)

pub stands_stays : (Faced : ℕ → Type 0) (base : Environment) (out : List ℕ) (W : ℕ → Type 0)
    (env more : Environment) → Stands Faced base out W env → Stays env more → Stands Faced base out W more
stands_stays Faced base out W env more s t = record {
  tables = tables_then base env more s.tables t.tables;
  faces = λ k g these at. face_stays (length env.identifiers) (length more.identifiers) (slice_get env.functions k) g
      (sym (ap (λ (o : Option HirFunction). option_map but_context o) at) ∙ slots_stay env more t.functions k)
      t.tables.longer (λ f before. s.faces k f these before);
  count = as_many env.functions more.functions t.functions ∙ s.count;
  contexts = λ k h. same_numbers (slice_get env.functions k) (slice_get more.functions k)
      (slots_stay env more t.functions k) ∙ s.contexts k h;
  waiting = λ k h w. slots_stay env more t.functions k ∙ s.waiting k h w;
}

put : (xs : List HirFunction) (k : ℕ) (g : HirFunction) → k < length xs → slice_get (slice_set xs k g) k ≡ Some g
put [] k g h = absurd (omega arith)
put (x ∷ xs) zero g h = refl
put (x ∷ xs) (suc k) g h = put xs k g (omega arith)

pub found_below : (fs : List HirFunction) (k : ℕ) (f : HirFunction) → slice_get fs k ≡ Some f → k < length fs
found_below [] k f e = cc
found_below (x ∷ fs) zero f e = omega arith
found_below (x ∷ fs) (suc k) f e = let h = found_below fs k f e in omega arith

-- a function is taken out
pub stands_out : (Faced : ℕ → Type 0) (base : Environment) (id : FunctionId) (g : HirFunction) (out : List ℕ)
    (W : ℕ → Type 0) (env : Environment) → slice_get env.functions id.0 ≡ Some g → Stands Faced base out W env
    → Stands Faced base (id.0 ∷ out) W (with_function id (emptied g.returns) env)
stands_out Faced base id g out W env e s =
    let n = length env.identifiers in
    let other : (k : ℕ) → nat_eq k id.0 ≡ false → slice_get (slice_set env.functions id.0 (emptied g.returns)) k
    ≡ slice_get env.functions k = λ k h. set_other env.functions id.0 k (emptied g.returns) (differs k id.0 h) in
    record {
      tables = record {
        identifiers = s.tables.identifiers;
        longer = s.tables.longer;
        types = s.tables.types;
        more_types = s.tables.more_types;
        shapes = s.tables.shapes;
        config = s.tables.config;
      };
      faces = λ k f these at.
          elim (nat_eq k id.0) as (λ b. nat_eq k id.0 ≡ b → HasFace n f) [
            | true ↦ λ same.
                let here : k ≡ id.0 = eqb-true k id.0 same in
                let is : Some (emptied g.returns) ≡ Some f =
                sym (put env.functions id.0 (emptied g.returns) (found_below env.functions id.0 g e))
                ∙ subst (λ z. slice_get (slice_set env.functions id.0 (emptied g.returns)) z ≡ Some f) here at in
                subst (HasFace n) (let so : emptied g.returns ≡ f = cc in so)
                (stand_in n g (s.faces id.0 g (subst Faced here these) e))
            | false ↦ λ differ. s.faces k f these (sym (other k differ) ∙ at)
          ] refl;
      count = length_set env.functions id.0 (emptied g.returns) ∙ s.count;
      contexts = λ k h. let b = neither (nat_eq k id.0) (is_among out k) h in ap context_numbers (other k b.0)
          ∙ s.contexts k b.1;
      waiting = λ k h w. let b = neither (nat_eq k id.0) (is_among out k) h in
          ap (λ (o : Option HirFunction). option_map but_context o) (other k b.0) ∙ s.waiting k b.1 w;
    }

below_equal : (k n m : ℕ) → m ≡ n → k < n → k < m
below_equal k n m e h = omega arith

-- and is put back
pub stands_back : (Faced : ℕ → Type 0) (base : Environment) (id : FunctionId) (g : HirFunction) (out : List ℕ)
    (W : ℕ → Type 0) (env : Environment) → id.0 < length base.functions → map number g.context
    ≡ context_numbers (slice_get base.functions id.0) → HasFace (length env.identifiers) g
    → Stands Faced base (id.0 ∷ out) W env
    → Stands Faced base out (λ k. W k × (nat_eq k id.0 ≡ false)) (with_function id g env)
stands_back Faced base id g out W env there same face s = record {
  tables = record {
    identifiers = s.tables.identifiers;
    longer = s.tables.longer;
    types = s.tables.types;
    more_types = s.tables.more_types;
    shapes = s.tables.shapes;
    config = s.tables.config;
  };
  faces = λ k f these at.
      elim (nat_eq k id.0) as (λ b. nat_eq k id.0 ≡ b → HasFace (length env.identifiers) f) [
        | true ↦ λ e.
            let is : Some g ≡ Some f =
            sym (put env.functions id.0 g (below_equal id.0 (length base.functions) (length env.functions) s.count
            there))
            ∙ subst (λ z. slice_get (slice_set env.functions id.0 g) z ≡ Some f) (eqb-true k id.0 e) at in
            subst (HasFace (length env.identifiers)) (let so : g ≡ f = cc in so) face
        | false ↦ λ e. s.faces k f these (sym (set_other env.functions id.0 k g (differs k id.0 e)) ∙ at)
      ] refl;
  count = length_set env.functions id.0 g ∙ s.count;
  contexts = λ k h.
      elim (nat_eq k id.0) as (λ b. nat_eq k id.0 ≡ b → context_numbers (slice_get (slice_set env.functions id.0 g) k)
      ≡ context_numbers (slice_get base.functions k)) [
        | true ↦ λ e. subst (λ z. context_numbers (slice_get (slice_set env.functions id.0 g) z)
            ≡ context_numbers (slice_get base.functions z)) (sym (eqb-true k id.0 e))
            (ap context_numbers (put env.functions id.0 g
            (below_equal id.0 (length base.functions) (length env.functions) s.count there)) ∙ same)
        | false ↦ λ e. ap context_numbers (set_other env.functions id.0 k g (differs k id.0 e))
            ∙ s.contexts k (both_false (nat_eq k id.0) (is_among out k) e h)
      ] refl;
  waiting = λ k h w. ap (λ (o : Option HirFunction). option_map but_context o)
      (set_other env.functions id.0 k g (differs k id.0 w.1))
      ∙ s.waiting k (both_false (nat_eq k id.0) (is_among out k) w.1 h) w.0;
}
