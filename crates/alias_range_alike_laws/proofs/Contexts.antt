-- Context places that differ in their effects alone are read alike, and are the same once an instruction sets their
-- effects.
use Rattle.std.specs.Prelude.{◌≡◌, ℕ, zero, suc, ◌⊎◌, List, [], ◌∷◌, Option, Some, None, map, option_map, slice_get}
use Rattle.std.specs.Prelude.{slice_set, refl}
use Rattle.std.proofs.Common.{ap, sym, ◌∙◌, subst, inl, inr, ⊎_elim}
use Rattle.std.specs.Option.{option_map_or}
use Rattle.alias_base.specs.declared.ids.FunctionId.{FunctionId}
use Rattle.alias_hir.specs.declared.env.Environment.{Environment}
use Rattle.alias_hir.specs.declared.env.Identifier.{Identifier}
use Rattle.alias_hir.specs.declared.env.MutableRange.{MutableRange}
use Rattle.alias_hir.specs.declared.hir.HirFunction.{HirFunction}
use Rattle.alias_hir.specs.declared.place.Effect.TheVariants.{Read}
use Rattle.alias_hir.specs.declared.place.Place.{Place}
use Rattle.alias_hir.specs.declared.report.Interned.{Interned}
use Rattle.alias_hir.specs.declared.report.Report.{Report}
use Rattle.alias_hir.specs.declared.value.InstructionValue.{InstructionValue}
use Rattle.alias_hir.specs.declared.value.InstructionValue.TheVariants as value
use Rattle.alias_visit.specs.Operands.{operands_of}
use Rattle.alias_range_pass.specs.places.Instructions.{context_placed, created_placed}
use Rattle.alias_range_pass.specs.places.Keeping.{but_effect}
use Rattle.alias_range_pass.specs.places.Ranges.{ranged, all_ranged}
use Rattle.alias_range_pass.specs.places.Tables.{Table, with_table}
use Rattle.alias_certificate_laws.specs.accepting.Alike.{Paired, none, more, Maybe, nothing, just}
use Rattle.alias_certificate_laws.proofs.accepting.Likeness.{paired_get}
use Rattle.alias_range_alike_laws.specs.Ranging.{NearlyAlike, near, SameContextAt}
use Rattle.alias_range_alike_laws.proofs.Answers.{paired_set}
use Rattle.alias_range_alike_laws.proofs.Around.{NearAt, around}

-- ---- ranges

-- ranges are changed by identifiers alone
but_effects_ranged : (r : MutableRange → MutableRange) (ps : List Place) (ids : List Identifier)
    → all_ranged r (map but_effect ps) ids ≡ all_ranged r ps ids
but_effects_ranged r [] ids = refl
but_effects_ranged r (p ∷ ps) ids = but_effects_ranged r ps (ranged r p.identifier ids)

same_ranged : (r : MutableRange → MutableRange) (ps qs : List Place) (ids : List Identifier) → map but_effect qs
    ≡ map but_effect ps → all_ranged r qs ids ≡ all_ranged r ps ids
same_ranged r ps qs ids same = sym (but_effects_ranged r qs ids) ∙ ap (λ z. all_ranged r z ids) same
    ∙ but_effects_ranged r ps ids

context_ranged : (r : MutableRange → MutableRange) (ids : List Identifier) (o p : Option HirFunction)
    → Maybe NearlyAlike o p
    → all_ranged r (option_map_or (λ (g : HirFunction). g.context) p []) ids
    ≡ all_ranged r (option_map_or (λ (g : HirFunction). g.context) o []) ids
context_ranged r ids o p nothing = refl
context_ranged r ids o p (just (near f g context same effects)) = same_ranged r f.context context ids same

pub operands_ranged : (r : MutableRange → MutableRange) (env : Environment) (fs : List HirFunction)
    (interned : List Interned) (errors : List Report) (ids : List Identifier) → Paired NearlyAlike env.functions fs
    → (v : InstructionValue)
    → all_ranged r (operands_of (around env fs interned errors) v) ids ≡ all_ranged r (operands_of env v) ids
operands_ranged r env fs interned errors ids q (value.FunctionExpression lowered) =
    context_ranged r ids (slice_get env.functions lowered.func.0) (slice_get fs lowered.func.0)
    (paired_get lowered.func.0 env.functions fs q)
operands_ranged r env fs interned errors ids q (value.ObjectMethod lowered) =
    context_ranged r ids (slice_get env.functions lowered.func.0) (slice_get fs lowered.func.0)
    (paired_get lowered.func.0 env.functions fs q)
operands_ranged r env fs interned errors ids q v = refl

-- ---- the context places of a function that is created

module _ (table : Table) where
  abbrev placed : List Place → List Place
  placed = map (with_table table Read)

  but_effects_placed : (ps : List Place) → placed (map but_effect ps) ≡ placed ps
  but_effects_placed [] = refl
  but_effects_placed (p ∷ ps) = ap (λ z. with_table table Read p ∷ z) (but_effects_placed ps)

  same_placed : (ps qs : List Place) → map but_effect qs ≡ map but_effect ps → placed qs ≡ placed ps
  same_placed ps qs same = sym (but_effects_placed qs) ∙ ap placed same ∙ but_effects_placed ps

  near_placed : (f g : HirFunction) → NearlyAlike f g → NearlyAlike (context_placed table f) (context_placed table g)
  near_placed f g (near _ h context same effects) =
      near (context_placed table f) h (placed context) (ap (map but_effect) (same_placed f.context context same))
      effects

  context_same : (f g : HirFunction) → NearlyAlike f g → (context_placed table g).context
      ≡ (context_placed table f).context
  context_same f g (near _ h context same effects) = same_placed f.context context same

-- ---- a function that is set in its slot

set_keeps : (n k : ℕ) (xs ys : List HirFunction) (f g : HirFunction) → Paired NearlyAlike xs ys → g.context ≡ f.context
    → SameContextAt xs ys k → SameContextAt (slice_set xs n f) (slice_set ys n g) k
set_keeps n k xs ys f g none same h = h
set_keeps zero zero xs ys f g (more q qs) same h = ap (λ (z : List Place). Some z) same
set_keeps zero (suc k) xs ys f g (more q qs) same h = h
set_keeps (suc n) zero xs ys f g (more q qs) same h = h
set_keeps (suc n) (suc k) xs ys f g (more {xs = us} {ys = vs} q qs) same h = set_keeps n k us vs f g qs same h

set_sets : (n : ℕ) (xs ys : List HirFunction) (f g : HirFunction) → Paired NearlyAlike xs ys → g.context ≡ f.context
    → SameContextAt (slice_set xs n f) (slice_set ys n g) n
set_sets n xs ys f g none same = refl
set_sets zero xs ys f g (more q qs) same = ap (λ (z : List Place). Some z) same
set_sets (suc n) xs ys f g (more {xs = us} {ys = vs} q qs) same = set_sets n us vs f g qs same

module _ (P : ℕ → Type 0) (table : Table) where
  slot_near : (n : ℕ) (xs ys : List HirFunction) (o p : Option HirFunction) → slice_get xs n ≡ o → slice_get ys n ≡ p
      → Maybe NearlyAlike o p → NearAt P xs ys
      → NearAt (λ k. P k ⊎ (k ≡ n)) (option_map_or (λ f. slice_set xs n (context_placed table f)) o xs)
      (option_map_or (λ f. slice_set ys n (context_placed table f)) p ys)
  slot_near n xs ys o p at_x at_y nothing q =
      let none_there : SameContextAt xs ys n = ap (option_map (λ (f : HirFunction). f.context)) at_y
      ∙ sym (ap (option_map (λ (f : HirFunction). f.context)) at_x) in
      record {
        near = q.near;
        same = λ k. ⊎_elim (q.same k)
            (λ (is : k ≡ n). subst (SameContextAt xs ys) (sym is) none_there);
      }
  slot_near n xs ys o p at_x at_y (just {a = f} {b = g} a) q =
      let new : HirFunction = context_placed table f in
      let other : HirFunction = context_placed table g in
      let same = context_same table f g a in
      record {
        near = paired_set n new other xs ys (near_placed table f g a) q.near;
        same = λ k. ⊎_elim (λ h. set_keeps n k xs ys new other q.near same (q.same k h))
            (λ (is : k ≡ n). subst (SameContextAt (slice_set xs n new) (slice_set ys n other)) (sym is)
            (set_sets n xs ys new other q.near same));
      }

  created_at : (g : FunctionId) (k : ℕ) → Some g ≡ Some (record { 0 = k }) → k ≡ g.0
  created_at g k is = let same : g ≡ record { 0 = k } = cc in ap (λ (z : FunctionId). z.0) (sym same)

  -- the function that is created has the same context places
  pub created_near : (o : Option FunctionId) (xs ys : List HirFunction) → NearAt P xs ys
      → NearAt (λ k. P k ⊎ (o ≡ Some (record { 0 = k }))) (created_placed table o xs) (created_placed table o ys)
  created_near None xs ys q = record {
    near = q.near;
    same = λ k. ⊎_elim (q.same k) (λ (no : None ≡ Some (record { 0 = k })). cc);
  }
  created_near (Some g) xs ys q =
      let r = slot_near g.0 xs ys (slice_get xs g.0) (slice_get ys g.0) refl refl (paired_get g.0 xs ys q.near) q in
      record {
        near = r.near;
        same = λ k. ⊎_elim (λ h. r.same k (inl h))
            (λ (is : Some g ≡ Some (record { 0 = k })). r.same k (inr (created_at g k is)));
      }
