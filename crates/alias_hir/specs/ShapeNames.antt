-- Shapes found by their names.
use Rattle.std.specs.Prelude.{◌≡◌, ℕ, true, false, cond, List, [], ◌∷◌, ◌++◌, length, Option, Some, None, find, nat_eq}
use Rattle.std.specs.Prelude.{refl}
use Rattle.std.proofs.Common.{ap, sym, ◌∙◌, subst}
use Rattle.std.specs.Option.{is_some}
use Rattle.std.specs.Cmp.Lexicographic.{pointwise, nat_list_eq_equiv}
use Rattle.alias_base.specs.Indexes.{at_slot, IsIndex, first_of, first_at, index_push, index_still}
use Rattle.alias_hir.specs.declared.signature.Shape.{Shape}

-- the first shape with the name
abbrev pub shape_named : List Shape → List ℕ → Option Shape
shape_named shapes name = find (λ (s : Shape). pointwise nat_eq s.id name) shapes

abbrev pub name_of : Shape → Option (List ℕ)
name_of s = Some s.id

-- for each name the slot of the first shape that has it
abbrev pub AreSlots : (List ℕ → Option ℕ) → List Shape → Type 0
AreSlots slots shapes = IsIndex (pointwise nat_eq) name_of slots shapes

first_named : (shapes : List Shape) (name : List ℕ) → first_of (pointwise nat_eq) name_of name shapes
    ≡ shape_named shapes name
first_named [] name = refl
first_named (s ∷ ss) name = ap (cond (pointwise nat_eq s.id name) (Some s)) (first_named ss name)

-- the shape in the slot of a name is the one with the name
pub named_at : (slots : List ℕ → Option ℕ) (shapes : List Shape) (name : List ℕ) → AreSlots slots shapes
    → at_slot (slots name) shapes ≡ shape_named shapes name
named_at slots shapes name h = ap (λ o. at_slot o shapes) (h name)
    ∙ sym (first_at (pointwise nat_eq) name_of name shapes) ∙ first_named shapes name

module _ (slots : List ℕ → Option ℕ) (shapes : List Shape) (s : Shape) (h : AreSlots slots shapes) where
  still_slots : (o : Option ℕ) → slots s.id ≡ o → true ≡ is_some o → AreSlots slots (shapes ++ s ∷ [])
  still_slots (Some p) e i = index_still (pointwise nat_eq) name_of nat_list_eq_equiv slots shapes s.id s p h refl
      (sym (h s.id) ∙ e)
  still_slots None e i = cc

  more_slots : (new : List ℕ → Option ℕ) (o : Option ℕ) → slots s.id ≡ o → false ≡ is_some o
      → ((q : List ℕ) → new q ≡ cond (pointwise nat_eq s.id q) (Some (length shapes)) (slots q))
      → AreSlots new (shapes ++ s ∷ [])
  more_slots new None e i u = index_push (pointwise nat_eq) name_of nat_list_eq_equiv slots new shapes s.id s h refl
      (sym (h s.id) ∙ e) u
  more_slots new (Some p) e i u = cc

  -- one more shape, whose name is there, changes no slot
  pub slots_still : (more : List Shape) (name : List ℕ) → more ≡ shapes ++ s ∷ [] → name ≡ s.id → true
      ≡ is_some (slots name) → AreSlots slots more
  slots_still more name m n i = subst (AreSlots slots) (sym m)
      (still_slots (slots s.id) refl (subst (λ z. true ≡ is_some (slots z)) n i))

  -- one more shape, whose name is new, stands in the last slot
  pub slots_push : (new : List ℕ → Option ℕ) (more : List Shape) (name : List ℕ) (slot : ℕ) → more ≡ shapes ++ s ∷ []
      → name ≡ s.id → slot ≡ length shapes → false ≡ is_some (slots name)
      → ((q : List ℕ) → new q ≡ cond (pointwise nat_eq name q) (Some slot) (slots q)) → AreSlots new more
  slots_push new more name slot m n l i u =
      subst (AreSlots new) (sym m)
      (more_slots new (slots s.id) refl (subst (λ z. false ≡ is_some (slots z)) n i)
      (λ q. u q ∙ ap (λ z. cond (pointwise nat_eq z q) (Some slot) (slots q)) n
      ∙ ap (λ k. cond (pointwise nat_eq s.id q) (Some k) (slots q)) l))
