-- The items of a block are listed one after the other, and each keeps what is known of the heap.
use Rattle.std.proofs.Common.{◌≡◌, ℕ, true, ◌&&◌, List, [], ◌∷◌, ◌++◌, Option, Some, None, map, slice_get, refl, ap}
use Rattle.std.proofs.Common.{◌∙◌, subst}
use Rattle.std.specs.Prelude.{Result, Ok, Err}
use Rattle.std.specs.List.{flat_map}
use Rattle.alias_base.specs.Answer.{◌>>=◌}
use Rattle.alias_base.specs.AnswerLaws.{both_true}
use Rattle.alias_base.specs.declared.ids.BlockId.{BlockId}
use Rattle.alias_base.specs.declared.ids.EvaluationOrder.{EvaluationOrder}
use Rattle.alias_base.specs.declared.ids.IdentifierId.{IdentifierId}
use Rattle.alias_base.specs.declared.ids.InstructionId.{InstructionId}
use Rattle.alias_hir.specs.declared.effect.AliasingEffect.{AliasingEffect}
use Rattle.alias_hir.specs.declared.effect.AliasingEffect.TheVariants as effect
use Rattle.alias_hir.specs.declared.error.HirError.{HirError}
use Rattle.alias_hir.specs.declared.hir.BasicBlock.{BasicBlock}
use Rattle.alias_hir.specs.declared.hir.HirFunction.{HirFunction}
use Rattle.alias_hir.specs.declared.hir.Instruction.{Instruction}
use Rattle.alias_hir.specs.declared.place.Place.{Place}
use Rattle.alias_hir.specs.declared.terminal.Terminal.{Terminal}
use Rattle.alias_hir.specs.declared.terminal.Terminal.TheVariants as terminal
use Rattle.alias_hir.specs.Terminals.{terminal_effects}
use Rattle.alias_graph.specs.declared.types.EdgeKind.TheVariants.{Alias}
use Rattle.alias_graph.specs.declared.types.NodeValue.TheVariants.{Object}
use Rattle.alias_graph.specs.recorded.BlockListings.{phi_listed, returns_listed, alias_listed, aliases_in, with_pending}
use Rattle.alias_graph.specs.recorded.BlockListings.{end_listed, block_listed}
use Rattle.alias_graph.specs.declared.recorded.listing.Listing.{Listing}
use Rattle.alias_graph.specs.recorded.Each.{each}
use Rattle.alias_graph.proofs.FitLaws.{went_on}
use Rattle.alias_graph.specs.recorded.Listings.{made, linked, effect_listed, effects_in, recorded_in}
use Rattle.alias_graph.specs.recorded.Listings.{instruction_listed}
use Rattle.alias_ranges.specs.heap.Heap.{History}
use Rattle.alias_ranges.specs.heap.Items.{Item, Starts, Enters, Does, Ends, effect_items, recorded_items}
use Rattle.alias_ranges.specs.heap.Items.{instruction_items, body_items, returned, alias_items, recorded_aliases}
use Rattle.alias_ranges.specs.heap.Items.{end_items}
use Rattle.alias_ranges.specs.heap.Making.{item_makes, item_widens, is_among, with_made, may_make, may_widen}
use Rattle.alias_ranges.specs.heap.Making.{makes_in_order}
use Rattle.alias_ranges.specs.heap.Histories.{after_item, after_items}
use Rattle.alias_ranges.proofs.heap.Linking.{AliasLink}
use Rattle.alias_ranges.proofs.heap.Steps.{Keeping, step_none, step_on, okay_is}
use Rattle.alias_ranges.proofs.heap.Effects.{Moves, stays, make_moves, alias_moves, effect_moves, not_true}
use Rattle.alias_ranges.proofs.heap.Operands.{IsDone, phi_moves}

-- ---- steps one after the other

module _ {A S E : Type 0} (f : A → S → Result S E) where
  pub each_append : (xs ys : List A) (s : S) → each f (xs ++ ys) s ≡ (each f xs s >>= (λ t. each f ys t))
  each_append [] ys s = refl
  each_append (x ∷ xs) ys s = elim (f x s) as
      (λ r. (r >>= (λ t. each f (xs ++ ys) t)) ≡ ((r >>= (λ t. each f xs t)) >>= (λ t. each f ys t)))
      [ Ok t ↦ each_append xs ys t | Err e ↦ refl ]

  pub each_map : {B : Type 0} (g : B → A) (xs : List B) (s : S) → each f (map g xs) s ≡ each (λ x t. f (g x) t) xs s
  each_map g [] s = refl
  each_map g (x ∷ xs) s = elim (f (g x) s) as
      (λ r. (r >>= (λ t. each f (map g xs) t)) ≡ (r >>= (λ t. each (λ y u. f (g y) u) xs t)))
      [ Ok t ↦ each_map g xs t | Err e ↦ refl ]

  pub each_flat : {B : Type 0} (g : B → List A) (h : B → S → Result S E) → ((x : B) (s : S) → each f (g x) s ≡ h x s)
      → (xs : List B) (s : S) → each f (flat_map g xs) s ≡ each h xs s
  each_flat g h same [] s = refl
  each_flat g h same (x ∷ xs) s =
      each_append (g x) (flat_map g xs) s ∙ ap (λ r. r >>= (λ t. each f (flat_map g xs) t)) (same x s)
      ∙ elim (h x s) as (λ r. (r >>= (λ t. each f (flat_map g xs) t)) ≡ (r >>= (λ t. each h xs t)))
      [ Ok t ↦ each_flat g h same xs t | Err e ↦ refl ]

-- ---- items as they are listed

-- what an item records, in the block at slot k
abbrev pub item_listed : List (BlockId × BasicBlock) → ℕ → Item → Listing → Result Listing HirError
item_listed blocks k (Starts p) l = Ok (made Object p l)
item_listed blocks k (Enters phi) l = phi_listed blocks k phi l
item_listed blocks k (Does i order e) l = effect_listed i order e l
item_listed blocks k (Ends a x) l = linked Alias a x l

abbrev pub items_listed : List (BlockId × BasicBlock) → ℕ → List Item → Listing → Result Listing HirError
items_listed blocks k its l = each (item_listed blocks k) its l

module _ (blocks : List (BlockId × BasicBlock)) (k : ℕ) where
  effects_are : (i : InstructionId) (order : EvaluationOrder) (o : Option (List AliasingEffect)) (l : Listing)
      → items_listed blocks k (effect_items i order o) l ≡ effects_in i order o l
  effects_are i order None l = refl
  effects_are i order (Some es) l = each_map (item_listed blocks k) (Does i order) es l

  recorded_are : (i : InstructionId) (o : Option Instruction) (l : Listing)
      → items_listed blocks k (recorded_items i o) l ≡ recorded_in i o l
  recorded_are i None l = refl
  recorded_are i (Some n) l = effects_are i n.id n.effects l

  body_are : (f : HirFunction) (b : BasicBlock) (l : Listing) → items_listed blocks k (body_items f b) l
      ≡ (each (phi_listed blocks k) b.phis l >>= (λ p. each (instruction_listed f.instructions) b.instructions p))
  body_are f b l =
      each_append (item_listed blocks k) (map Enters b.phis) (instruction_items f.instructions b.instructions) l
      ∙ ap (λ r. r >>= (λ p. items_listed blocks k (instruction_items f.instructions b.instructions) p))
      (each_map (item_listed blocks k) Enters b.phis l)
      ∙ elim (each (phi_listed blocks k) b.phis l) as
      (λ r. (r >>= (λ p. items_listed blocks k (instruction_items f.instructions b.instructions) p))
      ≡ (r >>= (λ p. each (instruction_listed f.instructions) b.instructions p))) [
        | Ok p ↦ each_flat (item_listed blocks k)
            (λ (i : InstructionId). recorded_items i (slice_get f.instructions i.0)) (instruction_listed f.instructions)
            (λ i s. recorded_are i (slice_get f.instructions i.0) s) b.instructions p
        | Err e ↦ refl
      ]

  alone : (a x : Place) (l : Listing) → items_listed blocks k (Ends a x ∷ []) l ≡ linked Alias a x l
  alone a x l = elim (linked Alias a x l) as (λ r. (r >>= (λ t. let z : Result Listing HirError = Ok t in z)) ≡ r)
      [ Ok t ↦ refl | Err e ↦ refl ]

  alias_is : (e : AliasingEffect) (l : Listing) → items_listed blocks k (alias_items e) l ≡ alias_listed e l
  alias_is (effect.Alias a x) l = alone a x l
  alias_is e l = refl

  aliases_are : (o : Option (List AliasingEffect)) (l : Listing) → items_listed blocks k (recorded_aliases o) l
      ≡ aliases_in o l
  aliases_are None l = refl
  aliases_are (Some es) l = each_flat (item_listed blocks k) alias_items alias_listed alias_is es l

  returned_are : (returns : Place) (t : Terminal) (l : Listing) → items_listed blocks k (returned returns t) l
      ≡ returns_listed returns t l
  returned_are returns (terminal.Return id value effects) l = alone value returns l
  returned_are returns t l = refl

  ends_are : (f : HirFunction) (b : BasicBlock) (l : Listing) → items_listed blocks k (end_items f b) (with_pending k l)
      ≡ end_listed f.returns k b.terminal l
  ends_are f b l =
      each_append (item_listed blocks k) (returned f.returns b.terminal)
      (recorded_aliases (terminal_effects b.terminal)) (with_pending k l)
      ∙ ap (λ r. r >>= (λ t. items_listed blocks k (recorded_aliases (terminal_effects b.terminal)) t))
      (returned_are f.returns b.terminal (with_pending k l))
      ∙ elim (returns_listed f.returns b.terminal (with_pending k l)) as
      (λ r. (r >>= (λ t. items_listed blocks k (recorded_aliases (terminal_effects b.terminal)) t))
      ≡ (r >>= (λ t. aliases_in (terminal_effects b.terminal) t))) [
        | Ok t ↦ aliases_are (terminal_effects b.terminal) t
        | Err e ↦ refl
      ]

-- a block that is listed: its body, then what waited for its end, then its end
pub block_parts : (f : HirFunction) (k : ℕ) (b : BasicBlock) (l m : Listing) → block_listed f k b l ≡ Ok m
    → (n : Listing) × (items_listed f.body.blocks k (body_items f b) l ≡ Ok n)
    × (items_listed f.body.blocks k (end_items f b) (with_pending k n) ≡ Ok m)
block_parts f k b l m h =
    let v = went_on (each (phi_listed f.body.blocks k) b.phis l)
    (λ p. each (instruction_listed f.instructions) b.instructions p >>= (λ q. end_listed f.returns k b.terminal q))
    m h in
    let w = went_on (each (instruction_listed f.instructions) b.instructions v.0)
    (λ q. end_listed f.returns k b.terminal q) m v.2 in (
      w.0,
      body_are f.body.blocks k f b l ∙ (ap
          (λ r. r >>= (λ p. each (instruction_listed f.instructions) b.instructions p)) v.1 ∙ w.1),
      ends_are f.body.blocks k f b w.0 ∙ w.2,
    )

-- ---- items on the heap

-- with all places that the items make
abbrev pub all_made : List Item → List IdentifierId → List IdentifierId
all_made [] done = done
all_made (it ∷ its) done = all_made its (with_made (item_makes it) done)

pub in_order_parts : (all done : List IdentifierId) (xs ys : List Item) → makes_in_order all done (xs ++ ys) ≡ true
    → (makes_in_order all done xs ≡ true) × (makes_in_order all (all_made xs done) ys ≡ true)
in_order_parts all done [] ys h = (refl, h)
in_order_parts all done (x ∷ xs) ys h =
    let p = both_true (may_make done (item_makes x) && may_widen all done (item_widens x))
    (makes_in_order all (with_made (item_makes x) done) (xs ++ ys)) h in
    let r = in_order_parts all (with_made (item_makes x) done) xs ys p.1 in
    (ap (λ b. b && makes_in_order all (with_made (item_makes x) done) xs) p.0 ∙ r.0, r.1)

pub all_made_append : (xs ys : List Item) (done : List IdentifierId) → all_made (xs ++ ys) done
    ≡ all_made ys (all_made xs done)
all_made_append [] ys done = refl
all_made_append (x ∷ xs) ys done = all_made_append xs ys (with_made (item_makes x) done)

pub after_append : (all : List IdentifierId) (from : Option BlockId) (xs ys : List Item) (h : History)
    → after_items all from (xs ++ ys) h ≡ after_items all from ys (after_items all from xs h)
after_append all from [] ys h = refl
after_append all from (x ∷ xs) ys h = after_append all from xs ys (after_item all from x h)

pub moves_on : (done more : List IdentifierId) (l m n : Listing) (h i j : History) → Moves done l m h i
    → Moves more m n i j → Moves more l n h j
moves_on done more l m n h i j a b = record
    { step = step_on done more l m n a.step b.step; sound = λ s. b.sound (a.sound s) }

module _ (all : List IdentifierId) (blocks : List (BlockId × BasicBlock)) (k : ℕ) (from : Option BlockId)
    (over : IsDone blocks k from) where
  item_moves : (done : List IdentifierId) (it : Item) (l m : Listing) (h : History) → Keeping done l
      → may_make done (item_makes it) ≡ true → may_widen all done (item_widens it) ≡ true → item_listed blocks k it l
      ≡ Ok m
      → Moves (with_made (item_makes it) done) l m h (after_item all from it h)
  item_moves done (Starts p) l m h kp new settled e =
      subst (λ z. Moves (p.identifier ∷ done) l z h (after_item all from (Starts p) h)) (okay_is (made Object p l) m e)
      (make_moves done l h kp p Object (not_true (is_among done p.identifier) new))
  item_moves done (Enters phi) l m h kp new settled e =
      phi_moves blocks k phi done l m h kp (not_true (is_among done phi.place.identifier) new) e from over
  item_moves done (Does i order act) l m h kp new settled e = effect_moves all done i order l m h kp act new settled e
  item_moves done (Ends a x) l m h kp new settled e = alias_moves all done l m h kp AliasLink tt tt a x settled e

  pub items_moves : (done : List IdentifierId) (its : List Item) (l m : Listing) (h : History) → Keeping done l
      → makes_in_order all done its ≡ true → items_listed blocks k its l ≡ Ok m
      → Moves (all_made its done) l m h (after_items all from its h)
  items_moves done [] l m h kp fit e = subst (λ z. Moves done l z h h) (okay_is l m e)
      (stays done l l h (step_none done l kp))
  items_moves done (it ∷ its) l m h kp fit e =
      let p = both_true (may_make done (item_makes it) && may_widen all done (item_widens it))
      (makes_in_order all (with_made (item_makes it) done) its) fit in
      let q = both_true (may_make done (item_makes it)) (may_widen all done (item_widens it)) p.0 in
      let w = went_on (item_listed blocks k it l) (λ t. items_listed blocks k its t) m e in
      let first = item_moves done it l w.0 h kp q.0 q.1 w.1 in
      moves_on (with_made (item_makes it) done) (all_made (it ∷ its) done) l w.0 m h (after_item all from it h)
      (after_items all from (it ∷ its) h) first
      (items_moves (with_made (item_makes it) done) its w.0 m (after_item all from it h) first.step.keeping p.1 w.2)
