-- A phi that is listed and done on the heap alike keeps what is known of the heap.
use Rattle.std.proofs.Common.{◌≡◌, ℕ, ◌+◌, true, false, cond, List, [], ◌∷◌, Option, Some, None, if◌then◌else◌, nat_lt}
use Rattle.std.proofs.Common.{refl, ap, sym, ◌∙◌, subst, arith}
use Rattle.std.specs.Prelude.{Ok}
use Rattle.alias_base.specs.declared.ids.BlockId.{BlockId}
use Rattle.alias_base.specs.declared.ids.IdentifierId.{IdentifierId}
use Rattle.alias_base.specs.Find.{same_block, value_at}
use Rattle.alias_hir.specs.declared.hir.BasicBlock.{BasicBlock}
use Rattle.alias_hir.specs.declared.hir.Phi.{Phi}
use Rattle.alias_hir.specs.declared.place.Place.{Place}
use Rattle.alias_graph.specs.declared.types.NodeValue.TheVariants.{Phi as PhiNode}
use Rattle.alias_graph.specs.Nodes.{has_node}
use Rattle.alias_graph.proofs.Covering.{eqb_is}
use Rattle.alias_graph.specs.recorded.BlockListings.{slot_of_block, pending_more, link_of, added_or_pending}
use Rattle.alias_graph.specs.recorded.BlockListings.{operand_listed, phi_listed}
use Rattle.alias_graph.specs.declared.recorded.listing.Listing.{Listing}
use Rattle.alias_graph.specs.recorded.Each.{each}
use Rattle.alias_graph.proofs.FitLaws.{went_on}
use Rattle.alias_graph.specs.recorded.Listings.{with_event, made}
use Rattle.alias_graph.specs.recorded.Recording.{graph_listed}
use Rattle.alias_ranges.specs.heap.Heap.{History}
use Rattle.alias_ranges.specs.heap.Making.{is_among}
use Rattle.alias_ranges.specs.heap.Histories.{operand_by, after_phi}
use Rattle.alias_ranges.proofs.heap.Linking.{AliasLink, grows_has, joins_grow}
use Rattle.alias_ranges.proofs.heap.Reaching.{Sound}
use Rattle.alias_ranges.proofs.heap.Changes.{Aliases, sound_copies, sound_clears}
use Rattle.alias_ranges.proofs.heap.Steps.{Keeping, Step, step_none, step_on, step_make, step_quiet, step_wait}
use Rattle.alias_ranges.proofs.heap.Steps.{more_same, next_listing, okay_is}
use Rattle.alias_ranges.proofs.heap.Effects.{Moves, known, here_now, link_more, link_step, link_now}

pub block_is : (a b : BlockId) → same_block a b ≡ true → a ≡ b
block_is a b h = let is : a.0 ≡ b.0 = eqb_is a.0 b.0 h in ap (λ (n : ℕ). let z : BlockId = record { 0 = n } in z) is

module _ (blocks : List (BlockId × BasicBlock)) (k : ℕ) (x : Place) where
  -- the listing after an operand
  abbrev after_operand : BlockId × Place → Listing → Listing
  after_operand e l = added_or_pending k (slot_of_block blocks e.0) (link_of l.next e.1 x)
      (record l { next = l.next + 1 })

  operand_is : (e : BlockId × Place) (l m : Listing) → operand_listed blocks k x e l ≡ Ok m → after_operand e l ≡ m
  operand_is e l m h = next_listing l m (λ after.
      added_or_pending k (slot_of_block blocks e.0) (link_of l.next e.1 x) (record l { next = after })) h

  step_added : (done : List IdentifierId) (l : Listing) → Keeping done l → (e : BlockId × Place) (slot : Option ℕ)
      → Step done l (added_or_pending k slot (link_of l.next e.1 x) (record l { next = l.next + 1 }))
  step_added done l kp e None = step_quiet done l kp (record l { next = l.next + 1 }) refl refl (omega arith)
      (more_same l.mutations)
  step_added done l kp e (Some p) =
      let at : Listing = record l { next = l.next + 1 } in
      elim (nat_lt p k) as (λ b. Step done l
      (if b then with_event (link_of l.next e.1 x) at
      else record at { pending = pending_more l.pending p (link_of l.next e.1 x) })) [
        | true ↦ link_step done l [] kp AliasLink tt e.1.identifier x.identifier
        | false ↦ step_wait done l kp p e.1.identifier x.identifier
      ]

  step_operand : (done : List IdentifierId) (e : BlockId × Place) (l m : Listing) → Keeping done l
      → operand_listed blocks k x e l ≡ Ok m → Step done l m
  step_operand done e l m kp h = subst (Step done l) (operand_is e l m h)
      (step_added done l kp e (slot_of_block blocks e.0))

  step_operands : (done : List IdentifierId) (os : List (BlockId × Place)) (l m : Listing) → Keeping done l
      → each (operand_listed blocks k x) os l ≡ Ok m → Step done l m
  step_operands done [] l m kp h = subst (Step done l) (okay_is l m h) (step_none done l kp)
  step_operands done (e ∷ os) l m kp h =
      let w = went_on (operand_listed blocks k x e l) (λ t. each (operand_listed blocks k x) os t) m h in
      let s = step_operand done e l w.0 kp w.1 in
      step_on done done l w.0 m s (step_operands done os w.0 m s.keeping w.2)

  -- the operand for a block that is done is linked now
  operand_now : (done : List IdentifierId) (e : BlockId × Place) (l m : Listing) → Keeping done l
      → has_node (graph_listed l) x.identifier ≡ true → has_node (graph_listed l) e.1.identifier ≡ true → (j : ℕ)
      → slot_of_block blocks e.0 ≡ Some j → nat_lt j k ≡ true
      → operand_listed blocks k x e l ≡ Ok m → Aliases (graph_listed m) m.next e.1.identifier x.identifier
  operand_now done e l m kp mx ma j slot lt h =
      let at : Listing = record l { next = l.next + 1 } in
      let n = link_more l AliasLink e.1.identifier x.identifier in
      let s = link_step done l [] kp AliasLink tt e.1.identifier x.identifier in
      let there = λ (q : IdentifierId) (has : has_node (graph_listed l) q ≡ true).
      grows_has (graph_listed l) (graph_listed n) s.grows q has in
      let is : n ≡ m =
      ap (λ b. if b then with_event (link_of l.next e.1 x) at
      else record at { pending = pending_more l.pending j (link_of l.next e.1 x) }) (sym lt)
      ∙ ap (λ o. added_or_pending k o (link_of l.next e.1 x) at) (sym slot) ∙ operand_is e l m h in
      subst (λ (z : Listing). Aliases (graph_listed z) z.next e.1.identifier x.identifier) is (
        AliasLink,
        tt,
        link_now done l [] kp AliasLink tt e.1.identifier x.identifier (there e.1.identifier ma)
            (there x.identifier mx),
      )

  operands_joined : (done : List IdentifierId) (os : List (BlockId × Place)) (l m : Listing) → Keeping done l
      → has_node (graph_listed l) x.identifier ≡ true → (q : BlockId) (j : ℕ) → slot_of_block blocks q ≡ Some j
      → nat_lt j k ≡ true
      → (a : Place) → has_node (graph_listed l) a.identifier ≡ true → value_at os q ≡ Some a
      → each (operand_listed blocks k x) os l ≡ Ok m → Aliases (graph_listed m) m.next a.identifier x.identifier
  operands_joined done [] l m kp mx q j slot lt a ma found h = absurd (cc)
  operands_joined done (e ∷ os) l m kp mx q j slot lt a ma found h =
      let w = went_on (operand_listed blocks k x e l) (λ t. each (operand_listed blocks k x) os t) m h in
      let s = step_operand done e l w.0 kp w.1 in
      let rest = step_operands done os w.0 m s.keeping w.2 in
      elim (same_block q e.0) as (λ b. same_block q e.0 ≡ b → cond b (Some e.1) (value_at os q) ≡ Some a
      → Aliases (graph_listed m) m.next a.identifier x.identifier) [
        | true ↦ λ is eq.
            let a_is : e.1 ≡ a = some_place e.1 a eq in
            let ids = ap (λ (z : Place). z.identifier) a_is in
            let now = operand_now done e l w.0 kp mx (ap (has_node (graph_listed l)) ids ∙ ma) j
            (ap (slot_of_block blocks) (sym (block_is q e.0 is)) ∙ slot) lt w.1 in
            subst (λ z. Aliases (graph_listed m) m.next z x.identifier) ids (
              now.0,
              now.1,
              joins_grow (graph_listed w.0) (graph_listed m) w.0.next m.next now.0 e.1.identifier
                  x.identifier rest.grows rest.later now.2,
            )
        | false ↦ λ is eq. operands_joined done os w.0 m s.keeping
            (grows_has (graph_listed l) (graph_listed w.0) s.grows x.identifier mx) q j slot lt a
            (grows_has (graph_listed l) (graph_listed w.0) s.grows a.identifier ma) eq w.2
      ] refl found
    where
      some_place : (b c : Place) → (let o : Option Place = Some b in o ≡ Some c) → b ≡ c
      some_place b c h = cc

-- the block that a path comes from is done, where k blocks are
abbrev pub IsDone : List (BlockId × BasicBlock) → ℕ → Option BlockId → Type 0
IsDone blocks k None = Unit {0}
IsDone blocks k (Some q) = (j : ℕ) × (slot_of_block blocks q ≡ Some j) × (nat_lt j k ≡ true)

module _ (blocks : List (BlockId × BasicBlock)) (k : ℕ) (phi : Phi) (done : List IdentifierId) (l m : Listing)
    (h : History) (kp : Keeping done l) (new : is_among done phi.place.identifier ≡ false)
    (e : phi_listed blocks k phi l ≡ Ok m) where
  abbrev x : IdentifierId
  x = phi.place.identifier

  abbrev with_phi : Listing
  with_phi = made PhiNode phi.place l

  make_phi : Step (x ∷ done) l with_phi
  make_phi = step_make done l kp x PhiNode new

  phi_step : Step (x ∷ done) l m
  phi_step = step_on (x ∷ done) (x ∷ done) l with_phi m make_phi
      (step_operands blocks k phi.place (x ∷ done) phi.operands with_phi m make_phi.keeping e)

  found_sound : Sound (graph_listed m) m.next h → (from : Option BlockId) → IsDone blocks k from → (o : Option Place)
      → operand_by from phi.operands ≡ o → Sound (graph_listed m) m.next (after_phi phi.place o h)
  found_sound s from over None is = sound_clears (graph_listed m) m.next h s x
  found_sound s None over (Some a) is = absurd (cc)
  found_sound s (Some q) over (Some a) is =
      sound_copies (graph_listed m) m.next h s a.identifier x
      (λ ma. operands_joined blocks k phi.place (x ∷ done) phi.operands with_phi m make_phi.keeping
      (here_now done with_phi x make_phi.keeping) q over.0 over.1 over.2 a
      (make_phi.keeping.agree a.identifier ∙ (sym (phi_step.keeping.agree a.identifier) ∙ ma)) is e)

  pub phi_moves : (from : Option BlockId) → IsDone blocks k from
      → Moves (x ∷ done) l m h (after_phi phi.place (operand_by from phi.operands) h)
  phi_moves from over = record {
    step = phi_step;
    sound = λ w. found_sound (known (x ∷ done) l m h phi_step w) from over (operand_by from phi.operands) refl;
  }
