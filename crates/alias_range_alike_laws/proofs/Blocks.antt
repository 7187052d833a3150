-- What the blocks of functions that carry alike record.
use Rattle.std.specs.Prelude.{◌≡◌, ℕ, ◌+◌, List, [], ◌∷◌, Option, Some, None, Result, Ok, nat_lt, position, replicate}
use Rattle.std.specs.Prelude.{refl}
use Rattle.std.proofs.Common.{ap, sym, subst}
use Rattle.std.specs.Map.{keys_of}
use Rattle.alias_base.specs.Answer.{◌>>=◌}
use Rattle.alias_base.specs.Find.{same_block}
use Rattle.alias_base.specs.declared.ids.BlockId.{BlockId}
use Rattle.alias_hir.specs.Terminals.{terminal_effects, with_terminal_effects}
use Rattle.alias_hir.specs.declared.effect.AliasingEffect.{AliasingEffect}
use Rattle.alias_hir.specs.declared.error.HirError.{HirError}
use Rattle.alias_hir.specs.declared.hir.BasicBlock.{BasicBlock}
use Rattle.alias_hir.specs.declared.hir.HirFunction.{HirFunction}
use Rattle.alias_hir.specs.declared.hir.Instruction.{Instruction}
use Rattle.alias_hir.specs.declared.hir.Phi.{Phi}
use Rattle.alias_hir.specs.declared.place.Place.{Place}
use Rattle.alias_hir.specs.declared.terminal.Terminal.{Terminal}
use Rattle.alias_hir.specs.declared.terminal.Terminal.TheVariants as terminal
use Rattle.alias_graph.specs.declared.types.EdgeKind.TheVariants.{Alias}
use Rattle.alias_graph.specs.declared.types.NodeValue.TheVariants.{Phi as PhiNode}
use Rattle.alias_graph.specs.declared.events.GraphEvent.{GraphEvent}
use Rattle.alias_graph.specs.declared.events.GraphEvent.TheVariants as event
use Rattle.alias_graph.specs.declared.recorded.listing.Listing.{Listing}
use Rattle.alias_graph.specs.recorded.Each.{each}
use Rattle.alias_graph.specs.recorded.Listings.{position_after, instruction_listed}
use Rattle.alias_graph.specs.recorded.BlockListings.{pending_more, added_or_pending, link_of, slot_of_block}
use Rattle.alias_graph.specs.recorded.BlockListings.{operand_listed, phi_listed, returns_listed, alias_listed}
use Rattle.alias_graph.specs.recorded.BlockListings.{aliases_in, with_pending, end_listed, block_listed, blocks_listed}
use Rattle.alias_graph.specs.recorded.BlockListings.{first_listing, listed}
use Rattle.alias_certificate_laws.specs.accepting.Alike.{Paired, none, more, Maybe, nothing, just, Alike, apply}
use Rattle.alias_certificate_laws.specs.accepting.Alike.{create_from, immutable_capture, assign, alias, capture}
use Rattle.alias_certificate_laws.specs.accepting.Alike.{maybe_alias, create, freeze, impure, mutate_frozen}
use Rattle.alias_certificate_laws.specs.accepting.Alike.{mutate_global, render, mutate, mutate_conditionally}
use Rattle.alias_certificate_laws.specs.accepting.Alike.{mutate_transitive, mutate_transitive_conditionally}
use Rattle.alias_certificate_laws.specs.accepting.Alike.{create_function, AlikeEffects}
use Rattle.alias_certificate_laws.proofs.accepting.Likeness.{alike_self, paired_self}
use Rattle.alias_range_alike_laws.specs.Ranging.{CarryAlike, EndAlike, stays, ended}
use Rattle.alias_range_alike_laws.proofs.Answers.{answered, both_then, both_after, each_alike, each_same, same_length}
use Rattle.alias_range_alike_laws.proofs.Listings.{AlikeListing, listing, BothListed, chosen_alike, event_alike}
use Rattle.alias_range_alike_laws.proofs.Listings.{linked_alike, instruction_alike}

-- ---- terminals

-- what is returned is the same, whatever effects it carries
returns_same : (returns : Place) (t : Terminal) (l m : Listing) → AlikeListing l m
    → BothListed (returns_listed returns t l) (returns_listed returns t m)
returns_same returns (terminal.Return id value effects) l m q = linked_alike Alias value returns l m q
returns_same returns t l m q = answered q

returns_alike : (returns : Place) (t : Terminal) (effects : List AliasingEffect) (l m : Listing) → AlikeListing l m
    → BothListed (returns_listed returns t l) (returns_listed returns (with_terminal_effects t effects) m)
returns_alike returns (terminal.Return id value old) effects l m q = linked_alike Alias value returns l m q
returns_alike returns t effects l m q = answered q

alias_alike : (e f : AliasingEffect) (l m : Listing) → Alike e f → AlikeListing l m
    → BothListed (alias_listed e l) (alias_listed f m)
alias_alike e f l m (alias a b x y) q = linked_alike Alias a x l m q
alias_alike e f l m (apply r s g h x y mutates args others signature span other h') q = answered q
alias_alike e f l m (create_from a b x y) q = answered q
alias_alike e f l m (immutable_capture a b x y) q = answered q
alias_alike e f l m (assign a b x y) q = answered q
alias_alike e f l m (capture a b x y) q = answered q
alias_alike e f l m (maybe_alias a b x y) q = answered q
alias_alike e f l m (create x y k r) q = answered q
alias_alike e f l m (freeze v w r) q = answered q
alias_alike e f l m (impure p s d g) q = answered q
alias_alike e f l m (mutate_frozen p s d g) q = answered q
alias_alike e f l m (mutate_global p s d g) q = answered q
alias_alike e f l m (render x p) q = answered q
alias_alike e f l m (mutate v w r s) q = answered q
alias_alike e f l m (mutate_conditionally v w) q = answered q
alias_alike e f l m (mutate_transitive v w) q = answered q
alias_alike e f l m (mutate_transitive_conditionally v w) q = answered q
alias_alike e f l m (create_function x y g ps qs h) q = answered q

aliases_alike : (o p : Option (List AliasingEffect)) (l m : Listing) → Maybe AlikeEffects o p → AlikeListing l m
    → BothListed (aliases_in o l) (aliases_in p m)
aliases_alike o p l m nothing q = answered q
aliases_alike o p l m (just {a = a} {b = b} h) q =
    each_alike Alike AlikeListing alias_listed alias_listed alias_alike a b l m h q

pub effects_self : (o : Option (List AliasingEffect)) → Maybe AlikeEffects o o
effects_self None = nothing
effects_self (Some es) = just (paired_self Alike alike_self es)

pending_alike : (k : ℕ) (l m : Listing) → AlikeListing l m → AlikeListing (with_pending k l) (with_pending k m)
pending_alike k l m (listing _ ms rs es a b c) = listing (with_pending k l) ms rs es a b c

end_alike : (returns : Place) (k : ℕ) (t u : Terminal) (l m : Listing)
    → ((l m : Listing) → AlikeListing l m → BothListed (returns_listed returns t l) (returns_listed returns u m))
    → Maybe AlikeEffects (terminal_effects t) (terminal_effects u)
    → AlikeListing l m → BothListed (end_listed returns k t l) (end_listed returns k u m)
end_alike returns k t u l m same h q =
    both_then AlikeListing AlikeListing (returns_listed returns t (with_pending k l))
    (returns_listed returns u (with_pending k m)) (aliases_in (terminal_effects t))
    (aliases_in (terminal_effects u))
    (same (with_pending k l) (with_pending k m) (pending_alike k l m q))
    (λ r s z. aliases_alike (terminal_effects t) (terminal_effects u) r s h z)

-- ---- phis

waiting_alike : (k p : ℕ) (e : GraphEvent) (l m : Listing) → AlikeListing l m
    → AlikeListing (record l { pending = pending_more l.pending p e })
    (record m { pending = pending_more m.pending p e })
waiting_alike k p e l m (listing _ ms rs es a b c) =
    listing (record l { pending = pending_more l.pending p e }) ms rs es a b c

added_alike : (k : ℕ) (o : Option ℕ) (e : GraphEvent) (l m : Listing) → AlikeListing l m
    → AlikeListing (added_or_pending k o e l) (added_or_pending k o e m)
added_alike k None e l m q = q
added_alike k (Some p) e l m q =
    chosen_alike (nat_lt p k) _ _ (record l { pending = pending_more l.pending p e })
    (record m { pending = pending_more m.pending p e }) (event_alike e l m q) (waiting_alike k p e l m q)

-- an operand, whose block stands in this slot
abbrev by_slot : ℕ → Option ℕ → Place → Place → Listing → Result Listing HirError
by_slot k slot x y l = position_after l.next
    >>= (λ after. Ok (added_or_pending k slot (link_of l.next y x) (record l { next = after })))

slot_alike : (k : ℕ) (slot : Option ℕ) (x y : Place) (l m : Listing) → AlikeListing l m
    → BothListed (by_slot k slot x y l) (by_slot k slot x y m)
slot_alike k slot x y l m (listing _ ms rs es a b c) =
    let other : Listing = record l { mutations = ms; renders = rs; summary = es } in
    both_after AlikeListing (position_after l.next)
    (λ after. Ok (added_or_pending k slot (link_of l.next y x) (record l { next = after })))
    (λ after. Ok (added_or_pending k slot (link_of l.next y x) (record other { next = after })))
    (λ after. answered (added_alike k slot (link_of l.next y x) (record l { next = after })
    (record other { next = after }) (listing (record l { next = after }) ms rs es a b c)))

module _ (xs ys : List (BlockId × BasicBlock)) (names : keys_of ys ≡ keys_of xs) where
  operand_alike : (k : ℕ) (x : Place) (e : BlockId × Place) (l m : Listing) → AlikeListing l m
      → BothListed (operand_listed xs k x e l) (operand_listed ys k x e m)
  operand_alike k x e l m q =
      subst (λ (ns : List BlockId). BothListed (operand_listed xs k x e l)
      (by_slot k (position (same_block e.0) ns) x e.1 m)) (sym names)
      (slot_alike k (slot_of_block xs e.0) x e.1 l m q)

  phi_alike : (k : ℕ) (phi : Phi) (l m : Listing) → AlikeListing l m
      → BothListed (phi_listed xs k phi l) (phi_listed ys k phi m)
  phi_alike k phi l m q =
      each_same AlikeListing (operand_listed xs k phi.place) (operand_listed ys k phi.place)
      (λ e s t h. operand_alike k phi.place e s t h) phi.operands _ _
      (event_alike (event.Make phi.place.identifier PhiNode) l m q)

  phis_alike : (k : ℕ) (phis : List Phi) (l m : Listing) → AlikeListing l m
      → BothListed (each (phi_listed xs k) phis l) (each (phi_listed ys k) phis m)
  phis_alike k phis l m q = each_same AlikeListing (phi_listed xs k) (phi_listed ys k)
      (λ phi s t h. phi_alike k phi s t h) phis l m q

-- the blocks of a function and of one that carries alike have the same names
pub names_alike : (xs ys : List (BlockId × BasicBlock)) → Paired EndAlike xs ys → keys_of ys ≡ keys_of xs
names_alike xs ys none = refl
names_alike xs ys (more {xs = us} {ys = vs} (stays b block) ps) =
    ap (λ (ns : List BlockId). b ∷ ns) (names_alike us vs ps)
names_alike xs ys (more {xs = us} {ys = vs} (ended b block effects h) ps) =
    ap (λ (ns : List BlockId). b ∷ ns) (names_alike us vs ps)

-- ---- a function

-- the function with these instructions and blocks
abbrev pub with_parts : HirFunction → List Instruction → List (BlockId × BasicBlock) → HirFunction
with_parts f is bs = record f { instructions = is; body = record f.body { blocks = bs } }

module _ (f : HirFunction) (is : List Instruction) (bs : List (BlockId × BasicBlock))
    (carry : Paired CarryAlike f.instructions is) (ends : Paired EndAlike f.body.blocks bs) where
  abbrev g : HirFunction
  g = with_parts f is bs

  block_by : (k : ℕ) (b : BasicBlock) (t : Terminal)
      → ((l m : Listing) → AlikeListing l m → BothListed (returns_listed f.returns b.terminal l)
      (returns_listed f.returns t m)) → Maybe AlikeEffects (terminal_effects b.terminal) (terminal_effects t)
      → (l m : Listing) → AlikeListing l m → BothListed (block_listed f k b l)
      (block_listed g k (record b { terminal = t }) m)
  block_by k b t same h l m q =
      both_then AlikeListing AlikeListing (each (phi_listed f.body.blocks k) b.phis l) (each (phi_listed bs k) b.phis m)
      (λ p. each (instruction_listed f.instructions) b.instructions p >>= (λ r. end_listed f.returns k b.terminal r))
      (λ p. each (instruction_listed is) b.instructions p >>= (λ r. end_listed f.returns k t r))
      (phis_alike f.body.blocks bs (names_alike f.body.blocks bs ends) k b.phis l m q)
      (λ s u z.
      both_then AlikeListing AlikeListing (each (instruction_listed f.instructions) b.instructions s)
      (each (instruction_listed is) b.instructions u) (end_listed f.returns k b.terminal) (end_listed f.returns k t)
      (each_same AlikeListing (instruction_listed f.instructions) (instruction_listed is)
      (instruction_alike f.instructions is carry) b.instructions s u z)
      (λ v w y. end_alike f.returns k b.terminal t v w same h y))

  block_alike : (k : ℕ) (x y : BlockId × BasicBlock) → EndAlike x y → (l m : Listing) → AlikeListing l m
      → BothListed (block_listed f k x.1 l) (block_listed g k y.1 m)
  block_alike k x y (stays b block) l m q =
      block_by k block block.terminal (returns_same f.returns block.terminal)
      (effects_self (terminal_effects block.terminal)) l m q
  block_alike k x y (ended b block effects h) l m q =
      block_by k block (with_terminal_effects block.terminal effects) (returns_alike f.returns block.terminal effects) h
      l m q

  blocks_alike : (k : ℕ) (xs ys : List (BlockId × BasicBlock)) → Paired EndAlike xs ys → (l m : Listing)
      → AlikeListing l m → BothListed (blocks_listed f k xs l) (blocks_listed g k ys m)
  blocks_alike k xs ys none l m q = answered q
  blocks_alike k xs ys (more {a = a} {b = b} {xs = us} {ys = vs} p ps) l m q =
      both_then AlikeListing AlikeListing (block_listed f k a.1 l) (block_listed g k b.1 m)
      (λ s. blocks_listed f (k + 1) us s) (λ s. blocks_listed g (k + 1) vs s) (block_alike k a b p l m q)
      (λ s t z. blocks_alike (k + 1) us vs ps s t z)

  first_alike : AlikeListing (first_listing f) (first_listing g)
  first_alike =
      subst (λ (n : ℕ). AlikeListing (first_listing f) (record (first_listing f) { pending = replicate n [] }))
      (sym (same_length f.body.blocks bs ends)) (listing (first_listing f) [] [] [] none none none)

  pub listed_alike : BothListed (listed f) (listed g)
  listed_alike = blocks_alike 0 f.body.blocks bs ends (first_listing f) (first_listing g) first_alike
