-- What a function records doesn't depend on the effects of its places.
use Rattle.std.proofs.Common.{◌≡◌, ℕ, ◌+◌, List, [], ◌∷◌, ◌++◌, Option, Some, None, length, map, option_map, position}
use Rattle.std.proofs.Common.{replicate, slice_get, refl, ap, sym, ◌∙◌}
use Rattle.std.specs.Prelude.{Result, Ok, Err}
use Rattle.std.specs.Map.{keys_of}
use Rattle.std.proofs.lemmas.Option.{slice_get-map}
use Rattle.std.proofs.lemmas.List.{length-map}
use Rattle.alias_base.specs.Answer.{◌>>=◌}
use Rattle.alias_base.specs.Find.{same_block}
use Rattle.alias_base.specs.declared.ids.BlockId.{BlockId}
use Rattle.alias_base.specs.declared.ids.InstructionId.{InstructionId}
use Rattle.alias_hir.specs.declared.error.HirError.{HirError}
use Rattle.alias_hir.specs.declared.hir.BasicBlock.{BasicBlock}
use Rattle.alias_hir.specs.declared.hir.HirFunction.{HirFunction}
use Rattle.alias_hir.specs.declared.hir.Instruction.{Instruction}
use Rattle.alias_hir.specs.declared.hir.ParamPattern.{ParamPattern}
use Rattle.alias_hir.specs.declared.hir.ParamPattern.TheVariants as param
use Rattle.alias_hir.specs.declared.hir.Phi.{Phi}
use Rattle.alias_hir.specs.declared.place.Place.{Place}
use Rattle.alias_hir.specs.declared.terminal.Terminal.{Terminal}
use Rattle.alias_hir.specs.declared.terminal.Terminal.TheVariants as terminal
use Rattle.alias_hir.specs.Parts.{param_place}
use Rattle.alias_hir.specs.Terminals.{terminal_effects}
use Rattle.alias_graph.specs.declared.events.GraphEvent.{GraphEvent}
use Rattle.alias_graph.specs.declared.recorded.listing.Listing.{Listing}
use Rattle.alias_graph.specs.recorded.BlockListings.{link_of, added_or_pending, operand_listed, phi_listed}
use Rattle.alias_graph.specs.recorded.BlockListings.{returns_listed, aliases_in, with_pending, end_listed, block_listed}
use Rattle.alias_graph.specs.recorded.BlockListings.{blocks_listed, object_of, first_events, first_listing, listed}
use Rattle.alias_graph.specs.recorded.Each.{each}
use Rattle.alias_graph.specs.recorded.Listings.{position_after, recorded_in, instruction_listed}
use Rattle.alias_range_pass.specs.Laws.{but_param, but_places}
use Rattle.alias_range_pass.specs.places.Keeping.{but_effect, but_instruction, but_terminal, but_operand, but_phi}
use Rattle.alias_range_pass.specs.places.Keeping.{but_block, but_entry}

bind_same : {A B E : Type 0} (r : Result A E) (f g : A → Result B E) → ((x : A) → f x ≡ g x) → (r >>= f) ≡ (r >>= g)
bind_same (Ok x) f g same = same x
bind_same (Err e) f g same = refl

each_same : {A B : Type 0} (f : A → Listing → Result Listing HirError) (g : B → Listing → Result Listing HirError)
    (h : A → B) → ((x : A) (l : Listing) → g (h x) l ≡ f x l) → (xs : List A) (l : Listing) → each g (map h xs) l
    ≡ each f xs l
each_same f g h same [] l = refl
each_same f g h same (x ∷ xs) l =
    ap (λ r. r >>= (λ t. each g (map h xs) t)) (same x l)
    ∙ bind_same (f x l) (λ t. each g (map h xs) t) (λ t. each f xs t) (each_same f g h same xs)

each_alike : {A : Type 0} (f g : A → Listing → Result Listing HirError) → ((x : A) (l : Listing) → g x l ≡ f x l)
    → (xs : List A) (l : Listing) → each g xs l ≡ each f xs l
each_alike f g same [] l = refl
each_alike f g same (x ∷ xs) l = ap (λ r. r >>= (λ t. each g xs t)) (same x l)
    ∙ bind_same (f x l) (λ t. each g xs t) (λ t. each f xs t) (each_alike f g same xs)

keys_same : (bs : List (BlockId × BasicBlock)) → keys_of (map but_entry bs) ≡ keys_of bs
keys_same [] = refl
keys_same (b ∷ bs) = ap (λ ks. b.0 ∷ ks) (keys_same bs)

recorded_same : (i : InstructionId) (o : Option Instruction) (l : Listing)
    → recorded_in i (option_map but_instruction o) l ≡ recorded_in i o l
recorded_same i None l = refl
recorded_same i (Some n) l = refl

instruction_same : (is : List Instruction) (i : InstructionId) (l : Listing)
    → instruction_listed (map but_instruction is) i l ≡ instruction_listed is i l
instruction_same is i l = ap (λ o. recorded_in i o l) (slice_get-map but_instruction is i.0)
    ∙ recorded_same i (slice_get is i.0) l

returns_same : (returns : Place) (t : Terminal) (l : Listing) → returns_listed returns (but_terminal t) l
    ≡ returns_listed returns t l
returns_same returns (terminal.Return id value effects) l = refl
returns_same returns t l = refl

effects_same : (t : Terminal) → terminal_effects (but_terminal t) ≡ terminal_effects t
effects_same (terminal.Return id value effects) = refl
effects_same t = refl

end_same : (returns : Place) (k : ℕ) (t : Terminal) (l : Listing) → end_listed returns k (but_terminal t) l
    ≡ end_listed returns k t l
end_same returns k t l =
    ap (λ r. r >>= (λ x. aliases_in (terminal_effects (but_terminal t)) x)) (returns_same returns t (with_pending k l))
    ∙ ap (λ es. returns_listed returns t (with_pending k l) >>= (λ x. aliases_in es x)) (effects_same t)

module _ (f : HirFunction) where
  abbrev bs : List (BlockId × BasicBlock)
  bs = f.body.blocks

  operand_same : (k : ℕ) (x : Place) (e : BlockId × Place) (l : Listing)
      → operand_listed (map but_entry bs) k (but_effect x) (but_operand e) l ≡ operand_listed bs k x e l
  operand_same k x e l =
      ap (λ ks. position_after l.next >>= (λ after. let r : Result Listing HirError =
      Ok (added_or_pending k (position (same_block e.0) ks) (link_of l.next e.1 x) (record l { next = after })) in
      r)) (keys_same bs)

  phi_same : (k : ℕ) (phi : Phi) (l : Listing) → phi_listed (map but_entry bs) k (but_phi phi) l ≡ phi_listed bs k phi l
  phi_same k phi l = each_same (operand_listed bs k phi.place)
      (operand_listed (map but_entry bs) k (but_effect phi.place)) but_operand (operand_same k phi.place) phi.operands _

  block_same : (k : ℕ) (b : BasicBlock) (l : Listing) → block_listed (but_places f) k (but_block b) l
      ≡ block_listed f k b l
  block_same k b l =
      let is = map but_instruction f.instructions in
      let there : Listing → Result Listing HirError = λ p. each (instruction_listed is) b.instructions p
      >>= (λ q. end_listed f.returns k (but_terminal b.terminal) q) in
      let here : Listing → Result Listing HirError = λ p. each (instruction_listed f.instructions) b.instructions p
      >>= (λ q. end_listed f.returns k b.terminal q) in
      ap (λ r. r >>= there) (each_same (phi_listed bs k) (phi_listed (map but_entry bs) k) but_phi (phi_same k) b.phis
      l)
      ∙ bind_same (each (phi_listed bs k) b.phis l) there here (λ p.
      ap (λ r. r >>= (λ q. end_listed f.returns k (but_terminal b.terminal) q))
      (each_alike (instruction_listed f.instructions) (instruction_listed is) (instruction_same f.instructions)
      b.instructions p)
      ∙ bind_same (each (instruction_listed f.instructions) b.instructions p)
      (λ q. end_listed f.returns k (but_terminal b.terminal) q) (λ q. end_listed f.returns k b.terminal q)
      (end_same f.returns k b.terminal))

  blocks_same : (xs : List (BlockId × BasicBlock)) (k : ℕ) (l : Listing)
      → blocks_listed (but_places f) k (map but_entry xs) l ≡ blocks_listed f k xs l
  blocks_same [] k l = refl
  blocks_same (b ∷ xs) k l =
      ap (λ r. r >>= (λ m. blocks_listed (but_places f) (k + 1) (map but_entry xs) m)) (block_same k b.1 l)
      ∙ bind_same (block_listed f k b.1 l) (λ m. blocks_listed (but_places f) (k + 1) (map but_entry xs) m)
      (λ m. blocks_listed f (k + 1) xs m) (blocks_same xs (k + 1))

  params_same : (ps : List ParamPattern) → map (λ p. object_of (param_place p)) (map but_param ps)
      ≡ map (λ p. object_of (param_place p)) ps
  params_same [] = refl
  params_same (param.Place p ∷ ps) = ap (λ z. object_of p ∷ z) (params_same ps)
  params_same (param.Spread s ∷ ps) = ap (λ z. object_of s.place ∷ z) (params_same ps)

  context_same : (ps : List Place) → map object_of (map but_effect ps) ≡ map object_of ps
  context_same [] = refl
  context_same (p ∷ ps) = ap (λ z. object_of p ∷ z) (context_same ps)

  first_same : first_listing (but_places f) ≡ first_listing f
  first_same =
      let begun : List GraphEvent → List (List GraphEvent) → Listing =
      λ es ps. record { next = 0; events = es; mutations = []; renders = []; pending = ps; summary = [] } in
      ap (λ es. begun es (replicate (length (map but_entry bs)) []))
      (ap (λ ps. ps ++ map object_of (map but_effect f.context) ++ object_of f.returns ∷ []) (params_same f.params)
      ∙ ap (λ cs. map (λ p. object_of (param_place p)) f.params ++ cs ++ object_of f.returns ∷ [])
      (context_same f.context))
      ∙ ap (λ n. begun (first_events f) (replicate n [])) (length-map bs but_entry)

  placed_same : listed (but_places f) ≡ listed f
  placed_same = ap (λ l. blocks_listed (but_places f) 0 (map but_entry bs) l) first_same
      ∙ blocks_same bs 0 (first_listing f)

-- functions that differ in effects of places alone record the same
pub listed_alike : (f g : HirFunction) → but_places g ≡ but_places f → listed g ≡ listed f
listed_alike f g same = sym (placed_same g) ∙ ap listed same ∙ placed_same f
