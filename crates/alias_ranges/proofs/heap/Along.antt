-- A path goes through the blocks in stored order, beside the listing, and comes to a moment with what is known of the
-- heap.
use Rattle.std.proofs.Common.{◌≡◌, ℕ, zero, suc, ◌+◌, ◌-◌, ◌<◌, ◌≤◌, ⊎_elim, true, List, [], ◌∷◌, ◌++◌, map, length}
use Rattle.std.proofs.Common.{replicate, Option, Some, None, slice_get, refl, ap, sym, ◌∙◌, subst, arith, append_assoc}
use Rattle.std.proofs.Common.{append-nil, add-zero}
use Rattle.std.specs.Prelude.{Result, Ok}
use Rattle.std.specs.List.{flat_map}
use Rattle.std.proofs.lemmas.Bool.{cases_eq}
use Rattle.alias_base.specs.Answer.{◌>>=◌}
use Rattle.alias_base.specs.declared.ids.BlockId.{BlockId}
use Rattle.alias_base.specs.declared.ids.EvaluationOrder.{EvaluationOrder}
use Rattle.alias_base.specs.declared.ids.IdentifierId.{IdentifierId}
use Rattle.alias_base.specs.declared.ids.InstructionId.{InstructionId}
use Rattle.alias_base.specs.Find.{value_at}
use Rattle.alias_hir.specs.declared.effect.AliasingEffect.{AliasingEffect}
use Rattle.alias_hir.specs.declared.error.HirError.{HirError}
use Rattle.alias_hir.specs.declared.hir.BasicBlock.{BasicBlock}
use Rattle.alias_hir.specs.declared.hir.HirFunction.{HirFunction}
use Rattle.alias_hir.specs.declared.place.Place.{Place}
use Rattle.alias_hir.specs.Parts.{param_place}
use Rattle.alias_graph.specs.declared.types.NodeValue.TheVariants.{Object}
use Rattle.alias_graph.specs.recorded.BlockListings.{with_pending, block_listed, blocks_listed, object_of}
use Rattle.alias_graph.specs.recorded.BlockListings.{first_listing, listed}
use Rattle.alias_graph.specs.declared.recorded.listing.Listing.{Listing}
use Rattle.alias_graph.specs.recorded.Each.{each}
use Rattle.alias_graph.proofs.FitLaws.{went_on}
use Rattle.alias_graph.specs.recorded.Listings.{made, effect_listed}
use Rattle.alias_graph.specs.recorded.Recording.{graph_listed}
use Rattle.alias_ranges.specs.heap.Heap.{History}
use Rattle.alias_ranges.specs.heap.Items.{Item, Starts, Does, start_items, body_items, end_items, block_items}
use Rattle.alias_ranges.specs.heap.Making.{made_places, makes_in_order, makes_once}
use Rattle.alias_ranges.specs.heap.Histories.{after_items, after_block, after_blocks, last_of}
use Rattle.alias_ranges.specs.heap.Paths.{is_forward, Moment, history_at}
use Rattle.alias_ranges.proofs.heap.Linking.{Grows, grows_on}
use Rattle.alias_ranges.proofs.heap.Reaching.{Sound, sound_grows}
use Rattle.alias_ranges.proofs.heap.Steps.{AllWait, Keeping, HasMore, more_more, Step, step_none, step_on, step_pending}
use Rattle.alias_ranges.proofs.heap.Steps.{okay_is}
use Rattle.alias_ranges.proofs.heap.Effects.{Moves, stays}
use Rattle.alias_ranges.proofs.heap.Operands.{IsDone}
use Rattle.alias_ranges.proofs.heap.Items.{each_append, item_listed, items_listed, block_parts, all_made}
use Rattle.alias_ranges.proofs.heap.Items.{in_order_parts, all_made_append, after_append, moves_on, items_moves}
use Rattle.alias_ranges.proofs.heap.Slots.{Blocks, Rises, lower, is_lower, rises_from_start}

one_block : {v w : BasicBlock} → (let o : Option BasicBlock = Some v in o ≡ Some w) → v ≡ w
one_block h = cc

past : (k j : ℕ) → k ≤ j → (j ≡ k → ⊥) → k + 1 ≤ j
past k j le other = omega arith

-- ---- a block

module _ (f : HirFunction) where
  abbrev all : List IdentifierId
  all = made_places f

  abbrev blocks : Blocks
  blocks = f.body.blocks

  -- what follows the body of a block
  end_moves : (k : ℕ) (from : Option BlockId) → IsDone blocks k from
      → (done : List IdentifierId) (b : BasicBlock) (n m : Listing) (h : History) → Keeping done n
      → makes_in_order all done (end_items f b) ≡ true → items_listed blocks k (end_items f b) (with_pending k n) ≡ Ok m
      → Moves (all_made (end_items f b) done) n m h (after_items all from (end_items f b) h)
  end_moves k from over done b n m h kp fit e =
      let s = step_pending done n kp k in
      moves_on done (all_made (end_items f b) done) n (with_pending k n) m h h (after_items all from (end_items f b) h)
      (stays done n (with_pending k n) h s)
      (items_moves all blocks k from over done (end_items f b) (with_pending k n) m h s.keeping fit e)

  block_moves : (k : ℕ) (from : Option BlockId) → IsDone blocks k from
      → (done : List IdentifierId) (b : BasicBlock) (l m : Listing) (h : History) → Keeping done l
      → makes_in_order all done (block_items f b) ≡ true → block_listed f k b l ≡ Ok m
      → Moves (all_made (block_items f b) done) l m h (after_items all from (block_items f b) h)
  block_moves k from over done b l m h kp fit e =
      let parts = block_parts f k b l m e in
      let fits = in_order_parts all done (body_items f b) (end_items f b) fit in
      let body = items_moves all blocks k from over done (body_items f b) l parts.0 h kp fits.0 parts.1 in
      let between = all_made (body_items f b) done in
      let middle = after_items all from (body_items f b) h in
      let ends = end_moves k from over between b parts.0 m middle body.step.keeping fits.1 parts.2 in
      let whole = moves_on between (all_made (end_items f b) between) l parts.0 m h middle
      (after_items all from (end_items f b) middle) body ends in
      let P : List IdentifierId → Type 0 = λ z. Moves z l m h (after_items all from (block_items f b) h) in
      let Q : History → Type 0 = λ z. Moves (all_made (end_items f b) between) l m h z in
      subst P (sym (all_made_append (body_items f b) (end_items f b) done))
      (subst Q (sym (after_append all from (body_items f b) (end_items f b) h)) whole)

  -- ---- blocks

  abbrev items_of : Blocks → List Item
  items_of bs = flat_map (λ (b : BlockId × BasicBlock). block_items f b.1) bs

  -- the graph grows, and mutations are added, up to the end
  blocks_step : (bs : Blocks) (k : ℕ) (done : List IdentifierId) (l m : Listing) → Keeping done l
      → makes_in_order all done (items_of bs) ≡ true → blocks_listed f k bs l ≡ Ok m → (more : List IdentifierId)
      × Step more l m
  blocks_step [] k done l m kp fit e = (done, subst (Step done l) (okay_is l m e) (step_none done l kp))
  blocks_step (b ∷ bs) k done l m kp fit e =
      let w = went_on (block_listed f k b.1 l) (λ n. blocks_listed f (k + 1) bs n) m e in
      let fits = in_order_parts all done (block_items f b.1) (items_of bs) fit in
      let s = block_moves k None tt done b.1 l w.0 [] kp fits.0 w.1 in
      let r = blocks_step bs (k + 1) (all_made (block_items f b.1) done) w.0 m s.step.keeping fits.1 w.2 in
      (r.0, step_on (all_made (block_items f b.1) done) r.0 l w.0 m s.step r.1)

  -- ---- moments

  -- the listing comes to the effect, with what is known of the heap there, and goes on to the last one
  pub record Reached (h : History) (i : InstructionId) (order : EvaluationOrder) (act : AliasingEffect)
      (last : Listing) : Type 0 where
    pub at : Listing
    pub next : Listing
    pub sound : Sound (graph_listed at) at.next h
    pub grows : Grows (graph_listed at) (graph_listed last)
    pub is_listed : effect_listed i order act at ≡ Ok next
    pub mutations : HasMore next.mutations last.mutations

  -- a moment in the body of a block, with what comes behind the block
  in_block : (k : ℕ) (from : Option BlockId) → IsDone blocks k from
      → (done : List IdentifierId) (b : BasicBlock) (l m last : Listing) (h : History) (its rest : List Item)
      (i : InstructionId) (order : EvaluationOrder) (act : AliasingEffect)
      → Sound (graph_listed l) l.next h → Keeping done l → makes_in_order all done (block_items f b) ≡ true
      → body_items f b ≡ its ++ Does i order act ∷ rest → block_listed f k b l ≡ Ok m
      → Grows (graph_listed m) (graph_listed last) → HasMore m.mutations last.mutations
      → Reached (after_items all from its h) i order act last
  in_block k from over done b l m last h its rest i order act s kp fit split e grows muts =
      let d = Does i order act in
      let parts = block_parts f k b l m e in
      let fits = in_order_parts all done (body_items f b) (end_items f b) fit in
      let F = item_listed blocks k in
      let body : items_listed blocks k (its ++ d ∷ rest) l ≡ Ok parts.0 =
      ap (λ z. items_listed blocks k z l) (sym split) ∙ parts.1 in
      let w = went_on (each F its l) (λ t. each F (d ∷ rest) t) parts.0 (sym (each_append F its (d ∷ rest) l) ∙ body) in
      let v = went_on (effect_listed i order act w.0) (λ t. each F rest t) parts.0 w.2 in
      let fit_body = in_order_parts all done its (d ∷ rest) (ap (makes_in_order all done) (sym split) ∙ fits.0) in
      let fit_rest = in_order_parts all (all_made its done) (d ∷ []) rest fit_body.1 in
      let first = items_moves all blocks k from over done its l w.0 h kp fit_body.0 w.1 in
      let one : items_listed blocks k (d ∷ []) w.0 ≡ Ok v.0 = ap (λ r. r >>= (λ t. each F [] t)) v.1 in
      let second = items_moves all blocks k from over (all_made its done) (d ∷ []) w.0 v.0 h first.step.keeping
      fit_rest.0 one in
      let made_then = all_made (d ∷ []) (all_made its done) in
      let third = items_moves all blocks k from over made_then rest v.0 parts.0 h second.step.keeping fit_rest.1 v.2 in
      let made_all = all_made rest made_then in
      let same : all_made (body_items f b) done ≡ made_all = ap (λ z. all_made z done) split
      ∙ all_made_append its (d ∷ rest) done in
      let ends = end_moves k from over made_all b parts.0 m h third.step.keeping
      (ap (λ z. makes_in_order all z (end_items f b)) (sym same) ∙ fits.1) parts.2 in
      let behind = step_on made_all (all_made (end_items f b) made_all) v.0 parts.0 m third.step ends.step in
      record {
        at = w.0;
        next = v.0;
        sound = first.sound s;
        grows = grows_on (graph_listed w.0) (graph_listed v.0) (graph_listed last) second.step.grows
            (grows_on (graph_listed v.0) (graph_listed m) (graph_listed last) behind.grows grows);
        is_listed = v.1;
        mutations = more_more v.0.mutations m.mutations last.mutations behind.mutations muts;
      }

  -- the blocks from slot k on are these
  abbrev AreFrom : ℕ → Blocks → Type 0
  AreFrom k bs = (n : ℕ) → slice_get blocks (k + n) ≡ slice_get bs n

  none_at : (k j : ℕ) (b : BlockId × BasicBlock) → AreFrom k [] → k ≤ j → slice_get blocks j ≡ Some b → ⊥
  none_at k j b are le is =
      let j_is : k + (j - k) ≡ j = omega arith in
      let none : slice_get blocks j ≡ None = ap (slice_get blocks) (sym j_is) ∙ are (j - k) in
      absurd (cc)

  first_is : (k : ℕ) (c b : BlockId × BasicBlock) (cs : Blocks) → AreFrom k (c ∷ cs) → slice_get blocks k ≡ Some b → c
      ≡ b
  first_is k c b cs are is =
      let first : slice_get blocks k ≡ Some c = ap (slice_get blocks) (sym (add-zero k)) ∙ are 0 in
      cc

  are_next : (k : ℕ) (c : BlockId × BasicBlock) (cs : Blocks) → AreFrom k (c ∷ cs) → AreFrom (k + 1) cs
  are_next k c cs are n = let is : k + 1 + n ≡ k + suc n = omega arith in ap (slice_get blocks) is ∙ are (suc n)

  still_done : (k : ℕ) (from : Option BlockId) → IsDone blocks k from → IsDone blocks (k + 1) from
  still_done k None over = tt
  still_done k (Some q) over = let lt : over.0 < k = lower over.0 k over.2 in
      (over.0, over.1, is_lower over.0 (k + 1) (omega arith))

  module _ (t : BlockId) (b : BasicBlock) (its rest : List Item) (i : InstructionId) (order : EvaluationOrder)
      (act : AliasingEffect) (found : value_at blocks t ≡ Some b)
      (split : body_items f b ≡ its ++ Does i order act ∷ rest) (last : Listing) where
    -- the moment is in the first of these blocks
    here_first : (bs : Blocks) (k : ℕ) (done : List IdentifierId) (c : BasicBlock) (l m : Listing) (h : History)
        (from : Option BlockId) → c ≡ b → IsDone blocks k from → Sound (graph_listed l) l.next h → Keeping done l
        → makes_in_order all done (block_items f c) ≡ true
        → makes_in_order all (all_made (block_items f c) done) (items_of bs) ≡ true → block_listed f k c l ≡ Ok m
        → blocks_listed f (k + 1) bs m ≡ Ok last → Reached (after_items all from its h) i order act last
    here_first bs k done c l m h from is over s kp fit fits e more =
        let now = block_moves k from over done c l m h kp fit e in
        let r = blocks_step bs (k + 1) (all_made (block_items f c) done) m last now.step.keeping fits more in
        in_block k from over done c l m last h its rest i order act s kp fit (ap (body_items f) is ∙ split) e r.1.grows
        r.1.mutations

    along : (bs : Blocks) (k : ℕ) (done : List IdentifierId) (l : Listing) (h : History) (from : Option BlockId)
        (before : List BlockId) → AreFrom k bs → Keeping done l → makes_in_order all done (items_of bs) ≡ true
        → Sound (graph_listed l) l.next h → IsDone blocks k from
        → Rises blocks k before t → blocks_listed f k bs l ≡ Ok last
        → Reached (after_items all (last_of from before) its (after_blocks f from before h)) i order act last
    along [] k done l h from [] are kp fit s over up e = absurd (none_at k up.1 (t, up.0) are up.2 up.3.entry)
    along [] k done l h from (p ∷ ps) are kp fit s over up e = absurd (none_at k up.1 (p, up.0) are up.2 up.3.entry)
    along (c ∷ cs) k done l h from [] are kp fit s over up e =
        let w = went_on (block_listed f k c.1 l) (λ n. blocks_listed f (k + 1) cs n) last e in
        let fits = in_order_parts all done (block_items f c.1) (items_of cs) fit in
        ⊎_elim
        (λ (is : up.1 ≡ k).
        let c_is : c ≡ (t, up.0) = first_is k c (t, up.0) cs are (ap (slice_get blocks) (sym is) ∙ up.3.entry) in
        let b_is : c.1 ≡ b = ap (λ (z : BlockId × BasicBlock). z.1) c_is ∙ one_block (sym up.3.found ∙ found) in
        here_first cs k done c.1 l w.0 h from b_is over s kp fits.0 fits.1 w.1 w.2)
        (λ (other : up.1 ≡ k → ⊥).
        let skip = block_moves k None tt done c.1 l w.0 [] kp fits.0 w.1 in
        let le : k ≤ up.1 = up.2 in
        along cs (k + 1) (all_made (block_items f c.1) done) w.0 h from [] (are_next k c cs are) skip.step.keeping
        fits.1
        (sound_grows (graph_listed l) (graph_listed w.0) l.next w.0.next h skip.step.grows skip.step.later s)
        (still_done k from over) (up.0, up.1, past k up.1 le other, up.3) w.2)
        (cases_eq up.1 k)
    along (c ∷ cs) k done l h from (p ∷ ps) are kp fit s over up e =
        let w = went_on (block_listed f k c.1 l) (λ n. blocks_listed f (k + 1) cs n) last e in
        let fits = in_order_parts all done (block_items f c.1) (items_of cs) fit in
        ⊎_elim
        (λ (is : up.1 ≡ k).
        let c_is : c ≡ (p, up.0) = first_is k c (p, up.0) cs are (ap (slice_get blocks) (sym is) ∙ up.3.entry) in
        let here : value_at blocks p ≡ Some c.1 = up.3.found ∙ ap (λ (z : BlockId × BasicBlock). Some z.1) (sym c_is) in
        let now = block_moves k from over done c.1 l w.0 h kp fits.0 w.1 in
        let P : Option BasicBlock → Type 0 = λ z.
        Reached (after_items all (last_of (Some p) ps) its (after_blocks f (Some p) ps (after_block f from z h))) i
        order act last in
        let Q : ℕ → Type 0 = λ z. Rises blocks (z + 1) ps t in
        subst P (sym here)
        (along cs (k + 1) (all_made (block_items f c.1) done) w.0 (after_items all from (block_items f c.1) h) (Some p)
        ps (are_next k c cs are) now.step.keeping fits.1 (now.sound s)
        (up.1, up.3.slot, is_lower up.1 (k + 1) (omega (arith, is))) (subst Q is up.4) w.2))
        (λ (other : up.1 ≡ k → ⊥).
        let skip = block_moves k None tt done c.1 l w.0 [] kp fits.0 w.1 in
        let le : k ≤ up.1 = up.2 in
        along cs (k + 1) (all_made (block_items f c.1) done) w.0 h from (p ∷ ps) (are_next k c cs are) skip.step.keeping
        fits.1
        (sound_grows (graph_listed l) (graph_listed w.0) l.next w.0.next h skip.step.grows skip.step.later s)
        (still_done k from over) (up.0, up.1, past k up.1 le other, up.3, up.4) w.2)
        (cases_eq up.1 k)

  -- ---- the start

  abbrev empty_listing : Listing
  empty_listing = record {
    next = 0;
    events = [];
    mutations = [];
    renders = [];
    pending = replicate (length blocks) [];
    summary = [];
  }

  starts_are : {A : Type 0} (place : A → Place) (xs : List A) (l : Listing)
      → items_listed blocks 0 (map (λ x. Starts (place x)) xs) l
      ≡ Ok (record l { events = l.events ++ map (λ x. object_of (place x)) xs })
  starts_are place [] l = ap (λ z. let m : Listing = record l { events = z } in let r : Result Listing HirError =
      Ok m in r) (sym (append-nil l.events))
  starts_are place (x ∷ xs) l =
      starts_are place xs (made Object (place x) l)
      ∙ ap (λ z. let m : Listing = record l { events = z } in let r : Result Listing HirError = Ok m in r)
      (append_assoc l.events (object_of (place x) ∷ []) (map (λ y. object_of (place y)) xs))

  start_listed : items_listed blocks 0 (start_items f) empty_listing ≡ Ok (first_listing f)
  start_listed =
      let F = item_listed blocks 0 in
      let params = map (λ p. object_of (param_place p)) f.params in
      let one : Listing = record empty_listing { events = params } in
      let places = map (λ p. Starts (param_place p)) f.params ++ map Starts f.context in
      each_append F places (Starts f.returns ∷ []) empty_listing
      ∙ ap (λ r. r >>= (λ u. each F (Starts f.returns ∷ []) u))
      (each_append F (map (λ p. Starts (param_place p)) f.params) (map Starts f.context) empty_listing
      ∙ (ap (λ r. r >>= (λ u. each F (map Starts f.context) u)) (starts_are param_place f.params empty_listing)
      ∙ starts_are (λ p. p) f.context one))

  nothing_waits : (n k : ℕ) → AllWait n (replicate k [])
  nothing_waits n zero = tt
  nothing_waits n (suc k) = (tt, nothing_waits n k)

  nothing_kept : Keeping [] empty_listing
  nothing_kept = record { agree = λ x. refl; sources = λ q v e. absurd (cc); waits = nothing_waits 0 (length blocks) }

  nothing_known : Sound (graph_listed empty_listing) 0 []
  nothing_known = record { known = λ y o w. absurd w; chains = λ y o w. absurd w; stores = λ o q w. absurd w }

  -- each moment is reached
  pub moment_reached : (l : Listing) → listed f ≡ Ok l → is_forward f ≡ true → makes_once f ≡ true → (m : Moment f)
      → Reached (history_at m) m.instruction m.order m.next l
  moment_reached l e forward once m =
      let fits = in_order_parts all [] (start_items f) (items_of blocks) once in
      let start = items_moves all blocks 0 None tt [] (start_items f) empty_listing (first_listing f) [] nothing_kept
      fits.0 start_listed in
      along m.here m.block m.done m.rest m.instruction m.order m.next m.found m.split l blocks 0
      (all_made (start_items f) []) (first_listing f) (after_items all None (start_items f) []) None m.before
      (λ n. ap (slice_get blocks) (zero_plus n)) start.step.keeping fits.1 (start.sound nothing_known) tt
      (rises_from_start f forward m.before m.here m.block m.path m.found) e
    where
      zero_plus : (n : ℕ) → 0 + n ≡ n
      zero_plus n = omega arith
