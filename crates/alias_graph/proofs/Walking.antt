-- How far the walk of the code has come.
use Rattle.std.proofs.Common.{◌≡◌, ℕ, ◌+◌, ◌*◌, ◌-◌, ◌<◌, ◌≤◌, Bool, true, false, not, cond, List, [], ◌∷◌, ◌++◌}
use Rattle.std.proofs.Common.{Option, Some, None, is_some, length, slice_index_or, reverse, replicate, refl, ap, sym}
use Rattle.std.proofs.Common.{◌∙◌, subst, arith, suc, zero, add-one, append_assoc, length-append}
use Rattle.std.proofs.lemmas.List.{reverse-append, length-reverse}
use mathlib.Core.List.{reverse-cons}
use Rattle.alias_base.specs.declared.ids.EvaluationOrder.{EvaluationOrder}
use Rattle.alias_graph.specs.declared.types.Entry.{Entry}
use Rattle.alias_graph.specs.Nodes.{Node}
use Rattle.alias_graph.specs.declared.types.Origin.{Origin}
use Rattle.alias_hir.specs.declared.env.Identifier.{Identifier}
use Rattle.alias_graph.specs.declared.seen.Seen.{Seen}
use Rattle.alias_graph.specs.Nodes.{Nodes, has_node, slot_of}
use Rattle.alias_graph.specs.Graph.{changed}
use Rattle.alias_graph.specs.Links.{covers, next, node_exists, step_to, walk, all_links}
use Rattle.alias_graph.specs.Walks.{Walk, put_all, is_covered, is_new, pop, step_at, step}
use Rattle.alias_graph.specs.NodeMarks.{visited, marked, range_visited, ranges_after}
use Rattle.alias_graph.specs.Seen.{is_seen, nothing_seen}
use Rattle.alias_graph.specs.Claims.{claimed, noted_at}
use Rattle.alias_graph.proofs.Slots.{Found, slot_some, found_node, slot_missing}
use Rattle.alias_graph.proofs.Shapes.{marked_slot, marked_next, marked_length}
use Rattle.alias_graph.proofs.Table.{Sees, sees_nothing, sees_more, found_below}
use Rattle.alias_graph.proofs.Size.{pops_few}
use Rattle.alias_graph.proofs.Effects.{ranges_length}

put_reverse : {A : Type 0} (xs ys : List A) → put_all xs ys ≡ reverse xs ++ ys
put_reverse [] ys = refl
put_reverse (x ∷ xs) ys = put_reverse xs (x ∷ ys) ∙ sym (append_assoc (reverse xs) (x ∷ []) ys)
    ∙ ap (λ z. z ++ ys) (sym (reverse-cons x xs))

pub put_on : {A : Type 0} (rest new : List A) → put_all new (reverse rest) ≡ reverse (rest ++ new)
put_on rest new = put_reverse new (reverse rest) ∙ sym (reverse-append rest new)

pub newest : {A : Type 0} (rest : List A) (e : A) → reverse (rest ++ e ∷ []) ≡ e ∷ reverse rest
newest rest e = reverse-append rest (e ∷ [])

none_seen : (b : Bool) (p : ℕ) → cond b None (Some p) ≡ None → b ≡ true
none_seen true p h = refl
none_seen false p h = cc

not_seen : (b : Bool) (q p : ℕ) → cond b None (Some q) ≡ Some p → b ≡ false
not_seen true q p h = cc
not_seen false q p h = refl

pub seen_slot : (b : Bool) (q p : ℕ) → cond b None (Some q) ≡ Some p → q ≡ p
seen_slot true q p h = cc
seen_slot false q p h = cc

module _ (g₀ : Nodes) (rs₀ : List Identifier) (m : ℕ) (origin : Origin) (end : Option EvaluationOrder) (s : Entry) where
  -- after as many steps as were taken, the walk has this stack, and the marks and the table are those of what it
  -- expanded
  pub record Walking (g : Nodes) (rs : List Identifier) (seen : List Seen) (stack : List Entry) (popped : ℕ) : Type
      0 where
    pub stack_is : (step_to g₀ m s popped).stack ≡ reverse stack
    pub popped_is : (step_to g₀ m s popped).popped ≡ popped
    pub nodes_are : g ≡ marked m origin g₀ (step_to g₀ m s popped).done
    pub ranges_are : rs ≡ ranges_after end rs₀ (step_to g₀ m s popped).done
    pub sees : Sees g₀ seen (step_to g₀ m s popped).done

  pub walking_begins : Walking g₀ rs₀ (replicate (length g₀) nothing_seen) (s ∷ []) 0
  walking_begins = record {
    stack_is = refl;
    popped_is = refl;
    nodes_are = refl;
    ranges_are = refl;
    sees = sees_nothing g₀;
  }

  module _ (g : Nodes) (rs : List Identifier) (seen : List Seen) (stack rest : List Entry) (e : Entry) (n : ℕ)
      (h : Walking g rs seen stack n) (last : stack ≡ rest ++ e ∷ []) where
    abbrev done : List Entry
    done = (step_to g₀ m s n).done

    pub same_slots : slot_of g e.id ≡ slot_of g₀ e.id
    same_slots = ap (λ z. slot_of z e.id) h.nodes_are ∙ marked_slot m origin g₀ done e.id

    pub same_next : next g m e ≡ next g₀ m e
    same_next = ap (λ z. next z m e) h.nodes_are ∙ marked_next m origin g₀ done m e

    one_step : step_to g₀ m s (n + 1) ≡ pop covers (node_exists g₀) (next g₀ m)
        (is_new covers (node_exists g₀) (next g₀ m) done e) e (reverse rest) done n
    one_step =
        ap (step_to g₀ m s) (add-one n)
        ∙ ap (λ z. step_at covers (node_exists g₀) (next g₀ m) z done (step_to g₀ m s n).popped)
        (h.stack_is ∙ ap reverse last ∙ newest rest e)
        ∙ ap (λ z. pop covers (node_exists g₀) (next g₀ m) (is_new covers (node_exists g₀) (next g₀ m) done e) e
        (reverse rest) done z) h.popped_is

    old_at : (o : Option ℕ) → slot_of g₀ e.id ≡ o → claimed o seen e ≡ None
        → is_new covers (node_exists g₀) (next g₀ m) done e ≡ false
    old_at None at c = ap (λ b. cond b (not (is_covered covers done e)) false) (ap is_some (slot_missing g₀ e.id at))
    old_at (Some p) at c =
        let f = slot_some g₀ e.id p at in
        ap (λ b. cond b (not (is_covered covers done e)) false) (ap is_some (found_node g₀ e.id p f.0 f.1))
        ∙ ap not (sym (h.sees.says e p f.0 f.1) ∙ none_seen (is_seen (slice_index_or seen p nothing_seen) e) p c)

    new_at : (o : Option ℕ) (p : ℕ) → slot_of g₀ e.id ≡ o → claimed o seen e ≡ Some p
        → (is_new covers (node_exists g₀) (next g₀ m) done e ≡ true) × (n : Node) × Found g₀ e.id p n
    new_at None p at c = absurd (cc)
    new_at (Some q) p at c =
        let f = slot_some g₀ e.id q at in
        let same : q ≡ p = seen_slot (is_seen (slice_index_or seen q nothing_seen) e) q p c in (
          ap (λ b. cond b (not (is_covered covers done e)) false) (ap is_some (found_node g₀ e.id q f.0 f.1))
              ∙ ap not (sym (h.sees.says e q f.0 f.1)
              ∙ not_seen (is_seen (slice_index_or seen q nothing_seen) e) q p c),
          f.0,
          subst (λ i. Found g₀ e.id i f.0) same f.1,
        )

    module _ (claim : claimed (slot_of g e.id) seen e ≡ None) where
      old : is_new covers (node_exists g₀) (next g₀ m) done e ≡ false
      old = old_at (slot_of g₀ e.id) refl (ap (λ o. claimed o seen e) (sym same_slots) ∙ claim)

      stepped_old : step_to g₀ m s (n + 1) ≡ pop covers (node_exists g₀) (next g₀ m) false e (reverse rest) done n
      stepped_old = one_step ∙ ap (λ b. pop covers (node_exists g₀) (next g₀ m) b e (reverse rest) done n) old

      pub done_kept : (step_to g₀ m s (n + 1)).done ≡ done
      done_kept = ap (λ w. w.done) stepped_old

      -- an old entry is skipped
      pub walking_skips : Walking g rs seen rest (n + 1)
      walking_skips = record {
        stack_is = ap (λ w. w.stack) stepped_old;
        popped_is = ap (λ w. w.popped) stepped_old;
        nodes_are = h.nodes_are ∙ ap (λ w. marked m origin g₀ w.done) (sym stepped_old);
        ranges_are = h.ranges_are ∙ ap (λ w. ranges_after end rs₀ w.done) (sym stepped_old);
        sees = subst (λ w. Sees g₀ seen w.done) (sym stepped_old) h.sees;
      }

    module _ (p : ℕ) (claim : claimed (slot_of g e.id) seen e ≡ Some p) where
      new : (is_new covers (node_exists g₀) (next g₀ m) done e ≡ true) × (n : Node) × Found g₀ e.id p n
      new = new_at (slot_of g₀ e.id) p refl (ap (λ o. claimed o seen e) (sym same_slots) ∙ claim)

      pub claimed_has : has_node g₀ e.id ≡ true
      claimed_has = ap is_some (found_node g₀ e.id p new.1 new.2)

      pub claimed_below : p < length seen
      claimed_below = let below = found_below g₀ e.id p new.1 new.2 in omega (arith, h.sees.size)

      stepped_new : step_to g₀ m s (n + 1) ≡ pop covers (node_exists g₀) (next g₀ m) true e (reverse rest) done n
      stepped_new = one_step ∙ ap (λ b. pop covers (node_exists g₀) (next g₀ m) b e (reverse rest) done n) new.0

      pub done_more : (step_to g₀ m s (n + 1)).done ≡ e ∷ done
      done_more = ap (λ w. w.done) stepped_new

      new_stack : (step_to g₀ m s (n + 1)).stack ≡ reverse (rest ++ next g m e)
      new_stack = ap (λ w. w.stack) stepped_new ∙ put_on rest (next g₀ m e)
          ∙ ap (λ z. reverse (rest ++ z)) (sym same_next)

      -- a new entry is expanded
      pub walking_expands : Walking (changed g e.id (visited m origin e)) (range_visited end e.id rs)
          (noted_at (Some p) seen e) (rest ++ next g m e) (n + 1)
      walking_expands = record {
        stack_is = new_stack;
        popped_is = ap (λ w. w.popped) stepped_new;
        nodes_are = ap (λ z. changed z e.id (visited m origin e)) h.nodes_are
            ∙ ap (λ w. marked m origin g₀ w.done) (sym stepped_new);
        ranges_are = ap (range_visited end e.id) h.ranges_are ∙ ap (λ w. ranges_after end rs₀ w.done) (sym stepped_new);
        sees = subst (λ w. Sees g₀ (noted_at (Some p) seen e) w.done) (sym stepped_new)
            (sees_more g₀ seen done e p new.1 new.2 h.sees);
      }

-- the walk rests once its stack is empty
still : (g : Nodes) (m : ℕ) (w : Walk Entry) → w.stack ≡ [] → step covers (node_exists g) (next g m) w ≡ w
still g m w h = ap (λ z. step_at covers (node_exists g) (next g m) z w.done w.popped) h
    ∙ ap (λ z. let v : Walk Entry = record { stack = z; done = w.done; popped = w.popped } in v) (sym h)

ended : (g : Nodes) (m : ℕ) (s : Entry) (n j : ℕ) → (step_to g m s n).stack ≡ [] → step_to g m s (n + j)
    ≡ step_to g m s n
ended g m s n zero h = let same : n + zero ≡ n = omega arith in ap (step_to g m s) same
ended g m s n (suc j) h =
    let more : n + suc j ≡ suc (n + j) = omega arith in
    let before = ended g m s n j h in
    ap (step_to g m s) more ∙ ap (step covers (node_exists g) (next g m)) before ∙ still g m (step_to g m s n) h

pub walk_ends : (g : Nodes) (m : ℕ) (s : Entry) (n : ℕ) → (step_to g m s n).stack ≡ [] → (step_to g m s n).popped ≡ n
    → walk g m s ≡ step_to g m s n
walk_ends g m s n h p =
    let few = pops_few g m s n in
    let le : n ≤ 1 + 8 * all_links g = omega arith in
    let split : 1 + 8 * all_links g ≡ n + (1 + 8 * all_links g - n) = omega arith in
    ap (step_to g m s) split ∙ ended g m s n (1 + 8 * all_links g - n) h

module _ (g₀ : Nodes) (rs₀ : List Identifier) (m : ℕ) (origin : Origin) (end : Option EvaluationOrder) (s : Entry)
    (g : Nodes) (rs : List Identifier) (seen : List Seen) (stack : List Entry) (n : ℕ)
    (h : Walking g₀ rs₀ m origin end s g rs seen stack n) where
  pub walking_size : length seen ≡ length g
  walking_size = h.sees.size ∙ sym (ap length h.nodes_are ∙ marked_length m origin g₀ (step_to g₀ m s n).done)

  pub walking_ranges : length rs ≡ length rs₀
  walking_ranges = ap length h.ranges_are ∙ ranges_length end rs₀ (step_to g₀ m s n).done

  pub walking_few : n + length stack ≤ 1 + 8 * all_links g₀
  walking_few =
      let few = pops_few g₀ m s n in
      let len : length (step_to g₀ m s n).stack ≡ length stack = ap length h.stack_is ∙ length-reverse stack in
      let pops = h.popped_is in
      omega arith

  pub walking_more : (rest : List Entry) (e : Entry) → stack ≡ rest ++ e ∷ [] → n + 1 ≤ 1 + 8 * all_links g₀
  walking_more rest e last =
      let few = walking_few in
      let len : length stack ≡ length rest + 1 = ap length last ∙ length-append rest (e ∷ []) in
      omega arith

  -- the same at equal values
  pub walking_same : (g' : Nodes) (rs' : List Identifier) (seen' : List Seen) (stack' : List Entry) → g' ≡ g → rs' ≡ rs
      → seen' ≡ seen → stack' ≡ stack → Walking g₀ rs₀ m origin end s g' rs' seen' stack' n
  walking_same g' rs' seen' stack' a b d e = record {
    stack_is = h.stack_is ∙ ap reverse (sym e);
    popped_is = h.popped_is;
    nodes_are = a ∙ h.nodes_are;
    ranges_are = b ∙ h.ranges_are;
    sees = subst (λ z. Sees g₀ z (step_to g₀ m s n).done) (sym d) h.sees;
  }

  module _ (empty : stack ≡ []) where
    pub walk_is : walk g₀ m s ≡ step_to g₀ m s n
    walk_is = walk_ends g₀ m s n (h.stack_is ∙ ap reverse empty) h.popped_is

    pub ended_nodes : g ≡ marked m origin g₀ (walk g₀ m s).done
    ended_nodes = h.nodes_are ∙ ap (λ w. marked m origin g₀ w.done) (sym walk_is)

    pub ended_popped : n ≡ (walk g₀ m s).popped
    ended_popped = sym h.popped_is ∙ ap (λ w. w.popped) (sym walk_is)

pub no_items : {A : Type 0} (xs : List A) → length xs ≡ 0 → xs ≡ []
no_items [] h = refl
no_items (x ∷ xs) h = absurd (omega arith)
