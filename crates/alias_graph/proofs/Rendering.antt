-- How far the walk of a render has come.
use Rattle.std.proofs.Common.{◌≡◌, ℕ, ◌+◌, ◌≤◌, Bool, true, false, not, cond, List, [], ◌∷◌, ◌++◌, Option, Some, None}
use Rattle.std.proofs.Common.{length, slice_index_or, reverse, replicate, option_map, refl, ap, sym, ◌∙◌, subst, arith}
use Rattle.std.proofs.Common.{add-one, append_assoc, append-nil, length-append}
use Rattle.std.proofs.lemmas.List.{length-reverse}
use Rattle.alias_base.specs.declared.ids.IdentifierId.{IdentifierId}
use Rattle.alias_hir.specs.declared.env.Environment.{Environment}
use Rattle.alias_hir.specs.declared.report.Report.{Report}
use Rattle.alias_graph.specs.declared.types.Node.{Node as StoredNode}
use Rattle.alias_graph.specs.declared.types.StoredLink.{StoredLink}
use Rattle.alias_graph.specs.Flat.{node_of, nodes_of}
use Rattle.alias_graph.specs.Links.{all_links}
use Rattle.alias_graph.specs.Nodes.{Node, Nodes, Entries, node_at, slot_of, same_id}
use Rattle.alias_graph.specs.Walks.{is_covered, is_new, pop, step_at}
use Rattle.alias_graph.specs.Renders.{is_lit, stored_is_lit, lit, sources_of, sources_at_node, sources, render_to}
use Rattle.alias_graph.specs.Renders.{rendered, render_reports, Grown, lit_claim, lit_noted}
use Rattle.alias_graph.specs.Reports.{reported_at, stored_reported_at, with_reports}
use Rattle.alias_graph.proofs.Endings.{run_ends}
use Rattle.alias_graph.proofs.Flats.{node_at_of, slot_of_nodes}
use Rattle.alias_graph.proofs.Lighting.{Flags, flags_nothing, flags_more, renders_few}
use Rattle.alias_graph.proofs.Slots.{Found, slot_some, slot_missing}
use Rattle.alias_graph.proofs.ReportLaws.{reported_slot}
use Rattle.alias_graph.proofs.Walking.{put_on, newest}

pub lit_slot : (links : List StoredLink) (k : Entries StoredNode) (id : IdentifierId) → stored_is_lit (node_at k id)
    ≡ lit (nodes_of links k) id
lit_slot links k id = by (node_at k id) ∙ ap is_lit (sym (node_at_of links k id))
  where
    by : (o : Option StoredNode) → stored_is_lit o ≡ is_lit (option_map (node_of links) o)
    by None = refl
    by (Some n) = refl

pub sources_slot : (links : List StoredLink) (k : Entries StoredNode) (m : ℕ) (id : IdentifierId) (n : StoredNode)
    → Some n ≡ node_at k id → sources (nodes_of links k) m id ≡ sources_of m (node_of links n)
sources_slot links k m id n h = ap (sources_at_node m) (node_at_of links k id ∙ ap (option_map (node_of links)) (sym h))

no_sources : (links : List StoredLink) (k : Entries StoredNode) (m : ℕ) (id : IdentifierId) → None ≡ node_at k id
    → sources (nodes_of links k) m id ≡ []
no_sources links k m id h = ap (sources_at_node m) (node_at_of links k id ∙ ap (option_map (node_of links)) (sym h))

pub none_put : (links : List StoredLink) (k : Entries StoredNode) (m : ℕ) (id : IdentifierId) (xs : List IdentifierId)
    → None ≡ node_at k id → xs ≡ xs ++ sources (nodes_of links k) m id
none_put links k m id xs h = sym (append-nil xs) ∙ ap (λ ys. xs ++ ys) (sym (no_sources links k m id h))

pub claim_slot : (links : List StoredLink) (k : Entries StoredNode) (id : IdentifierId) (seen : List Bool)
    → lit_claim (slot_of (nodes_of links k) id) (lit (nodes_of links k) id) seen
    ≡ lit_claim (slot_of k id) (stored_is_lit (node_at k id)) seen
claim_slot links k id seen =
    ap (λ o. lit_claim o (lit (nodes_of links k) id) seen) (slot_of_nodes links k id)
    ∙ ap (λ b. lit_claim (slot_of k id) b seen) (sym (lit_slot links k id))

set_flag : (b : Bool) (p : ℕ) → cond b None (Some p) ≡ None → b ≡ true
set_flag true p h = refl
set_flag false p h = cc

new_slot : (b : Bool) (q p : ℕ) → cond b None (Some q) ≡ Some p → (b ≡ false) × (q ≡ p)
new_slot true q p h = cc
new_slot false q p h = (refl, cc)

module _ (g : Nodes) (m : ℕ) (s : IdentifierId) where
  -- after n steps the walk has this stack, and the flags are those of what it expanded
  pub record Rendering (seen : List Bool) (stack : List IdentifierId) (n : ℕ) : Type 0 where
    pub stack_is : (render_to g m s n).stack ≡ reverse stack
    pub popped_is : (render_to g m s n).popped ≡ n
    pub flags : Flags g seen (render_to g m s n).done

  pub rendering_begins : Rendering (replicate (length g) false) (s ∷ []) 0
  rendering_begins = record { stack_is = refl; popped_is = refl; flags = flags_nothing g }

  pub rendering_same : (seen : List Bool) (stack : List IdentifierId) (n : ℕ) → Rendering seen stack n
      → (seen' : List Bool) (stack' : List IdentifierId) → seen' ≡ seen → stack' ≡ stack → Rendering seen' stack' n
  rendering_same seen stack n h seen' stack' a b = record {
    stack_is = h.stack_is ∙ ap reverse (sym b);
    popped_is = h.popped_is;
    flags = subst (λ z. Flags g z (render_to g m s n).done) (sym a) h.flags;
  }

  module _ (seen : List Bool) (stack rest : List IdentifierId) (e : IdentifierId) (n : ℕ) (h : Rendering seen stack n)
      (last : stack ≡ rest ++ e ∷ []) where
    abbrev done : List IdentifierId
    done = (render_to g m s n).done

    abbrev fresh : Bool
    fresh = is_new same_id (lit g) (sources g m) done e

    one_step : render_to g m s (n + 1) ≡ pop same_id (lit g) (sources g m) fresh e (reverse rest) done n
    one_step =
        ap (render_to g m s) (add-one n)
        ∙ ap (λ z. step_at same_id (lit g) (sources g m) z done (render_to g m s n).popped)
        (h.stack_is ∙ ap reverse last ∙ newest rest e)
        ∙ ap (λ z. pop same_id (lit g) (sources g m) fresh e (reverse rest) done z) h.popped_is

    old_at : (o : Option ℕ) → slot_of g e ≡ o → lit_claim o (lit g e) seen ≡ None → fresh ≡ false
    old_at None at c = ap (λ z. cond (is_lit z) (not (is_covered same_id done e)) false) (slot_missing g e at)
    old_at (Some p) at c =
        let f = slot_some g e p at in
        elim (lit g e) as (λ b. cond b (cond (slice_index_or seen p false) None (Some p)) None ≡ None
        → cond b (not (is_covered same_id done e)) false ≡ false) [
          | true ↦ λ k. ap not (sym (h.flags.says e p f.0 f.1) ∙ set_flag (slice_index_or seen p false) p k)
          | false ↦ λ k. refl
        ] c

    new_at : (o : Option ℕ) (p : ℕ) → slot_of g e ≡ o → lit_claim o (lit g e) seen ≡ Some p → (fresh ≡ true)
        × (n : Node) × Found g e p n
    new_at None p at c = absurd (cc)
    new_at (Some q) p at c =
        let f = slot_some g e q at in
        elim (lit g e) as (λ b. cond b (cond (slice_index_or seen q false) None (Some q)) None ≡ Some p
        → (cond b (not (is_covered same_id done e)) false ≡ true) × (n : Node) × Found g e p n) [
          | true ↦ λ k. let new = new_slot (slice_index_or seen q false) q p k in
              (ap not (sym (h.flags.says e q f.0 f.1) ∙ new.0), f.0, subst (λ i. Found g e i f.0) new.1 f.1)
          | false ↦ λ k. absurd (cc)
        ] c

    module _ (claim : lit_claim (slot_of g e) (lit g e) seen ≡ None) where
      stepped_old : render_to g m s (n + 1) ≡ pop same_id (lit g) (sources g m) false e (reverse rest) done n
      stepped_old = one_step ∙ ap (λ b. pop same_id (lit g) (sources g m) b e (reverse rest) done n)
          (old_at (slot_of g e) refl claim)

      pub rendered_kept : (render_to g m s (n + 1)).done ≡ done
      rendered_kept = ap (λ w. w.done) stepped_old

      pub rendering_skips : Rendering seen rest (n + 1)
      rendering_skips = record {
        stack_is = ap (λ w. w.stack) stepped_old;
        popped_is = ap (λ w. w.popped) stepped_old;
        flags = subst (λ w. Flags g seen w.done) (sym stepped_old) h.flags;
      }

    module _ (p : ℕ) (claim : lit_claim (slot_of g e) (lit g e) seen ≡ Some p) where
      new : (fresh ≡ true) × (n : Node) × Found g e p n
      new = new_at (slot_of g e) p refl claim

      stepped_new : render_to g m s (n + 1) ≡ pop same_id (lit g) (sources g m) true e (reverse rest) done n
      stepped_new = one_step ∙ ap (λ b. pop same_id (lit g) (sources g m) b e (reverse rest) done n) new.0

      pub rendered_more : (render_to g m s (n + 1)).done ≡ e ∷ done
      rendered_more = ap (λ w. w.done) stepped_new

      new_stack : (render_to g m s (n + 1)).stack ≡ reverse (rest ++ sources g m e)
      new_stack = ap (λ w. w.stack) stepped_new ∙ put_on rest (sources g m e)

      pub rendering_expands : Rendering (lit_noted (Some p) seen) (rest ++ sources g m e) (n + 1)
      rendering_expands = record {
        stack_is = new_stack;
        popped_is = ap (λ w. w.popped) stepped_new;
        flags = subst (λ w. Flags g (lit_noted (Some p) seen) w.done) (sym stepped_new)
            (flags_more g seen done e p new.1 new.2 h.flags);
      }

      -- what is pushed fits
      pub render_room : n + 1 + (length rest + length (sources g m e)) ≤ 1 + all_links g
      render_room =
          let few = renders_few g m s (n + 1) in
          let len : length (render_to g m s (n + 1)).stack ≡ length rest + length (sources g m e) = ap length new_stack
          ∙ length-reverse (rest ++ sources g m e) ∙ length-append rest (sources g m e) in
          let pops : (render_to g m s (n + 1)).popped ≡ n + 1 = ap (λ w. w.popped) stepped_new in
          omega arith

  -- with nothing on the stack, the walk is whole
  pub render_ends : (seen : List Bool) (stack : List IdentifierId) (n : ℕ) → Rendering seen stack n → stack ≡ []
      → rendered g m s ≡ render_to g m s n
  render_ends seen stack n h empty =
      let few = renders_few g m s n in
      let pops = h.popped_is in
      run_ends same_id (lit g) (sources g m) s n (1 + all_links g) (omega arith) (h.stack_is ∙ ap reverse empty)

-- ---- what is reported

-- one identifier more
pub render_tells : (env₀ env env₁ : Environment) (links : List StoredLink) (k : Entries StoredNode)
    (done : List IdentifierId) (id : IdentifierId)
    → env ≡ with_reports (render_reports env₀ (nodes_of links k) done) env₀ → env₁
    ≡ with_reports (stored_reported_at env (node_at k id)) env
    → env₁ ≡ with_reports (render_reports env₀ (nodes_of links k) (id ∷ done)) env₀
render_tells env₀ env env₁ links k done id tells is =
    let new = reported_at env₀ (node_at (nodes_of links k) id) in
    let same : stored_reported_at env (node_at k id) ≡ new =
    reported_slot env env₀ (ap (λ (z : Environment). z.functions) tells)
    (ap (λ (z : Environment). z.interned) tells) links k (nodes_of links k) id refl in
    is
    ∙ ap (λ rs. with_reports rs env) same
    ∙ ap (with_reports new) tells
    ∙ ap (λ rs. let z : Environment = record env₀ { errors = rs } in z)
    (append_assoc env₀.errors (render_reports env₀ (nodes_of links k) done) new)

pub tells_none : (env : Environment) → env ≡ with_reports [] env
tells_none env = ap (λ rs. let z : Environment = record env { errors = rs } in z) (sym (append-nil env.errors))

pub grown_on : (env₀ env env₁ : Environment) (rs : List Report) → env ≡ with_reports rs env₀
    → Grown env.errors env₁.errors → Grown env₀.errors env₁.errors
grown_on env₀ env env₁ rs tells g = (
  rs ++ g.0,
  g.1 ∙ ap (λ (z : Environment). z.errors ++ g.0) tells ∙ append_assoc env₀.errors rs g.0,
)

pub other_kept : (env₀ env env₁ : Environment) (rs : List Report) → env ≡ with_reports rs env₀ → env₁
    ≡ record env { errors = env₁.errors } → env₁ ≡ record env₀ { errors = env₁.errors }
other_kept env₀ env env₁ rs tells is = is
    ∙ ap (λ (z : Environment). let v : Environment = record z { errors = env₁.errors } in v) tells
