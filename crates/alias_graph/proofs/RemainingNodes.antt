-- The graph that the calls make is the graph of the links that remain.
use Rattle.std.proofs.Common.{◌≡◌, ℕ, ⊎_elim, Bool, true, false, cond, ◌&&◌, ◌||◌, ◌==◌, List, [], ◌∷◌, ◌++◌, Option}
use Rattle.std.proofs.Common.{Some, None, option_to_list, option_map, is_some, fold, if◌then◌else◌, refl, ap, sym, ◌∙◌}
use Rattle.std.proofs.Common.{arith, append_assoc, append-nil}
use Rattle.std.proofs.lemmas.Bool.{cases_eq}
use Rattle.std.proofs.lemmas.List.Sums.{fold_push}
use Rattle.std.specs.List.{list_any}
use Rattle.alias_base.specs.declared.ids.IdentifierId.{IdentifierId}
use Rattle.alias_graph.specs.declared.types.EdgeKind.{EdgeKind}
use Rattle.alias_graph.specs.declared.types.EdgeKind.TheVariants.{Capture, Alias, MaybeAlias}
use Rattle.alias_graph.specs.declared.types.NodeValue.{NodeValue}
use Rattle.alias_graph.specs.declared.types.NodeValue.TheVariants.{Object}
use Rattle.alias_graph.specs.Nodes.{Edge}
use Rattle.alias_graph.specs.Nodes.{Source}
use Rattle.alias_graph.specs.Nodes.{Node}
use Rattle.alias_graph.specs.Nodes.{Nodes, node_at, has_node, with_node, same_id}
use Rattle.alias_graph.specs.Graph.{Event, made, created_out, joined, edge, source, noted, fresh, created, changed}
use Rattle.alias_graph.specs.Graph.{with_edge, with_created_from, with_source, after, graph_of}
use Rattle.alias_graph.specs.RemainingLinks.{makes, was_made, Own, when, edge_own, created_own, same_kind, source_own}
use Rattle.alias_graph.specs.RemainingLinks.{remaining, firsts, value_after, last_value, remaining_node, remaining_at}
use Rattle.alias_graph.proofs.Covering.{eqb_is, eqb_itself}
use Rattle.alias_graph.proofs.Effects.{changed_here, changed_apart}
use Rattle.alias_graph.proofs.Reaching.{id_is}

or_false : (b : Bool) → (b || false) ≡ b
or_false true = refl
or_false false = refl

any_push : (p : Event → Bool) (xs : List Event) (e : Event) → list_any p (xs ++ e ∷ []) ≡ (list_any p xs || p e)
any_push p [] e = or_false (p e)
any_push p (x ∷ xs) e = elim (p x) as (λ b. (b || list_any p (xs ++ e ∷ [])) ≡ ((b || list_any p xs) || p e))
    [ true ↦ refl | false ↦ any_push p xs e ]

-- a link more at the end
abbrev lengthen : {A : Type 0} → List A → Option A → List A
lengthen xs None = xs
lengthen xs (Some x) = xs ++ x ∷ []

lengthens : {A : Type 0} (xs : List A) (o : Option A) → xs ++ option_to_list o ≡ lengthen xs o
lengthens xs None = append-nil xs
lengthens xs (Some x) = refl

-- one event more
module _ {A : Type 0} (own : Own A) (id : IdentifierId) where
  join_cases : (w m : Bool) (rest h last : List A)
      → cond (w || m) (cond m [] rest ++ last) (h ++ (cond m [] rest ++ last)) ≡ cond m [] (cond w rest (h ++ rest))
      ++ last
  join_cases true m rest h last = refl
  join_cases false true rest h last = refl
  join_cases false false rest h last = sym (append_assoc h rest last)

  nothing_kept : (m : Bool) (last : List A) → last ++ [] ≡ cond m [] [] ++ last
  nothing_kept true last = append-nil last
  nothing_kept false last = append-nil last

  remaining_push : (before xs : List Event) (e : Event) → remaining own id before (xs ++ e ∷ [])
      ≡ cond (makes id e) [] (remaining own id before xs) ++ option_to_list (own (before ++ xs) e)
  remaining_push before [] e = nothing_kept (makes id e) (option_to_list (own before e))
      ∙ ap (λ z. cond (makes id e) [] [] ++ option_to_list (own z e)) (sym (append-nil before))
  remaining_push before (x ∷ xs) e =
      let rest = remaining own id (before ++ x ∷ []) xs in
      let first = option_to_list (own before x) in
      let last = option_to_list (own (before ++ x ∷ xs) e) in
      let ih : remaining own id (before ++ x ∷ []) (xs ++ e ∷ []) ≡ cond (makes id e) [] rest ++ last =
      remaining_push (before ++ x ∷ []) xs e
      ∙ ap (λ z. cond (makes id e) [] rest ++ option_to_list (own z e)) (append_assoc before (x ∷ []) xs) in
      ap (λ b. cond b (remaining own id (before ++ x ∷ []) (xs ++ e ∷ []))
      (first ++ remaining own id (before ++ x ∷ []) (xs ++ e ∷ []))) (any_push (makes id) xs e)
      ∙ ap (λ z. cond (was_made id xs || makes id e) z (first ++ z)) ih
      ∙ join_cases (was_made id xs) (makes id e) rest first last

  pub remaining_more : (xs : List Event) (e : Event) → remaining own id [] (xs ++ e ∷ [])
      ≡ lengthen (cond (makes id e) [] (remaining own id [] xs)) (own xs e)
  remaining_more xs e = remaining_push [] xs e ∙ lengthens (cond (makes id e) [] (remaining own id [] xs)) (own xs e)

abbrev grown : List Source → Option Source → List Source
grown ss None = ss
grown ss (Some s) = noted s ss

firsts_lengthen : (xs : List Source) (o : Option Source) → firsts (lengthen xs o) ≡ grown (firsts xs) o
firsts_lengthen xs None = refl
firsts_lengthen xs (Some s) = fold_push (λ done s. noted s done) [] xs s

firsts_kept : (m : Bool) (xs : List Source) → firsts (cond m [] xs) ≡ cond m [] (firsts xs)
firsts_kept true xs = refl
firsts_kept false xs = refl

firsts_more : (own : Own Source) (id : IdentifierId) (xs : List Event) (e : Event)
    → firsts (remaining own id [] (xs ++ e ∷ []))
    ≡ grown (cond (makes id e) [] (firsts (remaining own id [] xs))) (own xs e)
firsts_more own id xs e =
    ap firsts (remaining_more own id xs e)
    ∙ firsts_lengthen (cond (makes id e) [] (remaining own id [] xs)) (own xs e)
    ∙ ap (λ z. grown z (own xs e)) (firsts_kept (makes id e) (remaining own id [] xs))

abbrev plain : NodeValue → List Edge → List Source → List Source → List Source → List Source → Node
plain v f c p a b = record {
  value = v;
  local = None;
  transitive = None;
  last_mutated = None;
  mutation_reason = None;
  forward = f;
  created_from = c;
  captures = p;
  aliases = a;
  maybe_aliases = b;
}

-- the node after an event, from the node before it
abbrev next_node : Bool → NodeValue → Node → Option Edge → Option Source → Option Source → Option Source → Option Source
    → Node
next_node m v n f c p a b = plain v (lengthen (cond m [] n.forward) f) (grown (cond m [] n.created_from) c)
    (grown (cond m [] n.captures) p) (grown (cond m [] n.aliases) a) (grown (cond m [] n.maybe_aliases) b)

module _ (xs : List Event) (e : Event) (id : IdentifierId) where
  abbrev as_next : Node
  as_next = next_node (makes id e) (value_after id (last_value id xs) e) (remaining_node xs id) (edge_own id xs e)
      (created_own id xs e) (source_own Capture id xs e) (source_own Alias id xs e) (source_own MaybeAlias id xs e)

  node_more : remaining_node (xs ++ e ∷ []) id ≡ as_next
  node_more =
      let v = fold_push (value_after id) Object xs e in
      let f = remaining_more (edge_own id) id xs e in
      let c = firsts_more (created_own id) id xs e in
      let p = firsts_more (source_own Capture id) id xs e in
      let a = firsts_more (source_own Alias id) id xs e in
      let b = firsts_more (source_own MaybeAlias id) id xs e in
      λ i. plain (v i) (f i) (c i) (p i) (a i) (b i)

  at_more : remaining_at (xs ++ e ∷ []) id ≡ when (was_made id xs || makes id e) as_next
  at_more = ap (λ b. when b (remaining_node (xs ++ e ∷ []) id)) (any_push (makes id) xs e)
      ∙ ap (λ n. when (was_made id xs || makes id e) n) node_more

-- where a changed node is looked for
changed_at : (g : Nodes) (i q : IdentifierId) (f : Node → Node) → node_at (changed g i f) q
    ≡ cond (same_id q i) (option_map f (node_at g q)) (node_at g q)
changed_at g i q f = ⊎_elim
    (λ same. ap (λ z. node_at (changed g z f) q) (id_is i q same) ∙ changed_here g q f
    ∙ ap (λ b. cond b (option_map f (node_at g q)) (node_at g q))
    (sym (eqb_itself q.0) ∙ ap (λ n. q.0 == n) (sym same)))
    (λ other. changed_apart g i q f other ∙ ap (λ b. cond b (option_map f (node_at g q)) (node_at g q))
    (sym (differ q.0 i.0 (λ h. other (sym h)))))
    (cases_eq i.0 q.0)
  where
    differ : (a b : ℕ) → (a ≡ b → ⊥) → (a == b) ≡ false
    differ a b h = grind arith

-- where a node more is looked for
pub put_at : (g : Nodes) (i q : IdentifierId) (n : Node) → node_at (with_node g i n) q
    ≡ cond (same_id q i) (Some n) (node_at g q)
put_at [] i q n = refl
put_at (p ∷ g) i q n = elim (same_id i p.0) as
    (λ b. same_id i p.0 ≡ b → node_at (if b then (p.0, n) ∷ g else p ∷ with_node g i n) q
    ≡ cond (same_id q i) (Some n) (node_at (p ∷ g) q)) [
      | true ↦ λ is. let ids : p.0 ≡ i = id_is p.0 i (sym (eqb_is i.0 p.0.0 is)) in
          ap (λ z. cond (same_id q z) (Some n) (node_at g q)) ids
          ∙ both_cond (same_id q i) (Some n) (Some p.1) (node_at g q)
          ∙ ap (λ z. cond (same_id q i) (Some n) (cond (same_id q z) (Some p.1) (node_at g q))) (sym ids)
      | false ↦ λ is. elim (same_id q p.0) as
          (λ b. same_id q p.0 ≡ b → cond b (Some p.1) (node_at (with_node g i n) q)
          ≡ cond (same_id q i) (Some n) (cond b (Some p.1) (node_at g q))) [
            | true ↦ λ at. ap (λ b. cond b (Some n) (Some p.1)) (sym (apart i q p.0 is at))
            | false ↦ λ at. put_at g i q n
          ] refl
    ] refl
  where
    both_cond : (b : Bool) (x y z : Option Node) → cond b x z ≡ cond b x (cond b y z)
    both_cond true x y z = refl
    both_cond false x y z = refl

    apart : (i q p : IdentifierId) → same_id i p ≡ false → same_id q p ≡ true → same_id q i ≡ false
    apart i q p h k = grind (arith, eqb_is)

made_cases : (m w : Bool) (v old : NodeValue) (f : List Edge) (c p a b : List Source)
    → cond m (Some (fresh v)) (when w (plain old f c p a b))
    ≡ when (w || m) (next_node m (cond m v old) (plain old f c p a b) None None None None None)
made_cases true true v old f c p a b = refl
made_cases true false v old f c p a b = refl
made_cases false true v old f c p a b = refl
made_cases false false v old f c p a b = refl

out_cases : (m o w : Bool) (E : Edge) (S : Source) (old : NodeValue) (f : List Edge) (c p a b : List Source)
    → (let x = cond m (Some (fresh Object)) (when w (plain old f c p a b)) in let y =
    cond o (option_map (with_edge E) x) x in cond m (option_map (with_created_from S) y) y)
    ≡ when (w || m) (next_node m (cond m Object old) (plain old f c p a b) (when (o && (m || w)) E) (when m S) None None
    None)
out_cases true true true E S old f c p a b = refl
out_cases true true false E S old f c p a b = refl
out_cases true false true E S old f c p a b = refl
out_cases true false false E S old f c p a b = refl
out_cases false true true E S old f c p a b = refl
out_cases false true false E S old f c p a b = refl
out_cases false false true E S old f c p a b = refl
out_cases false false false E S old f c p a b = refl

joined_cases : (both t o w : Bool) (kind : EdgeKind) (E : Edge) (S : Source) (old : NodeValue) (f : List Edge)
    (c p a b : List Source)
    → (let x = when w (plain old f c p a b) in let y = cond o (option_map (with_edge E) x) x in
    cond both (cond t (option_map (with_source kind S) y) y) x)
    ≡ when (w || false) (next_node false old (plain old f c p a b) (when (o && both) E) None
    (when (same_kind Capture kind && (t && both)) S) (when (same_kind Alias kind && (t && both)) S)
    (when (same_kind MaybeAlias kind && (t && both)) S))
joined_cases true true true true Capture E S old f c p a b = refl
joined_cases true true true false Capture E S old f c p a b = refl
joined_cases true true false true Capture E S old f c p a b = refl
joined_cases true true false false Capture E S old f c p a b = refl
joined_cases true false true true Capture E S old f c p a b = refl
joined_cases true false true false Capture E S old f c p a b = refl
joined_cases true false false true Capture E S old f c p a b = refl
joined_cases true false false false Capture E S old f c p a b = refl
joined_cases false true true true Capture E S old f c p a b = refl
joined_cases false true true false Capture E S old f c p a b = refl
joined_cases false true false true Capture E S old f c p a b = refl
joined_cases false true false false Capture E S old f c p a b = refl
joined_cases false false true true Capture E S old f c p a b = refl
joined_cases false false true false Capture E S old f c p a b = refl
joined_cases false false false true Capture E S old f c p a b = refl
joined_cases false false false false Capture E S old f c p a b = refl
joined_cases true true true true Alias E S old f c p a b = refl
joined_cases true true true false Alias E S old f c p a b = refl
joined_cases true true false true Alias E S old f c p a b = refl
joined_cases true true false false Alias E S old f c p a b = refl
joined_cases true false true true Alias E S old f c p a b = refl
joined_cases true false true false Alias E S old f c p a b = refl
joined_cases true false false true Alias E S old f c p a b = refl
joined_cases true false false false Alias E S old f c p a b = refl
joined_cases false true true true Alias E S old f c p a b = refl
joined_cases false true true false Alias E S old f c p a b = refl
joined_cases false true false true Alias E S old f c p a b = refl
joined_cases false true false false Alias E S old f c p a b = refl
joined_cases false false true true Alias E S old f c p a b = refl
joined_cases false false true false Alias E S old f c p a b = refl
joined_cases false false false true Alias E S old f c p a b = refl
joined_cases false false false false Alias E S old f c p a b = refl
joined_cases true true true true MaybeAlias E S old f c p a b = refl
joined_cases true true true false MaybeAlias E S old f c p a b = refl
joined_cases true true false true MaybeAlias E S old f c p a b = refl
joined_cases true true false false MaybeAlias E S old f c p a b = refl
joined_cases true false true true MaybeAlias E S old f c p a b = refl
joined_cases true false true false MaybeAlias E S old f c p a b = refl
joined_cases true false false true MaybeAlias E S old f c p a b = refl
joined_cases true false false false MaybeAlias E S old f c p a b = refl
joined_cases false true true true MaybeAlias E S old f c p a b = refl
joined_cases false true true false MaybeAlias E S old f c p a b = refl
joined_cases false true false true MaybeAlias E S old f c p a b = refl
joined_cases false true false false MaybeAlias E S old f c p a b = refl
joined_cases false false true true MaybeAlias E S old f c p a b = refl
joined_cases false false true false MaybeAlias E S old f c p a b = refl
joined_cases false false false true MaybeAlias E S old f c p a b = refl
joined_cases false false false false MaybeAlias E S old f c p a b = refl

is_when : (b : Bool) (n : Node) → is_some (when b n) ≡ b
is_when true n = refl
is_when false n = refl

module _ (xs : List Event) (g : Nodes) (ih : (q : IdentifierId) → node_at g q ≡ remaining_at xs q)
    (id : IdentifierId) where
  has_made : (q : IdentifierId) → has_node g q ≡ was_made q xs
  has_made q = ap is_some (ih q) ∙ is_when (was_made q xs) (remaining_node xs q)

  step_exists : (e : Event) → node_at (after g e) id ≡ when (was_made id xs || makes id e) (as_next xs e id)
  step_exists (made at value) =
      put_at g at id (fresh value) ∙ ap (cond (same_id id at) (Some (fresh value))) (ih id)
      ∙ made_cases (same_id id at) (was_made id xs) value (last_value id xs) _ _ _ _ _
  step_exists (created_out index from into) =
      let E = edge index into Alias in
      let S = source index from in
      let g₁ = created g into Object in
      let g₂ = changed g₁ from (with_edge E) in
      let m = same_id id into in
      let o = same_id id from in
      changed_at g₂ into id (with_created_from S)
      ∙ ap (λ y. cond m (option_map (with_created_from S) y) y) (changed_at g₁ from id (with_edge E)
      ∙ ap (λ x. cond o (option_map (with_edge E) x) x)
      (put_at g into id (fresh Object) ∙ ap (cond m (Some (fresh Object))) (ih id)))
      ∙ out_cases m o (was_made id xs) E S (last_value id xs) _ _ _ _ _
  step_exists (joined kind index from into) =
      let E = edge index into kind in
      let S = source index from in
      let t = same_id id into in
      let o = same_id id from in
      let both = was_made from xs && was_made into xs in
      let g₁ = changed g from (with_edge E) in
      let there : (has_node g from && has_node g into) ≡ both = ap (λ b. b && has_node g into) (has_made from)
      ∙ ap (λ b. was_made from xs && b) (has_made into) in
      ap (λ b. node_at (cond b (changed g₁ into (with_source kind S)) g) id) there
      ∙ choose both (changed g₁ into (with_source kind S)) g
      ∙ ap (λ z. cond both z (node_at g id))
      (changed_at g₁ into id (with_source kind S)
      ∙ ap (λ y. cond t (option_map (with_source kind S) y) y) (changed_at g from id (with_edge E)))
      ∙ ap (λ x. let y = cond o (option_map (with_edge E) x) x in
      cond both (cond t (option_map (with_source kind S) y) y) x) (ih id)
      ∙ joined_cases both t o (was_made id xs) kind E S (last_value id xs) _ _ _ _ _
    where
      choose : (b : Bool) (x y : Nodes) → node_at (cond b x y) id ≡ cond b (node_at x id) (node_at y id)
      choose true x y = refl
      choose false x y = refl

  pub step_exists_at : (e : Event) → node_at (after g e) id ≡ remaining_at (xs ++ e ∷ []) id
  step_exists_at e = step_exists e ∙ sym (at_more xs e id)

exists_from : (xs es : List Event) (g : Nodes) → ((q : IdentifierId) → node_at g q ≡ remaining_at xs q)
    → (id : IdentifierId) → node_at (fold after g es) id ≡ remaining_at (xs ++ es) id
exists_from xs [] g ih id = ih id ∙ ap (λ z. remaining_at z id) (sym (append-nil xs))
exists_from xs (e ∷ es) g ih id =
    exists_from (xs ++ e ∷ []) es (after g e) (λ q. step_exists_at xs g ih q e) id
    ∙ ap (λ z. remaining_at z id) (append_assoc xs (e ∷ []) es)

-- the nodes of the graph of a list of events are those of the links that remain
pub graph_is_remaining : (events : List Event) (id : IdentifierId) → node_at (graph_of events) id
    ≡ remaining_at events id
graph_is_remaining events id = exists_from [] events [] (λ q. refl) id
