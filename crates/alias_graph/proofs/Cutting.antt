-- What flags keep, and the graph that is cut off by them.
use Rattle.std.proofs.Common.{◌≡◌, ℕ, ◌+◌, ◌<◌, ◌≤◌, ◌⊎◌, ⊎_elim, inl, inr, Bool, true, false, cond, not, ◌||◌, IsTrue}
use Rattle.std.proofs.Common.{List, [], ◌∷◌, Option, Some, None, is_some, option_map, length, take, drop}
use Rattle.std.proofs.Common.{slice_index_or, slice_set, slice_get, refl, ap, sym, ◌∙◌, subst, arith, suc, zero}
use Rattle.std.proofs.lemmas.Bool.{false≢true, cases_eq}
use Rattle.std.proofs.lemmas.List.{take_more, drop_more, at_drop_more, get_or-set_same, get_or-set_other, length-set}
use Rattle.indexmap.specs.IndexMap.{set_value_at}
use Rattle.alias_base.specs.declared.ids.IdentifierId.{IdentifierId}
use Rattle.alias_hir.specs.declared.env.Environment.{Environment}
use Rattle.alias_graph.specs.declared.types.Node.{Node as StoredNode}
use Rattle.alias_graph.specs.declared.types.StoredLink.{StoredLink}
use Rattle.alias_graph.specs.Cutting.{flag_at, flagged, any_edge, any_source, leads, leads_at, FlagsGrow, unflagged}
use Rattle.alias_graph.specs.Cutting.{IsClosed, stored_value_quiet, stored_bare, bare_at, cut_to}
use Rattle.alias_graph.specs.Flat.{link_at, edges_at, sources_at, AllBelow, AllFit, LinksFit, NodeFits, node_of}
use Rattle.alias_graph.specs.Flat.{nodes_of, stored_links, all_stored_links}
use Rattle.alias_graph.specs.Nodes.{Edge, Source, Node, Entries, node_at, has_node, slot_of, same_id}
use Rattle.alias_graph.specs.Parts.{LeadsOut, HasNoLink, SamePart, CutOff}
use Rattle.alias_graph.specs.Reach.{once}
use Rattle.alias_graph.specs.Reports.{value_reports}
use Rattle.alias_graph.specs.Waiting.{stored_at}
use Rattle.alias_graph.specs.Walks.{IsOneOf}
use Rattle.alias_graph.proofs.Flats.{node_at_of, has_node_of}
use Rattle.alias_graph.proofs.Legality.{in_either}
use Rattle.alias_graph.proofs.Slots.{Found, slot_some, slot_missing, found_node}

-- ---- flags

pub grow_same : (fs : List Bool) → FlagsGrow fs fs
grow_same fs = record { size = refl; kept = λ i h. h }

pub grow_trans : (a b c : List Bool) → FlagsGrow a b → FlagsGrow b c → FlagsGrow a c
grow_trans a b c h k = record { size = k.size ∙ h.size; kept = λ i t. k.kept i (h.kept i t) }

pub grow_set : (fs : List Bool) (p : ℕ) → p < length fs → FlagsGrow fs (slice_set fs p true)
grow_set fs p lt = record {
  size = length-set fs p true;
  kept = λ i t. ⊎_elim
      (λ (same : i ≡ p). ap (λ j. slice_index_or (slice_set fs p true) j false) same
      ∙ get_or-set_same fs p true false lt)
      (λ other. get_or-set_other fs p i true false other ∙ t)
      (cases_eq i p);
}

pub set_there : (fs : List Bool) (p : ℕ) → p < length fs → slice_index_or (slice_set fs p true) p false ≡ true
set_there fs p lt = get_or-set_same fs p true false lt

pub unflagged_set : (fs : List Bool) (p : ℕ) → p < length fs → slice_index_or fs p false ≡ false
    → unflagged (slice_set fs p true) + 1 ≡ unflagged fs
unflagged_set [] p lt is = absurd (omega arith)
unflagged_set (b ∷ fs) zero lt is = let n : once (not b) ≡ 1 = ap (λ z. once (not z)) is in omega arith
unflagged_set (b ∷ fs) (suc p) lt is = let rest = unflagged_set fs p (omega arith) is in omega arith

-- a flag of a list is the same as of a greater one, where the greater one hasn't it
pub not_before : (a b : List Bool) (i : ℕ) → FlagsGrow a b → slice_index_or b i false ≡ false → slice_index_or a i false
    ≡ false
not_before a b i h out = elim (slice_index_or a i false) as (λ z. slice_index_or a i false ≡ z → z ≡ false) [
  | true ↦ λ is. absurd (false≢true (sym out ∙ h.kept i is))
  | false ↦ λ is. refl
] refl

less_once : (x y : Bool) → (x ≡ true → y ≡ true) → once (not y) ≤ once (not x)
less_once true y h = let is : once (not y) ≡ 0 = ap (λ z. once (not z)) (h refl) in omega arith
less_once false true h = omega arith
less_once false false h = omega arith

fewer : (a b : List Bool) → length b ≡ length a
    → ((i : ℕ) → slice_index_or a i false ≡ true → slice_index_or b i false ≡ true) → unflagged b ≤ unflagged a
fewer [] [] size kept = omega arith
fewer [] (y ∷ b) size kept = absurd (omega arith)
fewer (x ∷ a) [] size kept = absurd (omega arith)
fewer (x ∷ a) (y ∷ b) size kept =
    let here = less_once x y (kept 0) in
    let rest = fewer a b (omega arith) (λ i. kept (suc i)) in
    omega arith

pub grow_fewer : (a b : List Bool) → FlagsGrow a b → unflagged b ≤ unflagged a
grow_fewer a b h = fewer a b h.size h.kept

-- the passes come to an end
pub part_less : (before mid after : ℕ) (more : Bool) → mid ≤ before → (more ≡ true → after < mid)
    → (more ≡ false → after ≡ mid) → after + once more < before + 1
part_less before mid after true low less same = let lt = less refl in omega arith
part_less before mid after false low less same = let is = same refl in omega arith

-- how far a pass has come
pub record Leading (links : List StoredLink) (g : Entries StoredNode) (old new : List Bool) (more : Bool) (i : ℕ) : Type
    0 where
  pub grow : FlagsGrow old new
  pub fewer : more ≡ true → unflagged new < unflagged old
  pub same : more ≡ false → new ≡ old
  pub closed : more ≡ false → (j : ℕ) → j < i → slice_index_or old j false ≡ false
      → leads_at (flagged g old) links (stored_at g j) ≡ false

-- a slot without a link into the part
pub leading_passes : (links : List StoredLink) (g : Entries StoredNode) (old new : List Bool) (more : Bool) (i : ℕ)
    → Leading links g old new more i → (slice_index_or new i false ≡ false
    → leads_at (flagged g new) links (stored_at g i) ≡ false) → Leading links g old new more (i + 1)
leading_passes links g old new more i h out = record {
  grow = h.grow;
  fewer = h.fewer;
  same = h.same;
  closed = λ is j lt no. ⊎_elim
      (λ (here : j ≡ i).
      let same = h.same is in
      let at : slice_index_or new i false ≡ false = ap (λ z. slice_index_or z i false) same
      ∙ ap (λ k. slice_index_or old k false) (sym here) ∙ no in
      ap (λ k. leads_at (flagged g old) links (stored_at g k)) here
      ∙ ap (λ z. leads_at (flagged g z) links (stored_at g i)) (sym same) ∙ out at)
      (λ other. h.closed is j (omega arith) no)
      (cases_eq j i);
}

-- a slot that is flagged
pub leading_flags : (links : List StoredLink) (g : Entries StoredNode) (old mid new : List Bool) (more : Bool) (i : ℕ)
    → Leading links g old mid more i → FlagsGrow mid new → unflagged new + 1 ≡ unflagged mid
    → Leading links g old new true (i + 1)
leading_flags links g old mid new more i h grow one = record {
  grow = grow_trans old mid new h.grow grow;
  fewer = λ is. let low = grow_fewer old mid h.grow in omega arith;
  same = λ is. cc;
  closed = λ is. cc;
}

beyond : (g : Entries StoredNode) (i : ℕ) → length g ≤ i → stored_at g i ≡ None
beyond [] i le = refl
beyond (e ∷ g) zero le = absurd (omega arith)
beyond (e ∷ g) (suc i) le = beyond g i (omega arith)

pub leading_ends : (links : List StoredLink) (g : Entries StoredNode) (old new : List Bool) (more : Bool) (i : ℕ)
    → Leading links g old new more i → length old ≡ length g → length old ≤ i → more ≡ false → (new ≡ old)
    × IsClosed links g old
leading_ends links g old new more i h size last is = (
  h.same is,
  λ j no. ⊎_elim
      (λ (below : j < i). h.closed is j below no)
      (λ (above : i ≤ j). ap (leads_at (flagged g old) links) (beyond g j (omega arith)))
      (below_or j i),
)
  where
    below_or : (a b : ℕ) → (a < b) ⊎ (b ≤ a)
    below_or a zero = inr (omega arith)
    below_or zero (suc b) = inl (omega arith)
    below_or (suc a) (suc b) = ⊎_elim (λ h. inl (omega arith)) (λ h. inr (omega arith)) (below_or a b)

-- the targets that are flagged
pub flags_more : (g : Entries StoredNode) (ids : List IdentifierId) (i : ℕ) (d : IdentifierId) (a b : List Bool) → i
    < length ids → FlagsGrow a b
    → ((id : IdentifierId) → IsOneOf id (take i ids) → (p : ℕ) → slot_of g id ≡ Some p → slice_index_or a p false
    ≡ true)
    → ((p : ℕ) → slot_of g (slice_index_or ids i d) ≡ Some p → slice_index_or b p false ≡ true)
    → (id : IdentifierId) → IsOneOf id (take (i + 1) ids) → (p : ℕ) → slot_of g id ≡ Some p → slice_index_or b p false
    ≡ true
flags_more g ids i d a b lt grow before here id is p at = ⊎_elim
    (λ earlier. grow.kept p (before id earlier p at))
    (λ last. ⊎_elim (λ (same : id ≡ slice_index_or ids i d). here p (ap (slot_of g) (sym same) ∙ at))
    (λ none. absurd none) last)
    (in_either (take i ids) (slice_index_or ids i d ∷ []) id (subst (IsOneOf id) (take_more ids i d lt) is))

-- one link more
below_rest : (n : ℕ) (ps : List ℕ) (i : ℕ) → i < length ps → AllBelow n (drop i ps) → AllBelow n (drop (i + 1) ps)
below_rest n ps i lt h = let all : AllBelow n (slice_index_or ps i 0 ∷ drop (i + 1) ps) =
    subst (AllBelow n) (drop_more ps i 0 lt) h in all.1

module _ (keep : IdentifierId → Bool) (links : List StoredLink) (ps : List ℕ) (i : ℕ) (lt : i < length ps) where
  abbrev link : StoredLink
  link = link_at links (slice_index_or ps i 0)

  pub edge_found : any_edge keep (edges_at links (drop i ps)) ≡ any_edge keep (edges_at links ps) → keep link.into
      ≡ true → true ≡ any_edge keep (edges_at links ps)
  edge_found h is = sym (at_drop_more (λ z. any_edge keep (edges_at links z)) ps i 0 lt
      ∙ ap (λ b. cond b true (any_edge keep (edges_at links (drop (i + 1) ps)))) is) ∙ h

  pub edge_passed : any_edge keep (edges_at links (drop i ps)) ≡ any_edge keep (edges_at links ps) → keep link.into
      ≡ false → any_edge keep (edges_at links (drop (i + 1) ps)) ≡ any_edge keep (edges_at links ps)
  edge_passed h is = sym (at_drop_more (λ z. any_edge keep (edges_at links z)) ps i 0 lt
      ∙ ap (λ b. cond b true (any_edge keep (edges_at links (drop (i + 1) ps)))) is) ∙ h

  pub source_found : any_source keep (sources_at links (drop i ps)) ≡ any_source keep (sources_at links ps)
      → keep link.from ≡ true → true ≡ any_source keep (sources_at links ps)
  source_found h is = sym (at_drop_more (λ z. any_source keep (sources_at links z)) ps i 0 lt
      ∙ ap (λ b. cond b true (any_source keep (sources_at links (drop (i + 1) ps)))) is) ∙ h

  pub source_passed : any_source keep (sources_at links (drop i ps)) ≡ any_source keep (sources_at links ps)
      → keep link.from ≡ false → any_source keep (sources_at links (drop (i + 1) ps))
      ≡ any_source keep (sources_at links ps)
  source_passed h is = sym (at_drop_more (λ z. any_source keep (sources_at links z)) ps i 0 lt
      ∙ ap (λ b. cond b true (any_source keep (sources_at links (drop (i + 1) ps)))) is) ∙ h

  pub rest_below : (n : ℕ) → AllBelow n (drop i ps) → AllBelow n (drop (i + 1) ps)
  rest_below n h = below_rest n ps i lt h

-- ---- links out of the part

or_left : (a b : Bool) → (a || b) ≡ false → a ≡ false
or_left true b h = cc
or_left false b h = refl

or_right : (a b : Bool) → (a || b) ≡ false → b ≡ false
or_right true b h = cc
or_right false b h = h

module _ (keep : IdentifierId → Bool) where
  no_edge : (ls : List Edge) → any_edge keep ls ≡ false → (l : Edge) → IsOneOf l ls → keep l.other ≡ false
  no_edge [] h l i = absurd i
  no_edge (x ∷ ls) h l i = elim (keep x.other) as
      (λ b. keep x.other ≡ b → cond b true (any_edge keep ls) ≡ false → keep l.other ≡ false) [
        | true ↦ λ is e. cc
        | false ↦ λ is e. ⊎_elim (λ (same : l ≡ x). ap (λ (z : Edge). keep z.other) same ∙ is)
            (λ other. no_edge ls e l other) i
      ] refl h

  no_source : (ls : List Source) → any_source keep ls ≡ false → (l : Source) → IsOneOf l ls → keep l.other ≡ false
  no_source [] h l i = absurd i
  no_source (x ∷ ls) h l i = elim (keep x.other) as
      (λ b. keep x.other ≡ b → cond b true (any_source keep ls) ≡ false → keep l.other ≡ false) [
        | true ↦ λ is e. cc
        | false ↦ λ is e. ⊎_elim (λ (same : l ≡ x). ap (λ (z : Source). keep z.other) same ∙ is)
            (λ other. no_source ls e l other) i
      ] refl h

  leads_out : (n : Node) → leads keep n ≡ false → LeadsOut keep n
  leads_out n h =
      let f = any_edge keep n.forward in
      let c = any_source keep n.created_from in
      let p = any_source keep n.captures in
      let a = any_source keep n.aliases in
      let m = any_source keep n.maybe_aliases in
      let two : (c || (p || (a || m))) ≡ false = or_right f (c || (p || (a || m))) h in
      let three : (p || (a || m)) ≡ false = or_right c (p || (a || m)) two in
      let four : (a || m) ≡ false = or_right p (a || m) three in
      record {
        forward = no_edge n.forward (or_left f (c || (p || (a || m))) h);
        created_from = no_source n.created_from (or_left c (p || (a || m)) two);
        captures = no_source n.captures (or_left p (a || m) three);
        aliases = no_source n.aliases (or_left a m four);
        maybe_aliases = no_source n.maybe_aliases (or_right a m four);
      }

-- ---- the nodes that are cut off

pub set_bare : (g : Entries StoredNode) (i : ℕ) (n w : StoredNode) → Some n
    ≡ option_map (λ (e : IdentifierId × StoredNode). e.1) (slice_get g i) → w ≡ stored_bare n → set_value_at g i w
    ≡ bare_at i g
set_bare [] i n w at is = refl
set_bare (e ∷ g) zero n w at is = let same : n ≡ e.1 = cc in ap (λ z. (e.0, z) ∷ g) (is ∙ ap stored_bare same)
set_bare (e ∷ g) (suc i) n w at is = ap (λ z. e ∷ z) (set_bare g i n w at is)

pub none_bare : (g : Entries StoredNode) (i : ℕ) → None
    ≡ option_map (λ (e : IdentifierId × StoredNode). e.1) (slice_get g i) → g ≡ bare_at i g
none_bare [] i at = refl
none_bare (e ∷ g) zero at = absurd (cc)
none_bare (e ∷ g) (suc i) at = ap (λ z. e ∷ z) (none_bare g i at)

one_up : (i : ℕ) → suc i ≡ i + 1
one_up i = omega arith

cut_bare : (fs : List Bool) (g : Entries StoredNode) (i : ℕ) → i < length fs → slice_index_or fs i false ≡ false
    → bare_at i (cut_to (take i fs) g) ≡ cut_to (take (suc i) fs) g
cut_bare [] g i lt out = absurd (omega arith)
cut_bare (b ∷ fs) [] zero lt out = refl
cut_bare (b ∷ fs) [] (suc i) lt out = refl
cut_bare (b ∷ fs) (e ∷ g) zero lt out = ap (λ z. (e.0, cond z e.1 (stored_bare e.1)) ∷ g) (sym out)
cut_bare (b ∷ fs) (e ∷ g) (suc i) lt out =
    ap (λ z. (e.0, cond b e.1 (stored_bare e.1)) ∷ z) (cut_bare fs g i (omega arith) out)

cut_kept : (fs : List Bool) (g : Entries StoredNode) (i : ℕ) → i < length fs → slice_index_or fs i false ≡ true
    → cut_to (take i fs) g ≡ cut_to (take (suc i) fs) g
cut_kept [] g i lt is = absurd (omega arith)
cut_kept (b ∷ fs) [] zero lt is = refl
cut_kept (b ∷ fs) [] (suc i) lt is = refl
cut_kept (b ∷ fs) (e ∷ g) zero lt is = ap (λ z. (e.0, cond z e.1 (stored_bare e.1)) ∷ g) (sym is)
cut_kept (b ∷ fs) (e ∷ g) (suc i) lt is =
    ap (λ z. (e.0, cond b e.1 (stored_bare e.1)) ∷ z) (cut_kept fs g i (omega arith) is)

-- one slot more
pub cut_unflagged : (fs : List Bool) (g : Entries StoredNode) (i : ℕ) → i < length fs → slice_index_or fs i false
    ≡ false → bare_at i (cut_to (take i fs) g) ≡ cut_to (take (i + 1) fs) g
cut_unflagged fs g i lt out = cut_bare fs g i lt out ∙ ap (λ j. cut_to (take j fs) g) (one_up i)

pub cut_flagged : (fs : List Bool) (g : Entries StoredNode) (i : ℕ) → i < length fs → slice_index_or fs i false ≡ true
    → cut_to (take i fs) g ≡ cut_to (take (i + 1) fs) g
cut_flagged fs g i lt is = cut_kept fs g i lt is ∙ ap (λ j. cut_to (take j fs) g) (one_up i)

cut_ids : (fs : List Bool) (g : Entries StoredNode) (id : IdentifierId) → has_node (cut_to fs g) id ≡ has_node g id
cut_ids [] g id = refl
cut_ids (b ∷ fs) [] id = refl
cut_ids (b ∷ fs) (e ∷ g) id = elim (same_id id e.0) as
    (λ z. is_some (cond z (Some (cond b e.1 (stored_bare e.1))) (node_at (cut_to fs g) id))
    ≡ is_some (cond z (Some e.1) (node_at g id))) [ true ↦ refl | false ↦ cut_ids fs g id ]

-- the node at a slot
cut_found : (fs : List Bool) (g : Entries StoredNode) (id : IdentifierId) (i : ℕ) (n : StoredNode) → length fs
    ≡ length g → Found g id i n → node_at (cut_to fs g) id ≡ Some (cond (slice_index_or fs i false) n (stored_bare n))
cut_found fs [] id i n size f = absurd f
cut_found [] (e ∷ g) id i n size f = absurd (omega arith)
cut_found (b ∷ fs) (e ∷ g) id zero n size f =
    ap (λ z. cond z (Some (cond b e.1 (stored_bare e.1))) (node_at (cut_to fs g) id)) f.0
    ∙ ap (λ z. Some (cond b z (stored_bare z))) f.1
cut_found (b ∷ fs) (e ∷ g) id (suc i) n size f =
    ap (λ z. cond z (Some (cond b e.1 (stored_bare e.1))) (node_at (cut_to fs g) id)) f.0
    ∙ cut_found fs g id i n (omega arith) f.1

found_stored : (g : Entries StoredNode) (id : IdentifierId) (i : ℕ) (n : StoredNode) → Found g id i n → stored_at g i
    ≡ Some n
found_stored [] id i n h = absurd h
found_stored (p ∷ g) id zero n h = ap Some h.1
found_stored (p ∷ g) id (suc i) n h = found_stored g id i n h.1

-- ---- what fits

bare_fits : (m : ℕ) (n : StoredNode) → NodeFits m (stored_bare n)
bare_fits m n = record { forward = tt; created_from = tt; captures = tt; aliases = tt; maybe_aliases = tt }

cut_fits : (m : ℕ) (fs : List Bool) (g : Entries StoredNode) → AllFit m g → AllFit m (cut_to fs g)
cut_fits m [] g h = h
cut_fits m (b ∷ fs) [] h = tt
cut_fits m (b ∷ fs) (e ∷ g) h = (
  elim b as (λ z. NodeFits m (cond z e.1 (stored_bare e.1)))
      [ true ↦ h.0 | false ↦ bare_fits m e.1 ],
  cut_fits m fs g h.1,
)

cut_fewer : (fs : List Bool) (g : Entries StoredNode) → all_stored_links (cut_to fs g) ≤ all_stored_links g
cut_fewer [] g = omega arith
cut_fewer (b ∷ fs) [] = omega arith
cut_fewer (b ∷ fs) (e ∷ g) = let rest = cut_fewer fs g in
    elim b as (λ z. stored_links (cond z e.1 (stored_bare e.1)) + all_stored_links (cut_to fs g) ≤ stored_links e.1
    + all_stored_links g) [ true ↦ omega arith | false ↦ omega arith ]

pub cut_links_fit : (links : List StoredLink) (fs : List Bool) (g new : Entries StoredNode) → LinksFit links g → new
    ≡ cut_to fs g → LinksFit links new
cut_links_fit links fs g new h is = subst (LinksFit links) (sym is)
    (let few = cut_fewer fs g in let twice = h.twice in
    record { within = cut_fits (length links) fs g h.within; twice = omega arith })

-- ---- the part

module _ (links : List StoredLink) (g : Entries StoredNode) (fs : List Bool) (size : length fs ≡ length g)
    (closed : IsClosed links g fs) where
  abbrev keep : IdentifierId → Bool
  keep id = flagged g fs id

  abbrev cut : Entries StoredNode
  cut = cut_to fs g

  alike_at : (id : IdentifierId) (o : Option ℕ) → slot_of g id ≡ o → flag_at fs o ≡ true → node_at cut id ≡ node_at g id
  alike_at id None at is = cc
  alike_at id (Some p) at is = let f = slot_some g id p at in cut_found fs g id p f.0 size f.1
      ∙ ap (λ z. Some (cond z f.0 (stored_bare f.0))) is ∙ sym (found_node g id p f.0 f.1)

  out_at : (id : IdentifierId) (n : Node) (o : Option ℕ) → slot_of g id ≡ o → node_at (nodes_of links g) id ≡ Some n
      → flag_at fs o ≡ false → LeadsOut keep n
  out_at id n None at there out = let none : node_at (nodes_of links g) id ≡ None = node_at_of links g id
      ∙ ap (option_map (node_of links)) (slot_missing g id at) in absurd (cc)
  out_at id n (Some p) at there out =
      let f = slot_some g id p at in
      let is : Some (node_of links f.0) ≡ Some n =
      sym (node_at_of links g id ∙ ap (option_map (node_of links)) (found_node g id p f.0 f.1)) ∙ there in
      let same : node_of links f.0 ≡ n = cc in
      let none : leads keep (node_of links f.0) ≡ false = ap (leads_at keep links) (sym (found_stored g id p f.0 f.1))
      ∙ closed p out in
      subst (LeadsOut keep) same (leads_out keep (node_of links f.0) none)

  stripped_at : (id : IdentifierId) (n : Node) (o : Option ℕ) → slot_of g id ≡ o → node_at (nodes_of links cut) id
      ≡ Some n → flag_at fs o ≡ false → HasNoLink n
  stripped_at id n None at there out =
      let none : has_node (nodes_of links cut) id ≡ false = has_node_of links cut id ∙ cut_ids fs g id
      ∙ ap is_some (slot_missing g id at) in
      let some : has_node (nodes_of links cut) id ≡ true = ap is_some there in
      absurd (false≢true (sym none ∙ some))
  stripped_at id n (Some p) at there out =
      let f = slot_some g id p at in
      let found : node_at cut id ≡ Some (stored_bare f.0) = cut_found fs g id p f.0 size f.1
      ∙ ap (λ z. Some (cond z f.0 (stored_bare f.0))) out in
      let is : Some (node_of links (stored_bare f.0)) ≡ Some n =
      sym (node_at_of links cut id ∙ ap (option_map (node_of links)) found) ∙ there in
      let same : node_of links (stored_bare f.0) ≡ n = cc in
      subst HasNoLink same (record {
        forward = refl;
        created_from = refl;
        captures = refl;
        aliases = refl;
        maybe_aliases = refl;
      })

  cut_part : SamePart keep (nodes_of links g) (nodes_of links cut)
  cut_part = record {
    ids = λ q. has_node_of links cut q ∙ cut_ids fs g q ∙ sym (has_node_of links g q);
    alike = λ id is. node_at_of links cut id ∙ ap (option_map (node_of links)) (alike_at id (slot_of g id) refl is)
        ∙ sym (node_at_of links g id);
    outside = λ id n at k. out_at id n (slot_of g id) refl at k;
    cut_off = λ id n at k. stripped_at id n (slot_of g id) refl at k;
  }

  kept_at : (id : IdentifierId) (o : Option ℕ) → slot_of g id ≡ o → IsTrue (has_node (nodes_of links g) id)
      → ((p : ℕ) → o ≡ Some p → slice_index_or fs p false ≡ true) → flag_at fs o ≡ true
  kept_at id None at t h = absurd (false≢true (sym (has_node_of links g id ∙ ap is_some (slot_missing g id at)) ∙ t))
  kept_at id (Some p) at t h = h p refl

  module _ (env : Environment) (quiet : (i : ℕ) → slice_index_or fs i false ≡ false
      → stored_value_quiet env (stored_at g i)) where
    quiet_at : (id : IdentifierId) (n : Node) (o : Option ℕ) → slot_of g id ≡ o → node_at (nodes_of links g) id ≡ Some n
        → flag_at fs o ≡ false → value_reports env n.value ≡ []
    quiet_at id n None at there out = let none : node_at (nodes_of links g) id ≡ None = node_at_of links g id
        ∙ ap (option_map (node_of links)) (slot_missing g id at) in absurd (cc)
    quiet_at id n (Some p) at there out =
        let f = slot_some g id p at in
        let is : Some (node_of links f.0) ≡ Some n =
        sym (node_at_of links g id ∙ ap (option_map (node_of links)) (found_node g id p f.0 f.1)) ∙ there in
        let same : node_of links f.0 ≡ n = cc in
        ap (λ (z : Node). value_reports env z.value) (sym same)
        ∙ subst (stored_value_quiet env) (found_stored g id p f.0 f.1) (quiet p out)

    other_at : (id : IdentifierId) (n : Node) (o : Option ℕ) → slot_of g id ≡ o → node_at (nodes_of links cut) id
        ≡ Some n → flag_at fs o ≡ false → value_reports env n.value ≡ []
    other_at id n None at there out =
        let none : has_node (nodes_of links cut) id ≡ false = has_node_of links cut id ∙ cut_ids fs g id
        ∙ ap is_some (slot_missing g id at) in
        let some : has_node (nodes_of links cut) id ≡ true = ap is_some there in
        absurd (false≢true (sym none ∙ some))
    other_at id n (Some p) at there out =
        let f = slot_some g id p at in
        let found : node_at cut id ≡ Some (stored_bare f.0) = cut_found fs g id p f.0 size f.1
        ∙ ap (λ z. Some (cond z f.0 (stored_bare f.0))) out in
        let is : Some (node_of links (stored_bare f.0)) ≡ Some n =
        sym (node_at_of links cut id ∙ ap (option_map (node_of links)) found) ∙ there in
        let same : node_of links (stored_bare f.0) ≡ n = cc in
        ap (λ (z : Node). value_reports env z.value) (sym same)
        ∙ subst (stored_value_quiet env) (found_stored g id p f.0 f.1) (quiet p out)

-- the graph is cut off
pub cut_is : (record_errors : Bool) (env : Environment) (targets : List IdentifierId) (links : List StoredLink)
    (g new : Entries StoredNode) (fs : List Bool)
    → length fs ≡ length g → IsClosed links g fs
    → ((id : IdentifierId) → IsOneOf id targets → (p : ℕ) → slot_of g id ≡ Some p → slice_index_or fs p false ≡ true)
    → (record_errors ≡ true → (i : ℕ) → slice_index_or fs i false ≡ false → stored_value_quiet env (stored_at g i))
    → new ≡ cut_to fs g → CutOff record_errors env targets (nodes_of links g) (nodes_of links new)
cut_is record_errors env targets links g new fs size closed there quiet is =
    subst (λ z. CutOff record_errors env targets (nodes_of links g) (nodes_of links z)) (sym is) (record {
      keep = λ id. flagged g fs id;
      part = cut_part links g fs size closed;
      kept = λ id i t. kept_at links g fs size closed id (slot_of g id) refl t (there id i);
      quiet = λ r. (
        λ id n at k. quiet_at links g fs size closed env (quiet r) id n (slot_of g id) refl at k,
        λ id n at k. other_at links g fs size closed env (quiet r) id n (slot_of g id) refl at k,
      );
    })
