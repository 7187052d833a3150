-- What the walk of a render pops and expands.
use Rattle.std.proofs.Common.{◌≡◌, ℕ, ◌+◌, ◌≤◌, ◌<◌, inl, inr, ⊎_elim, Bool, true, false, cond, ◌==◌, IsTrue, List, []}
use Rattle.std.proofs.Common.{◌∷◌, Some, nat_lt, length, slice_index_or, slice_set, replicate, refl, ap, sym, ◌∙◌}
use Rattle.std.proofs.Common.{subst, arith, suc, zero, length-append}
use Rattle.std.proofs.lemmas.List.{get_or-set_same, get_or-set_other, length-set, length-replicate}
use Rattle.std.proofs.lemmas.Bool.{cases_eq}
use Rattle.alias_base.specs.declared.ids.IdentifierId.{IdentifierId}
use Rattle.alias_graph.specs.Nodes.{Node, Nodes, Source, node_at, same_id}
use Rattle.alias_graph.specs.Links.{links_of, all_links}
use Rattle.alias_graph.specs.Walks.{IsOneOf, total, is_covered}
use Rattle.alias_graph.specs.Renders.{is_lit, lit, before, sources_of, sources_at_node, sources, render_to, rendered}
use Rattle.alias_graph.specs.Renders.{Renders}
use Rattle.alias_graph.proofs.Covering.{eqb_is, eqb_itself}
use Rattle.alias_graph.proofs.Reaching.{id_is}
use Rattle.alias_graph.proofs.Visits.{CoverLaws, run_reaches, run_on_paths, run_new}
use Rattle.alias_graph.proofs.Bound.{pops_at_most}
use Rattle.alias_graph.proofs.Endings.{run_empties}
use Rattle.alias_graph.proofs.Slots.{Found}
use Rattle.alias_graph.proofs.Table.{one_id, one_slot, found_below}

same_is : (a b : IdentifierId) → same_id a b ≡ true → a ≡ b
same_is a b h = id_is a b (eqb_is a.0 b.0 h)

same_itself : (a : IdentifierId) → IsTrue (same_id a a)
same_itself a = eqb_itself a.0

id_laws : (g : Nodes) (m : ℕ) → CoverLaws same_id (lit g) (sources g m)
id_laws g m = record {
  itself = same_itself;
  trans = λ a b c p q. subst (λ z. IsTrue (same_id a z)) (same_is b c q) p;
  alike = λ a b h. ap (lit g) (same_is a b h);
  mono = λ a b f h i. (f, subst (λ z. IsOneOf f (sources g m z)) (sym (same_is a b h)) i, same_itself f);
}

-- ---- how many are popped

abbrev without : IdentifierId → List IdentifierId → List IdentifierId
without id [] = []
without id (u ∷ us) = cond (same_id u id) (without id us) (u ∷ without id us)

stays_in : (id e : IdentifierId) (us : List IdentifierId) → same_id e id ≡ false → IsOneOf e us
    → IsOneOf e (without id us)
stays_in id e [] apart i = absurd i
stays_in id e (u ∷ us) apart (inl same) =
    subst (λ b. IsOneOf e (cond b (without id us) (u ∷ without id us)))
    (sym (ap (λ z. same_id z id) (sym same) ∙ apart)) (inl same)
stays_in id e (u ∷ us) apart (inr other) = let rest = stays_in id e us apart other in
    elim (same_id u id) as (λ b. IsOneOf e (cond b (without id us) (u ∷ without id us)))
    [ true ↦ rest | false ↦ inr rest ]

abbrev names : Nodes → List IdentifierId
names [] = []
names (p ∷ g) = p.0 ∷ without p.0 (names g)

names_exist : (g : Nodes) (e : IdentifierId) → IsTrue (lit g e) → IsOneOf e (names g)
names_exist [] e t = cc
names_exist (p ∷ g) e t =
    elim (same_id e p.0) as (λ b. same_id e p.0 ≡ b → is_lit (cond b (Some p.1) (node_at g e)) ≡ true
    → IsOneOf e (names (p ∷ g))) [
      | true ↦ λ is h. inl (same_is e p.0 is)
      | false ↦ λ is h. inr (stays_in p.0 e (names g) is (names_exist g e h))
    ] refl t

before_length : (m : ℕ) (ls : List Source) → length (before m ls) ≤ length ls
before_length m [] = omega arith
before_length m (l ∷ ls) = let rest = before_length m ls in
    elim (nat_lt l.index m) as (λ b. length (cond b (l.other ∷ before m ls) (before m ls)) ≤ suc (length ls))
    [ true ↦ omega arith | false ↦ omega arith ]

sources_length : (m : ℕ) (n : Node) → length (sources_of m n) ≤ links_of n
sources_length m n =
    let a = before_length m n.created_from in
    let b = before_length m n.aliases in
    let c = before_length m n.captures in
    simp length-append (omega arith)

abbrev weigh : Nodes → ℕ → IdentifierId → ℕ
weigh g m e = length (sources g m e)

weigh_rest : (p : IdentifierId × Node) (g : Nodes) (m : ℕ) (us : List IdentifierId)
    → total (weigh (p ∷ g) m) (without p.0 us) ≤ total (weigh g m) us
weigh_rest p g m [] = omega arith
weigh_rest p g m (u ∷ us) = let rest = weigh_rest p g m us in
    elim (same_id u p.0) as (λ b. same_id u p.0 ≡ b
    → total (weigh (p ∷ g) m) (cond b (without p.0 us) (u ∷ without p.0 us)) ≤ weigh g m u + total (weigh g m) us) [
      | true ↦ λ is. omega arith
      | false ↦ λ is. let here : weigh (p ∷ g) m u ≡ weigh g m u =
          ap (λ b. length (sources_at_node m (cond b (Some p.1) (node_at g u)))) is in omega arith
    ] refl

weigh_own : (p : IdentifierId × Node) (g : Nodes) (m : ℕ) → weigh (p ∷ g) m p.0 ≤ links_of p.1
weigh_own p g m =
    let is : weigh (p ∷ g) m p.0 ≡ length (sources_of m p.1) =
    ap (λ b. length (sources_at_node m (cond b (Some p.1) (node_at g p.0)))) (eqb_itself p.0.0) in
    let h = sources_length m p.1 in omega arith

weigh_all : (g : Nodes) (m : ℕ) → total (weigh g m) (names g) ≤ all_links g
weigh_all [] m = omega arith
weigh_all (p ∷ g) m =
    let own = weigh_own p g m in
    let rest = weigh_rest p g m (names g) in
    let ih = weigh_all g m in
    omega arith

pub renders_few : (g : Nodes) (m : ℕ) (s : IdentifierId) (k : ℕ) → (render_to g m s k).popped
    + length (render_to g m s k).stack ≤ 1 + all_links g
renders_few g m s k =
    let h = pops_at_most same_id (lit g) (sources g m) same_itself (names g) (names_exist g) s k in
    let w = weigh_all g m in
    omega arith

-- ---- what is expanded

pub render_visits : (g : Nodes) (m : ℕ) (s : IdentifierId) → Renders g m s (rendered g m s).done
render_visits g m s =
    let empty = run_empties same_id (lit g) (sources g m) s (1 + all_links g) (renders_few g m s (1 + all_links g)) in
    record {
      legal = λ id i. (run_on_paths same_id (lit g) (sources g m) s (1 + all_links g)).expanded id i;
      reached = λ id p. let met = run_reaches (id_laws g m) s (1 + all_links g) empty id p in
          subst (λ z. IsOneOf z (rendered g m s).done) (same_is met.0 id met.2) met.1;
      new = run_new same_id (lit g) (sources g m) s (1 + all_links g);
    }

-- ---- the flags

-- the flag at a slot says whether the node there was expanded
pub record Flags (g : Nodes) (seen : List Bool) (done : List IdentifierId) : Type 0 where
  pub size : length seen ≡ length g
  pub says : (id : IdentifierId) (i : ℕ) (n : Node) → Found g id i n → slice_index_or seen i false
      ≡ is_covered same_id done id

at_nothing : (n i : ℕ) → slice_index_or (replicate n false) i false ≡ false
at_nothing zero i = refl
at_nothing (suc n) zero = refl
at_nothing (suc n) (suc i) = at_nothing n i

pub flags_nothing : (g : Nodes) → Flags g (replicate (length g) false) []
flags_nothing g = record { size = length-replicate (length g) false; says = λ id i n h. at_nothing (length g) i }

not_same : (a b : ℕ) → (a ≡ b → ⊥) → false ≡ (a == b)
not_same a b h = grind arith

pub flags_more : (g : Nodes) (seen : List Bool) (done : List IdentifierId) (d : IdentifierId) (p : ℕ) (n : Node)
    → Found g d p n → Flags g seen done → Flags g (slice_set seen p true) (d ∷ done)
flags_more g seen done d p n found h =
    let lt : p < length seen = let b = found_below g d p n found in omega (arith, h.size) in
    record {
      size = length-set seen p true ∙ h.size;
      says = λ e i w at. ⊎_elim
          (λ same.
          let ids : d.0 ≡ e.0 = one_id g d e p n w found (subst (λ j. Found g e j w) same at) in
          ap (λ j. slice_index_or (slice_set seen p true) j false) same
          ∙ get_or-set_same seen p true false lt
          ∙ sym (ap (λ b. cond b true (is_covered same_id done e)) (ap (λ k. k == e.0) ids ∙ eqb_itself e.0)))
          (λ other.
          get_or-set_other seen p i true false other
          ∙ h.says e i w at
          ∙ ap (λ b. cond b true (is_covered same_id done e))
          (not_same d.0 e.0 (λ ids. other (one_slot g e d i p w n (sym ids) at found))))
          (cases_eq i p);
    }
