-- A walk pops at most one entry more than eight times the links.
use Rattle.std.proofs.Common.{◌≡◌, ℕ, ◌+◌, ◌*◌, ◌≤◌, ◌⊎◌, inl, inr, Bool, true, false, cond, ◌==◌, IsTrue, List, []}
use Rattle.std.proofs.Common.{◌∷◌, ◌++◌, Some, nat_lt, is_some, length, refl, ap, sym, ◌∙◌, subst, arith, suc}
use Rattle.std.proofs.Common.{length-append}
use Rattle.alias_base.specs.declared.ids.IdentifierId.{IdentifierId}
use Rattle.alias_graph.specs.declared.types.MutationKind.{MutationKind}
use Rattle.alias_graph.specs.declared.types.MutationKind.TheVariants.{Conditional, Definite}
use Rattle.alias_graph.specs.declared.types.Direction.{Direction}
use Rattle.alias_graph.specs.declared.types.Direction.TheVariants.{Backwards, Forwards}
use Rattle.alias_graph.specs.Nodes.{Edge}
use Rattle.alias_graph.specs.Nodes.{Source}
use Rattle.alias_graph.specs.declared.types.Entry.{Entry}
use Rattle.alias_graph.specs.Nodes.{Node}
use Rattle.alias_graph.specs.Nodes.{Nodes, node_at}
use Rattle.alias_graph.specs.Walks.{IsOneOf, run, total}
use Rattle.alias_graph.specs.Links.{covers, entry, back_entries, along, forward_entries, opens, alias_entries}
use Rattle.alias_graph.specs.Links.{capture_entries, led_to, led_from, next, node_exists, links_of, all_links}
use Rattle.alias_graph.specs.Reach.{once, times}
use Rattle.alias_graph.proofs.Covering.{eqb_is, eqb_itself}
use Rattle.alias_graph.proofs.Legality.{in_left, in_right}
use Rattle.alias_graph.proofs.Reaching.{covers_itself, id_is}
use Rattle.alias_graph.proofs.Bound.{pops_at_most, done_weighs}

back_length : (m : ℕ) (t : Bool) (k : MutationKind) (ls : List Source) → length (back_entries m t k ls) ≤ length ls
back_length m t k [] = omega arith
back_length m t k (l ∷ ls) = let rest = back_length m t k ls in
    elim (nat_lt l.index m) as (λ b. length
    (cond b (entry l.other t Backwards k ∷ back_entries m t k ls) (back_entries m t k ls)) ≤ suc (length ls))
    [ true ↦ omega arith | false ↦ omega arith ]

forward_length : (m : ℕ) (t : Bool) (k : MutationKind) (ls : List Edge) → length (forward_entries m t k ls) ≤ length ls
forward_length m t k [] = omega arith
forward_length m t k (l ∷ ls) = let rest = forward_length m t k ls in
    elim (nat_lt l.index m) as (λ b. length
    (cond b (along l.kind l.other t k ∷ forward_entries m t k ls) (forward_entries m t k ls)) ≤ suc (length ls))
    [ true ↦ omega arith | false ↦ omega arith ]

alias_length : (b : Bool) (m : ℕ) (t : Bool) (k : MutationKind) (ls bs : List Source)
    → length (alias_entries b m t k ls bs) ≤ length ls + length bs
alias_length true m t k ls bs = let x = back_length m t k ls in let y = back_length m t Conditional bs in
    simp length-append (omega arith)
alias_length false m t k ls bs = omega arith

capture_length : (b : Bool) (m : ℕ) (k : MutationKind) (cs : List Source) → length (capture_entries b m k cs)
    ≤ length cs
capture_length true m k cs = back_length m true k cs
capture_length false m k cs = omega arith

pub led_length : (m : ℕ) (e : Entry) (n : Node) → length (led_to m e n) ≤ links_of n
led_length m e n =
    let a = forward_length m e.transitive e.kind n.forward in
    let b = back_length m true e.kind n.created_from in
    let c = alias_length (opens n.value e.direction) m e.transitive e.kind n.aliases n.maybe_aliases in
    let d = capture_length e.transitive m e.kind n.captures in
    simp length-append (omega arith)

-- the eight entries of a node
abbrev pub eight : IdentifierId → List Entry
eight id =
    entry id true Backwards Definite ∷ entry id true Backwards Conditional ∷ entry id true Forwards Definite
    ∷ entry id true Forwards Conditional
    ∷ entry id false Backwards Definite ∷ entry id false Backwards Conditional ∷ entry id false Forwards Definite
    ∷ entry id false Forwards Conditional ∷ []

in_eight : (id : IdentifierId) (t : Bool) (x : Direction) (k : MutationKind) → IsOneOf (entry id t x k) (eight id)
in_eight id true Backwards Definite = inl refl
in_eight id true Backwards Conditional = inr (inl refl)
in_eight id true Forwards Definite = inr (inr (inl refl))
in_eight id true Forwards Conditional = inr (inr (inr (inl refl)))
in_eight id false Backwards Definite = inr (inr (inr (inr (inl refl))))
in_eight id false Backwards Conditional = inr (inr (inr (inr (inr (inl refl)))))
in_eight id false Forwards Definite = inr (inr (inr (inr (inr (inr (inl refl))))))
in_eight id false Forwards Conditional = inr (inr (inr (inr (inr (inr (inr (inl refl)))))))

abbrev without : IdentifierId → List Entry → List Entry
without id [] = []
without id (u ∷ us) = cond (u.id.0 == id.0) (without id us) (u ∷ without id us)

stays_in : (id : IdentifierId) (e : Entry) (us : List Entry) → (e.id.0 == id.0) ≡ false → IsOneOf e us
    → IsOneOf e (without id us)
stays_in id e [] apart i = absurd i
stays_in id e (u ∷ us) apart (inl same) =
    subst (λ b. IsOneOf e (cond b (without id us) (u ∷ without id us)))
    (sym (ap (λ (z : Entry). z.id.0 == id.0) (sym same) ∙ apart)) (inl same)
stays_in id e (u ∷ us) apart (inr other) = let rest = stays_in id e us apart other in
    elim (u.id.0 == id.0) as (λ b. IsOneOf e (cond b (without id us) (u ∷ without id us)))
    [ true ↦ rest | false ↦ inr rest ]

-- the entries that a walk may expand
abbrev everyone : Nodes → List Entry
everyone [] = []
everyone (p ∷ g) = eight p.0 ++ without p.0 (everyone g)

pub everyone_exists : (g : Nodes) (e : Entry) → IsTrue (node_exists g e) → IsOneOf e (everyone g)
everyone_exists [] e t = cc
everyone_exists (p ∷ g) e t =
    elim (e.id.0 == p.0.0) as (λ b. (e.id.0 == p.0.0) ≡ b → is_some (cond b (Some p.1) (node_at g e.id)) ≡ true
    → IsOneOf e (everyone (p ∷ g))) [
      | true ↦ λ is h. in_left (eight p.0) (without p.0 (everyone g)) e
          (subst (λ i. IsOneOf e (eight i)) (id_is e.id p.0 (eqb_is e.id.0 p.0.0 is))
          (in_eight e.id e.transitive e.direction e.kind))
      | false ↦ λ is h. in_right (eight p.0) (without p.0 (everyone g)) e
          (stays_in p.0 e (everyone g) is (everyone_exists g e h))
    ] refl t

total_append : (w : Entry → ℕ) (xs ys : List Entry) → total w (xs ++ ys) ≡ total w xs + total w ys
total_append w [] ys = omega arith
total_append w (x ∷ xs) ys = let h = total_append w xs ys in omega arith

abbrev weigh : Nodes → ℕ → Entry → ℕ
weigh g m e = length (next g m e)

-- apart from its first node a graph leads where the rest leads
weigh_rest : (p : IdentifierId × Node) (g : Nodes) (m : ℕ) (us : List Entry) → total (weigh (p ∷ g) m) (without p.0 us)
    ≤ total (weigh g m) us
weigh_rest p g m [] = omega arith
weigh_rest p g m (u ∷ us) = let rest = weigh_rest p g m us in
    elim (u.id.0 == p.0.0) as (λ b. (u.id.0 == p.0.0) ≡ b
    → total (weigh (p ∷ g) m) (cond b (without p.0 us) (u ∷ without p.0 us)) ≤ weigh g m u + total (weigh g m) us) [
      | true ↦ λ is. omega arith
      | false ↦ λ is. let here : weigh (p ∷ g) m u ≡ weigh g m u =
          ap (λ b. length (led_from m u (cond b (Some p.1) (node_at g u.id)))) is in omega arith
    ] refl

weigh_own : (p : IdentifierId × Node) (g : Nodes) (m : ℕ) (t : Bool) (x : Direction) (k : MutationKind)
    → weigh (p ∷ g) m (entry p.0 t x k) ≤ links_of p.1
weigh_own p g m t x k =
    let e = entry p.0 t x k in
    let is : weigh (p ∷ g) m e ≡ length (led_to m e p.1) =
    ap (λ b. length (led_from m e (cond b (Some p.1) (node_at g p.0)))) (eqb_itself p.0.0) in
    let h = led_length m e p.1 in omega arith

weigh_eight : (p : IdentifierId × Node) (g : Nodes) (m : ℕ) → total (weigh (p ∷ g) m) (eight p.0) ≤ 8 * links_of p.1
weigh_eight p g m =
    let a = weigh_own p g m true Backwards Definite in
    let b = weigh_own p g m true Backwards Conditional in
    let c = weigh_own p g m true Forwards Definite in
    let d = weigh_own p g m true Forwards Conditional in
    let e = weigh_own p g m false Backwards Definite in
    let f = weigh_own p g m false Backwards Conditional in
    let h = weigh_own p g m false Forwards Definite in
    let i = weigh_own p g m false Forwards Conditional in
    omega arith

pub weigh_all : (g : Nodes) (m : ℕ) → total (weigh g m) (everyone g) ≤ 8 * all_links g
weigh_all [] m = omega arith
weigh_all (p ∷ g) m =
    let own = weigh_eight p g m in
    let rest = weigh_rest p g m (everyone g) in
    let ih = weigh_all g m in
    let split = total_append (weigh (p ∷ g) m) (eight p.0) (without p.0 (everyone g)) in
    omega arith

-- what was popped and what waits
pub pops_few : (g : Nodes) (m : ℕ) (s : Entry) (k : ℕ) → (run covers (node_exists g) (next g m) s k).popped
    + length (run covers (node_exists g) (next g m) s k).stack ≤ 1 + 8 * all_links g
pops_few g m s k =
    let h = pops_at_most covers (node_exists g) (next g m) covers_itself (everyone g) (everyone_exists g) s k in
    let w = weigh_all g m in
    omega arith

-- how often a node is expanded
only_eight : (id : IdentifierId) (e : Entry) → IsOneOf e (eight id) ⊎ (once (e.id.0 == id.0) ≡ 0)
only_eight id e = elim (e.id.0 == id.0) as (λ b. (e.id.0 == id.0) ≡ b → IsOneOf e (eight id) ⊎ (once b ≡ 0)) [
  | true ↦ λ is. inl (subst (λ i. IsOneOf e (eight i)) (id_is e.id id (eqb_is e.id.0 id.0 is))
      (in_eight e.id e.transitive e.direction e.kind))
  | false ↦ λ is. inr refl
] refl

times_eight : (id : IdentifierId) → times id (eight id) ≡ 8
times_eight id = ap (λ b. let n = once b in n + (n + (n + (n + (n + (n + (n + (n + 0)))))))) (eqb_itself id.0)

pub eight_times : (g : Nodes) (m : ℕ) (s : Entry) (k : ℕ) (id : IdentifierId)
    → times id (run covers (node_exists g) (next g m) s k).done ≤ 8
eight_times g m s k id =
    let h = done_weighs covers (node_exists g) (next g m) covers_itself (λ e. once (e.id.0 == id.0)) (eight id)
    (λ e t. only_eight id e) s k in
    let w = times_eight id in
    omega arith

-- how many entries are expanded
length_total : (us : List Entry) → total (λ e. 1) us ≡ length us
length_total [] = refl
length_total (u ∷ us) = let rest = length_total us in omega arith

length_without : (id : IdentifierId) (us : List Entry) → length (without id us) ≤ length us
length_without id [] = omega arith
length_without id (u ∷ us) = let rest = length_without id us in
    elim (u.id.0 == id.0) as (λ b. length (cond b (without id us) (u ∷ without id us)) ≤ suc (length us))
    [ true ↦ omega arith | false ↦ omega arith ]

everyone_few : (g : Nodes) → length (everyone g) ≤ 8 * length g
everyone_few [] = omega arith
everyone_few (p ∷ g) =
    let rest = everyone_few g in
    let fewer = length_without p.0 (everyone g) in
    omega arith

pub done_few : (g : Nodes) (m : ℕ) (s : Entry) (k : ℕ) → length (run covers (node_exists g) (next g m) s k).done
    ≤ 8 * length g
done_few g m s k =
    let h = done_weighs covers (node_exists g) (next g m) covers_itself (λ e. 1) (everyone g)
    (λ e t. inl (everyone_exists g e t)) s k in
    let few = everyone_few g in
    let all = length_total (everyone g) in
    let these = length_total (run covers (node_exists g) (next g m) s k).done in
    omega arith
