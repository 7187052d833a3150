-- The listed flows are those of legal paths.
use Rattle.std.proofs.Common.{◌≡◌, ℕ, ◌+◌, ◌==◌, ◌&&◌, inl, inr, Bool, true, false, not, if◌then◌else◌, List, [], ◌∷◌}
use Rattle.std.proofs.Common.{◌++◌, Option, Some, None, option_map, refl, ap, sym, ◌∙◌, subst, arith}
use Rattle.std.specs.Option.{option_map_or}
use Rattle.alias_base.specs.declared.ids.IdentifierId.{IdentifierId}
use Rattle.alias_hir.specs.declared.effect.AliasingEffect.{AliasingEffect}
use Rattle.alias_hir.specs.declared.env.Environment.{Environment}
use Rattle.alias_hir.specs.declared.hir.HirFunction.{HirFunction}
use Rattle.alias_hir.specs.declared.place.Place.{Place}
use Rattle.alias_graph.specs.Flat.{marks_of}
use Rattle.alias_graph.specs.NodeMarks.{origin}
use Rattle.alias_graph.specs.Nodes.{Node, Nodes, node_at}
use Rattle.alias_graph.specs.Reach.{AllMutatedBefore, EndsAt, Flows}
use Rattle.alias_graph.proofs.Covering.{eqb_is, eqb_itself}
use Rattle.alias_graph.proofs.Flowing.{walk_flows}
use Rattle.alias_graph.proofs.Reaching.{id_is}
use Rattle.alias_range_pass.specs.summary.Flows.{flow_start, ends_at, is_last, flow_effect, is_flow, flows_into}
use Rattle.alias_range_pass.specs.summary.Flows.{flows_listed}
use Rattle.alias_range_pass.specs.summary.Laws.{SameLinks, IsFlow, FlowsInto, FlowsAre, EndsWithFlows}
use Rattle.alias_range_pass.specs.summary.LegalLaws.{links_back, links_after, legal_same}
use Rattle.alias_range_pass.specs.summary.MarkedPlaces.{marks_of_all}
use Rattle.alias_range_pass.specs.summary.Summaries.{context_and_params, returns_created, tracked, summarized}
use Rattle.alias_range_pass.specs.summary.WalkLaws.{stay_before}
use Rattle.alias_range_pass.specs.summary.Walking.{start_entry, expanded, nodes_after}

-- ---- one flow

at_last : (index : ℕ) (o : Option ℕ) → option_map_or (λ k. k == index) o false ≡ true → o ≡ Some index
at_last index None h = cc
at_last index (Some k) h = ap Some (eqb_is k index h)

last_is : (index : ℕ) (o : Option Node) → ends_at index (option_map marks_of o) ≡ true → (n : Node) × (o ≡ Some n)
    × (n.last_mutated ≡ Some index)
last_is index None h = cc
last_is index (Some n) h = (n, refl, at_last index n.last_mutated h)

is_ended : (index : ℕ) (o : Option Node) (n : Node) → o ≡ Some n → n.last_mutated ≡ Some index
    → ends_at index (option_map marks_of o) ≡ true
is_ended index o n at is = ap (λ z. ends_at index (option_map marks_of z)) at
    ∙ ap (λ z. option_map_or (λ k. k == index) z false) is ∙ eqb_itself index

all_true : (a b c : Bool) → (not a && (not b && c)) ≡ true → (a ≡ false) × (b ≡ false) × (c ≡ true)
all_true true b c h = cc
all_true false true c h = cc
all_true false false c h = (refl, refl, h)

all_set : (a b c : Bool) → a ≡ false → b ≡ false → c ≡ true → (not a && (not b && c)) ≡ true
all_set true b c p q r = cc
all_set false true c p q r = cc
all_set false false c p q r = r

not_same : (a b : ℕ) (c : Bool) → (a == b) ≡ c → (a ≡ b → ⊥) → (a == b) ≡ false
not_same a b true is h = absurd (h (eqb_is a b is))
not_same a b false is h = is

apart : (a b : ℕ) → (a == b) ≡ false → a ≡ b → ⊥
apart a b un is = let yes : (b == b) ≡ true = eqb_itself b in let also : (b == b) ≡ false = ap (λ z. z == b) (sym is)
    ∙ un in cc

module _ (g h : Nodes) (index : ℕ) (returns into : Place) (same : SameLinks g h)
    (before : AllMutatedBefore h index) where
  abbrev after : Nodes
  after = nodes_after (flow_start index into) h

  walk_is : Flows h index (start_entry (flow_start index into)) after
  walk_is = walk_flows index (origin into.span None) h before (start_entry (flow_start index into))

  yes : (from : Place) → is_flow after index returns into from ≡ true → IsFlow g index returns into from
  yes from is =
      let a = all_true (from.identifier.0 == into.identifier.0) (from.identifier.0 == returns.identifier.0)
      (is_last after index from) is in
      let e = walk_is.listed from.identifier (last_is index (node_at after from.identifier) a.2) in
      record {
        different = apart from.identifier.0 into.identifier.0 a.0;
        not_returned = apart from.identifier.0 returns.identifier.0 a.1;
        path = (e.0, e.1, legal_same h g (links_back g h same) index (start_entry (flow_start index into)) e.0 e.2);
      }

  must : (from : Place) → IsFlow g index returns into from → is_flow after index returns into from ≡ true
  must from f =
      let P : IdentifierId → Type 0 = λ z. EndsAt after index z in
      let ends : EndsAt after index from.identifier =
      subst P (id_is f.path.0.id from.identifier f.path.1)
      (walk_is.all f.path.0 (legal_same g h same index (start_entry (flow_start index into)) f.path.0 f.path.2)) in
      all_set (from.identifier.0 == into.identifier.0) (from.identifier.0 == returns.identifier.0)
      (is_last after index from)
      (not_same from.identifier.0 into.identifier.0 (from.identifier.0 == into.identifier.0) refl f.different)
      (not_same from.identifier.0 returns.identifier.0 (from.identifier.0 == returns.identifier.0) refl f.not_returned)
      (is_ended index (node_at after from.identifier) ends.0 ends.1 ends.2)

  choose : (b : Bool) (from : Place) (froms : List Place) (rest : List AliasingEffect)
      → is_flow after index returns into from ≡ b → FlowsInto g index returns into froms rest
      → FlowsInto g index returns into (from ∷ froms) ((if b then flow_effect returns from into ∷ [] else []) ++ rest)
  choose true from froms rest is p = inl (yes from is, rest, refl, p)
  choose false from froms rest is p = inr (λ f. let is_true = must from f in cc, p)

  into_are : (froms : List Place) → FlowsInto g index returns into froms (flows_into after index returns froms into)
  into_are [] = refl
  into_are (from ∷ froms) = choose (is_flow after index returns into from) from froms
      (flows_into after index returns froms into) refl (into_are froms)

  next_before : AllMutatedBefore after (index + 1)
  next_before = stay_before index (index + 1) (origin into.span None) h (omega arith)
      (λ q n k at is. let lt = before q n k at is in omega arith) (expanded h (flow_start index into))

-- ---- all flows

-- the flows that are listed after walks over a graph with these links are those of legal paths
pub flows_are : (g : Nodes) (returns : Place) (places intos : List Place) (h : Nodes) (index : ℕ) → SameLinks g h
    → AllMutatedBefore h index → FlowsAre g index returns places intos (flows_listed h index returns places intos)
flows_are g returns places [] h index same before = refl
flows_are g returns places (into ∷ intos) h index same before =
    let after : Nodes = nodes_after (flow_start index into) h in (
      flows_into after index returns places into,
      flows_listed after (index + 1) returns places intos,
      refl,
      into_are g h index returns into same before places,
      flows_are g returns places intos after (index + 1) (links_after g h (flow_start index into) same)
          (next_before g h index returns into same before),
    )

-- a summary ends with its flows
pub ends_with_flows : (g h : Nodes) (next : ℕ) (f : HirFunction) (env : Environment)
    (begin summary : List AliasingEffect) → summary ≡ summarized h next f env begin → SameLinks g h
    → AllMutatedBefore h next → EndsWithFlows g next f.returns (tracked f) summary
ends_with_flows g h next f env begin summary is same before = (
  (begin ++ marks_of_all h (context_and_params f)) ++ returns_created env f ∷ [],
  flows_listed h next f.returns (tracked f) (tracked f),
  is,
  flows_are g f.returns (tracked f) (tracked f) h next same before,
)
