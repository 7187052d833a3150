-- What a summary tells of a part of the graph is what it tells of the whole.
use Rattle.std.proofs.Common.{◌≡◌, ◌==◌, ◌&&◌, ℕ, ◌+◌, ◌⊎◌, ⊎_elim, inl, inr, Bool, true, false, not, IsTrue}
use Rattle.std.proofs.Common.{if◌then◌else◌, List, [], ◌∷◌, ◌++◌, Option, Some, None, is_some, option_map, map, refl}
use Rattle.std.proofs.Common.{ap, sym, ◌∙◌, subst}
use Rattle.alias_base.specs.declared.ids.IdentifierId.{IdentifierId}
use Rattle.alias_hir.specs.declared.effect.AliasingEffect.{AliasingEffect}
use Rattle.alias_hir.specs.declared.env.Environment.{Environment}
use Rattle.alias_hir.specs.declared.hir.HirFunction.{HirFunction}
use Rattle.alias_hir.specs.declared.hir.ParamPattern.{ParamPattern}
use Rattle.alias_hir.specs.declared.hir.ParamPattern.TheVariants as param
use Rattle.alias_hir.specs.declared.place.Effect.TheVariants.{Capture}
use Rattle.alias_hir.specs.declared.place.Place.{Place}
use Rattle.alias_hir.specs.Parts.{param_place}
use Rattle.alias_graph.specs.Flat.{marks_of}
use Rattle.alias_graph.specs.Nodes.{Node, Nodes, node_at, has_node}
use Rattle.alias_graph.specs.Walks.{IsOneOf}
use Rattle.alias_graph.proofs.Covering.{eqb_itself}
use Rattle.alias_graph.proofs.Legality.{in_left, in_right, in_either}
use Rattle.alias_graph.proofs.Parting.{walks_part, marked_part}
use Rattle.alias_graph.proofs.Within.{marked_same}
use Rattle.alias_range_pass.specs.declared.summary.start.WalkStart.{WalkStart}
use Rattle.alias_range_pass.specs.summary.Flows.{flow_start, ends_at, is_last, is_flow, flow_effect, flow_from}
use Rattle.alias_range_pass.specs.summary.Flows.{flows_into, flows_listed}
use Rattle.alias_range_pass.specs.summary.MarkedPlaces.{marks_at, node_effects, mark_effects, marks_of_all}
use Rattle.alias_range_pass.specs.summary.MarkedPlaces.{is_marked_node, captured, param_captured, function_captured}
use Rattle.alias_range_pass.specs.summary.Summaries.{context_and_params, returns_created, tracked, summarized}
use Rattle.alias_range_pass.specs.summary.Sweeping.{identifier_of, summarized_ids, IsPart}
use Rattle.alias_range_pass.specs.summary.SweepLaws.{in_map}
use Rattle.alias_range_pass.specs.summary.Walking.{start_entry, start_origin, expanded, nodes_after}

none_of : (o : Option Node) → is_some o ≡ false → o ≡ None
none_of None h = refl
none_of (Some n) h = cc

module _ (ids : List IdentifierId) (g h : Nodes) (part : IsPart ids g h) where
  node_same : (id : IdentifierId) → IsOneOf id ids → node_at h id ≡ node_at g id
  node_same id i = elim (has_node g id) as (λ b. has_node g id ≡ b → node_at h id ≡ node_at g id) [
    | true ↦ λ is. part.same.alike id (part.kept id i is)
    | false ↦ λ is. none_of (node_at h id) (part.same.ids id ∙ is) ∙ sym (none_of (node_at g id) is)
  ] refl

  marks_same : (id : IdentifierId) → IsOneOf id ids → marks_at h id ≡ marks_at g id
  marks_same id i = ap (option_map marks_of) (node_same id i)

  all_marks : (xs : List Place) → ((x : Place) → IsOneOf x xs → IsOneOf x.identifier ids) → marks_of_all h xs
      ≡ marks_of_all g xs
  all_marks [] in_summary = refl
  all_marks (x ∷ xs) in_summary =
      ap (λ o. node_effects o x ++ marks_of_all h xs) (marks_same x.identifier (in_summary x (inl refl)))
      ∙ ap (λ z. mark_effects g x ++ z) (all_marks xs (λ y i. in_summary y (inr i)))

  captures : (x : Place) → IsOneOf x.identifier ids → captured h x ≡ captured g x
  captures x i = ap (λ o. if is_marked_node o then record x { effect = Capture } else x) (marks_same x.identifier i)

  captures_all : (xs : List Place) → ((x : Place) → IsOneOf x xs → IsOneOf x.identifier ids) → map (captured h) xs
      ≡ map (captured g) xs
  captures_all [] in_summary = refl
  captures_all (x ∷ xs) in_summary = ap (λ z. z ∷ map (captured h) xs) (captures x (in_summary x (inl refl)))
      ∙ ap (λ z. captured g x ∷ z) (captures_all xs (λ y i. in_summary y (inr i)))

  captures_param : (p : ParamPattern) → IsOneOf (param_place p).identifier ids → param_captured h p ≡ param_captured g p
  captures_param (param.Place x) i = ap (λ z. param.Place z) (captures x i)
  captures_param (param.Spread s) i = ap (λ z. param.Spread (record s { place = z })) (captures s.place i)

  captures_params : (ps : List ParamPattern) → ((x : Place) → IsOneOf x (map param_place ps) → IsOneOf x.identifier ids)
      → map (param_captured h) ps ≡ map (param_captured g) ps
  captures_params [] in_summary = refl
  captures_params (p ∷ ps) in_summary = ap (λ z. z ∷ map (param_captured h) ps)
      (captures_param p (in_summary (param_place p) (inl refl)))
      ∙ ap (λ z. param_captured g p ∷ z) (captures_params ps (λ y i. in_summary y (inr i)))

  -- a simulated walk keeps the part
  walked_part : (s : WalkStart) → IsPart ids (nodes_after s g) (nodes_after s h)
  walked_part s = record {
    keep = part.keep;
    same = marked_part part.keep g h part.same s.index (start_origin s) (expanded g s) (expanded h s)
        (walks_part part.keep g h part.same s.index (start_entry s));
    kept = λ id i t. part.kept id i (subst IsTrue (marked_same s.index (start_origin s) g (expanded g s) id) t);
  }

either_way : (a b c d : Bool) → b ≡ true → (not a && (not b && c)) ≡ (not a && (not b && d))
either_way true b c d h = refl
either_way false true c d h = refl
either_way false false c d h = cc

module _ (ids : List IdentifierId) (returns : Place) where
  -- the place is reported, or is what is returned
  abbrev IsReported : Place → Type 0
  IsReported x = IsOneOf x.identifier ids ⊎ (x.identifier.0 ≡ returns.identifier.0)

  same_flow : (g h : Nodes) → IsPart ids g h → (index : ℕ) (into from : Place) → IsReported from
      → is_flow h index returns into from ≡ is_flow g index returns into from
  same_flow g h part index into from (inl i) =
      ap (λ o. not (from.identifier.0 == into.identifier.0)
      && (not (from.identifier.0 == returns.identifier.0) && ends_at index o))
      (marks_same ids g h part from.identifier i)
  same_flow g h part index into from (inr same) =
      either_way (from.identifier.0 == into.identifier.0) (from.identifier.0 == returns.identifier.0)
      (is_last h index from) (is_last g index from)
      (ap (λ n. n == returns.identifier.0) same ∙ eqb_itself returns.identifier.0)

  same_flows : (g h : Nodes) → IsPart ids g h → (index : ℕ) (into : Place) (places : List Place)
      → ((x : Place) → IsOneOf x places → IsReported x) → flows_into h index returns places into
      ≡ flows_into g index returns places into
  same_flows g h part index into [] in_summary = refl
  same_flows g h part index into (from ∷ places) in_summary =
      ap (λ b. (if b then flow_effect returns from into ∷ [] else []) ++ flows_into h index returns places into)
      (same_flow g h part index into from (in_summary from (inl refl)))
      ∙ ap (λ z. flow_from g index returns into from ++ z)
      (same_flows g h part index into places (λ y i. in_summary y (inr i)))

  all_flows : (places : List Place) → ((x : Place) → IsOneOf x places → IsReported x)
      → (intos : List Place) (g h : Nodes) → IsPart ids g h → (index : ℕ) → flows_listed h index returns places intos
      ≡ flows_listed g index returns places intos
  all_flows places in_summary [] g h part index = refl
  all_flows places in_summary (into ∷ intos) g h part index =
      let s = flow_start index into in
      let next = walked_part ids g h part s in
      ap (λ z. z ++ flows_listed (nodes_after s h) (index + 1) returns places intos)
      (same_flows (nodes_after s g) (nodes_after s h) next index into places in_summary)
      ∙ ap (λ z. flows_into (nodes_after s g) index returns places into ++ z)
      (all_flows places in_summary intos (nodes_after s g) (nodes_after s h) next (index + 1))

module _ (f : HirFunction) where
  summarized_place : (x : Place) → IsOneOf x (context_and_params f) → IsOneOf x.identifier (summarized_ids f)
  summarized_place x i = in_map identifier_of (context_and_params f) x i

  tracked_summarized : (x : Place) → IsOneOf x (tracked f) → IsOneOf x.identifier (summarized_ids f)
      ⊎ (x.identifier.0 ≡ f.returns.identifier.0)
  tracked_summarized x i = ⊎_elim
      (λ two. ⊎_elim
      (λ p. inl (summarized_place x (in_right f.context (map param_place f.params) x p)))
      (λ c. inl (summarized_place x (in_left f.context (map param_place f.params) x c)))
      (in_either (map param_place f.params) f.context x two))
      (λ last. ⊎_elim (λ (same : x ≡ f.returns). inr (ap (λ (z : Place). z.identifier.0) same)) (λ none. absurd none)
      last)
      (in_either (map param_place f.params ++ f.context) (f.returns ∷ []) x i)

  module _ (g h : Nodes) (part : IsPart (summarized_ids f) g h) where
    pub summarized_part : (next : ℕ) (env : Environment) (begin : List AliasingEffect) → summarized h next f env begin
        ≡ summarized g next f env begin
    summarized_part next env begin =
        ap (λ z. ((begin ++ z) ++ returns_created env f ∷ []) ++ flows_listed h next f.returns (tracked f) (tracked f))
        (all_marks (summarized_ids f) g h part (context_and_params f) summarized_place)
        ∙ ap (λ z. ((begin ++ marks_of_all g (context_and_params f)) ++ returns_created env f ∷ []) ++ z)
        (all_flows (summarized_ids f) f.returns (tracked f) tracked_summarized (tracked f) g h part next)

    pub captured_part : function_captured h f ≡ function_captured g f
    captured_part =
        ap (λ z. record f { params = z; context = map (captured h) f.context })
        (captures_params (summarized_ids f) g h part f.params
        (λ x i. summarized_place x (in_right f.context (map param_place f.params) x i)))
        ∙ ap (λ z. record f { params = map (param_captured g) f.params; context = z })
        (captures_all (summarized_ids f) g h part f.context
        (λ x i. summarized_place x (in_left f.context (map param_place f.params) x i)))
