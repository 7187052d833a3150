-- Summaries over graphs that are alike are alike, and the same places are captured.
use Rattle.std.specs.Prelude.{◌≡◌, ℕ, ◌+◌, ◌==◌, ◌&&◌, ◌++◌, Bool, not, List, [], ◌∷◌, Option, if◌then◌else◌}
use Rattle.std.specs.Prelude.{option_map, map, refl}
use Rattle.std.proofs.Common.{ap, sym, ◌∙◌, subst}
use Rattle.std.specs.List.{flat_map}
use Rattle.alias_base.specs.declared.ids.IdentifierId.{IdentifierId}
use Rattle.alias_hir.specs.declared.effect.AliasingEffect.{AliasingEffect}
use Rattle.alias_hir.specs.declared.effect.MutationReason.{MutationReason}
use Rattle.alias_hir.specs.declared.env.Environment.{Environment}
use Rattle.alias_hir.specs.declared.hir.HirFunction.{HirFunction}
use Rattle.alias_hir.specs.declared.hir.ParamPattern.{ParamPattern}
use Rattle.alias_hir.specs.declared.hir.ParamPattern.TheVariants as param
use Rattle.alias_hir.specs.declared.place.Effect.TheVariants.{Capture}
use Rattle.alias_hir.specs.declared.place.Place.{Place}
use Rattle.alias_graph.specs.declared.types.MutationInfo.{MutationInfo}
use Rattle.alias_graph.specs.declared.types.MutationKind.{MutationKind}
use Rattle.alias_graph.specs.declared.types.MutationKind.TheVariants.{Conditional, Definite}
use Rattle.alias_graph.specs.Flat.{marks_of}
use Rattle.alias_graph.specs.Nodes.{Node, Nodes, node_at}
use Rattle.alias_range_pass.specs.summary.Flows.{flow_start, ends_at, is_last, flow_effect, flows_into, flows_listed}
use Rattle.alias_range_pass.specs.summary.MarkedPlaces.{marks_at, at_mark, local_effect, local_effects}
use Rattle.alias_range_pass.specs.summary.MarkedPlaces.{transitive_effect, transitive_effects, node_effects}
use Rattle.alias_range_pass.specs.summary.MarkedPlaces.{mark_effects, marks_of_all, is_marked_node, captured}
use Rattle.alias_range_pass.specs.summary.MarkedPlaces.{param_captured, function_captured}
use Rattle.alias_range_pass.specs.summary.Summaries.{context_and_params, tracked, returns_created, summarized}
use Rattle.alias_range_pass.specs.summary.Walking.{nodes_after}
use Rattle.alias_certificate_laws.specs.accepting.Alike.{none, more, Maybe, nothing, just, Alike, mutate}
use Rattle.alias_certificate_laws.specs.accepting.Alike.{mutate_conditionally, mutate_transitive}
use Rattle.alias_certificate_laws.specs.accepting.Alike.{mutate_transitive_conditionally, AlikeEffects}
use Rattle.alias_certificate_laws.proofs.accepting.Likeness.{alike_self, paired_self, paired_append}
use Rattle.alias_range_alike_laws.proofs.Answers.{flat_alike}
use Rattle.alias_range_alike_laws.proofs.Nodes.{AlikeInfo, of_info, AlikeNode, of_node, AlikeNodes, node_alike}
use Rattle.alias_range_alike_laws.proofs.Walks.{start_self, nodes_after_alike}

-- ---- marks

marks_alike : (o p : Option Node) → Maybe AlikeNode o p
    → Maybe AlikeNode (option_map marks_of o) (option_map marks_of p)
marks_alike o p nothing = nothing
marks_alike o p (just (of_node n l t reason a b)) = just (of_node (marks_of n) l t reason a b)

pub marks_at_alike : (g h : Nodes) (id : IdentifierId) → AlikeNodes g h
    → Maybe AlikeNode (marks_at g id) (marks_at h id)
marks_at_alike g h id q = marks_alike (node_at g id) (node_at h id) (node_alike g h id q)

local_alike : (k : MutationKind) (r s : Option MutationReason) (i j : MutationInfo) (x : Place)
    → Alike (local_effect k r (at_mark i x)) (local_effect k s (at_mark j x))
local_alike Conditional r s i j x = mutate_conditionally (at_mark i x) (at_mark j x)
local_alike Definite r s i j x = mutate (at_mark i x) (at_mark j x) r s

locals_alike : (o p : Option MutationInfo) (r s : Option MutationReason) (x : Place) → Maybe AlikeInfo o p
    → AlikeEffects (local_effects o r x) (local_effects p s x)
locals_alike o p r s x nothing = none
locals_alike o p r s x (just (of_info i span)) = more (local_alike i.kind r s i (record i { span = span }) x) none

transitive_alike : (k : MutationKind) (i j : MutationInfo) (x : Place)
    → Alike (transitive_effect k (at_mark i x)) (transitive_effect k (at_mark j x))
transitive_alike Conditional i j x = mutate_transitive_conditionally (at_mark i x) (at_mark j x)
transitive_alike Definite i j x = mutate_transitive (at_mark i x) (at_mark j x)

transitives_alike : (o p : Option MutationInfo) (x : Place) → Maybe AlikeInfo o p
    → AlikeEffects (transitive_effects o x) (transitive_effects p x)
transitives_alike o p x nothing = none
transitives_alike o p x (just (of_info i span)) = more (transitive_alike i.kind i (record i { span = span }) x) none

node_effects_alike : (o p : Option Node) (x : Place) → Maybe AlikeNode o p
    → AlikeEffects (node_effects o x) (node_effects p x)
node_effects_alike o p x nothing = none
node_effects_alike o p x (just (of_node n l t reason a b)) =
    paired_append (locals_alike n.local l n.mutation_reason reason x a) (transitives_alike n.transitive t x b)

all_marks_alike : (g h : Nodes) (xs : List Place) → AlikeNodes g h
    → AlikeEffects (marks_of_all g xs) (marks_of_all h xs)
all_marks_alike g h xs q = flat_alike Alike (mark_effects g) (mark_effects h)
    (λ x. node_effects_alike (marks_at g x.identifier) (marks_at h x.identifier) x (marks_at_alike g h x.identifier q))
    xs

-- ---- flows

ends_same : (index : ℕ) (o p : Option Node) → Maybe AlikeNode o p → ends_at index p ≡ ends_at index o
ends_same index o p nothing = refl
ends_same index o p (just (of_node n l t reason a b)) = refl

last_same : (g h : Nodes) (index : ℕ) → AlikeNodes g h → is_last h index ≡ is_last g index
last_same g h index q = λ i x. ends_same index (marks_at g x.identifier) (marks_at h x.identifier)
    (marks_at_alike g h x.identifier q) i

-- the flows into a place, by which places the last walk came to
abbrev flows_by : (Place → Bool) → Place → List Place → Place → List AliasingEffect
flows_by last returns places into =
    flat_map (λ (from : Place). if not (from.identifier.0 == into.identifier.0)
    && (not (from.identifier.0 == returns.identifier.0) && last from) then flow_effect returns from into ∷ []
    else []) places

into_same : (g h : Nodes) (index : ℕ) (returns into : Place) (places : List Place) → AlikeNodes g h
    → flows_into h index returns places into ≡ flows_into g index returns places into
into_same g h index returns into places q =
    ap (λ (last : Place → Bool). flows_by last returns places into) (last_same g h index q)

flows_same : (g h : Nodes) (index : ℕ) (returns : Place) (places intos : List Place) → AlikeNodes g h
    → flows_listed h index returns places intos ≡ flows_listed g index returns places intos
flows_same g h index returns places [] q = refl
flows_same g h index returns places (into ∷ intos) q =
    let g' : Nodes = nodes_after (flow_start index into) g in
    let h' : Nodes = nodes_after (flow_start index into) h in
    let r : AlikeNodes g' h' = nodes_after_alike (flow_start index into) (flow_start index into) g h
    (start_self (flow_start index into)) q in
    ap (λ z. z ++ flows_listed h' (index + 1) returns places intos) (into_same g' h' index returns into places r)
    ∙ ap (λ z. flows_into g' index returns places into ++ z) (flows_same g' h' (index + 1) returns places intos r)

effects_same : (es fs : List AliasingEffect) → fs ≡ es → AlikeEffects es fs
effects_same es fs is = subst (λ z. AlikeEffects es z) (sym is) (paired_self Alike alike_self es)

-- ---- a summary

pub summary_alike : (g h : Nodes) (next : ℕ) (f : HirFunction) (env : Environment) (begin other : List AliasingEffect)
    → AlikeNodes g h → AlikeEffects begin other
    → AlikeEffects (summarized g next f env begin) (summarized h next f env other)
summary_alike g h next f env begin other q a =
    paired_append (paired_append (paired_append a (all_marks_alike g h (context_and_params f) q))
    (more (alike_self (returns_created env f)) none))
    (effects_same (flows_listed g next f.returns (tracked f) (tracked f))
    (flows_listed h next f.returns (tracked f) (tracked f))
    (flows_same g h next f.returns (tracked f) (tracked f) q))

-- ---- what is captured

mark_same : (o p : Option Node) → Maybe AlikeNode o p → is_marked_node p ≡ is_marked_node o
mark_same o p nothing = refl
mark_same o p (just (of_node n l t reason nothing nothing)) = refl
mark_same o p (just (of_node n l t reason nothing (just b))) = refl
mark_same o p (just (of_node n l t reason (just a) nothing)) = refl
mark_same o p (just (of_node n l t reason (just a) (just b))) = refl

module _ (g h : Nodes) (q : AlikeNodes g h) where
  captured_same : captured h ≡ captured g
  captured_same = λ i x. if mark_same (marks_at g x.identifier) (marks_at h x.identifier)
      (marks_at_alike g h x.identifier q) i then record x { effect = Capture } else x

  param_same : (p : ParamPattern) → param_captured h p ≡ param_captured g p
  param_same (param.Place p) = ap (λ (c : Place → Place). param.Place (c p)) captured_same
  param_same (param.Spread s) = ap (λ (c : Place → Place). param.Spread (record s { place = c s.place })) captured_same

  params_same : param_captured h ≡ param_captured g
  params_same = λ i p. param_same p i

  pub function_same : (f : HirFunction) → function_captured h f ≡ function_captured g f
  function_same f =
      ap (λ (c : ParamPattern → ParamPattern).
      record f { params = map c f.params; context = map (captured h) f.context }) params_same
      ∙ ap (λ (c : Place → Place). record f { params = map (param_captured g) f.params; context = map c f.context })
      captured_same
