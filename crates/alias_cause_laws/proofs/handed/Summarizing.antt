-- A function's context places have the effects that its summary gives them, once it is stored: what the range pass marks
-- as captured stands in the summary as mutated.
use Rattle.std.specs.Prelude.{◌≡◌, ℕ, ◌||◌, Bool, true, false, List, [], ◌∷◌, ◌++◌, Option, Some, None, Ok, map, refl}
use Rattle.std.specs.Prelude.{if◌then◌else◌, is_some}
use Rattle.std.specs.List.{list_any, list_all}
use Rattle.std.proofs.Common.{inl, inr, ⊎_elim, ap, sym, ◌∙◌, subst}
use Rattle.std.proofs.lemmas.List.Folds.{list_any-append}
use Rattle.alias_base.specs.AnswerLaws.{both_true}
use Rattle.alias_hir.specs.Parts.{param_place}
use Rattle.alias_hir.specs.declared.effect.AliasingEffect.{AliasingEffect}
use Rattle.alias_hir.specs.declared.effect.MutationReason.{MutationReason}
use Rattle.alias_hir.specs.declared.env.Environment.{Environment}
use Rattle.alias_hir.specs.declared.hir.HirFunction.{HirFunction}
use Rattle.alias_hir.specs.declared.place.Effect.{Effect}
use Rattle.alias_hir.specs.declared.place.Effect.TheVariants.{Unknown, Freeze, Read, Capture}
use Rattle.alias_hir.specs.declared.place.Effect.TheVariants.{ConditionallyMutateIterator, ConditionallyMutate, Mutate}
use Rattle.alias_hir.specs.declared.place.Effect.TheVariants.{Store}
use Rattle.alias_hir.specs.declared.place.Place.{Place}
use Rattle.alias_graph.specs.Nodes.{Node, Nodes}
use Rattle.alias_graph.specs.Walks.{IsOneOf}
use Rattle.alias_graph.specs.declared.recorded.listing.Listing.{Listing}
use Rattle.alias_graph.specs.declared.types.MutationInfo.{MutationInfo}
use Rattle.alias_graph.specs.declared.types.MutationKind.{MutationKind}
use Rattle.alias_graph.specs.declared.types.MutationKind.TheVariants.{Conditional, Definite}
use Rattle.alias_rules.specs.TreeLaws.{either}
use Rattle.alias_rules.specs.function_rules.Rules.{is_unknown, place_is_uninferred}
use Rattle.alias_range_pass.specs.Passes.{records, Ranged, range_pass}
use Rattle.alias_range_pass.specs.places.Blocks.{Placed}
use Rattle.alias_range_pass.specs.summary.Flows.{flows_listed}
use Rattle.alias_range_pass.specs.summary.MarkedPlaces.{marks_at, at_mark, local_effect, local_effects}
use Rattle.alias_range_pass.specs.summary.MarkedPlaces.{transitive_effect, transitive_effects, node_effects}
use Rattle.alias_range_pass.specs.summary.MarkedPlaces.{mark_effects, marks_of_all, is_marked_node, is_marked, captured}
use Rattle.alias_range_pass.specs.summary.MarkedPlaces.{function_captured}
use Rattle.alias_range_pass.specs.summary.Summaries.{context_and_params, tracked, returns_created, summarized}
use Rattle.alias_range_pass.specs.summary.Walking.{Walked, mutations_done, renders_done}
use Rattle.alias_ranges.specs.laws.AnswerLaws.{pass_is}
use Rattle.alias_nested.specs.Annotating.{takes, is_capture, context_annotated}
use Rattle.alias_answer_laws.proofs.order.Staying.{placed_still}
use Rattle.alias_inferred_laws.proofs.inferred.Lasting.{number_itself}
use Rattle.alias_cause_laws.specs.handed.Captures.{context_summarized}

-- ---- lists

or_left : (a b : Bool) → a ≡ true → (a || b) ≡ true
or_left true b h = refl
or_left false b h = cc

or_right : (a b : Bool) → b ≡ true → (a || b) ≡ true
or_right true b h = refl
or_right false b h = h

or_none : (a b : Bool) → b ≡ false → (a || b) ≡ a
or_none true b h = refl
or_none false b h = h

any_front : {A : Type 0} (p : A → Bool) (xs ys : List A) → list_any p xs ≡ true → list_any p (xs ++ ys) ≡ true
any_front p xs ys h = list_any-append p xs ys ∙ or_left (list_any p xs) (list_any p ys) h

any_behind : {A : Type 0} (p : A → Bool) (xs ys : List A) → list_any p ys ≡ true → list_any p (xs ++ ys) ≡ true
any_behind p xs ys h = list_any-append p xs ys ∙ or_right (list_any p xs) (list_any p ys) h

place_front : (xs ys : List Place) (p : Place) → IsOneOf p xs → IsOneOf p (xs ++ ys)
place_front [] ys p i = absurd i
place_front (x ∷ xs) ys p i = ⊎_elim (λ same. inl same) (λ later. inr (place_front xs ys p later)) i

-- ---- marks

takes_local : (kind : MutationKind) (reason : Option MutationReason) (x : Place) (i : MutationInfo)
    → takes x.identifier (local_effect kind reason (at_mark i x)) ≡ true
takes_local Conditional reason x i = number_itself x.identifier.0
takes_local Definite reason x i = number_itself x.identifier.0

takes_transitive : (kind : MutationKind) (x : Place) (i : MutationInfo)
    → takes x.identifier (transitive_effect kind (at_mark i x)) ≡ true
takes_transitive Conditional x i = number_itself x.identifier.0
takes_transitive Definite x i = number_itself x.identifier.0

local_taken : (o : Option MutationInfo) (reason : Option MutationReason) (x : Place) → is_some o ≡ true
    → list_any (takes x.identifier) (local_effects o reason x) ≡ true
local_taken None reason x h = cc
local_taken (Some i) reason x h = or_left (takes x.identifier (local_effect i.kind reason (at_mark i x))) false
    (takes_local i.kind reason x i)

transitive_taken : (o : Option MutationInfo) (x : Place) → is_some o ≡ true
    → list_any (takes x.identifier) (transitive_effects o x) ≡ true
transitive_taken None x h = cc
transitive_taken (Some i) x h = or_left (takes x.identifier (transitive_effect i.kind (at_mark i x))) false
    (takes_transitive i.kind x i)

node_taken : (n : Option Node) (x : Place) → is_marked_node n ≡ true
    → list_any (takes x.identifier) (node_effects n x) ≡ true
node_taken None x h = cc
node_taken (Some n) x h =
    let locals = local_effects n.local n.mutation_reason x in
    let others = transitive_effects n.transitive x in
    either (is_some n.local) (is_some n.transitive)
    (list_any (takes x.identifier) (locals ++ others) ≡ true) h
    (λ a. any_front (takes x.identifier) locals others (local_taken n.local n.mutation_reason x a))
    (λ b. any_behind (takes x.identifier) locals others (transitive_taken n.transitive x b))

-- what is marked stands among the marks as mutated
marks_taken : (g : Nodes) (ps : List Place) (p : Place) → IsOneOf p ps → is_marked g p.identifier ≡ true
    → list_any (takes p.identifier) (marks_of_all g ps) ≡ true
marks_taken g [] p i m = absurd i
marks_taken g (x ∷ ps) p i m =
    ⊎_elim
    (λ (same : p ≡ x). any_front (takes p.identifier) (mark_effects g x) (marks_of_all g ps)
    (subst (λ z. list_any (takes p.identifier) (mark_effects g z) ≡ true) same
    (node_taken (marks_at g p.identifier) p m)))
    (λ later. any_behind (takes p.identifier) (mark_effects g x) (marks_of_all g ps) (marks_taken g ps p later m))
    i

-- and so in the summary, where it is of a context place
summary_taken : (g : Nodes) (next : ℕ) (f : HirFunction) (env : Environment) (begin : List AliasingEffect) (p : Place)
    → IsOneOf p f.context → is_marked g p.identifier ≡ true
    → list_any (takes p.identifier) (summarized g next f env begin) ≡ true
summary_taken g next f env begin p i m =
    let marks : List AliasingEffect = marks_of_all g (context_and_params f) in
    let returns : List AliasingEffect = returns_created env f ∷ [] in
    any_front (takes p.identifier) ((begin ++ marks) ++ returns)
    (flows_listed g next f.returns (tracked f) (tracked f))
    (any_front (takes p.identifier) (begin ++ marks) returns
    (any_behind (takes p.identifier) begin marks
    (marks_taken g (context_and_params f) p (place_front f.context (map param_place f.params) p i) m)))

-- ---- context places

no_capture : (e : Effect) → is_unknown e ≡ true → is_capture e ≡ false
no_capture Unknown h = refl
no_capture Freeze h = cc
no_capture Read h = cc
no_capture Capture h = cc
no_capture ConditionallyMutateIterator h = cc
no_capture ConditionallyMutate h = cc
no_capture Mutate h = cc
no_capture Store h = cc

abbrev set_to : Place → Bool → Place
set_to p c = record p { effect = if c then Capture else Read }

place_summarized : (summary : List AliasingEffect) (p : Place) (marked : Bool)
    → (marked ≡ true → list_any (takes p.identifier) summary ≡ true) → is_unknown p.effect ≡ true
    → context_annotated summary (if marked then record p { effect = Capture } else p) ≡ context_summarized summary p
place_summarized summary p true taken unknown =
    let named : Bool = list_any (takes p.identifier) summary in
    ap (set_to p) (or_right named true refl ∙ sym (taken refl))
place_summarized summary p false taken unknown =
    let named : Bool = list_any (takes p.identifier) summary in
    ap (set_to p) (or_none named (is_capture p.effect) (no_capture p.effect unknown))

contexts_summarized : (g : Nodes) (summary : List AliasingEffect) (ps : List Place)
    → ((p : Place) → IsOneOf p ps → is_marked g p.identifier ≡ true → list_any (takes p.identifier) summary ≡ true)
    → list_all place_is_uninferred ps ≡ true
    → map (context_annotated summary) (map (captured g) ps) ≡ map (context_summarized summary) ps
contexts_summarized g summary [] taken unknown = refl
contexts_summarized g summary (p ∷ ps) taken unknown =
    let u = both_true (place_is_uninferred p) (list_all place_is_uninferred ps) unknown in
    ap (λ z. z ∷ map (context_annotated summary) (map (captured g) ps))
    (place_summarized summary p (is_marked g p.identifier) (taken p (inl refl)) u.0)
    ∙ ap (λ zs. context_summarized summary p ∷ zs)
    (contexts_summarized g summary ps (λ q i. taken q (inr i)) u.1)

-- ---- the range pass

-- of context places that had no effect, what is set once the summary is known is what the summary gives
pub ranged_context : (b : Bool) (f : HirFunction) (env : Environment) (r : Ranged) → range_pass b f env ≡ Ok r
    → list_all place_is_uninferred f.context ≡ true
    → map (context_annotated r.summary) r.after.0.context ≡ map (context_summarized r.summary) f.context
ranged_context b f env r h unknown =
    let p = pass_is b f env r h in
    let l : Listing = p.0 in
    let c : Bool = records b env in
    let w : Walked = mutations_done c l env in
    let walked : Environment = renders_done c l w in
    let s : Placed = (function_captured w.0 f, walked) in
    let summary : List AliasingEffect = summarized w.0 l.next f walked l.summary in
    subst (λ (z : Ranged). map (context_annotated z.summary) z.after.0.context
    ≡ map (context_summarized z.summary) f.context) p.2
    (ap (λ (k : HirFunction). map (context_annotated summary) k.context) (placed_still b s)
    ∙ contexts_summarized w.0 summary f.context
    (λ q i m. summary_taken w.0 l.next f walked l.summary q i m) unknown)
