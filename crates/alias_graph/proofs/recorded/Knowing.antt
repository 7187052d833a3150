-- The set of what a list of events makes, after one more.
use Rattle.std.proofs.Common.{◌≡◌, Bool, true, false, cond, ◌||◌, ◌==◌, List, [], ◌∷◌, ◌++◌, Option, Some, None}
use Rattle.std.proofs.Common.{is_some, if◌then◌else◌, refl, ap, sym, ◌∙◌}
use Rattle.std.specs.Map.{lookup}
use Rattle.std.specs.List.{list_any}
use Rattle.alias_base.specs.declared.ids.IdentifierId.{IdentifierId}
use Rattle.alias_graph.specs.Nodes.{same_id}
use Rattle.alias_graph.specs.Graph.{Event}
use Rattle.alias_graph.specs.declared.events.GraphEvent.{GraphEvent}
use Rattle.alias_graph.specs.declared.events.GraphEvent.TheVariants.{Make, CreateFrom, Link}
use Rattle.alias_graph.specs.Events.{event_of, events_of}
use Rattle.alias_graph.specs.RemainingLinks.{makes, was_made}
use Rattle.alias_graph.proofs.Covering.{eqb_is}
use Rattle.alias_graph.specs.recorded.IdSets.{Ids, is_in, with_id, made_id, has_made, Knows}

or_false : (b : Bool) → (b || false) ≡ b
or_false true = refl
or_false false = refl

any_push : (p : Event → Bool) (xs : List Event) (e : Event) → list_any p (xs ++ e ∷ []) ≡ (p e || list_any p xs)
any_push p [] e = refl
any_push p (x ∷ xs) e = elim (p x) as (λ b. (b || list_any p (xs ++ e ∷ [])) ≡ (p e || (b || list_any p xs))) [
  | true ↦ elim (p e) as (λ c. true ≡ (c || true)) [ true ↦ refl | false ↦ refl ]
  | false ↦ any_push p xs e
]

pub events_push : (es : List GraphEvent) (e : GraphEvent) → events_of (es ++ e ∷ []) ≡ events_of es ++ event_of e ∷ []
events_push [] e = refl
events_push (x ∷ es) e = ap (λ z. event_of x ∷ z) (events_push es e)

-- one event more makes what it makes
pub made_more : (es : List GraphEvent) (e : GraphEvent) (id : IdentifierId) → has_made (es ++ e ∷ []) id
    ≡ (makes id (event_of e) || has_made es id)
made_more es e id = ap (λ z. was_made id z) (events_push es e) ∙ any_push (makes id) (events_of es) (event_of e)

in_again : (b : Bool) (o : Option (Unit {0})) → is_some (cond b (Some (tt {0})) o)
    ≡ (b || is_some (cond b (Some (tt {0})) o))
in_again true o = refl
in_again false o = refl

or_true : (b : Bool) → true ≡ (b || true)
or_true true = refl
or_true false = refl

one_in : (ids : Ids) (id q : IdentifierId) → is_in (with_id ids id) q ≡ (same_id q id || is_in ids q)
one_in [] id q = elim (same_id q id) as (λ b. is_some (cond b (Some (tt {0})) None) ≡ (b || false))
    [ true ↦ refl | false ↦ refl ]
one_in (p ∷ ids) id q = elim (same_id id p.0) as
    (λ b. same_id id p.0 ≡ b → is_some (lookup (same_id q) (if b then (p.0, tt {0}) ∷ ids else p ∷ with_id ids id))
    ≡ (same_id q id || is_some (cond (same_id q p.0) (Some p.1) (lookup (same_id q) ids)))) [
      | true ↦ λ is.
          let at : id.0 ≡ p.0.0 = eqb_is id.0 p.0.0 is in
          in_again (same_id q p.0) (lookup (same_id q) ids)
          ∙ ap (λ k. (q.0 == k) || is_some (cond (same_id q p.0) (Some p.1) (lookup (same_id q) ids))) (sym at)
      | false ↦ λ is. elim (same_id q p.0) as
          (λ b. is_some (cond b (Some p.1) (lookup (same_id q) (with_id ids id)))
          ≡ (same_id q id || is_some (cond b (Some p.1) (lookup (same_id q) ids)))) [
            | true ↦ or_true (same_id q id)
            | false ↦ one_in ids id q
          ]
    ] refl

pub knows_same : (ids : Ids) (es : List GraphEvent) (e : GraphEvent) → made_id e ≡ None → Knows ids es
    → Knows ids (es ++ e ∷ [])
knows_same ids es (Make at value) none k q = cc
knows_same ids es (CreateFrom index from into) none k q = cc
knows_same ids es (Link kind index from into) none k q = k q ∙ sym (made_more es (Link kind index from into) q)

pub knows_more : (ids : Ids) (es : List GraphEvent) (e : GraphEvent) (id : IdentifierId) → made_id e ≡ Some id
    → Knows ids es → Knows (with_id ids id) (es ++ e ∷ [])
knows_more ids es (Make at value) id some k q =
    let is : at ≡ id = cc in
    one_in ids id q ∙ ap (λ z. same_id q id || z) (k q) ∙ ap (λ z. same_id q z || has_made es q) (sym is)
    ∙ sym (made_more es (Make at value) q)
knows_more ids es (CreateFrom index from into) id some k q =
    let is : into ≡ id = cc in
    one_in ids id q ∙ ap (λ z. same_id q id || z) (k q) ∙ ap (λ z. same_id q z || has_made es q) (sym is)
    ∙ sym (made_more es (CreateFrom index from into) q)
knows_more ids es (Link kind index from into) id none k q = cc
