-- What the effects of instructions record: the events of the alias graph, mutations and renders at their positions, and
-- what the summary begins with.
use Rattle.std.specs.Prelude.{◌≡◌, ℕ, ◌+◌, Bool, true, false, List, [], ◌∷◌, ◌++◌, Option, Some, None, Result, Ok, Err}
use Rattle.std.specs.Prelude.{⊤, if◌then◌else◌, nat_lt, slice_get}
use Rattle.alias_base.specs.Answer.{◌>>=◌}
use Rattle.alias_base.specs.declared.ids.InstructionId.{InstructionId}
use Rattle.alias_base.specs.declared.ids.EvaluationOrder.{EvaluationOrder}
use Rattle.alias_hir.specs.declared.effect.AliasingEffect.{AliasingEffect}
use Rattle.alias_hir.specs.declared.effect.AliasingEffect.TheVariants as effect
use Rattle.alias_hir.specs.declared.effect.MutationReason.{MutationReason}
use Rattle.alias_hir.specs.declared.error.Counter.TheVariants.{GraphPositions}
use Rattle.alias_hir.specs.declared.error.HirError.{HirError}
use Rattle.alias_hir.specs.declared.error.HirError.TheVariants.{TooMany, Memory}
use Rattle.alias_hir.specs.declared.hir.Instruction.{Instruction}
use Rattle.alias_hir.specs.declared.place.Place.{Place}
use Rattle.alias_graph.specs.declared.types.EdgeKind.{EdgeKind}
use Rattle.alias_graph.specs.declared.types.EdgeKind.TheVariants.{Capture, Alias, MaybeAlias}
use Rattle.alias_graph.specs.declared.types.MutationKind.{MutationKind}
use Rattle.alias_graph.specs.declared.types.MutationKind.TheVariants.{Conditional, Definite}
use Rattle.alias_graph.specs.declared.types.NodeValue.{NodeValue}
use Rattle.alias_graph.specs.declared.types.NodeValue.TheVariants.{Object, Function}
use Rattle.alias_graph.specs.declared.events.GraphEvent.{GraphEvent}
use Rattle.alias_graph.specs.declared.events.GraphEvent.TheVariants as event
use Rattle.alias_graph.specs.declared.recorded.listing.Listing.{Listing}
use Rattle.alias_graph.specs.recorded.Each.{each}
use Rattle.alias_graph.specs.recorded.IdSets.{has_made}

-- After Ok the listing is the one that the step gives, and a refusal is the step's. Memory may fail at any time.
abbrev pub Follows : Result Listing HirError → Result ⊤ HirError → Listing → Type 0
Follows step (Ok u) l = step ≡ Ok l
Follows step (Err (TooMany c)) l = step ≡ Err (TooMany c)
Follows step (Err (Memory e)) l = ⊤

-- the position after this one, of which 4,294,967,295 may be taken
abbrev pub position_after : ℕ → Result ℕ HirError
position_after n = if nat_lt n 4294967295 then Ok (n + 1) else Err (TooMany GraphPositions)

-- ---- one effect

abbrev pub with_event : GraphEvent → Listing → Listing
with_event e l = record l { events = l.events ++ e ∷ [] }

abbrev pub made : NodeValue → Place → Listing → Listing
made value x l = with_event (event.Make x.identifier value) l

-- an object, where there is no node yet
abbrev pub made_once : Place → Listing → Listing
made_once x l = if has_made l.events x.identifier then l else made Object x l

-- the next position, and an event that stands there
abbrev pub positioned : (ℕ → GraphEvent) → Listing → Result Listing HirError
positioned e l = do
  after ← position_after l.next
  Ok (record l { next = after; events = l.events ++ e l.next ∷ [] })

abbrev pub linked : EdgeKind → Place → Place → Listing → Result Listing HirError
linked kind a x = positioned (λ index. event.Link kind index a.identifier x.identifier)

abbrev pub created_from : Place → Place → Listing → Result Listing HirError
created_from a x = positioned (λ index. event.CreateFrom index a.identifier x.identifier)

-- the mutation is recorded, at the next position
abbrev pub mutated : InstructionId → EvaluationOrder → Place → Bool → MutationKind → Option MutationReason → Listing
    → Result Listing HirError
mutated i order x transitive kind reason l = do
  after ← position_after l.next
  Ok (record l {
    next = after;
    mutations = l.mutations
        ++ record {
          index = l.next;
          instruction = i;
          order = order;
          place = x;
          transitive = transitive;
          kind = kind;
          reason = reason;
        } ∷ [];
  })

-- the effect goes into the summary
abbrev pub summarized : AliasingEffect → Listing → Listing
summarized e l = record l { summary = l.summary ++ e ∷ [] }

-- the render is recorded, at the next position, and goes into the summary
abbrev pub rendered : InstructionId → Place → Listing → Result Listing HirError
rendered i x l = do
  after ← position_after l.next
  Ok (record l {
    next = after;
    renders = l.renders ++ record { index = l.next; instruction = i; place = x } ∷ [];
    summary = l.summary ++ effect.Render x ∷ [];
  })

-- what an effect of an instruction of this order records
abbrev pub effect_listed : InstructionId → EvaluationOrder → AliasingEffect → Listing → Result Listing HirError
effect_listed i o (effect.Apply receiver function mutates args into signature span) l = Ok l
effect_listed i o (effect.CreateFrom a x) l = created_from a x l
effect_listed i o (effect.ImmutableCapture a x) l = Ok l
effect_listed i o (effect.Assign a x) l = linked Alias a x (made_once x l)
effect_listed i o (effect.Alias a x) l = linked Alias a x l
effect_listed i o (effect.Capture a x) l = linked Capture a x l
effect_listed i o (effect.MaybeAlias a x) l = linked MaybeAlias a x l
effect_listed i o (effect.Create x value reason) l = Ok (made Object x l)
effect_listed i o (effect.Freeze x reason) l = Ok l
effect_listed i o (effect.Impure x error) l = Ok (summarized (effect.Impure x error) l)
effect_listed i o (effect.MutateFrozen x error) l = Ok (summarized (effect.MutateFrozen x error) l)
effect_listed i o (effect.MutateGlobal x error) l = Ok (summarized (effect.MutateGlobal x error) l)
effect_listed i o (effect.Render x) l = rendered i x l
effect_listed i o (effect.Mutate x reason) l = mutated i o x false Definite reason l
effect_listed i o (effect.MutateConditionally x) l = mutated i o x false Conditional None l
effect_listed i o (effect.MutateTransitive x) l = mutated i o x true Definite None l
effect_listed i o (effect.MutateTransitiveConditionally x) l = mutated i o x true Conditional None l
effect_listed i o (effect.CreateFunction x f captures) l = Ok (made (Function f) x l)

-- ---- an instruction

abbrev pub effects_in : InstructionId → EvaluationOrder → Option (List AliasingEffect) → Listing
    → Result Listing HirError
effects_in i o None l = Ok l
effects_in i o (Some es) l = each (effect_listed i o) es l

abbrev pub recorded_in : InstructionId → Option Instruction → Listing → Result Listing HirError
recorded_in i None l = Ok l
recorded_in i (Some n) l = effects_in i n.id n.effects l

-- what the effects of an instruction record
abbrev pub instruction_listed : List Instruction → InstructionId → Listing → Result Listing HirError
instruction_listed instructions i = recorded_in i (slice_get instructions i.0)
