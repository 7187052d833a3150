-- What a function has to meet: identifiers are in the table, and orders have one past them.
use Rattle.std.specs.Prelude.{◌≢◌, ℕ, ◌<◌, List, [], ◌∷◌, Option, Some, None}
use Rattle.alias_base.specs.declared.ids.BlockId.{BlockId}
use Rattle.alias_base.specs.declared.ids.EvaluationOrder.{EvaluationOrder}
use Rattle.alias_base.specs.declared.ids.IdentifierId.{IdentifierId}
use Rattle.alias_hir.specs.declared.effect.AliasingEffect.{AliasingEffect}
use Rattle.alias_hir.specs.declared.effect.AliasingEffect.TheVariants as effect
use Rattle.alias_hir.specs.declared.hir.BasicBlock.{BasicBlock}
use Rattle.alias_hir.specs.declared.hir.HirFunction.{HirFunction}
use Rattle.alias_hir.specs.declared.hir.Instruction.{Instruction}
use Rattle.alias_hir.specs.declared.hir.Phi.{Phi}
use Rattle.alias_graph.specs.declared.events.GraphEvent.{GraphEvent}
use Rattle.alias_graph.specs.declared.recorded.listing.Listing.{Listing}
use Rattle.alias_graph.specs.declared.recorded.listing.RecordedMutation.{RecordedMutation}
use Rattle.alias_graph.specs.recorded.IdSets.{made_id}
use Rattle.alias_graph.specs.recorded.BlockListings.{first_events}

abbrev pub AllOf : {A : Type 0} → (A → Type 0) → List A → Type 0
AllOf P [] = Unit {0}
AllOf P (x ∷ xs) = P x × AllOf P xs

abbrev pub IdFits : ℕ → Option IdentifierId → Type 0
IdFits n None = Unit {0}
IdFits n (Some id) = id.0 < n

-- what an effect makes
abbrev pub effect_makes : AliasingEffect → Option IdentifierId
effect_makes (effect.Create x value reason) = Some x.identifier
effect_makes (effect.CreateFunction x f captures) = Some x.identifier
effect_makes (effect.CreateFrom a x) = Some x.identifier
effect_makes (effect.Assign a x) = Some x.identifier
effect_makes e = None

abbrev pub EffectFits : ℕ → AliasingEffect → Type 0
EffectFits n e = IdFits n (effect_makes e)

abbrev pub EffectsFit : ℕ → Option (List AliasingEffect) → Type 0
EffectsFit n None = Unit {0}
EffectsFit n (Some es) = AllOf (EffectFits n) es

-- the order isn't the last number
abbrev pub OrderHasNext : EvaluationOrder → Type 0
OrderHasNext o = o.0 ≢ 4294967295

-- the order has one past it, and what the effects make is below n
abbrev pub InstructionFits : ℕ → Instruction → Type 0
InstructionFits n i = OrderHasNext i.id × EffectsFit n i.effects

abbrev pub PhiFits : ℕ → Phi → Type 0
PhiFits n phi = phi.place.identifier.0 < n

abbrev pub BlockFits : ℕ → BlockId × BasicBlock → Type 0
BlockFits n b = AllOf (PhiFits n) b.1.phis

-- what an event makes is below n
abbrev pub EventFits : ℕ → GraphEvent → Type 0
EventFits n e = IdFits n (made_id e)

-- the order has one past it
abbrev pub OrderFits : RecordedMutation → Type 0
OrderFits m = OrderHasNext m.order

abbrev pub StandsBefore : ℕ → RecordedMutation → Type 0
StandsBefore n m = m.index < n

-- parameters, context places, returns, phis and what effects make are below n, and orders have one past them
pub record FunctionFits (n : ℕ) (f : HirFunction) : Type 0 where
  pub first_events : AllOf (EventFits n) (first_events f)
  pub blocks : AllOf (BlockFits n) f.body.blocks
  pub instructions : AllOf (InstructionFits n) f.instructions

-- what events make is below n, those that wait too; orders have one past them, and mutations stand before the next
-- position
pub record ListingFits (n : ℕ) (l : Listing) : Type 0 where
  pub events : AllOf (EventFits n) l.events
  pub pending : AllOf (AllOf (EventFits n)) l.pending
  pub orders : AllOf OrderFits l.mutations
  pub before : AllOf (StandsBefore l.next) l.mutations
