-- Calls and their operands.
use Rattle.std.specs.Prelude.{Bool, true, false, ◌==◌, List, [], ◌∷◌}
use Rattle.alias_hir.specs.declared.place.Place.{Place}
use Rattle.alias_hir.specs.declared.place.PlaceOrSpreadOrHole.{PlaceOrSpreadOrHole}
use Rattle.alias_hir.specs.declared.place.PlaceOrSpreadOrHole.TheVariants as arg
use Rattle.alias_calls.specs.declared.call.CallSite.{CallSite}
use Rattle.alias_step.specs.declared.call.Call.{Call as HeldCall}
use Rattle.alias_step.specs.declared.call.Operand.{Operand}

-- a call of a function. The type that has its signature goes beside it
pub record Call : Type 0 where
  pub site : CallSite
  pub function : Place
  -- whether the call may write the function itself
  pub mutates_function : Bool
  pub args : List PlaceOrSpreadOrHole

-- what a call that holds references speaks of
abbrev pub held_call : HeldCall → Call
held_call call = record {
  site = call.site;
  function = call.function;
  mutates_function = call.mutates_function;
  args = call.args.now;
}

-- two places of one identifier
abbrev pub same_place : Place → Place → Bool
same_place a b = a.identifier.0 == b.identifier.0

abbrev pub plain : Place → Operand
plain p = record { place = p; is_spread = false }

abbrev pub spread : Place → Operand
spread p = record { place = p; is_spread = true }

-- the arguments without holes
abbrev pub argument_operands : List PlaceOrSpreadOrHole → List Operand
argument_operands [] = []
argument_operands (arg.Place p ∷ others) = plain p ∷ argument_operands others
argument_operands (arg.Spread s ∷ others) = spread s.place ∷ argument_operands others
argument_operands (arg.Hole ∷ others) = argument_operands others

-- receiver, function, and the arguments without holes
abbrev pub operands : Call → List Operand
operands call = plain call.site.receiver ∷ plain call.function ∷ argument_operands call.args
