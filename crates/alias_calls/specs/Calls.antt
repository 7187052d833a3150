-- What calls speak of.
use Rattle.std.specs.Prelude.{List}
use Rattle.alias_hir.specs.declared.place.Place.{Place}
use Rattle.alias_hir.specs.declared.place.PlaceOrSpreadOrHole.{PlaceOrSpreadOrHole}
use Rattle.alias_hir.specs.declared.signature.AliasingSignatureConfig.{AliasingSignatureConfig}
use Rattle.alias_calls.specs.declared.call.CallSite.{CallSite}
use Rattle.alias_calls.specs.declared.call.ConfigCall.{ConfigCall as HeldConfigCall}
use Rattle.alias_calls.specs.declared.call.SummaryCall.{SummaryCall as HeldSummaryCall}
use Rattle.alias_calls.specs.declared.call.SummaryNames.{SummaryNames}

-- a call by the aliasing part of a signature, with the places of what the part lists as temporaries
pub record ConfigCall : Type 0 where
  pub config : AliasingSignatureConfig
  pub site : CallSite
  pub args : List PlaceOrSpreadOrHole
  pub temporaries : List Place

-- what a call that holds references speaks of: its names are listed as temporaries of the part
abbrev pub held_config : HeldConfigCall → ConfigCall
held_config c = record {
  config = record c.config.now { temporaries = c.names.now };
  site = c.site;
  args = c.args.now;
  temporaries = c.places.now;
}

-- a call by the summary of a function, and the context places of the function
pub record SummaryCall : Type 0 where
  pub names : SummaryNames
  pub into : Place
  pub args : List PlaceOrSpreadOrHole
  pub context : List Place

abbrev pub held_summary : HeldSummaryCall → SummaryCall
held_summary c = record { names = c.names.now; into = c.into; args = c.args.now; context = c.context.now }
