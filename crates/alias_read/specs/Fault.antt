-- Which faults of a text are out of memory, and which come from its value.
use Rattle.std.specs.Prelude.{⊤}
use Rattle.alias_json.specs.declared.fault.ValueFault.{ValueFault}
use Rattle.alias_json.specs.declared.fault.ValueFault.TheVariants as value
use Rattle.alias_read.specs.declared.fault.TextFault.{TextFault}
use Rattle.alias_read.specs.declared.fault.TextFault.TheVariants.{NotJson, Memory, NotUnit}

-- the fault of the text whose value it is
abbrev pub of_value : ValueFault → TextFault
of_value (value.Refused p r) = NotUnit p r
of_value (value.Memory e) = Memory e

abbrev pub IsMemory : TextFault → Type 0
IsMemory (Memory e) = ⊤
IsMemory (NotUnit p r) = ⊥
IsMemory NotJson = ⊥
