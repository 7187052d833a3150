-- What an inference says of its functions, as a certificate: entry states and temporaries.
use Rattle.std.specs.Prelude.{List, [], map}
use Rattle.alias_lattice.specs.States.{empty_state}
use Rattle.alias_tables.specs.declared.temporaries.Temporary.{Temporary}
use Rattle.alias_effects.specs.declared.solved.BlockEntry.{BlockEntry}
use Rattle.alias_effects.specs.declared.solved.Solved.{Solved}
use Rattle.alias_certificate.specs.declared.certificate.CertBlock.{CertBlock}
use Rattle.alias_certificate.specs.declared.certificate.CertFunction.{CertFunction}
use Rattle.alias_certificate.specs.declared.certificate.CertTemporary.{CertTemporary}
use Rattle.alias_certificate.specs.states.Beyond.{beyond_of}

-- the state that a block is entered with, whole: what it has beyond the empty one
abbrev pub said_block : BlockEntry → CertBlock
said_block e = record {
  block = e.block;
  values = (beyond_of e.state empty_state).values;
  variables = (beyond_of e.state empty_state).variables;
  effects = [];
  end = [];
}

abbrev pub said_temporary : Temporary → CertTemporary
said_temporary t = record { identifier = t.place.identifier; key = t.key }

abbrev pub said_function : Solved → CertFunction
said_function s = record {
  function = s.function;
  blocks = map said_block s.entries;
  temporaries = map said_temporary s.temporaries;
  summary = [];
}

-- what is said of the functions, in their order
abbrev pub said : List Solved → List CertFunction
said solved = map said_function solved
