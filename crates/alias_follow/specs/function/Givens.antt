-- What is given of a function: lines for its blocks, and temporaries.
use Rattle.std.specs.Prelude.{ℕ, ◌+◌, nat_lt, Bool, true, false, if◌then◌else◌, List, [], ◌∷◌, length, Option, Some, None}
use Rattle.std.specs.Prelude.{Result}
use Rattle.alias_base.specs.declared.ids.FunctionId.{FunctionId}
use Rattle.alias_hir.specs.declared.env.Environment.{Environment}
use Rattle.alias_hir.specs.declared.hir.HirFunction.{HirFunction}
use Rattle.alias_lattice.specs.States.{State}
use Rattle.alias_nested.specs.Created.{created_functions}
use Rattle.alias_tables.specs.Tables.{TableLists}
use Rattle.alias_tables.specs.write_back.WriteBack.{tables_of}
use Rattle.alias_certificate.specs.declared.certificate.CertBlock.{CertBlock}
use Rattle.alias_certificate.specs.declared.certificate.CertFunction.{CertFunction}
use Rattle.alias_certificate.specs.declared.certificate.CertTemporary.{CertTemporary}
use Rattle.alias_certificate.specs.declared.fault.CheckFault.{CheckFault}
use Rattle.alias_cert.specs.Functions.{same_name}
use Rattle.alias_cert.specs.function.Temporaries.{temporaries_stated}
use Rattle.alias_certificate.specs.declared.beyond.Beyond.{Beyond}
use Rattle.alias_follow.specs.declared.lines.entering.Unfollowed.{Unfollowed}
use Rattle.alias_follow.specs.declared.lines.entering.Unfollowed.TheVariants as unfollowed
use Rattle.alias_follow.specs.lines.Entering.{entering_by}
use Rattle.alias_follow.specs.lines.First.{first_lines}

-- the first that is said of the function
abbrev pub given_of : List CertFunction → Option FunctionId → Option CertFunction
given_of [] id = None
given_of (c ∷ cs) id = if same_name c.function id then Some c else given_of cs id

abbrev pub blocks_given : Option CertFunction → List CertBlock
blocks_given None = []
blocks_given (Some c) = c.blocks

abbrev pub temporaries_given : Option CertFunction → List CertTemporary
temporaries_given None = []
temporaries_given (Some c) = c.temporaries

-- what is kept of it: nothing, where the function is forward
abbrev pub kept : Bool → Option CertFunction → Option CertFunction
kept true given = None
kept false given = given

-- how many temporaries steps may make: only those that are given, unless the function is forward
abbrev pub limit : Bool → Option CertFunction → Option ℕ
limit true given = None
limit false given = Some (length (temporaries_given given))

-- a step made more
abbrev pub lacking : Option ℕ → TableLists → Option Unfollowed
lacking None t = None
lacking (Some n) t = if nat_lt n (length t.temporaries) then Some unfollowed.MissingTemporary else None

module _ (given : Option CertFunction) (id : Option FunctionId) (env : Environment) (f : HirFunction) where
  -- the tables that the steps begin with: those of the environment, and the temporaries that are given
  abbrev pub tables_begun : Result TableLists CheckFault
  tables_begun = temporaries_stated id env (temporaries_given given) (tables_of env)

  -- the state that the block at a position is entered with; identifiers are those of the environment and the
  -- temporaries that are given
  abbrev pub entering : ℕ → State → Option (State × Beyond)
  entering = entering_by (length env.identifiers + length (temporaries_given given)) (created_functions f)
      (blocks_given given) (first_lines (blocks_given given) f.body.blocks)
