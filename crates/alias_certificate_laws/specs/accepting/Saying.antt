-- What a certificate says of a function that is solved.
use Rattle.std.specs.Prelude.{◌≡◌, true, ℕ, ◌+◌, ◌<◌, List, [], ◌∷◌, ◌++◌, length, map, Option, Some, None}
use Rattle.std.specs.List.{flat_map, list_all, AllByRecursion}
use Rattle.alias_base.specs.declared.ids.BlockId.{BlockId}
use Rattle.alias_base.specs.declared.ids.FunctionId.{FunctionId}
use Rattle.alias_base.specs.declared.ids.IdentifierId.{IdentifierId}
use Rattle.alias_hir.specs.declared.effect.AliasingEffect.{AliasingEffect}
use Rattle.alias_hir.specs.declared.hir.BasicBlock.{BasicBlock}
use Rattle.alias_hir.specs.declared.hir.HirFunction.{HirFunction}
use Rattle.alias_lattice.specs.States.{State, Sites}
use Rattle.alias_lattice.specs.declared.site.Site.{Site}
use Rattle.alias_lattice.specs.declared.value.AbstractValue.{AbstractValue}
use Rattle.alias_hir.specs.declared.env.Environment.{Environment}
use Rattle.alias_hir.specs.Positions.{Blocks}
use Rattle.alias_tables.specs.Tables.{has_room}
use Rattle.alias_tables.specs.Temporaries.{temp_like}
use Rattle.alias_tables.specs.declared.temporaries.Temporary.{Temporary}
use Rattle.alias_step.specs.declared.block.recorded.BlockEffects.{BlockEffects}
use Rattle.alias_step.specs.declared.block.recorded.InstructionEffects.{InstructionEffects}
use Rattle.alias_step.specs.declared.block.recorded.TerminalEffects.{TerminalEffects}
use Rattle.alias_text.specs.Lines.{effect_text}
use Rattle.alias_certificate.specs.states.States.{is_site_there}
use Rattle.alias_cert.specs.function.Temporaries.{is_key_there}
use Rattle.alias_certificate.specs.declared.certificate.CertBlock.{CertBlock}
use Rattle.alias_certificate.specs.declared.certificate.CertEffect.{CertEffect}
use Rattle.alias_certificate.specs.declared.certificate.CertFunction.{CertFunction}
use Rattle.alias_certificate.specs.declared.certificate.CertTemporary.{CertTemporary}
use Rattle.alias_certificate.specs.declared.certificate.CertValue.{CertValue}
use Rattle.alias_certificate.specs.declared.certificate.CertVariable.{CertVariable}

abbrev pub said_value : Site × AbstractValue → CertValue
said_value e = record { site = e.0; value = e.1 }

abbrev pub said_sites : Sites → List Site
said_sites t = map (λ (e : Site × Unit {0}). e.0) t

abbrev pub said_variable : IdentifierId × Sites → CertVariable
said_variable e = record { identifier = e.0; sites = said_sites e.1 }

abbrev pub said_effect : ℕ → AliasingEffect → CertEffect
said_effect n e = record { instruction = n; text = effect_text e }

-- the effects of one instruction
abbrev pub said_effects : InstructionEffects → List CertEffect
said_effects i = map (said_effect i.instruction.0) i.effects

abbrev pub said_ends : TerminalEffects → List (List ℕ)
said_ends t = map effect_text t.effects

-- of a block that is entered with the state, and records so
abbrev pub said_block : BlockId → State → BlockEffects → CertBlock
said_block b s r = record {
  block = b;
  values = map said_value s.values;
  variables = map said_variable s.variables;
  effects = flat_map said_effects r.instructions;
  end = flat_map said_ends r.terminal;
}

-- nothing of a block that isn't reached
abbrev pub said_of : BlockId × BasicBlock → Option State → Option BlockEffects → Option CertBlock
said_of b (Some s) (Some r) = Some (said_block b.0 s r)
said_of b (Some s) None = None
said_of b None r = None

abbrev pub said_each : Blocks → List (Option State) → List (Option BlockEffects) → List (Option CertBlock)
said_each [] xs rs = []
said_each (b ∷ bs) [] rs = []
said_each (b ∷ bs) (x ∷ xs) [] = []
said_each (b ∷ bs) (x ∷ xs) (r ∷ rs) = said_of b x r ∷ said_each bs xs rs

-- those that are there
abbrev pub those_there : {A : Type 0} → List (Option A) → List A
those_there [] = []
those_there (None ∷ xs) = those_there xs
those_there (Some x ∷ xs) = x ∷ those_there xs

abbrev pub said_temporary : Temporary → CertTemporary
said_temporary t = record { identifier = t.place.identifier; key = t.key }

-- of a function, with these entry states, what its blocks record, its temporaries, and the texts of its summary
abbrev pub said_function : Option FunctionId → HirFunction → List (Option State) → List (Option BlockEffects)
    → List Temporary → List (List ℕ) → CertFunction
said_function id f entries recorded temporaries summary = record {
  function = id;
  blocks = those_there (said_each f.body.blocks entries recorded);
  temporaries = map said_temporary temporaries;
  summary = summary;
}

-- what the state names is there: its sites name identifiers below the number and functions of the list, and its
-- variables are identifiers below the number
pub record NamesThere (identifiers : ℕ) (created : List FunctionId) (s : State) : Type 0 where
  pub values : list_all (λ (e : Site × AbstractValue). is_site_there identifiers created e.0) s.values ≡ true
  pub variables : AllByRecursion (λ (e : IdentifierId × Sites). e.0.0 < identifiers) s.variables

-- behind those that are done, the temporaries are counted on from the identifiers, none has the key of an earlier one,
-- and what their keys name is there
abbrev pub AreCounted : Environment → List Temporary → List Temporary → Type 0
AreCounted env done [] = Unit {0}
AreCounted env done (x ∷ rest) =
    (x.place.identifier.0 ≡ length env.identifiers + length done) × (temp_like x.key done ≡ None)
    × (is_key_there (length env.identifiers + length done) (length env.functions) x.key ≡ true)
    × (has_room (length env.identifiers) (length env.types) (length done) ≡ true) × AreCounted env (done ++ x ∷ []) rest
