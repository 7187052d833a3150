-- Variables that nested functions use too.
use Rattle.std.specs.Prelude.{Bool, true, false, ◌||◌, ◌&&◌, not, if◌then◌else◌, List, [], ◌∷◌, None, is_some}
use Rattle.std.specs.Option.{option_map_or}
use Rattle.alias_base.specs.declared.ids.DeclarationId.{DeclarationId}
use Rattle.alias_base.specs.declared.ids.IdentifierId.{IdentifierId}
use Rattle.alias_hir.specs.declared.effect.AliasingEffect.{AliasingEffect}
use Rattle.alias_hir.specs.declared.effect.AliasingEffect.TheVariants.{CreateFrom, Assign, Capture, Mutate}
use Rattle.alias_hir.specs.declared.effect.ValueKind.TheVariants.{Primitive, Mutable}
use Rattle.alias_hir.specs.declared.env.Environment.{Environment}
use Rattle.alias_hir.specs.declared.place.Place.{Place}
use Rattle.alias_hir.specs.declared.value.InstructionKind.{InstructionKind}
use Rattle.alias_hir.specs.declared.value.InstructionKind.TheVariants.{Reassign}
use Rattle.alias_hir.specs.declared.value.LValue.{LValue}
use Rattle.alias_facts.specs.Hoisted.{Accesses, declaration_of, access_at, is_hoisting}
use Rattle.alias_signature.specs.Created.{created}

-- the identifier's declaration is hoisted
abbrev pub is_hoisted_at : Environment → Accesses → IdentifierId → Bool
is_hoisted_at env hoisted id = option_map_or (λ (d : DeclarationId). is_some (access_at hoisted d))
    (declaration_of env id) false

abbrev pub is_reassigning : InstructionKind → Bool
is_reassigning Reassign = true
is_reassigning k = false

-- a variable of which there is one already is written, and another is new
abbrev pub binding_effect : Bool → Place → AliasingEffect
binding_effect is_there p = if is_there then Mutate p None else created p Mutable

-- a part of what the functions share
abbrev pub load_context_effects : Place → Place → List AliasingEffect
load_context_effects l place = CreateFrom place l ∷ []

-- the declaration itself writes a variable that was hoisted
abbrev pub declare_context_effects : Environment → Accesses → Place → LValue → List AliasingEffect
declare_context_effects env hoisted l variable =
    binding_effect (not (is_hoisting variable.kind) && is_hoisted_at env hoisted variable.place.identifier)
    variable.place ∷ created l Primitive ∷ []

-- the variable is written, or made, and takes the value in; the result is the value
abbrev pub store_context_effects : Environment → Accesses → Place → LValue → Place → List AliasingEffect
store_context_effects env hoisted l variable v =
    binding_effect (is_reassigning variable.kind || is_hoisted_at env hoisted variable.place.identifier) variable.place
    ∷ Capture v variable.place ∷ Assign v l ∷ []
