-- The three instructions of a block of a made unit.
use Rattle.std.specs.Prelude.{ℕ, ◌+◌, ◌*◌, ◌==◌, List, [], ◌∷◌, None, codes, false, if◌then◌else◌}
use Rattle.alias_hir.specs.declared.hir.Instruction.{Instruction}
use Rattle.alias_hir.specs.declared.place.Effect.TheVariants.{Unknown}
use Rattle.alias_hir.specs.declared.place.Place.{Place}
use Rattle.alias_hir.specs.declared.value.ArrayElement.TheVariants as element
use Rattle.alias_hir.specs.declared.value.InstructionValue.{InstructionValue}
use Rattle.alias_hir.specs.declared.value.InstructionValue.TheVariants.{ArrayExpression, LoadLocal, ObjectExpression}
use Rattle.alias_hir.specs.declared.value.InstructionValue.TheVariants.{Primitive, PropertyLoad, PropertyStore}
use Rattle.alias_hir.specs.declared.value.PropertyLiteral.TheVariants.{String}
use Rattle.alias_made.specs.declared.draws.BlockDraw.{BlockDraw}

-- a use of the identifier of a number
abbrev pub use_of : ℕ → Place
use_of number = record { identifier = record { 0 = number }; effect = Unknown; reactive = false; span = None }

-- an instruction with its order and the identifier of its result
abbrev pub instruction : ℕ → ℕ → InstructionValue → Instruction
instruction order number computed = record
    { id = record { 0 = order }; lvalue = use_of number; value = computed; span = None; effects = None }

-- the object that a block makes
abbrev pub object_of : ℕ → ℕ
object_of block = 3 * block + 1

-- what is made of an object, by the kind
abbrev pub value_of : ℕ → Place → InstructionValue
value_of kind object =
    if kind == 0 then LoadLocal object
    else (if kind == 1 then ArrayExpression (element.Place object ∷ [])
    else (if kind == 2 then PropertyLoad object
    else Primitive))

-- the block makes an object, makes a value of the source's object, and stores this value in it as its property a
abbrev pub instructions_of : ℕ → BlockDraw → List Instruction
instructions_of block d =
    instruction (4 * block + 1) (object_of block) (ObjectExpression [])
    ∷ instruction (4 * block + 2) (object_of block + 1) (value_of d.kind (use_of (object_of d.source)))
    ∷ instruction (4 * block + 3) (object_of block + 2)
    (PropertyStore (use_of (object_of d.source)) (String (codes "a")) (use_of (object_of block + 1)))
    ∷ []
