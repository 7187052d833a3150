-- What parts of a mutable range are by default. A start or an end is unset where it is 0.
use Rattle.std.specs.Prelude.{◌+◌, ◌-◌, ◌==◌, List, ◌∷◌, if◌then◌else◌, nat_lt, nat_le, fold, slice_get, slice_set}
use Rattle.std.specs.Option.{option_map_or}
use Rattle.alias_base.specs.declared.ids.EvaluationOrder.{EvaluationOrder}
use Rattle.alias_base.specs.declared.ids.IdentifierId.{IdentifierId}
use Rattle.alias_hir.specs.declared.env.Identifier.{Identifier}
use Rattle.alias_hir.specs.declared.env.MutableRange.{MutableRange}
use Rattle.alias_hir.specs.declared.hir.Instruction.{Instruction}
use Rattle.alias_hir.specs.declared.hir.Phi.{Phi}
use Rattle.alias_hir.specs.declared.place.Place.{Place}
use Rattle.alias_hir.specs.declared.value.InstructionValue.{InstructionValue}
use Rattle.alias_hir.specs.declared.value.InstructionValue.TheVariants as value
use Rattle.alias_visit.specs.Operands.{lvalues_of}

abbrev pub order_after : EvaluationOrder → EvaluationOrder
order_after t = record { 0 = t.0 + 1 }

-- not below 0
abbrev pub order_before : EvaluationOrder → EvaluationOrder
order_before t = record { 0 = t.0 - 1 }

abbrev pub start_or : EvaluationOrder → MutableRange → EvaluationOrder
start_or t r = if r.start.0 == 0 then t else r.start

-- of a place that an instruction of order t assigns
abbrev pub begun : EvaluationOrder → MutableRange → MutableRange
begun t r = record { start = start_or t r; end = if r.end.0 == 0 then order_after t else r.end }

-- of an operand of an instruction of order t: it starts there where it ends later
abbrev pub started : EvaluationOrder → MutableRange → MutableRange
started t r = record r { start = if nat_lt t.0 r.end.0 then start_or t r else r.start }

-- of a value that an instruction of order t stores into a context variable: it lasts past the instruction
abbrev pub stored : EvaluationOrder → MutableRange → MutableRange
stored t r = record r { end = if nat_le r.end.0 t.0 then order_after t else r.end }

-- of a phi's place, where t is the order of its block's first instruction: it starts before that where it ends later
abbrev pub merged : EvaluationOrder → MutableRange → MutableRange
merged t r = record r { start = if nat_lt t.0 r.end.0 then start_or (order_before t) r else r.start }

abbrev pub with_range : (MutableRange → MutableRange) → Identifier → Identifier
with_range f x = record x { mutable_range = f x.mutable_range }

-- the range of an identifier changed
abbrev pub ranged : (MutableRange → MutableRange) → IdentifierId → List Identifier → List Identifier
ranged f id ids = option_map_or (λ x. slice_set ids id.0 (with_range f x)) (slice_get ids id.0) ids

-- the ranges of all of these places changed
abbrev pub all_ranged : (MutableRange → MutableRange) → List Place → List Identifier → List Identifier
all_ranged f places ids = fold (λ xs (p : Place). ranged f p.identifier xs) ids places

-- the identifiers after the places that an instruction assigns are begun
abbrev pub assigned : Instruction → List Identifier → List Identifier
assigned i ids = all_ranged (begun i.id) (i.lvalue ∷ lvalues_of i.value) ids

abbrev pub value_stored : EvaluationOrder → InstructionValue → List Identifier → List Identifier
value_stored t (value.StoreContext lvalue x) ids = ranged (stored t) x.identifier ids
value_stored t v ids = ids

-- the identifiers after these phis, where t is the order of their block's first instruction
abbrev pub phis_merged : EvaluationOrder → List Phi → List Identifier → List Identifier
phis_merged t phis ids = fold (λ xs (phi : Phi). ranged (merged t) phi.place.identifier xs) ids phis
