-- Which instructions a range's end comes from by default.
use Rattle.std.specs.Prelude.{◌≡◌, ℕ, ◌+◌, ◌⊎◌, List, [], ◌∷◌, ◌++◌, map}
use Rattle.alias_hir.specs.declared.env.Identifier.{Identifier}
use Rattle.alias_hir.specs.declared.hir.Instruction.{Instruction}
use Rattle.alias_hir.specs.declared.place.Place.{Place}
use Rattle.alias_hir.specs.declared.value.InstructionValue.{InstructionValue}
use Rattle.alias_hir.specs.declared.value.InstructionValue.TheVariants as value
use Rattle.alias_graph.specs.Reach.{end_at}
use Rattle.alias_graph.specs.Walks.{IsOneOf}
use Rattle.alias_visit.specs.Operands.{lvalues_of}

abbrev pub numbers_of : List Place → List ℕ
numbers_of ps = map (λ (p : Place). p.identifier.0) ps

-- the value that is stored into a context variable
abbrev pub stored_places : InstructionValue → List Place
stored_places (value.StoreContext lvalue x) = x ∷ []
stored_places v = []

-- the identifiers whose ranges an instruction may end: those that it assigns, and a value that it stores into a context
-- variable
abbrev pub written : Instruction → List ℕ
written i = numbers_of (i.lvalue ∷ lvalues_of i.value) ++ numbers_of (stored_places i.value)

-- the end is one past an instruction that assigns the identifier, or stores it into a context variable
abbrev pub InstructionCause : List Instruction → ℕ → ℕ → Type 0
InstructionCause is k end = (i : Instruction) × IsOneOf i is × IsOneOf k (written i) × (end ≡ i.id.0 + 1)

-- each end is that of before, or has such a cause
abbrev pub EndsCaused : List Instruction → List Identifier → List Identifier → Type 0
EndsCaused is old new = (k : ℕ) → (end_at new k ≡ end_at old k) ⊎ InstructionCause is k (end_at new k)
