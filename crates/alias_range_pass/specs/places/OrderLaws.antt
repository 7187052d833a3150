-- Orders of a function that fits have one past them.
use Rattle.std.specs.Prelude.{ℕ, List, [], ◌∷◌}
use Rattle.alias_graph.specs.recorded.Fitting.{AllOf, InstructionFits}
use Rattle.alias_hir.specs.declared.hir.Instruction.{Instruction}
use Rattle.alias_range_pass.specs.places.Keeping.{OrdersFit}

pub orders_fit : (n : ℕ) (is : List Instruction) → AllOf (InstructionFits n) is → OrdersFit is
orders_fit n [] p = tt
orders_fit n (i ∷ is) p = (p.0.0, orders_fit n is p.1)
