-- A flow of heights for the tests: a chain of four blocks, or a loop.
use Rattle.std.specs.Prelude.{ℕ, ◌+◌, if◌then◌else◌, nat_lt, ◌==◌, List, [], ◌∷◌, Bool}
use Rattle.alias_lattice.specs.Flows.{Outcome, Stepped}
use Rattle.alias_flow.specs.Machine.{Rules}

-- the greater height
abbrev pub higher : ℕ → ℕ → ℕ
higher a b = if nat_lt a b then b else a

-- every height is proper
abbrev pub IsHeight : ℕ → Type 0
IsHeight n = Unit {0}

-- nothing is asked of tables that hold nothing
abbrev pub Extends : Unit {0} → Unit {0} → Type 0
Extends t u = Unit {0}

-- blocks 0 to 2 have an edge to the next
abbrev pub line_edges : ℕ → List ℕ
line_edges b = if nat_lt b 3 then (b + 1) ∷ [] else []

-- 0 goes to 1, and 1 to itself and to 2
abbrev pub loop_edges : ℕ → List ℕ
loop_edges b = if b == 0 then 1 ∷ [] else if b == 1 then 1 ∷ 2 ∷ [] else []

abbrev pub climb_edges : Bool → ℕ → List ℕ
climb_edges is_line b = if is_line then line_edges b else loop_edges b

-- one higher, up to 3, and the height that it began with is noted
abbrev pub climb_step : Unit {0} → ℕ → ℕ → Outcome ℕ (Unit {0}) ℕ (Unit {0})
climb_step t b x = Stepped (if nat_lt x 3 then x + 1 else 3) t x

abbrev pub climb_rules : Bool → Rules ℕ (Unit {0}) ℕ (Unit {0})
climb_rules is_line = record {
  blocks = 4;
  flow = record { entry = 0; initial = 0; edges = climb_edges is_line; step = climb_step };
}
