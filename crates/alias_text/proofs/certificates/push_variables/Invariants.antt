use Rattle.std.proofs.Common.{◌≡◌, ◌++◌, length}
use Rattle.std.specs.List.{AllByRecursion, flat_map}
use Rattle.alias_lattice.specs.Keys.{id_cmp}
use Rattle.alias_text.specs.Certificates.{variable_line}
use Rattle.alias_text.specs.Fitting.{SmallVariable}
use Rattle.alias_lattice.specs.WalkLaws.{left_after}
use Rattle.alias_text.proofs.certificates.push_variables.Given as goal

-- the sets that are left complete the text, and all are small where they are
abbrev pub invariant-variables : goal.invariant-variables
invariant-variables l =
    (l.out ++ flat_map variable_line (left_after id_cmp l.after l.state.variables) ≡ l.initial.out
    ++ flat_map variable_line l.state.variables)
    × (AllByRecursion SmallVariable (left_after id_cmp l.after l.state.variables)
    → AllByRecursion SmallVariable l.state.variables)

abbrev pub decreases-variables : goal.decreases-variables
decreases-variables l = length (left_after id_cmp l.after l.state.variables)
