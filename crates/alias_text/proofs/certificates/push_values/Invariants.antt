use Rattle.std.proofs.Common.{◌≡◌, ◌++◌, length}
use Rattle.std.specs.List.{AllByRecursion, flat_map}
use Rattle.alias_lattice.specs.SiteOrder.{site_cmp}
use Rattle.alias_text.specs.Certificates.{value_line}
use Rattle.alias_text.specs.Fitting.{FittingValue}
use Rattle.alias_lattice.specs.WalkLaws.{left_after}
use Rattle.alias_text.proofs.certificates.push_values.Given as goal

-- the values that are left complete the text, and all fit where they do
abbrev pub invariant-values : goal.invariant-values
invariant-values l =
    (l.out ++ flat_map value_line (left_after site_cmp l.after l.state.values) ≡ l.initial.out
    ++ flat_map value_line l.state.values)
    × (AllByRecursion FittingValue (left_after site_cmp l.after l.state.values)
    → AllByRecursion FittingValue l.state.values)

abbrev pub decreases-values : goal.decreases-values
decreases-values l = length (left_after site_cmp l.after l.state.values)
