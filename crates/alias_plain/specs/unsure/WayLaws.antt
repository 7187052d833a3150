-- Ways and their sets are a lattice.
use Rattle.std.specs.Ordering.{nat_cmp}
use Rattle.std.specs.FinMap.{nat_cmp-IsAntisymmetric}
use Rattle.std.proofs.lemmas.Cmp.{nat_cmp_total}
use Rattle.alias_lattice.specs.Laws.{LatticeLaws}
use Rattle.alias_lattice.specs.ListMapLaws.{list_laws}
use Rattle.alias_plain.specs.unsure.Sets.{RowsProper, union, is_within}
use Rattle.alias_plain.specs.unsure.SetLaws.{set_laws}
use Rattle.alias_plain.specs.unsure.Ways.{StateProper, state_join, state_below}

pub state_laws : LatticeLaws StateProper state_join state_below
state_laws = list_laws nat_cmp nat_cmp_total nat_cmp-IsAntisymmetric RowsProper union is_within set_laws
