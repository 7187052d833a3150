-- Whether all edges of functions go to later blocks, as a test.
use Rattle.std.specs.Prelude.{ℕ, nat_lt, Bool, true, ◌&&◌, length, slice_get}
use Rattle.std.specs.List.{list_all}
use Rattle.std.specs.Option.{option_map_or}
use Rattle.alias_base.specs.declared.ids.BlockId.{BlockId}
use Rattle.alias_flow.specs.Machine.{up}
use Rattle.alias_hir.specs.Positions.{Blocks, position_in, edges_at}
use Rattle.alias_hir.specs.declared.env.Unit.{Unit as HirUnit}
use Rattle.alias_hir.specs.declared.hir.HirFunction.{HirFunction}

-- the block of this name stands behind this position, or there is none
abbrev pub stands_behind : Blocks → ℕ → BlockId → Bool
stands_behind blocks at name = option_map_or (λ n. nat_lt at n) (position_in blocks name) true

-- each edge of the block at this position goes to a later block
abbrev pub goes_on : Blocks → ℕ → Bool
goes_on blocks at = list_all (λ e. nat_lt at e) (edges_at blocks (slice_get blocks at))

abbrev pub goes_forward : HirFunction → Bool
goes_forward f = list_all (goes_on f.body.blocks) (up 0 (length f.body.blocks))

-- so does each edge of each function of the unit
abbrev pub unit_goes_forward : HirUnit → Bool
unit_goes_forward u = goes_forward u.function && list_all goes_forward u.env.functions
