use Rattle.std.proofs.Common.{◌≡◌, rules}
use Rattle.alias_plainness.specs.Calls.{no_tables}
use Rattle.alias_plain.specs.laws.RuleFacts.{functions_look}
use Rattle.alias_plain.proofs.Stops.{root_stops, entries_exist}
use Rattle.alias_plain.proofs.plain.scan_unit.Goals as goal

pub returns-in_err-tables : goal.returns-in_err-tables
returns-in_err-tables c =
    let same : c.new-tables.result ≡ no_tables = search rules in
    root_stops c.args.unit.now c.new-tables.result _ c.from_residual.result same c.in_err-tables.ensures
    c.from_residual.ensures.1

pub scan_nested-requires : goal.scan_nested-requires
scan_nested-requires c = entries_exist c.args.unit.now.env c.args.unit.now.env.functions
    (functions_look c.args.unit.now c.requires)
