use Rattle.alias_hir.specs.Terminals.{optional_block, successors}
use Rattle.alias_hir.specs.declared.terminal.SwitchCase.{SwitchCase}
use Rattle.alias_verify.specs.Edges.{stands_behind}
use Rattle.alias_verify.proofs.Edges.{last_part}
use Rattle.alias_verify.proofs.forward.terminal_goes_on.Goals as goal

pub returns-then-fields_stand_behind : goal.returns-then-fields_stand_behind
returns-then-fields_stand_behind c =
    let fields = c.successor_fields-first.result in
    last_part (stands_behind c.args.blocks.now c.args.at) (λ (s : SwitchCase). s.block)
    (successors c.args.terminal.now) (optional_block fields.first) (optional_block fields.second) fields.cases.now
    c.cases_stand_behind.result c.successor_fields-first.ensures c.if-fields_stand_behind.ensures
    c.cases_stand_behind.ensures
