use Rattle.std.specs.Prelude.{is_some}
use Rattle.std.proofs.Common.{◌≡◌, false, ap, arith}
use Rattle.alias_straight.specs.Members.{from_key}
use Rattle.alias_straight.proofs.Entering.{none_there}
use Rattle.alias_straight.proofs.Functioning.{block_taken}
use Rattle.alias_straight.proofs.functions.BasicBlockTakeEntry.take_entry.Goals as goal

pub returns : goal.returns
returns c =
    let none : is_some c.get.result ≡ false = grind arith in
    block_taken c.args.found.now c.args.depth c.args.reader.now _ _ _ _ _ _ c.in_ok-id.id c.in_ok-phis.phis
    c.in_ok-instructions.instructions c.in_ok-terminal.terminal
    (none_there c.get.result _ c.get.ensures none) (omega arith) c.in_ok-next.ensures c.in_ok-id.ensures
    c.in_ok-phis.ensures c.in_ok-instructions.ensures c.in_ok-terminal.ensures
    (ap (λ k. from_key k c.take_member-2.new.reader) c.in_ok-close_object.ensures)
