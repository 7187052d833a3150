use Rattle.std.proofs.Common.{ap, ◌∙◌}
use Rattle.alias_range_pass.specs.places.Keeping.{but_block}
use Rattle.alias_range_pass.specs.places.StayLaws.{block_stays, block_effects}
use Rattle.alias_range_pass.proofs.places.blocks.place_block.Goals as goal

pub returns-in_err-place_instructions-clause-still : goal.returns-in_err-place_instructions-clause-still
returns-in_err-place_instructions-clause-still c =
    block_effects c.args.func.now c.args.slot c.in-Some.block.now c.place_ends.new.block
    c.place_instructions.new.instructions c.in-Some.ensures.value
    (ap but_block c.place_ends.ensures ∙ block_stays c.args.is_function_expression c.merge_phis.new.identifiers
    c.first_order-first.result c.in-Some.block.now) c.place_instructions.ensures.still

pub returns-clause-still : goal.returns-clause-still
returns-clause-still c =
    block_effects c.args.func.now c.args.slot c.in-Some.block.now c.place_ends.new.block
    c.place_instructions.new.instructions c.in-Some.ensures.value
    (ap but_block c.place_ends.ensures ∙ block_stays c.args.is_function_expression c.merge_phis.new.identifiers
    c.first_order-first.result c.in-Some.block.now) c.place_instructions.ensures.still
