use Rattle.std.proofs.Common.{sym, subst}
use Rattle.alias_range_pass.specs.places.Blocks.{Placed}
use Rattle.alias_range_pass.specs.places.CauseLaws.{function_causes}
use Rattle.alias_range_pass.specs.places.Causes.{EndsCaused}
use Rattle.alias_range_pass.proofs.places.blocks.place_function.Goals as goal

pub returns-clause-cause : goal.returns-clause-cause
returns-clause-cause c =
    let P : Placed → Type 0 = λ z. EndsCaused c.args.func.now.instructions c.args.env.now.identifiers z.1.identifiers in
    subst P (sym c.in_ok-place_blocks.ensures.ok)
    (function_causes c.args.is_function_expression (c.args.func.now, c.args.env.now))
