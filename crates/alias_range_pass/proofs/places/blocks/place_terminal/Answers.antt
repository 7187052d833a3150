use Rattle.std.proofs.Common.{◌≡◌, ap, ◌∙◌, rules}
use Rattle.alias_visit.specs.Rebuilt.{with_terminal_places}
use Rattle.alias_range_pass.specs.places.Blocks.{with_effect, terminal_effect}
use Rattle.alias_range_pass.proofs.places.Mapping.{visits_map}
use Rattle.alias_range_pass.proofs.places.blocks.place_terminal.Goals as goal

pub returns : goal.returns
returns c =
    let effect = terminal_effect c.args.is_function_expression c.args.terminal.now in
    let v = c.for_each_terminal_operand_mut.ensures.calls in
    c.for_each_terminal_operand_mut.ensures.rebuilt
    ∙ ap (with_terminal_places c.args.terminal.now)
    (visits_map _ (with_effect effect) (λ f. f.0.now ≡ effect) (λ f p f' q is k. search rules) _ _ _ _
    c.terminal_effect-effect.ensures v)
