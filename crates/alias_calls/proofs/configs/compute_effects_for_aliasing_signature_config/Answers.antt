use Rattle.std.proofs.Common.{◌≡◌, rules, false, [], Ok, ◌&&◌}
use Rattle.std.specs.Prelude.{not}
use Rattle.std.specs.Option.{is_some}
use Rattle.alias_tables.specs.Steps.{each}
use Rattle.alias_calls.specs.Arguments.{has_further}
use Rattle.alias_calls.specs.Configs.{with_temporary}
use Rattle.alias_calls.proofs.WholePart.{whole_part}
use Rattle.alias_calls.proofs.configs.compute_effects_for_aliasing_signature_config.Goals as goal

pub returns : goal.returns
returns c =
    let config = c.args.config.now in
    let names = c.as_slice-names.result.now in
    let places = c.as_slice-2.result.now in
    let further : (has_further config.params c.args.args.now 0 && not (is_some config.rest)) ≡ false = search rules in
    let made : each (with_temporary c.args.env.now c.args.site) names [] c.args.tables.now
    ≡ Ok (places, c.push_temporaries.new.tables) = search rules in
    whole_part c.args.env.now config c.args.site c.args.args.now names places c.args.tables.now
    c.push_temporaries.new.tables c.config_effects.result c.config_effects.new.tables further
    c.as_slice-names.ensures made c.config_effects.ensures.answer
