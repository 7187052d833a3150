use Rattle.std.proofs.Common.{◌≡◌, Ok, sym, ◌∙◌}
use Rattle.alias_tables.specs.Steps.{each}
use Rattle.alias_call_effects.specs.ConfigLaws.{config_answers}
use Rattle.alias_call_effects.specs.Configs.{with_temporary}
use Rattle.alias_call_effects.specs.GrowthLaws.{grown_through}
use Rattle.alias_call_effects.specs.Kept.{kept}
use Rattle.alias_call_effects.specs.Parts.{nothing_named}
use Rattle.alias_call_effects.proofs.configs.compute_effects_for_aliasing_signature_config.Goals as goal

pub returns-clause-answer : goal.returns-clause-answer
returns-clause-answer c =
    let has = sym c.lacks_rest.ensures ∙ c.if-lacks_rest.false in
    let named = c.new-named.ensures in
    let names = c.as_slice-names.ensures in
    let pushed = c.in_ok-push_temporaries.ensures.answer in
    let there : each (with_temporary c.site_of-site.result) c.args.config.now.temporaries nothing_named
    (kept c.args.env.now c.args.temporaries.now)
    ≡ Ok (c.push_temporaries.new.named, kept c.push_temporaries.new.env c.push_temporaries.new.temporaries) = cc in
    rw (sym c.site_of-site.ensures) (config_answers c.args.config.now c.site_of-site.result c.args.args.now
    c.args.context.now has _ _ _ c.list_called.result c.list_called.new.env there c.list_called.ensures.answer)

pub returns-clause-grown : goal.returns-clause-grown
returns-clause-grown c = grown_through _ _ _ c.push_temporaries.ensures.grown
    (c.list_called.ensures.grown c.push_temporaries.new.temporaries)
