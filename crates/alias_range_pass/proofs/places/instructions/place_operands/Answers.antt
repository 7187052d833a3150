use Rattle.std.proofs.Common.{◌≡◌, ap, ◌∙◌, rules, refl}
use Rattle.alias_hir.specs.declared.place.Effect.TheVariants.{Read}
use Rattle.alias_visit.specs.Rebuilt.{with_operands}
use Rattle.alias_range_pass.specs.places.Tables.{with_table}
use Rattle.alias_range_pass.proofs.places.Mapping.{visits_map}
use Rattle.alias_range_pass.proofs.places.instructions.place_operands.Goals as goal

pub returns : goal.returns
returns c =
    let table = c.args.table.now in
    let v = c.for_each_instruction_value_operand_mut.ensures.calls in
    c.for_each_instruction_value_operand_mut.ensures.rebuilt
    ∙ ap (with_operands c.args.value.now) (visits_map _ (with_table table Read) (λ f. f.0.now ≡ table)
    (λ f p f' q is k. search rules) _ _ _ _ refl v)
