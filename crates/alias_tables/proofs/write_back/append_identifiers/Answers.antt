use Rattle.std.proofs.Common.{◌∙◌, ap}
use Rattle.alias_hir.specs.Tables.{with_identifier}
use Rattle.alias_tables.specs.write_back.WriteBackLaws.{one_more}
use Rattle.alias_tables.proofs.write_back.append_identifiers.Goals as goal

pub loop-temporary-preserved : goal.loop-temporary-preserved
loop-temporary-preserved c =
    let done = c.loop-temporary.temporary-index in
    let t = c.temporary-item in
    c.in-Ok.ensures.ok
    ∙ ap (with_identifier t.result.place.span) c.loop-temporary.invariant
    ∙ one_more c.args.temporaries.now done c.args.env.now t.result c.loop-temporary-test.true t.is

pub returns-in_default-clause-err : goal.returns-in_default-clause-err
returns-in_default-clause-err c = (
  c.loop-temporary.temporary-index,
  c.in_default.ensures.err ∙ c.loop-temporary.invariant,
)
