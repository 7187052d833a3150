use Rattle.alias_completeness.specs.summaries.SummaryOrder.{summary_in_order}
use Rattle.alias_completeness.proofs.summaries.summary_laws.Goals as goal

pub returns : goal.returns
returns c = λ f r distinct h. summary_in_order f c.args.is_function_expression c.args.func.now c.args.env.now r distinct
    h
