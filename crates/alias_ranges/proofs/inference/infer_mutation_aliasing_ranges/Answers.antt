use Rattle.alias_ranges.proofs.heap.HeapLaws.{answer_covers_heap}
use Rattle.alias_ranges.proofs.Answering.{answered_fits, answered_causes, refused_keeps}
use Rattle.alias_ranges.proofs.inference.infer_mutation_aliasing_ranges.Goals as goal

pub returns-in-Ok-clause-fits : goal.returns-in-Ok-clause-fits
returns-in-Ok-clause-fits c =
    let p = c.run_range_pass in
    answered_fits c.args.is_function_expression c.args.func.now p.new.func c.args.env.now p.new.env c.in-Ok.summary
    c.in-Ok.ensures.pass c.requires p.ensures.still p.ensures.kept

pub returns-in-Ok-clause-cause : goal.returns-in-Ok-clause-cause
returns-in-Ok-clause-cause c = answered_causes c.args.is_function_expression c.args.func.now c.args.env.now _
    c.args.env.now.identifiers c.run_range_pass.new.env.identifiers c.in-Ok.ensures.pass c.in-Ok.ensures.cause

pub returns-in-Err-clause-kept : goal.returns-in-Err-clause-kept
returns-in-Err-clause-kept c = refused_keeps c.args.env.now c.run_range_pass.new.env c.run_range_pass.ensures.kept
    c.len-reported.result c.len-reported.ensures c.truncate.new.reports c.truncate.ensures

pub returns-in-Ok-clause-heap : goal.returns-in-Ok-clause-heap
returns-in-Ok-clause-heap c = answer_covers_heap c.args.is_function_expression c.args.func.now c.args.env.now _
    c.run_range_pass.new.env.identifiers c.in-Ok.ensures.pass c.in-Ok.ensures.cover
