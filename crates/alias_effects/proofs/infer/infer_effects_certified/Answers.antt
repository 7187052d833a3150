use Rattle.std.specs.Prelude.{◌≡◌, [], Err}
use Rattle.std.proofs.Common.{rules}
use Rattle.alias_hir.specs.declared.error.InferError.{InferError}
use Rattle.alias_hir.specs.declared.hir.HirFunction.{HirFunction}
use Rattle.alias_tables.specs.Tables.{TableLists}
use Rattle.alias_effects.specs.declared.output.PassEnd.{PassEnd}
use Rattle.alias_effects.specs.Inference.{pass_end, env_after}
use Rattle.alias_effects.specs.Recording.{with_effects_of}
use Rattle.alias_effects.proofs.Settling.{pass_settles, settled_alike}
use Rattle.alias_effects.proofs.StillFits.{pass_end_fits, recorded_as, written_by, fits_as}
use Rattle.alias_effects.proofs.infer.infer_effects_certified.Goals as goal

pub returns-clause-fits : goal.returns-clause-fits
returns-clause-fits c =
    let func = c.args.func.now in
    let env = c.args.env.now in
    let e : PassEnd = c.in_ok-solved.field-0 in
    let left : TableLists = record {
      first = [];
      temporaries = e.solved.temporaries;
      reports = e.reports;
      reads = e.reads;
    } in
    let given : TableLists = record {
      first = [];
      temporaries = c.as_slice-temporaries.result.now;
      reports = e.reports;
      reads = c.as_slice.result.now;
    } in
    let now : HirFunction = record func {
      instructions = c.record_instructions.new.instructions;
      body = record func.body { blocks = c.record_terminals.new.blocks };
    } in
    fits_as (with_effects_of e.solved func) now (env_after env e) c.write_back.new.env
    (pass_end_fits func env c.args.is_function_expression e c.requires c.in_ok-solved.ensures.answer)
    (recorded_as func e.solved _ _ _ _ c.record_instructions.ensures c.in_ok-instructions.ensures
    c.record_terminals.ensures c.in_ok-terminal.ensures)
    (written_by env c.write_back.new.env given left c.in_ok-write_back.ensures.ok (cc))

pub returns-in_err-solved-clause-settles : goal.returns-in_err-solved-clause-settles
returns-in_err-solved-clause-settles c =
    let func = c.args.func.now in
    let env = c.args.env.now in
    let e : InferError = c.in_err-solved.field-0.0 in
    let same : c.from_residual.result ≡ Err e = search rules in
    λ forward. settled_alike (pass_end env func c.args.is_function_expression) c.from_residual.result e
    (pass_settles env func c.args.is_function_expression c.requires forward) c.in_err-solved.ensures.answer same
