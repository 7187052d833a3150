use Rattle.std.specs.Prelude.{◌≡◌, [], Ok, Err}
use Rattle.std.proofs.Common.{ap, ◌∙◌, rules}
use Rattle.alias_hir.specs.declared.error.InferError.{InferError}
use Rattle.alias_hir.specs.declared.hir.HirFunction.{HirFunction}
use Rattle.alias_tables.specs.Tables.{TableLists}
use Rattle.alias_effects.specs.declared.output.LastVisits.{LastVisits}
use Rattle.alias_effects.specs.Inference.{pass_end, env_after}
use Rattle.alias_effects.specs.Output.{last_of, last_visits}
use Rattle.alias_effects.specs.Recording.{with_effects_of}
use Rattle.alias_effects.proofs.Refusals.{refused_alike}
use Rattle.alias_effects.proofs.Settling.{visits_settle, settled_alike}
use Rattle.alias_effects.proofs.StillFits.{last_fits, last_recorded, last_written, with_last, env_after_last}
use Rattle.alias_effects.proofs.StillFits.{written_by, fits_as}
use Rattle.alias_effects.proofs.infer.infer_mutation_aliasing_effects.Goals as goal

pub returns-in_err-effects-clause-answer : goal.returns-in_err-effects-clause-answer
returns-in_err-effects-clause-answer c =
    let func = c.args.func.now in
    refused_alike (pass_end c.args.env.now func c.args.is_function_expression) last_of
    (λ e. with_effects_of e.solved func) c.from_residual.result _ _ c.in_err-effects.ensures
    c.from_residual.ensures.1

pub returns-in_err-effects-clause-env : goal.returns-in_err-effects-clause-env
returns-in_err-effects-clause-env c =
    let env = c.args.env.now in
    refused_alike (pass_end env c.args.func.now c.args.is_function_expression) last_of (env_after env)
    c.from_residual.result _ _ c.in_err-effects.ensures c.from_residual.ensures.1

pub returns-clause-answer : goal.returns-clause-answer
returns-clause-answer c =
    let recorded = last_recorded c.args.func.now c.args.env.now c.args.is_function_expression _
    c.in_ok-effects.ensures in
    cc

pub returns-clause-env : goal.returns-clause-env
returns-clause-env c =
    let env = c.args.env.now in
    let l : LastVisits = c.in_ok-effects.field-0 in
    let left : TableLists = record {
      first = [];
      temporaries = l.tables.temporaries;
      reports = l.tables.reports;
      reads = l.tables.reads;
    } in
    let given : TableLists = record {
      first = [];
      temporaries = c.as_slice.result.now;
      reports = l.tables.reports;
      reads = c.as_slice-2.result.now;
    } in
    last_written c.args.func.now env c.args.is_function_expression l c.in_ok-effects.ensures
    ∙ ap Ok (written_by env c.write_back.new.env given left c.in_ok-write_back.ensures.ok (cc))

pub returns-clause-fits : goal.returns-clause-fits
returns-clause-fits c =
    let func = c.args.func.now in
    let env = c.args.env.now in
    let l : LastVisits = c.in_ok-effects.field-0 in
    let left : TableLists = record {
      first = [];
      temporaries = l.tables.temporaries;
      reports = l.tables.reports;
      reads = l.tables.reads;
    } in
    let given : TableLists = record {
      first = [];
      temporaries = c.as_slice.result.now;
      reports = l.tables.reports;
      reads = c.as_slice-2.result.now;
    } in
    let now : HirFunction = record func {
      instructions = c.record_instructions.new.instructions;
      body = record func.body { blocks = c.record_terminals.new.blocks };
    } in
    fits_as (with_last l func) now (env_after_last l env) c.write_back.new.env
    (last_fits func env c.args.is_function_expression l c.requires c.in_ok-effects.ensures)
    (cc)
    (written_by env c.write_back.new.env given left c.in_ok-write_back.ensures.ok (cc))

pub returns-in_err-effects-clause-settles : goal.returns-in_err-effects-clause-settles
returns-in_err-effects-clause-settles c =
    let func = c.args.func.now in
    let env = c.args.env.now in
    let e : InferError = c.in_err-effects.field-0.0 in
    let same : c.from_residual.result ≡ Err e = search rules in
    λ forward. settled_alike (last_visits env func c.args.is_function_expression) c.from_residual.result e
    (visits_settle env func c.args.is_function_expression c.requires forward) c.in_err-effects.ensures same
