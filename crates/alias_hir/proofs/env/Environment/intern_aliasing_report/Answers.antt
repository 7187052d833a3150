use Rattle.std.proofs.Common.{rules, subst}
use Rattle.alias_base.specs.Answer.{Gives}
use Rattle.alias_hir.specs.ReportNumberLaws.{taken_where_full}
use Rattle.alias_hir.specs.Errors.{is_hir_memory}
use Rattle.alias_hir.specs.ReportNumbers.{report_id_of}
use Rattle.alias_hir.proofs.env.Environment.intern_aliasing_report.Goals as goal

pub returns-in_err-identity-clause-taken : goal.returns-in_err-identity-clause-taken
returns-in_err-identity-clause-taken c = λ few.
    let n : Gives is_hir_memory (report_id_of c.args.self.now.interned c.args.identifier c.args.report)
    c.from_residual.result = search rules in
    subst (λ z. Gives is_hir_memory z c.from_residual.result)
    (taken_where_full c.args.self.now.interned c.args.identifier c.args.report few) n

pub returns-in_err-instance-clause-taken : goal.returns-in_err-instance-clause-taken
returns-in_err-instance-clause-taken c = λ few.
    let n : Gives is_hir_memory (report_id_of c.args.self.now.interned c.args.identifier c.args.report)
    c.from_residual-in_err-instance.result = search rules in
    subst (λ z. Gives is_hir_memory z c.from_residual-in_err-instance.result)
    (taken_where_full c.args.self.now.interned c.args.identifier c.args.report few) n
