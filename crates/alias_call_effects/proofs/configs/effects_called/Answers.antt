use Rattle.std.proofs.Common.{◌≡◌, sym, ap, ◌∙◌, subst}
use Rattle.std.specs.Prelude.{List}
use Rattle.alias_hir.specs.declared.report.Interned.{Interned}
use Rattle.alias_tables.specs.GrowingLaws.{Grows}
use Rattle.alias_tables.specs.Tables.{TableLists}
use Rattle.alias_call_effects.specs.GrowthLaws.{grown_by_reports}
use Rattle.alias_call_effects.proofs.configs.effects_called.Goals as goal

pub returns-in_err-answer-clause-grown : goal.returns-in_err-answer-clause-grown
returns-in_err-answer-clause-grown c ts =
    let from : c.new-tables.result.reports ≡ c.args.env.now.interned =
    ap (λ (t : TableLists). t.reports) c.new-tables.ensures ∙ c.replace-reports.ensures.value in
    let to : c.into_parts-reports.result.reports ≡ c.config_effects-answer.new.tables.reports =
    c.into_parts-reports.ensures.reports in
    let grown : Grows c.args.env.now.interned c.into_parts-reports.result.reports =
    subst (λ (r : List Interned). Grows r c.into_parts-reports.result.reports) from
    (subst (λ (r : List Interned). Grows c.new-tables.result.reports r) (sym to)
    c.config_effects-answer.ensures.grown) in
    grown_by_reports c.args.env.now c.into_parts-reports.result.reports ts grown

pub returns-clause-grown : goal.returns-clause-grown
returns-clause-grown c ts =
    let from : c.new-tables.result.reports ≡ c.args.env.now.interned =
    ap (λ (t : TableLists). t.reports) c.new-tables.ensures ∙ c.replace-reports.ensures.value in
    let to : c.into_parts-reports.result.reports ≡ c.config_effects-answer.new.tables.reports =
    c.into_parts-reports.ensures.reports in
    let grown : Grows c.args.env.now.interned c.into_parts-reports.result.reports =
    subst (λ (r : List Interned). Grows r c.into_parts-reports.result.reports) from
    (subst (λ (r : List Interned). Grows c.new-tables.result.reports r) (sym to)
    c.config_effects-answer.ensures.grown) in
    grown_by_reports c.args.env.now c.into_parts-reports.result.reports ts grown
