use Rattle.alias_ranges.specs.laws.ReportLaws.{expression_reports, root_reports}
use Rattle.alias_ranges.specs.laws.SummaryLaws.{summary_fits}
use Rattle.alias_ranges.proofs.laws.pass_fits.Goals as goal

pub returns : goal.returns
returns c =
    let f = c.args.func.now in
    let env = c.args.env.now in
    record {
      within = λ b r is. (summary_fits b f env r is c.requires).0;
      calls = λ b r is. (summary_fits b f env r is c.requires).1;
      expression = λ r is. expression_reports f env r is;
      sound = λ b r is. root_reports b f env r is c.requires;
    }
