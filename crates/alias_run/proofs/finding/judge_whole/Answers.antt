use Rattle.std.proofs.Common.{subst}
use Rattle.alias_run.specs.Findings.{IsJudged}
use Rattle.alias_run.proofs.Briefs.{read_again}
use Rattle.alias_run.proofs.finding.judge_whole.Goals as goal

pub returns : goal.returns
returns c = let o = c.judge.result in subst (λ parts. IsJudged c.args.query parts o.status o.answer) c.parts_of.ensures
    c.judge.ensures

pub judge-requires : goal.judge-requires
judge-requires c = λ u. read_again c.args.query c.args.bytes.now (c.parts_of.result.0.now, c.parts_of.result.1.now) u
    c.parts_of.ensures
