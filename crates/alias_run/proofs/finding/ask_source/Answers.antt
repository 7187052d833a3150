use Rattle.std.proofs.Common.{subst}
use Rattle.alias_stream.specs.Streams.{HasFailed}
use Rattle.alias_run.specs.Findings.{parts_of, IsJudged}
use Rattle.alias_run.proofs.Running.{read_bytes}
use Rattle.alias_run.proofs.finding.ask_source.Goals as goal

pub returns-in-Ok-clause-read : goal.returns-in-Ok-clause-read
returns-in-Ok-clause-read g c =
    let o = c.judge_whole.result in
    let source = c.args.source.now in
    let after = c.read_whole.new.source in
    let failed = HasFailed (g.S.Source.faults source) (g.S.Source.faults after) (g.S.Source.at_last after) in
    let whole = c.in-Ok.ensures.whole in
    read_bytes c.args.query (g.S.Source.left source) failed c.in-Ok.bytes o.status o.answer whole.0 whole.1
    (subst (λ bytes. IsJudged c.args.query (parts_of c.args.query bytes) o.status o.answer) c.as_slice.ensures
    c.judge_whole.ensures)
