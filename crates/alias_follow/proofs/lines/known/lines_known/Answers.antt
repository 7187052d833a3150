use Rattle.std.proofs.Common.{arith, subst}
use Rattle.alias_certificate.specs.declared.certificate.CertBlock.{CertBlock}
use Rattle.alias_follow.specs.lines.Known.{AreKnown}
use Rattle.alias_follow.proofs.Telling.{one_more_told, all_told}
use Rattle.alias_follow.proofs.lines.known.lines_known.Goals as goal

pub loop-line-preserved : goal.loop-line-preserved
loop-line-preserved c = one_more_told (λ (l : CertBlock). AreKnown l.values) c.args.lines.now c.loop-line.line-index
    c.line-item.result c.loop-line-test.true c.line-item.is (subst AreKnown c.as_slice.ensures c.values_known.ensures)
    c.loop-line.invariant

pub returns : goal.returns
returns c = all_told (λ (l : CertBlock). AreKnown l.values) c.args.lines.now c.loop-line.line-index
    (omega (arith, c.loop-line-test.false)) c.loop-line.invariant
