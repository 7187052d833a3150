use Rattle.std.proofs.Common.{arith}
use Rattle.alias_lattice.specs.AbstractValues.{AbstractProper}
use Rattle.alias_certificate.specs.declared.certificate.CertValue.{CertValue}
use Rattle.alias_follow.proofs.Telling.{one_more_told, all_told}
use Rattle.alias_follow.proofs.lines.known.values_known.Goals as goal

pub loop-value-preserved : goal.loop-value-preserved
loop-value-preserved c = one_more_told (λ (v : CertValue). AbstractProper v.value) c.args.values.now
    c.loop-value.value-index c.value-item.result c.loop-value-test.true c.value-item.is c.recall_proper.ensures
    c.loop-value.invariant

pub returns : goal.returns
returns c = all_told (λ (v : CertValue). AbstractProper v.value) c.args.values.now c.loop-value.value-index
    (omega (arith, c.loop-value-test.false)) c.loop-value.invariant
