use Rattle.std.proofs.Common.{refl}
use Rattle.alias_verify.proofs.Verified.{printed_same}
use Rattle.alias_verify.proofs.calls.compare.Goals as goal

pub returns-in-None-clause-printed : goal.returns-in-None-clause-printed
returns-in-None-clause-printed c =
    let expected = c.in_ok-expected in
    printed_same c.args.followed.now c.args.text.now expected.expected c.as_str.result.now expected.ensures.text
    c.as_str.ensures (c.in-None.ensures.same.0 refl) expected.ensures.fits c.as_str.utf8
