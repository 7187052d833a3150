use Rattle.std.proofs.Common.{rules, arith}
use Rattle.alias_stream.proofs.Streams.{adds-rest}
use Rattle.alias_stream.proofs.whole.write_whole.Goals as goal

pub loop-written-preserved : goal.loop-written-preserved
loop-written-preserved g c = record {
  within = search rules;
  added = adds-rest _ c.args.text.now c.loop-written.written c.in_ok-written.field-0 _ _ c.loop-written.invariant.added
      c.in_ok-written.ensures.added;
  faults = omega (arith, c.loop-written.invariant.faults, c.write.ensures.faults);
}
