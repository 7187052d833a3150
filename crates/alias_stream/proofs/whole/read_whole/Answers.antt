use Rattle.std.proofs.Common.{arith, sym, ◌≡◌, ◌+◌, ◌<◌, ◌≤◌, ◌++◌, length, take}
use Rattle.std.proofs.lemmas.Bool.{eqb-true, ltb-true, ltb-false}
use Rattle.std.proofs.lemmas.Grind.{common_steps}
use Rattle.std.proofs.lemmas.List.{length-take, length-append}
use Rattle.alias_stream.proofs.Streams.{takes-none, takes-more, takes-piece, takes-all, takes-end, takes-long}
use Rattle.alias_stream.proofs.Streams.{failed-later}
use Rattle.alias_stream.proofs.whole.read_whole.Goals as goal

pub loop-bytes-init : goal.loop-bytes-init
loop-bytes-init g c = record {
  chunk = c.in_ok-chunk.ensures;
  within = omega (arith, c.new-bytes.ensures.len);
  taken = rw c.new-bytes.ensures.items (takes-none _);
  faults = omega arith;
}

pub returns-in_err-count-clause-failed : goal.returns-in_err-count-clause-failed
returns-in_err-count-clause-failed g c =
    λ _. failed-later _ _ _ _ c.loop-bytes.invariant.faults c.in_err-count.ensures.failed

pub returns-then-is_at_end-clause-whole : goal.returns-then-is_at_end-clause-whole
returns-then-is_at_end-clause-whole g c =
    let some : 0 < length c.read.new.buf = omega (arith, c.loop-bytes.invariant.chunk) in
    rw c.from_vec.ensures (
      takes-all _ _ _ c.loop-bytes.invariant.taken
          (c.in_ok-count.ensures.end (eqb-true _ 0 (sym c.if-is_at_end.ensures)) some),
      omega (arith, c.loop-bytes.invariant.within, c.loop-bytes.bytes.ok),
    )

pub returns-then-is_at_end-clause-end : goal.returns-then-is_at_end-clause-end
returns-then-is_at_end-clause-end g c =
    let some : 0 < length c.read.new.buf = omega (arith, c.loop-bytes.invariant.chunk) in
    takes-end _ _ _ c.in_ok-count.ensures.taken
    (c.in_ok-count.ensures.end (eqb-true _ 0 (sym c.if-is_at_end.ensures)) some)

pub returns-then-is_too_long-clause-too_long : goal.returns-then-is_too_long-clause-too_long
returns-then-is_too_long-clause-too_long g c = λ _.
    let over : 16777216 < c.len.result + c.in_ok-count.count = ltb-true _ _ (sym c.if-is_too_long.ensures) in
    let long : 16777216 < length (c.loop-bytes.bytes.items ++ take c.in_ok-count.count c.read.new.buf) =
    rw (length-append, length-take) (omega
    (arith, c.len.ensures, c.loop-bytes.invariant.within, over, c.in_ok-count.ensures.count)) in
    takes-long _ _ _ _ (takes-more _ _ _ _ _ c.loop-bytes.invariant.taken c.in_ok-count.ensures.taken) long

pub loop-bytes-preserved : goal.loop-bytes-preserved
loop-bytes-preserved g c =
    let e : c.extend_from_slice.new.self.items ≡ c.loop-bytes.bytes.items ++ take c.in_ok-count.count c.read.new.buf =
    grind (arith, common_steps, c.in_ok-extend_from_slice.ensures.items) in
    let fits : c.len.result + c.in_ok-count.count ≤ 16777216 = ltb-false _ _ (sym c.if-is_too_long.ensures) in
    record {
      chunk = c.loop-bytes.invariant.chunk;
      within = omega (
        arith,
        c.in_ok-extend_from_slice.ensures.len,
        length-take c.in_ok-count.count c.read.new.buf,
        c.len.ensures,
        fits,
        c.loop-bytes.invariant.within,
      );
      taken = takes-piece _ _ _ _ _ _ c.loop-bytes.invariant.taken c.in_ok-count.ensures.taken e;
      faults = omega (arith, c.loop-bytes.invariant.faults, c.read.ensures.faults);
    }
