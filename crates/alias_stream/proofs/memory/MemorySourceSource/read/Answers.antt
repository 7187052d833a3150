use Rattle.std.proofs.Common.{arith, ◌≡◌, ◌+◌, ◌∙◌, sym, refl, length, drop, ap}
use Rattle.std.proofs.lemmas.List.{length-take}
use Rattle.alias_stream.specs.Memory.{Feed}
use Rattle.alias_stream.proofs.Streams.{takes-copy}
use Rattle.alias_stream.proofs.memory.MemorySourceSource.read.Goals as goal

pub returns-clause-taken : goal.returns-clause-taken
returns-clause-taken c =
    let left : c.args.self.now.left ≡ drop c.self.inside.at c.self.inside.bytes =
    sym (ap (λ (f : Feed). f.left) c.self.view_is) in
    let copied : length c.copy_from_slice.new.self ≡ c.min-count.result =
    omega (
      arith,
      c.copy_from_slice.ensures.len,
      length-take c.min-count.result c.args.buf.now,
      c.min-count.ensures,
      c.min.ensures,
      c.len.ensures,
    ) in (
      drop (c.self.inside.at + c.min-count.result) c.self.inside.bytes,
      left ∙ takes-copy c.self.inside.bytes c.self.inside.at c.min-count.result c.copy_from_slice.new.self
          (drop c.min-count.result c.args.buf.now) copied (rw c.as_slice.ensures at c.copy_from_slice.ensures.after),
      refl,
    )
