use Rattle.std.proofs.Common.{◌≡◌, drop}
use Rattle.alias_hir.specs.Digests.{with_text}
use Rattle.alias_hir.proofs.digests.with_text.Given as goal

abbrev pub invariant-loop-byte : goal.invariant-loop-byte
invariant-loop-byte l = with_text l.digest l.text ≡ with_text l.mixed_in (drop l.byte-index l.byte-items)
