use Rattle.std.proofs.Common.{◌≡◌, ◌+◌, drop}
use Rattle.alias_cert.specs.effects.Kept.{word_end}
use Rattle.alias_cert.proofs.effects.kept.word_end.Given as goal

abbrev pub invariant-loop-index : goal.invariant-loop-index
invariant-loop-index l = l.index + word_end (drop l.index l.text) ≡ word_end l.text
