use Rattle.std.proofs.Common.{◌≡◌, ◌++◌, take}
use Rattle.std.specs.List.{flat_map}
use Rattle.alias_text.specs.Certificates.{first_line}
use Rattle.alias_text.proofs.certificates.push_interned_effects.Given as goal

abbrev pub invariant-loop-effect : goal.invariant-loop-effect
invariant-loop-effect l = l.out ≡ l.initial.out ++ flat_map first_line (take l.effect-index l.first)
