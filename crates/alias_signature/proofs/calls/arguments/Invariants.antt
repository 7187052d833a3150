use Rattle.std.proofs.Common.{◌≡◌, take, map}
use Rattle.alias_signature.specs.Calls.{argument}
use Rattle.alias_signature.proofs.calls.arguments.Given as goal

abbrev pub invariant-loop-arg : goal.invariant-loop-arg
invariant-loop-arg l = l.list ≡ map argument (take l.arg-index l.args)
