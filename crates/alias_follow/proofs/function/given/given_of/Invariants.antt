use Rattle.std.proofs.Common.{◌≡◌, drop}
use Rattle.alias_follow.specs.function.Givens.{given_of}
use Rattle.alias_follow.proofs.function.given.given_of.Given as goal

-- those that are left decide
abbrev pub invariant-loop-given : goal.invariant-loop-given
invariant-loop-given l = given_of (drop l.given-index l.functions) l.function ≡ given_of l.functions l.function
