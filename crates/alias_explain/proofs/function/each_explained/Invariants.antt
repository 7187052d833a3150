use Rattle.std.proofs.Common.{◌≡◌, [], drop}
use Rattle.alias_explain.specs.Functions.{each_explained}
use Rattle.alias_explain.proofs.function.each_explained.Given as goal

-- what is found of the identifiers that are left completes the answer
abbrev pub invariant-loop-number : goal.invariant-loop-number
invariant-loop-number l = each_explained l.unit l.function l.found (drop l.number-index l.numbers)
    ≡ each_explained l.unit l.function [] l.numbers
