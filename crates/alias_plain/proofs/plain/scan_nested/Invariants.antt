use Rattle.std.proofs.Common.{◌≡◌, drop}
use Rattle.alias_plain.specs.laws.Answers.{AllPlain, then_nested}
use Rattle.alias_plain.proofs.plain.scan_nested.Given as goal

-- the functions that are left lead where all of them do
abbrev pub invariant-loop-func : goal.invariant-loop-func
invariant-loop-func l =
    (l.number ≡ l.func-index) × (then_nested l.env l.number (drop l.func-index l.env.functions) (AllPlain l.tables)
    ≡ then_nested l.env 0 l.env.functions (AllPlain l.initial.tables))
