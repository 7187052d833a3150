use Rattle.std.proofs.Common.{◌+◌, ◌∷◌, take, arith, ap, ◌∙◌, sym}
use Rattle.std.proofs.lemmas.Bool.{eqb-true, eq-eqb}
use Rattle.std.proofs.lemmas.List.{take_rest}
use Rattle.alias_brief.specs.Differences.{whole_lines}
use Rattle.alias_brief.proofs.Lines.{line_until, line_alone}
use Rattle.alias_brief.proofs.difference.first_line.Goals as goal

pub returns-in-Some-clause-lines : goal.returns-in-Some-clause-lines
returns-in-Some-clause-lines c =
    let found = c.in-Some.ensures in
    let end = c.in-Some.end in
    let text = c.args.text.now in
    line_until end text found.0.high (λ i l e. found.0.before i (omega arith) l (eq-eqb _ 10 e))
    (eqb-true _ 10 found.1)
    ∙ ap (λ rest. take (end + 1) text ∷ whole_lines rest) (sym (take_rest text (end + 1)))

pub returns-in-None-clause-lines : goal.returns-in-None-clause-lines
returns-in-None-clause-lines c =
    line_alone c.args.text.now c.requires (λ i l e. c.in-None.ensures i (omega arith) l (eq-eqb _ 10 e))
