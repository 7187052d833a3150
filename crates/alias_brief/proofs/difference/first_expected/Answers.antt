use Rattle.std.proofs.Common.{◌+◌, ◌∷◌, [], length, take, ap, ◌∙◌, sym}
use Rattle.alias_brief.specs.Differences.{whole_lines, bare}
use Rattle.alias_brief.proofs.Lines.{line_alone, line_before, front_of, bare_before, bare_alone}
use Rattle.alias_brief.proofs.difference.first_expected.Goals as goal

pub returns-in-Some-clause-lines : goal.returns-in-Some-clause-lines
returns-in-Some-clause-lines c =
    let found = c.in-Some.ensures in
    let line = c.in-Some.line.now in
    let after = c.in-Some.after.now in
    ap whole_lines found.0 ∙ line_before line after found.1
    ∙ ap (λ whole. whole ∷ whole_lines after)
    (sym (front_of line after) ∙ ap (take (length line + 1)) (sym (c.as_bytes.ensures.value ∙ found.0)))

pub returns-in-Some-clause-bare : goal.returns-in-Some-clause-bare
returns-in-Some-clause-bare c =
    let found = c.in-Some.ensures in
    let line = c.in-Some.line.now in
    let after = c.in-Some.after.now in
    bare_before line found.1
    ∙ ap bare (sym (front_of line after) ∙ ap (take (length line + 1)) (sym (c.as_bytes.ensures.value ∙ found.0)))

pub returns-in-None-clause-lines : goal.returns-in-None-clause-lines
returns-in-None-clause-lines c =
    line_alone c.args.expected.now c.requires c.in-None.ensures
    ∙ ap (λ whole. whole ∷ []) (sym c.as_bytes-in-None.ensures.value)

pub returns-in-None-clause-bare : goal.returns-in-None-clause-bare
returns-in-None-clause-bare c =
    bare_alone c.args.expected.now c.in-None.ensures ∙ ap bare (sym c.as_bytes-in-None.ensures.value)
