use Rattle.std.proofs.Common.{ap, sym, ◌∙◌, subst}
use Rattle.alias_hir.specs.declared.env.Environment.{Environment}
use Rattle.alias_range_pass.specs.places.Instructions.{with_identifiers}
use Rattle.alias_range_pass.specs.places.KeepLaws.{assigned_keeps}
use Rattle.alias_range_pass.specs.places.Keeping.{EnvKept}
use Rattle.alias_range_pass.proofs.places.instructions.place_instruction.Goals as goal

pub returns-in_err-table-clause-kept : goal.returns-in_err-table-clause-kept
returns-in_err-table-clause-kept c =
    let P : Environment → Type 0 = λ z. EnvKept c.args.env.now z in
    subst P (ap (λ z. with_identifiers z c.args.env.now) (sym c.in_ok-begin_assigned.ensures.ok))
    (assigned_keeps c.args.instruction.now c.args.env.now)

pub returns-in_err-surround-clause-kept : goal.returns-in_err-surround-clause-kept
returns-in_err-surround-clause-kept c =
    let P : Environment → Type 0 = λ z. EnvKept c.args.env.now z in
    subst P (ap (λ z. with_identifiers z c.args.env.now) (sym c.in_ok-begin_assigned.ensures.ok)
    ∙ sym c.in_err-surround.ensures.err) (assigned_keeps c.args.instruction.now c.args.env.now)
