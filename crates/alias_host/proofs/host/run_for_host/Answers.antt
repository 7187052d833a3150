use Rattle.std.proofs.Common.{◌≡◌, subst, sym}
use Rattle.alias_host.proofs.Replying.{unfailing_code}
use Rattle.alias_host.proofs.host.run_for_host.Goals as goal

pub returns-clause-never : goal.returns-clause-never
returns-clause-never c =
    let reply = c.reply_to_line-reply.result in
    let found = c.reply_to_line-reply.ensures in
    subst (λ n. (n ≡ 7 → ⊥) × (n ≡ 8 → ⊥)) (sym c.code-code.ensures)
    (unfailing_code found.0 c.args.input.now reply.text.items reply.status found.2)
