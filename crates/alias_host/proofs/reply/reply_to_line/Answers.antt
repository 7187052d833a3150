use Rattle.std.proofs.Common.{refl, inl}
use Rattle.alias_run.specs.Commands.{command_of}
use Rattle.alias_host.specs.Hosts.{words_of}
use Rattle.alias_host.proofs.Replying.{ran_out_replies, ran_out_promises}
use Rattle.alias_host.proofs.reply.reply_to_line.Goals as goal

pub returns-in-Err : goal.returns-in-Err
returns-in-Err c =
    let asked = command_of (words_of c.args.line.now) in (
      asked,
      inl (c.in-Ok.ensures.cases.1, refl),
      ran_out_replies asked c.args.input.now c.ran_out.result.status c.ran_out.result.text.items c.ran_out.ensures.0
          c.ran_out.ensures.1,
      ran_out_promises asked c.args.input.now c.ran_out.result.status c.ran_out.ensures.0,
    )
