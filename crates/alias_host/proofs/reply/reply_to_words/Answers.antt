use Rattle.alias_run.specs.Commands.{command_of}
use Rattle.alias_host.proofs.Replying.{replies_as, promises_as}
use Rattle.alias_host.proofs.reply.reply_to_words.Goals as goal

pub returns-clause-reply : goal.returns-clause-reply
returns-clause-reply c =
    let outcome = c.run_alias-outcome.result in
    replies_as (command_of c.args.words.now) c.args.input.now c.into_bytes.result.items _ _ _ outcome.status
    c.replied.result.status outcome.answer c.replied.result.text.items
    c.new-source.ensures c.new-sink.ensures c.into_bytes.ensures c.replied.ensures.status c.replied.ensures.text
    c.run_alias-outcome.ensures.run c.run_alias-outcome.ensures.headline c.run_alias-outcome.ensures.certifies

pub returns-clause-promises : goal.returns-clause-promises
returns-clause-promises c =
    let outcome = c.run_alias-outcome.result in
    promises_as (command_of c.args.words.now) c.args.input.now _ outcome.status c.replied.result.status
    c.new-source.ensures c.replied.ensures.status c.run_alias-outcome.ensures.complete
    c.run_alias-outcome.ensures.accepts
