use Rattle.std.proofs.Common.{◌≡◌, ◌∙◌, subst, take, ap, Err}
use Rattle.alias_stream.specs.Streams.{Adds, HasFailed}
use Rattle.alias_run.specs.Commands.{command_of}
use Rattle.alias_run.specs.Runs.{IsRun, IsHeadline}
use Rattle.alias_run.specs.declared.status.Status.TheVariants.{Memory}
use Rattle.alias_run.specs.Texts.{text_of, IsCertifying}
use Rattle.alias_run.proofs.Running.{ran_out, broke_off, ran, headline, leaves_unwritten, no_headline}
use Rattle.alias_run.proofs.Running.{no_headline_of_memory}
use Rattle.alias_run.proofs.Refusing.{run_is_complete}
use Rattle.alias_run.proofs.Accepting.{run_is_accepting, unanswered_certifies}
use Rattle.alias_run.proofs.run.run_alias.Goals as goal

pub returns-in_default-clause-run : goal.returns-in_default-clause-run
returns-in_default-clause-run g c =
    let source = c.args.source.now in
    let after = c.find-outcome.new.source in
    let sink = c.args.sink.now in
    let read_failed = HasFailed (g.S.Source.faults source) (g.S.Source.faults after) (g.S.Source.at_last after) in
    let write_failed = HasFailed (g.K.Sink.faults sink) (g.K.Sink.faults sink) (g.K.Sink.at_last sink) in
    let held = g.K.Sink.held sink in
    let left = g.S.Source.left source in
    let o = c.unwritten.result in
    subst (λ asked. IsRun asked left read_failed write_failed held held o.status o.answer)
    c.from_words-asked.ensures.command
    (ran_out c.from_words-asked.result left read_failed write_failed held held c.find-outcome.result o
    c.unwritten.ensures c.find-outcome.ensures.found)

pub returns-in_default-clause-complete : goal.returns-in_default-clause-complete
returns-in_default-clause-complete g c =
    let source = c.args.source.now in
    let after = c.find-outcome.new.source in
    let sink = c.args.sink.now in
    let read_failed = HasFailed (g.S.Source.faults source) (g.S.Source.faults after) (g.S.Source.at_last after) in
    let write_failed = HasFailed (g.K.Sink.faults sink) (g.K.Sink.faults sink) (g.K.Sink.at_last sink) in
    let held = g.K.Sink.held sink in
    let o = c.unwritten.result in
    run_is_complete (command_of c.args.words.now) (g.S.Source.left source) read_failed write_failed held held o.status
    o.answer (returns-in_default-clause-run g c)

pub returns-in_default-clause-accepts : goal.returns-in_default-clause-accepts
returns-in_default-clause-accepts g c =
    let source = c.args.source.now in
    let after = c.find-outcome.new.source in
    let sink = c.args.sink.now in
    let read_failed = HasFailed (g.S.Source.faults source) (g.S.Source.faults after) (g.S.Source.at_last after) in
    let write_failed = HasFailed (g.K.Sink.faults sink) (g.K.Sink.faults sink) (g.K.Sink.at_last sink) in
    let held = g.K.Sink.held sink in
    let o = c.unwritten.result in
    run_is_accepting (command_of c.args.words.now) (g.S.Source.left source) read_failed write_failed held held o.status
    o.answer (returns-in_default-clause-run g c)

pub returns-in_default-clause-certifies : goal.returns-in_default-clause-certifies
returns-in_default-clause-certifies g c =
    unanswered_certifies (command_of c.args.words.now) Memory c.unwritten.result c.unwritten.ensures

pub returns-in_default-clause-headline : goal.returns-in_default-clause-headline
returns-in_default-clause-headline g c =
    no_headline_of_memory (command_of c.args.words.now) (g.S.Source.left c.args.source.now)
    (g.K.Sink.held c.args.sink.now) (g.K.Sink.held c.args.sink.now) c.unwritten.result c.unwritten.ensures

pub returns-in-Ok-write_whole-clause-run : goal.returns-in-Ok-write_whole-clause-run
returns-in-Ok-write_whole-clause-run g c =
    let found = c.find-outcome.result in
    let source = c.args.source.now in
    let after = c.find-outcome.new.source in
    let sink = c.args.sink.now in
    let sink' = c.write_whole.new.sink in
    let read_failed = HasFailed (g.S.Source.faults source) (g.S.Source.faults after) (g.S.Source.at_last after) in
    let write_failed = HasFailed (g.K.Sink.faults sink) (g.K.Sink.faults sink') (g.K.Sink.at_last sink') in
    let held = g.K.Sink.held sink in
    let held' = g.K.Sink.held sink' in
    let left = g.S.Source.left source in
    let asked = c.from_words-asked.result in
    let text : c.as_bytes.result.now ≡ text_of asked found.status found.answer = c.as_bytes.ensures.value
    ∙ c.as_str.ensures ∙ c.in-Ok.ensures.text in
    subst (λ command. IsRun command left read_failed write_failed held held' found.status found.answer)
    c.from_words-asked.ensures.command
    (ran left read_failed write_failed held held' asked found.status found.answer c.find-outcome.ensures.found
    (subst (λ t. Adds held t held') text c.in-Ok-write_whole.ensures.whole))

pub returns-in-Ok-write_whole-clause-complete : goal.returns-in-Ok-write_whole-clause-complete
returns-in-Ok-write_whole-clause-complete g c =
    let found = c.find-outcome.result in
    let source = c.args.source.now in
    let after = c.find-outcome.new.source in
    let sink = c.args.sink.now in
    let sink' = c.write_whole.new.sink in
    let read_failed = HasFailed (g.S.Source.faults source) (g.S.Source.faults after) (g.S.Source.at_last after) in
    let write_failed = HasFailed (g.K.Sink.faults sink) (g.K.Sink.faults sink') (g.K.Sink.at_last sink') in
    run_is_complete (command_of c.args.words.now) (g.S.Source.left source) read_failed write_failed (g.K.Sink.held sink)
    (g.K.Sink.held sink') found.status found.answer (returns-in-Ok-write_whole-clause-run g c)

pub returns-in-Ok-write_whole-clause-accepts : goal.returns-in-Ok-write_whole-clause-accepts
returns-in-Ok-write_whole-clause-accepts g c =
    let found = c.find-outcome.result in
    let source = c.args.source.now in
    let after = c.find-outcome.new.source in
    let sink = c.args.sink.now in
    let sink' = c.write_whole.new.sink in
    let read_failed = HasFailed (g.S.Source.faults source) (g.S.Source.faults after) (g.S.Source.at_last after) in
    let write_failed = HasFailed (g.K.Sink.faults sink) (g.K.Sink.faults sink') (g.K.Sink.at_last sink') in
    run_is_accepting (command_of c.args.words.now) (g.S.Source.left source) read_failed write_failed
    (g.K.Sink.held sink) (g.K.Sink.held sink') found.status found.answer (returns-in-Ok-write_whole-clause-run g c)

pub returns-in-Ok-write_whole-clause-certifies : goal.returns-in-Ok-write_whole-clause-certifies
returns-in-Ok-write_whole-clause-certifies g c =
    let found = c.find-outcome.result in
    subst (λ command. IsCertifying command found.answer (text_of command found.status found.answer))
    c.from_words-asked.ensures.command
    (subst (λ t. IsCertifying c.from_words-asked.result found.answer t) c.in-Ok.ensures.text c.in-Ok.ensures.certifies)

pub returns-in-Ok-write_whole-clause-headline : goal.returns-in-Ok-write_whole-clause-headline
returns-in-Ok-write_whole-clause-headline g c =
    let found = c.find-outcome.result in
    let source = c.args.source.now in
    let after = c.find-outcome.new.source in
    let read_failed = HasFailed (g.S.Source.faults source) (g.S.Source.faults after) (g.S.Source.at_last after) in
    let held = g.K.Sink.held c.args.sink.now in
    let held' = g.K.Sink.held c.write_whole.new.sink in
    let left = g.S.Source.left source in
    let asked = c.from_words-asked.result in
    let text : c.as_bytes.result.now ≡ text_of asked found.status found.answer = c.as_bytes.ensures.value
    ∙ c.as_str.ensures ∙ c.in-Ok.ensures.text in
    subst (λ command. IsHeadline command left held held' found.status found.answer) c.from_words-asked.ensures.command
    (headline left read_failed (Unit {0}) held held' asked found.status found.answer c.find-outcome.ensures.found
    (subst (λ t. Adds held t held') text c.in-Ok-write_whole.ensures.whole))

pub returns-clause-run : goal.returns-clause-run
returns-clause-run g c =
    let found = c.find-outcome.result in
    let source = c.args.source.now in
    let after = c.find-outcome.new.source in
    let sink = c.args.sink.now in
    let sink' = c.write_whole.new.sink in
    let read_failed = HasFailed (g.S.Source.faults source) (g.S.Source.faults after) (g.S.Source.at_last after) in
    let write_failed = HasFailed (g.K.Sink.faults sink) (g.K.Sink.faults sink') (g.K.Sink.at_last sink') in
    let held = g.K.Sink.held sink in
    let held' = g.K.Sink.held sink' in
    let left = g.S.Source.left source in
    let asked = c.from_words-asked.result in
    let text : c.as_bytes.result.now ≡ text_of asked found.status found.answer = c.as_bytes.ensures.value
    ∙ c.as_str.ensures ∙ c.in-Ok.ensures.text in
    let part = c.in-Err.ensures.part in
    let o = c.unwritten-in-Err.result in
    subst (λ command. IsRun command left read_failed write_failed held held' o.status o.answer)
    c.from_words-asked.ensures.command
    (broke_off asked left read_failed write_failed held held' found part.0 c.in-Err.stop _ o c.unwritten-in-Err.ensures
    c.from.ensures
    c.find-outcome.ensures.found (subst (λ t. Adds held (take part.0 t) held') text part.2)
    (λ failed. c.in-Err.ensures.failed (ap Err failed)))

pub returns-clause-complete : goal.returns-clause-complete
returns-clause-complete g c =
    let source = c.args.source.now in
    let after = c.find-outcome.new.source in
    let sink = c.args.sink.now in
    let sink' = c.write_whole.new.sink in
    let read_failed = HasFailed (g.S.Source.faults source) (g.S.Source.faults after) (g.S.Source.at_last after) in
    let write_failed = HasFailed (g.K.Sink.faults sink) (g.K.Sink.faults sink') (g.K.Sink.at_last sink') in
    let o = c.unwritten-in-Err.result in
    run_is_complete (command_of c.args.words.now) (g.S.Source.left source) read_failed write_failed (g.K.Sink.held sink)
    (g.K.Sink.held sink') o.status o.answer (returns-clause-run g c)

pub returns-clause-accepts : goal.returns-clause-accepts
returns-clause-accepts g c =
    let source = c.args.source.now in
    let after = c.find-outcome.new.source in
    let sink = c.args.sink.now in
    let sink' = c.write_whole.new.sink in
    let read_failed = HasFailed (g.S.Source.faults source) (g.S.Source.faults after) (g.S.Source.at_last after) in
    let write_failed = HasFailed (g.K.Sink.faults sink) (g.K.Sink.faults sink') (g.K.Sink.at_last sink') in
    let o = c.unwritten-in-Err.result in
    run_is_accepting (command_of c.args.words.now) (g.S.Source.left source) read_failed write_failed
    (g.K.Sink.held sink) (g.K.Sink.held sink') o.status o.answer (returns-clause-run g c)

pub returns-clause-certifies : goal.returns-clause-certifies
returns-clause-certifies g c = unanswered_certifies (command_of c.args.words.now) _ c.unwritten-in-Err.result
    c.unwritten-in-Err.ensures

pub returns-clause-headline : goal.returns-clause-headline
returns-clause-headline g c =
    no_headline (command_of c.args.words.now) (g.S.Source.left c.args.source.now) (g.K.Sink.held c.args.sink.now)
    (g.K.Sink.held c.write_whole.new.sink) c.in-Err.stop _ c.unwritten-in-Err.result c.unwritten-in-Err.ensures
    c.from.ensures

pub returns-clause-leaves : goal.returns-clause-leaves
returns-clause-leaves g c = λ _. leaves_unwritten c.in-Err.stop (g.S.Source.left c.find-outcome.new.source) _
    c.unwritten-in-Err.result c.unwritten-in-Err.ensures c.from.ensures
