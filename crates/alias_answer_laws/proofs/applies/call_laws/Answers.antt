use Rattle.alias_answer_laws.proofs.applies.Calling.{never_left, never_refused, stays_without, certified_without}
use Rattle.alias_answer_laws.proofs.applies.Calling.{into_without}
use Rattle.alias_answer_laws.proofs.applies.call_laws.Goals as goal

pub returns : goal.returns
returns c = record {
  answers = λ none keeps_all n fs e h. never_left keeps_all n c.args.func.now c.args.env.now fs none e h;
  refusals = λ none keeps_all n fs e left h. never_refused keeps_all n c.args.func.now c.args.env.now fs none e left h;
  stays = λ none keeps_all n fs a h. stays_without keeps_all n c.args.func.now c.args.env.now fs none a h;
  certified = λ none keeps_all answer after h.
      certified_without keeps_all c.args.func.now c.args.env.now none answer after h;
  plain = λ none keeps_all answer after h. into_without keeps_all c.args.func.now c.args.env.now none answer after h;
}
