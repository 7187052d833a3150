use Rattle.alias_answer_laws.specs.answers.FunctionLaws.{recorded_without_apply, instructions_without_apply}
use Rattle.alias_answer_laws.specs.answers.FunctionLaws.{terminals_without_apply, none_left}
use Rattle.alias_answer_laws.proofs.answers.apply_laws.Goals as goal

pub returns : goal.returns
returns c = record {
  recorded = recorded_without_apply c.args.env.now;
  instructions = instructions_without_apply;
  terminals = terminals_without_apply;
  ranges = λ b f. none_left b f c.args.env.now;
}
