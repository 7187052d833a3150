use Rattle.alias_completeness.specs.Completeness.{grown_pass, grown_forward_pass}
use Rattle.alias_completeness.proofs.laws.grown_laws.Goals as goal

pub returns : goal.returns
returns c = record {
  answers = λ entry callable agrees inside plain b cs same.
      grown_pass c.args.func.now c.args.env.now c.args.more.now cs b entry callable agrees inside same plain;
  forward = λ entry callable agrees inside plain b cs same forward.
      grown_forward_pass c.args.func.now c.args.env.now c.args.more.now cs b entry callable agrees inside same plain
      forward;
}
