use Rattle.std.specs.Prelude.{◌≡◌, true, refl}
use Rattle.alias_seen_laws.proofs.flow.Flowing.{pass_beside}
use Rattle.alias_seen_laws.proofs.beside_laws.Goals as goal

pub returns : goal.returns
returns c = λ has o e creates same is solved. pass_beside c.args.func.now c.args.env.now
    c.args.is_function_expression c.requires (λ f. has f ≡ true) creates o same e e.solved is refl solved
