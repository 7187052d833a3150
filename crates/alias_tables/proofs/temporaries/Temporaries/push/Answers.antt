use Rattle.std.proofs.Common.{ap, ◌∙◌}
use Rattle.alias_base.specs.Indexes.{nowhere}
use Rattle.alias_tables.specs.Temporaries.{same_temp, key_in, temp_like, temp_slot_like}
use Rattle.alias_tables.proofs.temporaries.Temporaries.push.Goals as goal

pub push_temporary-requires-clause-new : goal.push_temporary-requires-clause-new
push_temporary-requires-clause-new c =
    ap (λ k. temp_slot_like k c.self.inside.items) c.in_ok-copy.ensures
    ∙ nowhere same_temp key_in c.args.key c.self.inside.items (ap (temp_like c.args.key) c.self.view_is ∙ c.requires)
