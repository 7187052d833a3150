use Rattle.std.proofs.Common.{ap, sym, ◌∙◌}
use Rattle.alias_base.specs.Indexes.{at_slot, first_at}
use Rattle.alias_tables.specs.Temporaries.{same_temp, key_in, temp_like}
use Rattle.alias_tables.proofs.temporaries.Temporaries.get.Goals as goal

pub returns-in-Some : goal.returns-in-Some
returns-in-Some c =
    let ts = c.self.inside.items in
    let k = c.args.key.now in
    c.get-in-Some.ensures ∙ ap (λ o. at_slot o ts) (c.in-Some.ensures.value ∙ c.self.invariant k)
    ∙ sym (first_at same_temp key_in k ts) ∙ ap (temp_like k) c.self.view_is

pub returns-in-None : goal.returns-in-None
returns-in-None c =
    let ts = c.self.inside.items in
    let k = c.args.key.now in
    ap (λ o. at_slot o ts) (c.in-None.ensures.value ∙ c.self.invariant k) ∙ sym (first_at same_temp key_in k ts)
    ∙ ap (temp_like k) c.self.view_is
