use Rattle.std.proofs.Common.{ap, sym, ◌∙◌, subst, Some}
use Rattle.std.specs.BTreeMap.{get, Updates}
use Rattle.alias_base.specs.Indexes.{index_push}
use Rattle.alias_tables.specs.Temporaries.{temp_cmp, same_temp, temps_are_told_apart, key_in, temp_slot_like}
use Rattle.alias_tables.proofs.temporaries.push_temporary.Goals as goal

pub returns-in-Ok-clause-index : goal.returns-in-Ok-clause-index
returns-in-Ok-clause-index c = λ k.
    index_push same_temp key_in temps_are_told_apart (get temp_cmp c.args.slots.now) (get temp_cmp c.insert.new.self)
    c.args.items.now c.args.key c.args.temporary c.requires.index (ap Some c.requires.of_key) c.requires.new
    (subst (λ n. Updates temp_cmp c.args.slots.now c.insert.new.self c.args.key (Some n)) c.len-slot.ensures
    c.in-Ok.ensures.updates).0 k
    ∙ ap (temp_slot_like k) (sym c.in_ok-push.ensures.items)
