use Rattle.std.proofs.Common.{ap, sym, ◌∙◌}
use Rattle.alias_tables.specs.Reads.{is_noted}
use Rattle.alias_tables.specs.ReadLaws.{set_of_more}
use Rattle.alias_tables.proofs.reads.ContextReads.push.Goals as goal

pub invariant_of-self-in-Ok : goal.invariant_of-self-in-Ok
invariant_of-self-in-Ok c = λ q.
    set_of_more c.self.inside.set c.insert.new.self c.self.inside.reads c.args.read c.self.invariant
    c.in-Ok.ensures.updates q
    ∙ ap (is_noted q) (sym c.in_ok-push.ensures.items)
