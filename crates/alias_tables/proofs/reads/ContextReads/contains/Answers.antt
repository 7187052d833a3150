use Rattle.std.proofs.Common.{ap, ◌∙◌}
use Rattle.alias_tables.specs.Reads.{is_noted}
use Rattle.alias_tables.proofs.reads.ContextReads.contains.Goals as goal

pub returns : goal.returns
returns c = c.contains.ensures ∙ c.self.invariant c.args.read ∙ ap (is_noted c.args.read) c.self.view_is
