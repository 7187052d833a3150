-- Whether a walk expands an entry.
use Rattle.std.specs.Prelude.{ℕ, cond, List, Option, Some, None, slice_index_or, slice_set}
use Rattle.alias_graph.specs.declared.types.Entry.{Entry}
use Rattle.alias_graph.specs.declared.seen.Seen.{Seen}
use Rattle.alias_graph.specs.Seen.{is_seen, see, nothing_seen}

-- the slot of an entry that is new there
abbrev pub claimed : Option ℕ → List Seen → Entry → Option ℕ
claimed None seen e = None
claimed (Some p) seen e = cond (is_seen (slice_index_or seen p nothing_seen) e) None (Some p)

abbrev pub noted_at : Option ℕ → List Seen → Entry → List Seen
noted_at None seen e = seen
noted_at (Some p) seen e = slice_set seen p (see e (slice_index_or seen p nothing_seen))
