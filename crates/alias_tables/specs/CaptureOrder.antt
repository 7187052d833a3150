-- The order of lists of identifiers.
use Rattle.std.specs.declared.cmp.Ordering.{Ordering}
use Rattle.std.specs.Cmp.{IsTotalOrder}
use Rattle.std.specs.Cmp.Lexicographic.{slice_cmp}
use Rattle.std.proofs.lemmas.Cmp.{on_total, lists_total}
use Rattle.alias_base.specs.contracts.ids.IdentifierIdOrd.TheImpl as identifiers
use Rattle.alias_base.specs.contracts.ids.IdentifierIdOrd.TheImpl.Laws as laws
use Rattle.alias_tables.specs.declared.key.Captures.{Captures}

-- one identifier after the other
abbrev pub by_ids : Captures → Captures → Ordering
by_ids a b = slice_cmp identifiers.ghosts.cmp a.ids b.ids

pub by_ids_total : IsTotalOrder by_ids
by_ids_total = on_total (λ (c : Captures). c.ids) (lists_total laws.total-law)
