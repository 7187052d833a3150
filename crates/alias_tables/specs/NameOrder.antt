-- The order of names.
use Rattle.std.specs.declared.cmp.Ordering.{Ordering}
use Rattle.std.specs.Ordering.{nat_cmp}
use Rattle.std.specs.Cmp.{IsTotalOrder}
use Rattle.std.specs.Cmp.Lexicographic.{slice_cmp}
use Rattle.std.proofs.lemmas.Cmp.{on_total, nat_list_cmp_total}
use Rattle.alias_tables.specs.declared.temp_key.Name.{Name}

-- one byte after the other
abbrev pub by_text : Name → Name → Ordering
by_text a b = slice_cmp nat_cmp a.text b.text

pub by_text_total : IsTotalOrder by_text
by_text_total = on_total (λ (n : Name). n.text) nat_list_cmp_total
