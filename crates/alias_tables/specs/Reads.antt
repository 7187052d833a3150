-- Context places that are only read.
use Rattle.std.specs.Prelude.{◌≡◌, Bool, ◌&&◌, ◌==◌, List}
use Rattle.std.specs.declared.cmp.Ordering.{Ordering}
use Rattle.std.specs.List.{list_any}
use Rattle.std.specs.BTreeSet.{BTreeSet, contains}
use Rattle.alias_tables.specs.declared.reads.ContextRead.{ContextRead}
use Rattle.alias_tables.specs.contracts.reads.ContextReadOrd.TheImpl as keys

abbrev pub same_read : ContextRead → ContextRead → Bool
same_read a b = (a.function.0 == b.function.0) && (a.place.0 == b.place.0)

abbrev pub is_noted : ContextRead → List ContextRead → Bool
is_noted r reads = list_any (λ x. same_read x r) reads

abbrev pub read_cmp : ContextRead → ContextRead → Ordering
read_cmp = keys.ghosts.cmp

-- the set has the places of the list
abbrev pub IsSetOf : BTreeSet ContextRead → List ContextRead → Type 0
IsSetOf set reads = (r : ContextRead) → contains read_cmp set r ≡ is_noted r reads
