-- What a walk has seen at a node.
use Rattle.std.specs.Prelude.{Bool, true, false, Option, Some, None}
use Rattle.alias_graph.specs.declared.types.MutationKind.{MutationKind}
use Rattle.alias_graph.specs.declared.types.MutationKind.TheVariants.{Conditional, Definite}
use Rattle.alias_graph.specs.declared.types.Direction.{Direction}
use Rattle.alias_graph.specs.declared.types.Direction.TheVariants.{Backwards, Forwards}
use Rattle.alias_graph.specs.declared.types.Entry.{Entry}
use Rattle.alias_graph.specs.declared.seen.Seen.{Seen}
use Rattle.alias_graph.specs.Links.{at_least, is_definite}

-- the higher of the two
abbrev pub risen : MutationKind → Option MutationKind → Option MutationKind
risen Definite o = Some Definite
risen Conditional None = Some Conditional
risen Conditional (Some j) = Some j

abbrev pub nothing_seen : Seen
nothing_seen = record {
  local_forwards = None;
  local_backwards = None;
  transitive_forwards = None;
  transitive_backwards = None;
}

-- the highest kind that was seen with at least this flag and direction
abbrev pub level : Seen → Bool → Direction → Option MutationKind
level s false Forwards = s.local_forwards
level s false Backwards = s.local_backwards
level s true Forwards = s.transitive_forwards
level s true Backwards = s.transitive_backwards

abbrev pub reaches : Option MutationKind → MutationKind → Bool
reaches None k = false
reaches (Some j) k = at_least (is_definite j) (is_definite k)

abbrev pub is_seen : Seen → Entry → Bool
is_seen s e = reaches (level s e.transitive e.direction) e.kind

abbrev pub see_at : Bool → Direction → MutationKind → Seen → Seen
see_at false Forwards k s = record s { local_forwards = risen k s.local_forwards }
see_at false Backwards k s = record s {
  local_forwards = risen k s.local_forwards;
  local_backwards = risen k s.local_backwards;
}
see_at true Forwards k s = record s {
  local_forwards = risen k s.local_forwards;
  transitive_forwards = risen k s.transitive_forwards;
}
see_at true Backwards k s = record {
  local_forwards = risen k s.local_forwards;
  local_backwards = risen k s.local_backwards;
  transitive_forwards = risen k s.transitive_forwards;
  transitive_backwards = risen k s.transitive_backwards;
}

abbrev pub see : Entry → Seen → Seen
see e s = see_at e.transitive e.direction e.kind s
