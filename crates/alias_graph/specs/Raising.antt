-- Range ends by the legal paths of several walks.
use Rattle.std.specs.Prelude.{◌≡◌, ℕ, ◌≤◌, ◌⊎◌, true, IsTrue, List, Some, option_map, slice_get, slice_index_or, length}
use Rattle.alias_hir.specs.declared.env.Identifier.{Identifier}
use Rattle.alias_graph.specs.declared.seen.Seen.{Seen}
use Rattle.alias_graph.specs.declared.types.Direction.TheVariants.{Backwards}
use Rattle.alias_graph.specs.declared.types.Entry.{Entry}
use Rattle.alias_graph.specs.declared.types.RangeWalk.{RangeWalk}
use Rattle.alias_graph.specs.Legal.{Legal}
use Rattle.alias_graph.specs.Links.{covers, entry, next, node_exists}
use Rattle.alias_graph.specs.Nodes.{Nodes, slot_of}
use Rattle.alias_graph.specs.Reach.{end_at, but_end, Covered}
use Rattle.alias_graph.specs.Seen.{is_seen, nothing_seen}
use Rattle.alias_graph.specs.Walks.{IsOneOf, is_covered}

abbrev pub range_entry : RangeWalk → Entry
range_entry w = entry w.start w.transitive Backwards w.kind

-- nothing but range ends changes, and none falls
pub record EndsRise (old new : List Identifier) : Type 0 where
  pub size : length new ≡ length old
  pub kept : (i : ℕ) → end_at old i ≤ end_at new i
  pub rest : (i : ℕ) → option_map but_end (slice_get new i) ≡ option_map but_end (slice_get old i)

-- the end is that of a walk of which a legal path leads to the identifier
abbrev pub RaiseCause : Nodes → List RangeWalk → ℕ → ℕ → Type 0
RaiseCause g ws i end = (w : RangeWalk) × IsOneOf w ws × (e : Entry) × (e.id.0 ≡ i) × Legal g w.index (range_entry w) e
    × (end ≡ w.end.0)

-- each end is the greatest of that of before and those of the walks of which a legal path leads to the identifier
pub record Raised (g : Nodes) (ws : List RangeWalk) (old new : List Identifier) : Type 0 where
  pub rise : EndsRise old new
  pub covered : (w : RangeWalk) → IsOneOf w ws → Covered g w.index (range_entry w) (Some w.end) new
  pub cause : (i : ℕ) → (end_at new i ≡ end_at old i) ⊎ RaiseCause g ws i (end_at new i)

-- The table of a sweep: what these entries lead to before m is there too, and all of it ends at least there.
pub record Swept (g : Nodes) (m end : ℕ) (rs : List Identifier) (seen : List Seen) : Type 0 where
  pub done : List Entry
  pub size : length seen ≡ length g
  pub says : (e : Entry) (i : ℕ) → slot_of g e.id ≡ Some i → is_seen (slice_index_or seen i nothing_seen) e
      ≡ is_covered covers done e
  pub closed : (d f : Entry) → IsOneOf d done → IsOneOf f (next g m d) → node_exists g f ≡ true → (c : Entry)
      × IsOneOf c done × IsTrue (covers c f)
  pub ended : (d : Entry) → IsOneOf d done → end ≤ end_at rs d.id.0
