-- The links that wait on the stack of a walk, and the search among them for the next new entry.
use Rattle.std.specs.Prelude.{◌≡◌, ℕ, ◌+◌, Bool, true, false, cond, List, [], ◌∷◌, ◌++◌, Option, Some, None, nat_lt}
use Rattle.std.specs.Prelude.{length, take, slice_get, option_map, suc}
use Rattle.alias_base.specs.declared.ids.IdentifierId.{IdentifierId}
use Rattle.alias_graph.specs.declared.types.MutationKind.{MutationKind}
use Rattle.alias_graph.specs.declared.types.MutationKind.TheVariants.{Conditional}
use Rattle.alias_graph.specs.declared.types.Direction.TheVariants.{Backwards}
use Rattle.alias_graph.specs.declared.types.LinkList.{LinkList}
use Rattle.alias_graph.specs.declared.types.LinkList.TheVariants.{Forward, CreatedFrom, Captures, Aliases, MaybeAliases}
use Rattle.alias_graph.specs.declared.types.StoredLink.{StoredLink}
use Rattle.alias_graph.specs.declared.types.Node.{Node as StoredNode}
use Rattle.alias_graph.specs.declared.types.Entry.{Entry}
use Rattle.alias_graph.specs.declared.types.Found.{Found}
use Rattle.alias_graph.specs.declared.types.Pending.{Pending}
use Rattle.alias_graph.specs.declared.seen.Seen.{Seen}
use Rattle.alias_graph.specs.Claims.{claimed}
use Rattle.alias_graph.specs.Flat.{link_at}
use Rattle.alias_graph.specs.Links.{entry, along, opens}
use Rattle.alias_graph.specs.Nodes.{Entries, slot_of}

abbrev pub listed : LinkList → StoredNode → List ℕ
listed Forward n = n.forward
listed CreatedFrom n = n.created_from
listed Captures n = n.captures
listed Aliases n = n.aliases
listed MaybeAliases n = n.maybe_aliases

abbrev pub listed_in : LinkList → Option StoredNode → List ℕ
listed_in list None = []
listed_in list (Some n) = listed list n

abbrev pub stored_at : Entries StoredNode → ℕ → Option StoredNode
stored_at g i = option_map (λ (e : IdentifierId × StoredNode). e.1) (slice_get g i)

-- the entry that a link of the list leads to
abbrev pub led : LinkList → Bool → MutationKind → StoredLink → Entry
led Forward t k l = along l.kind l.into t k
led CreatedFrom t k l = entry l.from t Backwards k
led Captures t k l = entry l.from t Backwards k
led Aliases t k l = entry l.from t Backwards k
led MaybeAliases t k l = entry l.from t Backwards k

-- the entries of the links before m
abbrev pub led_entries : LinkList → ℕ → Bool → MutationKind → List StoredLink → List ℕ → List Entry
led_entries list m t k links [] = []
led_entries list m t k links (p ∷ ps) = cond (nat_lt (link_at links p).index m)
    (led list t k (link_at links p) ∷ led_entries list m t k links ps) (led_entries list m t k links ps)

-- the entries that pending links lead to
abbrev pub waiting_of : List StoredLink → Entries StoredNode → ℕ → Pending → List Entry
waiting_of links g m p = led_entries p.list m p.transitive p.kind links
    (take p.left (listed_in p.list (stored_at g p.slot)))

-- the entries that a stack leads to, the newest last
abbrev pub waiting : List StoredLink → Entries StoredNode → ℕ → List Pending → List Entry
waiting links g m [] = []
waiting links g m (p ∷ ps) = waiting_of links g m p ++ waiting links g m ps

-- all links of a list, if there are some
abbrev pub pending : ℕ → LinkList → Bool → MutationKind → List ℕ → List Pending
pending slot list t k [] = []
pending slot list t k (p ∷ ps) = record { slot = slot; list = list; left = suc (length ps); transitive = t; kind = k }
    ∷ []

abbrev pub pending_aliases : Bool → ℕ → Bool → MutationKind → StoredNode → List Pending
pending_aliases true slot t k n = pending slot Aliases t k n.aliases
    ++ pending slot MaybeAliases t Conditional n.maybe_aliases
pending_aliases false slot t k n = []

abbrev pub pending_captures : Bool → ℕ → MutationKind → StoredNode → List Pending
pending_captures true slot k n = pending slot Captures true k n.captures
pending_captures false slot k n = []

-- the links that an entry at this node follows
abbrev pub followed : ℕ → Entry → StoredNode → List Pending
followed slot e n =
    pending slot Forward e.transitive e.kind n.forward
    ++ pending slot CreatedFrom true e.kind n.created_from
    ++ pending_aliases (opens n.value e.direction) slot e.transitive e.kind n
    ++ pending_captures e.transitive slot e.kind n

abbrev pub followed_in : ℕ → Entry → Option StoredNode → List Pending
followed_in slot e None = []
followed_in slot e (Some n) = followed slot e n

abbrev pub AllOld : Entries StoredNode → List Seen → List Entry → Type 0
AllOld g seen [] = Unit {0}
AllOld g seen (e ∷ es) = (claimed (slot_of g e.id) seen e ≡ None) × AllOld g seen es

-- Of the entries, the newest last, the search counted those that came before a new one, all of which are old, and left
-- the rest; where none is new, it counted all.
abbrev pub Searched : Entries StoredNode → List Seen → (entries left : List Entry) → (steps counted : ℕ) → Option Found
    → Type 0
Searched g seen entries left steps counted None = (left ≡ []) × AllOld g seen entries
    × (counted ≡ steps + length entries)
Searched g seen entries left steps counted (Some f) = (old : List Entry) × (entries ≡ left ++ f.entry ∷ old)
    × AllOld g seen old × (counted ≡ steps + length old) × (claimed (slot_of g f.entry.id) seen f.entry ≡ Some f.slot)
