-- Rows of walks, and what one of the walks has seen.
use Rattle.std.proofs.Common.{◌≡◌, ℕ, ◌<◌, ◌≤◌, ◌==◌, false, cond, List, [], ◌∷◌, ◌++◌, length, take, slice_index_or}
use Rattle.std.proofs.Common.{slice_set, replicate, refl, ap, sym, ◌∙◌, subst, arith, suc, zero}
use Rattle.std.proofs.lemmas.List.{get_or-map, map-set, length-map}
use Rattle.alias_graph.specs.declared.types.Entry.{Entry}
use Rattle.alias_graph.specs.declared.seen.Seen.{Seen}
use Rattle.alias_graph.specs.declared.seen_table.SeenRow.{SeenRow}
use Rattle.alias_graph.specs.Seen.{nothing_seen, is_seen}
use Rattle.alias_graph.specs.SeenRows.{row_seen_by, seen_by, AllRowsBefore}
use Rattle.alias_graph.proofs.Covering.{eqb_itself}
use Rattle.alias_graph.proofs.Table.{nothing_at}

not_same : (a b : ℕ) → (a ≡ b → ⊥) → (a == b) ≡ false
not_same a b h = grind arith

pub other_walk : (walk : ℕ) (row : SeenRow) → (row.walk ≡ walk → ⊥) → nothing_seen ≡ row_seen_by walk row
other_walk walk row other = sym (ap (λ b. cond b row.seen nothing_seen) (not_same row.walk walk other))

pub this_walk : (walk : ℕ) (row : SeenRow) → row.walk ≡ walk → row.seen ≡ row_seen_by walk row
this_walk walk row this = sym (ap (λ b. cond b row.seen nothing_seen) (ap (λ n. n == walk) this ∙ eqb_itself walk))

-- a walk that comes after all rows has seen nothing
pub seen_nothing : (walk : ℕ) (rows : List SeenRow) → AllRowsBefore walk rows → seen_by walk rows
    ≡ replicate (length rows) nothing_seen
seen_nothing walk [] h = refl
seen_nothing walk (row ∷ rows) h =
    let before : row.walk < walk = h.0 in
    ap (λ s. s ∷ seen_by walk rows) (sym (other_walk walk row (λ same. absurd (omega arith))))
    ∙ ap (λ r. nothing_seen ∷ r) (seen_nothing walk rows h.1)

-- the rows of a walk that was begun
pub begun : (walk slots : ℕ) (rows : List SeenRow) → AllRowsBefore walk rows → length rows ≡ slots → seen_by walk rows
    ≡ replicate slots nothing_seen
begun walk slots rows h len = seen_nothing walk rows h ∙ ap (λ n. replicate n nothing_seen) len

pub take_few : (n : ℕ) (rows : List SeenRow) → length (take n rows) ≤ n
take_few zero rows = omega arith
take_few (suc n) [] = omega arith
take_few (suc n) (row ∷ rows) = let rest = take_few n rows in omega arith

pub before_up : (a b : ℕ) (rows : List SeenRow) → a ≤ b → AllRowsBefore a rows → AllRowsBefore b rows
before_up a b [] le h = tt
before_up a b (row ∷ rows) le h = let before : row.walk < a = h.0 in (omega arith, before_up a b rows le h.1)

pub before_push : (walk : ℕ) (rows : List SeenRow) (row : SeenRow) → row.walk < walk → AllRowsBefore walk rows
    → AllRowsBefore walk (rows ++ row ∷ [])
before_push walk [] row lt h = (lt, tt)
before_push walk (x ∷ rows) row lt h = (h.0, before_push walk rows row lt h.1)

pub before_take : (walk n : ℕ) (rows : List SeenRow) → AllRowsBefore walk rows → AllRowsBefore walk (take n rows)
before_take walk zero rows h = tt
before_take walk (suc n) [] h = tt
before_take walk (suc n) (row ∷ rows) h = (h.0, before_take walk n rows h.1)

-- the rows that are left, and then more
pub before_grown : (walk n : ℕ) (old cut rows : List SeenRow) → AllRowsBefore walk old → cut ≡ take n old → 0 < walk
    → ((w : ℕ) → 0 < w → AllRowsBefore w cut → AllRowsBefore w rows) → AllRowsBefore walk rows
before_grown walk n old cut rows h is some grown =
    grown walk some (subst (AllRowsBefore walk) (sym is) (before_take walk n old h))

pub before_set : (walk i : ℕ) (rows : List SeenRow) (row : SeenRow) → row.walk < walk → AllRowsBefore walk rows
    → AllRowsBefore walk (slice_set rows i row)
before_set walk i [] row lt h = tt
before_set walk zero (x ∷ rows) row lt h = (lt, h.1)
before_set walk (suc i) (x ∷ rows) row lt h = (h.0, before_set walk i rows row lt h.1)

-- the row at a slot
pub seen_at : (walk i : ℕ) (rows : List SeenRow) (row : SeenRow) → i < length (seen_by walk rows) → row
    ≡ slice_index_or rows i row → row_seen_by walk row ≡ slice_index_or (seen_by walk rows) i nothing_seen
seen_at walk i rows row lt is =
    let len = length-map rows (row_seen_by walk) in
    ap (row_seen_by walk) is ∙ sym (get_or-map (row_seen_by walk) rows i row nothing_seen (omega arith))

-- what the row at a slot covers
pub this_row_covers : (walk i : ℕ) (rows : List SeenRow) (row : SeenRow) (e : Entry) → i < length (seen_by walk rows)
    → row ≡ slice_index_or rows i row → row.walk ≡ walk → is_seen row.seen e
    ≡ is_seen (slice_index_or (seen_by walk rows) i nothing_seen) e
this_row_covers walk i rows row e lt is this =
    ap (λ s. is_seen s e) (this_walk walk row this ∙ seen_at walk i rows row lt is)

pub other_row_covers : (walk i : ℕ) (rows : List SeenRow) (row : SeenRow) (e : Entry) → i < length (seen_by walk rows)
    → row ≡ slice_index_or rows i row → (row.walk ≡ walk → ⊥) → false
    ≡ is_seen (slice_index_or (seen_by walk rows) i nothing_seen) e
other_row_covers walk i rows row e lt is other = sym (nothing_at e.transitive e.direction e.kind)
    ∙ ap (λ s. is_seen s e) (other_walk walk row other ∙ seen_at walk i rows row lt is)

-- a row that this walk writes
pub seen_noted : (walk i : ℕ) (rows : List SeenRow) (s : Seen)
    → seen_by walk (slice_set rows i (record { walk = walk; seen = s })) ≡ slice_set (seen_by walk rows) i s
seen_noted walk i rows s =
    let row : SeenRow = record { walk = walk; seen = s } in
    map-set (row_seen_by walk) rows i row ∙ ap (slice_set (seen_by walk rows) i) (sym (this_walk walk row refl))
