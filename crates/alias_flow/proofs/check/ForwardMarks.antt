-- Where all edges go to later blocks, one round marks all that is reached.
use Rattle.std.proofs.Common.{◌≡◌, ℕ, ◌+◌, ◌<◌, ◌≤◌, ◌≢◌, ⊎_elim, Bool, true, false, if◌then◌else◌, List, [], ◌∷◌}
use Rattle.std.proofs.Common.{replicate, set, zero, suc, refl, ap, sym, ◌∙◌, subst, arith}
use Rattle.std.proofs.lemmas.List.{get_or-set_other, set-set, set_comm}
use Rattle.std.proofs.lemmas.Bool.{cases_eq}
use Rattle.std.specs.List.{AllByRecursion}
use Rattle.alias_flow.specs.Machine.{Rules, up}
use Rattle.alias_flow.specs.Solutions.{goes_forward}
use Rattle.alias_flow.specs.check.Reached.{marked_all, marked_from, marked_round, marked_rounds, reached_marks}
use Rattle.alias_flow.proofs.EachEdge.{forward_is}
use Rattle.alias_flow.proofs.check.Marks.{at, rounds_stay}

-- marking it changes nothing
abbrev Settled : List Bool → ℕ → Type 0
Settled marks e = set marks e true ≡ marks

set_settles : (marks : List Bool) (e : ℕ) → Settled (set marks e true) e
set_settles marks e = set-set marks e true true

set_keeps : (marks : List Bool) (d e : ℕ) → Settled marks e → Settled (set marks d true) e
set_keeps marks d e h = ⊎_elim
    (λ same. subst (λ k. Settled (set marks d true) k) same (set_settles marks d))
    (λ other. set_comm marks d e true true other ∙ ap (λ m. set m d true) h)
    (cases_eq d e)

all_keep : (marks : List Bool) (es : List ℕ) (e : ℕ) → Settled marks e → Settled (marked_all marks es) e
all_keep marks [] e h = h
all_keep marks (d ∷ es) e h = all_keep (set marks d true) es e (set_keeps marks d e h)

-- all of the list are so
abbrev AllSettled : List Bool → List ℕ → Type 0
AllSettled marks es = AllByRecursion (λ e. Settled marks e) es

all_settle : (marks : List Bool) (es : List ℕ) → AllSettled (marked_all marks es) es
all_settle marks [] = tt
all_settle marks (e ∷ es) = (
  all_keep (set marks e true) es e (set_settles marks e),
  all_settle (set marks e true) es,
)

settled_stays : (marks : List Bool) (es : List ℕ) → AllSettled marks es → marked_all marks es ≡ marks
settled_stays marks [] h = refl
settled_stays marks (e ∷ es) h = ap (λ m. marked_all m es) h.0 ∙ settled_stays marks es h.1

-- what is marked later leaves the marks of earlier blocks
all_leave : (marks : List Bool) (es : List ℕ) (b : ℕ) → AllByRecursion (λ e. b < e) es
    → at (marked_all marks es) b ≡ at marks b
all_leave marks [] b lt = refl
all_leave marks (e ∷ es) b lt =
    let later : b < e = lt.0 in
    let other : b ≢ e = omega (arith, later) in
    all_leave (set marks e true) es b lt.1 ∙ get_or-set_other marks e b true false other

module _ (edges : ℕ → List ℕ) where
  from_keeps : (marks : List Bool) (b e : ℕ) (t : Bool) → Settled marks e
      → Settled (if t then marked_all marks (edges b) else marks) e
  from_keeps marks b e true h = all_keep marks (edges b) e h
  from_keeps marks b e false h = h

  round_keeps : (marks : List Bool) (bs : List ℕ) (e : ℕ) → Settled marks e → Settled (marked_round edges marks bs) e
  round_keeps marks [] e h = h
  round_keeps marks (b ∷ bs) e h =
      round_keeps (marked_from edges marks b) bs e (from_keeps marks b e (at marks b) h)

  round_keeps_all : (marks : List Bool) (bs es : List ℕ) → AllSettled marks es
      → AllSettled (marked_round edges marks bs) es
  round_keeps_all marks bs [] h = tt
  round_keeps_all marks bs (e ∷ es) h = (round_keeps marks bs e h.0, round_keeps_all marks bs es h.1)

  -- each edge of these blocks goes to a later block
  abbrev Forward : ℕ → ℕ → Type 0
  Forward i n = (b : ℕ) → i ≤ b → b < i + n → AllByRecursion (λ e. b < e) (edges b)

  later : (b c : ℕ) (es : List ℕ) → b ≤ c → AllByRecursion (λ e. c < e) es → AllByRecursion (λ e. b < e) es
  later b c [] le lt = tt
  later b c (e ∷ es) le lt = let behind : c < e = lt.0 in (omega arith, later b c es le lt.1)

  from_leaves : (marks : List Bool) (b c : ℕ) (t : Bool) → b ≤ c → AllByRecursion (λ e. c < e) (edges c)
      → at (if t then marked_all marks (edges c) else marks) b ≡ at marks b
  from_leaves marks b c true le lt = all_leave marks (edges c) b (later b c (edges c) le lt)
  from_leaves marks b c false le lt = refl

  round_leaves : (i n : ℕ) → Forward i n → (marks : List Bool) (b : ℕ) → b ≤ i
      → at (marked_round edges marks (up i n)) b ≡ at marks b
  round_leaves i zero h marks b le = refl
  round_leaves i (suc n) h marks b le =
      round_leaves (i + 1) n (λ c le lt. h c (omega arith) (omega arith)) (marked_from edges marks i) b (omega arith)
      ∙ from_leaves marks b i (at marks i) le (h i (omega arith) (omega arith))

  marked_same : (marks : List Bool) (es : List ℕ) (t : Bool) → AllSettled marks es
      → (if t then marked_all marks es else marks) ≡ marks
  marked_same marks es true h = settled_stays marks es h
  marked_same marks es false h = refl

  -- the turn of a block, which has come, would change nothing at the end of the round
  turn_same : (i n : ℕ) → Forward i (suc n) → (marks : List Bool) (t : Bool) → at marks i ≡ t
      → marked_from edges (marked_round edges (if t then marked_all marks (edges i) else marks) (up (i + 1) n)) i
      ≡ marked_round edges (if t then marked_all marks (edges i) else marks) (up (i + 1) n)
  turn_same i n h marks true is =
      let end = marked_round edges (marked_all marks (edges i)) (up (i + 1) n) in
      marked_same end (edges i) (at end i)
      (round_keeps_all (marked_all marks (edges i)) (up (i + 1) n) (edges i) (all_settle marks (edges i)))
  turn_same i n h marks false is =
      let end = marked_round edges marks (up (i + 1) n) in
      ap (λ t. if t then marked_all end (edges i) else end)
      (round_leaves (i + 1) n (λ c le lt. h c (omega arith) (omega arith)) marks i (omega arith) ∙ is)

  turns_same : (i n : ℕ) → Forward i n → (marks : List Bool) (b : ℕ) → i ≤ b → b < i + n
      → marked_from edges (marked_round edges marks (up i n)) b ≡ marked_round edges marks (up i n)
  turns_same i zero h marks b le lt = absurd (omega arith)
  turns_same i (suc n) h marks b le lt = ⊎_elim
      (λ same. subst (λ k. marked_from edges (marked_round edges marks (up i (suc n))) k
      ≡ marked_round edges marks (up i (suc n))) (sym same) (turn_same i n h marks (at marks i) refl))
      (λ other. turns_same (i + 1) n (λ c le lt. h c (omega arith) (omega arith)) (marked_from edges marks i) b
      (omega (arith, other)) (omega arith))
      (cases_eq b i)

  rest_same : (marks : List Bool) (i n : ℕ) → ((b : ℕ) → i ≤ b → b < i + n → marked_from edges marks b ≡ marks)
      → marked_round edges marks (up i n) ≡ marks
  rest_same marks i zero h = refl
  rest_same marks i (suc n) h = ap (λ m. marked_round edges m (up (i + 1) n)) (h i (omega arith) (omega arith))
      ∙ rest_same marks (i + 1) n (λ b le lt. h b (omega arith) (omega arith))

  rounds_are_one : (count n : ℕ) → Forward 0 count → (marks : List Bool)
      → marked_rounds edges count (suc n) marks ≡ marked_round edges marks (up 0 count)
  rounds_are_one count n h marks =
      rounds_stay edges count n (marked_round edges marks (up 0 count))
      (rest_same (marked_round edges marks (up 0 count)) 0 count (turns_same 0 count h marks))

  as_many : (n : ℕ) → Forward 0 n → (marks : List Bool)
      → marked_rounds edges n n marks ≡ marked_round edges marks (up 0 n)
  as_many zero h marks = refl
  as_many (suc n) h marks = rounds_are_one (suc n) n h marks

-- the marks of one round are those of what is reached
pub forward_marked : {P T K C : Type 0} (rules : Rules P T K C) → goes_forward rules ≡ true
    → marked_round rules.flow.edges (set (replicate rules.blocks false) rules.flow.entry true) (up 0 rules.blocks)
    ≡ reached_marks rules
forward_marked rules h = sym (as_many rules.flow.edges rules.blocks (λ b le lt. forward_is rules h b (omega arith))
    (set (replicate rules.blocks false) rules.flow.entry true))
