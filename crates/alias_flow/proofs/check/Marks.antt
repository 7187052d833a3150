-- After as many rounds as there are blocks, exactly those that are reached are marked.
use Rattle.std.proofs.Common.{◌≡◌, ℕ, ◌+◌, ◌-◌, ◌<◌, ◌≤◌, ◌≢◌, ◌⊎◌, inl, inr, ⊎_elim, Bool, true, false, if◌then◌else◌}
use Rattle.std.proofs.Common.{List, [], ◌∷◌, length, get_or, set, replicate, Option, zero, suc, refl, ap, sym, ◌∙◌}
use Rattle.std.proofs.Common.{subst, arith}
use Rattle.std.proofs.lemmas.List.{get_or-set_same, get_or-set_other, length-set, length-replicate}
use Rattle.std.proofs.lemmas.Bool.{cases_eq, false≢true}
use Rattle.std.specs.List.{AllByRecursion}
use Rattle.alias_lattice.specs.Flows.{IsOneOf, IsReached, at_entry, by_edge}
use Rattle.alias_flow.specs.Machine.{Rules, up, FlowLaws}
use Rattle.alias_flow.specs.check.Reached.{marked_all, marked_from, marked_round, marked_rounds, reached_marks}

abbrev pub at : List Bool → ℕ → Bool
at marks b = get_or marks b false

pub true_or_false : (b : Bool) → (b ≡ true) ⊎ (b ≡ false)
true_or_false true = inl refl
true_or_false false = inr refl

-- a position that is marked is there
pub marked_within : (marks : List Bool) (b : ℕ) → at marks b ≡ true → b < length marks
marked_within [] b h = absurd (false≢true h)
marked_within (m ∷ marks) zero h = omega arith
marked_within (m ∷ marks) (suc b) h = let r : b < length marks = marked_within marks b h in omega arith

-- ---- how many are not marked

abbrev pub unmarked : List Bool → ℕ
unmarked [] = 0
unmarked (true ∷ marks) = unmarked marks
unmarked (false ∷ marks) = unmarked marks + 1

-- fewer are left, or the marks are the same
pub record Sinks (old new : List Bool) : Type 0 where
  pub fewer : unmarked new ≤ unmarked old
  pub same : unmarked new ≡ unmarked old → new ≡ old

sinks_self : (marks : List Bool) → Sinks marks marks
sinks_self marks = record { fewer = omega arith; same = λ e. refl }

sinks_through : (x y z : List Bool) → Sinks x y → Sinks y z → Sinks x z
sinks_through x y z s t =
    let xy : unmarked y ≤ unmarked x = s.fewer in
    let yz : unmarked z ≤ unmarked y = t.fewer in
    record {
      fewer = omega arith;
      same = λ e.
          let first : unmarked y ≡ unmarked x = omega arith in
          let second : unmarked z ≡ unmarked y = omega arith in
          t.same second ∙ s.same first;
    }

sinks_under : (m : Bool) (x y : List Bool) → Sinks x y → Sinks (m ∷ x) (m ∷ y)
sinks_under true x y s = record { fewer = s.fewer; same = λ e. ap (λ z. true ∷ z) (s.same e) }
sinks_under false x y s =
    let xy : unmarked y ≤ unmarked x = s.fewer in
    record {
      fewer = omega arith;
      same = λ e. let less : unmarked y ≡ unmarked x = omega arith in
          ap (λ z. false ∷ z) (s.same less);
    }

mark_sinks : (marks : List Bool) (e : ℕ) → Sinks marks (set marks e true)
mark_sinks [] e = elim e as (λ n. Sinks [] (set [] n true)) [ zero ↦ sinks_self [] | suc n ↦ sinks_self [] ]
mark_sinks (true ∷ marks) zero = sinks_self (true ∷ marks)
mark_sinks (false ∷ marks) zero = record { fewer = omega arith; same = λ e. let no : ⊥ = omega arith in absurd no }
mark_sinks (m ∷ marks) (suc e) = sinks_under m marks (set marks e true) (mark_sinks marks e)

marks_sink : (marks : List Bool) (es : List ℕ) → Sinks marks (marked_all marks es)
marks_sink marks [] = sinks_self marks
marks_sink marks (e ∷ es) = sinks_through marks (set marks e true) (marked_all (set marks e true) es)
    (mark_sinks marks e) (marks_sink (set marks e true) es)

-- ---- what is marked stays so

mark_keeps : (marks : List Bool) (e b : ℕ) → at marks b ≡ true → at (set marks e true) b ≡ true
mark_keeps marks e b h = ⊎_elim
    (λ same. let within : e < length marks = subst (λ k. k < length marks) same (marked_within marks b h) in
    ap (at (set marks e true)) same ∙ get_or-set_same marks e true false within)
    (λ other. get_or-set_other marks e b true false other ∙ h)
    (cases_eq b e)

marks_keep : (marks : List Bool) (es : List ℕ) (b : ℕ) → at marks b ≡ true → at (marked_all marks es) b ≡ true
marks_keep marks [] b h = h
marks_keep marks (e ∷ es) b h = marks_keep (set marks e true) es b (mark_keeps marks e b h)

marks_length : (marks : List Bool) (es : List ℕ) → length (marked_all marks es) ≡ length marks
marks_length marks [] = refl
marks_length marks (e ∷ es) = marks_length (set marks e true) es ∙ length-set marks e true

-- each of the list is marked
marks_cover : (marks : List Bool) (es : List ℕ) (n : ℕ) → length marks ≡ n → AllByRecursion (λ e. e < n) es → (c : ℕ)
    → IsOneOf c es → at (marked_all marks es) c ≡ true
marks_cover marks [] n long lt c one = absurd one
marks_cover marks (e ∷ es) n long lt c (inl same) =
    let within : e < length marks = omega (arith, lt.0) in
    marks_keep (set marks e true) es c (ap (at (set marks e true)) same ∙ get_or-set_same marks e true false within)
marks_cover marks (e ∷ es) n long lt c (inr one) =
    marks_cover (set marks e true) es n (length-set marks e true ∙ long) lt.1 c one

-- what is marked was marked before, or is one of the list
marks_source : (marks : List Bool) (es : List ℕ) (c : ℕ) → at (marked_all marks es) c ≡ true → (at marks c ≡ true)
    ⊎ IsOneOf c es
marks_source marks [] c h = inl h
marks_source marks (e ∷ es) c h = ⊎_elim
    (λ before. ⊎_elim (λ same. inr (inl same))
    (λ other. inl (sym (get_or-set_other marks e c true false other) ∙ before)) (cases_eq c e))
    (λ one. inr (inr one))
    (marks_source (set marks e true) es c h)

-- ---- rounds

module _ (edges : ℕ → List ℕ) where
  from_sinks : (marks : List Bool) (b : ℕ) (t : Bool) → Sinks marks (if t then marked_all marks (edges b) else marks)
  from_sinks marks b true = marks_sink marks (edges b)
  from_sinks marks b false = sinks_self marks

  from_keeps : (marks : List Bool) (b c : ℕ) (t : Bool) → at marks c ≡ true
      → at (if t then marked_all marks (edges b) else marks) c ≡ true
  from_keeps marks b c true h = marks_keep marks (edges b) c h
  from_keeps marks b c false h = h

  from_length : (marks : List Bool) (b : ℕ) (t : Bool) → length (if t then marked_all marks (edges b) else marks)
      ≡ length marks
  from_length marks b true = marks_length marks (edges b)
  from_length marks b false = refl

  round_sinks : (marks : List Bool) (bs : List ℕ) → Sinks marks (marked_round edges marks bs)
  round_sinks marks [] = sinks_self marks
  round_sinks marks (b ∷ bs) = sinks_through marks (marked_from edges marks b)
      (marked_round edges (marked_from edges marks b) bs) (from_sinks marks b (at marks b))
      (round_sinks (marked_from edges marks b) bs)

  round_keeps : (marks : List Bool) (bs : List ℕ) (c : ℕ) → at marks c ≡ true → at (marked_round edges marks bs) c
      ≡ true
  round_keeps marks [] c h = h
  round_keeps marks (b ∷ bs) c h = round_keeps (marked_from edges marks b) bs c (from_keeps marks b c (at marks b) h)

  pub round_length : (marks : List Bool) (bs : List ℕ) → length (marked_round edges marks bs) ≡ length marks
  round_length marks [] = refl
  round_length marks (b ∷ bs) = round_length (marked_from edges marks b) bs ∙ from_length marks b (at marks b)

  -- after a round the edges of what was marked before are marked
  round_covers : (n : ℕ) → ((b : ℕ) → b < n → AllByRecursion (λ e. e < n) (edges b)) → (marks : List Bool)
      → length marks ≡ n → (bs : List ℕ) (b c : ℕ) → IsOneOf b bs → at marks b ≡ true → IsOneOf c (edges b)
      → at (marked_round edges marks bs) c ≡ true
  round_covers n lt marks long [] b c there h one = absurd there
  round_covers n lt marks long (d ∷ bs) b c (inl same) h one =
      let within : b < n = subst (λ k. b < k) long (marked_within marks b h) in
      let marked : at marks d ≡ true = ap (at marks) (sym same) ∙ h in
      round_keeps (marked_from edges marks d) bs c
      (subst (λ t. at (if t then marked_all marks (edges d) else marks) c ≡ true) (sym marked)
      (subst (λ k. at (marked_all marks (edges k)) c ≡ true) same
      (marks_cover marks (edges b) n long (lt b within) c one)))
  round_covers n lt marks long (d ∷ bs) b c (inr there) h one =
      round_covers n lt (marked_from edges marks d) (from_length marks d (at marks d) ∙ long) bs b c there
      (from_keeps marks d b (at marks d) h) one

  pub rounds_length : (count n : ℕ) (marks : List Bool) → length (marked_rounds edges count n marks) ≡ length marks
  rounds_length count zero marks = refl
  rounds_length count (suc n) marks = rounds_length count n (marked_round edges marks (up 0 count))
      ∙ round_length marks (up 0 count)

  rounds_keep : (count n : ℕ) (marks : List Bool) (c : ℕ) → at marks c ≡ true → at (marked_rounds edges count n marks) c
      ≡ true
  rounds_keep count zero marks c h = h
  rounds_keep count (suc n) marks c h = rounds_keep count n (marked_round edges marks (up 0 count)) c
      (round_keeps marks (up 0 count) c h)

  -- marks that a round leaves stay
  pub rounds_stay : (count n : ℕ) (marks : List Bool) → marked_round edges marks (up 0 count) ≡ marks
      → marked_rounds edges count n marks ≡ marks
  rounds_stay count zero marks h = refl
  rounds_stay count (suc n) marks h = ap (marked_rounds edges count n) h ∙ rounds_stay count n marks h

  rounds_suc : (count n : ℕ) (marks : List Bool) → marked_rounds edges count (suc n) marks
      ≡ marked_rounds edges count n (marked_round edges marks (up 0 count))
  rounds_suc count n marks = refl

  -- one of the rounds that are left
  pub rounds_next : (count i : ℕ) (marks : List Bool) → i < count → marked_rounds edges count (count - i) marks
      ≡ marked_rounds edges count (count - (i + 1)) (marked_round edges marks (up 0 count))
  rounds_next count i marks h = let e : count - i ≡ suc (count - (i + 1)) = omega arith in
      ap (λ n. marked_rounds edges count n marks) e ∙ rounds_suc count (count - (i + 1)) marks

  settle_case : (count n : ℕ) (marks : List Bool) → unmarked marks ≤ suc n
      → ((unmarked (marked_round edges marks (up 0 count)) ≤ n)
      → marked_round edges (marked_rounds edges count n (marked_round edges marks (up 0 count))) (up 0 count)
      ≡ marked_rounds edges count n (marked_round edges marks (up 0 count)))
      → (unmarked (marked_round edges marks (up 0 count)) ≡ unmarked marks)
      ⊎ (unmarked (marked_round edges marks (up 0 count)) ≢ unmarked marks)
      → marked_round edges (marked_rounds edges count (suc n) marks) (up 0 count)
      ≡ marked_rounds edges count (suc n) marks
  settle_case count n marks few more (inl same) =
      let stays : marked_round edges marks (up 0 count) ≡ marks = (round_sinks marks (up 0 count)).same same in
      let all : marked_rounds edges count (suc n) marks ≡ marks = rounds_stay count (suc n) marks stays in
      ap (λ m. marked_round edges m (up 0 count)) all ∙ stays ∙ sym all
  settle_case count n marks few more (inr other) =
      let fewer : unmarked (marked_round edges marks (up 0 count)) ≤ unmarked marks =
      (round_sinks marks (up 0 count)).fewer in
      more (omega (arith, fewer, other))

  -- after as many rounds as blocks are not marked, a round leaves the marks
  rounds_settle : (count n : ℕ) (marks : List Bool) → unmarked marks ≤ n
      → marked_round edges (marked_rounds edges count n marks) (up 0 count) ≡ marked_rounds edges count n marks
  rounds_settle count zero marks few =
      let fewer : unmarked (marked_round edges marks (up 0 count)) ≤ unmarked marks =
      (round_sinks marks (up 0 count)).fewer in
      let same : unmarked (marked_round edges marks (up 0 count)) ≡ unmarked marks = omega (arith, few, fewer) in
      (round_sinks marks (up 0 count)).same same
  rounds_settle count (suc n) marks few =
      settle_case count n marks few (rounds_settle count n (marked_round edges marks (up 0 count)))
      (cases_eq (unmarked (marked_round edges marks (up 0 count))) (unmarked marks))

few_unmarked : (marks : List Bool) → unmarked marks ≤ length marks
few_unmarked [] = omega arith
few_unmarked (true ∷ marks) = let r : unmarked marks ≤ length marks = few_unmarked marks in omega arith
few_unmarked (false ∷ marks) = let r : unmarked marks ≤ length marks = few_unmarked marks in omega arith

one_of_up : (b i n : ℕ) → i ≤ b → b < i + n → IsOneOf b (up i n)
one_of_up b i zero le lt = let no : ⊥ = omega arith in absurd no
one_of_up b i (suc n) le lt = ⊎_elim (λ same. inl same)
    (λ other. inr (one_of_up b (i + 1) n (omega (arith, other)) (omega arith))) (cases_eq b i)

none_marked : (n b : ℕ) → at (replicate n false) b ≡ false
none_marked zero b = refl
none_marked (suc n) zero = refl
none_marked (suc n) (suc b) = none_marked n b

module _ {P T K C : Type 0} {proper : P → Type 0} {extends : T → T → Type 0} {rules : Rules P T K C}
    {recorded : List (Option K)} (f : FlowLaws proper extends rules recorded) where
  abbrev edges : ℕ → List ℕ
  edges = rules.flow.edges

  abbrev started : List Bool
  started = set (replicate rules.blocks false) rules.flow.entry true

  started_length : length started ≡ rules.blocks
  started_length = length-set (replicate rules.blocks false) rules.flow.entry true ∙ length-replicate rules.blocks false

  abbrev pub marks : List Bool
  marks = reached_marks rules

  marks_long : length marks ≡ rules.blocks
  marks_long = rounds_length edges rules.blocks rules.blocks started ∙ started_length

  -- what is reached is marked
  pub reached_is_marked : (b : ℕ) → IsReached rules.flow b → at marks b ≡ true
  reached_is_marked b at_entry =
      let within : rules.flow.entry < length (replicate rules.blocks false) =
      subst (λ n. rules.flow.entry < n) (sym (length-replicate rules.blocks false)) f.entry_below in
      rounds_keep edges rules.blocks rules.blocks started rules.flow.entry
      (get_or-set_same (replicate rules.blocks false) rules.flow.entry true false within)
  reached_is_marked b (by_edge a c r one) =
      let marked : at marks a ≡ true = reached_is_marked a r in
      let within : a < rules.blocks = subst (λ n. a < n) marks_long (marked_within marks a marked) in
      let few : unmarked started ≤ rules.blocks =
      subst (λ n. unmarked started ≤ n) started_length (few_unmarked started) in
      let settled = rounds_settle edges rules.blocks rules.blocks started few in
      subst (λ m. at m c ≡ true) settled
      (round_covers edges rules.blocks f.edges_below marks marks_long (up 0 rules.blocks) a c
      (one_of_up a 0 rules.blocks (omega arith) (omega (arith, within))) marked one)

  abbrev AllReached : List Bool → Type 0
  AllReached m = (b : ℕ) → at m b ≡ true → IsReached rules.flow b

  started_reached : AllReached started
  started_reached b h = ⊎_elim
      (λ same. subst (IsReached rules.flow) (sym same) at_entry)
      (λ other. absurd (false≢true (sym (none_marked rules.blocks b)
      ∙ sym (get_or-set_other (replicate rules.blocks false) rules.flow.entry b true false other) ∙ h)))
      (cases_eq b rules.flow.entry)

  from_reached : (m : List Bool) (b : ℕ) (t : Bool) → at m b ≡ t → AllReached m
      → AllReached (if t then marked_all m (edges b) else m)
  from_reached m b true is all c h = ⊎_elim (λ before. all c before) (λ one. by_edge b c (all b is) one)
      (marks_source m (edges b) c h)
  from_reached m b false is all c h = all c h

  round_reached : (m : List Bool) (bs : List ℕ) → AllReached m → AllReached (marked_round edges m bs)
  round_reached m [] all = all
  round_reached m (b ∷ bs) all = round_reached (marked_from edges m b) bs (from_reached m b (at m b) refl all)

  rounds_reached : (count n : ℕ) (m : List Bool) → AllReached m → AllReached (marked_rounds edges count n m)
  rounds_reached count zero m all = all
  rounds_reached count (suc n) m all = rounds_reached count n (marked_round edges m (up 0 count))
      (round_reached m (up 0 count) all)

  -- what is marked is reached
  pub marked_is_reached : (b : ℕ) → at marks b ≡ true → IsReached rules.flow b
  marked_is_reached = rounds_reached rules.blocks rules.blocks started started_reached

  -- the same of marks that are these
  pub reached_in : (m : List Bool) → m ≡ marks → (b : ℕ) → IsReached rules.flow b → at m b ≡ true
  reached_in m is b r = subst (λ k. at k b ≡ true) (sym is) (reached_is_marked b r)

  pub in_reached : (m : List Bool) → m ≡ marks → (b : ℕ) → at m b ≡ true → IsReached rules.flow b
  in_reached m is b h = marked_is_reached b (subst (λ k. at k b ≡ true) is h)
