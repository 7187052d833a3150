-- The check of a flow accepts entry states that solve it.
use Rattle.std.proofs.Common.{◌≡◌, ℕ, ◌+◌, ◌<◌, ◌≤◌, ⊎_elim, Bool, true, false, if◌then◌else◌, IsTrue, List, [], ◌∷◌}
use Rattle.std.proofs.Common.{length, replicate, set, Option, Some, None, Result, Ok, zero, suc, refl, ap, sym, ◌∙◌}
use Rattle.std.proofs.Common.{subst, arith}
use Rattle.std.proofs.lemmas.List.{length-replicate}
use Rattle.std.proofs.lemmas.Bool.{cases_eq}
use Rattle.std.specs.List.{AllByRecursion}
use Rattle.alias_base.specs.Answer.{◌>>=◌}
use Rattle.alias_lattice.specs.Laws.{LatticeLaws}
use Rattle.alias_lattice.specs.Flows.{Stepped, IsOneOf, IsReached, at_entry, by_edge}
use Rattle.alias_flow.specs.Machine.{Rules, up, send_all, FlowLaws}
use Rattle.alias_flow.specs.Solutions.{entry_at, goes_forward}
use Rattle.alias_flow.specs.check.Checks.{is_below_at, is_below_entry, first_not_above, is_joined, first_not_joined}
use Rattle.alias_flow.specs.check.Checks.{Arriving, passed, outcome_checked, state_checked, block_checked}
use Rattle.alias_flow.specs.check.Checks.{blocks_checked, joined_unless, joins_checked, begun_with, begins}
use Rattle.alias_flow.specs.check.Checks.{first_arriving, solution_checked}
use Rattle.alias_flow.specs.declared.check.fault.Unsolved.{Unsolved}
use Rattle.alias_flow.proofs.check.Arrivals.{Arrived, send_arrives, sends_arrive}
use Rattle.alias_certificate_laws.specs.accepting.Passing.{IsBelowAt, AreSolved, Passes, goes, excused, Accepts}
use Rattle.alias_certificate_laws.specs.accepting.Passing.{accepted, refused}
use Rattle.alias_certificate_laws.proofs.accepting.Sending.{IsOver, sends_keep, sends_over, starts_over}

none_at : {P : Type 0} (n b : ℕ) → entry_at {P = P} (replicate n None) b ≡ None
none_at zero b = refl
none_at (suc n) zero = refl
none_at (suc n) (suc b) = none_at n b

within : {P : Type 0} (xs : List (Option P)) (b : ℕ) (s : P) → entry_at xs b ≡ Some s → b < length xs
within [] b s h = cc
within (x ∷ xs) zero s h = omega arith
within (x ∷ xs) (suc b) s h = let r : b < length xs = within xs b s h in omega arith

-- what comes next is accepted too
next_accepted : {P T K C D : Type 0} {is_excused : C → Type 0} (first next : Arriving P T K → Type 0)
    (r : Result (Arriving P T K) (Unsolved C D)) (f : Arriving P T K → Result (Arriving P T K) (Unsolved C D))
    → Accepts is_excused first r → ((w : Arriving P T K) → first w → Accepts is_excused next (f w))
    → Accepts is_excused next (r >>= f)
next_accepted {is_excused = is_excused} first next r f (accepted w is h) more =
    subst (λ z. Accepts is_excused next (z >>= f)) (sym is) (more w h)
next_accepted first next r f (refused b c is h) more = refused b c (ap (λ z. z >>= f) is) h

module _ {P : Type 0} (below : P → P → Bool) (entries : List (Option P)) where
  below_at : (y s : P) (b : ℕ) → entry_at entries b ≡ Some s → IsTrue (below y s) → is_below_entry below entries y b
      ≡ true
  below_at y s b is h = ap (is_below_at below y) is ∙ h

  none_above : (y : P) (es : List ℕ) → AllByRecursion (IsBelowAt below entries y) es
      → first_not_above below entries y es ≡ None
  none_above y [] h = refl
  none_above y (e ∷ es) h =
      ap (λ t. if t then first_not_above below entries y es else Some e) (below_at y h.0.0 e h.0.1 h.0.2)
      ∙ none_above y es h.1

  none_joined : (xs : List (Option P)) (i n : ℕ)
      → ((b : ℕ) → is_joined below (entry_at entries b) (entry_at xs b) ≡ true)
      → first_not_joined below entries xs (up i n) ≡ None
  none_joined xs i zero h = refl
  none_joined xs i (suc n) h = ap (λ t. if t then first_not_joined below entries xs (up (i + 1) n) else Some i) (h i)
      ∙ none_joined xs (i + 1) n h

module _ {P T K C D : Type 0} {proper : P → Type 0} {join : P → P → P} {below : P → P → Bool} {extends : T → T → Type 0}
    {rules : Rules P T K C} {recorded₀ : List (Option K)}
    (l : LatticeLaws proper join below) (f : FlowLaws proper extends rules recorded₀) (differs : T → ℕ → K → Option D)
    (entries : List (Option P)) (gives : ℕ → P → P → Type 0)
    (is_alike : T → Type 0) (is_excused : C → Type 0) (solved : AreSolved proper below rules entries gives)
    (known : (b : ℕ) (s : P) → entry_at entries b ≡ Some s → proper s)
    (count : length entries ≡ rules.blocks)
    (passes : (t : T) (b : ℕ) (s y : P) → is_alike t → entry_at entries b ≡ Some s → gives b s y
    → Passes rules differs is_alike is_excused t b s y) where
  -- the tables are alike, and so many proper states have arrived
  record Goes (w : Arriving P T K) : Type 0 where
    alike : is_alike w.tables
    arrived : Arrived l rules.blocks w.progress

  -- what was below what has arrived stays so, and what the blocks from i on, n of them, step to is
  record Sends (i n : ℕ) (w v : Arriving P T K) : Type 0 where
    goes_on : Goes v
    keeps : (q : ℕ) (u : P) → proper u → IsOver l w.progress q u → IsOver l v.progress q u
    sends : (b : ℕ) (s : P) → i ≤ b → b < i + n → entry_at entries b ≡ Some s → (y : P) × gives b s y × proper y
        × ((q : ℕ) → IsOneOf q (rules.flow.edges b) → IsOver l v.progress q y)

  abbrev stepped_to : ℕ → P → T → K → Arriving P T K → Arriving P T K
  stepped_to b y t k w = record {
    progress = send_all join y w.progress (rules.flow.edges b);
    tables = t;
    recorded = set w.recorded b (Some k);
  }

  sends_none : (i : ℕ) (w : Arriving P T K) → Goes w → Sends i 0 w w
  sends_none i w g = record {
    goes_on = g;
    keeps = λ q u p o. o;
    sends = λ b s le lt is. let no : ⊥ = omega arith in absurd no;
  }

  -- a block without an entry state
  sends_nothing : (i : ℕ) (w : Arriving P T K) → Goes w → entry_at entries i ≡ None → Sends i 1 w w
  sends_nothing i w g none = record {
    goes_on = g;
    keeps = λ q u p o. o;
    sends = λ b s le lt is. let same : b ≡ i = omega arith in let two : None ≡ Some s = sym none
        ∙ ap (entry_at entries) (sym same) ∙ is in cc;
  }

  sends_both : (i n : ℕ) (w v z : Arriving P T K) → Sends i 1 w v → Sends (i + 1) n v z → Sends i (suc n) w z
  sends_both i n w v z a b = record {
    goes_on = b.goes_on;
    keeps = λ q u p o. b.keeps q u p (a.keeps q u p o);
    sends = λ c s le lt is. ⊎_elim
        (λ same. let one = a.sends c s le (omega arith) is in
        (one.0, one.1, one.2, λ q at. b.keeps q one.0 one.2 (one.3 q at)))
        (λ other. b.sends c s (omega (arith, other)) (omega arith) is)
        (cases_eq c i);
  }

  module _ (i : ℕ) (lt : i < rules.blocks) (w : Arriving P T K) (g : Goes w) where
    -- a block that steps
    module _ (s y : P) (is : entry_at entries i ≡ Some s) (given : gives i s y)
        (above : AllByRecursion (IsBelowAt below entries y) (rules.flow.edges i)) where
      sends_one : (u : T) (k : K) → rules.flow.step w.tables i s ≡ Stepped y u k → is_alike u
          → Sends i 1 w (stepped_to i y u k w)
      sends_one u k step like =
          let p : proper y = f.step_proper w.tables i s y u k (known i s is) step in
          let edges = f.edges_below i lt in
          record {
            goes_on = record {
              alike = like;
              arrived =
                  sends_arrive l y w.progress (rules.flow.edges i) rules.blocks p g.arrived edges;
            };
            keeps = λ q z pz o. sends_keep l y w.progress (rules.flow.edges i) rules.blocks p g.arrived edges q z pz o;
            sends = λ b r le less b_is.
                let same : b ≡ i = omega arith in
                let two : Some s ≡ Some r = sym is ∙ ap (entry_at entries) (sym same) ∙ b_is in
                let one : s ≡ r = cc in (
                  y,
                  subst (λ m. gives m r y) (sym same) (subst (λ z. gives i z y) one given),
                  p,
                  λ q at. sends_over l y w.progress (rules.flow.edges i) rules.blocks p g.arrived edges q
                      (subst (λ m. IsOneOf q (rules.flow.edges m)) same at),
                );
          }

      outcome_accepted : Passes rules differs is_alike is_excused w.tables i s y
          → Accepts {D = D} is_excused (Sends i 1 w)
          (outcome_checked join below rules differs entries i w (rules.flow.step w.tables i s))
      outcome_accepted (goes u k step like claimed) =
          accepted (stepped_to i y u k w)
          (ap (outcome_checked join below rules differs entries i w) step
          ∙ ap (λ d. passed join below rules differs entries i y u k w d
          (first_not_above below entries y (rules.flow.edges i))) claimed
          ∙ ap (passed join below rules differs entries i y u k w None)
          (none_above below entries y (rules.flow.edges i) above))
          (sends_one u k step like)
      outcome_accepted (excused c step why) =
          refused i c (ap (outcome_checked join below rules differs entries i w) step) why

    state_accepted : (o : Option P) → entry_at entries i ≡ o
        → Accepts {D = D} is_excused (Sends i 1 w) (state_checked join below rules differs entries i w o)
    state_accepted None is = accepted w refl (sends_nothing i w g is)
    state_accepted (Some s) is = let z = solved.steps i s is in
        outcome_accepted s z.0 is z.1 z.2 (passes w.tables i s z.0 g.alike is z.1)

    block_accepted : Accepts {D = D} is_excused (Sends i 1 w) (block_checked join below rules differs entries i w)
    block_accepted = state_accepted (entry_at entries i) refl

  more_accepted : (i n : ℕ) (w v : Arriving P T K) → Sends i 1 w v → (r : Result (Arriving P T K) (Unsolved C D))
      → Accepts is_excused (Sends (i + 1) n v) r → Accepts is_excused (Sends i (suc n) w) r
  more_accepted i n w v a r (accepted z is b) = accepted z is (sends_both i n w v z a b)
  more_accepted i n w v a r (refused b c is why) = refused b c is why

  blocks_accepted : (i n : ℕ) → i + n ≡ rules.blocks → (w : Arriving P T K) → Goes w
      → Accepts {D = D} is_excused (Sends i n w) (blocks_checked join below rules differs entries (up i n) w)
  blocks_accepted i zero all w g = accepted w refl (sends_none i w g)
  blocks_accepted i (suc n) all w g =
      next_accepted (Sends i 1 w) (Sends i (suc n) w) (block_checked join below rules differs entries i w)
      (blocks_checked join below rules differs entries (up (i + 1) n)) (block_accepted i (omega arith) w g)
      (λ v a. more_accepted i n w v a (blocks_checked join below rules differs entries (up (i + 1) n) v)
      (blocks_accepted (i + 1) n (omega arith) v a.goes_on))

  -- ---- the joins

  abbrev start : T → Arriving P T K
  start tables = record { progress = first_arriving join below rules entries; tables = tables; recorded = recorded₀ }

  nothing_arrived : Arrived l rules.blocks (replicate rules.blocks None)
  nothing_arrived = record {
    long = length-replicate rules.blocks None;
    proper_at = λ q s is. let none : entry_at (replicate rules.blocks None) q ≡ None = none_at rules.blocks q in
        let two : None ≡ Some s = sym none ∙ is in cc;
  }

  starts : (tables : T) → is_alike tables → Goes (start tables)
  starts tables like = record {
    alike = like;
    arrived = send_arrives l rules.flow.initial (replicate rules.blocks None) rules.flow.entry rules.blocks
        f.initial_proper nothing_arrived f.entry_below;
  }

  module _ (tables : T) (v : Arriving P T K) (a : Sends 0 rules.blocks (start tables) v) where
    first_over : IsOver l v.progress rules.flow.entry rules.flow.initial
    first_over = a.keeps rules.flow.entry rules.flow.initial f.initial_proper
        (starts_over l rules.flow.initial (replicate rules.blocks None) rules.flow.entry rules.blocks f.initial_proper
        nothing_arrived f.entry_below)

    sent_from : (c : ℕ) (x : P) → entry_at entries c ≡ Some x → (y : P) × gives c x y × proper y
        × ((q : ℕ) → IsOneOf q (rules.flow.edges c) → IsOver l v.progress q y)
    sent_from c x is = let lt : c < length entries = within entries c x is in
        a.sends c x (omega arith) (omega (arith, lt, count)) is

    -- something has arrived at each reached block
    arrived_at : (b : ℕ) → IsReached rules.flow b → (t : P) × (entry_at v.progress b ≡ Some t)
    arrived_at b at_entry = (first_over.state, first_over.is)
    arrived_at b (by_edge c e r one) =
        let s = solved.reached c r in
        let y = sent_from c s.0 s.1 in
        let o = y.3 e one in
        (o.state, o.is)

    module _ (single : (c : ℕ) (x y z : P) → gives c x y → gives c x z → y ≡ z) where
      over_is : (q : ℕ) (u t : P) → IsOver l v.progress q u → entry_at v.progress q ≡ Some t → IsTrue (below u t)
      over_is q u t o is = let two : Some o.state ≡ Some t = sym o.is ∙ is in let same : o.state ≡ t = cc in
          subst (λ z. IsTrue (below u z)) same o.above

      joined_at : goes_forward rules ≡ true → (b : ℕ) (o : Option P) → entry_at entries b ≡ o
          → is_joined below o (entry_at v.progress b) ≡ true
      joined_at forward b None is = refl
      joined_at forward b (Some s) is =
          let t = arrived_at b (solved.only_reached b s is) in
          ap (is_joined below (Some s)) t.1
          ∙ solved.joins forward b s t.0 is (a.goes_on.arrived.proper_at b t.0 t.1)
          (λ same. over_is b rules.flow.initial t.0
          (subst (λ q. IsOver l v.progress q rules.flow.initial) (sym same) first_over) t.1)
          (λ c x y c_is given one.
          let z = sent_from c x c_is in
          subst (λ u. IsTrue (below u t.0)) (single c x z.0 y z.1 given) (over_is b z.0 t.0 (z.3 b one) t.1))

      none_unjoined : (b : Bool) → goes_forward rules ≡ b
          → (if b then first_not_joined below entries v.progress (up 0 rules.blocks) else None) ≡ None
      none_unjoined false is = refl
      none_unjoined true is = none_joined below entries v.progress 0 rules.blocks
          (λ b. joined_at is b (entry_at entries b) refl)

      joins_accepted : Accepts {D = D} is_excused (λ w. is_alike w.tables)
          (joins_checked join below rules differs entries v)
      joins_accepted = accepted v (ap (joined_unless join below rules differs entries v)
          (none_unjoined (goes_forward rules) refl)) a.goes_on.alike

  -- ---- the whole check

  begun : (tables : T) → begun_with {C = C} join below rules differs entries tables recorded₀
      (begins join below rules entries) ≡ Ok (start tables)
  begun tables =
      ap (λ t. begun_with {C = C} join below rules differs entries tables recorded₀
      (if t then Some (first_arriving join below rules entries) else None))
      (below_at below entries rules.flow.initial solved.initial.0 rules.flow.entry solved.initial.1 solved.initial.2)

  -- the check accepts the entry states, or a step is refused for an excused cause
  pub check_accepts : ((c : ℕ) (x y z : P) → gives c x y → gives c x z → y ≡ z) → (tables : T) → is_alike tables
      → Accepts {D = D} is_excused (λ w. is_alike w.tables)
      (solution_checked join below rules differs entries tables recorded₀)
  check_accepts single tables like =
      let more : Arriving P T K → Result (Arriving P T K) (Unsolved C D) =
      λ w. blocks_checked join below rules differs entries (up 0 rules.blocks) w
      >>= joins_checked join below rules differs entries in
      subst (Accepts {D = D} is_excused (λ w. is_alike w.tables)) (sym (ap (λ r. r >>= more) (begun tables)))
      (next_accepted (Sends 0 rules.blocks (start tables)) (λ w. is_alike w.tables)
      (blocks_checked join below rules differs entries (up 0 rules.blocks) (start tables))
      (joins_checked join below rules differs entries)
      (blocks_accepted 0 rules.blocks (omega arith) (start tables) (starts tables like))
      (λ v a. joins_accepted tables v a single))
