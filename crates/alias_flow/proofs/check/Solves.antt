-- Entry states that pass the check solve the flow.
use Rattle.std.proofs.Common.{◌≡◌, ℕ, ◌+◌, ◌<◌, ◌≤◌, ◌≢◌, ◌⊎◌, ⊎_elim, inl, inr, Bool, true, false, nat_lt, ◌&&◌}
use Rattle.std.proofs.Common.{if◌then◌else◌, IsTrue, List, [], ◌∷◌, length, get_or, set, replicate, Option, Some, None}
use Rattle.std.proofs.Common.{Result, Ok, Err, zero, suc, refl, ap, sym, ◌∙◌, subst, arith}
use Rattle.std.proofs.lemmas.List.{get_or-set_same, get_or-set_other, length-set, length-replicate}
use Rattle.std.proofs.lemmas.Bool.{cases_eq, false≢true, lt-ltb}
use Rattle.std.specs.List.{AllByRecursion, list_all}
use Rattle.std.specs.Option.{is_some}
use Rattle.alias_base.specs.Answer.{◌>>=◌}
use Rattle.alias_lattice.specs.Laws.{LatticeLaws}
use Rattle.alias_lattice.specs.Flows.{Outcome, Stepped, Refused, IsOneOf, IsReached, at_entry, by_edge, IsSolution}
use Rattle.alias_lattice.specs.Flows.{AreJoins}
use Rattle.alias_flow.specs.Machine.{Rules, up, send_all, FlowLaws}
use Rattle.alias_flow.specs.Solutions.{entry_at, RecordsSteps, KeepsOthers, goes_forward, IsForward}
use Rattle.alias_flow.proofs.Order.{below_trans}
use Rattle.alias_flow.specs.check.Checks.{is_below_at, is_below_entry, first_not_above, is_joined, first_not_joined}
use Rattle.alias_flow.specs.check.Checks.{Arriving, passed, outcome_checked, state_checked, block_checked}
use Rattle.alias_flow.specs.check.Checks.{blocks_checked, joined_unless, joins_checked, begun_with, begins}
use Rattle.alias_flow.specs.check.Checks.{first_arriving, not_joined, solution_checked}
use Rattle.alias_flow.proofs.check.Arrivals.{Arrived, IsUnder, send_arrives, sends_arrive, send_least, sends_least}

abbrev pub IsOk : {A E : Type 0} → Result A E → A → Type 0
IsOk r x = r ≡ Ok x

not_error : {A E : Type 0} (e : E) (x : A) {B : Type 0} → IsOk (Err e) x → B
not_error e x h = cc

-- what comes after an answer
record After {A B E : Type 0} (r : Result A E) (f : A → Result B E) (z : B) : Type 0 where
  was : A
  first : r ≡ Ok was
  then_is : f was ≡ Ok z

after : {A B E : Type 0} (r : Result A E) (f : A → Result B E) (z : B) → (r >>= f) ≡ Ok z → After r f z
after (Ok x) f z h = record { was = x; first = refl; then_is = h }
after (Err e) f z h = not_error e z h

module _ {P : Type 0} (below : P → P → Bool) (entries : List (Option P)) where
  -- the block has an entry state that y is below
  abbrev pub Above : P → ℕ → Type 0
  Above y b = (s : P) × (entry_at entries b ≡ Some s) × IsTrue (below y s)

  above_at : (y : P) (b : ℕ) (o : Option P) → entry_at entries b ≡ o → is_below_at below y o ≡ true → Above y b
  above_at y b None is h = absurd (false≢true h)
  above_at y b (Some s) is h = (s, is, subst IsTrue (sym h) refl)

  above_first : (y : P) (e : ℕ) (es : List ℕ) (t : Bool) → is_below_entry below entries y e ≡ t
      → (if t then first_not_above below entries y es else Some e) ≡ None
      → (first_not_above below entries y es ≡ None → AllByRecursion (Above y) es) → AllByRecursion (Above y) (e ∷ es)
  above_first y e es true is h more = (above_at y e (entry_at entries e) refl is, more h)
  above_first y e es false is h more = cc

  all_above : (y : P) (es : List ℕ) → first_not_above below entries y es ≡ None → AllByRecursion (Above y) es
  all_above y [] h = tt
  all_above y (e ∷ es) h = above_first y e es (is_below_entry below entries y e) refl h (all_above y es)

  above_one : (y : P) (es : List ℕ) → AllByRecursion (Above y) es → (b : ℕ) → IsOneOf b es → Above y b
  above_one y [] a b one = absurd one
  above_one y (e ∷ es) a b (inl same) = subst (Above y) (sym same) a.0
  above_one y (e ∷ es) a b (inr one) = above_one y es a.1 b one

  joined_first : (xs : List (Option P)) (b : ℕ) (bs : List ℕ) (t : Bool)
      → is_joined below (entry_at entries b) (entry_at xs b) ≡ t
      → (if t then first_not_joined below entries xs bs else Some b) ≡ None
      → (is_joined below (entry_at entries b) (entry_at xs b) ≡ true) × (first_not_joined below entries xs bs ≡ None)
  joined_first xs b bs true is h = (is, h)
  joined_first xs b bs false is h = cc

  all_joined : (xs : List (Option P)) (i n : ℕ) → first_not_joined below entries xs (up i n) ≡ None → (b : ℕ) → i ≤ b
      → b < i + n → is_joined below (entry_at entries b) (entry_at xs b) ≡ true
  all_joined xs i zero h b le lt = let no : ⊥ = omega arith in absurd no
  all_joined xs i (suc n) h b le lt =
      let p = joined_first xs i (up (i + 1) n) (is_joined below (entry_at entries i) (entry_at xs i)) refl h in
      ⊎_elim
      (λ same. ap (λ k. is_joined below (entry_at entries k) (entry_at xs k)) same ∙ p.0)
      (λ other. all_joined xs (i + 1) n p.1 b (omega (arith, other)) (omega arith))
      (cases_eq b i)

  -- a state that is joined is below what has arrived
  below_arrived : (xs : List (Option P)) (b : ℕ) (s : P) (o a : Option P) → o ≡ Some s → entry_at xs b ≡ a
      → is_joined below o a ≡ true → (t : P) × (entry_at xs b ≡ Some t) × IsTrue (below s t)
  below_arrived xs b s None a o_is is h = cc
  below_arrived xs b s (Some r) None o_is is h = absurd (false≢true h)
  below_arrived xs b s (Some r) (Some t) o_is is h = let same : r ≡ s = cc in
      (t, is, subst (λ z. IsTrue (below z t)) same (subst IsTrue (sym h) refl))

none_at : {P : Type 0} (n b : ℕ) → entry_at {P = P} (replicate n None) b ≡ None
none_at zero b = refl
none_at (suc n) zero = refl
none_at (suc n) (suc b) = none_at n b

module _ {P T K C D : Type 0} {proper : P → Type 0} {join : P → P → P} {below : P → P → Bool} {extends : T → T → Type 0}
    {rules : Rules P T K C} {recorded₀ : List (Option K)}
    (l : LatticeLaws proper join below) (f : FlowLaws proper extends rules recorded₀) (differs : T → ℕ → K → Option D)
    (entries : List (Option P)) where
  -- the state, the tables and what is recorded once a block has stepped
  abbrev pub stepped_to : ℕ → P → T → K → Arriving P T K → Arriving P T K
  stepped_to b y t k w = record {
    progress = send_all join y w.progress (rules.flow.edges b);
    tables = t;
    recorded = set w.recorded b (Some k);
  }

  -- the block stepped from its entry state
  pub record HasStepped (b : ℕ) (w v : Arriving P T K) : Type 0 where
    pub state : P
    pub out : P
    pub tables : T
    pub gives : K
    pub is : entry_at entries b ≡ Some state
    pub step : rules.flow.step w.tables b state ≡ Stepped out tables gives
    pub above : AllByRecursion (Above below entries out) (rules.flow.edges b)
    pub leaves : stepped_to b out tables gives w ≡ v

  -- or it has none
  abbrev pub IsChecked : ℕ → Arriving P T K → Arriving P T K → Type 0
  IsChecked b w v = ((entry_at entries b ≡ None) × (w ≡ v)) ⊎ HasStepped b w v

  passed_is : (b : ℕ) (y : P) (t : T) (k : K) (w v : Arriving P T K) (d : Option D) (e : Option ℕ)
      → passed {C = C} join below rules differs entries b y t k w d e ≡ Ok v → (e ≡ None) × (stepped_to b y t k w ≡ v)
  passed_is b y t k w v (Some d) e h = not_error _ v h
  passed_is b y t k w v None (Some e) h = not_error _ v h
  passed_is b y t k w v None None h = (refl, cc)

  outcome_is : (b : ℕ) (w v : Arriving P T K) (s : P) → entry_at entries b ≡ Some s → (o : Outcome P T K C)
      → rules.flow.step w.tables b s ≡ o → outcome_checked join below rules differs entries b w o ≡ Ok v
      → HasStepped b w v
  outcome_is b w v s is (Refused c) step h = not_error _ v h
  outcome_is b w v s is (Stepped y t k) step h =
      let p = passed_is b y t k w v (differs t b k) (first_not_above below entries y (rules.flow.edges b)) h in
      record {
        state = s;
        out = y;
        tables = t;
        gives = k;
        is = is;
        step = step;
        above = all_above below entries y (rules.flow.edges b) p.0;
        leaves = p.1;
      }

  state_is : (b : ℕ) (w v : Arriving P T K) (o : Option P) → entry_at entries b ≡ o
      → state_checked join below rules differs entries b w o ≡ Ok v → IsChecked b w v
  state_is b w v None is h = inl (is, cc)
  state_is b w v (Some s) is h = inr (outcome_is b w v s is (rules.flow.step w.tables b s) refl h)

  -- the block steps from its entry state under the tables, which it leaves, and to a state below that of each successor
  pub record Settles (v : Arriving P T K) (b : ℕ) (s : P) : Type 0 where
    pub out : P
    pub gives : K
    pub step : rules.flow.step v.tables b s ≡ Stepped out v.tables gives
    pub kept : get_or v.recorded b None ≡ Some gives
    pub above : AllByRecursion (Above below entries out) (rules.flow.edges b)

  -- what a block with an edge to q steps to is below u
  abbrev pub StepsUnder : T → ℕ → P → Type 0
  StepsUnder t q u = (b : ℕ) (x y : P) (k : K) → entry_at entries b ≡ Some x → rules.flow.step t b x ≡ Stepped y t k
      → IsOneOf q (rules.flow.edges b) → IsTrue (below y u)

  -- what the checks of the blocks from i on, n of them, come to
  pub record AreChecked (i n : ℕ) (w v : Arriving P T K) : Type 0 where
    pub grows : extends w.tables v.tables
    pub long : length v.recorded ≡ length w.recorded
    pub settle : (b : ℕ) (s : P) → i ≤ b → b < i + n → entry_at entries b ≡ Some s → Settles v b s
    pub earlier : (b : ℕ) → b < i → get_or v.recorded b None ≡ get_or w.recorded b None
    pub others : (b : ℕ) → entry_at entries b ≡ None → get_or v.recorded b None ≡ get_or w.recorded b None
    pub arrives : Arrived l rules.blocks w.progress → Arrived l rules.blocks v.progress
    pub least : Arrived l rules.blocks w.progress → (q : ℕ) (u : P) → proper u → StepsUnder v.tables q u
        → IsUnder l w.progress q u → IsUnder l v.progress q u

  module _ (known : (b : ℕ) (s : P) → entry_at entries b ≡ Some s → proper s) where
    none_left : (i : ℕ) (w : Arriving P T K) → AreChecked i 0 w w
    none_left i w = record {
      grows = f.reflexive w.tables;
      long = refl;
      settle = λ b s le lt is. let no : ⊥ = omega arith in absurd no;
      earlier = λ b lt. refl;
      others = λ b is. refl;
      arrives = λ a. a;
      least = λ a q u p under old. old;
    }

    -- a block without an entry state, before the others
    none_first : (i n : ℕ) (w v : Arriving P T K) → entry_at entries i ≡ None → AreChecked (i + 1) n w v
        → AreChecked i (suc n) w v
    none_first i n w v none c = record {
      grows = c.grows;
      long = c.long;
      settle = λ b s le lt is. ⊎_elim
          (λ same. let two : None ≡ Some s = sym none ∙ ap (entry_at entries) (sym same) ∙ is in cc)
          (λ other. c.settle b s (omega (arith, other)) (omega arith) is)
          (cases_eq b i);
      earlier = λ b lt. c.earlier b (omega arith);
      others = c.others;
      arrives = c.arrives;
      least = c.least;
    }

    -- a block that stepped, before the others
    module _ (i n : ℕ) (within : i < rules.blocks) (w v : Arriving P T K) (long : length w.recorded ≡ rules.blocks)
        (s y : P) (t : T) (k : K) (is : entry_at entries i ≡ Some s)
        (step : rules.flow.step w.tables i s ≡ Stepped y t k)
        (above : AllByRecursion (Above below entries y) (rules.flow.edges i))
        (c : AreChecked (i + 1) n (stepped_to i y t k w) v) where
      again : rules.flow.step v.tables i s ≡ Stepped y v.tables k
      again = f.replay w.tables i s y t v.tables k step c.grows

      kept_here : get_or v.recorded i None ≡ Some k
      kept_here = let there : i < length w.recorded = omega arith in c.earlier i (omega arith)
          ∙ get_or-set_same w.recorded i (Some k) None there

      out_proper : proper y
      out_proper = f.step_proper w.tables i s y t k (known i s is) step

      stepped_first : AreChecked i (suc n) w v
      stepped_first = record {
        grows = f.transitive w.tables t v.tables (f.grow w.tables i s y t k step) c.grows;
        long = c.long ∙ length-set w.recorded i (Some k);
        settle = λ b r le lt b_is. ⊎_elim
            (λ same.
            let one : s ≡ r = let two : Some s ≡ Some r = sym is ∙ ap (entry_at entries) (sym same) ∙ b_is in cc in
            let here : Settles v i s = record { out = y; gives = k; step = again; kept = kept_here; above = above } in
            subst (λ m. Settles v m r) (sym same) (subst (Settles v i) one here))
            (λ other. c.settle b r (omega (arith, other)) (omega arith) b_is)
            (cases_eq b i);
        earlier = λ b lt. let apart : b ≢ i = omega arith in c.earlier b (omega arith)
            ∙ get_or-set_other w.recorded i b (Some k) None apart;
        others = λ b none. ⊎_elim
            (λ same. let two : Some s ≡ None = sym is ∙ ap (entry_at entries) (sym same) ∙ none in cc)
            (λ other. c.others b none ∙ get_or-set_other w.recorded i b (Some k) None other)
            (cases_eq b i);
        arrives = λ a. c.arrives (sends_arrive l y w.progress (rules.flow.edges i) rules.blocks out_proper a
            (f.edges_below i within));
        least = λ a q u p under old.
            c.least (sends_arrive l y w.progress (rules.flow.edges i) rules.blocks out_proper a
            (f.edges_below i within)) q u p under
            (sends_least l y w.progress (rules.flow.edges i) rules.blocks out_proper a (f.edges_below i within) q u p
            old (λ one. under i s y k is again one));
      }

    one_first : (i n : ℕ) → i < rules.blocks → (w a v : Arriving P T K) → length w.recorded ≡ rules.blocks
        → IsChecked i w a → (length a.recorded ≡ rules.blocks → AreChecked (i + 1) n a v) → AreChecked i (suc n) w v
    one_first i n within w a v long (inl none) rest =
        none_first i n w v none.0 (subst (λ z. AreChecked (i + 1) n z v) (sym none.1)
        (rest (subst (λ (z : Arriving P T K). length z.recorded ≡ rules.blocks) none.1 long)))
    one_first i n within w a v long (inr h) rest =
        stepped_first i n within w v long h.state h.out h.tables h.gives h.is h.step h.above
        (subst (λ z. AreChecked (i + 1) n z v) (sym h.leaves)
        (rest (subst (λ (z : Arriving P T K). length z.recorded ≡ rules.blocks) h.leaves
        (length-set w.recorded i (Some h.gives) ∙ long))))

    pub are_checked : (i n : ℕ) → i + n ≡ rules.blocks → (w v : Arriving P T K) → length w.recorded ≡ rules.blocks
        → blocks_checked {C = C} join below rules differs entries (up i n) w ≡ Ok v → AreChecked i n w v
    are_checked i zero all w v long h = let same : w ≡ v = cc in subst (AreChecked i 0 w) same (none_left i w)
    are_checked i (suc n) all w v long h =
        let a = after (block_checked join below rules differs entries i w)
        (blocks_checked join below rules differs entries (up (i + 1) n)) v h in
        one_first i n (omega arith) w a.was v long (state_is i w a.was (entry_at entries i) refl a.first)
        (λ more. are_checked (i + 1) n (omega arith) a.was v more a.then_is)

    -- ---- the whole check

    module _ (count : length entries ≡ rules.blocks)
        (only_reached : (b : ℕ) (s : P) → entry_at entries b ≡ Some s → IsReached rules.flow b) (tables : T)
        (initial : Above below entries rules.flow.initial rules.flow.entry) (v : Arriving P T K)
        (c : AreChecked 0 rules.blocks (record
        { progress = first_arriving join below rules entries; tables = tables; recorded = recorded₀ }) v) where
      within_entries : (xs : List (Option P)) (b : ℕ) (s : P) → entry_at xs b ≡ Some s → b < length xs
      within_entries [] b s h = cc
      within_entries (x ∷ xs) zero s h = omega arith
      within_entries (x ∷ xs) (suc b) s h = let r : b < length xs = within_entries xs b s h in omega arith

      settles_at : (b : ℕ) (s : P) → entry_at entries b ≡ Some s → Settles v b s
      settles_at b s is = let within : b < length entries = within_entries entries b s is in
          c.settle b s (omega arith) (omega (arith, within, count)) is

      all_reached : (b : ℕ) → IsReached rules.flow b → (s : P) × (entry_at entries b ≡ Some s)
      all_reached b at_entry = (initial.0, initial.1)
      all_reached b (by_edge a e r one) =
          let h = all_reached a r in
          let z = settles_at a h.0 h.1 in
          let u = above_one below entries z.out (rules.flow.edges a) z.above e one in
          (u.0, u.1)

      pub solution : IsSolution below rules.flow v.tables (entry_at entries)
      solution = record {
        reached = λ b r. let h = all_reached b r in ap is_some h.1;
        only_reached = only_reached;
        initial = initial;
        steps = λ b s is. let z = settles_at b s is in (z.out, z.gives, z.step, z.above);
      }

      pub keeps : RecordsSteps rules.flow v.tables (entry_at entries) v.recorded
      keeps = λ b s is. let z = settles_at b s is in (z.out, z.gives, z.step, z.kept)

      pub keeps_others : KeepsOthers (entry_at entries) recorded₀ v.recorded
      keeps_others = λ b none. c.others b none

      started : Arrived l rules.blocks (first_arriving join below rules entries)
      started = send_arrives l rules.flow.initial (replicate rules.blocks None) rules.flow.entry rules.blocks
          f.initial_proper (record {
            long = length-replicate rules.blocks None;
            proper_at = λ q s is. let none : entry_at (replicate rules.blocks None) q ≡ None = none_at rules.blocks q in
                let two : None ≡ Some s = sym none ∙ is in cc;
          }) f.entry_below

      pub joins : ((b : ℕ) → b < rules.blocks → is_joined below (entry_at entries b) (entry_at v.progress b) ≡ true)
          → AreJoins below rules.flow proper v.tables (entry_at entries)
      joins joined b s is =
          let within : b < length entries = within_entries entries b s is in
          let t = below_arrived below entries v.progress b s (entry_at entries b) (entry_at v.progress b) is refl
          (joined b (omega (arith, within, count))) in
          record {
            above = record {
              initial = λ same. let one : initial.0 ≡ s = let two : Some initial.0 ≡ Some s = sym initial.1
                  ∙ ap (entry_at entries) (sym same) ∙ is in cc in
                  subst (λ z. IsTrue (below rules.flow.initial z)) one initial.2;
              stepped = λ d x y k d_is step one.
                  let z = settles_at d x d_is in
                  let out_is : z.out ≡ y = let two : Stepped z.out v.tables z.gives ≡ Stepped y v.tables k = sym z.step
                  ∙ step in cc in
                  let a = above_one below entries z.out (rules.flow.edges d) z.above b one in
                  let state_is : a.0 ≡ s = let two : Some a.0 ≡ Some s = sym a.1 ∙ is in cc in
                  subst (λ z. IsTrue (below y z)) state_is (subst (λ o. IsTrue (below o a.0)) out_is a.2);
            };
            least = λ u p under.
                let arrived = c.arrives started in
                let first : IsUnder l (first_arriving join below rules entries) b u =
                send_least l rules.flow.initial (replicate rules.blocks None) rules.flow.entry rules.blocks
                f.initial_proper (record {
                  long = length-replicate rules.blocks None;
                  proper_at = λ q s is. let none : entry_at (replicate rules.blocks None) q ≡ None =
                      none_at rules.blocks q in let two : None ≡ Some s = sym none ∙ is in cc;
                }) f.entry_below b u p (λ r r_is. let none : entry_at (replicate rules.blocks None) b ≡ None =
                none_at rules.blocks b in let two : None ≡ Some r = sym none ∙ r_is in cc) under.initial in
                let last = c.least started b u p (λ d x y k d_is step one. under.stepped d x y k d_is step one) first
                t.0 t.1 in
                below_trans l s t.0 u (known b s is) (arrived.proper_at b t.0 t.1) p t.2 last;
          }

    -- what a check that comes to an answer went through
    pub record Passed (tables : T) (v : Arriving P T K) : Type 0 where
      pub initial : Above below entries rules.flow.initial rules.flow.entry
      pub blocks : AreChecked 0 rules.blocks
          (record { progress = first_arriving join below rules entries; tables = tables; recorded = recorded₀ }) v
      pub joined : not_joined below rules entries v.progress ≡ None

    begun_is : (tables : T) (w : Arriving P T K) (t : Bool)
        → is_below_entry below entries rules.flow.initial rules.flow.entry ≡ t
        → begun_with {C = C} join below rules differs entries tables recorded₀
        (if t then Some (first_arriving join below rules entries) else None) ≡ Ok w
        → (is_below_entry below entries rules.flow.initial rules.flow.entry ≡ true)
        × (record { progress = first_arriving join below rules entries; tables = tables; recorded = recorded₀ } ≡ w)
    begun_is tables w true is h = (is, cc)
    begun_is tables w false is h = not_error _ w h

    joined_is : (a v : Arriving P T K) (o : Option ℕ) → not_joined below rules entries a.progress ≡ o
        → joined_unless {C = C} join below rules differs entries a o ≡ Ok v
        → (not_joined below rules entries a.progress ≡ None) × (a ≡ v)
    joined_is a v None is h = (is, cc)
    joined_is a v (Some b) is h = not_error _ v h

    pub passed_check : (tables : T) (v : Arriving P T K)
        → solution_checked {C = C} join below rules differs entries tables recorded₀ ≡ Ok v → Passed tables v
    passed_check tables v h =
        let a = after (begun_with {C = C} join below rules differs entries tables recorded₀
        (begins join below rules entries)) (λ w.
        blocks_checked join below rules differs entries (up 0 rules.blocks) w
        >>= joins_checked join below rules differs entries) v h in
        let begun = begun_is tables a.was (is_below_entry below entries rules.flow.initial rules.flow.entry) refl
        a.first in
        let b = after (blocks_checked {C = C} join below rules differs entries (up 0 rules.blocks) a.was)
        (joins_checked join below rules differs entries) v a.then_is in
        let joined = joined_is b.was v (not_joined below rules entries b.was.progress) refl b.then_is in
        let w : Arriving P T K = record {
          progress = first_arriving join below rules entries;
          tables = tables;
          recorded = recorded₀;
        } in
        let long : length w.recorded ≡ rules.blocks = f.recorded_length in
        let run : blocks_checked {C = C} join below rules differs entries (up 0 rules.blocks) w ≡ Ok b.was =
        ap (blocks_checked join below rules differs entries (up 0 rules.blocks)) begun.1 ∙ b.first in
        record {
          initial = above_at below entries rules.flow.initial rules.flow.entry (entry_at entries rules.flow.entry) refl
              begun.0;
          blocks = subst (AreChecked 0 rules.blocks w) joined.1
              (are_checked 0 rules.blocks (omega arith) w b.was long run);
          joined = subst (λ (z : Arriving P T K). not_joined below rules entries z.progress ≡ None) joined.1 joined.0;
        }

    -- where all edges go forward, each entry state is below what has arrived
    all_below : (v : Arriving P T K) → goes_forward rules ≡ true → not_joined below rules entries v.progress ≡ None
        → (b : ℕ) → b < rules.blocks → is_joined below (entry_at entries b) (entry_at v.progress b) ≡ true
    all_below v forward h b lt =
        let none : first_not_joined below entries v.progress (up 0 rules.blocks) ≡ None =
        ap (λ t. if t then first_not_joined below entries v.progress (up 0 rules.blocks) else None) (sym forward)
        ∙ h in
        all_joined below entries v.progress 0 rules.blocks none b (omega arith) (omega (arith, lt))

-- ---- edges that go forward pass the test

later_all : (b : ℕ) (es : List ℕ) → AllByRecursion (λ e. b < e) es → list_all (λ e. nat_lt b e) es ≡ true
later_all b [] h = refl
later_all b (e ∷ es) h = ap (λ t. t && list_all (λ e. nat_lt b e) es) (lt-ltb b e h.0) ∙ later_all b es h.1

up_all : (test : ℕ → Bool) (i n : ℕ) → ((b : ℕ) → i ≤ b → b < i + n → test b ≡ true) → list_all test (up i n) ≡ true
up_all test i zero h = refl
up_all test i (suc n) h = ap (λ t. t && list_all test (up (i + 1) n)) (h i (omega arith) (omega arith))
    ∙ up_all test (i + 1) n (λ b le lt. h b (omega arith) (omega arith))

pub is_forward : {P T K C : Type 0} (rules : Rules P T K C) → IsForward rules → goes_forward rules ≡ true
is_forward rules h = up_all (λ b. list_all (λ e. nat_lt b e) (rules.flow.edges b)) 0 rules.blocks
    (λ b le lt. later_all b (rules.flow.edges b) (h b (omega arith)))

-- ---- what a check that passes says

module _ {P T K C D : Type 0} {proper : P → Type 0} {join : P → P → P} {below : P → P → Bool} {extends : T → T → Type 0}
    {rules : Rules P T K C} {recorded₀ : List (Option K)}
    (l : LatticeLaws proper join below) (f : FlowLaws proper extends rules recorded₀) (differs : T → ℕ → K → Option D)
    (entries : List (Option P))
    (known : (b : ℕ) (s : P) → entry_at entries b ≡ Some s → proper s) (count : length entries ≡ rules.blocks)
    (only_reached : (b : ℕ) (s : P) → entry_at entries b ≡ Some s → IsReached rules.flow b)
    (tables : T) (v : Arriving P T K) (h : solution_checked {C = C} join below rules differs entries tables recorded₀
    ≡ Ok v) where
  passed_all : Passed l f differs entries known tables v
  passed_all = passed_check l f differs entries known tables v h

  pub check_solves : IsSolution below rules.flow v.tables (entry_at entries)
  check_solves = solution l f differs entries known count only_reached tables passed_all.initial v passed_all.blocks

  pub check_keeps : RecordsSteps rules.flow v.tables (entry_at entries) v.recorded
  check_keeps = keeps l f differs entries known count only_reached tables passed_all.initial v passed_all.blocks

  pub check_keeps_others : KeepsOthers (entry_at entries) recorded₀ v.recorded
  check_keeps_others = keeps_others l f differs entries known count only_reached tables passed_all.initial v
      passed_all.blocks

  pub check_keeps_count : length v.recorded ≡ rules.blocks
  check_keeps_count = passed_all.blocks.long ∙ f.recorded_length

  pub check_joins : IsForward rules → AreJoins below rules.flow proper v.tables (entry_at entries)
  check_joins forward =
      joins l f differs entries known count only_reached tables passed_all.initial v passed_all.blocks
      (all_below l f differs entries known v (is_forward rules forward) passed_all.joined)
