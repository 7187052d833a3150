-- A function whose instructions are gone through is plain, and one that is stopped at breaks a condition first.
use Rattle.std.specs.Prelude.{◌≡◌, ℕ, ◌+◌, ◌<◌, ◌≤◌, ◌&&◌, not, Bool, true, false, List, [], ◌∷◌, ◌++◌, length, Option}
use Rattle.std.specs.Prelude.{Some, None, Ok, Err, ⊤, is_some, slice_get, slice_index_or, refl}
use Rattle.std.specs.List.{AllByRecursion, IsDistinct, list_all}
use Rattle.std.specs.Map.{keys_of}
use Rattle.std.proofs.Common.{zero, suc, ap, sym, ◌∙◌, subst, arith}
use Rattle.std.proofs.lemmas.Bool.{false≢true}
use Rattle.alias_base.specs.Find.{same_block, value_at}
use Rattle.alias_base.specs.declared.ids.BlockId.{BlockId}
use Rattle.alias_base.specs.declared.ids.InstructionId.{InstructionId}
use Rattle.alias_hir.specs.declared.env.Environment.{Environment}
use Rattle.alias_hir.specs.declared.hir.BasicBlock.{BasicBlock}
use Rattle.alias_hir.specs.declared.hir.HirFunction.{HirFunction}
use Rattle.alias_hir.specs.declared.hir.Instruction.{Instruction}
use Rattle.alias_lattice.specs.Flows.{IsSolution}
use Rattle.alias_flow.specs.Machine.{VisitLog, SolverState, Solved}
use Rattle.alias_flow.specs.Solutions.{entry_at}
use Rattle.alias_tables.specs.Tables.{TableLists}
use Rattle.alias_plainness.specs.Making.{all_made}
use Rattle.alias_plainness.specs.Sureness.{list_of}
use Rattle.alias_plainness.specs.Paths.{Path, instructions_of, sure_on, sure_before}
use Rattle.alias_plainness.specs.Conditions.{needs, are_distinct, makes_well, is_compatible, freezes_no_spread}
use Rattle.alias_plainness.specs.Conditions.{first_broken, first_failing}
use Rattle.alias_plainness.specs.Plainness.{AllPass, IsPlain, Breaks, BreaksFirst}
use Rattle.alias_plain.specs.unsure.Sets.{Rows, has}
use Rattle.alias_plain.specs.declared.laws.stop.Stop.TheVariants.{Broken}
use Rattle.alias_hir.specs.PositionLaws.{found_has_position, some_is, position_is_at, at_value}
use Rattle.alias_hir.specs.Positions.{Blocks, position_in}
use Rattle.alias_plain.specs.laws.Scopes.{Scope, scope_of}
use Rattle.alias_plain.specs.unsure.Ways.{UnsureState, state_below}
use Rattle.alias_plain.specs.laws.UnsureFlow.{unsure_flow, unsure_end, entered, through_all}
use Rattle.alias_plain.specs.laws.MemberLaws.{Reads, Always, Never, From, reads_through, grows}
use Rattle.alias_plain.specs.laws.PathLaws.{rows_on, IsBlockAt, all_sent, entered_unsure, path_covered}
use Rattle.alias_plain.specs.laws.Scans.{sure_in, scan_from}
use Rattle.alias_plain.specs.laws.ScanLaws.{AllPassFrom, BlockPasses, BlocksPass, blocks_pass, blocks_break, pass_at}
use Rattle.alias_plain.specs.laws.SureLaws.{PhisWithin, path_agrees, all_agree, all_sure}

-- ---- lists that are sure

and_case : (a b : Bool) → a && b ≡ true → (a ≡ true) × (b ≡ true)
and_case true true h = (refl, refl)
and_case true false h = cc
and_case false b h = cc

fewer_case : (r s : Bool) → (r ≡ true → s ≡ true) → not s ≡ true → not r ≡ true
fewer_case true s h e = absurd (false≢true (sym (ap not (h refl)) ∙ e))
fewer_case false s h e = refl

-- where fewer are unsure, the list is sure still
fewer_unsure : (r s : Rows) (xs : List ℕ) → ((z : ℕ) → has r z ≡ true → has s z ≡ true) → list_all (sure_in s) xs ≡ true
    → list_all (sure_in r) xs ≡ true
fewer_unsure r s [] h e = refl
fewer_unsure r s (x ∷ xs) h e =
    let b = and_case (not (has s x)) (list_all (sure_in s) xs) e in
    ap (λ t. t && list_all (sure_in r) xs) (fewer_case (has r x) (has s x) (h x) b.0) ∙ fewer_unsure r s xs h b.1

-- one that isn't sure, so that the list isn't sure wherever it isn't
record Lacks (s : Rows) (xs : List ℕ) : Type 0 where
  number : ℕ
  unsure : has s number ≡ true
  anywhere : (r : Rows) → has r number ≡ true → list_all (sure_in r) xs ≡ false

and_no : (a b : Bool) → b ≡ false → a && b ≡ false
and_no true b h = h
and_no false b h = refl

lacks_case : (s : Rows) (x : ℕ) (xs : List ℕ) (t : Bool) → has s x ≡ t → not t && list_all (sure_in s) xs ≡ false
    → (list_all (sure_in s) xs ≡ false → Lacks s xs) → Lacks s (x ∷ xs)
lacks_case s x xs true g h f = record {
  number = x;
  unsure = g;
  anywhere = λ r e. ap (λ t. not t && list_all (sure_in r) xs) e;
}
lacks_case s x xs false g h f =
    let l = f h in
    record {
      number = l.number;
      unsure = l.unsure;
      anywhere = λ r e. and_no (not (has r x)) (list_all (sure_in r) xs) (l.anywhere r e);
    }

lacks : (s : Rows) (xs : List ℕ) → list_all (sure_in s) xs ≡ false → Lacks s xs
lacks s [] h = cc
lacks s (x ∷ xs) h = lacks_case s x xs (has s x) refl h (lacks s xs)

-- ---- the first that is broken

first_none : (a b c d e : Bool) → first_broken a b c d e ≡ None → a ≡ true
first_none true b c d e h = refl
first_none false b c d e h = cc

some_number : (n m k : ℕ) → k ≤ n → ◌≡◌ {A = Option ℕ} (Some n) (Some m) → k ≤ m
some_number n m k l h = let same : n ≡ m = cc in subst (λ (x : ℕ). k ≤ x) same l

at_least_one : (a b c d e : Bool) (m : ℕ) → first_broken a b c d e ≡ Some m → 1 ≤ m
at_least_one false b c d e m h = some_number 1 m 1 (omega arith) h
at_least_one true false c d e m h = some_number 2 m 1 (omega arith) h
at_least_one true true false d e m h = some_number 3 m 1 (omega arith) h
at_least_one true true true false e m h = some_number 4 m 1 (omega arith) h
at_least_one true true true true false m h = some_number 5 m 1 (omega arith) h
at_least_one true true true true true m h = cc

some_same : {A : Type 0} (x y : A) → ◌≡◌ {A = Option A} (Some x) (Some y) → x ≡ y
some_same x y h = cc

same_number : (n m : ℕ) → ◌≡◌ {A = Option ℕ} (Some n) (Some m) → n ≤ m
same_number n m h = let same : n ≡ m = cc in omega arith

nothing_split : (i : InstructionId) (rest : List InstructionId) → ◌≡◌ {A = List InstructionId} [] (i ∷ rest) → ⊥
nothing_split i rest h = cc

front_get : (xs : List (BlockId × BasicBlock)) (y : BlockId × BasicBlock) (ys : List (BlockId × BasicBlock)) (j : ℕ)
    (b : BlockId × BasicBlock) → slice_get xs j ≡ Some b → slice_get (xs ++ y ∷ ys) j ≡ Some b
front_get [] y ys j b e = cc
front_get (x ∷ xs) y ys zero b e = e
front_get (x ∷ xs) y ys (suc j) b e = front_get xs y ys j b e

-- what stands in front stands at its position
front_placed : (bs xs : List (BlockId × BasicBlock)) (y : BlockId × BasicBlock) (ys : List (BlockId × BasicBlock)) → bs
    ≡ xs ++ y ∷ ys → (j : ℕ) (b : BlockId × BasicBlock) → slice_get xs j ≡ Some b → slice_get bs (0 + j) ≡ Some b
front_placed bs xs y ys h j b e =
    let plain : j ≡ 0 + j = omega arith in
    subst (λ (m : ℕ). slice_get bs m ≡ Some b) plain
    (subst (λ (l : List (BlockId × BasicBlock)). slice_get l j ≡ Some b) (sym h) (front_get xs y ys j b e))

-- ---- a function

module _ (func : HirFunction) (env : Environment) where
  abbrev c : Scope
  c = scope_of func env

  abbrev blocks : Blocks
  blocks = func.body.blocks

  -- what an instruction needs are identifiers of the unit
  abbrev pub NeedsWithin : Type 0
  NeedsWithin = (i : InstructionId) (x : Instruction) → slice_get func.instructions i.0 ≡ Some x
      → AllByRecursion (λ z. z < length env.identifiers) (needs func env x)

  module _ (distinct : IsDistinct same_block (keys_of blocks))
      (exists : is_some (value_at blocks func.body.entry) ≡ true)
      (w : SolverState (VisitLog UnsureState) (Unit {0}) (Unit {0})) (solved : unsure_end c ≡ Solved w)
      (is : IsSolution state_below (unsure_flow c).flow tt (entry_at w.progress.joined_input))
      (phis : PhisWithin func env) (within : NeedsWithin) where
    abbrev entries : ℕ → Option UnsureState
    entries = entry_at w.progress.joined_input

    -- ---- one block

    module _ (k : ℕ) (b : BlockId) (block : BasicBlock) (x : UnsureState) (at : IsBlockAt func env k b block)
        (there : entries k ≡ Some x) (done : List InstructionId) where
      abbrev here : Rows
      here = through_all c done (entered blocks block.phis x)

      abbrev along : Path func b → Rows
      along p = through_all c done (rows_on func env p)

      -- what isn't sure on a path isn't sure there
      path_to_here : (p : Path func b) (z : ℕ) → has (along p) z ≡ true → has here z ≡ true
      path_to_here p z m =
          let cover = path_covered func env distinct exists w solved is p k block at in
          let same : cover.state ≡ x = some_same cover.state x (sym cover.there ∙ there) in
          subst (λ (y : UnsureState). has (through_all c done (entered blocks block.phis y)) z ≡ true) same
          (grows (through_all c done) z (reads_through c done z) (rows_on func env p)
          (entered blocks block.phis cover.state) cover.covers m)

      record OnPath (z : ℕ) : Type 0 where
        path : Path func b
        member : has (along path) z ≡ true

      here_case : (z : ℕ) → Reads (through_all c done) z → has here z ≡ true → OnPath z
      here_case z (Always h) m = let p = (all_sent func env distinct exists w solved k x there).path b block at in
          record { path = p; member = h (rows_on func env p) }
      here_case z (Never h) m = absurd (false≢true (sym (h (entered blocks block.phis x)) ∙ m))
      here_case z (From y h) m =
          let u = entered_unsure func env distinct exists k x b block y
          (all_sent func env distinct exists w solved k x there) at (sym (h (entered blocks block.phis x)) ∙ m) in
          record { path = u.path; member = h (rows_on func env u.path) ∙ u.member }

      -- and what isn't sure there isn't sure on some path
      here_to_path : (z : ℕ) → has here z ≡ true → OnPath z
      here_to_path z m = here_case z (reads_through c done z) m

      module _ (i : InstructionId) (n : Instruction) (found : slice_get func.instructions i.0 ≡ Some n) where
        abbrev first : Bool → Option ℕ
        first a = let list = list_of func env n in
            first_broken a (are_distinct (all_made list)) (makes_well env list) (is_compatible env list)
            (freezes_no_spread env list)

        abbrev sure_here : Bool
        sure_here = list_all (sure_in here) (needs func env n)

        sure_along : (p : Path func b) → list_all (sure_before func env p done) (needs func env n)
            ≡ list_all (sure_in (along p)) (needs func env n)
        sure_along p =
            all_sure (length env.identifiers) (sure_before func env p done) (along p) (needs func env n)
            (all_agree func env (length env.identifiers) done (sure_on func env p) (rows_on func env p)
            (path_agrees func env p phis)) (within i n found)

        -- where the list is sure there, it is on each path
        always_sure : sure_here ≡ true → (p : Path func b) → list_all (sure_before func env p done) (needs func env n)
            ≡ true
        always_sure h p = sure_along p ∙ fewer_unsure (along p) here (needs func env n) (path_to_here p) h

        none_fails : first sure_here ≡ None → (p : Path func b) → first_failing func env (sure_before func env p done) n
            ≡ None
        none_fails h p =
            let a : sure_here ≡ true = first_none sure_here _ _ _ _ h in
            ap first (always_sure a p ∙ sym a) ∙ h

        one_fails : (rule : ℕ) (t : Bool) → sure_here ≡ t → first t ≡ Some rule → Breaks func env b done i rule
        one_fails rule true a h =
            let p = (all_sent func env distinct exists w solved k x there).path b block at in
            record {
              instruction = n;
              found = found;
              path = p;
              fails = ap first (always_sure a p) ∙ h;
              least = λ q m e. same_number rule m (sym h ∙ sym (ap first (always_sure a q)) ∙ e);
            }
        one_fails rule false a h =
            let l = lacks here (needs func env n) a in
            let o = here_to_path l.number l.unsure in
            let one : 1 ≡ rule = some_same 1 rule h in
            record {
              instruction = n;
              found = found;
              path = o.path;
              fails = ap first (sure_along o.path ∙ l.anywhere (along o.path) o.member) ∙ h;
              least = λ q m e. subst (λ (y : ℕ). y ≤ m) one (at_least_one _ _ _ _ _ m e);
            }

    -- ---- all blocks

    all_pass : (k : ℕ) (b : BlockId) (block : BasicBlock) (ids : List InstructionId) → IsBlockAt func env k b block
        → ((x : UnsureState) → entries k ≡ Some x → AllPassFrom c (entered blocks block.phis x) ids)
        → AllPass func env b ids
    all_pass k b block ids at h done i rest split p n found =
        let cover = path_covered func env distinct exists w solved is p k block at in
        none_fails k b block cover.state at cover.there done i n found
        (h cover.state cover.there done i rest split n found) p

    nothing_pass : (b : BlockId) → AllPass func env b []
    nothing_pass b [] i rest split = absurd (nothing_split i rest split)
    nothing_pass b (d ∷ done) i rest split = absurd (nothing_split d (done ++ i ∷ rest) split)

    block_case : (b : BlockId) (o : Option BasicBlock) → value_at blocks b ≡ o
        → BlocksPass c w.progress.joined_input 0 blocks → AllPass func env b (instructions_of o)
    block_case b None v h = nothing_pass b
    block_case b (Some block) v h =
        let n = some_is (position_in blocks b) (found_has_position blocks b (ap is_some v)) in
        let at = position_is_at blocks b n.0 n.1 in
        let same : at.0 ≡ block = some_same at.0 block (sym (at_value blocks n.0 b at.0 distinct at.1) ∙ v) in
        let plain : 0 + n.0 ≡ n.0 = omega arith in
        let passes : BlockPasses c (b, at.0) (entries n.0) =
        subst (λ (m : ℕ). BlockPasses c (b, at.0) (slice_index_or w.progress.joined_input m None)) plain
        (pass_at c w.progress.joined_input blocks 0 n.0 (b, at.0) h at.1) in
        subst (λ (y : BasicBlock). AllPass func env b y.instructions) same
        (all_pass n.0 b at.0 at.0.instructions at.1 passes)

    -- a function whose instructions are gone through is plain
    pub scanned_is_plain : (t : TableLists) (p : ⊤ × TableLists) → scan_from c w.progress.joined_input 0 blocks t ≡ Ok p
        → IsPlain func env
    scanned_is_plain t p h b = block_case b (value_at blocks b) refl
        (blocks_pass c w.progress.joined_input blocks 0 t p h)

    -- the blocks stand at the positions from n on
    abbrev Placed : ℕ → List (BlockId × BasicBlock) → Type 0
    Placed n bs = (j : ℕ) (b : BlockId × BasicBlock) → slice_get bs j ≡ Some b → slice_get blocks (n + j) ≡ Some b

    placed_later : (n : ℕ) (b : BlockId × BasicBlock) (bs : List (BlockId × BasicBlock)) → Placed n (b ∷ bs)
        → Placed (n + 1) bs
    placed_later n b bs h j d e =
        let there : n + suc j ≡ (n + 1) + j = omega arith in
        subst (λ (m : ℕ). slice_get blocks m ≡ Some d) there (h (suc j) d e)

    earlier_pass : (n : ℕ) (bs : List (BlockId × BasicBlock)) → Placed n bs → BlocksPass c w.progress.joined_input n bs
        → AllByRecursion (λ (b : BlockId × BasicBlock). AllPass func env b.0 b.1.instructions) bs
    earlier_pass n [] h k = tt
    earlier_pass n (b ∷ bs) h k =
        let here : n + 0 ≡ n = omega arith in (
          all_pass n b.0 b.1 b.1.instructions (subst (λ (m : ℕ). slice_get blocks m ≡ Some b) here (h 0 b refl)) k.0,
          earlier_pass (n + 1) bs (placed_later n b bs h) k.1,
        )

    -- a function that is stopped at an instruction breaks a condition there first
    pub stopped_breaks_first : (t : TableLists) (i : InstructionId) (rule : ℕ)
        → scan_from c w.progress.joined_input 0 blocks t ≡ Err (Broken i rule) → BreaksFirst func env i rule
    stopped_breaks_first t i rule h =
        let r = blocks_break c w.progress.joined_input blocks 0 t i rule h in
        let plain : 0 + r.position ≡ r.position = omega arith in
        let there : entries r.position ≡ Some r.breaks.state =
        subst (λ (m : ℕ). slice_index_or w.progress.joined_input m None ≡ Some r.breaks.state) plain
        r.breaks.there in
        let b = r.breaks.breaks in
        record {
          before = r.before;
          block = r.block;
          behind = r.behind;
          blocks = r.split;
          done = b.done;
          rest = b.rest;
          instructions = b.split;
          breaks = one_fails r.position r.block.0 r.block.1 r.breaks.state r.place there b.done i b.fails.instruction
              b.fails.found rule (sure_here r.position r.block.0 r.block.1 r.breaks.state r.place there b.done i
              b.fails.instruction b.fails.found) refl b.fails.fails;
          earlier = all_pass r.position r.block.0 r.block.1 b.done r.place
              (λ x e. subst (λ (y : UnsureState). AllPassFrom c (entered blocks r.block.1.phis y) b.done)
              (some_same r.breaks.state x (sym there ∙ e)) b.earlier);
          earlier_blocks = earlier_pass 0 r.before (front_placed blocks r.before r.block r.behind r.split) r.earlier;
        }
