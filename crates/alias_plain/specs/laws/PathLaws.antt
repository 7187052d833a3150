-- What the solution says isn't sure where a block is entered, isn't sure on some path to the block, and the other way
-- round.
use Rattle.std.specs.Prelude.{◌≡◌, ℕ, ◌+◌, ◌-◌, ◌==◌, Bool, true, false, IsTrue, List, [], ◌∷◌, length, Option, Some}
use Rattle.std.specs.Prelude.{None, is_some, option_map, slice_get, replicate, refl, cond, if◌then◌else◌}
use Rattle.std.proofs.Common.{ap, sym, ◌∙◌, subst, inl, inr, arith}
use Rattle.std.proofs.Math.Dec.{T}
use Rattle.std.proofs.lemmas.Bool.{false≢true}
use Rattle.std.proofs.lemmas.Cmp.{nat_cmp_total}
use Rattle.std.specs.Map.{keys_of}
use Rattle.std.specs.List.{AllByRecursion, IsDistinct}
use Rattle.std.specs.Option.{option_map_or}
use Rattle.std.specs.Ordering.{nat_cmp, eq_by_cmp}
use Rattle.std.specs.FinMap.{find, get, is_sorted, get-from_sorted, nat_cmp-IsAntisymmetric}
use Rattle.std.specs.FinMap.Entries.{below_all}
use Rattle.alias_lattice.specs.PairLaws.{T-first}
use Rattle.alias_base.specs.Find.{same_block, value_at}
use Rattle.alias_base.specs.declared.ids.BlockId.{BlockId}
use Rattle.alias_base.specs.declared.ids.InstructionId.{InstructionId}
use Rattle.alias_hir.specs.Terminals.{successors}
use Rattle.alias_hir.specs.declared.env.Environment.{Environment}
use Rattle.alias_hir.specs.declared.hir.BasicBlock.{BasicBlock}
use Rattle.alias_hir.specs.declared.hir.HirFunction.{HirFunction}
use Rattle.alias_hir.specs.declared.hir.Phi.{Phi}
use Rattle.alias_lattice.specs.Flows.{IsOneOf, IsAbove, IsSolution}
use Rattle.alias_lattice.specs.ListMaps.{list_map}
use Rattle.alias_lattice.specs.ListMapLaws.{list_laws}
use Rattle.alias_lattice.specs.MapLaws.{map_below-at, equal}
use Rattle.alias_lattice.specs.Maps.{join_option, below_option, ProperOption}
use Rattle.alias_lattice.specs.PutLaws.{find-join, proper_found}
use Rattle.alias_flow.specs.Machine.{VisitLog, SolverState, Solved}
use Rattle.alias_flow.specs.Solutions.{entry_at}
use Rattle.alias_plain.specs.unsure.Sets.{Rows, RowsProper, has, union, is_within}
use Rattle.alias_plain.specs.unsure.SetLaws.{set_laws, has-union, within-has}
use Rattle.alias_plainness.specs.Paths.{Path, begins, goes_on, edges_of, phis_of, instructions_of}
use Rattle.alias_hir.specs.PositionLaws.{found_has_position, some_is, position_is_at, at_position, at_value}
use Rattle.alias_hir.specs.Positions.{Blocks, position_in, IsAt, with_position, positions_of, edges_at, entry_position}
use Rattle.alias_plain.specs.laws.FlowLaws.{one_proper, unsure_at_first_proper, step_proper, stepped_is, first_found}
use Rattle.alias_plain.specs.laws.FlowLaws.{find_behind, first_proper, rest_proper}
use Rattle.alias_plain.specs.laws.MemberLaws.{Reads, Always, Never, From, reads_phis, reads_through, grows, or_which}
use Rattle.alias_plain.specs.laws.MemberLaws.{other_way, entry_enters, entered_comes}
use Rattle.alias_plain.specs.laws.Scopes.{Scope, scope_of}
use Rattle.alias_plain.specs.laws.SendingLaws.{solution_sends}
use Rattle.alias_plain.specs.unsure.Ways.{UnsureState, StateProper, state_join, state_below}
use Rattle.alias_plain.specs.laws.UnsureFlow.{unsure_at_first, source_of, with_phis, entered, through_all, out_set}
use Rattle.alias_plain.specs.laws.UnsureFlow.{step_at, unsure_flow, unsure_end}

-- ---- states by their keys

found_case : (key : ℕ) (s : Rows) (e : ℕ × Rows) (es : UnsureState) (t : Bool) → eq_by_cmp nat_cmp key e.0 ≡ t
    → cond t (Some e.1) (find nat_cmp key es) ≡ Some s
    → (find nat_cmp key es ≡ Some s → IsOneOf (key, s) es) → IsOneOf (key, s) (e ∷ es)
found_case key s e es true g h f =
    let k : key ≡ e.0 = nat_cmp-IsAntisymmetric key e.0 (equal (nat_cmp key e.0) (subst T (sym g) tt)) in
    let v : e.1 ≡ s = cc in
    inl (ap (λ (n : ℕ). let p : ℕ × Rows = (n, s) in p) k ∙ ap (λ (r : Rows). let p : ℕ × Rows = (e.0, r) in p) (sym v))
found_case key s e es false g h f = inr (f h)

-- what is found stands in the list
pub found_entry : (key : ℕ) (s : Rows) (es : UnsureState) → find nat_cmp key es ≡ Some s → IsOneOf (key, s) es
found_entry key s [] h = cc
found_entry key s (e ∷ es) h = found_case key s e es (eq_by_cmp nat_cmp key e.0) refl h (found_entry key s es)

behind_case : (e x : ℕ × Rows) (es : UnsureState) (t : Bool) → eq_by_cmp nat_cmp e.0 x.0 ≡ t → StateProper (x ∷ es)
    → find nat_cmp e.0 es ≡ Some e.1 → cond t (Some x.1) (find nat_cmp e.0 es) ≡ Some e.1
behind_case e x es true g h f =
    let none : find nat_cmp e.0 es ≡ None =
    find_behind e.0 x.0 es (equal (nat_cmp e.0 x.0) (subst T (sym g) tt))
    (T-first (below_all nat_cmp x.0 es) (is_sorted nat_cmp es) h.0) in
    cc
behind_case e x es false g h f = f

-- and what stands in it is found
pub entry_found : (e : ℕ × Rows) (es : UnsureState) → StateProper es → IsOneOf e es → find nat_cmp e.0 es ≡ Some e.1
entry_found e [] h i = absurd i
entry_found e (x ∷ es) h (inl same) = subst (λ (y : ℕ × Rows). find nat_cmp y.0 (x ∷ es) ≡ Some y.1) (sym same)
    (first_found x es)
entry_found e (x ∷ es) h (inr i) = behind_case e x es (eq_by_cmp nat_cmp e.0 x.0) refl h
    (entry_found e es (rest_proper x es h) i)

proper_some : (o : Option Rows) (s : Rows) → ProperOption RowsProper o → o ≡ Some s → RowsProper s
proper_some None s h e = cc
proper_some (Some r) s h e = let same : r ≡ s = cc in subst RowsProper same h

-- a set that is found is proper
pub proper_of : (x : UnsureState) (key : ℕ) (s : Rows) → StateProper x → find nat_cmp key x ≡ Some s → RowsProper s
proper_of x key s h f = proper_some (find nat_cmp key x) s (proper_found nat_cmp RowsProper x h key) f

-- of one entry only that is found
single_case : (k key : ℕ) (v s : Rows) (t : Bool) → eq_by_cmp nat_cmp key k ≡ t
    → ◌≡◌ {A = Option Rows} (cond t (Some v) None) (Some s) → (key ≡ k) × (v ≡ s)
single_case k key v s true g h = (nat_cmp-IsAntisymmetric key k (equal (nat_cmp key k) (subst T (sym g) tt)), cc)
single_case k key v s false g h = cc

single_found : (k key : ℕ) (v s : Rows) → find nat_cmp key ((k, v) ∷ []) ≡ Some s → (key ≡ k) × (v ≡ s)
single_found k key v s h = single_case k key v s (eq_by_cmp nat_cmp key k) refl h

below_some : (u : Rows) (o : Option Rows) → IsTrue (below_option is_within (Some u) o) → (v : Rows) × (o ≡ Some v)
    × IsTrue (is_within u v)
below_some u None h = absurd (false≢true h)
below_some u (Some v) h = (v, refl, h)

-- a state of one entry is below those that have a larger set there
single_below : (key : ℕ) (u : Rows) (x : UnsureState) → RowsProper u → StateProper x
    → IsTrue (state_below ((key, u) ∷ []) x) → (v : Rows) × (find nat_cmp key x ≡ Some v) × IsTrue (is_within u v)
single_below key u x p h b =
    let single : UnsureState = (key, u) ∷ [] in
    let at : IsTrue (below_option is_within (get (list_map nat_cmp single) key) (get (list_map nat_cmp x) key)) =
    (map_below-at nat_cmp nat_cmp_total is_within (list_map nat_cmp single) (list_map nat_cmp x)).0 b key in
    let left : get (list_map nat_cmp single) key ≡ Some u = get-from_sorted nat_cmp single key (one_proper key u p).0
    ∙ first_found (key, u) [] in
    let right : get (list_map nat_cmp x) key ≡ find nat_cmp key x = get-from_sorted nat_cmp x key h.0 in
    below_some u (find nat_cmp key x) (subst (λ o. IsTrue (below_option is_within (Some u) o)) right
    (subst (λ o. IsTrue (below_option is_within o (get (list_map nat_cmp x) key))) left at))

-- how a set of a join comes about
data JoinOf (o p : Option Rows) (s : Rows) : Type 0 where
  First : (a : Rows) → o ≡ Some a → a ≡ s → JoinOf o p s
  Second : (b : Rows) → p ≡ Some b → b ≡ s → JoinOf o p s
  Both : (a b : Rows) → o ≡ Some a → p ≡ Some b → union a b ≡ s → JoinOf o p s

join_case : (o p : Option Rows) (s : Rows) → join_option union o p ≡ Some s → JoinOf o p s
join_case None None s h = cc
join_case None (Some b) s h = Second b refl cc
join_case (Some a) None s h = First a refl cc
join_case (Some a) (Some b) s h = Both a b refl refl cc

-- ---- positions

named_case : (blocks : Blocks) (b : BlockId) (bs : List BlockId) (e : ℕ) (o : Option ℕ) → position_in blocks b ≡ o
    → IsOneOf e (with_position o (positions_of blocks bs))
    → (IsOneOf e (positions_of blocks bs) → (d : BlockId) × IsOneOf d bs × (position_in blocks d ≡ Some e))
    → (d : BlockId) × IsOneOf d (b ∷ bs) × (position_in blocks d ≡ Some e)
named_case blocks b bs e None g i f = let r = f i in (r.0, inr r.1, r.2)
named_case blocks b bs e (Some n) g (inl same) f = (b, inl refl, g ∙ ap Some (sym same))
named_case blocks b bs e (Some n) g (inr i) f = let r = f i in (r.0, inr r.1, r.2)

-- an edge leads to a position of the block that it names
edge_named : (blocks : Blocks) (bs : List BlockId) (e : ℕ) → IsOneOf e (positions_of blocks bs) → (d : BlockId)
    × IsOneOf d bs × (position_in blocks d ≡ Some e)
edge_named blocks [] e i = absurd i
edge_named blocks (b ∷ bs) e i = named_case blocks b bs e (position_in blocks b) refl i (edge_named blocks bs e)

there_first : (blocks : Blocks) (bs : List BlockId) (e : ℕ) (o : Option ℕ) → o ≡ Some e
    → IsOneOf e (with_position o (positions_of blocks bs))
there_first blocks bs e None h = cc
there_first blocks bs e (Some n) h = inl cc

there_later : (blocks : Blocks) (bs : List BlockId) (e : ℕ) (o : Option ℕ) → IsOneOf e (positions_of blocks bs)
    → IsOneOf e (with_position o (positions_of blocks bs))
there_later blocks bs e None i = i
there_later blocks bs e (Some n) i = inr i

-- and the position of a block that is named is one that an edge leads to
edge_there : (blocks : Blocks) (bs : List BlockId) (d : BlockId) (e : ℕ) → IsOneOf d bs → position_in blocks d ≡ Some e
    → IsOneOf e (positions_of blocks bs)
edge_there blocks [] d e i h = absurd i
edge_there blocks (b ∷ bs) d e (inl same) h =
    there_first blocks bs e (position_in blocks b) (ap (position_in blocks) (sym same) ∙ h)
edge_there blocks (b ∷ bs) d e (inr i) h = there_later blocks bs e (position_in blocks b) (edge_there blocks bs d e i h)

all_of : {A : Type 0} (P : A → Type 0) (xs : List A) (x : A) → AllByRecursion P xs → IsOneOf x xs → P x
all_of P [] x h i = absurd i
all_of P (y ∷ xs) x h (inl same) = subst P (sym same) h.0
all_of P (y ∷ xs) x h (inr i) = all_of P xs x h.1 i

same_some : {A : Type 0} (x y : A) → Some x ≡ Some y → x ≡ y
same_some x y h = cc

first_of_pair : (a b : BlockId) (x y : BasicBlock) → ◌≡◌ {A = Option (BlockId × BasicBlock)} (Some (a, x)) (Some (b, y))
    → a ≡ b
first_of_pair a b x y h = ap (λ (z : BlockId × BasicBlock). z.0) (same_some _ _ h)

-- ---- paths

module _ (func : HirFunction) (env : Environment) where
  abbrev pub c : Scope
  c = scope_of func env

  abbrev pub blocks : Blocks
  blocks = func.body.blocks

  abbrev pub phis_at : BlockId → List Phi
  phis_at b = phis_of (value_at blocks b)

  abbrev pub instructions_at : BlockId → List InstructionId
  instructions_at b = instructions_of (value_at blocks b)

  -- the set of what isn't sure where the path has entered its last block
  abbrev pub rows_on : {b : BlockId} → Path func b → Rows
  rows_on begins = with_phis None (phis_at func.body.entry) (unsure_at_first c)
  rows_on (goes_on b d p e) = with_phis (Some b) (phis_at d) (through_all c (instructions_at b) (rows_on p))

  -- a way into a block: the beginning of a path, or a path to another block and an edge. With its key, and what isn't
  -- sure before the phis
  pub data Way : BlockId → ℕ → Rows → Type 0 where
    At_first : Way func.body.entry 0 (unsure_at_first c)
    By_edge : (b d : BlockId) (n : ℕ) → IsAt blocks n b → (p : Path func b) → IsOneOf d (edges_of (value_at blocks b))
        → Way d (n + 1) (through_all c (instructions_at b) (rows_on p))

  source_is : (n : ℕ) (b : BlockId) → IsAt blocks n b → source_of blocks (n + 1) ≡ Some b
  source_is n b a =
      let later : ((n + 1) == 0) ≡ false = other_way 0 (n + 1) (λ e. omega arith) in
      let back : (n + 1) - 1 ≡ n = omega arith in
      ap (λ (t : Bool). if t then None else option_map (λ (x : BlockId × BasicBlock). x.0)
      (slice_get blocks ((n + 1) - 1))) later
      ∙ ap (λ (m : ℕ). option_map (λ (x : BlockId × BasicBlock). x.0) (slice_get blocks m)) back
      ∙ ap (option_map (λ (x : BlockId × BasicBlock). x.0)) a.1

  -- the path that a way makes
  pub record Led (d : BlockId) (key : ℕ) (r : Rows) : Type 0 where
    pub path : Path func d
    pub is : rows_on path ≡ with_phis (source_of blocks key) (phis_at d) r

  led : (d : BlockId) (key : ℕ) (r : Rows) → Way d key r → Led d key r
  led d key r At_first = record { path = begins; is = refl }
  led d key r (By_edge b e n a p i) =
      record {
        path = goes_on b e p i;
        is = ap
            (λ (s : Option BlockId). with_phis s (phis_at e) (through_all c (instructions_at b) (rows_on p)))
            (sym (source_is n b a));
      }

  -- a way on which the number isn't sure
  pub record Has (d : BlockId) (key z : ℕ) : Type 0 where
    pub rows : Rows
    pub way : Way d key rows
    pub member : has rows z ≡ true

  abbrev pub IsBlockAt : ℕ → BlockId → BasicBlock → Type 0
  IsBlockAt k b x = slice_get blocks k ≡ Some (b, x)

  -- what was sent to a block tells of ways into it
  pub record Sent (k : ℕ) (x : UnsureState) : Type 0 where
    pub proper : StateProper x
    pub path : (b : BlockId) (block : BasicBlock) → IsBlockAt k b block → Path func b
    pub ways : (b : BlockId) (block : BasicBlock) → IsBlockAt k b block → (key : ℕ) (s : Rows) → find nat_cmp key x
        ≡ Some s → (r : Rows) × Way b key r
    pub members : (b : BlockId) (block : BasicBlock) → IsBlockAt k b block → (key : ℕ) (s : Rows) (z : ℕ)
        → find nat_cmp key x ≡ Some s → has s z ≡ true → Has b key z

  -- ---- joins

  state_laws_closed : (x y : UnsureState) → StateProper x → StateProper y → StateProper (state_join x y)
  state_laws_closed = (list_laws nat_cmp nat_cmp_total nat_cmp-IsAntisymmetric RowsProper union is_within
      set_laws).closed

  way_in_join : (k : ℕ) (x y : UnsureState) → Sent k x → Sent k y → (b : BlockId) (block : BasicBlock)
      → IsBlockAt k b block → (key : ℕ) (s : Rows) → JoinOf (find nat_cmp key x) (find nat_cmp key y) s → (r : Rows)
      × Way b key r
  way_in_join k x y h i b block at key s (First a f e) = h.ways b block at key a f
  way_in_join k x y h i b block at key s (Second d g e) = i.ways b block at key d g
  way_in_join k x y h i b block at key s (Both a d f g e) = h.ways b block at key a f

  member_in_join : (k : ℕ) (x y : UnsureState) → Sent k x → Sent k y → (b : BlockId) (block : BasicBlock)
      → IsBlockAt k b block → (key : ℕ) (s : Rows) (z : ℕ)
      → JoinOf (find nat_cmp key x) (find nat_cmp key y) s → has s z ≡ true → Has b key z
  member_in_join k x y h i b block at key s z (First a f e) m =
      h.members b block at key a z f (subst (λ (r : Rows). has r z ≡ true) (sym e) m)
  member_in_join k x y h i b block at key s z (Second d g e) m =
      i.members b block at key d z g (subst (λ (r : Rows). has r z ≡ true) (sym e) m)
  member_in_join k x y h i b block at key s z (Both a d f g e) m =
      let p : RowsProper a = proper_of x key a h.proper f in
      let q : RowsProper d = proper_of y key d i.proper g in
      elim (or_which (has a z) (has d z) (sym (has-union a d z p q) ∙ subst (λ (r : Rows). has r z ≡ true) (sym e) m))
      as (λ w. Has b key z) [
        | inl l ↦ h.members b block at key a z f l
        | inr r ↦ i.members b block at key d z g r
      ]

  sent_join : (k : ℕ) (x y : UnsureState) → Sent k x → Sent k y → Sent k (state_join x y)
  sent_join k x y h i =
      let of : (key : ℕ) (s : Rows) → find nat_cmp key (state_join x y) ≡ Some s
      → JoinOf (find nat_cmp key x) (find nat_cmp key y) s =
      λ key s f. join_case (find nat_cmp key x) (find nat_cmp key y) s
      (sym (find-join nat_cmp nat_cmp_total union x y key h.proper.0 i.proper.0) ∙ f) in
      record {
        proper = state_laws_closed x y h.proper i.proper;
        path = h.path;
        ways = λ b block at key s f. way_in_join k x y h i b block at key s (of key s f);
        members = λ b block at key s z f m. member_in_join k x y h i b block at key s z (of key s f) m;
      }

  -- ---- where the blocks' names are told apart, and the entry is one

  module _ (distinct : IsDistinct same_block (keys_of blocks))
      (exists : is_some (value_at blocks func.body.entry) ≡ true) where
    abbrev IsSent : ℕ → UnsureState → Type 0
    IsSent = Sent

    entry_at_position : (n : ℕ) × (position_in blocks func.body.entry ≡ Some n)
    entry_at_position = some_is (position_in blocks func.body.entry) (found_has_position blocks func.body.entry exists)

    position_is : (o : Option ℕ) (n : ℕ) → o ≡ Some n → option_map_or (λ m. m) o 0 ≡ n
    position_is None n h = cc
    position_is (Some m) n h = cc

    entry_is_at : IsAt blocks (entry_position func) func.body.entry
    entry_is_at =
        let n = entry_at_position.0 in
        let is : entry_position func ≡ n = position_is (position_in blocks func.body.entry) n entry_at_position.1 in
        subst (λ (m : ℕ). IsAt blocks m func.body.entry) (sym is)
        (position_is_at blocks func.body.entry n entry_at_position.1)

    -- a block at a position is the one that is at it
    same_at : (k : ℕ) (a b : BlockId) (block : BasicBlock) → IsAt blocks k a → IsBlockAt k b block → a ≡ b
    same_at k a b block h at = first_of_pair a b h.0 block (sym h.1 ∙ at)

    phis_there : (k : ℕ) (b : BlockId) (block : BasicBlock) → IsBlockAt k b block → phis_at b ≡ block.phis
    phis_there k b block at = ap phis_of (at_value blocks k b block distinct at)

    instructions_there : (k : ℕ) (b : BlockId) (block : BasicBlock) → IsBlockAt k b block → instructions_at b
        ≡ block.instructions
    instructions_there k b block at = ap instructions_of (at_value blocks k b block distinct at)

    -- ---- the initial state

    first_path : (b : BlockId) → func.body.entry ≡ b → Path func b
    first_path b e = subst (Path func) e begins

    first_way : (b : BlockId) (key : ℕ) → func.body.entry ≡ b → key ≡ 0 → Way b key (unsure_at_first c)
    first_way b key e k = subst (λ (m : ℕ). Way b m (unsure_at_first c)) (sym k)
        (subst (λ (d : BlockId). Way d 0 (unsure_at_first c)) e At_first)

    sent_first : IsSent (entry_position func) ((0, unsure_at_first c) ∷ [])
    sent_first = record {
      proper = one_proper 0 (unsure_at_first c) (unsure_at_first_proper c);
      path = λ b block at. first_path b (same_at (entry_position func) func.body.entry b block entry_is_at at);
      ways = λ b block at key s f. (
        unsure_at_first c,
        first_way b key (same_at (entry_position func) func.body.entry b block entry_is_at at)
            (single_found 0 key (unsure_at_first c) s f).0,
      );
      members = λ b block at key s z f m. record {
        rows = unsure_at_first c;
        way = first_way b key (same_at (entry_position func) func.body.entry b block entry_is_at at)
            (single_found 0 key (unsure_at_first c) s f).0;
        member = subst (λ (r : Rows). has r z ≡ true) (sym (single_found 0 key (unsure_at_first c) s f).1) m;
      };
    }

    -- ---- what isn't sure where a block is entered isn't on a path

    -- a path to the block on which the number isn't sure
    pub record Unsure (b : BlockId) (z : ℕ) : Type 0 where
      pub path : Path func b
      pub member : has (rows_on path) z ≡ true

    way_unsure : (b : BlockId) (key : ℕ) (r : Rows) (z : ℕ) → Way b key r
        → has (with_phis (source_of blocks key) (phis_at b) r) z ≡ true → Unsure b z
    way_unsure b key r z w m = let l = led b key r w in
        record { path = l.path; member = ap (λ (s : Rows). has s z) l.is ∙ m }

    comes_unsure : (k : ℕ) (x : UnsureState) (b : BlockId) (block : BasicBlock) (z key : ℕ) (s : Rows) → Sent k x
        → IsBlockAt k b block → find nat_cmp key x ≡ Some s
        → Reads (with_phis (source_of blocks key) (phis_at b)) z
        → has (with_phis (source_of blocks key) (phis_at b) s) z ≡ true → Unsure b z
    comes_unsure k x b block z key s q at f (Always h) m = let w = q.ways b block at key s f in
        way_unsure b key w.0 z w.1 (h w.0)
    comes_unsure k x b block z key s q at f (Never h) m = absurd (false≢true (sym (h s) ∙ m))
    comes_unsure k x b block z key s q at f (From y h) m =
        let w = q.members b block at key s y f (sym (h s) ∙ m) in
        way_unsure b key w.rows z w.way (h w.rows ∙ w.member)

    pub entered_unsure : (k : ℕ) (x : UnsureState) (b : BlockId) (block : BasicBlock) (z : ℕ) → Sent k x
        → IsBlockAt k b block → has (entered blocks block.phis x) z ≡ true → Unsure b z
    entered_unsure k x b block z q at m =
        let e = entered_comes blocks block.phis z x q.proper m in
        let f : find nat_cmp e.way.0 x ≡ Some e.way.1 = entry_found e.way x q.proper e.entry in
        comes_unsure k x b block z e.way.0 e.way.1 q at f (reads_phis (source_of blocks e.way.0) (phis_at b) z)
        (subst (λ (ps : List Phi). has (with_phis (source_of blocks e.way.0) ps e.way.1) z ≡ true)
        (sym (phis_there k b block at)) e.member)

    -- ---- steps

    left_unsure : (k : ℕ) (x : UnsureState) (a d : BlockId) (block : BasicBlock) (z : ℕ) → Sent k x
        → IsBlockAt k a block → IsOneOf d (edges_of (value_at blocks a))
        → Reads (through_all c (instructions_at a)) z
        → has (through_all c (instructions_at a) (entered blocks block.phis x)) z ≡ true → Has d (k + 1) z
    left_unsure k x a d block z q at i (Always h) m =
        let p = q.path a block at in record {
          rows = through_all c (instructions_at a) (rows_on p);
          way = By_edge a d k (block, at) p i;
          member = h (rows_on p);
        }
    left_unsure k x a d block z q at i (Never h) m = absurd (false≢true (sym (h (entered blocks block.phis x)) ∙ m))
    left_unsure k x a d block z q at i (From y h) m =
        let u = entered_unsure k x a block y q at (sym (h (entered blocks block.phis x)) ∙ m) in
        record {
          rows = through_all c (instructions_at a) (rows_on u.path);
          way = By_edge a d k (block, at) u.path i;
          member = h (rows_on u.path) ∙ u.member;
        }

    sent_along : (k e : ℕ) (x : UnsureState) (a d : BlockId) (block : BasicBlock) → Sent k x → IsBlockAt k a block
        → IsOneOf d (edges_of (value_at blocks a)) → IsAt blocks e d
        → Sent e ((k + 1, out_set c block x) ∷ [])
    sent_along k e x a d block q at i t =
        let to : (b : BlockId) (other : BasicBlock) → IsBlockAt e b other → d ≡ b =
        λ b other h. same_at e d b other t h in
        let out : through_all c (instructions_at a) (entered blocks block.phis x) ≡ out_set c block x =
        ap (λ (is : List InstructionId). through_all c is (entered blocks block.phis x))
        (instructions_there k a block at) in
        record {
          proper = step_proper c k (Some (a, block)) x q.proper;
          path = λ b other h. subst (Path func) (to b other h) (goes_on a d (q.path a block at) i);
          ways = λ b other h key s f. (
            through_all c (instructions_at a) (rows_on (q.path a block at)),
            subst (λ (m : ℕ). Way b m (through_all c (instructions_at a) (rows_on (q.path a block at))))
                (sym (single_found (k + 1) key (out_set c block x) s f).0)
                (subst (λ (n : BlockId). Way n (k + 1)
                (through_all c (instructions_at a) (rows_on (q.path a block at)))) (to b other h)
                (By_edge a d k (block, at) (q.path a block at) i)),
          );
          members = λ b other h key s z f m.
              let found = single_found (k + 1) key (out_set c block x) s f in
              subst (λ (n : ℕ). Has b n z) (sym found.0) (subst (λ (n : BlockId). Has n (k + 1) z) (to b other h)
              (left_unsure k x a d block z q at i (reads_through c (instructions_at a) z)
              (subst (λ (r : Rows). has r z ≡ true) (sym out) (subst (λ (r : Rows). has r z ≡ true) (sym found.1) m))));
        }

    sent_step : (k e : ℕ) (o : Option (BlockId × BasicBlock)) (x : UnsureState) → slice_get blocks k ≡ o → Sent k x
        → IsOneOf e (edges_at blocks o) → Sent e (step_at c k o x)
    sent_step k e None x g q i = absurd i
    sent_step k e (Some b) x g q i =
        let named = edge_named blocks (successors b.1.terminal) e i in
        let edge : IsOneOf named.0 (edges_of (value_at blocks b.0)) =
        subst (λ (o : Option BasicBlock). IsOneOf named.0 (edges_of o)) (sym (at_value blocks k b.0 b.1 distinct g))
        named.1 in
        sent_along k e x b.0 named.0 b.1 q g edge (position_is_at blocks named.0 e named.2)

    -- what was sent to the blocks of the solution tells of ways into them
    pub all_sent : (w : SolverState (VisitLog UnsureState) (Unit {0}) (Unit {0})) → unsure_end c ≡ Solved w
        → (k : ℕ) (x : UnsureState) → entry_at w.progress.joined_input k ≡ Some x → Sent k x
    all_sent w h =
        solution_sends state_join state_below (unsure_flow c) Sent sent_first sent_join
        (λ t b e x y u r q s i. subst (Sent e) (stepped_is _ y tt u tt r s)
        (sent_step b e (slice_get blocks b) x refl q i))
        tt (replicate (length blocks) None) w h

    -- ---- what isn't sure on a path isn't where its block is entered

    module _ (w : SolverState (VisitLog UnsureState) (Unit {0}) (Unit {0})) (solved : unsure_end c ≡ Solved w)
        (is : IsSolution state_below (unsure_flow c).flow tt (entry_at w.progress.joined_input)) where
      abbrev pub entries : ℕ → Option UnsureState
      entries = entry_at w.progress.joined_input

      pub record Covered (k : ℕ) (b : BlockId) (block : BasicBlock) (r : Rows) : Type 0 where
        pub state : UnsureState
        pub there : entries k ≡ Some state
        pub covers : (z : ℕ) → has r z ≡ true → has (entered blocks block.phis state) z ≡ true

      -- what a way brings is covered where its set is below the block's
      below_covers : (k : ℕ) (b : BlockId) (block : BasicBlock) (x : UnsureState) (key : ℕ) (u r : Rows)
          → IsBlockAt k b block → entries k ≡ Some x → RowsProper u
          → IsTrue (state_below ((key, u) ∷ []) x) → ((z : ℕ) → has r z ≡ true → has u z ≡ true)
          → Covered k b block (with_phis (source_of blocks key) (phis_at b) r)
      below_covers k b block x key u r at e p below more =
          let q = all_sent w solved k x e in
          let v = single_below key u x p q.proper below in
          record {
            state = x;
            there = e;
            covers = λ z m.
                let grown : has (with_phis (source_of blocks key) (phis_at b) v.0) z ≡ true =
                grows (with_phis (source_of blocks key) (phis_at b)) z (reads_phis (source_of blocks key) (phis_at b) z)
                r v.0
                (λ y n. within-has u v.0 y p (proper_of x key v.0 q.proper v.1) v.2 (more y n)) m in
                entry_enters blocks block.phis z x (key, v.0) q.proper (found_entry key v.0 x v.1)
                (subst (λ (ps : List Phi). has (with_phis (source_of blocks key) ps v.0) z ≡ true)
                (phis_there k b block at) grown);
          }

      first_covered : (k : ℕ) (block : BasicBlock) → IsBlockAt k func.body.entry block
          → Covered k func.body.entry block (rows_on begins)
      first_covered k block at =
          let here : entry_position func ≡ k =
          position_is (position_in blocks func.body.entry) k
          (at_position blocks k func.body.entry block distinct at) in
          let i = is.initial in
          below_covers k func.body.entry block i.0 0 (unsure_at_first c) (unsure_at_first c) at
          (subst (λ (n : ℕ). entries n ≡ Some i.0) here i.1) (unsure_at_first_proper c) i.2 (λ z m. m)

      edge_covered : (a d : BlockId) (p : Path func a) (i : IsOneOf d (edges_of (value_at blocks a))) (ka : ℕ)
          (ablock : BasicBlock) → IsBlockAt ka a ablock → Covered ka a ablock (rows_on p)
          → (k : ℕ) (block : BasicBlock) → IsBlockAt k d block → Covered k d block (rows_on (goes_on a d p i))
      edge_covered a d p i ka ablock aat h k block at =
          let steps = is.steps ka h.state h.there in
          let q = all_sent w solved ka h.state h.there in
          let stays : step_at c ka (slice_get blocks ka) h.state ≡ steps.0 =
          stepped_is _ steps.0 tt tt tt steps.1 steps.2 in
          let single : (ka + 1, out_set c ablock h.state) ∷ [] ≡ steps.0 =
          sym (ap (λ (o : Option (BlockId × BasicBlock)). step_at c ka o h.state) aat) ∙ stays in
          let named : IsOneOf d (successors ablock.terminal) =
          subst (λ (o : Option BasicBlock). IsOneOf d (edges_of o)) (at_value blocks ka a ablock distinct aat) i in
          let edge : IsOneOf k (edges_at blocks (slice_get blocks ka)) =
          subst (λ (o : Option (BlockId × BasicBlock)). IsOneOf k (edges_at blocks o)) (sym aat)
          (edge_there blocks (successors ablock.terminal) d k named (at_position blocks k d block distinct at)) in
          let above = all_of (IsAbove state_below (unsure_flow c).flow entries steps.0)
          (edges_at blocks (slice_get blocks ka)) k steps.3 edge in
          let out : RowsProper (out_set c ablock h.state) =
          first_proper (ka + 1, out_set c ablock h.state) []
          (step_proper c ka (Some (a, ablock)) h.state q.proper) in
          subst (λ (s : Option BlockId). Covered k d block
          (with_phis s (phis_at d) (through_all c (instructions_at a) (rows_on p)))) (source_is ka a (ablock, aat))
          (below_covers k d block above.0 (ka + 1) (out_set c ablock h.state)
          (through_all c (instructions_at a) (rows_on p)) at above.1 out
          (subst (λ (y : UnsureState). IsTrue (state_below y above.0)) (sym single) above.2)
          (λ z m. subst (λ (ids : List InstructionId). has (through_all c ids (entered blocks ablock.phis h.state)) z
          ≡ true) (instructions_there ka a ablock aat)
          (grows (through_all c (instructions_at a)) z (reads_through c (instructions_at a) z) (rows_on p)
          (entered blocks ablock.phis h.state) h.covers m)))

      value_case : (a d : BlockId) (o : Option BasicBlock) → value_at blocks a ≡ o → IsOneOf d (edges_of o)
          → is_some (value_at blocks a) ≡ true
      value_case a d None g i = absurd i
      value_case a d (Some x) g i = ap is_some g

      -- along a path that comes to a block: the block is there, and what isn't sure on the path isn't where it is
      -- entered
      pub path_covered : {b : BlockId} (p : Path func b) (k : ℕ) (block : BasicBlock) → IsBlockAt k b block
          → Covered k b block (rows_on p)
      path_covered begins k block at = first_covered k block at
      path_covered (goes_on a d p i) k block at =
          let there : is_some (value_at blocks a) ≡ true = value_case a d (value_at blocks a) refl i in
          let n = some_is (position_in blocks a) (found_has_position blocks a there) in
          let x = position_is_at blocks a n.0 n.1 in
          edge_covered a d p i n.0 x.0 x.1 (path_covered p n.0 x.0 x.1) k block at
