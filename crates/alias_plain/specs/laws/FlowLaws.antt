-- What isn't sure is a flow over the positions of blocks.
use Rattle.std.specs.Prelude.{◌≡◌, ℕ, ◌<◌, ◌+◌, Bool, true, false, List, [], ◌∷◌, length, Option, Some, None, is_some}
use Rattle.std.specs.Prelude.{slice_get, refl, cond, if◌then◌else◌}
use Rattle.std.proofs.Common.{ap, sym, ◌∙◌, subst}
use Rattle.std.proofs.Math.Dec.{T}
use Rattle.std.specs.Cmp.{tied_itself}
use Rattle.std.specs.FinMap.{find, is_sorted}
use Rattle.std.specs.FinMap.Entries.{below_all}
use Rattle.std.specs.declared.cmp.Ordering.TheVariants.{Equal}
use Rattle.std.specs.Map.{keys_of}
use Rattle.std.specs.Option.{option_map_or}
use Rattle.std.specs.Ordering.{nat_cmp, eq_by_cmp, is_eq, is_lt}
use Rattle.std.specs.List.{AllByRecursion, range_with_len}
use Rattle.std.proofs.lemmas.Cmp.{nat_cmp_total}
use Rattle.std.proofs.lemmas.List.Quantifiers.{position-Some}
use Rattle.std.proofs.lemmas.Map.Entries.{length-keys_of}
use Rattle.alias_base.specs.Find.{same_block, value_at}
use Rattle.alias_base.specs.declared.ids.BlockId.{BlockId}
use Rattle.alias_base.specs.declared.ids.InstructionId.{InstructionId}
use Rattle.alias_hir.specs.declared.hir.BasicBlock.{BasicBlock}
use Rattle.alias_hir.specs.declared.hir.Instruction.{Instruction}
use Rattle.alias_hir.specs.declared.hir.Phi.{Phi}
use Rattle.alias_hir.specs.Terminals.{successors}
use Rattle.alias_lattice.specs.Flows.{Outcome, Stepped}
use Rattle.alias_lattice.specs.Maps.{ProperOption}
use Rattle.alias_lattice.specs.MapLaws.{lesser, equal}
use Rattle.alias_lattice.specs.PairLaws.{T-first, T-second}
use Rattle.alias_lattice.specs.PutLaws.{proper_put, proper_nil, proper_found, proper_from}
use Rattle.alias_flow.specs.Machine.{FlowLaws, joined}
use Rattle.alias_plainness.specs.Making.{number}
use Rattle.alias_plain.specs.unsure.Sets.{Rows, RowsProper, union, with_member, without_member}
use Rattle.alias_plain.specs.unsure.SetLaws.{set_laws, proper_none, proper_with, proper_without}
use Rattle.alias_hir.specs.PositionLaws.{found_has_position}
use Rattle.alias_hir.specs.Positions.{Blocks, position_in, with_position, positions_of, edges_at}
use Rattle.alias_plain.specs.laws.Scopes.{Scope}
use Rattle.alias_plain.specs.unsure.Ways.{UnsureState, StateProper}
use Rattle.alias_plain.specs.laws.UnsureFlow.{with_members, without_members, sure_numbers, unsure_at_first, source_of}
use Rattle.alias_plain.specs.laws.UnsureFlow.{operand_is_unsure, with_phi, with_phis, entered_from, entered}
use Rattle.alias_plain.specs.laws.UnsureFlow.{rows_or_none, adds_in, through_at, through, through_all, out_set, step_at}
use Rattle.alias_plain.specs.laws.UnsureFlow.{unsure_flow}

-- ---- positions

-- a position is below the number of blocks
pub position_below : (blocks : Blocks) (b : BlockId) (n : ℕ) → position_in blocks b ≡ Some n → n < length blocks
position_below blocks b n e = subst (λ k. n < k) (length-keys_of blocks)
    (position-Some (same_block b) (keys_of blocks) n b e).0

more_below : (o : Option ℕ) (m : ℕ) (ns : List ℕ) → ((n : ℕ) → o ≡ Some n → n < m) → AllByRecursion (λ n. n < m) ns
    → AllByRecursion (λ n. n < m) (with_position o ns)
more_below None m ns h a = a
more_below (Some n) m ns h a = (h n refl, a)

positions_below : (blocks : Blocks) (bs : List BlockId)
    → AllByRecursion (λ n. n < length blocks) (positions_of blocks bs)
positions_below blocks [] = tt
positions_below blocks (b ∷ bs) = more_below (position_in blocks b) (length blocks) (positions_of blocks bs)
    (position_below blocks b) (positions_below blocks bs)

edges_below : (blocks : Blocks) (o : Option (BlockId × BasicBlock))
    → AllByRecursion (λ n. n < length blocks) (edges_at blocks o)
edges_below blocks None = tt
edges_below blocks (Some b) = positions_below blocks (successors b.1.terminal)

entry_below : (o : Option ℕ) (m : ℕ) → is_some o ≡ true → ((n : ℕ) → o ≡ Some n → n < m) → option_map_or (λ n. n) o 0
    < m
entry_below None m h f = cc
entry_below (Some n) m h f = f n refl

-- ---- states stay proper

members_proper : (xs : List ℕ) (s : Rows) → RowsProper s → RowsProper (with_members xs s)
members_proper [] s h = h
members_proper (x ∷ xs) s h = members_proper xs (with_member x s) (proper_with x s h)

others_proper : (xs : List ℕ) (s : Rows) → RowsProper s → RowsProper (without_members xs s)
others_proper [] s h = h
others_proper (x ∷ xs) s h = others_proper xs (without_member x s) (proper_without x s h)

phi_proper : (from : Option BlockId) (s : Rows) (phi : Phi) → RowsProper s → RowsProper (with_phi from s phi)
phi_proper from s phi h =
    elim (operand_is_unsure from phi s) as
    (λ b. RowsProper (if b then with_member (number phi.place) s else without_member (number phi.place) s)) [
      | true ↦ proper_with (number phi.place) s h
      | false ↦ proper_without (number phi.place) s h
    ]

pub phis_proper : (from : Option BlockId) (phis : List Phi) (s : Rows) → RowsProper s
    → RowsProper (with_phis from phis s)
phis_proper from [] s h = h
phis_proper from (phi ∷ phis) s h = phis_proper from phis (with_phi from s phi) (phi_proper from s phi h)

-- a set that is there is proper
abbrev pub ProperIfThere : Option Rows → Type 0
ProperIfThere None = Unit {0}
ProperIfThere (Some s) = RowsProper s

pub joined_proper : (o : Option Rows) (s : Rows) → ProperIfThere o → RowsProper s → RowsProper (joined union o s)
joined_proper None s h i = i
joined_proper (Some r) s h i = set_laws.closed r s h i

pub rows_proper : (o : Option Rows) → ProperIfThere o → RowsProper (rows_or_none o)
rows_proper None h = proper_none
rows_proper (Some s) h = h

-- a key that ties with the first isn't found behind it
pub find_behind : (q k : ℕ) (es : List (ℕ × Rows)) → nat_cmp q k ≡ Equal → T (below_all nat_cmp k es)
    → find nat_cmp q es ≡ None
find_behind q k [] t h = refl
find_behind q k (e ∷ es) t h =
    ap (λ r. cond (is_eq r) (Some e.1) (find nat_cmp q es))
    (nat_cmp_total.congr q k e.0 t ∙ lesser _ (T-first (is_lt (nat_cmp k e.0)) (below_all nat_cmp k es) h))
    ∙ find_behind q k es t (T-second (is_lt (nat_cmp k e.0)) (below_all nat_cmp k es) h)

pub first_found : (e : ℕ × Rows) (es : List (ℕ × Rows)) → find nat_cmp e.0 (e ∷ es) ≡ Some e.1
first_found e es = ap (λ r. cond (is_eq r) (Some e.1) (find nat_cmp e.0 es)) (tied_itself nat_cmp_total e.0)

-- the set of the first entry is proper, and so are the others
pub first_proper : (e : ℕ × Rows) (es : UnsureState) → StateProper (e ∷ es) → RowsProper e.1
first_proper e es h = subst (ProperOption RowsProper) (first_found e es)
    (proper_found nat_cmp RowsProper (e ∷ es) h e.0)

later_proper : (e : ℕ × Rows) (es : UnsureState) (q : ℕ) (t : Bool) → T (is_sorted nat_cmp (e ∷ es))
    → eq_by_cmp nat_cmp q e.0 ≡ t → ProperOption RowsProper (cond t (Some e.1) (find nat_cmp q es))
    → ProperOption RowsProper (find nat_cmp q es)
later_proper e es q true s g h =
    subst (ProperOption RowsProper) (sym (find_behind q e.0 es (equal (nat_cmp q e.0) (subst T (sym g) tt))
    (T-first (below_all nat_cmp e.0 es) (is_sorted nat_cmp es) s))) tt
later_proper e es q false s g h = h

pub rest_proper : (e : ℕ × Rows) (es : UnsureState) → StateProper (e ∷ es) → StateProper es
rest_proper e es h =
    proper_from nat_cmp RowsProper es (T-second (below_all nat_cmp e.0 es) (is_sorted nat_cmp es) h.0)
    (λ q. later_proper e es q (eq_by_cmp nat_cmp q e.0) h.0 refl (proper_found nat_cmp RowsProper (e ∷ es) h q))

entered_from_proper : (blocks : Blocks) (phis : List Phi) (o : Option Rows) (es : UnsureState) → ProperIfThere o
    → StateProper es → ProperIfThere (entered_from blocks phis o es)
entered_from_proper blocks phis o [] h i = h
entered_from_proper blocks phis o (e ∷ es) h i =
    entered_from_proper blocks phis (Some (joined union o (with_phis (source_of blocks e.0) phis e.1))) es
    (joined_proper o (with_phis (source_of blocks e.0) phis e.1) h
    (phis_proper (source_of blocks e.0) phis e.1 (first_proper e es i)))
    (rest_proper e es i)

pub entered_proper : (blocks : Blocks) (phis : List Phi) (x : UnsureState) → StateProper x
    → RowsProper (entered blocks phis x)
entered_proper blocks phis x h = rows_proper (entered_from blocks phis None x)
    (entered_from_proper blocks phis None x tt h)

pub one_proper : (key : ℕ) (s : Rows) → RowsProper s → StateProper ((key, s) ∷ [])
one_proper key s h = proper_put nat_cmp RowsProper nat_cmp_total key s [] (proper_nil nat_cmp RowsProper) h

pub unsure_at_first_proper : (c : Scope) → RowsProper (unsure_at_first c)
unsure_at_first_proper c = others_proper (sure_numbers c.func) _
    (members_proper (range_with_len 0 (length c.env.identifiers)) [] proper_none)

module _ (c : Scope) where
  through_proper : (s : Rows) (o : Option Instruction) → RowsProper s → RowsProper (through_at c s o)
  through_proper s None h = h
  through_proper s (Some i) h = others_proper (adds_in c i) s h

  pub through_all_proper : (is : List InstructionId) (s : Rows) → RowsProper s → RowsProper (through_all c is s)
  through_all_proper [] s h = h
  through_all_proper (i ∷ is) s h = through_all_proper is (through c s i)
      (through_proper s (slice_get c.func.instructions i.0) h)

  pub step_proper : (n : ℕ) (o : Option (BlockId × BasicBlock)) (x : UnsureState) → StateProper x
      → StateProper (step_at c n o x)
  step_proper n None x h = h
  step_proper n (Some b) x h = one_proper (n + 1) (out_set c b.1 x)
      (through_all_proper b.1.instructions _ (entered_proper c.func.body.blocks b.1.phis x h))

pub stepped_is : (x y : UnsureState) (t u k l : Unit {0})
    → ◌≡◌ {A = Outcome UnsureState (Unit {0}) (Unit {0}) (Unit {0})} (Stepped x t k) (Stepped y u l) → x ≡ y
stepped_is x y t u k l e = cc

-- where the entry is a block, it is a flow over the positions of blocks
pub unsure_laws : (c : Scope) → is_some (value_at c.func.body.blocks c.func.body.entry) ≡ true
    → (recorded : List (Option (Unit {0}))) → length recorded ≡ length c.func.body.blocks
    → FlowLaws StateProper (λ (t u : Unit {0}). Unit {0}) (unsure_flow c) recorded
unsure_laws c at_index recorded long =
    let blocks = c.func.body.blocks in
    let entry = c.func.body.entry in
    record {
      recorded_length = long;
      initial_proper = one_proper 0 (unsure_at_first c) (unsure_at_first_proper c);
      step_proper = λ t n x y u k p e. subst StateProper (stepped_is _ y tt u tt k e)
          (step_proper c n (slice_get blocks n) x p);
      entry_below = entry_below (position_in blocks entry) (length blocks) (found_has_position blocks entry at_index)
          (position_below blocks entry);
      edges_below = λ n h. edges_below blocks (slice_get blocks n);
      reflexive = λ t. tt;
      transitive = λ t u v g h. tt;
      grow = λ t n x y u k e. tt;
      replay = λ t n x y u v k e g. ap (λ (z : UnsureState). Stepped z tt tt) (stepped_is _ y tt u tt k e);
    }
