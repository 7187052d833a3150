-- What it says of instructions that they were gone through, or that one broke a condition.
use Rattle.std.specs.Prelude.{◌≡◌, ℕ, ◌+◌, List, [], ◌∷◌, ◌++◌, Option, Some, None, Result, Ok, Err, ⊤, slice_get}
use Rattle.std.specs.Prelude.{slice_index_or, refl}
use Rattle.std.proofs.Common.{zero, suc, ap, subst, arith}
use Rattle.alias_base.specs.declared.ids.BlockId.{BlockId}
use Rattle.alias_base.specs.declared.ids.IdentifierId.{IdentifierId}
use Rattle.alias_base.specs.declared.ids.InstructionId.{InstructionId}
use Rattle.alias_hir.specs.declared.env.Environment.{Environment}
use Rattle.alias_hir.specs.declared.hir.BasicBlock.{BasicBlock}
use Rattle.alias_hir.specs.declared.hir.Instruction.{Instruction}
use Rattle.alias_hir.specs.declared.report.Report.{Report}
use Rattle.alias_hir.specs.declared.signature.AliasingSignatureConfig.{AliasingSignatureConfig}
use Rattle.alias_hir.specs.declared.signature.FunctionSignature.{FunctionSignature}
use Rattle.alias_signature.specs.Globals.{instruction_report}
use Rattle.alias_tables.specs.declared.faults.Refusal.{Refusal}
use Rattle.alias_tables.specs.declared.faults.Refusal.TheVariants as refusal
use Rattle.alias_tables.specs.Steps.{and_then}
use Rattle.alias_tables.specs.Tables.{TableLists, intern_report}
use Rattle.alias_calls.specs.Configs.{config_expansion}
use Rattle.alias_plainness.specs.Calls.{Called, called_by, row_of}
use Rattle.alias_plain.specs.unsure.Sets.{Rows}
use Rattle.alias_plain.specs.declared.laws.stop.Stop.{Stop}
use Rattle.alias_plain.specs.declared.laws.stop.Stop.TheVariants.{Broken, NotSettled, TooMany}
use Rattle.alias_plain.specs.laws.Scopes.{Scope}
use Rattle.alias_plain.specs.unsure.Ways.{UnsureState}
use Rattle.alias_plain.specs.laws.UnsureFlow.{list_in, through, through_all, entered}
use Rattle.alias_plain.specs.laws.Scans.{counted, count_reported, count_part, count_row, count_call, failing_of}
use Rattle.alias_plain.specs.laws.Scans.{stops_at, check, check_at, scan_instructions, scan_block, scan_from}

abbrev pub Scanned : Type 0
Scanned = Result (⊤ × TableLists) Stop

-- ---- one step after another

-- where both are gone through, each is
both_done : (r : Scanned) (f : ⊤ → TableLists → Scanned) (p : ⊤ × TableLists) → and_then r f ≡ Ok p
    → (q : ⊤ × TableLists) × (r ≡ Ok q) × (f q.0 q.1 ≡ Ok p)
both_done (Ok q) f p h = (q, refl, h)
both_done (Err e) f p h = cc

-- where one of two stops, it is the first, or else the second once the first is gone through
data StopsIn (r : Scanned) (f : ⊤ → TableLists → Scanned) (e : Stop) : Type 0 where
  InFirst : r ≡ Err e → StopsIn r f e
  InSecond : (q : ⊤ × TableLists) → r ≡ Ok q → f q.0 q.1 ≡ Err e → StopsIn r f e

one_stops : (r : Scanned) (f : ⊤ → TableLists → Scanned) (e : Stop) → and_then r f ≡ Err e → StopsIn r f e
one_stops (Ok q) f e h = InSecond q refl h
one_stops (Err d) f e h = InFirst h

-- ---- numbers stop, but break nothing

counted_breaks : {A : Type 0} (r : Result (A × TableLists) Refusal) (i : InstructionId) (rule : ℕ) → counted r
    ≡ Err (Broken i rule) → ⊥
counted_breaks (Ok p) i rule h = cc
counted_breaks (Err (refusal.TooMany which)) i rule h = cc
counted_breaks (Err (refusal.Reinitialized x)) i rule h = cc
counted_breaks (Err (refusal.AliasBeforeCreate x)) i rule h = cc
counted_breaks (Err (refusal.IncompatibleLibrary report)) i rule h = cc
counted_breaks (Err (refusal.SpreadArgument span report)) i rule h = cc

reported_breaks : (o : Option (IdentifierId × Report)) (t : TableLists) (i : InstructionId) (rule : ℕ)
    → count_reported o t ≡ Err (Broken i rule) → ⊥
reported_breaks None t i rule h = cc
reported_breaks (Some reported) t i rule h = counted_breaks (intern_report reported.0 reported.1 t) i rule h

module _ (env : Environment) where
  part_breaks : (c : Called) (o : Option AliasingSignatureConfig) (t : TableLists) (i : InstructionId) (rule : ℕ)
      → count_part env c o t ≡ Err (Broken i rule) → ⊥
  part_breaks c None t i rule h = cc
  part_breaks c (Some part) t i rule h = counted_breaks (config_expansion env part c.site c.args t) i rule h

  row_breaks : (c : Called) (o : Option FunctionSignature) (t : TableLists) (i : InstructionId) (rule : ℕ)
      → count_row env c o t ≡ Err (Broken i rule) → ⊥
  row_breaks c None t i rule h = cc
  row_breaks c (Some s) t i rule h = part_breaks c s.aliasing t i rule h

  call_breaks : (o : Option Called) (t : TableLists) (i : InstructionId) (rule : ℕ) → count_call env o t
      ≡ Err (Broken i rule) → ⊥
  call_breaks None t i rule h = cc
  call_breaks (Some c) t i rule h = row_breaks c (row_of env c) t i rule h

-- ---- instructions

stop_passes : (id : InstructionId) (o : Option ℕ) (t : TableLists) (p : ⊤ × TableLists) → stops_at id o t ≡ Ok p → o
    ≡ None
stop_passes id None t p h = refl
stop_passes id (Some rule) t p h = cc

broken_is : (i j : InstructionId) (m n : ℕ) → ◌≡◌ {A = Scanned} (Err (Broken i m)) (Err (Broken j n)) → (i ≡ j)
    × (m ≡ n)
broken_is i j m n h = (cc, cc)

stop_breaks : (id i : InstructionId) (o : Option ℕ) (t : TableLists) (rule : ℕ) → stops_at id o t ≡ Err (Broken i rule)
    → (id ≡ i) × (o ≡ Some rule)
stop_breaks id i None t rule h = cc
stop_breaks id i (Some m) t rule h = let e = broken_is id i m rule h in (e.0, ap Some e.1)

module _ (c : Scope) where
  abbrev Failing : Rows → Instruction → Option ℕ
  Failing s x = failing_of c.env s x (list_in c x)

  check_passes : (s : Rows) (id : InstructionId) (x : Instruction) (t : TableLists) (p : ⊤ × TableLists)
      → check c s id x t ≡ Ok p → Failing s x ≡ None
  check_passes s id x t p h =
      let a = both_done (count_reported (instruction_report x.value x.span) t) _ p h in
      let b = both_done (count_call c.env (called_by (list_in c x)) a.0.1) _ p a.2 in
      stop_passes id (Failing s x) b.0.1 p b.2

  check_breaks : (s : Rows) (id i : InstructionId) (x : Instruction) (t : TableLists) (rule : ℕ) → check c s id x t
      ≡ Err (Broken i rule) → (id ≡ i) × (Failing s x ≡ Some rule)
  check_breaks s id i x t rule h =
      elim (one_stops (count_reported (instruction_report x.value x.span) t) _ (Broken i rule) h) as
      (λ w. (id ≡ i) × (Failing s x ≡ Some rule)) [
        | InFirst e ↦ absurd (reported_breaks (instruction_report x.value x.span) t i rule e)
        | InSecond q e f ↦ elim (one_stops (count_call c.env (called_by (list_in c x)) q.1) _ (Broken i rule) f) as
            (λ w. (id ≡ i) × (Failing s x ≡ Some rule)) [
              | InFirst g ↦ absurd (call_breaks c.env (called_by (list_in c x)) q.1 i rule g)
              | InSecond r g k ↦ stop_breaks id i (Failing s x) r.1 rule k
            ]
      ]

  -- no condition of the instruction of the number fails behind this set
  abbrev pub PassesFrom : Rows → InstructionId → Type 0
  PassesFrom s i = (x : Instruction) → slice_get c.func.instructions i.0 ≡ Some x → Failing s x ≡ None

  -- the first that fails is this one
  pub record FailsFrom (s : Rows) (i : InstructionId) (rule : ℕ) : Type 0 where
    pub instruction : Instruction
    pub found : slice_get c.func.instructions i.0 ≡ Some instruction
    pub fails : Failing s instruction ≡ Some rule

  at_passes : (s : Rows) (id : InstructionId) (o : Option Instruction) (t : TableLists) (p : ⊤ × TableLists)
      → check_at c s id o t ≡ Ok p → (x : Instruction) → o ≡ Some x → Failing s x ≡ None
  at_passes s id None t p h x e = cc
  at_passes s id (Some y) t p h x e = let same : y ≡ x = cc in
      subst (λ (z : Instruction). Failing s z ≡ None) same (check_passes s id y t p h)

  at_breaks : (s : Rows) (id i : InstructionId) (o : Option Instruction) (t : TableLists) (rule : ℕ)
      → slice_get c.func.instructions id.0 ≡ o → check_at c s id o t ≡ Err (Broken i rule) → (id ≡ i)
      × FailsFrom s i rule
  at_breaks s id i None t rule g h = cc
  at_breaks s id i (Some x) t rule g h =
      let e = check_breaks s id i x t rule h in (
        e.0,
        record {
          instruction = x;
          found =
              subst (λ (j : InstructionId). slice_get c.func.instructions j.0 ≡ Some x) e.0 g;
          fails = e.1;
        },
      )

  -- each passes behind those before it
  abbrev pub AllPassFrom : Rows → List InstructionId → Type 0
  AllPassFrom s ids = (done : List InstructionId) (i : InstructionId) (rest : List InstructionId) → ids ≡ done ++ i
      ∷ rest → PassesFrom (through_all c done s) i

  heads : (a b : InstructionId) (xs ys : List InstructionId) → a ∷ xs ≡ b ∷ ys → (a ≡ b) × (xs ≡ ys)
  heads a b xs ys h = (cc, cc)

  none_pass : (s : Rows) → AllPassFrom s []
  none_pass s [] i rest e = cc
  none_pass s (d ∷ done) i rest e = cc

  more_pass : (s : Rows) (id : InstructionId) (ids : List InstructionId) → PassesFrom s id
      → AllPassFrom (through c s id) ids → AllPassFrom s (id ∷ ids)
  more_pass s id ids h k [] i rest e = subst (PassesFrom s) (heads id i ids rest e).0 h
  more_pass s id ids h k (d ∷ done) i rest e =
      let same = heads id d ids (done ++ i ∷ rest) e in
      subst (λ (j : InstructionId). PassesFrom (through_all c done (through c s j)) i) same.0 (k done i rest same.1)

  pub instructions_pass : (ids : List InstructionId) (s : Rows) (t : TableLists) (p : ⊤ × TableLists)
      → scan_instructions c ids s t ≡ Ok p → AllPassFrom s ids
  instructions_pass [] s t p h = none_pass s
  instructions_pass (id ∷ ids) s t p h =
      let a = both_done (check_at c s id (slice_get c.func.instructions id.0) t) _ p h in
      more_pass s id ids (at_passes s id (slice_get c.func.instructions id.0) t a.0 a.1)
      (instructions_pass ids (through c s id) a.0.1 p a.2)

  -- one of them fails, and those before it pass
  pub record BreaksIn (s : Rows) (ids : List InstructionId) (i : InstructionId) (rule : ℕ) : Type 0 where
    pub done : List InstructionId
    pub rest : List InstructionId
    pub split : ids ≡ done ++ i ∷ rest
    pub fails : FailsFrom (through_all c done s) i rule
    pub earlier : AllPassFrom s done

  pub instructions_break : (ids : List InstructionId) (s : Rows) (t : TableLists) (i : InstructionId) (rule : ℕ)
      → scan_instructions c ids s t ≡ Err (Broken i rule) → BreaksIn s ids i rule
  instructions_break [] s t i rule h = cc
  instructions_break (id ∷ ids) s t i rule h =
      elim (one_stops (check_at c s id (slice_get c.func.instructions id.0) t) _ (Broken i rule) h) as
      (λ w. BreaksIn s (id ∷ ids) i rule) [
        | InFirst e ↦
            let b = at_breaks s id i (slice_get c.func.instructions id.0) t rule refl e in
            record {
              done = [];
              rest = ids;
              split = ap (λ (j : InstructionId). j ∷ ids) b.0;
              fails = b.1;
              earlier = none_pass s;
            }
        | InSecond q e f ↦
            let b = instructions_break ids (through c s id) q.1 i rule f in
            record {
              done = id ∷ b.done;
              rest = b.rest;
              split = ap (λ (l : List InstructionId). id ∷ l) b.split;
              fails = b.fails;
              earlier = more_pass s id b.done (at_passes s id (slice_get c.func.instructions id.0) t q e) b.earlier;
            }
      ]

  -- ---- blocks

  abbrev Block : Type 0
  Block = BlockId × BasicBlock

  -- in a block that has a state, each passes behind what the state says
  abbrev pub BlockPasses : Block → Option UnsureState → Type 0
  BlockPasses b o = (x : UnsureState) → o ≡ Some x
      → AllPassFrom (entered c.func.body.blocks b.1.phis x) b.1.instructions

  block_passes : (b : Block) (o : Option UnsureState) (t : TableLists) (p : ⊤ × TableLists) → scan_block c b.1 o t
      ≡ Ok p → BlockPasses b o
  block_passes b None t p h x e = cc
  block_passes b (Some y) t p h x e =
      let same : y ≡ x = cc in
      subst (λ (z : UnsureState). AllPassFrom (entered c.func.body.blocks b.1.phis z) b.1.instructions) same
      (instructions_pass b.1.instructions (entered c.func.body.blocks b.1.phis y) t p h)

  pub record BlockBreaks (b : Block) (o : Option UnsureState) (i : InstructionId) (rule : ℕ) : Type 0 where
    pub state : UnsureState
    pub there : o ≡ Some state
    pub breaks : BreaksIn (entered c.func.body.blocks b.1.phis state) b.1.instructions i rule

  block_breaks : (b : Block) (o : Option UnsureState) (t : TableLists) (i : InstructionId) (rule : ℕ)
      → scan_block c b.1 o t ≡ Err (Broken i rule) → BlockBreaks b o i rule
  block_breaks b None t i rule h = cc
  block_breaks b (Some x) t i rule h = record {
    state = x;
    there = refl;
    breaks = instructions_break b.1.instructions (entered c.func.body.blocks b.1.phis x) t
        i rule h;
  }

  module _ (entries : List (Option UnsureState)) where
    -- the blocks, of which the first has the position, pass
    abbrev pub BlocksPass : ℕ → List Block → Type 0
    BlocksPass n [] = Unit {0}
    BlocksPass n (b ∷ bs) = BlockPasses b (slice_index_or entries n None) × BlocksPass (n + 1) bs

    pub blocks_pass : (bs : List Block) (n : ℕ) (t : TableLists) (p : ⊤ × TableLists) → scan_from c entries n bs t
        ≡ Ok p → BlocksPass n bs
    blocks_pass [] n t p h = tt
    blocks_pass (b ∷ bs) n t p h =
        let a = both_done (scan_block c b.1 (slice_index_or entries n None) t) _ p h in
        (block_passes b (slice_index_or entries n None) t a.0 a.1, blocks_pass bs (n + 1) a.0.1 p a.2)

    -- one of them breaks a condition, and those before it pass
    pub record BlocksBreak (n : ℕ) (bs : List Block) (i : InstructionId) (rule : ℕ) : Type 0 where
      pub before : List Block
      pub block : Block
      pub behind : List Block
      pub position : ℕ
      pub split : bs ≡ before ++ block ∷ behind
      pub place : slice_get bs position ≡ Some block
      pub breaks : BlockBreaks block (slice_index_or entries (n + position) None) i rule
      pub earlier : BlocksPass n before

    pub blocks_break : (bs : List Block) (n : ℕ) (t : TableLists) (i : InstructionId) (rule : ℕ)
        → scan_from c entries n bs t ≡ Err (Broken i rule) → BlocksBreak n bs i rule
    blocks_break [] n t i rule h = cc
    blocks_break (b ∷ bs) n t i rule h =
        elim (one_stops (scan_block c b.1 (slice_index_or entries n None) t) _ (Broken i rule) h) as
        (λ w. BlocksBreak n (b ∷ bs) i rule) [
          | InFirst e ↦
              let here : n ≡ n + 0 = omega arith in
              record {
                before = [];
                block = b;
                behind = bs;
                position = 0;
                split = refl;
                place = refl;
                breaks = subst (λ (m : ℕ). BlockBreaks b (slice_index_or entries m None) i rule) here
                    (block_breaks b (slice_index_or entries n None) t i rule e);
                earlier = tt;
              }
          | InSecond q e f ↦
              let r = blocks_break bs (n + 1) q.1 i rule f in
              let there : (n + 1) + r.position ≡ n + suc r.position = omega arith in
              record {
                before = b ∷ r.before;
                block = r.block;
                behind = r.behind;
                position = suc r.position;
                split = ap (λ (l : List Block). b ∷ l) r.split;
                place = r.place;
                breaks = subst (λ (m : ℕ). BlockBreaks r.block (slice_index_or entries m None) i rule) there r.breaks;
                earlier = (block_passes b (slice_index_or entries n None) t q e, r.earlier);
              }
        ]

    -- the block at a position passes
    pub pass_at : (bs : List Block) (n k : ℕ) (b : Block) → BlocksPass n bs → slice_get bs k ≡ Some b
        → BlockPasses b (slice_index_or entries (n + k) None)
    pass_at [] n k b h e = cc
    pass_at (x ∷ bs) n zero b h e =
        let here : n ≡ n + 0 = omega arith in
        let same : x ≡ b = cc in
        subst (λ (m : ℕ). BlockPasses b (slice_index_or entries m None)) here
        (subst (λ (y : Block). BlockPasses y (slice_index_or entries n None)) same h.0)
    pass_at (x ∷ bs) n (suc k) b h e =
        let there : (n + 1) + k ≡ n + suc k = omega arith in
        subst (λ (m : ℕ). BlockPasses b (slice_index_or entries m None)) there (pass_at bs (n + 1) k b h.1 e)
