-- Which identifiers aren't sure, as a flow over the positions of blocks. The state of a block has a set for each block
-- that was gone on
-- from, known by one more than its position, and one, known by 0, for the beginning of a path.
use Rattle.std.specs.Prelude.{ℕ, ◌+◌, ◌-◌, ◌==◌, Bool, true, List, [], ◌∷◌, ◌++◌, length, map, Option, Some, None}
use Rattle.std.specs.Prelude.{option_map, slice_get, replicate, if◌then◌else◌}
use Rattle.std.specs.Option.{option_map_or}
use Rattle.std.specs.List.{fold, range_with_len}
use Rattle.alias_base.specs.Find.{value_at}
use Rattle.alias_base.specs.declared.ids.BlockId.{BlockId}
use Rattle.alias_base.specs.declared.ids.InstructionId.{InstructionId}
use Rattle.alias_hir.specs.declared.effect.AliasingEffect.{AliasingEffect}
use Rattle.alias_hir.specs.declared.hir.BasicBlock.{BasicBlock}
use Rattle.alias_hir.specs.declared.hir.HirFunction.{HirFunction}
use Rattle.alias_hir.specs.declared.hir.Instruction.{Instruction}
use Rattle.alias_hir.specs.declared.hir.Phi.{Phi}
use Rattle.alias_hir.specs.declared.place.Place.{Place}
use Rattle.alias_hir.specs.Positions.{Blocks, edges_at, entry_position}
use Rattle.alias_lattice.specs.Flows.{Stepped}
use Rattle.alias_flow.specs.Machine.{Rules, VisitLog, End, joined, solution}
use Rattle.alias_signature.specs.Known.{known}
use Rattle.alias_signature.specs.Signatures.{signature_of}
use Rattle.alias_plainness.specs.Making.{number, all_made}
use Rattle.alias_plainness.specs.Sureness.{defined_params}
use Rattle.alias_plain.specs.unsure.Sets.{Rows, has, with_member, without_member, union}
use Rattle.alias_plain.specs.unsure.Ways.{UnsureState, state_join, state_below}
use Rattle.alias_plain.specs.laws.Scopes.{Scope}

-- ---- sets

abbrev pub with_members : List ℕ → Rows → Rows
with_members xs s = fold (λ (r : Rows) (x : ℕ). with_member x r) s xs

abbrev pub without_members : List ℕ → Rows → Rows
without_members xs s = fold (λ (r : Rows) (x : ℕ). without_member x r) s xs

-- the context places, and the parameters that have a value as the function begins
abbrev pub sure_numbers : HirFunction → List ℕ
sure_numbers func = map number (func.context ++ defined_params func.fn_type func.params)

-- all identifiers but these
abbrev pub unsure_at_first : Scope → Rows
unsure_at_first c = without_members (sure_numbers c.func)
    (with_members (range_with_len 0 (length c.env.identifiers)) [])

-- ---- entering a block

-- the block that a key stands for
abbrev pub source_of : Blocks → ℕ → Option BlockId
source_of blocks key = if key == 0 then None
    else option_map (λ (b : BlockId × BasicBlock). b.0) (slice_get blocks (key - 1))

-- the operand for the block isn't sure, or there is none
abbrev pub operand_is_unsure : Option BlockId → Phi → Rows → Bool
operand_is_unsure None phi s = true
operand_is_unsure (Some b) phi s = option_map_or (λ (p : Place). has s (number p)) (value_at phi.operands b) true

-- the phi is sure exactly where its operand is
abbrev pub with_phi : Option BlockId → Rows → Phi → Rows
with_phi from s phi = if operand_is_unsure from phi s then with_member (number phi.place) s
    else without_member (number phi.place) s

abbrev pub with_phis : Option BlockId → List Phi → Rows → Rows
with_phis from phis s = fold (with_phi from) s phis

-- the entries' sets after the phis, each taken in with what there is so far
abbrev pub entered_from : Blocks → List Phi → Option Rows → List (ℕ × Rows) → Option Rows
entered_from blocks phis so_far [] = so_far
entered_from blocks phis so_far (e ∷ es) =
    entered_from blocks phis (Some (joined union so_far (with_phis (source_of blocks e.0) phis e.1))) es

abbrev pub rows_or_none : Option Rows → Rows
rows_or_none None = []
rows_or_none (Some s) = s

-- what isn't sure on some way into the block
abbrev pub entered : Blocks → List Phi → UnsureState → Rows
entered blocks phis x = rows_or_none (entered_from blocks phis None x)

-- ---- instructions

module _ (c : Scope) where
  abbrev pub list_in : Instruction → List AliasingEffect
  list_in i = signature_of (known c.env c.facts None) i

  abbrev pub adds_in : Instruction → List ℕ
  adds_in i = number i.lvalue ∷ all_made (list_in i)

  abbrev pub through_at : Rows → Option Instruction → Rows
  through_at s None = s
  through_at s (Some i) = without_members (adds_in i) s

  -- after the instruction of a number
  abbrev pub through : Rows → InstructionId → Rows
  through s i = through_at s (slice_get c.func.instructions i.0)

  abbrev pub through_all : List InstructionId → Rows → Rows
  through_all is s = fold through s is

  -- ---- the flow

  abbrev pub out_set : BasicBlock → UnsureState → Rows
  out_set b x = through_all b.instructions (entered c.func.body.blocks b.phis x)

  -- a position past the end does nothing
  abbrev pub step_at : ℕ → Option (BlockId × BasicBlock) → UnsureState → UnsureState
  step_at n None x = x
  step_at n (Some b) x = (n + 1, out_set b.1 x) ∷ []

  abbrev pub unsure_flow : Rules UnsureState (Unit {0}) (Unit {0}) (Unit {0})
  unsure_flow = record {
    blocks = length c.func.body.blocks;
    flow = record {
      entry = entry_position c.func;
      initial = (0, unsure_at_first c) ∷ [];
      edges = λ n. edges_at c.func.body.blocks (slice_get c.func.body.blocks n);
      step = λ tables n x. Stepped (step_at n (slice_get c.func.body.blocks n) x) tt tt;
    };
  }

  -- how the sequence of visits ends
  abbrev pub unsure_end : End (VisitLog UnsureState) (Unit {0}) (Unit {0}) (Unit {0})
  unsure_end = solution state_join state_below unsure_flow tt (replicate (length c.func.body.blocks) None)
