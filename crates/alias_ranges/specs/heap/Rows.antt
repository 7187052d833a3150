-- A small function of which the heap reading is computed: two branches join, and what a phi holds stores an object that
-- is written then.
use Rattle.std.proofs.Common.{refl, inl}
use Rattle.std.specs.Prelude.{ℕ, false, List, [], ◌∷◌, Some, None}
use Rattle.alias_base.specs.declared.ids.BlockId.{BlockId}
use Rattle.alias_base.specs.declared.ids.IdentifierId.{IdentifierId}
use Rattle.alias_hir.specs.declared.effect.AliasingEffect.{AliasingEffect}
use Rattle.alias_hir.specs.declared.effect.AliasingEffect.TheVariants.{Create, Capture, Mutate}
use Rattle.alias_hir.specs.declared.effect.ValueKind.TheVariants.{Mutable}
use Rattle.alias_hir.specs.declared.effect.ValueReason.TheVariants.{Other}
use Rattle.alias_hir.specs.declared.hir.BasicBlock.{BasicBlock}
use Rattle.alias_hir.specs.declared.hir.FunctionType.TheVariants.{Other as OtherFunction}
use Rattle.alias_hir.specs.declared.hir.HirFunction.{HirFunction}
use Rattle.alias_hir.specs.declared.hir.Instruction.{Instruction}
use Rattle.alias_hir.specs.declared.hir.Phi.{Phi}
use Rattle.alias_hir.specs.declared.place.Effect.TheVariants.{Unknown}
use Rattle.alias_hir.specs.declared.place.Place.{Place}
use Rattle.alias_hir.specs.declared.terminal.Terminal.TheVariants.{Goto, If, Return}
use Rattle.alias_hir.specs.declared.value.InstructionValue.TheVariants.{Debugger}
use Rattle.alias_ranges.specs.heap.Heap.{Object}
use Rattle.alias_ranges.specs.heap.Items.{Enters, Does}
use Rattle.alias_ranges.specs.heap.Paths.{Moment}

abbrev pub id : ℕ → IdentifierId
id n = record { 0 = n }

abbrev pub block : ℕ → BlockId
block n = record { 0 = n }

abbrev pub use_of : ℕ → Place
use_of n = record { identifier = id n; effect = Unknown; reactive = false; span = None }

-- an instruction of this order, with what is recorded of it
abbrev pub recorded_at : ℕ → List AliasingEffect → Instruction
recorded_at order effects = record {
  id = record { 0 = order };
  lvalue = use_of 0;
  value = Debugger;
  span = None;
  effects = Some effects;
}

abbrev pub new_value : ℕ → AliasingEffect
new_value n = Create (use_of n) Mutable Other

abbrev pub first_block : BasicBlock
first_block = record {
  phis = [];
  instructions = record { 0 = 0 } ∷ [];
  terminal = If (record { 0 = 2 }) (use_of 1) (block 11) (block 12);
}

abbrev pub branch : ℕ → BasicBlock
branch order = record { phis = []; instructions = []; terminal = Goto (record { 0 = order }) (block 13) }

-- 4 is 1 where control comes from block 11, and 2 where it comes from block 12
abbrev pub joined_phi : Phi
joined_phi = record { place = use_of 4; operands = (block 11, use_of 1) ∷ (block 12, use_of 2) ∷ [] }

abbrev pub last_block : BasicBlock
last_block = record {
  phis = joined_phi ∷ [];
  instructions = record { 0 = 1 } ∷ record { 0 = 2 } ∷ [];
  terminal = Return (record { 0 = 7 }) (use_of 4) None;
}

-- 1, 2 and 3 are made, 4 is 1 or 2, 3 is put into 4, and then 3 is written
abbrev pub branching : HirFunction
branching = record {
  fn_type = OtherFunction;
  params = [];
  context = [];
  context_values = [];
  returns = use_of 0;
  body = record {
    entry = block 10;
    blocks = (block 10, first_block) ∷ (block 11, branch 3) ∷ (block 12, branch 4)
        ∷ (block 13, last_block) ∷ [];
  };
  instructions = recorded_at 1 (new_value 1 ∷ new_value 2 ∷ new_value 3 ∷ [])
      ∷ recorded_at 5 (Capture (use_of 3) (use_of 4) ∷ []) ∷ recorded_at 6 (Mutate (use_of 3) None ∷ []) ∷ [];
  is_async = false;
  span = None;
  aliasing_effects = None;
}

-- the path comes by the first branch, and 3 is about to be written
abbrev pub by_first_branch : Moment branching
by_first_branch = record {
  before = block 10 ∷ block 11 ∷ [];
  here = block 13;
  block = last_block;
  done = Enters joined_phi ∷ Does (record { 0 = 1 }) (record { 0 = 5 }) (Capture (use_of 3) (use_of 4)) ∷ [];
  instruction = record { 0 = 2 };
  order = record { 0 = 6 };
  next = Mutate (use_of 3) None;
  rest = [];
  path = (refl, (first_block, refl, inl refl, (branch 3, refl, inl refl, tt)));
  found = refl;
  split = refl;
}

-- the object that is made for the place of this number; the places are made in this order, what is returned first
abbrev pub object_of : ℕ → Object
object_of n = record { number = n; origin = id n }
