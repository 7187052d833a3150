-- The instructions, blocks and functions that JSON data spell.
use Rattle.std.specs.Prelude.{[], ◌∷◌, None, Ok, ⊤, codes}
use Rattle.alias_base.specs.Answer.{◌>>=◌}
use Rattle.alias_base.specs.declared.ids.InstructionId.{InstructionId}
use Rattle.alias_hir.specs.declared.place.Place.{Place}
use Rattle.alias_hir.specs.declared.hir.Instruction.{Instruction}
use Rattle.alias_hir.specs.declared.hir.Phi.{Phi}
use Rattle.alias_hir.specs.declared.hir.BasicBlock.{BasicBlock}
use Rattle.alias_hir.specs.declared.hir.HirFunction.{HirFunction}
use Rattle.alias_json.specs.Pointer.{at_key, at_index}
use Rattle.alias_json.specs.Reading.{Reads, number_at, object_at, known_keys, array_of}
use Rattle.alias_read.specs.Json.{required, optional, list_of, flag, element}
use Rattle.alias_read.specs.Entries.{ReadsEntry, block_id_at, new_block, entries_at}
use Rattle.alias_json.specs.Names.{named_at}
use Rattle.alias_read.specs.Names.{function_type_names}
use Rattle.alias_read.specs.Places.{place_at, span_at, param_at}
use Rattle.alias_read.specs.Values.{instruction_value_at}
use Rattle.alias_read.specs.Terminals.{terminal_at}

abbrev pub instruction_at : Reads Instruction
instruction_at p d = do
  _ ← object_at p d
  id ← required number_at p (codes "id") d
  lvalue ← required place_at p (codes "lvalue") d
  computed ← required instruction_value_at p (codes "value") d
  span ← optional span_at p (codes "span") d
  _ ← known_keys (codes "id" ∷ codes "lvalue" ∷ codes "value" ∷ codes "span" ∷ []) p d
  Ok (record { id = record { 0 = id }; lvalue = lvalue; value = computed; span = span; effects = None })

abbrev pub instruction_id_at : Reads InstructionId
instruction_id_at p d = number_at p d >>= (λ n. Ok (record { 0 = n }))

-- an operand with the block that it comes from, after those that were found so far
abbrev pub operand_at : ReadsEntry Place
operand_at found p d = do
  _ ← array_of 2 p d
  block ← element block_id_at p 0 d
  _ ← new_block found (at_index p 0) block
  place ← element place_at p 1 d
  Ok (block, place)

abbrev pub phi_at : Reads Phi
phi_at p d = do
  _ ← object_at p d
  place ← required place_at p (codes "place") d
  operands ← required (entries_at operand_at) p (codes "operands") d
  _ ← known_keys (codes "place" ∷ codes "operands" ∷ []) p d
  Ok (record { place = place; operands = operands })

-- a block with its id, after those that were found so far
abbrev pub block_at : ReadsEntry BasicBlock
block_at found p d = do
  _ ← object_at p d
  id ← required block_id_at p (codes "id") d
  _ ← new_block found (at_key p (codes "id")) id
  phis ← list_of phi_at p (codes "phis") d
  instructions ← list_of instruction_id_at p (codes "instructions") d
  ending ← required terminal_at p (codes "terminal") d
  _ ← known_keys (codes "id" ∷ codes "phis" ∷ codes "instructions" ∷ codes "terminal" ∷ []) p d
  Ok (id, record { phis = phis; instructions = instructions; terminal = ending })

abbrev pub function_keys : Reads ⊤
function_keys = known_keys (codes "fn_type" ∷ codes "params" ∷ codes "context" ∷ codes "returns" ∷ codes "entry"
    ∷ codes "is_async" ∷ codes "span" ∷ codes "instructions" ∷ codes "blocks" ∷ [])

-- a function of which nothing special is known of its context places
abbrev pub function_at : Reads HirFunction
function_at p d = do
  _ ← object_at p d
  fn_type ← required (named_at function_type_names) p (codes "fn_type") d
  params ← list_of param_at p (codes "params") d
  context ← list_of place_at p (codes "context") d
  returns ← required place_at p (codes "returns") d
  entry ← required block_id_at p (codes "entry") d
  is_async ← flag p (codes "is_async") d
  span ← optional span_at p (codes "span") d
  instructions ← list_of instruction_at p (codes "instructions") d
  blocks ← required (entries_at block_at) p (codes "blocks") d
  _ ← function_keys p d
  Ok (record {
    fn_type = fn_type;
    params = params;
    context = context;
    context_values = [];
    returns = returns;
    body = record { entry = entry; blocks = blocks };
    instructions = instructions;
    is_async = is_async;
    span = span;
    aliasing_effects = None;
  })
