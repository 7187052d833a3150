-- Maps from blocks, which JSON data spell as arrays of their entries.
use Rattle.std.specs.Prelude.{ℕ, ◌+◌, List, [], Result, Ok, ⊤, is_some, if◌then◌else◌}
use Rattle.alias_base.specs.Answer.{◌>>=◌}
use Rattle.alias_base.specs.Find.{value_at, with_value}
use Rattle.alias_base.specs.declared.ids.BlockId.{BlockId}
use Rattle.serde_json.specs.Data.{null, boolean, number, string, array, object, Items, no_items, item}
use Rattle.alias_json.specs.Pointer.{at_index}
use Rattle.alias_json.specs.Fault.{refusal}
use Rattle.alias_json.specs.Reading.{Reads, number_at}
use Rattle.alias_json.specs.declared.fault.ValueFault.{ValueFault}
use Rattle.alias_json.specs.declared.fault.TextRule.TheVariants.{Kind, Twice}

abbrev pub block_id_at : Reads BlockId
block_id_at p d = number_at p d >>= (λ n. Ok (record { 0 = n }))

-- reads an entry, after those that were found so far
abbrev pub ReadsEntry : Type 0 → Type 0
ReadsEntry V = List (BlockId × V) → Reads (BlockId × V)

-- no entry so far is that of the block
abbrev pub new_block : {V : Type 0} → List (BlockId × V) → List ℕ → BlockId → Result ⊤ ValueFault
new_block found p id = if is_some (value_at found id) then refusal p Twice else Ok tt

-- the found entries and then the items, the first of which has the index i
abbrev pub entry_items_at : {V : Type 0} → ReadsEntry V → List ℕ → ℕ → List (BlockId × V) → Items
    → Result (List (BlockId × V)) ValueFault
entry_items_at f p i found no_items = Ok found
entry_items_at f p i found (item d ds) = do
  e ← f found (at_index p i) d
  entry_items_at f p (i + 1) (with_value found e.0 e.1) ds

abbrev pub entries_at : {V : Type 0} → ReadsEntry V → Reads (List (BlockId × V))
entries_at f p null = refusal p Kind
entries_at f p (boolean b) = refusal p Kind
entries_at f p (number n) = refusal p Kind
entries_at f p (string s) = refusal p Kind
entries_at f p (array ds) = entry_items_at f p 0 [] ds
entries_at f p (object ms) = refusal p Kind
