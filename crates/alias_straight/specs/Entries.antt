-- Entries of a map that are taken off the tokens of an array one after another.
use Rattle.std.specs.Prelude.{◌≡◌, ℕ, List, [], ◌∷◌, Ok}
use Rattle.json.specs.Token.{Token}
use Rattle.serde_json.specs.Data.{Data}
use Rattle.alias_base.specs.Find.{with_value}
use Rattle.alias_base.specs.declared.ids.BlockId.{BlockId}
use Rattle.alias_json.specs.Reading.{Reads}
use Rattle.alias_read.specs.Entries.{ReadsEntry}
use Rattle.alias_straight.specs.Items.{Lists}

-- reads data as they are
abbrev pub as_is : Reads Data
as_is p d = Ok d

-- the data are read as entries one after another, behind those that were found
abbrev pub AreEntries : {V : Type 0} → ReadsEntry V → List (BlockId × V) → List Data → List (BlockId × V) → Type 0
AreEntries f found [] es = found ≡ es
AreEntries {V} f found (d ∷ ds) es = (e : BlockId × V) × ((p : List ℕ) → f found p d ≡ Ok e)
    × AreEntries f (with_value found e.0 e.1) ds es

-- of the value at `start`, an array, the entries es have been read, and go on at ts
pub record Enters {V : Type 0} (f : ReadsEntry V) (depth : ℕ) (start : List Token) (es : List (BlockId × V))
    (ts : List Token) : Type 0 where
  pub trees : List Data
  pub are : AreEntries f [] trees es
  pub lists : Lists as_is depth start trees ts
