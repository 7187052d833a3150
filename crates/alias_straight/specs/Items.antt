-- Items that are taken off the tokens of an array one after another.
use Rattle.std.specs.Prelude.{◌≡◌, ℕ, ◌-◌, ◌≤◌, List, [], ◌∷◌, length, Ok, ⊤}
use Rattle.json.specs.Token.{Token}
use Rattle.json.specs.Json.{value, items, parse_map}
use Rattle.serde_json.specs.Data.{Data, array, Items, item}
use Rattle.serde_json.specs.Read.{of_json, of_items, converted}
use Rattle.alias_json.specs.Reading.{Reads}

-- the data and then the items
abbrev pub before_items : List Data → Items → Items
before_items [] more = more
before_items (d ∷ ds) more = item d (before_items ds more)

-- each of the data is read as the value beside it
abbrev pub AreRead : {A : Type 0} → Reads A → List Data → List A → Type 0
AreRead reads [] [] = ⊤
AreRead reads [] (x ∷ xs) = ⊥
AreRead reads (d ∷ ds) [] = ⊥
AreRead reads (d ∷ ds) (x ∷ xs) = ((p : List ℕ) → reads p d ≡ Ok x) × AreRead reads ds xs

-- of the value at `start`, an array, the items xs have been read, and go on at ts
pub record Lists {A : Type 0} (reads : Reads A) (depth : ℕ) (start : List Token) (xs : List A) (ts : List Token) : Type
    0 where
  pub trees : List Data
  pub are : AreRead reads trees xs
  pub turns : ℕ
  pub enough : length ts ≤ turns
  pub read : converted of_json (value depth start)
      ≡ parse_map array (parse_map (before_items trees) (converted of_items (items (value (depth - 1)) turns ts)))
