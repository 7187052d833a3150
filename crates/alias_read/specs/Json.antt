-- How lists, members of objects and items of arrays are read.
use Rattle.std.specs.Prelude.{ℕ, ◌+◌, ◌++◌, Bool, false, List, [], ◌∷◌, Option, Some, None, Result, Ok}
use Rattle.alias_base.specs.Answer.{◌>>=◌}
use Rattle.serde_json.specs.Data.{Data, null, boolean, number, string, array, object, Items, no_items, item}
use Rattle.serde_json.specs.Find.{get, at}
use Rattle.alias_json.specs.Pointer.{at_key, at_index}
use Rattle.alias_json.specs.Fault.{refusal}
use Rattle.alias_json.specs.Reading.{Reads, boolean_at}
use Rattle.alias_json.specs.declared.fault.ValueFault.{ValueFault}
use Rattle.alias_json.specs.declared.fault.TextRule.TheVariants.{Missing, Kind}

-- `found` and then the items, the first of which has the index i
abbrev pub items_at : {A : Type 0} → Reads A → List ℕ → ℕ → List A → Items → Result (List A) ValueFault
items_at f p i found no_items = Ok found
items_at f p i found (item d ds) = do
  x ← f (at_index p i) d
  items_at f p (i + 1) (found ++ x ∷ []) ds

abbrev pub list_at : {A : Type 0} → Reads A → Reads (List A)
list_at f p null = refusal p Kind
list_at f p (boolean b) = refusal p Kind
list_at f p (number n) = refusal p Kind
list_at f p (string s) = refusal p Kind
list_at f p (array ds) = items_at f p 0 [] ds
list_at f p (object ms) = refusal p Kind

abbrev pub if_there : {A : Type 0} → Reads A → List ℕ → Option Data → Result A ValueFault
if_there f p None = refusal p Missing
if_there f p (Some d) = f p d

-- the value of a key that has to be there
abbrev pub required : {A : Type 0} → Reads A → List ℕ → List ℕ → Data → Result A ValueFault
required f p key d = if_there f (at_key p key) (get key d)

abbrev pub some : {A : Type 0} → Result A ValueFault → Result (Option A) ValueFault
some r = r >>= (λ x. Ok (Some x))

abbrev pub if_given : {A : Type 0} → Reads A → A → List ℕ → Option Data → Result A ValueFault
if_given f default p None = Ok default
if_given f default p (Some d) = f p d

-- the value of a key that may be absent
abbrev pub given_or : {A : Type 0} → Reads A → A → List ℕ → List ℕ → Data → Result A ValueFault
given_or f default p key d = if_given f default (at_key p key) (get key d)

-- null is none
abbrev pub option_at : {A : Type 0} → Reads A → Reads (Option A)
option_at f p null = Ok None
option_at f p (boolean b) = some (f p (boolean b))
option_at f p (number n) = some (f p (number n))
option_at f p (string s) = some (f p (string s))
option_at f p (array ds) = some (f p (array ds))
option_at f p (object ms) = some (f p (object ms))

-- the value of a key that may be absent or null
abbrev pub optional : {A : Type 0} → Reads A → List ℕ → List ℕ → Data → Result (Option A) ValueFault
optional f = given_or (option_at f) None

-- the list of a key that may be absent
abbrev pub list_of : {A : Type 0} → Reads A → List ℕ → List ℕ → Data → Result (List A) ValueFault
list_of f = given_or (list_at f) []

-- the bool of a key that may be absent
abbrev pub flag : List ℕ → List ℕ → Data → Result Bool ValueFault
flag = given_or boolean_at false

abbrev pub if_item : {A : Type 0} → Reads A → List ℕ → ℕ → Option Data → Result A ValueFault
if_item f p i None = refusal p Kind
if_item f p i (Some d) = f (at_index p i) d

-- the item at an index of an array that has one there
abbrev pub element : {A : Type 0} → Reads A → List ℕ → ℕ → Data → Result A ValueFault
element f p i d = if_item f p i (at i d)
