-- Members that are taken off the tokens of an object one after another.
use Rattle.std.specs.Prelude.{◌≡◌, ℕ, ◌-◌, ◌≤◌, Bool, true, ◌&&◌, List, [], ◌∷◌, length, Option, Some, None, Ok, ⊤}
use Rattle.std.specs.Prelude.{if◌then◌else◌, unwrap_or}
use Rattle.json.specs.Token.{Token}
use Rattle.json.specs.Json.{value, members, parse_map}
use Rattle.serde_json.specs.Data.{Data, object, Members, no_members, put}
use Rattle.serde_json.specs.Read.{of_json, of_members, converted}
use Rattle.alias_json.specs.Reading.{Reads, text_is, is_known}
use Rattle.alias_read.specs.Json.{list_at}
use Rattle.alias_straight.specs.Takes.{Takes}

-- the tokens of an object from its next key on, of which the key, or the end, has been read
abbrev pub from_key : Option (List ℕ) → List Token → List Token
from_key None ts = Token.end_object ∷ ts
from_key (Some key) ts = Token.key key ∷ ts

-- a key comes first, and then its value
pub record TakesMember {A : Type 0} (reads : Reads A) (depth : ℕ) (ts : List Token) (key : List ℕ) (x : A)
    (rest : List Token) : Type 0 where
  pub after : List Token
  pub first : ts ≡ Token.key key ∷ after
  pub takes : Takes reads depth after x rest

abbrev pub IfMember : {A : Type 0} → Reads A → ℕ → List Token → List ℕ → Option A → List Token → Type 0
IfMember reads depth ts key None rest = ts ≡ rest
IfMember reads depth ts key (Some x) rest = TakesMember reads depth ts key x rest

-- the key and its value come first, or are absent
pub record MayTake {A : Type 0} (reads : Reads A) (depth : ℕ) (ts : List Token) (key : List ℕ) (x : Option A)
    (rest : List Token) : Type 0 where
  pub member : IfMember reads depth ts key x rest

-- the list of a key comes first, or is absent, and then it's empty
pub record TakesList {A : Type 0} (reads : Reads A) (depth : ℕ) (ts : List Token) (key : List ℕ) (xs : List A)
    (rest : List Token) : Type 0 where
  pub list : Option (List A)
  pub is : xs ≡ unwrap_or list []
  pub may : MayTake (list_at reads) depth ts key list rest

-- keys with their data, or with none where they are absent. The last one comes first
abbrev pub Fields : Type 0
Fields = List (List ℕ × Option Data)

abbrev pub put_given : List ℕ → Option Data → Members → Members
put_given key None ms = ms
put_given key (Some d) ms = put key d ms

abbrev pub members_of : Fields → Members
members_of [] = no_members
members_of (f ∷ fs) = put_given f.0 f.1 (members_of fs)

abbrev pub or_before : Option Data → Option Data → Option Data
or_before None o = o
or_before (Some d) None = Some d
or_before (Some d) (Some e) = Some e

abbrev pub field : List ℕ → Fields → Option Data
field key [] = None
field key (f ∷ fs) = if text_is f.0 key then or_before (field key fs) f.1 else field key fs

abbrev pub are_known : List (List ℕ) → Fields → Bool
are_known keys [] = true
are_known keys (f ∷ fs) = is_known keys f.0 && are_known keys fs

-- of the value at `start`, an object, the fields have been read, and go on at ts
pub record Opens (depth : ℕ) (start : List Token) (fs : Fields) (ts : List Token) : Type 0 where
  pub turns : ℕ
  pub enough : length ts ≤ turns
  pub read : converted of_json (value depth start)
      ≡ parse_map object (converted (λ ms. of_members ms (members_of fs)) (members (value (depth - 1)) turns ts))

-- the data that a field has are read as its value, and there are none where it's absent
abbrev pub IsRead : {A : Type 0} → Reads A → Option A → Option Data → Type 0
IsRead reads None None = ⊤
IsRead reads None (Some d) = ⊥
IsRead reads (Some x) None = ⊥
IsRead reads (Some x) (Some d) = (p : List ℕ) → reads p d ≡ Ok x

-- one more field
pub record Goes {A : Type 0} (reads : Reads A) (depth : ℕ) (start : List Token) (fs : Fields) (key : List ℕ)
    (x : Option A) (rest : List Token) : Type 0 where
  pub tree : Option Data
  pub is : IsRead reads x tree
  pub opens : Opens depth start ((key, tree) ∷ fs) rest
