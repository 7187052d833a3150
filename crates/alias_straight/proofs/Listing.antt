-- Laws of items that are taken off the tokens one after another.
use Rattle.std.specs.Prelude.{Ok}
use Rattle.std.proofs.Common.{◌≡◌, ℕ, ◌-◌, ◌<◌, ◌≤◌, List, [], ◌∷◌, ◌++◌, length, Option, Some, None, refl, ap, subst}
use Rattle.std.proofs.Common.{◌∙◌, arith}
use Rattle.json.specs.Token.{Token}
use Rattle.json.specs.Json.{parse_map, after_end_array, items, value}
use Rattle.serde_json.specs.Data.{Data, array, Items, no_items, item}
use Rattle.serde_json.specs.Read.{of_json, of_items, converted}
use Rattle.alias_json.specs.Reading.{Reads}
use Rattle.alias_json.proofs.Parsing.{opened_array, item_read, items_over}
use Rattle.alias_straight.specs.Takes.{Takes}
use Rattle.alias_straight.specs.Items.{before_items, AreRead, Lists}
use Rattle.alias_read.specs.Json.{list_at}
use Rattle.alias_straight.specs.Members.{MayTake, TakesList}
use Rattle.alias_straight.proofs.Fielding.{takes-shorter}

once_mapped : (o : Option (Items × List Token)) → o ≡ parse_map (before_items []) o
once_mapped None = refl
once_mapped (Some q) = refl

-- the bracket
pub opened_list : {A : Type 0} (reads : Reads A) (depth : ℕ) (start ts : List Token) → 0 < depth → start
    ≡ Token.begin_array ∷ ts → Lists reads depth start [] ts
opened_list reads depth start ts h e = record {
  trees = [];
  are = tt;
  turns = length ts;
  enough = omega arith;
  read = ap (λ (l : List Token). converted of_json (value depth l)) e ∙ opened_array depth ts h
      ∙ ap (parse_map array) (once_mapped (converted of_items (items (value (depth - 1)) (length ts) ts)));
}

behind : (ds : List Data) (d : Data) (more : Items) → before_items ds (item d more) ≡ before_items (ds ++ d ∷ []) more
behind [] d more = refl
behind (e ∷ ds) d more = ap (item e) (behind ds d more)

all_behind : (ds : List Data) (d : Data) (o : Option (Items × List Token))
    → parse_map (before_items ds) (parse_map (item d) o) ≡ parse_map (before_items (ds ++ d ∷ [])) o
all_behind ds d None = refl
all_behind ds d (Some q) = ap (λ (more : Items). Some (more, q.1)) (behind ds d q.0)

read_behind : {A : Type 0} (reads : Reads A) (ds : List Data) (xs : List A) (d : Data) (x : A) → AreRead reads ds xs
    → ((p : List ℕ) → reads p d ≡ Ok x) → AreRead reads (ds ++ d ∷ []) (xs ++ x ∷ [])
read_behind reads [] [] d x are is = (is, tt)
read_behind reads [] (y ∷ xs) d x are is = absurd are
read_behind reads (e ∷ ds) [] d x are is = absurd are
read_behind reads (e ∷ ds) (y ∷ xs) d x are is = (are.0, read_behind reads ds xs d x are.1 is)

-- one more item
pub one_more : {A : Type 0} (reads : Reads A) (depth : ℕ) (start ts rest : List Token) (xs : List A) (x : A)
    → Lists reads depth start xs ts → after_end_array ts ≡ None → Takes reads (depth - 1) ts x rest
    → Lists reads depth start (xs ++ x ∷ []) rest
one_more reads depth start ts rest xs x so_far going t =
    let shorter : length rest < length ts = takes-shorter reads (depth - 1) ts rest x t in
    let enough : length ts ≤ so_far.turns = so_far.enough in
    record {
      trees = so_far.trees ++ t.tree ∷ [];
      are = read_behind reads so_far.trees xs t.tree x so_far.are t.is;
      turns = so_far.turns - 1;
      enough = omega arith;
      read = so_far.read
          ∙ ap (λ (o : Option (Items × List Token)). parse_map array (parse_map (before_items so_far.trees) o))
          (item_read (value (depth - 1)) so_far.turns ts rest t.tree (omega arith) going t.read)
          ∙ ap (parse_map array) (all_behind so_far.trees t.tree
          (converted of_items (items (value (depth - 1)) (so_far.turns - 1) rest)));
    }

-- the bracket that closes it
pub closed_list : {A : Type 0} (reads : Reads A) (depth : ℕ) (start ts rest : List Token) (xs : List A)
    → (so_far : Lists reads depth start xs ts) → after_end_array ts ≡ Some rest
    → converted of_json (value depth start) ≡ Some (array (before_items so_far.trees no_items), rest)
closed_list reads depth start ts rest xs so_far e =
    so_far.read ∙ ap (λ (o : Option (Items × List Token)). parse_map array (parse_map (before_items so_far.trees) o))
    (items_over (value (depth - 1)) so_far.turns ts rest so_far.enough e)

-- ---- the list of a key

pub list_there : {A : Type 0} (reads : Reads A) (depth : ℕ) (ts rest : List Token) (key : List ℕ) (o : Option (List A))
    (xs : List A) → o ≡ Some xs → MayTake (list_at reads) depth ts key o rest → TakesList reads depth ts key xs rest
list_there {A} reads depth ts rest key o xs e m =
    record {
      list = Some xs;
      is = refl;
      may =
          subst (λ (l : Option (List A)). MayTake (list_at reads) depth ts key l rest) e m;
    }

pub list_absent : {A : Type 0} (reads : Reads A) (depth : ℕ) (ts rest : List Token) (key : List ℕ) (o : Option (List A))
    → o ≡ None → MayTake (list_at reads) depth ts key o rest → TakesList reads depth ts key [] rest
list_absent {A} reads depth ts rest key o e m =
    record {
      list = None;
      is = refl;
      may =
          subst (λ (l : Option (List A)). MayTake (list_at reads) depth ts key l rest) e m;
    }
