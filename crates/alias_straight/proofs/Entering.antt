-- Laws of entries that are taken off the tokens one after another.
use Rattle.std.specs.Prelude.{Result, Ok, Err, ⊤, is_some, option_map}
use Rattle.std.proofs.Common.{◌≡◌, Bor, false, true≢false, ℕ, ◌+◌, ◌-◌, ◌^◌, ◌<◌, List, [], ◌∷◌, ◌++◌, Option, Some}
use Rattle.std.proofs.Common.{None, refl, ap, ap₂, sym, subst, ◌∙◌}
use Rattle.alias_base.specs.Answer.{◌>>=◌}
use Rattle.alias_base.specs.Find.{value_at, with_value}
use Rattle.alias_base.specs.declared.ids.BlockId.{BlockId}
use Rattle.json.specs.Token.{Token}
use Rattle.json.specs.Json.{after_end_array, value}
use Rattle.json.proofs.Grammar.{value_is}
use Rattle.serde_json.specs.Data.{Data, array, no_items, item}
use Rattle.serde_json.specs.Read.{of_json, converted}
use Rattle.alias_hir.specs.declared.place.Place.{Place}
use Rattle.alias_json.specs.Direct.{IsWhole}
use Rattle.alias_json.specs.Pointer.{at_index}
use Rattle.alias_json.specs.Reading.{Reads, number_at}
use Rattle.alias_json.specs.declared.fault.ValueFault.{ValueFault}
use Rattle.alias_read.specs.Entries.{ReadsEntry, block_id_at, entry_items_at, entries_at}
use Rattle.alias_read.specs.Functions.{operand_at}
use Rattle.alias_read.specs.Places.{place_at}
use Rattle.alias_straight.specs.Takes.{Takes}
use Rattle.alias_straight.specs.Items.{before_items, AreRead, Lists}
use Rattle.alias_straight.specs.Entries.{as_is, AreEntries, Enters}
use Rattle.alias_straight.proofs.Listing.{opened_list, one_more, closed_list}
use Rattle.alias_straight.proofs.Placing.{number_taken}

abbrev data_of : Result Data ValueFault → Data → Data
data_of (Ok d) other = d
data_of (Err e) other = other

same_trees : (ds es : List Data) → AreRead as_is ds es → ds ≡ es
same_trees [] [] are = refl
same_trees [] (e ∷ es) are = absurd are
same_trees (d ∷ ds) [] are = absurd are
same_trees (d ∷ ds) (e ∷ es) are = ap₂ (λ (x : Data) (xs : List Data). x ∷ xs) (ap (λ r. data_of r d) (are.0 []))
    (same_trees ds es are.1)

-- what is taken is there as it is
pub tree_taken : {A : Type 0} (reads : Reads A) (depth : ℕ) (ts rest : List Token) (x : A)
    → (t : Takes reads depth ts x rest) → Takes as_is depth ts t.tree rest
tree_taken reads depth ts rest x t = record { tree = t.tree; read = t.read; is = λ p. refl }

pub listed : (depth : ℕ) (start ts rest : List Token) (ds : List Data) → Lists as_is depth start ds ts
    → after_end_array ts ≡ Some rest → converted of_json (value depth start)
    ≡ Some (array (before_items ds no_items), rest)
listed depth start ts rest ds so_far e =
    closed_list as_is depth start ts rest ds so_far e
    ∙ ap (λ (l : List Data). Some (array (before_items l no_items), rest)) (same_trees so_far.trees ds so_far.are)

abbrev IsNone : {A : Type 0} → Option A → Type 0
IsNone None = ⊤
IsNone (Some a) = ⊥

-- no value begins with the bracket that closes an array
pub takes-going : {A : Type 0} (reads : Reads A) (depth : ℕ) (ts rest : List Token) (x : A)
    → Takes reads depth ts x rest → after_end_array ts ≡ None
takes-going reads depth [] rest x t = refl
takes-going reads depth (Token.begin_object ∷ ts) rest x t = refl
takes-going reads depth (Token.end_object ∷ ts) rest x t = refl
takes-going reads depth (Token.begin_array ∷ ts) rest x t = refl
takes-going reads depth (Token.end_array ∷ ts) rest x t =
    absurd (subst IsNone (sym (ap (converted of_json) (value_is depth (Token.end_array ∷ ts))) ∙ t.read) tt)
takes-going reads depth (Token.key s ∷ ts) rest x t = refl
takes-going reads depth (Token.string s ∷ ts) rest x t = refl
takes-going reads depth (Token.number s ∷ ts) rest x t = refl
takes-going reads depth (Token.boolean b ∷ ts) rest x t = refl
takes-going reads depth (Token.null ∷ ts) rest x t = refl
takes-going reads depth (Token.bad ∷ ts) rest x t = refl

module _ {V : Type 0} (f : ReadsEntry V) where
  entered_behind : (found es : List (BlockId × V)) (ds : List Data) (d : Data) (e : BlockId × V)
      → AreEntries f found ds es → ((p : List ℕ) → f es p d ≡ Ok e)
      → AreEntries f found (ds ++ d ∷ []) (with_value es e.0 e.1)
  entered_behind found es [] d e are is = (
    e,
    subst (λ (l : List (BlockId × V)). (p : List ℕ) → f l p d ≡ Ok e) (sym are) is,
    ap (λ (l : List (BlockId × V)). with_value l e.0 e.1) are,
  )
  entered_behind found es (x ∷ ds) d e are is =
      (are.0, are.1, entered_behind (with_value found are.0.0 are.0.1) es ds d e are.2 is)

  pub opened_map : (depth : ℕ) (start ts : List Token) → 0 < depth → start ≡ Token.begin_array ∷ ts
      → Enters f depth start [] ts
  opened_map depth start ts h e = record { trees = []; are = refl; lists = opened_list as_is depth start ts h e }

  pub entry_more : (depth : ℕ) (start ts rest : List Token) (es : List (BlockId × V)) (e : BlockId × V)
      → Enters f depth start es ts → Takes (f es) (depth - 1) ts e rest
      → Enters f depth start (with_value es e.0 e.1) rest
  entry_more depth start ts rest es e so_far t = record {
    trees = so_far.trees ++ t.tree ∷ [];
    are = entered_behind [] es so_far.trees t.tree e so_far.are t.is;
    lists = one_more as_is depth start ts rest so_far.trees t.tree so_far.lists
        (takes-going (f es) (depth - 1) ts rest e t) (tree_taken (f es) (depth - 1) ts rest e t);
  }

  entries_from : (p : List ℕ) (i : ℕ) (found es : List (BlockId × V)) (ds : List Data) → AreEntries f found ds es
      → entry_items_at f p i found (before_items ds no_items) ≡ Ok es
  entries_from p i found es [] are = ap Ok are
  entries_from p i found es (d ∷ ds) are =
      ap (λ (r : Result (BlockId × V) ValueFault). r
      >>= (λ (e : BlockId × V). entry_items_at f p (i + 1) (with_value found e.0 e.1) (before_items ds no_items)))
      (are.1 (at_index p i))
      ∙ entries_from p (i + 1) (with_value found are.0.0 are.0.1) es ds are.2

  pub map_taken : (depth : ℕ) (start ts rest : List Token) (es : List (BlockId × V)) → Enters f depth start es ts
      → after_end_array ts ≡ Some rest → Takes (entries_at f) depth start es rest
  map_taken depth start ts rest es so_far e =
      record {
        tree = array (before_items so_far.trees no_items);
        read = listed depth start ts rest so_far.trees so_far.lists e;
        is = λ p. entries_from p 0 [] es so_far.trees so_far.are;
      }

-- ---- operands

-- what isn't found isn't there
pub none_there : {A : Type 0} (o : Option (Bor A)) (v : Option A) → option_map (λ x. x.now) o ≡ v → is_some o ≡ false
    → v ≡ None
none_there None v e n = sym e
none_there (Some x) v e n = absurd (true≢false n)

pub block_is : (n : ℕ) (d : Data) → ((p : List ℕ) → number_at p d ≡ Ok n) → (p : List ℕ) → block_id_at p d
    ≡ Ok (record { 0 = n })
block_is n d is p = ap (λ (r : Result ℕ ValueFault). r >>= (λ n. Ok (record { 0 = n }))) (is p)

operand_is : (found : List (BlockId × Place)) (n : ℕ) (place : Place) (b d : Data) → value_at found (record { 0 = n })
    ≡ None → ((p : List ℕ) → number_at p b ≡ Ok n) → ((p : List ℕ) → place_at p d ≡ Ok place)
    → (p : List ℕ) → operand_at found p (array (item b (item d no_items))) ≡ Ok (record { 0 = n }, place)
operand_is found n place b d new block is p =
    let e₁ : block_id_at (at_index p 0) b ≡ Ok (record { 0 = n }) = block_is n b block (at_index p 0) in
    let e₂ : place_at (at_index p 1) d ≡ Ok place = is (at_index p 1) in
    rw (e₁, new, e₂) refl

pub operand_taken : (found : List (BlockId × Place)) (depth : ℕ) (start t₀ t₁ t₂ rest : List Token) (n : ℕ)
    (place : Place) → value_at found (record { 0 = n }) ≡ None → n < 2 ^ 32 → 0 < depth → start ≡ Token.begin_array ∷ t₀
    → IsWhole t₀ n t₁ → Takes place_at (depth - 1) t₁ place t₂ → after_end_array t₂ ≡ Some rest
    → Takes (operand_at found) depth start (record { 0 = n }, place) rest
operand_taken found depth start t₀ t₁ t₂ rest n place new x h begins w t e =
    let b = number_taken (depth - 1) t₀ t₁ n w x in
    let l₁ = one_more as_is depth start t₀ t₁ [] b.tree (opened_list as_is depth start t₀ h begins)
    (takes-going number_at (depth - 1) t₀ t₁ n b) (tree_taken number_at (depth - 1) t₀ t₁ n b) in
    let l₂ = one_more as_is depth start t₁ t₂ _ t.tree l₁ (takes-going place_at (depth - 1) t₁ t₂ place t)
    (tree_taken place_at (depth - 1) t₁ t₂ place t) in
    record {
      tree = array (item b.tree (item t.tree no_items));
      read = listed depth start t₂ rest (b.tree ∷ t.tree ∷ []) l₂ e;
      is = operand_is found n place b.tree t.tree new b.is t.is;
    }
