-- What is read of an object of which the fields are known, and of an array of which the items are.
use Rattle.std.specs.Prelude.{Result, Ok, unwrap_or}
use Rattle.std.proofs.Common.{◌≡◌, ℕ, ◌+◌, true, List, [], ◌∷◌, ◌++◌, Option, Some, None, refl, ap, sym, ◌∙◌}
use Rattle.std.proofs.Common.{append_assoc, append-nil}
use Rattle.alias_base.specs.Answer.{◌>>=◌}
use Rattle.serde_json.specs.Data.{Data, null, boolean, number, string, array, object, no_items}
use Rattle.alias_json.specs.Pointer.{at_key, at_index}
use Rattle.alias_json.specs.Reading.{Reads, known_keys}
use Rattle.alias_json.specs.declared.fault.ValueFault.{ValueFault}
use Rattle.alias_read.specs.Json.{items_at, list_at, if_there, required, some, if_given, given_or, option_at, optional}
use Rattle.alias_straight.specs.Items.{before_items, AreRead}
use Rattle.alias_straight.specs.Members.{Fields, members_of, field, are_known, IsRead}
use Rattle.alias_straight.proofs.Fielding.{get-members_of, known-members_of}

module _ {A : Type 0} (reads : Reads A) where
  there : (p : List ℕ) (x : A) (o : Option Data) → IsRead reads (Some x) o → if_there reads p o ≡ Ok x
  there p x None is = absurd is
  there p x (Some d) is = is p

  pub required_is : (key : List ℕ) (fs : Fields) (x : A) (o : Option Data) → field key fs ≡ o → IsRead reads (Some x) o
      → (p : List ℕ) → required reads p key (object (members_of fs)) ≡ Ok x
  required_is key fs x o e is p = ap (if_there reads (at_key p key)) (get-members_of key fs ∙ e)
      ∙ there (at_key p key) x o is

  given : (default : A) (p : List ℕ) (x : Option A) (o : Option Data) → IsRead reads x o → if_given reads default p o
      ≡ Ok (unwrap_or x default)
  given default p None None is = refl
  given default p None (Some d) is = absurd is
  given default p (Some x) None is = absurd is
  given default p (Some x) (Some d) is = is p

  pub given_is : (default : A) (key : List ℕ) (fs : Fields) (x : Option A) (o : Option Data) → field key fs ≡ o
      → IsRead reads x o → (p : List ℕ) → given_or reads default p key (object (members_of fs))
      ≡ Ok (unwrap_or x default)
  given_is default key fs x o e is p = ap (if_given reads default (at_key p key)) (get-members_of key fs ∙ e)
      ∙ given default (at_key p key) x o is

  -- of what isn't read from null
  module _ (never : (x : A) → reads [] null ≡ Ok x → ⊥) where
    pub not_null : (p : List ℕ) (x : A) (d : Data) → ((p : List ℕ) → reads p d ≡ Ok x) → option_at reads p d
        ≡ Ok (Some x)
    not_null p x null is = absurd (never x (is []))
    not_null p x (boolean b) is = ap some (is p)
    not_null p x (number n) is = ap some (is p)
    not_null p x (string s) is = ap some (is p)
    not_null p x (array ds) is = ap some (is p)
    not_null p x (object ms) is = ap some (is p)

    perhaps : (p : List ℕ) (x : Option A) (o : Option Data) → IsRead reads x o → if_given (option_at reads) None p o
        ≡ Ok x
    perhaps p None None is = refl
    perhaps p None (Some d) is = absurd is
    perhaps p (Some x) None is = absurd is
    perhaps p (Some x) (Some d) is = not_null p x d is

    pub optional_is : (key : List ℕ) (fs : Fields) (x : Option A) (o : Option Data) → field key fs ≡ o
        → IsRead reads x o → (p : List ℕ) → optional reads p key (object (members_of fs)) ≡ Ok x
    optional_is key fs x o e is p = ap (if_given (option_at reads) None (at_key p key)) (get-members_of key fs ∙ e)
        ∙ perhaps (at_key p key) x o is

  from_here : (p : List ℕ) (i : ℕ) (found : List A) (ds : List Data) (xs : List A) → AreRead reads ds xs
      → items_at reads p i found (before_items ds no_items) ≡ Ok (found ++ xs)
  from_here p i found [] [] are = ap Ok (sym (append-nil found))
  from_here p i found [] (x ∷ xs) are = absurd are
  from_here p i found (d ∷ ds) [] are = absurd are
  from_here p i found (d ∷ ds) (x ∷ xs) are =
      ap (λ (r : Result A ValueFault). r >>= (λ y.
      items_at reads p (i + 1) (found ++ y ∷ []) (before_items ds no_items))) (are.0 (at_index p i))
      ∙ from_here p (i + 1) (found ++ x ∷ []) ds xs are.1
      ∙ ap Ok (append_assoc found (x ∷ []) xs)

  pub list_is : (ds : List Data) (xs : List A) → AreRead reads ds xs → (p : List ℕ)
      → list_at reads p (array (before_items ds no_items)) ≡ Ok xs
  list_is ds xs are p = from_here p 0 [] ds xs are

pub known_is : (keys : List (List ℕ)) (fs : Fields) → are_known keys fs ≡ true → (p : List ℕ)
    → known_keys keys p (object (members_of fs)) ≡ Ok tt
known_is = known-members_of
