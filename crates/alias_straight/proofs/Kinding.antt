-- An object that has a kind, and then the rest of an instruction.
use Rattle.std.specs.Prelude.{Result, Ok, codes, unwrap_or}
use Rattle.std.proofs.Common.{◌≡◌, ℕ, List, [], ◌∷◌, Option, Some, ap, sym, subst, ◌∙◌}
use Rattle.alias_base.specs.Answer.{◌>>=◌}
use Rattle.json.specs.Token.{Token}
use Rattle.serde_json.specs.Data.{Data, object}
use Rattle.alias_hir.specs.declared.value.InstructionValue.{InstructionValue}
use Rattle.alias_json.specs.Names.{named_at}
use Rattle.alias_json.specs.declared.fault.ValueFault.{ValueFault}
use Rattle.alias_read.specs.Json.{list_at, list_of}
use Rattle.alias_read.specs.ValueKinds.{instruction_value_names}
use Rattle.alias_read.specs.Values.{value_of_kind, instruction_value_at}
use Rattle.alias_read.specs.declared.value_kinds.InstructionValueKind.{InstructionValueKind}
use Rattle.alias_straight.specs.Takes.{Takes}
use Rattle.alias_straight.specs.Members.{TakesMember, TakesList, Fields, members_of, field, IsRead, Opens}
use Rattle.alias_straight.proofs.Fielding.{closed}
use Rattle.alias_straight.proofs.Finding.{required_is, given_is}

kind_is : (kind : InstructionValueKind) (fs : Fields) (tree : Option Data) (v : InstructionValue)
    → field (codes "kind") fs ≡ tree → IsRead (named_at instruction_value_names) (Some kind) tree
    → (p : List ℕ) → value_of_kind kind p (object (members_of fs)) ≡ Ok v
    → instruction_value_at p (object (members_of fs)) ≡ Ok v
kind_is kind fs tree v e is p then =
    ap (λ (r : Result InstructionValueKind ValueFault). r >>= (λ k. value_of_kind k p (object (members_of fs))))
    (required_is (named_at instruction_value_names) (codes "kind") fs kind tree e is p) ∙ then

pub kind_taken : (kind : InstructionValueKind) (depth : ℕ) (start ts rest : List Token) (fs : Fields)
    (tree : Option Data) (v : InstructionValue) → field (codes "kind") fs ≡ tree
    → IsRead (named_at instruction_value_names) (Some kind) tree
    → Opens depth start fs ts → ts ≡ Token.end_object ∷ rest
    → ((p : List ℕ) → value_of_kind kind p (object (members_of fs)) ≡ Ok v)
    → Takes instruction_value_at depth start v rest
kind_taken kind depth start ts rest fs tree v e is so_far ends then =
    record {
      tree = object (members_of fs);
      read = closed depth start ts rest fs so_far ends;
      is = λ p. kind_is kind fs tree v e is p (then p);
    }

-- the list of a key
pub list_of_is : {A : Type 0} (reads : (p : List ℕ) → Data → Result A ValueFault) (key : List ℕ) (fs : Fields)
    (given : Option (List A)) (xs : List A) (o : Option Data) → field key fs ≡ o → IsRead (list_at reads) given o → xs
    ≡ unwrap_or given []
    → (p : List ℕ) → list_of reads p key (object (members_of fs)) ≡ Ok xs
list_of_is reads key fs given xs o e is same p = given_is (list_at reads) [] key fs given o e is p ∙ ap Ok (sym same)

-- a key that is known by another name
pub key_is : {A : Type 0} (reads : (p : List ℕ) → Data → Result A ValueFault) (depth : ℕ) (ts rest : List Token)
    (name key : List ℕ) (x : A) → name ≡ key → TakesMember reads depth ts name x rest
    → TakesMember reads depth ts key x rest
key_is reads depth ts rest name key x e m = subst (λ (l : List ℕ). TakesMember reads depth ts l x rest) e m

pub list_key_is : {A : Type 0} (reads : (p : List ℕ) → Data → Result A ValueFault) (depth : ℕ) (ts rest : List Token)
    (name key : List ℕ) (xs : List A) → name ≡ key → TakesList reads depth ts name xs rest
    → TakesList reads depth ts key xs rest
list_key_is reads depth ts rest name key xs e m = subst (λ (l : List ℕ). TakesList reads depth ts l xs rest) e m
