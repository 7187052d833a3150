-- Members of objects: their pointers, and one that may be absent.
use Rattle.std.proofs.Common.{Bor, ap, sym, subst, ◌∙◌, ◌≡◌, ℕ, List}
use Rattle.std.specs.Prelude.{Result, Option, Some}
use Rattle.alias_base.specs.Answer.{Gives}
use Rattle.serde_json.specs.Data.{Data}
use Rattle.serde_json.specs.Find.{get}
use Rattle.alias_json.specs.declared.path.Path.{Path, fold-roll-Path}
use Rattle.alias_json.specs.declared.path.Path.TheOpen.{Path-F}
use Rattle.alias_json.specs.declared.path.Path.TheViews.{Key}
use Rattle.alias_json.specs.declared.path.Path.TheVariants.{rolls-Key}
use Rattle.alias_json.specs.declared.fault.ValueFault.{ValueFault}
use Rattle.alias_json.specs.Fault.{is_memory}
use Rattle.alias_json.specs.Pointer.{at_key, pointer, pointer_step}
use Rattle.alias_json.specs.Reading.{Reads}
use Rattle.alias_read.specs.Json.{if_given, given_or}

-- the pointer of a member
pub pointer-key : (above : Bor Path) (key : Bor (List ℕ)) → pointer (Key above key) ≡ at_key (pointer above.now) key.now
pointer-key above key = ap pointer (sym (rolls-Key above key))
    ∙ fold-roll-Path (List ℕ) pointer_step (Path-F.Key above key)

-- a member that is there is read
pub given_found : {A : Type 0} (f : Reads A) (default : A) (p q key : List ℕ) → q ≡ at_key p key → (d e : Data) → Some e
    ≡ get key d
    → (r : Result A ValueFault) → Gives is_memory (f q e) r → Gives is_memory (given_or f default p key d) r
given_found {A} f default p q key here d e g r a =
    subst (λ (x : Result A ValueFault). Gives is_memory x r)
    (ap (λ (x : List ℕ). f x e) here ∙ ap (λ (o : Option Data). if_given f default (at_key p key) o) g) a
