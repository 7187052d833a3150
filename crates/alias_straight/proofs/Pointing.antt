-- Where the parts of a unit stand.
use Rattle.std.proofs.Common.{Bor, ap, sym, ◌∙◌, ◌≡◌, ℕ, List, []}
use Rattle.std.specs.Prelude.{Ok, Option, Some, option_map, codes, length}
use Rattle.alias_hir.specs.declared.hir.ContextValue.{ContextValue}
use Rattle.alias_hir.specs.declared.hir.HirFunction.{HirFunction}
use Rattle.alias_json.specs.declared.path.Path.{Path, fold-roll-Path}
use Rattle.alias_json.specs.declared.path.Path.TheOpen.{Path-F}
use Rattle.alias_json.specs.declared.path.Path.TheViews.{Key}
use Rattle.alias_json.specs.declared.path.Path.TheVariants.{Root, rolls-Root, rolls-Key}
use Rattle.alias_json.specs.declared.tree.Tree.{Tree}
use Rattle.alias_json.specs.Pointer.{at_key, pointer, pointer_step}
use Rattle.alias_json.specs.Reading.{Reads}
use Rattle.alias_json.specs.Tree.{view}
use Rattle.alias_read.specs.Json.{if_given}
use Rattle.alias_read.specs.Units.{context_values_at}
use Rattle.alias_read.specs.declared.unit.Format.{Format}
use Rattle.alias_read.specs.declared.unit.Format.TheVariants.{Second}
use Rattle.alias_straight.specs.Units.{given_values}

pointer-root : pointer Root ≡ []
pointer-root = ap pointer (sym rolls-Root) ∙ fold-roll-Path (List ℕ) pointer_step Path-F.Root

pointer-key : (above : Bor Path) (key : Bor (List ℕ)) → pointer (Key above key) ≡ at_key (pointer above.now) key.now
pointer-key above key = ap pointer (sym (rolls-Key above key))
    ∙ fold-roll-Path (List ℕ) pointer_step (Path-F.Key above key)

-- the pointer of a key of the root
pub root-key : (above : Bor Path) (key : Bor (List ℕ)) → above.now ≡ Root → pointer (Key above key) ≡ at_key [] key.now
root-key above key e = pointer-key above key ∙ ap (λ (p : Path). at_key (pointer p) key.now) e
    ∙ ap (λ (p : List ℕ). at_key p key.now) pointer-root

-- a part that is there is read
pub part_found : {A : Type 0} (f : Reads A) (default : A) (q key : List ℕ) → q ≡ at_key [] key → (part : Option Tree)
    (tree : Tree) → part ≡ Some tree → (x : A) → f q (view tree) ≡ Ok x
    → if_given f default (at_key [] key) (option_map view part) ≡ Ok x
part_found f default q key here part tree e x is =
    ap (λ (o : Option Tree). if_given f default (at_key [] key) (option_map view o)) e
    ∙ ap (λ (p : List ℕ). f p (view tree)) (sym here) ∙ is

-- the context values of the second format that are there are read
pub values_found : (q : List ℕ) → q ≡ at_key [] (codes "context_values") → (count : ℕ) (root : HirFunction)
    → count ≡ length root.context → (part : Option Tree) (tree : Tree) → part ≡ Some tree → (format : Format)
    → format ≡ Second → (values : List ContextValue) → context_values_at count q (view tree) ≡ Ok values
    → given_values (option_map view part) format root ≡ Ok values
values_found q here count root len part tree e format second values is =
    let key : List ℕ = at_key [] (codes "context_values") in
    ap (λ (o : Option Tree). given_values (option_map view o) format root) e
    ∙ ap (λ (f : Format). given_values (Some (view tree)) f root) second
    ∙ ap (λ (n : ℕ). context_values_at n key (view tree)) (sym len)
    ∙ ap (λ (p : List ℕ). context_values_at count p (view tree)) (sym here) ∙ is
