-- A function that is well formed with those below it is within 64 levels.
use Rattle.std.specs.Prelude.{◌≡◌, ℕ, true, List, [], ◌∷◌, ◌++◌, Option, Some, None, slice_get, refl}
use Rattle.std.specs.List.{AllByRecursion, flat_map, list_all}
use Rattle.std.proofs.Common.{zero, suc, sym, ◌∙◌, subst}
use Rattle.alias_base.specs.declared.ids.FunctionId.{FunctionId}
use Rattle.alias_hir.specs.Values.{created}
use Rattle.alias_hir.specs.declared.env.Environment.{Environment}
use Rattle.alias_hir.specs.declared.hir.HirFunction.{HirFunction}
use Rattle.alias_hir.specs.declared.hir.Instruction.{Instruction}
use Rattle.alias_rules.specs.Fitting.{function_fits}
use Rattle.alias_rules.specs.Nesting.{number_of, created_in, created_of, created_at, next_level, tree_from}
use Rattle.alias_rules.specs.RuleLaws.{fitting_tree}
use Rattle.alias_nesting_laws.specs.FittingLaws.{together}
use Rattle.alias_nesting_laws.specs.SubtreeLaws.{tree_parts, tree_end, ended_parts}
use Rattle.alias_validate.specs.Levels.{function_within, created_within, is_within}

parts_of_all : {X : Type 0} (P : X → Type 0) (xs ys : List X) → AllByRecursion P (xs ++ ys) → AllByRecursion P xs
    × AllByRecursion P ys
parts_of_all P [] ys h = (tt, h)
parts_of_all P (x ∷ xs) ys h = let b = parts_of_all P xs ys h.1 in ((h.0, b.0), b.1)

module _ (env : Environment) where
  -- the function in a slot is within so many levels
  abbrev SlotWithin : ℕ → ℕ → Type 0
  SlotWithin n k = function_within (is_within n env) (slice_get env.functions k) ≡ true

  created_first : (n : ℕ) (o : Option FunctionId) (rest : List ℕ) → AllByRecursion (SlotWithin n) (number_of o ++ rest)
      → (created_within (is_within n env) env o ≡ true) × AllByRecursion (SlotWithin n) rest
  created_first n None rest h = (refl, h)
  created_first n (Some f) rest h = (h.0, h.1)

  -- those that the instructions create
  instructions_within : (n : ℕ) (is : List Instruction)
      → AllByRecursion (SlotWithin n) (flat_map (λ (i : Instruction). number_of (created i.value)) is)
      → list_all (λ (i : Instruction). created_within (is_within n env) env (created i.value)) is ≡ true
  instructions_within n [] h = refl
  instructions_within n (i ∷ is) h =
      let p = created_first n (created i.value) (flat_map (λ (i : Instruction). number_of (created i.value)) is) h in
      together (created_within (is_within n env) env (created i.value))
      (list_all (λ (i : Instruction). created_within (is_within n env) env (created i.value)) is) p.0
      (instructions_within n is p.1)

  own_within : (n : ℕ) (f : HirFunction) → AllByRecursion (SlotWithin n) (created_in f) → is_within (suc n) env f ≡ true
  unfolding is_within
  own_within n f h = instructions_within n f.instructions h

  slot_within : (n : ℕ) (o : Option HirFunction) → AllByRecursion (SlotWithin n) (created_of o)
      → function_within (is_within (suc n) env) o ≡ true
  slot_within n None h = refl
  slot_within n (Some f) h = own_within n f h

  each_within : (n : ℕ) (level : List ℕ) → AllByRecursion (SlotWithin n) (next_level env level)
      → AllByRecursion (SlotWithin (suc n)) level
  each_within n [] h = tt
  each_within n (k ∷ level) h =
      let p = parts_of_all (SlotWithin n) (created_at env k) (next_level env level) h in
      (slot_within n (slice_get env.functions k) p.0, each_within n level p.1)

  -- a level with so many below it
  level_within : (n : ℕ) (found level ks : List ℕ) → tree_from n env found level ≡ Some ks
      → AllByRecursion (SlotWithin n) level
  level_within zero found level ks h = subst (AllByRecursion (SlotWithin zero))
      (sym (ended_parts found level ks (sym (tree_end env found level) ∙ h)).0) tt
  level_within (suc n) found level ks h =
      each_within n level (level_within n (found ++ level) (next_level env level) ks
      (tree_parts n env found level ks h).1)

pub fits_within : (f : HirFunction) (env : Environment) → function_fits f env ≡ true → is_within 64 env f ≡ true
fits_within f env h = let t = fitting_tree f env h in
    own_within env 63 f (level_within env 63 [] (created_in f) t.0 t.1)
