-- What is explained of all identifiers of a function is explained of each alone.
use Rattle.std.proofs.Common.{◌≡◌, ℕ, List, [], ◌∷◌, ◌++◌, length, Option, Some, None, refl, sym, ◌∙◌, ap, subst}
use Rattle.std.specs.Prelude.{Result, Ok, Err}
use Rattle.std.specs.List.{AllByRecursion, range_with_len}
use Rattle.alias_base.specs.Answer.{◌>>=◌}
use Rattle.alias_base.specs.declared.ids.FunctionId.{FunctionId}
use Rattle.alias_hir.specs.declared.env.Unit.{Unit as HirUnit}
use Rattle.alias_hir.specs.declared.hir.HirFunction.{HirFunction}
use Rattle.alias_explain.specs.declared.explain.Explanation.{Explanation}
use Rattle.alias_explain.specs.declared.explain.ExplainFault.{ExplainFault}
use Rattle.alias_explain.specs.declared.explain.ExplainFault.TheVariants.{NotHere, TooMany, Memory}
use Rattle.alias_explain.specs.declared.function.IdentifierExplanation.{IdentifierExplanation}
use Rattle.alias_explain.specs.Explanations.{explained, function_of}
use Rattle.alias_explain.specs.Functions.{numbered, if_here, with_found, each_explained, explained_there}
use Rattle.alias_explain.specs.Functions.{function_explained, IsExplanationOf}

module _ (u : HirUnit) (function : Option FunctionId) where
  abbrev Alone : List IdentifierExplanation → Type 0
  Alone xs = AllByRecursion (IsExplanationOf u function) xs

  one_more : (xs : List IdentifierExplanation) (x : IdentifierExplanation) → Alone xs → IsExplanationOf u function x
      → Alone (xs ++ x ∷ [])
  one_more [] x h is = (is, tt)
  one_more (y ∷ ys) x h is = (h.0, one_more ys x h.1 is)

  -- of the next identifier, where it is so of those that are left
  next_of : (n : ℕ) (ns : List ℕ) (found xs : List IdentifierExplanation) (r : Result Explanation ExplainFault)
      → explained u function (numbered n) ≡ r → Alone found
      → ((more : List IdentifierExplanation) → Alone more → each_explained u function more ns ≡ Ok xs → Alone xs)
      → (if_here r >>= (λ e. each_explained u function (with_found found (numbered n) e) ns)) ≡ Ok xs → Alone xs
  next_of n ns found xs (Ok e) is h rest all =
      let x : IdentifierExplanation = record { identifier = numbered n; explanation = e } in
      rest (found ++ x ∷ []) (one_more found x h is) all
  next_of n ns found xs (Err NotHere) is h rest all = rest found h all
  next_of n ns found xs (Err (TooMany which)) is h rest all = cc
  next_of n ns found xs (Err (Memory e)) is h rest all = cc

  each_of : (ns : List ℕ) (found xs : List IdentifierExplanation) → Alone found → each_explained u function found ns
      ≡ Ok xs → Alone xs
  each_of [] found xs h all = let same : found ≡ xs = cc in subst Alone same h
  each_of (n ∷ ns) found xs h all = next_of n ns found xs (explained u function (numbered n)) refl h
      (λ more g e. each_of ns more xs g e) all

  there_alone : (f : Option HirFunction) (xs : List IdentifierExplanation) → explained_there u function f ≡ Ok xs
      → Alone xs
  there_alone None xs h = cc
  there_alone (Some f) xs h = each_of (range_with_len 0 (length u.env.identifiers)) [] xs tt h

  pub each_alone : (xs : List IdentifierExplanation) → function_explained u function ≡ Ok xs → Alone xs
  each_alone xs h = there_alone (function_of u function) xs h
