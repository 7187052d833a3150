-- What the range pass ensures of the root is so of the unit that is handed out.
use Rattle.std.specs.Prelude.{◌≡◌, false, List, [], ◌∷◌, ◌++◌, Option, Some, None, Result, Ok, Err, IsOkAnd, IsSomeAnd}
use Rattle.std.specs.Prelude.{OnOk, refl}
use Rattle.std.specs.List.{last_or}
use Rattle.std.proofs.Common.{sym, subst}
use Rattle.alias_base.specs.Answer.{◌>>=◌}
use Rattle.alias_hir.specs.declared.effect.AliasingEffect.{AliasingEffect}
use Rattle.alias_hir.specs.declared.env.Environment.{Environment}
use Rattle.alias_hir.specs.declared.env.Identifier.{Identifier}
use Rattle.alias_hir.specs.declared.env.Unit.{Unit as HirUnit}
use Rattle.alias_hir.specs.declared.error.InferError.{InferError}
use Rattle.alias_hir.specs.declared.hir.HirFunction.{HirFunction}
use Rattle.alias_effects.specs.Inference.{env_inferred}
use Rattle.alias_effects.specs.Recording.{with_effects_of}
use Rattle.alias_effects.specs.declared.solved.Solved.{Solved}
use Rattle.alias_ranges.specs.heap.Reading.{HeapIsCovered}
use Rattle.alias_ranges.specs.Ranges.{RangesCover, RangesHaveCauses, ListsFlows}
use Rattle.alias_nested.specs.declared.infer.Inferred.{Inferred}
use Rattle.alias_nested.specs.Analysis.{Analysed, Analysis, analysis}
use Rattle.alias_nested.specs.Roots.{root_of, with_effects, EndsHaveCauses, RootIsCovered, RootCoversHeap}
use Rattle.alias_nested.specs.Roots.{RootHasCauses, RootListsFlows, RootRanged, IsRanged}
use Rattle.alias_nested.specs.Units.{RootAnalysis, UnitAnalysis, unit_analysed}

last_added : (o : Option Analysed) (xs : List Analysed) (x : Analysed) → last_or o (xs ++ x ∷ []) ≡ Some x
last_added o [] x = refl
last_added o (y ∷ ys) x = last_added (Some y) ys x

-- ---- the root, once its range pass has run

abbrev root : Environment → HirFunction → Solved → Analysed
root env func s = record { env = env; func = func; is_function_expression = false; solved = s }

module _ (env : Environment) (func : HirFunction) (s : Solved) (func' : HirFunction)
    (made : func' ≡ with_effects_of s func) (begun : Environment) (is_begun : env_inferred env func false ≡ Ok begun)
    (ranged last : Environment) (summary : List AliasingEffect)
    (same : last.identifiers ≡ ranged.identifiers) where
  root_ranged : RangesCover func' ranged.identifiers → HeapIsCovered func' ranged.identifiers
      → RangesHaveCauses func' begun.identifiers ranged.identifiers → ListsFlows func' summary
      → RootRanged (root env func s) last.identifiers summary
  root_ranged cover heap cause flows =
      let caused : RangesHaveCauses (with_effects_of s func) begun.identifiers last.identifiers =
      subst (λ ids. RangesHaveCauses (with_effects_of s func) begun.identifiers ids) (sym same)
      (subst (λ f. RangesHaveCauses f begun.identifiers ranged.identifiers) made cause) in
      record {
        cover = subst (λ ids. RangesCover (with_effects_of s func) ids) (sym same)
            (subst (λ f. RangesCover f ranged.identifiers) made cover);
        heap = subst (λ ids. HeapIsCovered (with_effects_of s func) ids) (sym same)
            (subst (λ f. HeapIsCovered f ranged.identifiers) made heap);
        cause = subst (λ (r : Result Environment InferError).
            IsOkAnd r (λ e. RangesHaveCauses (with_effects_of s func) e.identifiers last.identifiers)) (sym is_begun)
            caused;
        flows = subst (λ f. ListsFlows f summary) made flows;
      }

  pub root_is_ranged : (stated : Result RootAnalysis InferError) (g : HirFunction) (fs : List Analysed) → stated
      ≡ Ok (record { summary = summary; func = g; analysis = analysis last (fs ++ root env func s ∷ []) })
      → RangesCover func' ranged.identifiers → HeapIsCovered func' ranged.identifiers
      → RangesHaveCauses func' begun.identifiers ranged.identifiers → ListsFlows func' summary
      → IsOkAnd stated IsRanged
  root_is_ranged stated g fs is cover heap cause flows =
      subst (λ (r : Result RootAnalysis InferError). IsOkAnd r IsRanged) (sym is)
      (subst (λ (o : Option Analysed). IsSomeAnd o (λ x. RootRanged x last.identifiers summary))
      (sym (last_added None fs (root env func s))) (root_ranged cover heap cause flows))

-- after the functions below the root
pub then_ranged : (first : Result Analysis InferError) (step : Analysis → Result RootAnalysis InferError) (a : Analysis)
    → first ≡ Ok a → IsOkAnd (step a) IsRanged → IsOkAnd (first >>= step) IsRanged
then_ranged first step a is h = subst (λ (r : Result Analysis InferError). IsOkAnd (r >>= step) IsRanged) (sym is) h

-- what is so of each answer with a summary
pub at_summary : {A B : Type 0} (r : Result (List AliasingEffect) InferError) → (A → B) → OnOk r A → OnOk r B
at_summary (Ok s) f h = f h
at_summary (Err e) f h = tt

-- ---- the unit

some_and : {A : Type 0} (o : Option A) (P Q : A → Type 0) → ((x : A) → P x → Q x) → IsSomeAnd o P → IsSomeAnd o Q
some_and None P Q f h = h
some_and (Some x) P Q f h = f x h

module _ (v : HirUnit) (fs : List Analysed) (i : Inferred)
    (is : unit_analysed v ≡ Ok (record { functions = fs; inferred = i })) where
  handed : (P : List Analysed → Type 0) → P fs → IsOkAnd (unit_analysed v) (λ a. P a.functions)
  handed P h = subst (λ (r : Result UnitAnalysis InferError). IsOkAnd r (λ a. P a.functions)) (sym is) h

  module _ (stated : Result RootAnalysis InferError) (g : HirFunction) (env : Environment)
      (led : stated ≡ Ok (record { summary = i.summary; func = g; analysis = analysis env fs }))
      (same : i.unit.env.identifiers ≡ env.identifiers) (h : IsOkAnd stated IsRanged) where
    root_holds : IsSomeAnd (root_of fs) (λ x. RootRanged x env.identifiers i.summary)
    root_holds = subst (λ (r : Result RootAnalysis InferError). IsOkAnd r IsRanged) led h

    handed_root : (P : Analysed → List Identifier → Type 0)
        → ((x : Analysed) → RootRanged x env.identifiers i.summary → P x env.identifiers)
        → IsSomeAnd (root_of fs) (λ x. P x i.unit.env.identifiers)
    handed_root P f = subst (λ ids. IsSomeAnd (root_of fs) (λ x. P x ids)) (sym same)
        (some_and (root_of fs) (λ x. RootRanged x env.identifiers i.summary) (λ x. P x env.identifiers) f root_holds)

    pub unit_covered : IsOkAnd (unit_analysed v) (λ a. RootIsCovered a.functions i)
    unit_covered = handed (λ gs. RootIsCovered gs i)
        (handed_root (λ x ids. RangesCover (with_effects x) ids) (λ x r. r.cover))

    pub unit_covers_heap : IsOkAnd (unit_analysed v) (λ a. RootCoversHeap a.functions i)
    unit_covers_heap = handed (λ gs. RootCoversHeap gs i)
        (handed_root (λ x ids. HeapIsCovered (with_effects x) ids) (λ x r. r.heap))

    pub unit_caused : IsOkAnd (unit_analysed v) (λ a. RootHasCauses a.functions i)
    unit_caused = handed (λ gs. RootHasCauses gs i) (handed_root EndsHaveCauses (λ x r. r.cause))

    pub unit_flows : IsOkAnd (unit_analysed v) (λ a. RootListsFlows a.functions i)
    unit_flows = handed (λ gs. RootListsFlows gs i)
        (handed_root (λ x ids. ListsFlows (with_effects x) i.summary) (λ x r. r.flows))
