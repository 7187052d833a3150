-- A forward unit is followed in step with its inference, and alike from whatever is given.
use Rattle.std.proofs.Common.{◌≡◌, true, List, [], ◌∷◌, Result, Ok, length, map, refl, ap, sym, ◌∙◌}
use Rattle.std.proofs.lemmas.List.{length-map}
use Rattle.std.specs.List.{AllByRecursion}
use Rattle.alias_hir.specs.declared.effect.AliasingEffect.{AliasingEffect}
use Rattle.alias_hir.specs.declared.env.Environment.{Environment}
use Rattle.alias_hir.specs.declared.env.Unit.{Unit as HirUnit}
use Rattle.alias_hir.specs.declared.error.InferError.{InferError}
use Rattle.alias_hir.specs.declared.hir.HirFunction.{HirFunction}
use Rattle.alias_effects.specs.declared.solved.Solved.{Solved}
use Rattle.alias_validate.specs.Reports.{with_errors}
use Rattle.alias_rules.specs.Fitting.{function_fits}
use Rattle.alias_rules.specs.Functions.{rules_hold}
use Rattle.alias_rules.specs.RuleLaws.{rules_make_function_fit}
use Rattle.alias_nested.specs.Analysis.{Analysis, analysis, most_levels, analysed}
use Rattle.alias_nested.specs.Units.{UnitAnalysis, all_analysed, root_analysed, handed_out as as_inferred}
use Rattle.alias_nested.specs.Units.{unit_analysed}
use Rattle.alias_nested.specs.declared.infer.Inferred.{Inferred}
use Rattle.alias_certificate.specs.declared.certificate.CertFunction.{CertFunction}
use Rattle.alias_certificate.specs.declared.fault.CheckFault.{CheckFault}
use Rattle.alias_follow.specs.Functions.{FollowedFunction, Following, following, root_followed}
use Rattle.alias_follow.specs.Units.{below_followed, all_followed, UnitFollowing, handed_out as as_followed}
use Rattle.alias_follow.specs.Units.{unit_followed}
use Rattle.alias_unit_completeness.specs.Answering.{Below}
use Rattle.alias_unit_completeness.specs.Refusals.{IsForwardUnit}
use Rattle.alias_forward_laws.proofs.Stepping.{IsBare}
use Rattle.alias_forward_laws.proofs.Together.{Together, go, together_then, InStep, RootInStep, root_together}
use Rattle.alias_forward_laws.proofs.Unmarked.{none_marked, root_forward, root_has_entry}
use Rattle.alias_forward_laws.proofs.Walking.{Marked, Walked, marked, walked, below_walks}

all_mapped : (fs : List FollowedFunction) → AllByRecursion (λ (x : FollowedFunction). IsBare x.beyond) fs
    → AllByRecursion IsBare (map (λ (x : FollowedFunction). x.beyond) fs)
all_mapped [] a = tt
all_mapped (x ∷ fs) a = (a.0, all_mapped fs a.1)

-- the same is handed out, with nothing beyond what arrives in each function
pub record UnitInStep (x : UnitAnalysis) (y : UnitFollowing) : Type 0 where
  pub inferred : x.inferred ≡ y.followed.inferred
  pub long : length y.followed.beyond ≡ length y.followed.inferred.solved
  pub bare : AllByRecursion IsBare y.followed.beyond

-- what is handed out of a root, an environment, solutions and a summary
abbrev handed : HirFunction → Environment → List Solved → List AliasingEffect → Inferred
handed f env solved summary = record {
  unit = record { function = f; env = with_errors env [] };
  solved = solved;
  summary = summary;
  reports = env.errors;
}

same_handed : (f g : HirFunction) (env more : Environment) (ss ts : List Solved) (es ds : List AliasingEffect) → f ≡ g
    → env ≡ more → ss ≡ ts → es ≡ ds → handed f env ss es ≡ handed g more ts ds
same_handed f g env more ss ts es ds a b c d =
    ap (λ z. handed z env ss es) a ∙ ap (λ z. handed g z ss es) b ∙ ap (λ z. handed g more z es) c
    ∙ ap (λ z. handed g more ts z) d

module _ (given other : List CertFunction) (u : HirUnit) (rules : rules_hold u ≡ Ok tt)
    (forward : IsForwardUnit u) where
  fits : function_fits u.function u.env ≡ true
  fits = rules_make_function_fit u rules

  unmarked : (r : Result Analysis InferError) (s t : Result Following CheckFault)
      → Walked InStep (Below Marked most_levels u.function (analysis u.env [])) r s t → Together InStep r s t
  unmarked r s t (marked e x m) = absurd (none_marked u fits forward e x m)
  unmarked r s t (walked m l) = l

  below : Together InStep (analysed most_levels u.function (analysis u.env []))
      (below_followed given most_levels u.function (following u.env []))
      (below_followed other most_levels u.function (following u.env []))
  below =
      unmarked (analysed most_levels u.function (analysis u.env []))
      (below_followed given most_levels u.function (following u.env []))
      (below_followed other most_levels u.function (following u.env []))
      (below_walks given other most_levels u.function (analysis u.env []) (following u.env [])
      (record { env = refl; solved = refl; bare = tt }))

  all : Together RootInStep (all_analysed u.function (analysis u.env []))
      (all_followed given u.function (following u.env [])) (all_followed other u.function (following u.env []))
  all =
      together_then InStep RootInStep (analysed most_levels u.function (analysis u.env []))
      (below_followed given most_levels u.function (following u.env []))
      (below_followed other most_levels u.function (following u.env [])) (root_analysed u.function)
      (root_followed given u.function) (root_followed other u.function) below
      (λ a c h. root_together given other u.function a c h (root_has_entry u fits forward)
      (root_forward u fits forward a.env))

  -- whatever is given
  pub unit_together : Together UnitInStep (unit_analysed u) (unit_followed given u) (unit_followed other u)
  unit_together =
      together_then RootInStep UnitInStep (all_analysed u.function (analysis u.env []))
      (all_followed given u.function (following u.env [])) (all_followed other u.function (following u.env []))
      (λ r. Ok (as_inferred r)) (λ r. Ok (as_followed r)) (λ r. Ok (as_followed r)) all
      (λ x y h. go (as_inferred x) (as_followed y) refl refl refl (record {
        inferred = same_handed x.func y.func x.analysis.env y.following.env (as_inferred x).inferred.solved
            (as_followed y).followed.inferred.solved x.summary y.summary h.func h.walk.env h.walk.solved h.summary;
        long = length-map y.following.functions (λ (z : FollowedFunction). z.beyond)
            ∙ sym (length-map y.following.functions (λ (z : FollowedFunction). z.solved));
        bare = all_mapped y.following.functions h.walk.bare;
      }))
