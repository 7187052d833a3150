-- What follows for a unit: functions innermost first, and then the root.
use Rattle.std.specs.Prelude.{◌≡◌, ℕ, zero, suc, false, List, [], ◌∷◌, Option, Some, None, Result, Ok, Err, map}
use Rattle.std.specs.Prelude.{slice_get}
use Rattle.std.specs.List.{AllByRecursion}
use Rattle.alias_base.specs.Answer.{◌>>=◌}
use Rattle.alias_base.specs.declared.ids.FunctionId.{FunctionId}
use Rattle.alias_hir.specs.declared.env.Unit.{Unit as HirUnit}
use Rattle.alias_hir.specs.declared.hir.HirFunction.{HirFunction}
use Rattle.alias_validate.specs.Reports.{with_errors}
use Rattle.alias_nesting_laws.specs.Slots.{with_function}
use Rattle.alias_nested.specs.Created.{created_functions}
use Rattle.alias_nested.specs.Slots.{emptied}
use Rattle.alias_nested.specs.Analysis.{most_levels}
use Rattle.alias_certificate.specs.declared.certificate.CertFunction.{CertFunction}
use Rattle.alias_certificate.specs.declared.fault.CheckFault.{CheckFault}
use Rattle.alias_cert.specs.function.Faults.{is_memory}
use Rattle.alias_follow.specs.declared.unit.Followed.{Followed}
use Rattle.alias_follow.specs.Functions.{FollowedFunction, Following, following, nested_followed, RootFollowing}
use Rattle.alias_follow.specs.Functions.{root_followed, SolvesItsFlow}

-- one after the other, up to the first fault
abbrev pub each : {X : Type 0} → (X → Following → Result Following CheckFault) → List X → Following
    → Result Following CheckFault
each step [] a = Ok a
each step (x ∷ xs) a = step x a >>= each step xs

abbrev pub put_back : FunctionId → HirFunction × Following → Following
put_back id s = record s.1 { env = with_function id s.0 s.1.env }

module _ (given : List CertFunction) where
  -- a nested function that is out of its slot: first those below it
  abbrev pub taken_followed : (HirFunction → Following → Result Following CheckFault) → FunctionId → HirFunction
      → Following → Result (HirFunction × Following) CheckFault
  taken_followed below id f a = below f a >>= nested_followed given id f

  abbrev pub found_followed : (HirFunction → Following → Result Following CheckFault) → FunctionId → Following
      → Option HirFunction → Result Following CheckFault
  found_followed below id a None = Ok a
  found_followed below id a (Some f) = do
    s ← taken_followed below id f (record a { env = with_function id (emptied f.returns) a.env })
    Ok (put_back id s)

  -- the nested function of a number is taken out of its slot, followed behind those below it, and put back
  abbrev pub slot_followed : (HirFunction → Following → Result Following CheckFault) → FunctionId → Following
      → Result Following CheckFault
  slot_followed below id a = found_followed below id a (slice_get a.env.functions id.0)

  -- the functions on the n levels below a function, in stored order, those below each before it
  unfoldable pub below_followed : ℕ → HirFunction → Following → Result Following CheckFault
  below_followed zero f a = Ok a
  below_followed (suc n) f a = each (slot_followed (below_followed n)) (created_functions f) a

  -- all functions of a unit, the root last
  abbrev pub all_followed : HirFunction → Following → Result RootFollowing CheckFault
  all_followed f a = below_followed most_levels f a >>= root_followed given f

-- what follows for a unit, with each function as the pass over it began
pub record UnitFollowing : Type 0 where
  pub functions : List FollowedFunction
  pub followed : Followed

-- what is handed out: the reports are taken out of the environment
abbrev pub handed_out : RootFollowing → UnitFollowing
handed_out r = record {
  functions = r.following.functions;
  followed = record {
    inferred = record {
      unit = record { function = r.func; env = with_errors r.following.env [] };
      solved = map (λ (x : FollowedFunction). x.solved) r.following.functions;
      summary = r.summary;
      reports = r.following.env.errors;
    };
    beyond = map (λ (x : FollowedFunction). x.beyond) r.following.functions;
  };
}

-- what follows for a unit from what is given of its functions, or the first fault
abbrev pub unit_followed : List CertFunction → HirUnit → Result UnitFollowing CheckFault
unit_followed given u = do
  r ← all_followed given u.function (following u.env [])
  Ok (handed_out r)

-- ---- what the call answers

-- what is handed out is what follows, and what it has of each function solves the function's flow; or the fault is the
-- first one. Out of memory is free: it can come in the place of any answer
abbrev pub Follows : List CertFunction → HirUnit → Result Followed CheckFault → Type 0
Follows given u (Ok x) =
    (fs : List FollowedFunction) × (unit_followed given u ≡ Ok (record { functions = fs; followed = x }))
    × AllByRecursion SolvesItsFlow fs
Follows given u (Err e) = is_memory e ≡ false → unit_followed given u ≡ Err e
