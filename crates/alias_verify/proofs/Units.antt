-- What the test of a unit's edges says.
use Rattle.std.proofs.Common.{◌≡◌, ℕ, Bool, true, false, ◌&&◌, List, [], ◌∷◌, Some, IsTrue, zero, suc, refl, ap, sym, ◌∙◌}
use Rattle.std.specs.Prelude.{◌↔◌, slice_get}
use Rattle.std.specs.List.{list_all}
use Rattle.alias_base.specs.AnswerLaws.{both_true}
use Rattle.alias_flow.proofs.EachEdge.{forward_is}
use Rattle.alias_flow.proofs.check.Solves.{is_forward}
use Rattle.alias_hir.specs.declared.env.Environment.{Environment}
use Rattle.alias_hir.specs.declared.env.Unit.{Unit as HirUnit}
use Rattle.alias_hir.specs.declared.hir.HirFunction.{HirFunction}
use Rattle.alias_step.specs.block.Contexts.{context_of}
use Rattle.alias_effects.specs.Numbered.{numbered}
use Rattle.alias_completeness.specs.Forward.{GoesForward}
use Rattle.alias_unit_completeness.specs.Refusals.{IsForwardUnit}
use Rattle.alias_verify.specs.Edges.{goes_forward, unit_goes_forward}

function_is : (env : Environment) (f : HirFunction) (b : Bool) → goes_forward f ≡ true → GoesForward env f b
function_is env f b h = forward_is (numbered (context_of env f b)) h

is_function : (env : Environment) (f : HirFunction) (b : Bool) → GoesForward env f b → goes_forward f ≡ true
is_function env f b h = is_forward (numbered (context_of env f b)) h

one_of_all : {X : Type 0} (test : X → Bool) (xs : List X) (k : ℕ) (x : X) → list_all test xs ≡ true
    → slice_get xs k ≡ Some x → test x ≡ true
one_of_all test [] k x h at = cc
one_of_all test (y ∷ xs) zero x h at =
    let same : y ≡ x = cc in
    ap test (sym same) ∙ (both_true (test y) (list_all test xs) h).0
one_of_all test (y ∷ xs) (suc k) x h at = one_of_all test xs k x (both_true (test y) (list_all test xs) h).1 at

all_of_each : {X : Type 0} (test : X → Bool) (xs : List X)
    → ((k : ℕ) (x : X) → slice_get xs k ≡ Some x → test x ≡ true) → list_all test xs ≡ true
all_of_each test [] h = refl
all_of_each test (x ∷ xs) h = ap (λ t. t && list_all test xs) (h 0 x refl)
    ∙ all_of_each test xs (λ k y at. h (suc k) y at)

unit_is : (u : HirUnit) → unit_goes_forward u ≡ true → IsForwardUnit u
unit_is u h =
    let both = both_true (goes_forward u.function) (list_all goes_forward u.env.functions) h in
    record {
      root = function_is u.env u.function false both.0;
      nested = λ k f at. function_is u.env f true (one_of_all goes_forward u.env.functions k f both.1 at);
    }

is_unit : (u : HirUnit) → IsForwardUnit u → unit_goes_forward u ≡ true
is_unit u h = ap (λ t. t && list_all goes_forward u.env.functions) (is_function u.env u.function false h.root)
    ∙ all_of_each goes_forward u.env.functions (λ k f at. is_function u.env f true (h.nested k f at))

-- the test of all edges, and what it says
pub unit_is_forward : (u : HirUnit) (r : Bool) → r ≡ unit_goes_forward u → IsTrue r ↔ IsForwardUnit u
unit_is_forward u r e = (λ t. unit_is u (sym e ∙ t), λ h. e ∙ is_unit u h)
