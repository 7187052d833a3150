-- What is recorded, where the pass goes on and where it is refused.
use Rattle.std.proofs.Common.{◌≡◌, ℕ, ◌+◌, ◌≤◌, Bool, true, false, if◌then◌else◌, nat_le, List, [], ◌∷◌, Option, None}
use Rattle.std.proofs.Common.{length, refl, ap, sym, ◌∙◌, subst, arith}
use Rattle.std.specs.Prelude.{Result, Ok, Err, ⊤}
use Rattle.std.proofs.lemmas.Bool.Decides.{nat_tests}
use Rattle.alias_base.specs.Answer.{◌>>=◌}
use Rattle.alias_base.specs.declared.ids.InstructionId.{InstructionId}
use Rattle.alias_hir.specs.declared.error.Counter.TheVariants.{GraphPositions}
use Rattle.alias_hir.specs.declared.error.HirError.{HirError}
use Rattle.alias_hir.specs.declared.error.HirError.TheVariants as hir
use Rattle.alias_hir.specs.declared.error.InferError.{InferError}
use Rattle.alias_hir.specs.declared.error.InferError.TheVariants.{TooMany}
use Rattle.alias_hir.specs.declared.hir.HirFunction.{HirFunction}
use Rattle.alias_hir.specs.declared.hir.Instruction.{Instruction}
use Rattle.alias_hir.specs.Errors.{is_memory, is_hir_memory, infer_error}
use Rattle.alias_graph.specs.declared.recorded.listing.Listing.{Listing}
use Rattle.alias_graph.specs.recorded.BlockListings.{listed}
use Rattle.alias_graph.specs.recorded.Fitting.{AllOf, InstructionFits}
use Rattle.alias_graph.proofs.FitLaws.{went_on}
use Rattle.alias_range_pass.specs.places.Keeping.{OrdersFit}
use Rattle.alias_range_pass.specs.summary.Summaries.{tracked}
use Rattle.alias_range_pass.specs.Refusals.{unreplaced, none_unreplaced, listing_or, positions_left, recorded}

-- ---- refusals

not_memory : (e : HirError) → is_memory (infer_error e) ≡ false → is_hir_memory e ≡ false
not_memory (hir.TooMany c) h = refl
not_memory (hir.Memory e) h = h

abbrev recorded_from : Option InstructionId → Result Listing HirError → ℕ → Result Listing InferError
recorded_from u r n = none_unreplaced u >>= (λ replaced. listing_or r
    >>= (λ l. positions_left l.next n >>= (λ left. Ok l)))

pub listing_refused : (f : HirFunction) (e : HirError) → None ≡ unreplaced f
    → (is_hir_memory e ≡ false → listed f ≡ Err e) → is_memory (infer_error e) ≡ false → recorded f
    ≡ Err (infer_error e)
listing_refused f e none is h =
    let n = length (tracked f) in
    ap (λ z. recorded_from z (listed f) n) (sym none) ∙ ap (λ z. recorded_from None z n) (is (not_memory e h))

-- ---- where it goes on

listing_is : (r : Result Listing HirError) (l : Listing) → listing_or r ≡ Ok l → r ≡ Ok l
listing_is (Ok m) l h = let e : m ≡ l = cc in ap Ok e
listing_is (Err e) l h = cc

fit_left : (b : Bool) (x : ⊤) → (let r : Result ⊤ InferError = if b then Ok tt else Err (TooMany GraphPositions) in r
    ≡ Ok x) → b ≡ true
fit_left true x h = refl
fit_left false x h = cc

left_fits : (n k : ℕ) → nat_le (n + k) 4294967295 ≡ true → n + k ≤ 4294967295
left_fits n k h = grind (arith, nat_tests)

pub record IsRecorded (f : HirFunction) (l : Listing) : Type 0 where
  pub listing : listed f ≡ Ok l
  pub left : l.next + length (tracked f) ≤ 4294967295

pub recorded_is : (f : HirFunction) (l : Listing) → recorded f ≡ Ok l → IsRecorded f l
recorded_is f l h =
    let rest : Listing → Result Listing InferError = λ m. positions_left m.next (length (tracked f))
    >>= (λ left. Ok m) in
    let u = went_on (none_unreplaced (unreplaced f)) (λ replaced. listing_or (listed f) >>= rest) l h in
    let v = went_on (listing_or (listed f)) rest l u.2 in
    let w = went_on (positions_left v.0.next (length (tracked f))) (λ left. Ok v.0) l v.2 in
    let e : v.0 ≡ l = cc in
    subst (IsRecorded f) e (record {
      listing = listing_is (listed f) v.0 v.1;
      left = left_fits v.0.next (length (tracked f))
          (fit_left (nat_le (v.0.next + length (tracked f)) 4294967295) w.0 w.1);
    })

-- two listings that are recorded are one
pub recorded_once : (f : HirFunction) (l m : Listing) → recorded f ≡ Ok l → recorded f ≡ Ok m → l ≡ m
recorded_once f l m p q = let e : (let r : Result Listing InferError = Ok l in r ≡ Ok m) = sym p ∙ q in cc

pub orders_fit : (n : ℕ) (is : List Instruction) → AllOf (InstructionFits n) is → OrdersFit is
orders_fit n [] p = tt
orders_fit n (i ∷ is) p = (p.0.0, orders_fit n is p.1)
