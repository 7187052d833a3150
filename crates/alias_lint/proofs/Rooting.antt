-- The lints of a root, without their places, are what the range pass and both validations record.
use Rattle.std.proofs.Common.{◌≡◌, List, ◌++◌, refl, ap, sym, ◌∙◌, append_assoc}
use Rattle.std.specs.Prelude.{Result, Ok, Err}
use Rattle.alias_base.specs.Answer.{◌>>=◌}
use Rattle.alias_hir.specs.declared.env.Environment.{Environment}
use Rattle.alias_hir.specs.declared.error.HirError.{HirError}
use Rattle.alias_hir.specs.declared.error.InferError.{InferError}
use Rattle.alias_hir.specs.declared.hir.HirFunction.{HirFunction}
use Rattle.alias_hir.specs.declared.report.Report.{Report}
use Rattle.alias_graph.specs.recorded.BlockListings.{listed}
use Rattle.alias_graph.specs.declared.recorded.listing.Listing.{Listing}
use Rattle.alias_validate.specs.Freezing.{frozen_reports}
use Rattle.alias_lint.specs.declared.sites.Lint.{Lint}
use Rattle.alias_lint.specs.Frozen.{frozen_lints}
use Rattle.alias_lint.specs.LintLaws.{AreReports}
use Rattle.alias_lint.specs.Lints.{listing_or, root_lints}
use Rattle.alias_lint.specs.Reassigned.{reassigned_lints}
use Rattle.alias_lint.specs.Sites.{reports_of}
use Rattle.alias_lint.specs.WalkLints.{walk_lints}
use Rattle.alias_lint.proofs.FrozenLaws.{frozen_same}
use Rattle.alias_lint.proofs.Lists.{reports_more}
use Rattle.alias_lint.proofs.ReassignedLaws.{reports_in, reassigned_same}
use Rattle.alias_lint.proofs.Unreported.{reassigned_alike}
use Rattle.alias_lint.proofs.WalkLaws.{walks_same}

module _ (f : HirFunction) (env : Environment) where
  abbrev pub rest : Listing → Result (List Lint) InferError
  rest l = reassigned_lints env f >>= (λ rs. Ok ((walk_lints env f l ++ rs) ++ frozen_lints env f))

  pub listed_rest : (l : Listing) → listed f ≡ Ok l → root_lints f env ≡ rest l
  listed_rest l h = ap (λ (r : Result Listing HirError). listing_or r >>= rest) h

  -- ---- reports

  pub reported_all : (r : Result (List Lint) InferError) (rs : List Report) → reports_in r ≡ Ok rs → (xs : List Lint)
      × (r ≡ Ok xs) × (reports_of xs ≡ rs)
  reported_all (Ok xs) rs h = (xs, refl, cc)
  reported_all (Err e) rs h = cc

  -- the lints without their places are what the range pass and both validations record
  pub root_reports : (ls : List Lint) → root_lints f env ≡ Ok ls → AreReports f env ls
  root_reports ls done l begun rs es ds h same interned reported =
      let xs = reported_all (reassigned_lints env f) rs
      (reassigned_same env f ∙ sym (reassigned_alike env es f) ∙ reported) in
      let walks = walk_lints env f l in
      let frozen = frozen_lints env f in
      let all : (let y : Result (List Lint) InferError = Ok ((walks ++ xs.0) ++ frozen) in y ≡ Ok ls) =
      sym (ap (λ (z : Result (List Lint) InferError). z >>= (λ ys. Ok ((walks ++ ys) ++ frozen))) xs.1)
      ∙ sym (listed_rest l h) ∙ done in
      let is : (walks ++ xs.0) ++ frozen ≡ ls = cc in
      let parts : reports_of ls ≡ (reports_of walks ++ rs) ++ frozen_reports env f =
      ap reports_of (sym is)
      ∙ reports_more (walks ++ xs.0) frozen
      ∙ ap (λ z. z ++ reports_of frozen) (reports_more walks xs.0 ∙ ap (λ z. reports_of walks ++ z) xs.2)
      ∙ ap (λ z. (reports_of walks ++ rs) ++ z) (frozen_same env f) in
      ap (λ z. (z ++ rs) ++ frozen_reports env f)
      (walks_same env f env.config.enable_validations refl l begun same interned h)
      ∙ ap (λ z. z ++ frozen_reports env f) (append_assoc begun.errors (reports_of walks) rs)
      ∙ append_assoc begun.errors (reports_of walks ++ rs) (frozen_reports env f)
      ∙ ap (λ z. begun.errors ++ z) (sym parts)
