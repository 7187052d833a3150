-- The lints of what was inferred of a unit.
use Rattle.std.specs.Prelude.{◌≡◌, List, Ok}
use Rattle.alias_lint.specs.Lints.{lints_of}
use Rattle.alias_lint.specs.Sites.{reports_of}
use Rattle.alias_lint.specs.declared.sites.Lint.{Lint}
use Rattle.alias_nested.specs.declared.infer.Inferred.{Inferred}

-- there are such, and without their places they are the reports, in order
pub record LintsAreReports (i : Inferred) : Type 0 where
  pub lints : List Lint
  pub are : lints_of i.unit ≡ Ok lints
  pub reports : reports_of lints ≡ i.reports
