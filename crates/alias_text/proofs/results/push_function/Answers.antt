use Rattle.std.proofs.Common.{subst}
use Rattle.std.specs.Prelude.{List, Option}
use Rattle.std.specs.List.{AllByRecursion}
use Rattle.alias_hir.specs.declared.hir.HirFunction.{HirFunction}
use Rattle.alias_effects.specs.declared.solved.BlockEntry.{BlockEntry}
use Rattle.alias_text.specs.Fitting.{SmallName, SmallTemporary, FittingEntries, FittingSolved, IfCertify}
use Rattle.alias_text.specs.Results.{function_of}
use Rattle.alias_text.proofs.Fits.{if_both, if_so}
use Rattle.alias_text.proofs.results.push_function.Goals as goal

pub returns-clause-fits : goal.returns-clause-fits
returns-clause-fits c =
    let u = c.args.unit.now in
    let s = c.args.solved.now in
    let d = c.args.detail in
    let found = subst (λ (o : Option HirFunction). IfCertify d (FittingEntries o c.as_slice-2.result.now))
    c.function_of.ensures c.in_ok-push_found.ensures.fits in
    let entries = subst (λ (es : List BlockEntry). IfCertify d (FittingEntries (function_of u s.function) es))
    c.as_slice-2.ensures found in
    let fits : FittingEntries (function_of u s.function) s.entries → SmallName s.function
    × AllByRecursion SmallTemporary s.temporaries → FittingSolved u s =
    λ found rest. record { function = rest.0; entries = found; temporaries = rest.1 } in
    let named = if_so d c.in_ok-push_function_head.ensures.fits in
    let rest = if_both (λ (n : SmallName s.function) (t : AllByRecursion SmallTemporary s.temporaries). (n, t)) d named
    c.in_ok-push_tables_of.ensures.fits in
    if_both fits d entries rest
