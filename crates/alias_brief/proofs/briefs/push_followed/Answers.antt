use Rattle.std.proofs.Common.{subst}
use Rattle.std.specs.Prelude.{List, Option}
use Rattle.alias_hir.specs.declared.hir.HirFunction.{HirFunction}
use Rattle.alias_tables.specs.declared.temporaries.Temporary.{Temporary}
use Rattle.alias_effects.specs.declared.solved.BlockEntry.{BlockEntry}
use Rattle.alias_text.specs.Results.{function_of}
use Rattle.alias_cert.specs.Known.{AreKnown}
use Rattle.alias_brief.specs.Fitting.{FittingFound, FittingTemporaries}
use Rattle.alias_brief.proofs.briefs.push_followed.Goals as goal

pub returns-clause-fits : goal.returns-clause-fits
returns-clause-fits c =
    let u = c.args.unit.now in
    let s = c.args.solved.now in
    let b = c.args.beyond.now in
    let found = subst (λ (o : Option HirFunction). FittingFound o b c.as_slice-2.result.now)
    c.function_of-func.ensures c.in_ok-push_found.ensures.fits in
    record {
      states = subst AreKnown c.as_slice.ensures c.entries_known.ensures;
      function = c.in_ok-push_function_head.ensures.fits;
      entries = subst (λ (es : List BlockEntry). FittingFound (function_of u s.function) b es) c.as_slice-2.ensures
          found;
      temporaries = subst (λ (ts : List Temporary). FittingTemporaries b.is_forward ts) c.as_slice-temporaries.ensures
          c.in_ok-push_temporaries_of.ensures.fits;
    }
