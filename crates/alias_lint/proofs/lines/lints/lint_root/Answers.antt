use Rattle.std.proofs.Common.{length}
use Rattle.alias_graph.proofs.FitLaws.{listed_fits}
use Rattle.alias_lint.proofs.lines.lints.lint_root.Goals as goal

pub push_walked-requires-clause-fits : goal.push_walked-requires-clause-fits
push_walked-requires-clause-fits c = listed_fits (length c.args.env.now.identifiers) c.args.func.now
    c.in_ok-listing.listing c.requires.fits c.in_ok-listing.ensures
