use Rattle.std.proofs.Common.{◌≡◌, [], Err, sym, rules}
use Rattle.alias_certificate.specs.declared.fault.CheckFault.{CheckFault}
use Rattle.alias_nested.proofs.Keeping.{pruned_fits}
use Rattle.alias_follow.specs.Functions.{Accounts}
use Rattle.alias_follow.specs.declared.unit.Followed.{Followed}
use Rattle.alias_follow.proofs.Whole.{handed, follows_fault, refused_below, refused_root, follows}
use Rattle.alias_follow.proofs.unit.follow.Goals as goal

pub follow_root-requires : goal.follow_root-requires
follow_root-requires c = pruned_fits c.into_unit-function.result.env c.follow_created.new.env
    c.follow_created.ensures.kept c.into_unit-function.result.function c.into_unit-function.ensures.fits

pub returns-in_err-follow_created : goal.returns-in_err-follow_created
returns-in_err-follow_created c =
    let e : CheckFault = c.in_err-follow_created.field-0.0 in
    let same : c.from_residual.result ≡ Err e = search rules in
    let none : Accounts [] c.new-solved.result c.new-beyond.result = record {
      solved_same = sym c.new-solved.ensures;
      beyond_same = sym c.new-beyond.ensures;
      solve = tt;
    } in
    follows_fault c.args.given.now.functions c.args.unit c.from_residual.result e same
    (λ free. refused_below c.as_slice-functions.result.now c.args.given.now.functions c.as_slice-functions.ensures
    c.into_unit-function.result c.args.unit c.into_unit-function.ensures.unit e
    (c.in_err-follow_created.ensures.run [] none free))

pub returns-in_err-summary : goal.returns-in_err-summary
returns-in_err-summary c =
    let e : CheckFault = c.in_err-summary.field-0.0 in
    let same : c.from_residual-in_err-summary.result ≡ Err e = search rules in
    let none : Accounts [] c.new-solved.result c.new-beyond.result = record {
      solved_same = sym c.new-solved.ensures;
      beyond_same = sym c.new-beyond.ensures;
      solve = tt;
    } in
    let l = c.in_ok-follow_created.ensures.run [] none in
    follows_fault c.args.given.now.functions c.args.unit c.from_residual-in_err-summary.result e same
    (λ free. refused_root c.as_slice-functions.result.now c.args.given.now.functions c.as_slice-functions.ensures
    c.into_unit-function.result c.args.unit c.into_unit-function.ensures.unit c.follow_created.new.env l.0 l.1 e
    (c.in_err-summary.ensures l.0 l.2 free))

pub returns : goal.returns
returns c =
    let none : Accounts [] c.new-solved.result c.new-beyond.result = record {
      solved_same = sym c.new-solved.ensures;
      beyond_same = sym c.new-beyond.ensures;
      solve = tt;
    } in
    let l = c.in_ok-follow_created.ensures.run [] none in
    let r = c.in_ok-summary.ensures l.0 l.2 in
    let f = c.follow_root.new.func in
    let last = c.follow_root.new.env in
    let solved = c.follow_root.new.handed.solved in
    let beyond = c.follow_root.new.handed.beyond in
    let x : Followed = record {
      inferred = record {
        unit = record { function = f; env = c.take_reports-reports.new.env };
        solved = solved;
        summary = c.in_ok-summary.summary;
        reports = c.take_reports-reports.result;
      };
      beyond = beyond;
    } in
    let is : x ≡ handed f last c.in_ok-summary.summary solved beyond = λ i. record {
      inferred = record {
        unit = record { function = f; env = c.take_reports-reports.ensures.taken i };
        solved = solved;
        summary = c.in_ok-summary.summary;
        reports = c.take_reports-reports.ensures.reports i;
      };
      beyond = beyond;
    } in
    follows c.as_slice-functions.result.now c.args.given.now.functions c.as_slice-functions.ensures
    c.into_unit-function.result c.args.unit c.into_unit-function.ensures.unit c.follow_created.new.env l.0 l.1 f last
    c.in_ok-summary.summary r.0 solved beyond x r.1 r.2 is
