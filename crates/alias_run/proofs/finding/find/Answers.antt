use Rattle.std.proofs.Common.{rules, ◌≡◌, Some}
use Rattle.alias_run.specs.declared.command.Command.TheVariants.{Made}
use Rattle.alias_run.proofs.Running.{found_made}
use Rattle.alias_run.proofs.finding.find.Goals as goal

pub returns-in-Some-Made-clause-found : goal.returns-in-Some-Made-clause-found
returns-in-Some-Made-clause-found g c =
    let same : c.args.asked ≡ Some (Made c.in-Some-Made.seed c.in-Some-Made.size) = search rules in
    found_made c.args.asked c.in-Some-Made.seed c.in-Some-Made.size _ _ c.infer_made.result.status
    c.infer_made.result.answer same c.infer_made.ensures
