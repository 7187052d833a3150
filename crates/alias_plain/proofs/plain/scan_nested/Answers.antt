use Rattle.std.proofs.Common.{◌≡◌, ◌<◌, List, length, get_or, subst}
use Rattle.alias_hir.specs.declared.hir.HirFunction.{HirFunction}
use Rattle.alias_plain.proofs.Stops.{stops_here}
use Rattle.alias_plain.proofs.plain.scan_nested.Goals as goal

pub returns-in_err-tables : goal.returns-in_err-tables
returns-in_err-tables c =
    let k = c.loop-func.func-index in
    let f = c.func-item.result in
    let all = c.as_slice-func-items.ensures in
    stops_here c.args.env.now c.args.env.now.functions c.loop-func.number k f c.loop-func.tables _
    c.from_residual.result _
    (subst (λ (fs : List HirFunction). k < length fs) all c.loop-func-test.true)
    (subst (λ (fs : List HirFunction). f ≡ get_or fs k f) all c.func-item.is)
    c.in_err-tables.ensures c.loop-func.invariant.1 c.from_residual.ensures.1
