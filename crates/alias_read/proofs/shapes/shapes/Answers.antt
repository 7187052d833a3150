use Rattle.alias_read.proofs.EntrySteps.{pointer-index, gives_same}
use Rattle.alias_read.proofs.ShapeSteps.{shapes_next, shapes_fault}
use Rattle.alias_read.proofs.shapes.shapes.Goals as goal

pub returns-in_err-shape : goal.returns-in_err-shape
returns-in_err-shape c =
    let v = c.index-values-index in
    gives_same _ c.from_residual.result c.in_err-shape.field-0.0 c.from_residual.ensures.1
    (shapes_fault _ c.args.values.now c.loop-index.index v.result c.loop-index.found _
    (pointer-index c.args.path c.loop-index.index) _ _ c.loop-index-test.true v.is c.loop-index.invariant
    c.in_err-shape.ensures)

pub loop-index-preserved : goal.loop-index-preserved
loop-index-preserved c =
    let v = c.index-values-index in
    shapes_next _ c.args.values.now c.loop-index.index v.result c.loop-index.found _
    (pointer-index c.args.path c.loop-index.index) _ c.in_ok-shape.shape c.push.new.self c.loop-index-test.true v.is
    c.loop-index.invariant c.in_ok-shape.ensures c.in_ok-push.ensures.ok
