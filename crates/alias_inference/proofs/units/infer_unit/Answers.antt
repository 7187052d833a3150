use Rattle.alias_inference.proofs.Following.{complete, plain, applies, operands, solved, nested, explained}
use Rattle.alias_inference.proofs.units.infer_unit.Goals as goal

pub returns-clause-complete : goal.returns-clause-complete
returns-clause-complete g c = let rules = c.unit-unit.ensures in
    complete c.args.unit c.unit-unit.result.now rules.unit rules.checked c.infer_unit.result c.infer_unit.ensures.answer

pub returns-clause-plain : goal.returns-clause-plain
returns-clause-plain g c = let rules = c.unit-unit.ensures in
    plain c.args.unit c.unit-unit.result.now rules.unit rules.checked c.infer_unit.result c.infer_unit.ensures.answer

pub returns-clause-applies : goal.returns-clause-applies
returns-clause-applies g c = let rules = c.unit-unit.ensures in
    applies c.args.unit c.unit-unit.result.now rules.unit rules.checked c.infer_unit.result c.infer_unit.ensures.answer

pub returns-clause-operands : goal.returns-clause-operands
returns-clause-operands g c = let rules = c.unit-unit.ensures in
    operands c.args.unit c.unit-unit.result.now rules.unit rules.checked c.infer_unit.result c.infer_unit.ensures.answer

pub returns-clause-solved : goal.returns-clause-solved
returns-clause-solved g c = let rules = c.unit-unit.ensures in
    solved c.args.unit c.unit-unit.result.now rules.unit rules.checked c.infer_unit.result c.infer_unit.ensures.answer

pub returns-clause-nested : goal.returns-clause-nested
returns-clause-nested g c = let rules = c.unit-unit.ensures in
    nested c.args.unit c.unit-unit.result.now rules.unit rules.checked c.infer_unit.result c.infer_unit.ensures.answer

pub returns-clause-explained : goal.returns-clause-explained
returns-clause-explained g c = let rules = c.unit-unit.ensures in
    explained c.args.unit c.unit-unit.result.now rules.unit rules.checked c.infer_unit.result
    c.infer_unit.ensures.answer
