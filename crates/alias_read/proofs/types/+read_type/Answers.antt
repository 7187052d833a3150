use Rattle.std.proofs.Common.{◌≡◌, ◌<◌, codes, Some, sym, rules}
use Rattle.serde_json.specs.Data.{depth}
use Rattle.serde_json.specs.Find.{get}
use Rattle.alias_json.specs.Tree.{view}
use Rattle.alias_json.specs.Pointer.{pointer}
use Rattle.alias_read.proofs.Members.{pointer-key}
use Rattle.alias_read.proofs.Typing.{depth_get, type_missing, type_fault, type_found}
use Rattle.alias_read.proofs.types.+read_type.Goals as goal

pub returns-in-None : goal.returns-in-None
returns-in-None t c =
    type_missing (pointer c.args.path.now) _
    (pointer-key c.args.path (record { ref_ptr = _; now = codes "return_type" }))
    (view c.args.value.now) c.in_ok-kind.kind c.in_ok-shape_id-in-Function.shape_id
    c.in_ok-object.ensures c.in_ok-kind.ensures c.in-Function.is c.in_ok-shape_id-in-Function.ensures
    c.in-None.ensures c.refused.result c.refused.ensures

pub read_type-requires : goal.read_type-requires
read_type-requires t c =
    let found : get (codes "return_type") (view c.args.value.now) ≡ Some (view c.in-Some.found.now) =
    sym c.in-Some.ensures in
    let smaller : depth (view c.in-Some.found.now) < depth (view c.args.value.now) =
    depth_get (codes "return_type") (view c.args.value.now) (view c.in-Some.found.now) found in
    search rules

pub returns-in_err-return_type-in-Some : goal.returns-in_err-return_type-in-Some
returns-in_err-return_type-in-Some t c =
    type_fault (pointer c.args.path.now) _ (pointer-key c.args.path (record { ref_ptr = _; now = codes "return_type" }))
    (view c.args.value.now) c.in_ok-kind.kind c.in_ok-shape_id-in-Function.shape_id
    c.in_ok-object.ensures c.in_ok-kind.ensures c.in-Function.is c.in_ok-shape_id-in-Function.ensures
    (view c.in-Some.found.now) c.in-Some.ensures c.in_err-return_type-in-Some.field-0.0
    c.from_residual-in_err-return_type-in-Some.result
    c.from_residual-in_err-return_type-in-Some.ensures.1 c.in_err-return_type-in-Some.ensures

pub returns-in_ok-return_type-in-Some : goal.returns-in_ok-return_type-in-Some
returns-in_ok-return_type-in-Some t c =
    type_found (pointer c.args.path.now) _ (pointer-key c.args.path (record { ref_ptr = _; now = codes "return_type" }))
    (view c.args.value.now) c.in_ok-kind.kind c.in_ok-shape_id-in-Function.shape_id
    c.in_ok-object.ensures c.in_ok-kind.ensures c.in-Function.is c.in_ok-shape_id-in-Function.ensures
    (view c.in-Some.found.now) c.in-Some.ensures c.in_ok-return_type-in-Some.return_type
    c.in_ok-return_type-in-Some.ensures
    c.function_type.result c.function_type.ensures
