use Rattle.std.proofs.Common.{◌≡◌, ◌∙◌, ◌<◌, ◌≤◌, [], length, Err, ap, sym, arith, rules}
use Rattle.alias_certificate.specs.declared.fault.CheckFault.{CheckFault}
use Rattle.alias_certificate.specs.declared.fault.CheckFault.TheVariants as fault
use Rattle.alias_nested.proofs.Keeping.{pruned_fits}
use Rattle.alias_cert.specs.Functions.{Accounts}
use Rattle.alias_cert.proofs.Saying.{unit_as_said}
use Rattle.alias_cert.proofs.Whole.{accepts_fault, refused_root, refused_more, accepted}
use Rattle.alias_cert.proofs.check.check_certificate.Goals as goal

pub check_root-requires : goal.check_root-requires
check_root-requires c = pruned_fits c.into_unit-function.result.env c.check_created.new.env c.check_created.ensures.kept
    c.into_unit-function.result.function c.into_unit-function.ensures.fits

pub returns-in_err-check_root : goal.returns-in_err-check_root
returns-in_err-check_root c =
    let e : CheckFault = c.in_err-check_root.field-0.0 in
    let same : c.from_residual-in_err-check_root.result ≡ Err e = search rules in
    let none : Accounts [] c.new-solved.result = record { same = sym c.new-solved.ensures; solve = tt } in
    let l = c.in_ok-check_created.ensures.run [] none in
    accepts_fault c.args.certificate.now.functions c.args.unit c.from_residual-in_err-check_root.result e same
    (λ free. refused_root c.as_slice-functions.result.now c.args.certificate.now.functions c.as_slice-functions.ensures
    c.into_unit-function.result c.args.unit c.into_unit-function.ensures.unit
    c.check_created.new.env l.0 l.1 e (c.in_err-check_root.ensures l.0 l.2 free))

pub returns-then-len-functions : goal.returns-then-len-functions
returns-then-len-functions c =
    let none : Accounts [] c.new-solved.result = record { same = sym c.new-solved.ensures; solve = tt } in
    let l = c.in_ok-check_created.ensures.run [] none in
    let r = c.in_ok-check_root.ensures l.0 l.2 in
    let more : length c.check_root.new.solved < length c.as_slice-functions.result.now = omega arith in
    λ _.
    refused_more c.as_slice-functions.result.now c.args.certificate.now.functions c.as_slice-functions.ensures
    c.into_unit-function.result c.args.unit c.into_unit-function.ensures.unit
    c.check_created.new.env l.0 l.1 c.check_root.new.func c.check_root.new.env r.0 c.check_root.new.solved r.1 r.2 more
    ∙ ap (λ n. Err (fault.Functions n)) (sym c.len-position.ensures)

pub returns : goal.returns
returns c =
    let none : Accounts [] c.new-solved.result = record { same = sym c.new-solved.ensures; solve = tt } in
    let l = c.in_ok-check_created.ensures.run [] none in
    let r = c.in_ok-check_root.ensures l.0 l.2 in
    let all : length c.as_slice-functions.result.now ≤ length c.check_root.new.solved = omega arith in
    let whole = accepted c.as_slice-functions.result.now c.args.certificate.now.functions c.as_slice-functions.ensures
    c.into_unit-function.result c.args.unit c.into_unit-function.ensures.unit
    c.check_created.new.env l.0 l.1 c.check_root.new.func c.check_root.new.env r.0 c.check_root.new.solved r.1 r.2
    all in (
      r.0,
      whole,
      r.2,
      unit_as_said c.args.certificate.now.functions c.args.unit c.check_root.new.func
          c.check_root.new.env r.0 whole,
    )
