use Rattle.std.proofs.Common.{None, length, ap, ◌∙◌}
use Rattle.std.specs.Prelude.{⊤, slice_index_or}
use Rattle.alias_cert.specs.function.Claims.{differs, found_of}
use Rattle.alias_cert.specs.function.Faults.{faulted}
use Rattle.alias_cert.proofs.function.Answering.{fault_is}
use Rattle.alias_cert.proofs.function.function.check_steps.Goals as goal

pub returns-in-Ok-clause-steps : goal.returns-in-Ok-clause-steps
returns-in-Ok-clause-steps c =
    let said = c.args.said.now in
    let lines = said.blocks in
    let numbers = c.args.numbers.now in
    let count = length said.temporaries in
    let h = c.in-Ok.ensures.checks (differs lines numbers count) (λ flow b k here.
    ap (λ z. found_of z numbers c.len-temporaries.result flow.tables b (slice_index_or flow.recorded.items b None))
    c.as_slice-lines.ensures
    ∙ ap (λ z. found_of lines numbers z flow.tables b (slice_index_or flow.recorded.items b None))
    c.len-temporaries.ensures
    ∙ ap (found_of lines numbers count flow.tables b) here) in
    (h.0, ap (faulted said.function c.args.env.now c.args.func.now.body.blocks) h.1)

pub returns-in-Err-clause-steps : goal.returns-in-Err-clause-steps
returns-in-Err-clause-steps c =
    let said = c.args.said.now in
    let lines = said.blocks in
    let numbers = c.args.numbers.now in
    let count = length said.temporaries in
    let h = c.in-Err.ensures.checks (differs lines numbers count) (λ flow b k here.
    ap (λ z. found_of z numbers c.len-temporaries.result flow.tables b (slice_index_or flow.recorded.items b None))
    c.as_slice-lines.ensures
    ∙ ap (λ z. found_of lines numbers z flow.tables b (slice_index_or flow.recorded.items b None))
    c.len-temporaries.ensures
    ∙ ap (found_of lines numbers count flow.tables b) here) in (
      h.0,
      fault_is ⊤ said.function c.args.env.now c.args.func.now.body.blocks _ c.in-Err.fault c.fault_of.result _ h.1
          c.fault_of.ensures,
    )

pub returns-in-Ok-clause-func : goal.returns-in-Ok-clause-func
returns-in-Ok-clause-func c = ap (λ p. p.1) c.in-Ok.ensures.borrows

pub returns-in-Err-clause-func : goal.returns-in-Err-clause-func
returns-in-Err-clause-func c = ap (λ p. p.1) c.in-Err.ensures.borrows
