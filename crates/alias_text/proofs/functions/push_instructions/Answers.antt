use Rattle.std.proofs.Common.{arith, get_or}
use Rattle.alias_base.specs.declared.ids.InstructionId.{InstructionId}
use Rattle.alias_lattice.proofs.CoverLemmas.{all_more}
use Rattle.alias_text.specs.Lines.{instruction_lines}
use Rattle.alias_text.specs.Fitting.{SmallInstruction}
use Rattle.alias_text.proofs.Fits.{all_taken, get_or_there, text_more}
use Rattle.alias_text.proofs.functions.push_instructions.Goals as goal

pub loop-id-preserved : goal.loop-id-preserved
loop-id-preserved c =
    let l = c.loop-id in
    let xs = c.args.ids.now in
    let x : InstructionId = get_or xs l.id-index (record { 0 = 0 }) in
    let is = get_or_there xs l.id-index (record { 0 = 0 }) x c.loop-id-test.true in (
      text_more (instruction_lines c.args.instructions.now) xs l.id-index x l.out c.push_instruction.new.out
          c.args.out.now c.loop-id-test.true is l.invariant.0 c.in_ok-push_instruction.ensures.text,
      all_more SmallInstruction xs l.id-index x c.loop-id-test.true is l.invariant.1
          c.in_ok-push_instruction.ensures.fits,
    )

pub returns-clause-fits : goal.returns-clause-fits
returns-clause-fits c = all_taken SmallInstruction c.args.ids.now c.loop-id.id-index
    (omega (arith, c.loop-id-test.false)) c.loop-id.invariant.1
