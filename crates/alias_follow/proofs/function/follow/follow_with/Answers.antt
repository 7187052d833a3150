use Rattle.std.proofs.Common.{◌≡◌, ◌∙◌, length, option_map, [], Ok, Err, ap, sym, subst, rules}
use Rattle.std.specs.Borrow.{Bor}
use Rattle.alias_rules.specs.RuleLaws.{fitting_entry, fitting_successors}
use Rattle.alias_flow.specs.Runs.{solver_state}
use Rattle.alias_flow.specs.Solutions.{goes_forward}
use Rattle.alias_flow.specs.check.Reached.{reached_marks}
use Rattle.alias_step.specs.block.Contexts.{held}
use Rattle.alias_effects.specs.Inference.{end_of}
use Rattle.alias_effects.specs.Numbered.{numbered}
use Rattle.alias_effects.proofs.Solving.{Numbers}
use Rattle.alias_certificate.specs.declared.certificate.CertFunction.{CertFunction}
use Rattle.alias_certificate.specs.declared.fault.CheckFault.{CheckFault}
use Rattle.alias_cert.specs.function.Functions.{marked_positions}
use Rattle.alias_follow.specs.declared.function.follow.FunctionEnd.{FunctionEnd}
use Rattle.alias_follow.specs.function.Functions.{is_forward, marks, followed_end}
use Rattle.alias_follow.specs.function.Functions.{function_followed}
use Rattle.alias_follow.specs.function.Givens.{kept, limit, blocks_given}
use Rattle.alias_follow.specs.lines.Known.{AreLinesKnown}
use Rattle.alias_follow.proofs.function.Answering.{gives_fault, its_pass, pass_as, function_refused, function_comes}
use Rattle.alias_follow.proofs.function.Recording.{followed_keeps}
use Rattle.alias_follow.proofs.function.SolvesFunction.{pass_end_solves}
use Rattle.alias_follow.proofs.function.follow.follow_with.Goals as goal

pub follow_given-requires : goal.follow_given-requires
follow_given-requires c =
    let count = ap (λ r. r.blocks) c.in_ok-flow.ensures.rules in
    record {
      env = c.in_ok-flow.ensures.env;
      blocks = count;
      marks =
          ap length c.as_slice-reached.ensures.value ∙ sym c.in_ok-found.found.marks.ok.0 ∙ c.in_ok-found.ensures.count ∙ count;
    }

pub returns-in_err-passage-clause-answer : goal.returns-in_err-passage-clause-answer
returns-in_err-passage-clause-answer c =
    let given = option_map (λ (g : Bor CertFunction). g.now) c.args.given in
    let id = c.args.function in
    let env = c.args.env.now in
    let func = c.args.func.now in
    let b = c.args.is_function_expression in
    let flow = c.in_ok-flow.flow in
    let forward_is : c.in_ok-found.found.is_forward ≡ is_forward given id env func b =
    c.in_ok-found.ensures.forward ∙ ap goes_forward c.in_ok-flow.ensures.rules in
    let said = option_map (λ (g : Bor CertFunction). g.now) c.kept-said.result in
    let marks_are : c.as_slice-reached.result.now ≡ marks given id env func b = c.as_slice-reached.ensures.value
    ∙ c.in_ok-found.ensures.marks ∙ ap reached_marks c.in_ok-flow.ensures.rules in
    let same_pass = pass_as given id env func b said c.limit-most.result (numbered (held flow.context))
    c.as_slice-reached.result.now flow.tables flow.recorded.items
    (c.kept-said.ensures ∙ ap (λ z. kept z given) forward_is)
    (c.limit-most.ensures ∙ ap (λ z. limit z given) forward_is) c.in_ok-flow.ensures.rules marks_are
    c.in_ok-flow.ensures.tables c.in_ok-flow.ensures.recorded in
    let fault : CheckFault = c.in_err-passage.field-0.0 in
    let same : c.from_residual-in_err-passage.result ≡ Err fault = search rules in
    gives_fault (function_followed given id env func b) c.from_residual-in_err-passage.result fault same
    (λ m. function_refused given id env func b fault (same_pass ∙ c.in_err-passage.ensures.steps m))

pub into_end-requires : goal.into_end-requires
into_end-requires c =
    let func_is : c.follow_given.new.flow.context.func.now ≡ c.args.func.now =
    ap (λ p. p.now) c.in_ok-passage.ensures.func ∙ c.in_ok-flow.ensures.func in
    c.in_ok-passage.ensures.entries ∙ sym (ap (λ f. length f.body.blocks) func_is)

pub returns : goal.returns
returns c =
    let given = option_map (λ (g : Bor CertFunction). g.now) c.args.given in
    let id = c.args.function in
    let env = c.args.env.now in
    let func = c.args.func.now in
    let b = c.args.is_function_expression in
    let flow = c.in_ok-flow.flow in
    let left = c.follow_given.new.flow in
    let passage = c.in_ok-passage.passage in
    let forward_is : c.in_ok-found.found.is_forward ≡ is_forward given id env func b =
    c.in_ok-found.ensures.forward ∙ ap goes_forward c.in_ok-flow.ensures.rules in
    let said = option_map (λ (g : Bor CertFunction). g.now) c.kept-said.result in
    let said_is : said ≡ kept (is_forward given id env func b) given =
    c.kept-said.ensures ∙ ap (λ z. kept z given) forward_is in
    let marks_are : c.as_slice-reached.result.now ≡ marks given id env func b = c.as_slice-reached.ensures.value
    ∙ c.in_ok-found.ensures.marks ∙ ap reached_marks c.in_ok-flow.ensures.rules in
    let w = solver_state passage left.tables left.recorded.items in
    let passed : its_pass given id env func b ≡ Ok w =
    pass_as given id env func b said c.limit-most.result (numbered (held flow.context)) c.as_slice-reached.result.now
    flow.tables flow.recorded.items said_is (c.limit-most.ensures ∙ ap (λ z. limit z given) forward_is)
    c.in_ok-flow.ensures.rules marks_are c.in_ok-flow.ensures.tables c.in_ok-flow.ensures.recorded
    ∙ c.in_ok-passage.ensures.steps in
    let func_is : left.context.func.now ≡ func =
    ap (λ p. p.now) c.in_ok-passage.ensures.func ∙ c.in_ok-flow.ensures.func in
    let visits_are : c.in_ok-visits.visits ≡ marked_positions 0 (marks given id env func b) = c.in_ok-visits.ensures
    ∙ ap (marked_positions 0) marks_are in
    let end : FunctionEnd = record {
      end = c.in_ok-end.end;
      beyond = record { is_forward = c.in_ok-found.found.is_forward; blocks = passage.beyond };
    } in
    let ended : c.in_ok-end.end ≡ end_of func (record {
      progress = record {
        visits = marked_positions 0 (marks given id env func b);
        joined_input = passage.entries;
        last_input = [];
      };
      tables = left.tables;
      recorded = left.recorded.items;
    }) =
    c.in_ok-end.ensures
    ∙ (λ i. end_of (func_is i) (record {
      progress = record { visits = visits_are i; joined_input = passage.entries; last_input = [] };
      tables = left.tables;
      recorded = left.recorded.items;
    })) in
    let end_is : end ≡ followed_end given id env func b w = λ i. record {
      end = ended i;
      beyond = record { is_forward = forward_is i; blocks = passage.beyond };
    } in
    let comes = function_comes given id env func b w end passed end_is in
    let fits : Numbers func = record {
      distinct = c.in_ok-flow.ensures.distinct;
      entry = fitting_entry func env c.requires.fits;
      successors = λ n j x k. fitting_successors func env n j x c.requires.fits k;
    } in
    let marks_long : length (marks given id env func b) ≡ length func.body.blocks =
    sym (ap length marks_are) ∙ ap length c.as_slice-reached.ensures.value ∙ sym c.in_ok-found.found.marks.ok.0
    ∙ c.in_ok-found.ensures.count ∙ ap (λ r. r.blocks) c.in_ok-flow.ensures.rules in
    let lines : AreLinesKnown (blocks_given (kept (is_forward given id env func b) given)) =
    subst AreLinesKnown (c.blocks_given-blocks.ensures ∙ ap blocks_given said_is) c.lines_known.ensures in
    record {
      answer = comes;
      solves = pass_end_solves given id env func b fits lines marks_long w passed end end_is;
      keeps = followed_keeps given id env func b c.requires.fits lines end comes;
    }
