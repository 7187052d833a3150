use Rattle.std.proofs.Common.{◌≡◌, ap, sym, ◌∙◌, Some, option_map}
use Rattle.alias_lattice.specs.States.{State}
use Rattle.alias_certificate.specs.states.Beyond.{beyond_of}
use Rattle.alias_certificate.specs.states.Raised.{raised_state}
use Rattle.alias_certificate.proofs.raised.AtLines.{all_beyond}
use Rattle.alias_certificate.proofs.raised.raised_with_beyond.Goals as goal

pub returns-in_ok-more-in-Some : goal.returns-in_ok-more-in-Some
returns-in_ok-more-in-Some c =
    let old = c.args.old.now in
    let state = c.in-Some.state in
    let raised : raised_state c.args.identifiers c.args.created.now c.args.block.now old ≡ Some state =
    ap (raised_state c.args.identifiers c.args.created.now c.args.block.now) (sym c.in_ok-below.ensures)
    ∙ sym c.in_ok-state.ensures ∙ c.in-Some.is in
    let same : c.in_ok-more-in-Some.more ≡ beyond_of state old =
    c.in_ok-more-in-Some.ensures
    ∙ all_beyond c.args.identifiers c.args.created.now c.args.block.now old state c.recall_proper.ensures
    c.recall_proper-in-Some.ensures raised in
    ap (λ m. Some (state, m)) same ∙ sym (ap (option_map (λ (s : State). (s, beyond_of s old))) raised)
