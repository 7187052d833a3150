-- What is accepted as the text that follows, of a unit whose functions are all forward.
use Rattle.std.proofs.Common.{◌≡◌, ◌∙◌, ℕ, List, length, Option, None, Ok, ap}
use Rattle.alias_brief.specs.Briefs.{brief_text}
use Rattle.alias_brief.specs.Differences.{whole_lines, first_difference}
use Rattle.alias_brief.specs.Verifying.{compared_by, followed_so, read_so, verified, IsVerified}
use Rattle.alias_forward_laws.proofs.Accepting.{forward_texts}
use Rattle.alias_brief.proofs.Lines.{no_difference}
use Rattle.alias_forward_laws.specs.Forward.{IsInferredText}
use Rattle.alias_hir.specs.declared.env.Unit.{Unit as HirUnit}
use Rattle.alias_rules.specs.Functions.{rules_hold}
use Rattle.alias_unit_completeness.specs.Refusals.{IsForwardUnit}

-- a text that is the one that follows is accepted
verified_is : (text : List ℕ) (u : HirUnit) (count : ℕ) → IsVerified text u count → verified text u ≡ Ok count
verified_is text u count v =
    let f = v.2 in
    let same : first_difference (brief_text f.1) text ≡ None =
    ap (λ t. first_difference t text) f.4 ∙ no_difference 1 (whole_lines text) in
    ap (read_so text u) v.1 ∙ ap (followed_so text) f.2 ∙ ap (compared_by (length f.1.inferred.solved)) same
    ∙ ap Ok f.5

-- of a unit whose functions are all forward it is the text of what is inferred
pub inferred_where_forward : (text : List ℕ) (u : HirUnit) (count : ℕ) → rules_hold u ≡ Ok tt
    → IsVerified text u count → IsForwardUnit u → IsInferredText u text
inferred_where_forward text u count rules v forward =
    forward_texts u text count rules forward (verified_is text u count v)
