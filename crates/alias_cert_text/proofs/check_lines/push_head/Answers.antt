use Rattle.std.specs.Prelude.{OnOk, is_ok, if◌then◌else◌, codes}
use Rattle.std.specs.Fmt.{decimal}
use Rattle.std.proofs.Common.{◌≡◌, ℕ, List, ◌++◌, Result, Ok, Err, ap, ◌∙◌, append_assoc}
use Rattle.alias_cert_text.proofs.check_lines.push_head.Goals as goal

-- one text behind another
both_pushed : {T E : Type 0} (old mid new a b : List ℕ) (r : Result T E) → mid ≡ old ++ a → new
    ≡ (if is_ok r then mid ++ b else mid) → OnOk r (new ≡ old ++ (a ++ b))
both_pushed old mid new a b (Ok x) h k = k ∙ ap (λ (z : List ℕ). z ++ b) h ∙ append_assoc old a b
both_pushed old mid new a b (Err e) h k = tt

pub returns : goal.returns
returns c =
    both_pushed c.args.out.now c.push_str.new.self c.push_number.new.self (codes "refused Rejected ")
    (decimal c.args.fault) c.push_number.result c.in_ok-push_str.ensures c.push_number.ensures
