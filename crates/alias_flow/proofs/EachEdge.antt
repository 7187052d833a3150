-- What the test of edges says.
use Rattle.std.proofs.Common.{◌≡◌, ℕ, ◌+◌, ◌<◌, ◌≤◌, ⊎_elim, Bool, true, nat_lt, List, [], ◌∷◌, zero, suc, arith}
use Rattle.std.proofs.Common.{ap, ◌∙◌}
use Rattle.std.proofs.lemmas.Bool.{ltb-true, cases_eq}
use Rattle.std.specs.List.{list_all, AllByRecursion}
use Rattle.alias_base.specs.AnswerLaws.{both_true}
use Rattle.alias_flow.specs.Machine.{Rules, up}
use Rattle.alias_flow.specs.Solutions.{goes_forward, IsForward}

all_later : (b : ℕ) (es : List ℕ) → list_all (λ e. nat_lt b e) es ≡ true → AllByRecursion (λ e. b < e) es
all_later b [] h = tt
all_later b (e ∷ es) h = let p = both_true (nat_lt b e) (list_all (λ e. nat_lt b e) es) h in
    (ltb-true b e p.0, all_later b es p.1)

all_up : (test : ℕ → Bool) (i n : ℕ) → list_all test (up i n) ≡ true → (b : ℕ) → i ≤ b → b < i + n → test b ≡ true
all_up test i zero h b le lt = absurd (omega arith)
all_up test i (suc n) h b le lt =
    let p = both_true (test i) (list_all test (up (i + 1) n)) h in
    ⊎_elim (λ same. ap test same ∙ p.0) (λ other. all_up test (i + 1) n p.1 b (omega (arith, other)) (omega arith))
    (cases_eq b i)

-- where the test passes, each edge goes to a later block
pub forward_is : {P T K C : Type 0} (rules : Rules P T K C) → goes_forward rules ≡ true → IsForward rules
forward_is rules h b lt = all_later b (rules.flow.edges b)
    (all_up (λ b. list_all (λ e. nat_lt b e) (rules.flow.edges b)) 0 rules.blocks h b (omega arith) (omega arith))
