use Rattle.std.proofs.Common.{◌≡◌, ◌++◌, ◌∙◌, OnOk, ap, codes, subst, ℕ, List}
use Rattle.json.specs.Print.{quoted}
use Rattle.alias_text.specs.Refusals.{rule_word, words_text}
use Rattle.alias_text.proofs.refusals.push_not_unit.Goals as goal

pub returns : goal.returns
returns c =
    let at : List ℕ → List ℕ → Type 0 = λ p w.
    OnOk c.push_words.result (c.push_words.new.out ≡ c.args.out.now ++ words_text (codes "NotUnit") p w) in
    subst (λ p. at p (rule_word c.args.rule))
    (c.as_str-2.ensures ∙ c.in_ok-pointer.ensures ∙ ap quoted c.as_str.ensures)
    (subst (λ w. at c.as_str-2.result.now w) c.rule_word.ensures c.push_words.ensures)
