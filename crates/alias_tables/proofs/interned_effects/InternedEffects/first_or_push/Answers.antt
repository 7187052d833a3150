use Rattle.std.proofs.Common.{◌≡◌, Result, Ok, Err, ap, sym, ◌∙◌, IfOk, OnOk}
use Rattle.alias_base.specs.Indexes.{at_slot, first_at}
use Rattle.alias_tables.specs.Keys.{key_of}
use Rattle.alias_tables.specs.InternedEffects.{same_key, first_like, slot_like, if_new, same_if, kept_at}
use Rattle.alias_tables.proofs.interned_effects.InternedEffects.first_or_push.Goals as goal

moved : {A E : Type 0} (r : Result A E) (x y : A) → x ≡ y → IfOk r (λ a. a ≡ x) → IfOk r (λ a. a ≡ y)
moved (Ok a) x y e h = h ∙ e
moved (Err c) x y e h = tt

anyhow : {A E : Type 0} (r : Result A E) (P : Type 0) → P → OnOk r P
anyhow (Ok a) P h = h
anyhow (Err c) P h = tt

pub returns-clause-first : goal.returns-clause-first
returns-clause-first c =
    let k = c.args.key in
    let e = c.args.effect.now in
    let es = c.self.inside.effects in
    let there : at_slot c.in_ok-slot.slot c.slot_or_push.new.effects ≡ first_like k c.args.self.now =
    ap (at_slot c.in_ok-slot.slot) c.in_ok-slot.ensures.effects
    ∙ ap (λ o. at_slot o (if_new (slot_like k es) e es)) c.in_ok-slot.ensures.slot
    ∙ kept_at (slot_like k es) e es
    ∙ sym (first_at same_key key_of k es)
    ∙ ap (first_like k) c.self.view_is in
    moved c.copy_at.result (at_slot c.in_ok-slot.slot c.slot_or_push.new.effects) (first_like k c.args.self.now) there
    c.copy_at.ensures

pub returns-clause-effects : goal.returns-clause-effects
returns-clause-effects c =
    let k = c.args.key in
    let e = c.args.effect.now in
    let es = c.self.inside.effects in
    anyhow c.copy_at.result (c.slot_or_push.new.effects ≡ if_new (first_like k c.args.self.now) e c.args.self.now)
    (c.in_ok-slot.ensures.effects ∙ same_if k es e es ∙ ap (λ l. if_new (first_like k l) e l) c.self.view_is)
