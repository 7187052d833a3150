use Rattle.std.proofs.Common.{◌≡◌, ◌++◌, ◌∷◌, [], List, Some, None, ℕ, ◌<◌, ◌≤◌, length, take, ap, sym, ◌∙◌, subst}
use Rattle.std.proofs.Math.Seq.{take-append_seam}
use Rattle.std.specs.Prelude.{Option}
use Rattle.std.specs.List.{position_or_len}
use Rattle.alias_hir.specs.declared.effect.AliasingEffect.{AliasingEffect}
use Rattle.alias_tables.specs.declared.key.EffectKey.{EffectKey}
use Rattle.alias_tables.specs.contracts.key.EffectKeyPartialEq.TheImpl as equality
use Rattle.alias_tables.specs.Keys.{key_of}
use Rattle.alias_tables.specs.KeySets.{keys_push, position_below, position_at_end}
use Rattle.alias_tables.specs.InternedEffects.{slot_like, if_new, AreKeysOf, slot_of_key, old_key_stays}
use Rattle.alias_tables.specs.InternedEffects.{new_key_is_last}
use Rattle.alias_tables.proofs.interned_effects.slot_or_push.Goals as goal

module _ (k : EffectKey) (ks : List EffectKey) (es : List AliasingEffect) (slot count : ℕ) (keys : AreKeysOf ks es)
    (at : slot ≡ position_or_len (equality.ghosts.eq k) ks) (long : count ≡ length ks) where
  found : slot < count → Some slot ≡ slot_like k es
  found h =
      let below : position_or_len (equality.ghosts.eq k) ks < length ks =
      subst (λ n. n < length ks) at (subst (λ m. slot < m) long h) in
      ap (λ n. Some n) at ∙ sym (position_below (equality.ghosts.eq k) ks below) ∙ slot_of_key k ks es keys

  new : count ≤ slot → None ≡ slot_like k es
  new h =
      let behind : length ks ≤ position_or_len (equality.ghosts.eq k) ks =
      subst (λ n. length ks ≤ n) at (subst (λ m. m ≤ slot) long h) in
      sym (position_at_end (equality.ghosts.eq k) ks behind) ∙ slot_of_key k ks es keys

pub returns-then-slot-count-clause-slot : goal.returns-then-slot-count-clause-slot
returns-then-slot-count-clause-slot c = found c.args.key c.args.keys.now.keys c.args.effects.now c.in_ok-slot.slot
    c.len-count.result c.requires.index c.in_ok-slot.ensures.index c.len-count.ensures.len c.if-slot-count.true

pub returns-then-slot-count-clause-effects : goal.returns-then-slot-count-clause-effects
returns-then-slot-count-clause-effects c =
    ap (λ (o : Option ℕ). if_new o c.args.effect.now c.args.effects.now)
    (found c.args.key c.args.keys.now.keys c.args.effects.now c.in_ok-slot.slot c.len-count.result c.requires.index
    c.in_ok-slot.ensures.index c.len-count.ensures.len c.if-slot-count.true)

pub returns-then-slot-count-clause-index : goal.returns-then-slot-count-clause-index
returns-then-slot-count-clause-index c =
    let ks = c.args.keys.now.keys in
    let es = c.args.effects.now in
    let is : slot_like c.args.key es ≡ Some c.in_ok-slot.slot =
    sym (found c.args.key ks es c.in_ok-slot.slot c.len-count.result c.requires.index c.in_ok-slot.ensures.index
    c.len-count.ensures.len c.if-slot-count.true) in
    subst (λ l. AreKeysOf l es) (sym (c.in_ok-slot.ensures.keys
    ∙ old_key_stays c.args.key ks es c.in_ok-slot.slot c.requires.index is)) c.requires.index

pub returns-in-Ok-clause-slot : goal.returns-in-Ok-clause-slot
returns-in-Ok-clause-slot c = new c.args.key c.args.keys.now.keys c.args.effects.now c.in_ok-slot.slot
    c.len-count.result c.requires.index c.in_ok-slot.ensures.index c.len-count.ensures.len c.if-slot-count.false

pub returns-in-Ok-clause-effects : goal.returns-in-Ok-clause-effects
returns-in-Ok-clause-effects c =
    c.in-Ok.ensures.ok ∙ ap (λ (o : Option ℕ). if_new o c.args.effect.now c.args.effects.now)
    (new c.args.key c.args.keys.now.keys c.args.effects.now c.in_ok-slot.slot c.len-count.result c.requires.index
    c.in_ok-slot.ensures.index c.len-count.ensures.len c.if-slot-count.false)

pub returns-in-Ok-clause-index : goal.returns-in-Ok-clause-index
returns-in-Ok-clause-index c =
    let ks = c.args.keys.now.keys in
    let es = c.args.effects.now in
    let none : slot_like c.args.key es ≡ None =
    sym (new c.args.key ks es c.in_ok-slot.slot c.len-count.result c.requires.index c.in_ok-slot.ensures.index
    c.len-count.ensures.len c.if-slot-count.false) in
    let more : c.insert_full.new.self.keys ≡ ks ++ c.args.key ∷ [] = c.in_ok-slot.ensures.keys
    ∙ new_key_is_last c.args.key ks es c.requires.index none in
    subst (λ l. AreKeysOf l c.push_copy.new.effects) (sym more)
    (subst (AreKeysOf (ks ++ c.args.key ∷ [])) (sym c.in-Ok.ensures.ok)
    (keys_push key_of ks es c.args.key c.args.effect.now c.requires.index c.requires.of_key))

pub returns-in-Err-clause-index : goal.returns-in-Err-clause-index
returns-in-Err-clause-index c =
    let ks = c.args.keys.now.keys in
    let es = c.args.effects.now in
    let none : slot_like c.args.key es ≡ None =
    sym (new c.args.key ks es c.in_ok-slot.slot c.len-count.result c.requires.index c.in_ok-slot.ensures.index
    c.len-count.ensures.len c.if-slot-count.false) in
    let more : c.insert_full.new.self.keys ≡ ks ++ c.args.key ∷ [] = c.in_ok-slot.ensures.keys
    ∙ new_key_is_last c.args.key ks es c.requires.index none in
    let less : c.truncate.new.self.keys ≡ ks = c.truncate.ensures.keys
    ∙ ap (λ n. take n c.insert_full.new.self.keys) c.len-count.ensures.len ∙ ap (take (length ks)) more
    ∙ take-append_seam ks (c.args.key ∷ []) in
    subst (λ l. AreKeysOf l c.push_copy.new.effects) (sym less)
    (subst (AreKeysOf ks) (sym c.in-Err.ensures.err) c.requires.index)
