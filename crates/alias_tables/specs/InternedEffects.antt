-- The interned effect of each key.
use Rattle.std.specs.Prelude.{◌≡◌, ℕ, Bool, List, [], ◌∷◌, ◌++◌, Option, None, Some, cond, true, false, option_map}
use Rattle.std.specs.Prelude.{position, refl}
use Rattle.std.specs.declared.cmp.Ordering.{Ordering}
use Rattle.std.specs.Cmp.{IsEquivalence}
use Rattle.std.specs.Ordering.{eq_by_cmp}
use Rattle.std.proofs.Common.{◌∙◌, suc}
use Rattle.std.proofs.lemmas.Cmp.{eq_by_cmp_equiv}
use Rattle.indexmap.specs.IndexSet.{insert_key}
use Rattle.alias_base.specs.Indexes.{at_slot, first_of, has_key, slot_of}
use Rattle.alias_hir.specs.declared.effect.AliasingEffect.{AliasingEffect}
use Rattle.alias_tables.specs.declared.key.EffectKey.{EffectKey}
use Rattle.alias_tables.specs.Keys.{key_of}
use Rattle.alias_tables.specs.KeySets.{AreKeys, slot_is, new_is_last, old_stays}
use Rattle.alias_tables.specs.contracts.key.EffectKeyPartialEq.TheImpl as equality
use Rattle.alias_tables.specs.contracts.key.EffectKeyOrd.TheImpl as keys
use Rattle.alias_tables.specs.contracts.key.EffectKeyOrd.TheImpl.Laws as laws

abbrev pub key_cmp : EffectKey → EffectKey → Ordering
key_cmp = keys.ghosts.cmp

abbrev pub same_key : EffectKey → EffectKey → Bool
same_key = eq_by_cmp key_cmp

pub keys_are_told_apart : IsEquivalence same_key
keys_are_told_apart = eq_by_cmp_equiv laws.total-law

-- the first of the effects that has the key
abbrev pub first_like : EffectKey → List AliasingEffect → Option AliasingEffect
first_like = first_of same_key key_of

-- and its slot
abbrev pub slot_like : EffectKey → List AliasingEffect → Option ℕ
slot_like = slot_of same_key key_of

-- the effects, with one more where its key has none
abbrev pub if_new : {A : Type 0} → Option A → AliasingEffect → List AliasingEffect → List AliasingEffect
if_new None e es = es ++ e ∷ []
if_new (Some first) e es = es

mapped_if : (o : Option ℕ) (e : AliasingEffect) (es : List AliasingEffect) → if_new (option_map (λ n. suc n) o) e es
    ≡ if_new o e es
mapped_if None e es = refl
mapped_if (Some n) e es = refl

-- a key has a slot where an effect has it
pub same_if : (k : EffectKey) (es : List AliasingEffect) (e : AliasingEffect) (all : List AliasingEffect)
    → if_new (slot_like k es) e all ≡ if_new (first_like k es) e all
same_if k [] e all = refl
same_if k (x ∷ es) e all =
    elim (has_key same_key key_of k x) as (λ b.
    if_new (cond b (Some 0) (option_map (λ n. suc n) (slot_like k es))) e all
    ≡ if_new (cond b (Some x) (first_like k es)) e all) [
      | true ↦ refl
      | false ↦ mapped_if (slot_like k es) e all ∙ same_if k es e all
    ]

-- what is in the slot is there before and after
pub kept_at : (o : Option ℕ) (e : AliasingEffect) (es : List AliasingEffect) → at_slot o (if_new o e es) ≡ at_slot o es
kept_at None e es = refl
kept_at (Some n) e es = refl

-- they are the keys of the effects, in order
abbrev pub AreKeysOf : List EffectKey → List AliasingEffect → Type 0
AreKeysOf = AreKeys key_of

-- the equality of keys is that of their order
pub same_keys : (k l : EffectKey) → equality.ghosts.eq k l ≡ same_key l k
same_keys k l = laws.matches_eq-law k l ∙ keys_are_told_apart.symm k l

-- the place of a key is the slot of the interned effect that has it
pub slot_of_key : (k : EffectKey) (keys : List EffectKey) (effects : List AliasingEffect) → AreKeysOf keys effects
    → position (equality.ghosts.eq k) keys ≡ slot_like k effects
slot_of_key = slot_is equality.ghosts.eq same_key key_of same_keys

-- a key that is there leaves the keys
pub old_key_stays : (k : EffectKey) (keys : List EffectKey) (effects : List AliasingEffect) (n : ℕ)
    → AreKeysOf keys effects → slot_like k effects ≡ Some n → insert_key equality.ghosts.eq keys k ≡ keys
old_key_stays = old_stays equality.ghosts.eq same_key key_of same_keys

-- a new key goes last
pub new_key_is_last : (k : EffectKey) (keys : List EffectKey) (effects : List AliasingEffect) → AreKeysOf keys effects
    → slot_like k effects ≡ None → insert_key equality.ghosts.eq keys k ≡ keys ++ k ∷ []
new_key_is_last = new_is_last equality.ghosts.eq same_key key_of same_keys
