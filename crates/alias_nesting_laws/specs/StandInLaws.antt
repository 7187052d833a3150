-- While a function is out of its slot, where one without a summary stands: numbers, rules and effects of other
-- functions.
use Rattle.std.specs.Prelude.{◌≡◌, ℕ, Bool, true, ◌&&◌, nat_lt, List, [], ◌∷◌, length, slice_get, Option, Some, None}
use Rattle.std.specs.Prelude.{Result, ⊤, refl}
use Rattle.std.specs.List.{list_all}
use Rattle.std.specs.Option.{option_map_or}
use Rattle.std.proofs.Common.{ap, ◌∙◌}
use Rattle.alias_base.specs.Answer.{◌>>=◌, all_pass}
use Rattle.alias_base.specs.AnswerLaws.{both_true}
use Rattle.alias_base.specs.declared.ids.BlockId.{BlockId}
use Rattle.alias_base.specs.declared.ids.FunctionId.{FunctionId}
use Rattle.alias_hir.specs.ReportNumbers.{summary}
use Rattle.alias_hir.specs.Effects.{effect_places, error_of, function_of, signature_of}
use Rattle.alias_hir.specs.Parts.{param_place}
use Rattle.alias_hir.specs.Terminals.{terminal_effects}
use Rattle.alias_hir.specs.Values.{places_of, created}
use Rattle.alias_hir.specs.declared.effect.AliasingEffect.{AliasingEffect}
use Rattle.alias_hir.specs.declared.env.Environment.{Environment}
use Rattle.alias_hir.specs.declared.hir.BasicBlock.{BasicBlock}
use Rattle.alias_hir.specs.declared.hir.HirFunction.{HirFunction}
use Rattle.alias_hir.specs.declared.hir.Instruction.{Instruction}
use Rattle.alias_rules.specs.function_rules.Rules.{below, place_fits, created_fits, instruction_fits, block_fits}
use Rattle.alias_rules.specs.function_rules.Rules.{numbers_fit}
use Rattle.alias_rules.specs.declared.function_rules.fault.Table.TheVariants.{Functions}
use Rattle.alias_rules.specs.Fitting.{place_within_tables, error_within_tables, function_within_tables}
use Rattle.alias_rules.specs.Fitting.{type_within_tables, named_within_tables, summary_within_tables}
use Rattle.alias_rules.specs.Fitting.{effect_within_tables, recorded_within_tables, effects_within_tables}
use Rattle.alias_rules.specs.Fitting.{holds_no_call, effects_fit}
use Rattle.alias_rules.specs.Functions.{rule_holds, of_function, at_function}
use Rattle.alias_rules.specs.Nesting.{created_of, created_at}
use Rattle.alias_rules.specs.declared.rules.Rule.{Rule}
use Rattle.alias_rules.specs.declared.rules.Rule.TheVariants.{Numbers, Entry, Successors, Listed, ListedOnce, Handlers}
use Rattle.alias_rules.specs.declared.rules.Rule.TheVariants.{Phis, Orders, Distinct, Calls, ContextValues}
use Rattle.alias_nesting_laws.specs.FittingLaws.{together}
use Rattle.alias_nesting_laws.specs.Slots.{with_function}
use Rattle.alias_nesting_laws.specs.SlotLaws.{length_set, set_other, at_set}

-- ---- lists

pub all_same : {A E : Type 0} (f g : A → Result ⊤ E) → ((x : A) → f x ≡ g x) → (xs : List A) → all_pass f xs
    ≡ all_pass g xs
all_same f g h [] = refl
all_same f g h (x ∷ xs) = ap (λ r. r >>= (λ _. all_pass f xs)) (h x) ∙ ap (λ r. g x >>= (λ _. r)) (all_same f g h xs)

pub all_weaker : {X : Type 0} (p q : X → Bool) → ((x : X) → p x ≡ true → q x ≡ true) → (xs : List X) → list_all p xs
    ≡ true → list_all q xs ≡ true
all_weaker p q f [] h = refl
all_weaker p q f (x ∷ xs) h = let b = both_true (p x) (list_all p xs) h in
    together (q x) (list_all q xs) (f x b.0) (all_weaker p q f xs b.1)

pub both_weaker : (a b c d : Bool) → (a ≡ true → c ≡ true) → (b ≡ true → d ≡ true) → (a && b) ≡ true → (c && d) ≡ true
both_weaker a b c d f g h = let p = both_true a b h in together c d (f p.0) (g p.1)

-- ---- the environment with the function that stands in

module _ (env : Environment) (id : FunctionId) (stand_in : HirFunction) where
  abbrev pub standing : Environment
  standing = with_function id stand_in env

  count : length standing.functions ≡ length env.functions
  count = length_set env.functions id.0 stand_in

  -- the other slots are as they were
  pub slot_other : (k : ℕ) → (k ≡ id.0 → ⊥) → slice_get standing.functions k ≡ slice_get env.functions k
  slot_other k other = set_other env.functions id.0 k stand_in other

  -- ---- rules

  created_same : (o : Option FunctionId) → created_fits standing o ≡ created_fits env o
  created_same None = refl
  created_same (Some f) = ap (λ n. below Functions n f.0) count

  instruction_same : (i : Instruction) → instruction_fits standing i ≡ instruction_fits env i
  instruction_same i = ap (λ r. place_fits env i.lvalue
      >>= (λ _. r >>= (λ _. all_pass (place_fits env) (places_of i.value)))) (created_same (created i.value))

  numbers_same : (g : HirFunction) → numbers_fit standing g ≡ numbers_fit env g
  numbers_same g =
      ap (λ r. all_pass (λ p. place_fits env (param_place p)) g.params
      >>= (λ _. all_pass (place_fits env) g.context
      >>= (λ _. place_fits env g.returns >>= (λ _. r
      >>= (λ _. all_pass (λ (e : BlockId × BasicBlock). block_fits env g e.1) g.body.blocks)))))
      (all_same (instruction_fits standing) (instruction_fits env) instruction_same g.instructions)

  -- each rule is the same of one function
  pub rule_same : (r : Rule) (o : Option FunctionId) (g : HirFunction) → rule_holds r standing o g
      ≡ rule_holds r env o g
  rule_same Numbers o g = numbers_same g
  rule_same Entry o g = refl
  rule_same Successors o g = refl
  rule_same Listed o g = refl
  rule_same ListedOnce o g = refl
  rule_same Handlers o g = refl
  rule_same Phis o g = refl
  rule_same Orders o g = refl
  rule_same Distinct o g = refl
  rule_same Calls o g = refl
  rule_same ContextValues o g = refl

  of_same : (r : Rule) (k : ℕ) (o : Option HirFunction) → of_function r standing k o ≡ of_function r env k o
  of_same r k None = refl
  of_same r k (Some g) = rule_same r (Some (record { 0 = k })) g

  -- and of the function of another slot
  pub at_same : (r : Rule) (k : ℕ) → (k ≡ id.0 → ⊥) → at_function r standing k ≡ at_function r env k
  at_same r k other = ap (of_function r standing k) (slot_other k other) ∙ of_same r k (slice_get env.functions k)

  -- ---- what other functions create

  pub creates_same : (k : ℕ) → (k ≡ id.0 → ⊥) → created_at standing k ≡ created_at env k
  creates_same k other = ap created_of (slot_other k other)

  -- ---- effects

  function_same : (o : Option FunctionId) → function_within_tables standing o ≡ function_within_tables env o
  function_same None = refl
  function_same (Some f) = ap (nat_lt f.0) count

  named_same : (e : AliasingEffect) → named_within_tables standing e ≡ named_within_tables env e
  named_same e = ap (λ b. list_all (place_within_tables env) (effect_places e) && b
      && type_within_tables env (signature_of e) && error_within_tables env (error_of e))
      (function_same (function_of e))

  named_kept : (e : AliasingEffect) → named_within_tables env e ≡ true → named_within_tables standing e ≡ true
  named_kept e h = named_same e ∙ h

  module _ (f : HirFunction) (there : slice_get env.functions id.0 ≡ Some f)
      (bare : stand_in.aliasing_effects ≡ None) where
    summary_kept : (o : Option FunctionId) → summary_within_tables env o ≡ true → summary_within_tables standing o
        ≡ true
    summary_kept None h = refl
    summary_kept (Some g) h =
        at_set (λ o p. list_all (named_within_tables env) (summary o) ≡ true
        → list_all (named_within_tables standing) (summary p) ≡ true) f stand_in
        (λ o. all_weaker (named_within_tables env) (named_within_tables standing) named_kept (summary o))
        (λ _. ap (λ (o : Option (List AliasingEffect)).
        list_all (named_within_tables standing) (option_map_or (λ es. es) o [])) bare)
        env.functions id.0 g.0 there h

    effect_kept : (e : AliasingEffect) → effect_within_tables env e ≡ true → effect_within_tables standing e ≡ true
    effect_kept e = both_weaker (named_within_tables env e) (summary_within_tables env (function_of e))
        (named_within_tables standing e) (summary_within_tables standing (function_of e)) (named_kept e)
        (summary_kept (function_of e))

    recorded_kept : (o : Option (List AliasingEffect)) → recorded_within_tables env o ≡ true
        → recorded_within_tables standing o ≡ true
    recorded_kept None h = refl
    recorded_kept (Some es) h = all_weaker (effect_within_tables env) (effect_within_tables standing) effect_kept es h

    within_kept : (g : HirFunction) → effects_within_tables env g ≡ true → effects_within_tables standing g ≡ true
    within_kept g =
        both_weaker (list_all (λ (i : Instruction). recorded_within_tables env i.effects) g.instructions
        && list_all (λ (e : BlockId × BasicBlock). recorded_within_tables env (terminal_effects e.1.terminal))
        g.body.blocks) (recorded_within_tables env g.aliasing_effects)
        (list_all (λ (i : Instruction). recorded_within_tables standing i.effects) g.instructions
        && list_all (λ (e : BlockId × BasicBlock). recorded_within_tables standing (terminal_effects e.1.terminal))
        g.body.blocks) (recorded_within_tables standing g.aliasing_effects)
        (both_weaker (list_all (λ (i : Instruction). recorded_within_tables env i.effects) g.instructions)
        (list_all (λ (e : BlockId × BasicBlock). recorded_within_tables env (terminal_effects e.1.terminal))
        g.body.blocks)
        (list_all (λ (i : Instruction). recorded_within_tables standing i.effects) g.instructions)
        (list_all (λ (e : BlockId × BasicBlock). recorded_within_tables standing (terminal_effects e.1.terminal))
        g.body.blocks)
        (all_weaker (λ (i : Instruction). recorded_within_tables env i.effects)
        (λ (i : Instruction). recorded_within_tables standing i.effects) (λ i. recorded_kept i.effects)
        g.instructions)
        (all_weaker (λ (e : BlockId × BasicBlock). recorded_within_tables env (terminal_effects e.1.terminal))
        (λ (e : BlockId × BasicBlock). recorded_within_tables standing (terminal_effects e.1.terminal))
        (λ e. recorded_kept (terminal_effects e.1.terminal)) g.body.blocks))
        (recorded_kept g.aliasing_effects)

    -- effects that fit still do
    pub effects_kept : (g : HirFunction) → effects_fit env g ≡ true → effects_fit standing g ≡ true
    effects_kept g = both_weaker (effects_within_tables env g) (holds_no_call g.aliasing_effects)
        (effects_within_tables standing g) (holds_no_call g.aliasing_effects) (within_kept g) (λ h. h)

    fit_kept : (o : Option HirFunction) → option_map_or (effects_fit env) o true ≡ true
        → option_map_or (effects_fit standing) o true ≡ true
    fit_kept None h = refl
    fit_kept (Some g) h = effects_kept g h

    -- also those of the function of another slot
    pub effects_at_kept : (k : ℕ) → (k ≡ id.0 → ⊥) → option_map_or (effects_fit env) (slice_get env.functions k) true
        ≡ true → option_map_or (effects_fit standing) (slice_get standing.functions k) true ≡ true
    effects_at_kept k other h = ap (λ o. option_map_or (effects_fit standing) o true) (slot_other k other)
        ∙ fit_kept (slice_get env.functions k) h
