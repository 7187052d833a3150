-- In the unit that is handed out an instruction carries no effects of which its function's solution has none.
use Rattle.std.specs.Prelude.{◌≡◌, ℕ, ◌⊎◌, true, is_none, List, [], ◌∷◌, map, Option, Some, None, Ok, position}
use Rattle.std.specs.Prelude.{slice_get, slice_set, refl}
use Rattle.std.specs.List.{list_all}
use Rattle.std.specs.Map.{keys_of}
use Rattle.std.specs.Option.{option_map_or}
use Rattle.std.proofs.Common.{zero, suc, inl, inr, ⊎_elim, ap, sym, ◌∙◌, subst, get_or}
use Rattle.std.proofs.lemmas.Bool.{eqb-true}
use Rattle.std.proofs.lemmas.List.Quantifiers.{position-Some}
use Rattle.indexmap.specs.IndexMap.{set_value_at}
use Rattle.alias_base.specs.AnswerLaws.{both_true}
use Rattle.alias_base.specs.Find.{same_block}
use Rattle.alias_base.specs.declared.ids.BlockId.{BlockId}
use Rattle.alias_hir.specs.Terminals.{terminal_effects}
use Rattle.alias_hir.specs.declared.effect.AliasingEffect.{AliasingEffect}
use Rattle.alias_hir.specs.declared.env.Unit.{Unit as HirUnit}
use Rattle.alias_hir.specs.declared.hir.BasicBlock.{BasicBlock}
use Rattle.alias_hir.specs.declared.hir.HirFunction.{HirFunction}
use Rattle.alias_hir.specs.declared.hir.Instruction.{Instruction}
use Rattle.alias_step.specs.declared.block.recorded.InstructionEffects.{InstructionEffects}
use Rattle.alias_step.specs.declared.block.recorded.TerminalEffects.{TerminalEffects}
use Rattle.alias_effects.specs.Recording.{block_with, with_terminal_at, recorded_instructions, recorded_terminals}
use Rattle.alias_effects.specs.Recording.{with_effects_of}
use Rattle.alias_effects.specs.declared.solved.Solved.{Solved}
use Rattle.alias_explain.proofs.Lists.{in_longer}
use Rattle.alias_fitting_laws.specs.bare.BareParts.{terminal_records}
use Rattle.alias_graph.specs.Walks.{IsOneOf}
use Rattle.alias_rules.specs.Functions.{rules_hold}
use Rattle.alias_rules.specs.function_rules.Rules.{instruction_is_uninferred, phi_is_uninferred, terminal_is_uninferred}
use Rattle.alias_rules.specs.function_rules.Rules.{block_is_uninferred, function_is_uninferred}
use Rattle.alias_range_pass.specs.places.Keeping.{but_context, but_instruction, but_entry}
use Rattle.alias_nested.specs.Analysis.{Analysed}
use Rattle.alias_nested.specs.Units.{UnitAnalysis, unit_analysed}
use Rattle.alias_nesting_laws.specs.SlotLaws.{set_other}
use Rattle.alias_inferred_laws.proofs.inferred.Carrying.{solutions_carried}
use Rattle.alias_inferred_laws.proofs.inferred.Rooting.{root_entry}
use Rattle.alias_inferred_laws.specs.inferred.Solutions.{but_ranged}
use Rattle.alias_cause_laws.proofs.causes.Chain.{Around, around, link_uninferred}
use Rattle.alias_cause_laws.proofs.causes.Ranges.{order, parts, root, walked}
use Rattle.alias_cause_laws.specs.handed.Carried.{AreRecordedOf, AreRecordedOfEnd, CarriesNoMore, NoMoreIsCarried}

abbrev Blocks : Type 0
Blocks = List (BlockId × BasicBlock)

some_same : {A : Type 0} (x y : A) → Some x ≡ Some y → x ≡ y
some_same x y e = cc

-- ---- what is recorded of others changes nothing of an instruction

module _ (n : ℕ) where
  others_put : (e : InstructionEffects) (ys : List Instruction) (o : Option Instruction) → (n ≡ e.instruction.0 → ⊥)
      → slice_get (option_map_or (λ (x : Instruction).
      slice_set ys e.instruction.0 (record x { effects = Some e.effects })) o ys) n ≡ slice_get ys n
  others_put e ys None other = refl
  others_put e ys (Some w) other = set_other ys e.instruction.0 n (record w { effects = Some e.effects }) other

  unrecorded : (es : List InstructionEffects) (xs : List Instruction) → (AreRecordedOf n es → ⊥)
      → slice_get (recorded_instructions es xs) n ≡ slice_get xs n
  unrecorded [] xs none = refl
  unrecorded (e ∷ es) xs none =
      let ys : List Instruction = recorded_instructions es xs in
      others_put e ys (slice_get ys e.instruction.0) (λ same. none (e, inl refl, sym same))
      ∙ unrecorded es xs (λ h. none (h.0, inr h.1, h.2))

-- ---- nor of a terminal

-- a block stood there, or is the one that was set
in_set : (bs : Blocks) (i : ℕ) (v : BasicBlock) (b : BlockId × BasicBlock) → IsOneOf b (set_value_at bs i v)
    → IsOneOf b bs ⊎ ((x : BlockId × BasicBlock) × (slice_get bs i ≡ Some x) × (b.0 ≡ x.0))
in_set [] i v b h = absurd h
in_set (x ∷ xs) zero v b h = ⊎_elim (λ (same : b ≡ (x.0, v)).
    inr (x, refl, ap (λ (z : BlockId × BasicBlock). z.0) same)) (λ later. inl (inr later)) h
in_set (x ∷ xs) (suc i) v b h =
    ⊎_elim (λ (same : b ≡ x). inl (inl same))
    (λ later. ⊎_elim (λ there. inl (inr there)) (λ own. inr own) (in_set xs i v b later)) h

key_at : (bs : Blocks) (i : ℕ) (x : BlockId × BasicBlock) → slice_get bs i ≡ Some x → get_or (keys_of bs) i x.0 ≡ x.0
key_at [] i x h = cc
key_at (y ∷ ys) zero x h = ap (λ (z : BlockId × BasicBlock). z.0) (some_same y x h)
key_at (y ∷ ys) (suc i) x h = key_at ys i x h

-- the block at the position of a key is of that key
found_key : (k : BlockId) (bs : Blocks) (i : ℕ) (x : BlockId × BasicBlock) → position (same_block k) (keys_of bs)
    ≡ Some i → slice_get bs i ≡ Some x → k ≡ x.0
found_key k bs i x found at =
    let test : same_block k x.0 ≡ true = subst (λ z. same_block k z ≡ true) (key_at bs i x at)
    (position-Some (same_block k) (keys_of bs) i x.0 found).1 in
    ap (λ n. let z : BlockId = record { 0 = n } in z) (eqb-true k.0 x.0.0 test)

end_set : (es : List AliasingEffect) (bs : Blocks) (i : ℕ) (o : Option (BlockId × BasicBlock))
    (b : BlockId × BasicBlock) → slice_get bs i ≡ o
    → IsOneOf b (option_map_or (λ (x : BlockId × BasicBlock). set_value_at bs i (block_with x.1 es)) o bs)
    → IsOneOf b bs ⊎ ((x : BlockId × BasicBlock) × (slice_get bs i ≡ Some x) × (b.0 ≡ x.0))
end_set es bs i None b at h = inl h
end_set es bs i (Some x) b at h = in_set bs i (block_with x.1 es) b h

end_put : (e : TerminalEffects) (bs : Blocks) (o : Option ℕ) (b : BlockId × BasicBlock)
    → position (same_block e.block) (keys_of bs) ≡ o → IsOneOf b (option_map_or (with_terminal_at e.effects bs) o bs)
    → IsOneOf b bs ⊎ (e.block ≡ b.0)
end_put e bs None b at h = inl h
end_put e bs (Some i) b at h = ⊎_elim (λ there. inl there)
    (λ own. inr (found_key e.block bs i own.0 at own.1 ∙ sym own.2)) (end_set e.effects bs i (slice_get bs i) b refl h)

unended : (es : List TerminalEffects) (bs : Blocks) (b : BlockId × BasicBlock) → IsOneOf b (recorded_terminals es bs)
    → (AreRecordedOfEnd b.0 es → ⊥) → IsOneOf b bs
unended [] bs b h none = h
unended (e ∷ es) bs b h none =
    let cs : Blocks = recorded_terminals es bs in
    ⊎_elim (λ there. unended es bs b there (λ r. none (r.0, inr r.1, r.2))) (λ same. absurd (none (e, inl refl, same)))
    (end_put e cs (position (same_block e.block) (keys_of cs)) b refl h)

-- ---- functions of which nothing is inferred yet

absent : {A : Type 0} (o : Option A) → is_none o ≡ true → o ≡ None
absent None h = refl
absent (Some x) h = cc

bare_at : (is : List Instruction) (n : ℕ) (i : Instruction) → list_all instruction_is_uninferred is ≡ true
    → slice_get is n ≡ Some i → i.effects ≡ None
bare_at [] n i h at = cc
bare_at (x ∷ is) zero i h at =
    let b = both_true (instruction_is_uninferred x) (list_all instruction_is_uninferred is) h in
    let c = both_true _ _ b.0 in
    ap (λ (z : Instruction). z.effects) (sym (some_same x i at)) ∙ absent x.effects (both_true _ _ c.0).0
bare_at (x ∷ is) (suc n) i h at = bare_at is n i
    (both_true (instruction_is_uninferred x) (list_all instruction_is_uninferred is) h).1 at

bare_end : (bs : Blocks) (b : BlockId × BasicBlock)
    → list_all (λ (e : BlockId × BasicBlock). block_is_uninferred e.1) bs ≡ true → IsOneOf b bs
    → terminal_effects b.1.terminal ≡ None
bare_end [] b h i = absurd i
bare_end (x ∷ bs) b h i =
    let p = both_true (block_is_uninferred x.1) (list_all (λ (e : BlockId × BasicBlock). block_is_uninferred e.1) bs)
    h in
    ⊎_elim
    (λ (same : b ≡ x).
    let t = both_true (list_all phi_is_uninferred x.1.phis) (terminal_is_uninferred x.1.terminal) p.0 in
    ap (λ (z : BlockId × BasicBlock). terminal_effects z.1.terminal) same
    ∙ absent (terminal_effects x.1.terminal) (both_true _ _ t.1).0)
    (λ later. bare_end bs b p.1 later)
    i

-- ---- functions that differ in effects of places, and in summaries

instruction_same : (xs ys : List Instruction) (n : ℕ) (i : Instruction) → map but_instruction xs
    ≡ map but_instruction ys → slice_get xs n ≡ Some i → (j : Instruction) × (slice_get ys n ≡ Some j)
    × (i.effects ≡ j.effects)
instruction_same [] ys n i e at = cc
instruction_same (x ∷ xs) [] n i e at = cc
instruction_same (x ∷ xs) (y ∷ ys) zero i e at =
    let same : but_instruction x ≡ but_instruction y = cc in
    (y, refl, ap (λ (z : Instruction). z.effects) (sym (some_same x i at)) ∙ ap (λ (z : Instruction). z.effects) same)
instruction_same (x ∷ xs) (y ∷ ys) (suc n) i e at = let rest : map but_instruction xs ≡ map but_instruction ys = cc in
    instruction_same xs ys n i rest at

entry_same : (bs cs : Blocks) (b : BlockId × BasicBlock) → map but_entry bs ≡ map but_entry cs → IsOneOf b bs
    → (c : BlockId × BasicBlock) × IsOneOf c cs × (but_entry b ≡ but_entry c)
entry_same [] cs b e i = absurd i
entry_same (x ∷ bs) [] b e i = cc
entry_same (x ∷ bs) (c ∷ cs) b e i =
    let first : but_entry x ≡ but_entry c = cc in
    let rest : map but_entry bs ≡ map but_entry cs = cc in
    ⊎_elim (λ (same : b ≡ x). (c, inl refl, ap but_entry same ∙ first))
    (λ later. let r = entry_same bs cs b rest later in (r.0, inr r.1, r.2)) i

ends_same : (b c : BlockId × BasicBlock) → but_entry b ≡ but_entry c → terminal_effects b.1.terminal
    ≡ terminal_effects c.1.terminal
ends_same b c e = sym (terminal_records b.1.terminal)
    ∙ ap (λ (z : BlockId × BasicBlock). terminal_effects z.1.terminal) e ∙ terminal_records c.1.terminal

-- ---- one function

-- nothing is inferred of its instructions and blocks
pub record Plain (f : HirFunction) : Type 0 where
  pub instructions : list_all instruction_is_uninferred f.instructions ≡ true
  pub blocks : list_all (λ (e : BlockId × BasicBlock). block_is_uninferred e.1) f.body.blocks ≡ true

pub plain_of : (f : HirFunction) → function_is_uninferred f ≡ true → Plain f
plain_of f h =
    let a = both_true _ (list_all (λ (e : BlockId × BasicBlock). block_is_uninferred e.1) f.body.blocks) h in
    record { instructions = (both_true _ (list_all instruction_is_uninferred f.instructions) a.0).1; blocks = a.1 }

-- effects of context places say nothing of them
pub plain_alike : (f g : HirFunction) → but_context f ≡ but_context g → Plain g → Plain f
plain_alike f g e p = record {
  instructions = ap (λ (z : HirFunction). list_all instruction_is_uninferred z.instructions) e ∙ p.instructions;
  blocks = ap (λ (z : HirFunction). list_all (λ (b : BlockId × BasicBlock). block_is_uninferred b.1) z.body.blocks) e
      ∙ p.blocks;
}

-- what carries the effects of a solution, and had none before, carries no others
pub no_more : (s : Solved) (func f : HirFunction) → Plain func → but_ranged f ≡ but_ranged (with_effects_of s func)
    → CarriesNoMore s f
no_more s func f plain same = record {
  instructions = λ n i at none.
      let j = instruction_same f.instructions (with_effects_of s func).instructions n i
      (ap (λ (z : HirFunction). z.instructions) same) at in
      j.2 ∙ bare_at func.instructions n j.0 plain.instructions
      (sym (unrecorded n s.effects func.instructions none) ∙ j.1);
  terminals = λ b there none.
      let c = entry_same f.body.blocks (with_effects_of s func).body.blocks b
      (ap (λ (z : HirFunction). z.body.blocks) same) there in
      let key : b.0 ≡ c.0.0 = ap (λ (z : BlockId × BasicBlock). z.0) c.2 in
      let own : IsOneOf c.0 func.body.blocks =
      unended s.terminal_effects func.body.blocks c.0 c.1
      (λ h. none (subst (λ k. AreRecordedOfEnd k s.terminal_effects) (sym key) h)) in
      ends_same b c.0 c.2 ∙ bare_end func.body.blocks c.0 plain.blocks own;
}

-- ---- the unit

module _ (u : HirUnit) (a : UnitAnalysis) (rules : rules_hold u ≡ Ok tt) (is : unit_analysed u ≡ Ok a) where
  abbrev last : Analysed
  last = root_entry u (root u a rules is).nested (root u a rules is).end

  nested_plain : (x : Analysed) → IsOneOf x (root u a rules is).nested.functions → Plain x.func
  nested_plain x i =
      let w = walked u a rules is in
      let there : IsOneOf x w.taken = subst (IsOneOf x) w.functions i in
      let r : Around u.env u.env.identifiers (order u a rules is) (root u a rules is).nested.env.identifiers x
      = around u.env u.env.identifiers (root u a rules is).nested.env.identifiers (order u a rules is) w.taken x w.chain
      there in
      plain_alike x.func r.link.func r.link.ran.same
      (plain_of r.link.func (link_uninferred u.env (parts u a rules is).environment r.id x r.left r.link))

  each_plain : (x : Analysed) → IsOneOf x a.functions → Plain x.func
  each_plain x i =
      ⊎_elim (λ there. nested_plain x there)
      (λ (same : x ≡ last). subst (λ (z : Analysed). Plain z.func) (sym same)
      (plain_of u.function (parts u a rules is).function))
      (in_longer (root u a rules is).nested.functions last x (subst (IsOneOf x) (root u a rules is).all i))

  -- of each function
  pub none_carry_more : NoMoreIsCarried a
  none_carry_more x f i e = no_more x.solved x.func f (each_plain x i) (solutions_carried u a rules is x f i e)
