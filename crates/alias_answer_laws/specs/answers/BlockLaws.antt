-- What the step of a block records holds no Apply.
use Rattle.std.specs.Prelude.{◌≡◌, Bool, true, false, ◌||◌, List, [], ◌∷◌, ◌++◌, refl}
use Rattle.std.specs.List.{list_any}
use Rattle.alias_base.specs.declared.ids.BlockId.{BlockId}
use Rattle.alias_hir.specs.declared.effect.AliasingEffect.{AliasingEffect}
use Rattle.alias_hir.specs.declared.env.Environment.{Environment}
use Rattle.alias_hir.specs.declared.hir.BasicBlock.{BasicBlock}
use Rattle.alias_lattice.specs.States.{State}
use Rattle.alias_rules.specs.Fitting.{is_apply}
use Rattle.alias_step.specs.block.Blocks.{infer_block}
use Rattle.alias_step.specs.block.Contexts.{BlockContext}
use Rattle.alias_step.specs.block.ProperLaws.{BlockSound}
use Rattle.alias_step.specs.declared.block.recorded.BlockEffects.{BlockEffects}
use Rattle.alias_walks.specs.BlocksOfProgress.{ProgressBlockLaw, block_leads}
use Rattle.alias_step_laws.specs.steps.KeepingLaws.{keeping}
use Rattle.alias_answer_laws.specs.answers.Applies.{NoneIsApply, NoInstructionRecordsApply, NoTerminalRecordsApply}

one_false : (b : Bool) → b ≡ false → (b || false) ≡ false
one_false true h = h
one_false false h = refl

later_false : (b c d : Bool) → (b || c) ≡ false → (c ≡ false → d ≡ false) → (b || d) ≡ false
later_false true c d h f = cc
later_false false c d h f = f h

-- one more effect that isn't Apply
pub none_more : (e : AliasingEffect) → is_apply e ≡ false → (es : List AliasingEffect) → NoneIsApply es
    → NoneIsApply (es ++ e ∷ [])
none_more e other [] h = one_false (is_apply e) other
none_more e other (x ∷ es) h = later_false (is_apply x) (list_any is_apply es) (list_any is_apply (es ++ e ∷ [])) h
    (none_more e other es)

abbrev plain_blocks : (env : Environment) → ProgressBlockLaw env
plain_blocks env = record {
  steps = keeping NoneIsApply none_more env;
  Stated = λ x. Unit {0};
  Listed = NoneIsApply;
  starts = λ x m h. refl;
  states = λ s h. tt;
  lists = λ s h. h;
  appends = λ x v s h. h;
}

-- what is recorded of a block
abbrev pub BlockPlain : BlockEffects → Type 0
BlockPlain r = NoInstructionRecordsApply r.instructions × NoTerminalRecordsApply r.terminal

abbrev OutPlain : State × BlockEffects → Type 0
OutPlain r = BlockPlain r.1

module _ (c : BlockContext) where
  pub block_plain : (b : BlockId) (block : BasicBlock) (x : State) → BlockSound OutPlain (infer_block c b block x)
  block_plain b block x t u y e = ((block_leads c (plain_blocks c.env) b block x t tt).leads u y e).value.1
