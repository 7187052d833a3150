-- What the effects pass records on a function names only what holds of its places, or what is new.
use Rattle.std.specs.Prelude.{◌≡◌, ℕ, ◌<◌, ◌||◌, ◌&&◌, Bool, true, false, is_none, List, [], ◌∷◌, length, Option, Some}
use Rattle.std.specs.Prelude.{None, slice_get, slice_set, refl}
use Rattle.std.specs.List.{AllByRecursion, list_all}
use Rattle.std.specs.Option.{option_map_or}
use Rattle.std.proofs.Common.{zero, suc, ⊎_elim, inl, inr, ◌⊎◌, subst, ltb-true}
use Rattle.indexmap.specs.IndexMap.{set_value_at}
use Rattle.alias_base.specs.AnswerLaws.{both_true}
use Rattle.alias_base.specs.declared.ids.BlockId.{BlockId}
use Rattle.alias_base.specs.declared.ids.IdentifierId.{IdentifierId}
use Rattle.alias_step.specs.declared.block.recorded.InstructionEffects.{InstructionEffects}
use Rattle.alias_step.specs.declared.block.recorded.TerminalEffects.{TerminalEffects}
use Rattle.alias_effects.specs.Recording.{block_with, with_terminal_at, recorded_instructions, recorded_terminals}
use Rattle.alias_effects.specs.Recording.{with_effects_of}
use Rattle.alias_effects.specs.declared.solved.Solved.{Solved}
use Rattle.alias_graph.specs.recorded.Fitting.{AllOf}
use Rattle.alias_explain.specs.Standing.{has_place, is_named, instructions_name, terminals_name}
use Rattle.alias_rules.specs.function_rules.Rules.{instruction_is_uninferred, block_is_uninferred}
use Rattle.alias_rules.specs.function_rules.Rules.{function_is_uninferred, place_is_uninferred}
use Rattle.alias_rules.specs.function_rules.Rules.{own_places_are_uninferred, phi_is_uninferred, terminal_is_uninferred}
use Rattle.alias_hir.specs.Effects.{effect_places}
use Rattle.alias_hir.specs.Terminals.{terminal_effects, with_terminal_effects, terminal_places}
use Rattle.alias_hir.specs.Values.{places_of}
use Rattle.alias_hir.specs.declared.effect.AliasingEffect.{AliasingEffect}
use Rattle.alias_hir.specs.declared.effect.AliasingEffect.TheVariants as effect
use Rattle.alias_hir.specs.declared.env.Environment.{Environment}
use Rattle.alias_hir.specs.declared.hir.BasicBlock.{BasicBlock}
use Rattle.alias_hir.specs.declared.hir.HirFunction.{HirFunction}
use Rattle.alias_hir.specs.declared.hir.Instruction.{Instruction}
use Rattle.alias_hir.specs.declared.place.Place.{Place}
use Rattle.alias_hir.specs.declared.terminal.Terminal.{Terminal}
use Rattle.alias_hir.specs.declared.terminal.Terminal.TheVariants as terminal
use Rattle.alias_effects_laws.specs.naming.Owning.{EffectOwns, EffectsOwn}
use Rattle.alias_effects_laws.specs.naming.PassLaws.{SolvedNames, all_on}
use Rattle.alias_range_pass.specs.places.Causes.{numbers_of}
use Rattle.alias_rules.specs.Fitting.{place_within_tables, function_within_tables, type_within_tables}
use Rattle.alias_rules.specs.Fitting.{error_within_tables, named_within_tables, summary_within_tables}
use Rattle.alias_rules.specs.Fitting.{effect_within_tables, recorded_within_tables, effects_within_tables}
use Rattle.alias_rules.specs.Fitting.{holds_no_call, effects_fit}
use Rattle.alias_hir.specs.Effects.{function_of, signature_of, error_of}
use Rattle.alias_hir.specs.Positions.{position_in}
use Rattle.alias_cause_laws.specs.ends.Making.{EffectMakes, EffectsMake}
use Rattle.alias_cause_laws.specs.ends.Owned.{AllOwned, numbers_owned, one_there}
use Rattle.alias_cause_laws.proofs.causes.Alike.{has_among, effects_name}

abbrev Blocks : Type 0
Blocks = List (BlockId × BasicBlock)

pub either_true : (a b : Bool) → (a || b) ≡ true → (a ≡ true) ⊎ (b ≡ true)
either_true true b h = inl refl
either_true false b h = inr h

module _ (P : ℕ → Type 0) where
  -- the places of effects are P's
  abbrev pub EffectOwned : AliasingEffect → Type 0
  EffectOwned e = AllOwned P (effect_places e)

  abbrev pub RecordedOwned : Option (List AliasingEffect) → Type 0
  RecordedOwned None = Unit {0}
  RecordedOwned (Some es) = AllByRecursion EffectOwned es

  abbrev pub InstructionsOwned : List Instruction → Type 0
  InstructionsOwned is = AllByRecursion (λ (i : Instruction). RecordedOwned i.effects) is

  abbrev pub TerminalsOwned : Blocks → Type 0
  TerminalsOwned bs = AllByRecursion (λ (b : BlockId × BasicBlock). RecordedOwned (terminal_effects b.1.terminal)) bs

  -- what is on a function
  pub record EffectsOwned (f : HirFunction) : Type 0 where
    pub instructions : InstructionsOwned f.instructions
    pub terminals : TerminalsOwned f.body.blocks

  -- ---- what was named before

  pub place_owned : (id : IdentifierId) (ps : List Place) → AllOwned P ps → has_place id ps ≡ true → P id.0
  place_owned id ps h e = one_there P (numbers_of ps) id.0 (numbers_owned P ps h) (has_among id ps e)

  effects_owned : (id : IdentifierId) (es : List AliasingEffect) → AllByRecursion EffectOwned es → is_named id (Some es)
      ≡ true → P id.0
  effects_owned id [] h e = cc
  effects_owned id (x ∷ es) h e =
      ⊎_elim (λ here. place_owned id (effect_places x) h.0 here) (λ later. effects_owned id es h.1 later)
      (either_true (has_place id (effect_places x)) (is_named id (Some es)) e)

  recorded_owned : (id : IdentifierId) (o : Option (List AliasingEffect)) → RecordedOwned o → is_named id o ≡ true
      → P id.0
  recorded_owned id None h e = cc
  recorded_owned id (Some es) h e = effects_owned id es h e

  instructions_owned : (id : IdentifierId) (is : List Instruction) → InstructionsOwned is → instructions_name id is
      ≡ true → P id.0
  instructions_owned id [] h e = cc
  instructions_owned id (i ∷ is) h e =
      ⊎_elim (λ here. recorded_owned id i.effects h.0 here) (λ later. instructions_owned id is h.1 later)
      (either_true (is_named id i.effects) (instructions_name id is) e)

  terminals_owned : (id : IdentifierId) (bs : Blocks) → TerminalsOwned bs → terminals_name id bs ≡ true → P id.0
  terminals_owned id [] h e = cc
  terminals_owned id (b ∷ bs) h e =
      ⊎_elim (λ here. recorded_owned id (terminal_effects b.1.terminal) h.0 here)
      (λ later. terminals_owned id bs h.1 later)
      (either_true (is_named id (terminal_effects b.1.terminal)) (terminals_name id bs) e)

  -- of what effects name P holds
  pub named_owned : (id : IdentifierId) (f : HirFunction) → EffectsOwned f → effects_name id f ≡ true → P id.0
  named_owned id f h e =
      ⊎_elim (λ here. instructions_owned id f.instructions h.instructions here)
      (λ later. terminals_owned id f.body.blocks h.terminals later)
      (either_true (instructions_name id f.instructions) (terminals_name id f.body.blocks) e)

  -- ---- what effects make they name

  effect_makes_owned : (e : AliasingEffect) → EffectOwned e → EffectMakes P e
  effect_makes_owned (effect.Create into value reason) h = h.0
  effect_makes_owned (effect.CreateFunction into f captures) h = h.0
  effect_makes_owned (effect.CreateFrom a x) h = h.1.0
  effect_makes_owned (effect.Assign a x) h = h.1.0
  effect_makes_owned e h = tt

  effects_make_owned : (es : List AliasingEffect) → AllByRecursion EffectOwned es → AllOf (EffectMakes P) es
  effects_make_owned [] h = tt
  effects_make_owned (e ∷ es) h = (effect_makes_owned e h.0, effects_make_owned es h.1)

  recorded_makes : (o : Option (List AliasingEffect)) → RecordedOwned o → EffectsMake P o
  recorded_makes None h = tt
  recorded_makes (Some es) h = effects_make_owned es h

  pub instructions_make : (is : List Instruction) → InstructionsOwned is
      → AllOf (λ (i : Instruction). EffectsMake P i.effects) is
  instructions_make [] h = tt
  instructions_make (i ∷ is) h = (recorded_makes i.effects h.0, instructions_make is h.1)

  -- ---- what is recorded is on the function

  set_all : {X : Type 0} (Q : X → Type 0) (xs : List X) (i : ℕ) (x : X) → Q x → AllByRecursion Q xs
      → AllByRecursion Q (slice_set xs i x)
  set_all Q [] i x h a = tt
  set_all Q (y ∷ ys) zero x h a = (h, a.1)
  set_all Q (y ∷ ys) (suc i) x h a = (a.0, set_all Q ys i x h a.1)

  set_value_all : (Q : BasicBlock → Type 0) (es : Blocks) (i : ℕ) (w : BasicBlock) → Q w
      → AllByRecursion (λ (e : BlockId × BasicBlock). Q e.1) es
      → AllByRecursion (λ (e : BlockId × BasicBlock). Q e.1) (set_value_at es i w)
  set_value_all Q [] i w h a = tt
  set_value_all Q (y ∷ ys) zero w h a = (h, a.1)
  set_value_all Q (y ∷ ys) (suc i) w h a = (a.0, set_value_all Q ys i w h a.1)

  instruction_put : (e : InstructionEffects) (o : Option Instruction) (xs : List Instruction)
      → AllByRecursion EffectOwned e.effects → InstructionsOwned xs
      → InstructionsOwned (option_map_or (λ (x : Instruction).
      slice_set xs e.instruction.0 (record x { effects = Some e.effects })) o xs)
  instruction_put e None xs h a = a
  instruction_put e (Some x) xs h a = set_all (λ (i : Instruction). RecordedOwned i.effects) xs e.instruction.0
      (record x { effects = Some e.effects }) h a

  instructions_put : (es : List InstructionEffects) (xs : List Instruction)
      → AllByRecursion (λ (e : InstructionEffects). AllByRecursion EffectOwned e.effects) es → InstructionsOwned xs
      → InstructionsOwned (recorded_instructions es xs)
  instructions_put [] xs h a = a
  instructions_put (e ∷ es) xs h a =
      let ys = recorded_instructions es xs in
      instruction_put e (slice_get ys e.instruction.0) ys h.0 (instructions_put es xs h.1 a)

  terminal_put : (t : Terminal) (es : List AliasingEffect) → AllByRecursion EffectOwned es
      → RecordedOwned (terminal_effects t) → RecordedOwned (terminal_effects (with_terminal_effects t es))
  terminal_put (terminal.Return id value effects) es h a = h
  terminal_put (terminal.MaybeThrow id continuation handler effects) es h a = h
  terminal_put t es h a = tt

  block_at : (bs : Blocks) (n : ℕ) (x : BlockId × BasicBlock) → TerminalsOwned bs → slice_get bs n ≡ Some x
      → RecordedOwned (terminal_effects x.1.terminal)
  block_at [] n x h e = cc
  block_at (y ∷ ys) zero x h e = let same : y ≡ x = cc in
      subst (λ (z : BlockId × BasicBlock). RecordedOwned (terminal_effects z.1.terminal)) same h.0
  block_at (y ∷ ys) (suc n) x h e = block_at ys n x h.1 e

  terminal_set : (es : List AliasingEffect) (bs : Blocks) (n : ℕ) (o : Option (BlockId × BasicBlock)) → slice_get bs n
      ≡ o → AllByRecursion EffectOwned es → TerminalsOwned bs
      → TerminalsOwned (option_map_or (λ (x : BlockId × BasicBlock). set_value_at bs n (block_with x.1 es)) o bs)
  terminal_set es bs n None e h a = a
  terminal_set es bs n (Some x) e h a = set_value_all (λ (b : BasicBlock). RecordedOwned (terminal_effects b.terminal))
      bs n (block_with x.1 es) (terminal_put x.1.terminal es h (block_at bs n x a e)) a

  terminal_at : (es : List AliasingEffect) (bs : Blocks) (o : Option ℕ) → AllByRecursion EffectOwned es
      → TerminalsOwned bs → TerminalsOwned (option_map_or (with_terminal_at es bs) o bs)
  terminal_at es bs None h a = a
  terminal_at es bs (Some n) h a = terminal_set es bs n (slice_get bs n) refl h a

  terminals_put : (es : List TerminalEffects) (bs : Blocks)
      → AllByRecursion (λ (e : TerminalEffects). AllByRecursion EffectOwned e.effects) es → TerminalsOwned bs
      → TerminalsOwned (recorded_terminals es bs)
  terminals_put [] bs h a = a
  terminals_put (e ∷ es) bs h a =
      let cs = recorded_terminals es bs in
      terminal_at e.effects cs (position_in cs e.block) h.0 (terminals_put es bs h.1 a)

  effects_of : (env : Environment) (es : List AliasingEffect) → EffectsOwn env P es → AllByRecursion EffectOwned es
  effects_of env es h = all_on (EffectOwns env P) EffectOwned (λ e a. a.0) es h

  -- a function that carries only effects of P's places does so with what a pass recorded
  pub recorded_all : (env : Environment) (s : Solved) (f : HirFunction) → SolvedNames env P s → EffectsOwned f
      → EffectsOwned (with_effects_of s f)
  recorded_all env s f n h = record {
    instructions =
        instructions_put s.effects f.instructions
        (all_on (λ (e : InstructionEffects). EffectsOwn env P e.effects)
        (λ (e : InstructionEffects). AllByRecursion EffectOwned e.effects) (λ e a. effects_of env e.effects a)
        s.effects n.instructions) h.instructions;
    terminals =
        terminals_put s.terminal_effects f.body.blocks
        (all_on (λ (e : TerminalEffects). EffectsOwn env P e.effects)
        (λ (e : TerminalEffects). AllByRecursion EffectOwned e.effects) (λ e a. effects_of env e.effects a)
        s.terminal_effects n.terminals) h.terminals;
  }

  -- ---- nothing is inferred yet

  nothing_owned : (o : Option (List AliasingEffect)) → is_none o ≡ true → RecordedOwned o
  nothing_owned None h = tt
  nothing_owned (Some es) h = cc

  uninferred_instructions : (is : List Instruction) → list_all instruction_is_uninferred is ≡ true
      → InstructionsOwned is
  uninferred_instructions [] h = tt
  uninferred_instructions (i ∷ is) h =
      let b = both_true (instruction_is_uninferred i) (list_all instruction_is_uninferred is) h in
      let c = both_true (is_none i.effects && place_is_uninferred i.lvalue)
      (list_all place_is_uninferred (places_of i.value)) b.0 in (
        nothing_owned i.effects (both_true (is_none i.effects) (place_is_uninferred i.lvalue) c.0).0,
        uninferred_instructions is b.1,
      )

  uninferred_terminals : (bs : Blocks) → list_all (λ (e : BlockId × BasicBlock). block_is_uninferred e.1) bs ≡ true
      → TerminalsOwned bs
  uninferred_terminals [] h = tt
  uninferred_terminals (e ∷ es) h =
      let b = both_true (block_is_uninferred e.1) (list_all (λ (e : BlockId × BasicBlock). block_is_uninferred e.1) es)
      h in
      let c = both_true (list_all phi_is_uninferred e.1.phis) (terminal_is_uninferred e.1.terminal) b.0 in (
        nothing_owned (terminal_effects e.1.terminal)
            (both_true (is_none (terminal_effects e.1.terminal))
            (list_all place_is_uninferred (terminal_places e.1.terminal)) c.1).0,
        uninferred_terminals es b.1,
      )

  pub uninferred_owned : (f : HirFunction) → function_is_uninferred f ≡ true → EffectsOwned f
  uninferred_owned f h =
      let a = both_true (is_none f.aliasing_effects && own_places_are_uninferred f
      && list_all instruction_is_uninferred f.instructions)
      (list_all (λ (e : BlockId × BasicBlock). block_is_uninferred e.1) f.body.blocks) h in
      let b = both_true (is_none f.aliasing_effects && own_places_are_uninferred f)
      (list_all instruction_is_uninferred f.instructions) a.0 in
      record {
        instructions = uninferred_instructions f.instructions b.1;
        terminals = uninferred_terminals f.body.blocks a.1;
      }

-- ---- effects that fit

module _ (env : Environment) where
  -- below the table's length
  abbrev pub IsBelow : ℕ → Type 0
  IsBelow n = n < length env.identifiers

  pub places_below : (ps : List Place) → list_all (place_within_tables env) ps ≡ true → AllOwned IsBelow ps
  places_below [] h = tt
  places_below (p ∷ ps) h =
      let b = both_true (place_within_tables env p) (list_all (place_within_tables env) ps) h in
      (ltb-true p.identifier.0 (length env.identifiers) b.0, places_below ps b.1)

  effect_below : (e : AliasingEffect) → effect_within_tables env e ≡ true → EffectOwned IsBelow e
  effect_below e h =
      let a = both_true (named_within_tables env e) (summary_within_tables env (function_of e)) h in
      let b = both_true (list_all (place_within_tables env) (effect_places e)
      && function_within_tables env (function_of e) && type_within_tables env (signature_of e))
      (error_within_tables env (error_of e)) a.0 in
      let c = both_true (list_all (place_within_tables env) (effect_places e)
      && function_within_tables env (function_of e)) (type_within_tables env (signature_of e)) b.0 in
      places_below (effect_places e) (both_true (list_all (place_within_tables env) (effect_places e))
      (function_within_tables env (function_of e)) c.0).0

  effects_below : (es : List AliasingEffect) → list_all (effect_within_tables env) es ≡ true
      → AllByRecursion (EffectOwned IsBelow) es
  effects_below [] h = tt
  effects_below (e ∷ es) h = let b = both_true (effect_within_tables env e) (list_all (effect_within_tables env) es)
      h in (effect_below e b.0, effects_below es b.1)

  recorded_below : (o : Option (List AliasingEffect)) → recorded_within_tables env o ≡ true → RecordedOwned IsBelow o
  recorded_below None h = tt
  recorded_below (Some es) h = effects_below es h

  instructions_below : (is : List Instruction) → list_all (λ (i : Instruction). recorded_within_tables env i.effects) is
      ≡ true → InstructionsOwned IsBelow is
  instructions_below [] h = tt
  instructions_below (i ∷ is) h =
      let b = both_true (recorded_within_tables env i.effects)
      (list_all (λ (i : Instruction). recorded_within_tables env i.effects) is) h in
      (recorded_below i.effects b.0, instructions_below is b.1)

  terminals_below : (bs : Blocks) → list_all
      (λ (e : BlockId × BasicBlock). recorded_within_tables env (terminal_effects e.1.terminal)) bs ≡ true
      → TerminalsOwned IsBelow bs
  terminals_below [] h = tt
  terminals_below (e ∷ es) h =
      let b = both_true (recorded_within_tables env (terminal_effects e.1.terminal))
      (list_all (λ (e : BlockId × BasicBlock). recorded_within_tables env (terminal_effects e.1.terminal)) es) h in
      (recorded_below (terminal_effects e.1.terminal) b.0, terminals_below es b.1)

  -- effects that fit name what is in the table
  pub fitting_below : (f : HirFunction) → effects_fit env f ≡ true → EffectsOwned IsBelow f
  fitting_below f h =
      let a = both_true (effects_within_tables env f) (holds_no_call f.aliasing_effects) h in
      let b = both_true _ (recorded_within_tables env f.aliasing_effects) a.0 in
      let c = both_true (list_all (λ (i : Instruction). recorded_within_tables env i.effects) f.instructions) _ b.0 in
      record { instructions = instructions_below f.instructions c.0; terminals = terminals_below f.body.blocks c.1 }
