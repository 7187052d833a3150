-- No counter comes to its last value for a made unit, and its inference gives a result.
use Rattle.std.specs.Prelude.{◌≡◌, ℕ, ◌+◌, ◌≤◌, Bool, true, false, if◌then◌else◌, List, [], ◌∷◌, ◌++◌, length, map}
use Rattle.std.specs.Prelude.{Option, Some, None, Result, Ok, Err, slice_get, refl}
use Rattle.std.specs.List.{AllByRecursion, flat_map, range_with_len}
use Rattle.std.proofs.Common.{zero, suc, ap, sym, ◌∙◌, subst, arith}
use Rattle.std.proofs.lemmas.List.{length-append}
use Rattle.std.proofs.lemmas.List.FromFn.{length-map-range_with_len}
use Rattle.alias_base.specs.Answer.{◌>>=◌}
use Rattle.alias_base.specs.declared.ids.BlockId.{BlockId}
use Rattle.alias_base.specs.declared.ids.InstructionId.{InstructionId}
use Rattle.alias_facts.specs.declared.facts.FunctionFacts.{FunctionFacts}
use Rattle.alias_facts.specs.Facts.{function_facts}
use Rattle.alias_hir.specs.Types.{is_primitive_at}
use Rattle.alias_hir.specs.declared.effect.AliasingEffect.{AliasingEffect}
use Rattle.alias_hir.specs.declared.effect.AliasingEffect.TheVariants.{CreateFrom}
use Rattle.alias_hir.specs.declared.effect.ValueKind.TheVariants as kind
use Rattle.alias_hir.specs.declared.env.Environment.{Environment}
use Rattle.alias_hir.specs.declared.error.Counter.{Counter}
use Rattle.alias_hir.specs.declared.error.InferError.{InferError}
use Rattle.alias_hir.specs.declared.error.InferError.TheVariants as error
use Rattle.alias_hir.specs.declared.hir.BasicBlock.{BasicBlock}
use Rattle.alias_hir.specs.declared.hir.HirFunction.{HirFunction}
use Rattle.alias_hir.specs.declared.hir.Instruction.{Instruction}
use Rattle.alias_hir.specs.declared.value.InstructionValue.{InstructionValue}
use Rattle.alias_signature.specs.Created.{created as creates}
use Rattle.alias_effects.specs.Inference.{pass_end, env_after}
use Rattle.alias_effects.specs.Recording.{with_effects_of}
use Rattle.alias_range_pass.specs.Passes.{Ranged, range_pass}
use Rattle.alias_nested.specs.Analysis.{Analysis, Analysed, analysis, analysed, each, slot_analysed, most_levels}
use Rattle.alias_nested.specs.Created.{one_of, created_by, created_by_all, created_functions}
use Rattle.alias_nested.specs.Units.{RootAnalysis, UnitAnalysis, validated, root_finished, root_analysed, all_analysed}
use Rattle.alias_nested.specs.Units.{handed_out, unit_analysed}
use Rattle.alias_answer_laws.specs.answers.Avoiding.{Avoids, Answered, avoids_then}
use Rattle.alias_answer_laws.specs.answers.ValidationLaws.{validated_says}
use Rattle.alias_completeness.specs.Going.{all_both}
use Rattle.alias_unit_completeness.specs.Complete.{unit_caused}
use Rattle.alias_unit_completeness.specs.Refusals.{IsTooMany, blames_no_plain}
use Rattle.alias_made.specs.Blocks.{block_of, last_block, made_blocks}
use Rattle.alias_made.specs.Draws.{state_before, block_drawn}
use Rattle.alias_made.specs.Instructions.{use_of, instruction, value_of, instructions_of}
use Rattle.alias_made.specs.Units.{drawn_instructions, made_instructions, made_environment, made_function, made_unit}
use Rattle.alias_made.specs.declared.draws.BlockDraw.{BlockDraw}
use Rattle.alias_made.specs.laws.BlockLaws.{blocks_list_nothing}
use Rattle.alias_made.specs.laws.InstructionLaws.{by_kind}
use Rattle.alias_made.specs.laws.MadeLaws.{made_unit_keeps_rules}
use Rattle.alias_made_result_laws.specs.plain.ForwardLaws.{made_is_forward}
use Rattle.alias_made_result_laws.specs.plain.PlainLaws.{made_is_plain}
use Rattle.alias_made_result_laws.specs.counts.EffectCounts.{IsLight}
use Rattle.alias_made_result_laws.specs.counts.BlockCounts.{IsLightInstruction, IsLightBlock}
use Rattle.alias_made_result_laws.specs.counts.ListingCounts.{IsShortBlock, IsShortInstruction, all_at, IsShortFunction}
use Rattle.alias_made_result_laws.specs.counts.ListingCounts.{ranges_avoid}
use Rattle.alias_made_result_laws.specs.counts.PassCounts.{is_too_many, IsLightFunction, EndsShort, pass_is_short}
use Rattle.alias_made_result_laws.specs.counts.RecordedCounts.{short_with}

-- ---- instructions

module _ (env : Environment) (facts : FunctionFacts) where
  abbrev Light : Instruction → Type 0
  Light x = IsLightInstruction env facts x

  loaded : (b : Bool) (l o : ℕ) → (let es : List AliasingEffect = if b then creates (use_of l) kind.Primitive ∷ []
      else CreateFrom (use_of o) (use_of l) ∷ [] in AllByRecursion IsLight es × (length es ≤ 4))
  loaded true l o = ((tt, tt), omega arith)
  loaded false l o = ((tt, tt), omega arith)

  value_light : (order n o which : ℕ) → Light (instruction order n (value_of which (use_of o)))
  value_light order n o which =
      let load = loaded (is_primitive_at env (use_of n).identifier) n o in
      by_kind (λ (v : InstructionValue). Light (instruction order n v)) which (use_of o)
      (record { creates = refl; tells = refl; light = (tt, tt); few = omega arith })
      (record { creates = refl; tells = refl; light = (tt, (tt, tt)); few = omega arith })
      (record { creates = refl; tells = refl; light = load.0; few = load.1 })
      (record { creates = refl; tells = refl; light = (tt, tt); few = omega arith })

  block_light : (k : ℕ) (d : BlockDraw) → AllByRecursion Light (instructions_of k d)
  block_light k d = (
    record { creates = refl; tells = refl; light = (tt, tt); few = omega arith },
    (
      value_light _ _ _ d.kind,
      (
        record {
          creates = refl;
          tells = refl;
          light = (tt, (tt, (tt, tt)));
          few = omega arith;
        },
        tt,
      ),
    ),
  )

  light_from : (seed a n : ℕ) → AllByRecursion Light (flat_map (drawn_instructions seed) (range_with_len a n))
  light_from seed a zero = tt
  light_from seed a (suc n) = all_both Light (drawn_instructions seed a)
      (flat_map (drawn_instructions seed) (range_with_len (a + 1) n))
      (block_light a (block_drawn (state_before seed a) a)) (light_from seed (a + 1) n)

short_from : (seed a n : ℕ) → AllByRecursion IsShortInstruction
    (flat_map (drawn_instructions seed) (range_with_len a n))
short_from seed a zero = tt
short_from seed a (suc n) = all_both IsShortInstruction (drawn_instructions seed a)
    (flat_map (drawn_instructions seed) (range_with_len (a + 1) n)) (tt, (tt, (tt, tt))) (short_from seed (a + 1) n)

-- ---- blocks

each_block : (P : BlockId × BasicBlock → Type 0) → ((k : ℕ) → P (block_of k)) → (a n : ℕ)
    → AllByRecursion P (map block_of (range_with_len a n))
each_block P h a zero = tt
each_block P h a (suc n) = (h a, each_block P h (a + 1) n)

all_blocks : (P : BlockId × BasicBlock → Type 0) (size : ℕ) → ((k : ℕ) → P (block_of k)) → P (last_block size)
    → AllByRecursion P (made_blocks size)
all_blocks P size h last = all_both P (map block_of (range_with_len 0 size)) (last_block size ∷ [])
    (each_block P h 0 size) (last, tt)

abbrev IsLightNamed : BlockId × BasicBlock → Type 0
IsLightNamed b = IsLightBlock b.1

light_blocks : (size : ℕ) → AllByRecursion IsLightNamed (made_blocks size)
light_blocks size = all_blocks IsLightNamed size (λ k. record { few = omega arith; ends = tt })
    (record { few = omega arith; ends = tt })

short_blocks : (size : ℕ) → AllByRecursion IsShortBlock (made_blocks size)
short_blocks size = all_blocks IsShortBlock size (λ k. record { phis = refl; few = omega arith; ends = tt })
    (record { phis = refl; few = omega arith; ends = tt })

few_blocks : (size : ℕ) → size ≤ 1000 → length (made_blocks size) ≤ 1001
few_blocks size limit = omega (
  arith,
  limit,
  length-append (map block_of (range_with_len 0 size)) (last_block size ∷ []),
  length-map-range_with_len block_of 0 size,
)

-- ---- the function

module _ (seed size : ℕ) (limit : size ≤ 1000) where
  abbrev func : HirFunction
  func = made_function seed size

  abbrev env : Environment
  env = made_environment size

  is_light : IsLightFunction env func
  is_light = record {
    instructions = λ n x e. all_at (IsLightInstruction env (function_facts func env)) (made_instructions seed size) n x
        (light_from env (function_facts func env) seed 0 size) e;
    blocks = λ n b e. all_at IsLightNamed (made_blocks size) n b (light_blocks size) e;
    few = few_blocks size limit;
  }

  is_short : IsShortFunction func
  is_short = record {
    instructions = short_from seed 0 size;
    blocks = short_blocks size;
    few = few_blocks size limit;
    tracked = omega arith;
  }

  -- it creates no function
  created_none : (n : ℕ) (o : Option Instruction) → slice_get (made_instructions seed size) n ≡ o → created_by o ≡ []
  created_none n None e = refl
  created_none n (Some x) e = ap one_of (is_light.instructions n x e).creates

  none_by_all : (ids : List InstructionId) → created_by_all func ids ≡ []
  none_by_all [] = refl
  none_by_all (i ∷ is) = ap (λ fs. fs ++ created_by_all func is)
      (created_none i.0 (slice_get (made_instructions seed size) i.0) refl) ∙ none_by_all is

  none_created : created_functions func ≡ []
  none_created = blocks_list_nothing (λ (b : BlockId × BasicBlock). created_by_all func b.1.instructions) size
      (λ k. none_by_all (block_of k).1.instructions) (none_by_all (last_block size).1.instructions)

  none_below : (n : ℕ) (a : Analysis) → analysed n func a ≡ Ok a
  unfolding analysed
  none_below zero a = refl
  none_below (suc n) a = ap (λ ids. each (slot_analysed (analysed n)) ids a) none_created

  -- ---- the unit

  root_avoids : (fs : List Analysed) → Avoids is_too_many (Answered {A = RootAnalysis})
      (root_analysed func (analysis env fs))
  root_avoids fs =
      avoids_then is_too_many EndsShort (Answered {A = RootAnalysis}) (pass_end env func false)
      (λ e. root_finished (with_effects_of e.solved func) (env_after env e)
      (fs ++ record { env = env; func = func; is_function_expression = false; solved = e.solved } ∷ []))
      (pass_is_short env func false is_light refl) (λ e s.
      avoids_then is_too_many (Answered {A = Ranged}) (Answered {A = RootAnalysis})
      (range_pass false (with_effects_of e.solved func) (env_after env e)) _
      (ranges_avoid (with_effects_of e.solved func) (short_with e.solved func s is_short) false (env_after env e))
      (λ r t.
      avoids_then is_too_many (Answered {A = Environment}) (Answered {A = RootAnalysis}) (validated r.after.0 r.after.1)
      _ (validated_says is_too_many (λ x. refl) r.after.0 r.after.1) (λ m q. tt)))

  unit_avoids : Avoids is_too_many (Answered {A = UnitAnalysis}) (unit_analysed (made_unit seed size))
  unit_avoids =
      avoids_then is_too_many (Answered {A = RootAnalysis}) (Answered {A = UnitAnalysis})
      (all_analysed func (analysis env [])) (λ r. Ok (handed_out r))
      (subst (λ r. Avoids is_too_many (Answered {A = RootAnalysis}) (r >>= root_analysed func))
      (sym (none_below most_levels (analysis env []))) (root_avoids [])) (λ r t. tt)

  -- no counter comes to its last value
  pub never_too_many : (which : Counter) → unit_analysed (made_unit seed size) ≡ Err (error.TooMany which) → ⊥
  never_too_many which e = let no : true ≡ false =
      subst (Avoids is_too_many (Answered {A = UnitAnalysis})) e unit_avoids in cc

  too_many_is : (e : InferError) → unit_analysed (made_unit seed size) ≡ Err e → IsTooMany e → ⊥
  too_many_is (error.TooMany which) q h = never_too_many which q
  too_many_is e q h = absurd h

  -- the inference of a unit that is well formed, is plain and goes forward is refused for nothing else
  answer_is : 1 ≤ size → (r : Result UnitAnalysis InferError) → unit_analysed (made_unit seed size) ≡ r
      → (a : UnitAnalysis) × (unit_analysed (made_unit seed size) ≡ Ok a)
  answer_is some (Ok a) q = (a, q)
  answer_is some (Err e) q =
      let u = made_unit seed size in
      absurd (too_many_is e q ((blames_no_plain u e (unit_caused u (made_unit_keeps_rules seed size some limit) e q)
      (made_is_plain seed size)).1 (made_is_forward seed size)))

  -- so it gives a result
  pub made_is_inferred : 1 ≤ size → (a : UnitAnalysis) × (unit_analysed (made_unit seed size) ≡ Ok a)
  made_is_inferred some = answer_is some (unit_analysed (made_unit seed size)) refl
