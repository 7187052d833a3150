-- What a certificate says of blocks doesn't depend on the effects of places.
use Rattle.std.specs.Prelude.{◌≡◌, ℕ, List, [], ◌∷◌, ◌++◌, true, false, cond, map, option_map, Option, Some, None}
use Rattle.std.specs.Prelude.{slice_get, refl}
use Rattle.std.proofs.Common.{ap, sym, ◌∙◌}
use Rattle.std.proofs.lemmas.Option.{slice_get-map}
use Rattle.std.specs.List.{flat_map}
use Rattle.alias_base.specs.Find.{same_block, value_at}
use Rattle.alias_base.specs.declared.ids.BlockId.{BlockId}
use Rattle.alias_base.specs.declared.ids.InstructionId.{InstructionId}
use Rattle.alias_hir.specs.declared.hir.BasicBlock.{BasicBlock}
use Rattle.alias_hir.specs.declared.hir.HirFunction.{HirFunction}
use Rattle.alias_hir.specs.declared.hir.Instruction.{Instruction}
use Rattle.alias_fitting_laws.specs.bare.BareParts.{terminal_records}
use Rattle.alias_effects.specs.declared.solved.BlockEntry.{BlockEntry}
use Rattle.alias_range_pass.specs.places.Keeping.{but_instruction, but_block, but_entry}
use Rattle.alias_text.specs.Lines.{effect_text, recorded, recorded_of}
use Rattle.alias_certificate.specs.declared.certificate.CertBlock.{CertBlock}
use Rattle.alias_certificate.specs.declared.certificate.CertEffect.{CertEffect}
use Rattle.alias_certificate_laws.specs.text.Certifying.{cert_value, cert_variable, cert_effect, effects_of, effects_in}
use Rattle.alias_certificate_laws.specs.text.Certifying.{ends_in, cert_block}
use Rattle.alias_inferred_laws.specs.inferred.Solutions.{but_ranged}

recorded_same : (o : Option Instruction) → recorded_of (option_map but_instruction o) ≡ recorded_of o
recorded_same None = refl
recorded_same (Some i) = refl

one_same : (is : List Instruction) (id : InstructionId) → effects_of (map but_instruction is) id ≡ effects_of is id
one_same is id = ap (λ o. map (cert_effect id.0) (recorded_of o)) (slice_get-map but_instruction is id.0)
    ∙ ap (map (cert_effect id.0)) (recorded_same (slice_get is id.0))

all_same : (is : List Instruction) (ids : List InstructionId) → flat_map (effects_of (map but_instruction is)) ids
    ≡ flat_map (effects_of is) ids
all_same is [] = refl
all_same is (id ∷ ids) = ap (λ es. es ++ flat_map (effects_of (map but_instruction is)) ids) (one_same is id)
    ∙ ap (λ es. effects_of is id ++ es) (all_same is ids)

-- the block of a name
found_same : (bs : List (BlockId × BasicBlock)) (b : BlockId) → value_at (map but_entry bs) b
    ≡ option_map but_block (value_at bs b)
found_same [] b = refl
found_same (x ∷ bs) b =
    elim (same_block b x.0) as (λ t. cond t (Some (but_block x.1)) (value_at (map but_entry bs) b)
    ≡ option_map but_block (cond t (Some x.1) (value_at bs b))) [
      | true ↦ refl
      | false ↦ found_same bs b
    ]

block_effects_same : (is : List Instruction) (o : Option BasicBlock)
    → effects_in (map but_instruction is) (option_map but_block o) ≡ effects_in is o
block_effects_same is None = refl
block_effects_same is (Some b) = all_same is b.instructions

ends_same : (o : Option BasicBlock) → ends_in (option_map but_block o) ≡ ends_in o
ends_same None = refl
ends_same (Some b) = ap (λ es. map effect_text (recorded es)) (terminal_records b.terminal)

-- what is said of a block, by the function's instructions and blocks
abbrev said_so : List Instruction → List (BlockId × BasicBlock) → BlockEntry → CertBlock
said_so is bs e = record {
  block = e.block;
  values = map cert_value e.state.values;
  variables = map cert_variable e.state.variables;
  effects = effects_in is (value_at bs e.block);
  end = ends_in (value_at bs e.block);
}

block_same : (f : HirFunction) (e : BlockEntry) → said_so (but_ranged f).instructions (but_ranged f).body.blocks e
    ≡ cert_block f e
block_same f e =
    let lines : List CertEffect → List (List ℕ) → CertBlock =
    λ es ends. record {
      block = e.block;
      values = map cert_value e.state.values;
      variables = map cert_variable e.state.variables;
      effects = es;
      end = ends;
    } in
    let found : value_at (map but_entry f.body.blocks) e.block ≡ option_map but_block (value_at f.body.blocks e.block) =
    found_same f.body.blocks e.block in
    ap (λ es. lines es (ends_in (value_at (map but_entry f.body.blocks) e.block)))
    (ap (effects_in (map but_instruction f.instructions)) found
    ∙ block_effects_same f.instructions (value_at f.body.blocks e.block))
    ∙ ap (lines (effects_in f.instructions (value_at f.body.blocks e.block)))
    (ap ends_in found ∙ ends_same (value_at f.body.blocks e.block))

one_alike : (f g : HirFunction) → but_ranged f ≡ but_ranged g → (e : BlockEntry) → cert_block f e ≡ cert_block g e
one_alike f g same e = sym (block_same f e) ∙ ap (λ (z : HirFunction). said_so z.instructions z.body.blocks e) same
    ∙ block_same g e

-- functions that differ in effects of places and in summaries alone have the same lines of blocks
pub blocks_alike : (f g : HirFunction) → but_ranged f ≡ but_ranged g → (es : List BlockEntry) → map (cert_block f) es
    ≡ map (cert_block g) es
blocks_alike f g same [] = refl
blocks_alike f g same (e ∷ es) = ap (λ b. b ∷ map (cert_block f) es) (one_alike f g same e)
    ∙ ap (λ bs. cert_block g e ∷ bs) (blocks_alike f g same es)
