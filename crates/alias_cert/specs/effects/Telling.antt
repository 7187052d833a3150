-- Whether recorded effects are those that a certificate tells, one by one.
use Rattle.std.specs.Prelude.{ℕ, Bool, true, false, ◌&&◌, ◌==◌, if◌then◌else◌, List, [], ◌∷◌, Option, Some, None}
use Rattle.alias_hir.specs.declared.effect.AliasingEffect.{AliasingEffect}
use Rattle.alias_step.specs.declared.block.recorded.BlockEffects.{BlockEffects}
use Rattle.alias_step.specs.declared.block.recorded.InstructionEffects.{InstructionEffects}
use Rattle.alias_step.specs.declared.block.recorded.TerminalEffects.{TerminalEffects}
use Rattle.alias_text.specs.Lines.{effect_text}
use Rattle.alias_certificate.specs.declared.certificate.CertBlock.{CertBlock}
use Rattle.alias_certificate.specs.declared.certificate.CertEffect.{CertEffect}
use Rattle.alias_cert.specs.effects.Kept.{kept, same_text}

-- the text tells the effect
abbrev pub tells : AliasingEffect → List ℕ → Bool
tells e t = same_text (kept (effect_text e)) (kept t)

-- what is left of a list, if anything is
abbrev pub and_then : {A B : Type 0} → Option A → (A → Option B) → Option B
and_then None f = None
and_then (Some x) f = f x

-- nothing is left
abbrev pub is_all : {A : Type 0} → Option (List A) → Bool
is_all None = false
is_all (Some []) = true
is_all (Some (x ∷ xs)) = false

-- what is left of the texts behind those that tell the effects
abbrev pub texts_after : List AliasingEffect → List (List ℕ) → Option (List (List ℕ))
texts_after [] ts = Some ts
texts_after (e ∷ es) [] = None
texts_after (e ∷ es) (t ∷ ts) = if tells e t then texts_after es ts else None

-- the same of the effects of terminals
abbrev pub ends_after : List TerminalEffects → List (List ℕ) → Option (List (List ℕ))
ends_after [] ts = Some ts
ends_after (r ∷ rs) ts = and_then (texts_after r.effects ts) (ends_after rs)

-- the same of the effects of an instruction
abbrev pub claimed_after : ℕ → List AliasingEffect → List CertEffect → Option (List CertEffect)
claimed_after i [] cs = Some cs
claimed_after i (e ∷ es) [] = None
claimed_after i (e ∷ es) (c ∷ cs) = if c.instruction == i && tells e c.text then claimed_after i es cs else None

-- and of those of all instructions
abbrev pub all_claimed_after : List InstructionEffects → List CertEffect → Option (List CertEffect)
all_claimed_after [] cs = Some cs
all_claimed_after (r ∷ rs) cs = and_then (claimed_after r.instruction.0 r.effects cs) (all_claimed_after rs)

-- what was recorded of a block is what is claimed of it
abbrev pub is_claimed : BlockEffects → CertBlock → Bool
is_claimed r b = is_all (all_claimed_after r.instructions b.effects) && is_all (ends_after r.terminal b.end)

-- a summary is what is claimed
abbrev pub is_summary_claimed : List AliasingEffect → List (List ℕ) → Bool
is_summary_claimed es ts = is_all (texts_after es ts)
