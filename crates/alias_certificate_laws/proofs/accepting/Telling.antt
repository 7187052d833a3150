-- What a block records that is alike is told by what is said of it.
use Rattle.std.specs.Prelude.{◌==◌, if◌then◌else◌, map}
use Rattle.std.proofs.Common.{◌≡◌, ℕ, Bool, true, false, ◌&&◌, List, [], ◌++◌, Some, None, refl, ap, ◌∙◌, eq-eqb}
use Rattle.std.specs.List.{flat_map}
use Rattle.alias_base.specs.declared.ids.BlockId.{BlockId}
use Rattle.alias_hir.specs.declared.effect.AliasingEffect.{AliasingEffect}
use Rattle.alias_lattice.specs.States.{State}
use Rattle.alias_step.specs.declared.block.recorded.BlockEffects.{BlockEffects}
use Rattle.alias_step.specs.declared.block.recorded.InstructionEffects.{InstructionEffects}
use Rattle.alias_step.specs.declared.block.recorded.TerminalEffects.{TerminalEffects}
use Rattle.alias_certificate.specs.declared.certificate.CertEffect.{CertEffect}
use Rattle.alias_text.specs.Lines.{effect_text}
use Rattle.alias_cert.specs.effects.Telling.{tells, and_then, is_all, texts_after, ends_after, claimed_after}
use Rattle.alias_cert.specs.effects.Telling.{all_claimed_after, is_claimed}
use Rattle.alias_certificate_laws.specs.accepting.Alike.{Paired, none, more, AlikeEffects}
use Rattle.alias_certificate_laws.specs.accepting.AlikeBlocks.{AlikeInstruction, of_instruction, AlikeTerminal}
use Rattle.alias_certificate_laws.specs.accepting.AlikeBlocks.{of_terminal, AlikeRecorded}
use Rattle.alias_certificate_laws.specs.accepting.Saying.{said_effect, said_effects, said_ends, said_block}
use Rattle.alias_certificate_laws.proofs.accepting.Texts.{claimed_alike}

both : (a b : Bool) → a ≡ true → b ≡ true → (a && b) ≡ true
both true b h k = k
both false b h k = cc

-- ---- instructions

claimed_of_one : (i : ℕ) (es fs : List AliasingEffect) (rest : List CertEffect) → AlikeEffects es fs
    → claimed_after i fs (map (said_effect i) es ++ rest) ≡ Some rest
claimed_of_one i es fs rest none = refl
claimed_of_one i es fs rest (more {a = e} {b = f} {xs = xs} {ys = ys} q qs) =
    ap (λ b. if b then claimed_after i ys (map (said_effect i) xs ++ rest) else None)
    (both (i == i) (tells f (effect_text e)) (eq-eqb i i refl) (claimed_alike e f q))
    ∙ claimed_of_one i xs ys rest qs

claimed_of_all : (rs qs : List InstructionEffects) → Paired AlikeInstruction rs qs
    → all_claimed_after qs (flat_map said_effects rs) ≡ Some []
claimed_of_all rs qs none = refl
claimed_of_all rs qs (more {xs = xs} {ys = ys} (of_instruction i es fs a) rest) =
    ap (λ o. and_then o (all_claimed_after ys)) (claimed_of_one i.0 es fs (flat_map said_effects xs) a)
    ∙ claimed_of_all xs ys rest

-- ---- terminals

texts_of_one : (es fs : List AliasingEffect) (rest : List (List ℕ)) → AlikeEffects es fs
    → texts_after fs (map effect_text es ++ rest) ≡ Some rest
texts_of_one es fs rest none = refl
texts_of_one es fs rest (more {a = e} {b = f} {xs = xs} {ys = ys} q qs) =
    ap (λ b. if b then texts_after ys (map effect_text xs ++ rest) else None) (claimed_alike e f q)
    ∙ texts_of_one xs ys rest qs

ends_of_all : (rs qs : List TerminalEffects) → Paired AlikeTerminal rs qs → ends_after qs (flat_map said_ends rs)
    ≡ Some []
ends_of_all rs qs none = refl
ends_of_all rs qs (more {xs = xs} {ys = ys} (of_terminal b es fs a) rest) =
    ap (λ o. and_then o (ends_after ys)) (texts_of_one es fs (flat_map said_ends xs) a) ∙ ends_of_all xs ys rest

pub block_claimed : (b : BlockId) (s : State) (r q : BlockEffects) → AlikeRecorded r q → is_claimed q (said_block b s r)
    ≡ true
block_claimed b s r q a = both _ _ (ap is_all (claimed_of_all r.instructions q.instructions a.instructions))
    (ap is_all (ends_of_all r.terminal q.terminal a.terminal))
