-- What the terminal of a block carries: what was recorded of the block at its position, where no entry of another block
-- is of that position.
use Rattle.std.specs.Prelude.{◌≡◌, ℕ, Bool, true, false, ◌==◌, is_none, if◌then◌else◌, List, [], ◌∷◌, ◌++◌, map, Option}
use Rattle.std.specs.Prelude.{Some, None, slice_index_or, refl}
use Rattle.std.specs.List.{flat_map, AllByRecursion}
use Rattle.std.specs.Option.{option_map_or}
use Rattle.std.proofs.Common.{zero, suc, ap, sym, ◌∙◌, ◌⊎◌, inl, inr, append-nil, arith, eq-eqb}
use Rattle.std.proofs.lemmas.Bool.{eqb-true}
use Rattle.alias_base.specs.declared.ids.BlockId.{BlockId}
use Rattle.alias_hir.specs.Terminals.{terminal_effects}
use Rattle.alias_hir.specs.declared.effect.AliasingEffect.{AliasingEffect}
use Rattle.alias_hir.specs.declared.hir.BasicBlock.{BasicBlock}
use Rattle.alias_hir.specs.declared.terminal.Terminal.{Terminal}
use Rattle.alias_hir.specs.Positions.{Blocks, position_in}
use Rattle.alias_step.specs.block.Recorded.{terminal_recorded_as}
use Rattle.alias_step.specs.declared.block.recorded.BlockEffects.{BlockEffects}
use Rattle.alias_step.specs.declared.block.recorded.TerminalEffects.{TerminalEffects}
use Rattle.alias_effects.specs.Inference.{terminal_recorded}
use Rattle.alias_effects.specs.Recording.{block_with}
use Rattle.alias_text.specs.Lines.{effect_text, recorded}
use Rattle.alias_certificate_laws.specs.accepting.Saying.{said_ends}
use Rattle.alias_certified_laws.proofs.Aligning.{CanCarry, EndOf}
use Rattle.alias_certified_laws.proofs.Carrying.{none_recorded, is_of, ends_for}

unlike : (m n : ℕ) (t : Bool) → (m == n) ≡ t → (m ≡ n → ⊥) → (m == n) ≡ false
unlike m n true h f = absurd (f (eqb-true m n h))
unlike m n false h f = h

kept_instructions : (t : Bool) (es : List AliasingEffect) (b : BasicBlock)
    → (if t then block_with b es else b).instructions ≡ b.instructions
kept_instructions true es b = refl
kept_instructions false es b = refl

can_carry : (t : Terminal) (e : AliasingEffect) (es : List AliasingEffect) → ((e ∷ es) ≡ []) ⊎ CanCarry t → CanCarry t
can_carry t e es (inl h) = let no : ⊥ = cc in absurd no
can_carry t e es (inr c) = c

module _ (bs : Blocks) (n : ℕ) where
  -- no entry is of the block at the position
  abbrev pub NoneOf : List TerminalEffects → Type 0
  NoneOf es = AllByRecursion (λ (e : TerminalEffects). is_of bs n e ≡ false) es

  -- the entries of a block at another position aren't
  pub none_of_other : (m : ℕ) (k : BlockId) (es : List AliasingEffect) → position_in bs k ≡ Some m → (m ≡ n → ⊥)
      → NoneOf (terminal_recorded_as k es)
  none_of_other m k [] at f = tt
  none_of_other m k (e ∷ es) at f = (
    ap (λ (o : Option ℕ). option_map_or (λ i. i == n) o false) at
        ∙ unlike m n (m == n) refl f,
    tt,
  )

  ends_append : (es fs : List TerminalEffects) (b : BasicBlock) → ends_for bs n (es ++ fs) b
      ≡ ends_for bs n es (ends_for bs n fs b)
  ends_append [] fs b = refl
  ends_append (e ∷ es) fs b = ap (λ (z : BasicBlock). if is_of bs n e then block_with z e.effects else z)
      (ends_append es fs b)

  ends_none : (es : List TerminalEffects) (b : BasicBlock) → NoneOf es → ends_for bs n es b ≡ b
  ends_none [] b h = refl
  ends_none (e ∷ es) b h = ap (λ (t : Bool). if t then block_with (ends_for bs n es b) e.effects
      else ends_for bs n es b) h.0 ∙ ends_none es b h.1

  all_none : (rs : List (Option BlockEffects)) (b : BasicBlock)
      → ((m : ℕ) → NoneOf (terminal_recorded (slice_index_or rs m None)))
      → ends_for bs n (flat_map terminal_recorded rs) b ≡ b
  all_none [] b h = refl
  all_none (r ∷ rs) b h =
      ends_append (terminal_recorded r) (flat_map terminal_recorded rs) b
      ∙ ap (ends_for bs n (terminal_recorded r)) (all_none rs b (λ m. h (suc m)))
      ∙ ends_none (terminal_recorded r) b (h zero)

  -- of what all blocks record, what one block does
  pub ends_at : (rs : List (Option BlockEffects)) (i : ℕ) (b : BasicBlock)
      → ((m : ℕ) → (m ≡ i → ⊥) → NoneOf (terminal_recorded (slice_index_or rs m None)))
      → ends_for bs n (flat_map terminal_recorded rs) b ≡ ends_for bs n (terminal_recorded (slice_index_or rs i None)) b
  ends_at [] i b h = refl
  ends_at (r ∷ rs) zero b h =
      ends_append (terminal_recorded r) (flat_map terminal_recorded rs) b
      ∙ ap (ends_for bs n (terminal_recorded r)) (all_none rs b (λ m. h (suc m) (λ e. omega arith)))
  ends_at (r ∷ rs) (suc i) b h =
      ends_append (terminal_recorded r) (flat_map terminal_recorded rs) b
      ∙ ends_none (terminal_recorded r) (ends_for bs n (flat_map terminal_recorded rs) b) (h zero (λ e. omega arith))
      ∙ ends_at rs i b (λ m f. h (suc m) (λ e. f (omega arith)))

  -- the instructions of a block stay
  pub ends_instructions : (es : List TerminalEffects) (b : BasicBlock) → (ends_for bs n es b).instructions
      ≡ b.instructions
  ends_instructions [] b = refl
  ends_instructions (e ∷ es) b = kept_instructions (is_of bs n e) e.effects (ends_for bs n es b)
      ∙ ends_instructions es b

  module _ (k : BlockId) (b : BasicBlock) (at : position_in bs k ≡ Some n) where
    own_carried : (e : AliasingEffect) (es : List AliasingEffect) → ends_for bs n (terminal_recorded_as k (e ∷ es)) b
        ≡ block_with b (e ∷ es)
    own_carried e es =
        ap (λ (o : Option ℕ). if option_map_or (λ i. i == n) o false then block_with b (e ∷ es) else b) at
        ∙ ap (λ (t : Bool). if t then block_with b (e ∷ es) else b) (eq-eqb n n refl)

    own_ends : (es : List AliasingEffect) → is_none (terminal_effects b.terminal) ≡ true → (es ≡ [])
        ⊎ CanCarry b.terminal
        → map effect_text (recorded (terminal_effects (ends_for bs n (terminal_recorded_as k es) b).terminal))
        ≡ flat_map said_ends (terminal_recorded_as k es)
    own_ends [] u c = ap (λ (es : List AliasingEffect). map effect_text es)
        (none_recorded (terminal_effects b.terminal) u)
    own_ends (e ∷ es) u c =
        ap (λ (z : BasicBlock). map effect_text (recorded (terminal_effects z.terminal))) (own_carried e es)
        ∙ ap (λ (o : Option (List AliasingEffect)). map effect_text (recorded o)) (can_carry b.terminal e es c (e ∷ es))
        ∙ sym (append-nil (map effect_text (e ∷ es)))

    -- the lines of the terminal are those that are said of what its block recorded
    pub terminal_lines : (rs : List TerminalEffects) → is_none (terminal_effects b.terminal) ≡ true
        → EndOf k b.terminal rs
        → map effect_text (recorded (terminal_effects (ends_for bs n rs b).terminal)) ≡ flat_map said_ends rs
    terminal_lines rs u h =
        ap (λ (es : List TerminalEffects). map effect_text (recorded (terminal_effects (ends_for bs n es b).terminal)))
        h.is
        ∙ own_ends h.effects u h.carried
        ∙ ap (flat_map said_ends) (sym h.is)
