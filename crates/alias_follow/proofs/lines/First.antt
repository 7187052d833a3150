-- The first line of each block, one line after the other.
use Rattle.std.specs.Prelude.{cond, position, slice_index_or, slice_set, replicate}
use Rattle.std.specs.List.{AllByRecursion, IsDistinct}
use Rattle.std.specs.Map.{keys_of}
use Rattle.std.proofs.Common.{◌≡◌, ℕ, ◌+◌, ◌<◌, suc, arith, take, get_or, Bool, true, false, if◌then◌else◌, List, [], ◌∷◌, ◌++◌, length, Option}
use Rattle.std.proofs.Common.{Some, None, option_map, is_some, refl, ap, sym, ◌∙◌, subst}
use Rattle.std.proofs.lemmas.List.{length-take-le, take_more}
use Rattle.alias_base.specs.Find.{same_block}
use Rattle.alias_base.specs.declared.ids.BlockId.{BlockId}
use Rattle.alias_hir.specs.PositionLaws.{position_step, same_is}
use Rattle.alias_hir.specs.Positions.{Blocks}
use Rattle.alias_hir.specs.declared.hir.BasicBlock.{BasicBlock}
use Rattle.alias_certificate.specs.declared.certificate.CertBlock.{CertBlock}
use Rattle.alias_follow.specs.lines.First.{first_line, first_lines, noted}

abbrev or_number : Option ℕ → Option ℕ → Option ℕ
or_number None o = o
or_number (Some n) o = Some n

or_none : (o : Option ℕ) → or_number o None ≡ o
or_none None = refl
or_none (Some n) = refl

pushed : (t : Bool) (o : Option ℕ) (u : Bool) (n : ℕ)
    → cond t (Some 0) (option_map suc (or_number o (cond u (Some n) None)))
    ≡ or_number (cond t (Some 0) (option_map suc o)) (cond u (Some (suc n)) None)
pushed true o u n = refl
pushed false (Some m) u n = refl
pushed false None true n = refl
pushed false None false n = refl

appended_first : (t : Bool) → cond t (Some 0) None ≡ or_number None (cond t (Some 0) None)
appended_first t = refl

appended : (p : CertBlock → Bool) (ls : List CertBlock) (c : CertBlock)
    → position p (ls ++ c ∷ []) ≡ or_number (position p ls) (cond (p c) (Some (length ls)) None)
appended p [] c = position_step p c [] ∙ appended_first (p c)
appended p (x ∷ xs) c =
    position_step p x (xs ++ c ∷ []) ∙ ap (λ o. cond (p x) (Some 0) (option_map suc o)) (appended p xs c)
    ∙ pushed (p x) (position p xs) (p c) (length xs)
    ∙ ap (λ o. or_number o (cond (p c) (Some (suc (length xs))) None)) (sym (position_step p x xs))

module _ (lines : List CertBlock) (c : CertBlock) where
  one_more : (b : BlockId) → first_line (lines ++ c ∷ []) b
      ≡ or_number (first_line lines b) (cond (same_block c.block b) (Some (length lines)) None)
  one_more b = appended (λ (d : CertBlock). same_block d.block b) lines c

  other_block : (b : BlockId) → same_block c.block b ≡ false → first_line (lines ++ c ∷ []) b ≡ first_line lines b
  other_block b h = one_more b
      ∙ ap (λ t. or_number (first_line lines b) (cond t (Some (length lines)) None)) h ∙ or_none (first_line lines b)

  other_blocks : (es : Blocks) → AllByRecursion (λ y. same_block c.block y ≡ false) (keys_of es)
      → first_lines (lines ++ c ∷ []) es ≡ first_lines lines es
  other_blocks [] a = refl
  other_blocks (e ∷ es) a = λ i. other_block e.0 a.0 i ∷ other_blocks es a.1 i

  noted_here : (o : Option ℕ) (n : ℕ) (rest : List (Option ℕ)) → noted (Some 0) n (o ∷ rest)
      ≡ or_number o (Some n) ∷ rest
  noted_here None n rest = refl
  noted_here (Some m) n rest = refl

  noted_if : (t : Bool) (p n : ℕ) (o : Option ℕ) (ns : List (Option ℕ))
      → (if t then o ∷ ns else slice_set (o ∷ ns) (suc p) (Some n)) ≡ o ∷ (if t then ns else slice_set ns p (Some n))
  noted_if true p n o ns = refl
  noted_if false p n o ns = refl

  noted_at : (e : BlockId × BasicBlock) (es : Blocks) (t : Bool) (p : Option ℕ) → same_block c.block e.0 ≡ t
      → AllByRecursion (λ y. same_block e.0 y ≡ false) (keys_of es)
      → noted p (length lines) (first_lines lines es) ≡ first_lines (lines ++ c ∷ []) es
      → noted (cond t (Some 0) (option_map suc p)) (length lines) (first_lines lines (e ∷ es))
      ≡ first_lines (lines ++ c ∷ []) (e ∷ es)
  noted_at e es true p is apart h =
      let same : c.block ≡ e.0 = same_is c.block e.0 is in
      noted_here (first_line lines e.0) (length lines) (first_lines lines es)
      ∙ (λ i. sym (one_more e.0
      ∙ ap (λ t. or_number (first_line lines e.0) (cond t (Some (length lines)) None)) is) i
      ∷ sym (other_blocks es (subst (λ b. AllByRecursion (λ y. same_block b y ≡ false) (keys_of es)) (sym same) apart)) i)
  noted_at e es false None is apart h = λ i. sym (other_block e.0 is) i ∷ h i
  noted_at e es false (Some p) is apart h =
      noted_if (is_some (slice_index_or (first_lines lines es) p None)) p (length lines) (first_line lines e.0)
      (first_lines lines es)
      ∙ (λ i. sym (other_block e.0 is) i ∷ h i)

  -- with names apart, the number of one more line is noted for its block
  pub noted_is : (es : Blocks) → IsDistinct same_block (keys_of es)
      → noted (position (same_block c.block) (keys_of es)) (length lines) (first_lines lines es)
      ≡ first_lines (lines ++ c ∷ []) es
  unfolding IsDistinct
  noted_is [] d = refl
  noted_is (e ∷ es) d =
      ap (λ o. noted o (length lines) (first_lines lines (e ∷ es))) (position_step (same_block c.block) e.0 (keys_of es))
      ∙ noted_at e es (same_block c.block e.0) (position (same_block c.block) (keys_of es)) refl d.0 (noted_is es d.1)

-- before the first line
pub nothing_noted : (es : Blocks) → first_lines [] es ≡ replicate (length es) None
nothing_noted [] = refl
nothing_noted (e ∷ es) = ap (λ ns. None ∷ ns) (nothing_noted es)

-- with one more line
pub noted_next : (lines : List CertBlock) (k : ℕ) (c : CertBlock) (es : Blocks) (numbers next : List (Option ℕ))
    → k < length lines → c ≡ get_or lines k c → IsDistinct same_block (keys_of es)
    → numbers ≡ first_lines (take k lines) es
    → next ≡ noted (position (same_block c.block) (keys_of es)) k numbers
    → next ≡ first_lines (take (k + 1) lines) es
noted_next lines k c es numbers next lt at apart so_far is =
    let long : length (take k lines) ≡ k = length-take-le k lines (omega arith) in
    is
    ∙ (λ i. noted (position (same_block c.block) (keys_of es)) (sym long i) (so_far i))
    ∙ noted_is (take k lines) c es apart
    ∙ ap (λ ls. first_lines ls es) (ap (λ d. take k lines ++ d ∷ []) at ∙ sym (take_more lines k c lt))
