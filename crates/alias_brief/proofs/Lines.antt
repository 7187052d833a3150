-- The lines of a text.
use Rattle.std.proofs.Common.{◌≡◌, ℕ, zero, suc, ◌+◌, ◌<◌, ◌≢◌, ◌==◌, Bool, true, false, List, [], ◌∷◌, ◌++◌, length}
use Rattle.std.proofs.Common.{get_or, take, drop, Option, Some, None, option_map, is_some, refl, ap, sym, ◌∙◌, arith, nat_eq}
use Rattle.std.specs.Prelude.{if◌then◌else◌, ◌↔◌}
use Rattle.std.specs.List.{onto_first, flat_map}
use Rattle.std.specs.Cmp.Lexicographic.{pointwise, same_text}
use Rattle.std.proofs.lemmas.Bool.{ne_eqb, eq-eqb, true≢false}
use Rattle.alias_brief.specs.Differences.{IsOneLine, whole_lines, bare, at_line, difference_from, first_difference}
use Rattle.alias_brief.specs.declared.difference.Difference.{Difference}

-- ---- the first line

pub line_until : (k : ℕ) (text : List ℕ) → k < length text → ((i : ℕ) → i < k → get_or text i 0 ≢ 10) → get_or text k 0
    ≡ 10 → whole_lines text ≡ take (k + 1) text ∷ whole_lines (drop (k + 1) text)
line_until k [] l before here = absurd (omega arith)
line_until zero (x ∷ xs) l before here = rw (eq-eqb x 10 here) refl
line_until (suc k) (x ∷ xs) l before here =
    let e : suc k + 1 ≡ suc (k + 1) = omega arith in
    rw e
    (rw (ne_eqb x 10 (before 0 (omega arith)))
    (ap (onto_first x) (line_until k xs (omega arith) (λ i m. before (suc i) (omega arith)) here)))

pub line_alone : (text : List ℕ) → 0 < length text → IsOneLine text → whole_lines text ≡ text ∷ []
line_alone [] some one = absurd (omega arith)
line_alone (x ∷ []) some one = rw (ne_eqb x 10 (one 0 (omega arith))) refl
line_alone (x ∷ y ∷ more) some one =
    rw (ne_eqb x 10 (one 0 (omega arith)))
    (ap (onto_first x) (line_alone (y ∷ more) (omega arith) (λ i l. one (suc i) (omega arith))))

-- ---- a line and what stands before its newline

pub line_before : (line more : List ℕ) → IsOneLine line → whole_lines (line ++ 10 ∷ more)
    ≡ (line ++ 10 ∷ []) ∷ whole_lines more
line_before [] more one = refl
line_before (x ∷ xs) more one =
    rw (ne_eqb x 10 (one 0 (omega arith)))
    (ap (onto_first x) (line_before xs more (λ i l. one (suc i) (omega arith))))

pub front_of : (line more : List ℕ) → take (length line + 1) (line ++ 10 ∷ more) ≡ line ++ 10 ∷ []
front_of [] more = refl
front_of (x ∷ xs) more =
    let e : suc (length xs) + 1 ≡ suc (length xs + 1) = omega arith in
    rw e (ap (λ rest. x ∷ rest) (front_of xs more))

pub bare_before : (line : List ℕ) → IsOneLine line → line ≡ bare (line ++ 10 ∷ [])
bare_before [] one = refl
bare_before (x ∷ xs) one =
    rw (ne_eqb x 10 (one 0 (omega arith)))
    (ap (λ more. x ∷ more) (bare_before xs (λ i l. one (suc i) (omega arith))))

pub bare_alone : (line : List ℕ) → IsOneLine line → line ≡ bare line
bare_alone [] one = refl
bare_alone (x ∷ xs) one =
    rw (ne_eqb x 10 (one 0 (omega arith)))
    (ap (λ more. x ∷ more) (bare_alone xs (λ i l. one (suc i) (omega arith))))

-- ---- where nothing is expected

none_first : (n x : ℕ) (lines : List (List ℕ)) → difference_from n [] (onto_first x lines) ≡ Some (n, [])
none_first n x [] = refl
none_first n x (line ∷ lines) = refl

by_newline : (n x : ℕ) (lines : List (List ℕ)) (b : Bool)
    → difference_from n [] (if b then (x ∷ []) ∷ lines else onto_first x lines) ≡ Some (n, [])
by_newline n x lines true = refl
by_newline n x lines false = none_first n x lines

pub none_expected : (n : ℕ) (text : List ℕ) → 0 < length text → difference_from n [] (whole_lines text) ≡ Some (n, [])
none_expected n [] some = absurd (omega arith)
none_expected n (x ∷ xs) some = by_newline n x (whole_lines xs) (x == 10)

-- ---- what the same lines are

-- the lines one behind the other
abbrev pub joined : List (List ℕ) → List ℕ
joined lines = flat_map (λ line. line) lines

onto_joined : (x : ℕ) (lines : List (List ℕ)) → joined (onto_first x lines) ≡ x ∷ joined lines
onto_joined x [] = refl
onto_joined x (line ∷ lines) = refl

first_joined : (x : ℕ) (lines : List (List ℕ)) (b : Bool)
    → joined (if b then (x ∷ []) ∷ lines else onto_first x lines) ≡ x ∷ joined lines
first_joined x lines true = refl
first_joined x lines false = onto_joined x lines

-- a text is its lines, one behind the other
pub text_joined : (text : List ℕ) → joined (whole_lines text) ≡ text
text_joined [] = refl
text_joined (x ∷ xs) = first_joined x (whole_lines xs) (x == 10) ∙ ap (λ more. x ∷ more) (text_joined xs)

pub no_difference : (n : ℕ) (lines : List (List ℕ)) → difference_from n lines lines ≡ None
no_difference n [] = refl
no_difference n (line ∷ lines) = rw (alike line) (no_difference (n + 1) lines)
  where
    alike : (xs : List ℕ) → pointwise nat_eq xs xs ≡ true
    alike [] = refl
    alike (x ∷ xs) = rw (eq-eqb x x refl) (alike xs)

-- of texts that are the same nothing differs
pub none_where_same : (a b : List ℕ) → pointwise nat_eq a b ≡ true → first_difference a b ≡ None
none_where_same a b same = sym (ap (first_difference a) (same_text a b (sym same))) ∙ no_difference 1 (whole_lines a)

same_first : (n : ℕ) (line other : List ℕ) (more : Option (ℕ × List ℕ)) (b : Bool) → b ≡ pointwise nat_eq line other
    → (if b then more else Some (n, bare line)) ≡ None → (line ≡ other) × (more ≡ None)
same_first n line other more true e none = (same_text line other e, none)
same_first n line other more false e none = absurd (true≢false (ap is_some none))

pub lines_same : (n : ℕ) (lines others : List (List ℕ)) → difference_from n lines others ≡ None → lines ≡ others
lines_same n [] [] none = refl
lines_same n [] (other ∷ others) none = absurd (true≢false (ap is_some none))
lines_same n (line ∷ lines) [] none = absurd (true≢false (ap is_some none))
lines_same n (line ∷ lines) (other ∷ others) none =
    let both = same_first n line other (difference_from (n + 1) lines others) (pointwise nat_eq line other) refl none in
    λ i. both.0 i ∷ lines_same (n + 1) lines others both.1 i

pub texts_same : (n : ℕ) (a b : List ℕ) → difference_from n (whole_lines a) (whole_lines b) ≡ None → a ≡ b
texts_same n a b none = sym (text_joined a) ∙ ap joined (lines_same n (whole_lines a) (whole_lines b) none) ∙ text_joined b

same_back : (a b : List ℕ) (r : Option Difference) → option_map at_line r ≡ first_difference a b → a ≡ b → r ≡ None
same_back a b None e same = refl
same_back a b (Some d) e same =
    let none : Some (at_line d) ≡ None = e ∙ sym (ap (first_difference a) same) ∙ no_difference 1 (whole_lines a) in
    absurd (true≢false (ap is_some none))

pub same_where_none : (a b : List ℕ) (r : Option Difference) → option_map at_line r ≡ first_difference a b
    → (r ≡ None) ↔ (a ≡ b)
same_where_none a b r e = (λ none. texts_same 1 a b (sym e ∙ ap (option_map at_line) none), same_back a b r e)
