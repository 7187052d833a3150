-- The first line in which a text differs from the one that is expected.
use Rattle.std.specs.Prelude.{ℕ, ◌+◌, ◌<◌, ◌≢◌, ◌==◌, nat_eq, List, [], ◌∷◌, length, get_or, Option, None, Some, if◌then◌else◌}
use Rattle.std.specs.List.{onto_first}
use Rattle.std.specs.Cmp.Lexicographic.{pointwise}
use Rattle.alias_brief.specs.declared.difference.Difference.{Difference}

-- no byte of the text is a newline
abbrev pub IsOneLine : List ℕ → Type 0
IsOneLine text = (i : ℕ) → i < length text → get_or text i 0 ≢ 10

-- the lines of a text, each with its newline, which the last one may lack
abbrev pub whole_lines : List ℕ → List (List ℕ)
whole_lines [] = []
whole_lines (x ∷ xs) = if x == 10 then (x ∷ []) ∷ whole_lines xs else onto_first x (whole_lines xs)

-- a line without its newline
abbrev pub bare : List ℕ → List ℕ
bare [] = []
bare (x ∷ xs) = if x == 10 then [] else x ∷ bare xs

-- the number of the first line that differs, and what is expected there, which is nothing behind the last one. The first
-- of these lines has this number
abbrev pub difference_from : ℕ → List (List ℕ) → List (List ℕ) → Option (ℕ × List ℕ)
difference_from n [] [] = None
difference_from n [] (other ∷ lines) = Some (n, [])
difference_from n (line ∷ expected) [] = Some (n, bare line)
difference_from n (line ∷ expected) (other ∷ lines) = if pointwise nat_eq line other
    then difference_from (n + 1) expected lines else Some (n, bare line)

abbrev pub first_difference : List ℕ → List ℕ → Option (ℕ × List ℕ)
first_difference expected text = difference_from 1 (whole_lines expected) (whole_lines text)

-- what is handed out of a line that differs
abbrev pub at_line : Difference → ℕ × List ℕ
at_line d = (d.number, d.line.now)
