-- The lines that are printed of the mutable ranges.
use Rattle.std.specs.Prelude.{ℕ, Bool, List, [], ◌++◌, codes, if◌then◌else◌, not, ◌&&◌, ◌==◌}
use Rattle.std.specs.List.{flat_map, enumerate_from}
use Rattle.alias_hir.specs.declared.env.Identifier.{Identifier}
use Rattle.alias_hir.specs.declared.env.MutableRange.{MutableRange}
use Rattle.alias_text.specs.Lines.{spaced}

-- the identifier's number, the start and the end
abbrev pub range_line : ℕ → MutableRange → List ℕ
range_line number range = codes "range" ++ spaced number ++ spaced range.start.0 ++ spaced range.end.0 ++ codes "\n"

-- whether the range is another than 0..0
abbrev pub has_range : MutableRange → Bool
has_range range = not ((range.start.0 == 0) && (range.end.0 == 0))

-- a range of 0..0 has no line
abbrev pub range_text : ℕ → MutableRange → List ℕ
range_text number range = if has_range range then range_line number range else []

abbrev pub numbered_text : ℕ × Identifier → List ℕ
numbered_text numbered = range_text numbered.0 numbered.1.mutable_range

-- the ranges of these identifiers, by ascending numbers
abbrev pub ranges_text : List Identifier → List ℕ
ranges_text identifiers = flat_map numbered_text (enumerate_from 0 identifiers)
