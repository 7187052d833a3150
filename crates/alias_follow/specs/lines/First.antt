-- Which line is a block's: the first that is of it.
use Rattle.std.specs.Prelude.{ℕ, if◌then◌else◌, List, Option, Some, None, map, position, is_some, slice_get}
use Rattle.std.specs.Prelude.{slice_index_or, slice_set}
use Rattle.alias_base.specs.Find.{same_block}
use Rattle.alias_base.specs.declared.ids.BlockId.{BlockId}
use Rattle.alias_hir.specs.Positions.{Blocks}
use Rattle.alias_hir.specs.declared.hir.BasicBlock.{BasicBlock}
use Rattle.alias_certificate.specs.declared.certificate.CertBlock.{CertBlock}

-- the number of the first line that is of the block
abbrev pub first_line : List CertBlock → BlockId → Option ℕ
first_line lines b = position (λ (c : CertBlock). same_block c.block b) lines

-- of each block of a function, in stored order
abbrev pub first_lines : List CertBlock → Blocks → List (Option ℕ)
first_lines lines blocks = map (λ (e : BlockId × BasicBlock). first_line lines e.0) blocks

-- the line of a number, if there is one
abbrev pub line_at : List CertBlock → Option ℕ → Option CertBlock
line_at lines None = None
line_at lines (Some n) = slice_get lines n

-- the number is noted for the block at a position, unless there is one
abbrev pub noted : Option ℕ → ℕ → List (Option ℕ) → List (Option ℕ)
noted None n numbers = numbers
noted (Some p) n numbers = if is_some (slice_index_or numbers p None) then numbers else slice_set numbers p (Some n)
