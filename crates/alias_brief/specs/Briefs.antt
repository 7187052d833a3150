-- The text of what follows for a unit: that of an inference, with what entry states have beyond what arrived, and the
-- temporaries, of functions that aren't forward.
use Rattle.std.specs.Prelude.{ℕ, ◌+◌, Bool, true, false, List, [], ◌∷◌, ◌++◌, codes, Option, None, Some, slice_get}
use Rattle.std.specs.List.{flat_map}
use Rattle.alias_base.specs.Find.{value_at}
use Rattle.alias_hir.specs.declared.effect.AliasingEffect.{AliasingEffect}
use Rattle.alias_hir.specs.declared.env.Unit.{Unit as HirUnit}
use Rattle.alias_hir.specs.declared.hir.HirFunction.{HirFunction}
use Rattle.alias_tables.specs.declared.temporaries.Temporary.{Temporary}
use Rattle.alias_effects.specs.declared.solved.BlockEntry.{BlockEntry}
use Rattle.alias_effects.specs.declared.solved.Solved.{Solved}
use Rattle.alias_text.specs.Certificates.{value_line, spaced_site, temporary_line}
use Rattle.alias_text.specs.Lines.{spaced, function_head, block_head, block_lines}
use Rattle.alias_text.specs.Ranges.{ranges_text}
use Rattle.alias_text.specs.Reports.{reports_text}
use Rattle.alias_text.specs.Results.{function_of}
use Rattle.alias_text.specs.Summaries.{summary_of, summary_lines}
use Rattle.alias_certificate.specs.declared.certificate.CertValue.{CertValue}
use Rattle.alias_certificate.specs.declared.certificate.CertVariable.{CertVariable}
use Rattle.alias_follow.specs.declared.unit.Followed.{Followed}
use Rattle.alias_certificate.specs.declared.beyond.Beyond.{Beyond}
use Rattle.alias_follow.specs.declared.function.follow.FunctionBeyond.{FunctionBeyond}

-- ---- beyond what arrived

abbrev pub beyond_value : CertValue → List ℕ
beyond_value v = value_line (v.site, v.value)

-- the identifier, and its sites
abbrev pub beyond_variable : CertVariable → List ℕ
beyond_variable v = codes "variable" ++ spaced v.identifier.0 ++ flat_map spaced_site v.sites ++ codes "\n"

-- the values of sites, and then the sites of identifiers
abbrev pub beyond_lines : Beyond → List ℕ
beyond_lines b = flat_map beyond_value b.values ++ flat_map beyond_variable b.variables

abbrev pub beyond_or : Option Beyond → List ℕ
beyond_or None = []
beyond_or (Some b) = beyond_lines b

-- ---- blocks

-- the block's line, what its entry state has beyond what arrived, and its effects
abbrev pub entry_text : HirFunction → Option Beyond → BlockEntry → List ℕ
entry_text func b e = block_head e.block ++ beyond_or b ++ block_lines func.instructions
    (value_at func.body.blocks e.block)

-- the blocks one after the other. What is beyond of the first stands at this position
abbrev pub blocks_from : HirFunction → List Beyond → ℕ → List BlockEntry → List ℕ
blocks_from func beyond n [] = []
blocks_from func beyond n (e ∷ es) = entry_text func (slice_get beyond n) e ++ blocks_from func beyond (n + 1) es

abbrev pub blocks_text : HirFunction → FunctionBeyond → List BlockEntry → List ℕ
blocks_text func b entries = blocks_from func b.blocks 0 entries

-- a function that isn't there has no blocks
abbrev pub found_text : Option HirFunction → FunctionBeyond → List BlockEntry → List ℕ
found_text None b entries = []
found_text (Some func) b entries = blocks_text func b entries

-- ---- functions

-- the temporaries of a function that isn't forward
abbrev pub temporary_lines : Bool → List Temporary → List ℕ
temporary_lines true ts = []
temporary_lines false ts = flat_map temporary_line ts

-- the line of the function that was followed, its reached blocks, its temporaries, and then its summary. `summary` is that
-- of the root
abbrev pub followed_text : HirUnit → List AliasingEffect → Solved → FunctionBeyond → List ℕ
followed_text u summary s b = function_head s.function ++ found_text (function_of u s.function) b s.entries
    ++ temporary_lines b.is_forward s.temporaries ++ summary_lines (summary_of u summary s.function)

-- a function of which nothing is known isn't printed
abbrev pub function_text : HirUnit → List AliasingEffect → Solved → Option FunctionBeyond → List ℕ
function_text u summary s None = []
function_text u summary s (Some b) = followed_text u summary s b

-- the functions in their order. What is beyond in the first stands at this position
abbrev pub functions_from : HirUnit → List AliasingEffect → List FunctionBeyond → ℕ → List Solved → List ℕ
functions_from u summary beyond n [] = []
functions_from u summary beyond n (s ∷ solved) = function_text u summary s (slice_get beyond n)
    ++ functions_from u summary beyond (n + 1) solved

-- the functions, the mutable ranges and the reports
abbrev pub brief_text : Followed → List ℕ
brief_text f = functions_from f.inferred.unit f.inferred.summary f.beyond 0 f.inferred.solved
    ++ ranges_text f.inferred.unit.env.identifiers ++ reports_text f.inferred.reports
