-- Which errors are out of memory, and errors of tables as errors of the inference.
use Rattle.std.specs.Prelude.{Bool, true, false}
use Rattle.alias_hir.specs.declared.error.HirError.{HirError}
use Rattle.alias_hir.specs.declared.error.HirError.TheVariants as hir
use Rattle.alias_hir.specs.declared.error.InferError.{InferError}
use Rattle.alias_hir.specs.declared.error.InferError.TheVariants as infer

abbrev pub is_memory : InferError → Bool
is_memory (infer.Memory e) = true
is_memory e = false

-- the same of a table that refuses an entry
abbrev pub is_hir_memory : HirError → Bool
is_hir_memory (hir.Memory e) = true
is_hir_memory e = false

-- what a pass answers where a table refused it an entry
abbrev pub infer_error : HirError → InferError
infer_error (hir.TooMany which) = infer.TooMany which
infer_error (hir.Memory e) = infer.Memory e
