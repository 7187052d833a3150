-- Where nothing is beyond what arrives, what follows is printed as an inference is.
use Rattle.std.proofs.Common.{◌≡◌, ℕ, ◌+◌, List, [], ◌∷◌, ◌++◌, length, Option, Some, None, zero, suc}
use Rattle.std.proofs.Common.{refl, ap, sym, ◌∙◌, arith, append-nil}
use Rattle.std.specs.Prelude.{slice_get}
use Rattle.std.specs.List.{AllByRecursion}
use Rattle.alias_base.specs.Find.{value_at}
use Rattle.alias_hir.specs.declared.effect.AliasingEffect.{AliasingEffect}
use Rattle.alias_hir.specs.declared.env.Unit.{Unit as HirUnit}
use Rattle.alias_hir.specs.declared.hir.HirFunction.{HirFunction}
use Rattle.alias_effects.specs.declared.solved.BlockEntry.{BlockEntry}
use Rattle.alias_effects.specs.declared.solved.Solved.{Solved}
use Rattle.alias_text.specs.Lines.{function_head, block_head, block_lines}
use Rattle.alias_text.specs.Ranges.{ranges_text}
use Rattle.alias_text.specs.Reports.{reports_text}
use Rattle.alias_text.specs.Results.{function_of, entry_text as entry_printed, blocks_text as blocks_printed}
use Rattle.alias_text.specs.Results.{found_text as found_printed, function_text as function_printed, functions_text}
use Rattle.alias_text.specs.Summaries.{summary_of, summary_lines}
use Rattle.alias_text.specs.declared.detail.Detail.TheVariants.{Infer}
use Rattle.alias_certificate.specs.declared.beyond.Beyond.{Beyond}
use Rattle.alias_certificate.specs.states.Beyond.{nothing_beyond}
use Rattle.alias_follow.specs.declared.function.follow.FunctionBeyond.{FunctionBeyond}
use Rattle.alias_follow.specs.declared.unit.Followed.{Followed}
use Rattle.alias_brief.specs.Briefs.{beyond_lines, beyond_or, blocks_from, found_text, temporary_lines, followed_text}
use Rattle.alias_brief.specs.Briefs.{function_text, functions_from, brief_text}
use Rattle.alias_forward_laws.specs.Forward.{inferred_text}
use Rattle.alias_forward_laws.proofs.Stepping.{IsBare}

-- ---- blocks

-- no lines are said of what is beyond
none_beyond : (beyond : List Beyond) → AllByRecursion (λ m. m ≡ nothing_beyond) beyond → (n : ℕ)
    → beyond_or (slice_get beyond n) ≡ []
none_beyond [] a n = refl
none_beyond (m ∷ beyond) a zero = ap beyond_lines a.0
none_beyond (m ∷ beyond) a (suc n) = none_beyond beyond a.1 n

module _ (func : HirFunction) (beyond : List Beyond) (bare : AllByRecursion (λ m. m ≡ nothing_beyond) beyond) where
  blocks_same : (n : ℕ) (es : List BlockEntry) → blocks_from func beyond n es ≡ blocks_printed Infer func es
  blocks_same n [] = refl
  blocks_same n (e ∷ es) =
      ap (λ z. (block_head e.block ++ z ++ block_lines func.instructions (value_at func.body.blocks e.block))
      ++ blocks_from func beyond (n + 1) es) (none_beyond beyond bare n)
      ∙ ap (λ z. entry_printed Infer func e ++ z) (blocks_same (n + 1) es)

found_same : (o : Option HirFunction) (b : FunctionBeyond) → IsBare b → (es : List BlockEntry)
    → found_text o b es ≡ found_printed Infer o es
found_same None b bare es = refl
found_same (Some func) b bare es = blocks_same func b.blocks bare.nothing 0 es

-- ---- functions

module _ (u : HirUnit) (summary : List AliasingEffect) where
  function_same : (s : Solved) (b : FunctionBeyond) → IsBare b → followed_text u summary s b
      ≡ function_printed Infer u summary s
  function_same s b bare =
      let lines = summary_lines (summary_of u summary s.function) in
      let found = found_printed Infer (function_of u s.function) s.entries in
      ap (λ z. function_head s.function ++ z ++ temporary_lines b.is_forward s.temporaries ++ lines)
      (found_same (function_of u s.function) b bare s.entries)
      ∙ ap (λ t. function_head s.function ++ found ++ temporary_lines t s.temporaries ++ lines) bare.forward
      ∙ ap (λ z. z ++ found ++ [] ++ lines) (sym (append-nil (function_head s.function)))

  behind : (before rest : List FunctionBeyond) (b : FunctionBeyond) → slice_get (before ++ b ∷ rest) (length before)
      ≡ Some b
  behind [] rest b = refl
  behind (x ∷ before) rest b = behind before rest b

  longer : (before : List FunctionBeyond) (b : FunctionBeyond) → length (before ++ b ∷ []) ≡ length before + 1
  longer [] b = refl
  longer (x ∷ before) b = let r : length (before ++ b ∷ []) ≡ length before + 1 = longer before b in omega arith

  moved : (before rest : List FunctionBeyond) (b : FunctionBeyond) → (before ++ b ∷ []) ++ rest ≡ before ++ b ∷ rest
  moved [] rest b = refl
  moved (x ∷ before) rest b = ap (λ z. x ∷ z) (moved before rest b)

  functions_same : (before rest all : List FunctionBeyond) (n : ℕ) (solved : List Solved) → before ++ rest ≡ all
      → length before ≡ n → length rest ≡ length solved → AllByRecursion IsBare rest
      → functions_from u summary all n solved ≡ functions_text Infer u summary solved
  functions_same before rest all n [] whole at long bare = refl
  functions_same before [] all n (s ∷ solved) whole at long bare = absurd (omega arith)
  functions_same before (b ∷ rest) all n (s ∷ solved) whole at long bare =
      let here : slice_get all n ≡ Some b = ap (λ z. slice_get z n) (sym whole)
      ∙ ap (slice_get (before ++ b ∷ rest)) (sym at) ∙ behind before rest b in
      ap (λ o. function_text u summary s o ++ functions_from u summary all (n + 1) solved) here
      ∙ ap (λ z. z ++ functions_from u summary all (n + 1) solved) (function_same s b bare.0)
      ∙ ap (λ z. function_printed Infer u summary s ++ z)
      (functions_same (before ++ b ∷ []) rest all (n + 1) solved (moved before rest b ∙ whole)
      (longer before b ∙ ap (λ k. k + 1) at) (omega arith) bare.1)

-- ---- the whole text

pub brief_printed : (x : Followed) → length x.beyond ≡ length x.inferred.solved → AllByRecursion IsBare x.beyond
    → brief_text x
    ≡ inferred_text x.inferred
brief_printed x long bare =
    ap (λ z. z ++ ranges_text x.inferred.unit.env.identifiers ++ reports_text x.inferred.reports)
    (functions_same x.inferred.unit x.inferred.summary [] x.beyond x.beyond 0 x.inferred.solved refl refl long bare)
