-- The text of what follows for a unit reads back.
use Rattle.std.proofs.Common.{◌≡◌, ℕ, zero, suc, ◌+◌, ◌≤◌, Bool, true, false, List, [], ◌∷◌, ◌++◌, Option, Some}
use Rattle.std.proofs.Common.{None, refl, ap, sym, ◌∙◌, subst, arith, append_assoc, append-nil}
use Rattle.std.specs.Prelude.{Ok, map, IsUtf8, slice_get}
use Rattle.std.specs.List.{AllByRecursion, enumerate_from}
use Rattle.alias_base.specs.Answer.{◌>>=◌}
use Rattle.alias_base.specs.declared.ids.FunctionId.{FunctionId}
use Rattle.alias_hir.specs.declared.effect.AliasingEffect.{AliasingEffect}
use Rattle.alias_hir.specs.declared.env.Unit.{Unit as HirUnit}
use Rattle.alias_hir.specs.declared.hir.HirFunction.{HirFunction}
use Rattle.alias_tables.specs.declared.temporaries.Temporary.{Temporary}
use Rattle.alias_effects.specs.declared.solved.BlockEntry.{BlockEntry}
use Rattle.alias_effects.specs.declared.solved.Solved.{Solved}
use Rattle.alias_text.specs.Lines.{effect_text, function_head}
use Rattle.alias_text.specs.Ranges.{ranges_text}
use Rattle.alias_text.specs.Reports.{reports_text}
use Rattle.alias_text.specs.Results.{function_of}
use Rattle.alias_text.specs.Summaries.{summary_of, summary_lines}
use Rattle.alias_certificate.specs.declared.certificate.CertBlock.{CertBlock}
use Rattle.alias_certificate.specs.declared.certificate.CertFunction.{CertFunction}
use Rattle.alias_cert_text.specs.declared.line.Line.TheVariants as line
use Rattle.alias_cert_text.specs.declared.order.Place.{Place}
use Rattle.alias_cert_text.specs.declared.order.Place.TheVariants as place
use Rattle.alias_cert_text.specs.Certificates.{certificate_made, certificate_of_text}
use Rattle.alias_cert_text.specs.Order.{rank}
use Rattle.alias_follow.specs.declared.function.follow.FunctionBeyond.{FunctionBeyond}
use Rattle.alias_follow.specs.declared.unit.Followed.{Followed}
use Rattle.alias_brief.specs.Briefs.{found_text, temporary_lines, followed_text, function_text, functions_from}
use Rattle.alias_brief.specs.Briefs.{brief_text}
use Rattle.alias_brief.specs.Fitting.{FittingFound, FittingTemporaries, FittingFunction, FittingIfKnown}
use Rattle.alias_brief.specs.Fitting.{FittingFunctions, IsFitting}
use Rattle.alias_brief_text_laws.specs.Orderly.{OrderlyBlocks, IsOrderly}
use Rattle.alias_brief_text_laws.specs.Telling.{told_blocks, told_temporaries, told_function, told_if_known, told_from}
use Rattle.alias_brief_text_laws.specs.Telling.{told}
use Rattle.alias_brief_text_laws.proofs.Blocks.{reaches_entries}
use Rattle.alias_certificate_laws.proofs.text.Leading.{Reaches, follows_by, reaches_line, reaches_none, reaches_both}
use Rattle.alias_certificate_laws.proofs.text.Leading.{reaches_as}
use Rattle.alias_certificate_laws.proofs.text.Leading.{reaches_wider}
use Rattle.alias_certificate_laws.proofs.text.Blocks.{in_blocks}
use Rattle.alias_certificate_laws.proofs.text.Spelling.{function_spelled}
use Rattle.alias_certificate_laws.proofs.text.Whole.{in_function, reaches_temporaries as each_temporary}
use Rattle.alias_certificate_laws.proofs.text.Whole.{reaches_summary}
use Rattle.alias_certificate_laws.proofs.text.Whole.{reaches_ranges, reaches_reports}

module _ (done : List CertFunction) (f : Option FunctionId) where
  reaches_found : (func : Option HirFunction) (b : FunctionBeyond) (entries : List BlockEntry)
      → FittingFound func b entries → OrderlyBlocks b → (last : Place) → 1 ≤ rank last → rank last ≤ 7
      → Reaches last (in_blocks done f []) (found_text func b entries)
      (in_blocks done f (told_blocks func b entries)) 1 7
  reaches_found None b entries h orderly last l m = reaches_none last (in_blocks done f []) 1 7 l m
  reaches_found (Some func) b entries h orderly last l m =
      reaches_entries done f func b.blocks orderly 0 entries h [] last l m

  reaches_temporaries : (bs : List CertBlock) (is_forward : Bool) (ts : List Temporary)
      → FittingTemporaries is_forward ts → (last : Place) → 1 ≤ rank last → rank last ≤ 9
      → Reaches last (in_function done f bs [] []) (temporary_lines is_forward ts)
      (in_function done f bs (told_temporaries is_forward ts) []) 1 9
  reaches_temporaries bs true ts h last l m = reaches_none last (in_function done f bs [] []) 1 9 l m
  reaches_temporaries bs false ts h last l m = each_temporary done f bs ts h last l m

abbrev OrderlyIfKnown : Option FunctionBeyond → Type 0
OrderlyIfKnown None = Unit {0}
OrderlyIfKnown (Some b) = OrderlyBlocks b

known_at : (beyond : List FunctionBeyond) → AllByRecursion OrderlyBlocks beyond → (n : ℕ)
    → OrderlyIfKnown (slice_get beyond n)
known_at [] h n = tt
known_at (b ∷ beyond) h zero = h.0
known_at (b ∷ beyond) h (suc n) = known_at beyond h.1 n

module _ (u : HirUnit) (summary : List AliasingEffect) where
  reaches_function : (s : Solved) (b : FunctionBeyond) → FittingFunction u s b → OrderlyBlocks b
      → (found : List CertFunction) (last : Place) → rank last ≤ 10
      → Reaches last found (followed_text u summary s b) (found ++ told_function u summary s b ∷ []) 0 10
  reaches_function s b h orderly found last m =
      let f = s.function in
      let func = function_of u f in
      let bs = told_blocks func b s.entries in
      let ts = told_temporaries b.is_forward s.temporaries in
      let head = function_head f in
      let blocks = found_text func b s.entries in
      let temporaries = temporary_lines b.is_forward s.temporaries in
      let es = summary_of u summary f in
      reaches_both last found (in_function found f bs ts []) (in_function found f bs ts (map effect_text es))
      ((head ++ blocks) ++ temporaries) (summary_lines es) 1 9 0 10
      (reaches_both last found (in_function found f bs [] []) (in_function found f bs ts []) (head ++ blocks) temporaries
      1 7 1 9
      (reaches_both last found (in_blocks found f []) (in_blocks found f bs) head blocks 1 1 1 7
      (reaches_line last found head (line.Function f) 1 1 (function_spelled f h.function)
      (follows_by last place.Function (omega arith) m refl) (omega arith) (omega arith))
      (λ p pl pm. reaches_found found f func b s.entries h.entries orderly p pl (omega (arith, pm))))
      (λ p pl pm. reaches_temporaries found f bs b.is_forward s.temporaries h.temporaries p pl (omega (arith, pm))))
      (λ p pl pm. reaches_wider p (in_function found f bs ts []) (in_function found f bs ts (map effect_text es))
      (summary_lines es) 1 10 0 10 (omega arith) (omega arith)
      (reaches_summary found f bs ts es p pl (omega (arith, pm))))

  reaches_if_known : (s : Solved) (o : Option FunctionBeyond) → FittingIfKnown u s o → OrderlyIfKnown o
      → (found : List CertFunction) (last : Place) → rank last ≤ 10
      → Reaches last found (function_text u summary s o) (found ++ told_if_known u summary s o) 0 10
  reaches_if_known s None h orderly found last m =
      reaches_as last found found (found ++ []) [] 0 10 (reaches_none last found 0 10 (omega arith) m)
      (sym (append-nil found))
  reaches_if_known s (Some b) h orderly found last m = reaches_function s b h orderly found last m

  reaches_functions : (beyond : List FunctionBeyond) → AllByRecursion OrderlyBlocks beyond → (n : ℕ)
      → (solved : List Solved) → FittingFunctions u beyond n solved → (found : List CertFunction) (last : Place)
      → rank last ≤ 10
      → Reaches last found (functions_from u summary beyond n solved) (found ++ told_from u summary beyond n solved) 0 10
  reaches_functions beyond orderly n [] h found last m =
      reaches_as last found found (found ++ []) [] 0 10 (reaches_none last found 0 10 (omega arith) m)
      (sym (append-nil found))
  reaches_functions beyond orderly n (s ∷ more) h found last m =
      let o = slice_get beyond n in
      let here = told_if_known u summary s o in
      let next = found ++ here in
      let rest = told_from u summary beyond (n + 1) more in
      reaches_as last found (next ++ rest) (found ++ told_from u summary beyond n (s ∷ more))
      (functions_from u summary beyond n (s ∷ more)) 0 10
      (reaches_both last found next (next ++ rest) (function_text u summary s o)
      (functions_from u summary beyond (n + 1) more) 0 10 0 10
      (reaches_if_known s o h.0 (known_at beyond orderly n) found last m)
      (λ p pl pm. reaches_functions beyond orderly (n + 1) more h.1 next p pm))
      (append_assoc found here rest)

reaches_whole : (x : Followed) → IsFitting x → IsOrderly x
    → Reaches place.Start [] (brief_text x) (told x).functions 0 13
reaches_whole x h orderly =
    let u = x.inferred.unit in
    let summary = x.inferred.summary in
    let solved = x.inferred.solved in
    let all = told_from u summary x.beyond 0 solved in
    let functions = functions_from u summary x.beyond 0 solved in
    let ranges = ranges_text u.env.identifiers in
    reaches_both place.Start [] all all (functions ++ ranges) (reports_text x.inferred.reports) 0 11 0 13
    (reaches_both place.Start [] all all functions ranges 0 10 0 11
    (reaches_functions u summary x.beyond orderly 0 solved h [] place.Start (omega arith))
    (λ p pl pm. reaches_ranges (enumerate_from 0 u.env.identifiers) all p (omega (arith, pm))))
    (λ p pl pm. reaches_reports x.inferred.reports all p pm)

pub read_back : (x : Followed) → IsFitting x → IsOrderly x → IsUtf8 (brief_text x)
    → certificate_of_text (brief_text x) ≡ Ok (told x)
read_back x h orderly utf8 =
    let text = brief_text x in
    let end : text ++ [] ≡ text = append-nil text in
    let reached = reaches_whole x h orderly in
    let goes = reached.leads 1 [] (subst IsUtf8 (sym end) utf8) in
    ap certificate_of_text (sym end) ∙ ap (λ r. r >>= certificate_made) goes.same
