-- The text of an inference reads back.
use Rattle.std.proofs.Common.{◌≡◌, ℕ, ◌≤◌, Bool, true, false, List, [], ◌∷◌, ◌++◌, length, Option, Some, None, refl, ap}
use Rattle.std.proofs.Common.{sym, ◌∙◌, subst, arith, append_assoc, append-nil}
use Rattle.std.specs.Prelude.{Ok, map, codes, decimal, IsUtf8, if◌then◌else◌}
use Rattle.std.specs.List.{AllByRecursion, flat_map, enumerate_from}
use Rattle.alias_base.specs.Answer.{◌>>=◌}
use Rattle.alias_base.specs.declared.ids.FunctionId.{FunctionId}
use Rattle.alias_hir.specs.declared.effect.AliasingEffect.{AliasingEffect}
use Rattle.alias_hir.specs.declared.env.Identifier.{Identifier}
use Rattle.alias_hir.specs.declared.env.MutableRange.{MutableRange}
use Rattle.alias_hir.specs.declared.env.Unit.{Unit as HirUnit}
use Rattle.alias_hir.specs.declared.hir.HirFunction.{HirFunction}
use Rattle.alias_hir.specs.declared.report.Report.{Report}
use Rattle.alias_tables.specs.declared.temporaries.Temporary.{Temporary}
use Rattle.alias_effects.specs.declared.solved.BlockEntry.{BlockEntry}
use Rattle.alias_effects.specs.declared.solved.Solved.{Solved}
use Rattle.alias_text.specs.declared.detail.Detail.TheVariants.{Certify}
use Rattle.alias_text.specs.Lines.{effect_text, function_head}
use Rattle.alias_text.specs.Certificates.{visits_line, first_line, temporary_line, table_lines}
use Rattle.alias_text.specs.Ranges.{range_line, has_range, numbered_text, ranges_text}
use Rattle.alias_text.specs.Reports.{report_line, report_lines, reports_text}
use Rattle.alias_text.specs.Results.{function_of, found_text, function_text, functions_text, result_text}
use Rattle.alias_text.specs.Summaries.{summary_of, summary_line, summary_lines}
use Rattle.alias_certificate.specs.declared.certificate.CertBlock.{CertBlock}
use Rattle.alias_certificate.specs.declared.certificate.CertFunction.{CertFunction}
use Rattle.alias_certificate.specs.declared.certificate.CertTemporary.{CertTemporary}
use Rattle.alias_cert_text.specs.declared.line.Line.TheVariants as line
use Rattle.alias_cert_text.specs.declared.order.Place.{Place}
use Rattle.alias_cert_text.specs.declared.order.Place.TheVariants as place
use Rattle.alias_cert_text.specs.Certificates.{function_with, with_line, certificate_made, certificate_of_text}
use Rattle.alias_cert_text.specs.Order.{rank}
use Rattle.alias_cert_text.proofs.AtLast.{at_last_push}
use Rattle.alias_certificate_laws.specs.text.Certifying.{cert_blocks, cert_temporary, cert_function, certificate_of}
use Rattle.alias_text.specs.Fitting.{FittingEntries, SmallTemporary, FittingSolved, AreFitting}
use Rattle.alias_certificate_laws.proofs.text.Blocks.{in_blocks, reaches_entries}
use Rattle.alias_certificate_laws.proofs.text.Leading.{Reaches, follows_by, reaches_line, reaches_none, reaches_both}
use Rattle.alias_certificate_laws.proofs.text.Leading.{reaches_as, reaches_wider, add_all, reaches_all, added}
use Rattle.alias_certificate_laws.proofs.text.Leading.{none_added, unkept}
use Rattle.alias_certificate_laws.proofs.text.Spelling.{function_spelled, visits_spelled, first_spelled}
use Rattle.alias_certificate_laws.proofs.text.Spelling.{temporary_spelled, summary_spelled, range_spelled}
use Rattle.alias_certificate_laws.proofs.text.Spelling.{reports_spelled, report_spelled}

every : {A : Type 0} (xs : List A) → AllByRecursion (λ x. Unit {0}) xs
every [] = tt
every (x ∷ xs) = (tt, every xs)

-- ---- a function

-- a function with these parts, behind those that are done
abbrev pub in_function : List CertFunction → Option FunctionId → List CertBlock → List CertTemporary → List (List ℕ)
    → List CertFunction
in_function done f bs ts ss = done ++ (record { function = f; blocks = bs; temporaries = ts; summary = ss }) ∷ []

module _ (done : List CertFunction) (f : Option FunctionId) where
  reaches_found : (func : Option HirFunction) (entries : List BlockEntry) → FittingEntries func entries → (last : Place)
      → 1 ≤ rank last → rank last ≤ 7
      → Reaches last (in_blocks done f []) (found_text Certify func entries)
      (in_blocks done f (cert_blocks func entries)) 1 7
  reaches_found None entries h last l m = reaches_none last (in_blocks done f []) 1 7 l m
  reaches_found (Some func) entries h last l m = reaches_entries done f func entries h [] last l m

  reaches_first : (found : List CertFunction) (first : List AliasingEffect) (last : Place) → 1 ≤ rank last → rank last
      ≤ 8 → Reaches last found (flat_map first_line first) found 1 8
  reaches_first found first last l m =
      reaches_as last found (add_all (λ e. line.First) first found) found (flat_map first_line first) 1 8
      (reaches_all (λ (e : AliasingEffect). Unit {0}) first_line (λ e. line.First) 1 8 (λ e h. first_spelled e)
      (λ e p pl pm. follows_by p place.First pl pm refl) (λ e. refl) (omega arith) first (every first) last l m
      found)
      (none_added (λ (e : AliasingEffect). line.First) (λ e more. unkept more) first found)

  pub reaches_temporaries : (bs : List CertBlock) (ts : List Temporary) → AllByRecursion SmallTemporary ts
      → (last : Place) → 1 ≤ rank last → rank last ≤ 9
      → Reaches last (in_function done f bs [] []) (flat_map temporary_line ts)
      (in_function done f bs (map cert_temporary ts) []) 1 9
  reaches_temporaries bs ts h last l m =
      let said = λ (t : Temporary). line.Temporary (cert_temporary t) in
      reaches_as last (in_function done f bs [] []) (add_all said ts (in_function done f bs [] []))
      (in_function done f bs (map cert_temporary ts) []) (flat_map temporary_line ts) 1 9
      (reaches_all SmallTemporary temporary_line said 1 9 temporary_spelled
      (λ t p pl pm. follows_by p place.Temporary pl pm refl) (λ t. refl) (omega arith) ts h last l m
      (in_function done f bs [] []))
      (added said cert_temporary (λ v. in_function done f bs v [])
      (λ t v. at_last_push (function_with (said t)) done
      (record { function = f; blocks = bs; temporaries = v; summary = [] })) ts [])

  pub reaches_summary : (bs : List CertBlock) (ts : List CertTemporary) (es : List AliasingEffect) (last : Place) → 1
      ≤ rank last → rank last ≤ 10
      → Reaches last (in_function done f bs ts []) (summary_lines es) (in_function done f bs ts (map effect_text es)) 1
      10
  reaches_summary bs ts es last l m =
      let said = λ (e : AliasingEffect). line.Summary (effect_text e) in
      reaches_as last (in_function done f bs ts []) (add_all said es (in_function done f bs ts []))
      (in_function done f bs ts (map effect_text es)) (summary_lines es) 1 10
      (reaches_all (λ (e : AliasingEffect). Unit {0}) summary_line said 1 10 (λ e h. summary_spelled e)
      (λ e p pl pm. follows_by p place.Summary pl pm refl) (λ e. refl) (omega arith) es (every es) last l m
      (in_function done f bs ts []))
      (added said effect_text (λ v. in_function done f bs ts v)
      (λ e v. at_last_push (function_with (said e)) done
      (record { function = f; blocks = bs; temporaries = ts; summary = v })) es [])

module _ (u : HirUnit) (summary : List AliasingEffect) where
  reaches_function : (s : Solved) → FittingSolved u s → (found : List CertFunction) (last : Place) → rank last ≤ 10
      → Reaches last found (function_text Certify u summary s) (found ++ cert_function u summary s ∷ []) 0 10
  reaches_function s h found last m =
      let f = s.function in
      let func = function_of u f in
      let bs = cert_blocks func s.entries in
      let ts = map cert_temporary s.temporaries in
      let head = function_head f in
      let visits = visits_line s.visits in
      let blocks = found_text Certify func s.entries in
      let es = summary_of u summary f in
      reaches_both last found (in_function found f bs ts []) (in_function found f bs ts (map effect_text es))
      (((head ++ visits) ++ blocks) ++ table_lines s) (summary_lines es) 1 9 0 10
      (reaches_both last found (in_function found f bs [] []) (in_function found f bs ts [])
      ((head ++ visits) ++ blocks) (table_lines s) 1 7 1 9
      (reaches_both last found (in_blocks found f []) (in_blocks found f bs) (head ++ visits) blocks 1 7 1 7
      (reaches_both last found (in_blocks found f []) (in_blocks found f []) head visits 1 1 1 7
      (reaches_line last found head (line.Function f) 1 1 (function_spelled f h.function)
      (follows_by last place.Function (omega arith) m refl) (omega arith) (omega arith))
      (λ p pl pm.
      reaches_as p (in_blocks found f []) (with_line line.Visits (in_blocks found f [])) (in_blocks found f []) visits 1
      7
      (reaches_line p (in_blocks found f []) visits line.Visits 1 7 (visits_spelled s.visits)
      (follows_by p place.Visits pl pm refl) (omega arith) (omega arith))
      (unkept (in_blocks found f []))))
      (λ p pl pm. reaches_found found f func s.entries h.entries p pl pm))
      (λ p pl pm.
      reaches_both p (in_function found f bs [] []) (in_function found f bs [] []) (in_function found f bs ts [])
      (flat_map first_line s.first) (flat_map temporary_line s.temporaries) 1 8 1 9
      (reaches_first found f (in_function found f bs [] []) s.first p pl (omega (arith, pm)))
      (λ q ql qm. reaches_temporaries found f bs s.temporaries h.temporaries q ql (omega (arith, qm)))))
      (λ p pl pm. reaches_wider p (in_function found f bs ts []) (in_function found f bs ts (map effect_text es))
      (summary_lines es) 1 10 0 10 (omega arith) (omega arith)
      (reaches_summary found f bs ts es p pl (omega (arith, pm))))

  reaches_functions : (solved : List Solved) → AreFitting u solved → (found : List CertFunction) (last : Place)
      → rank last ≤ 10
      → Reaches last found (functions_text Certify u summary solved) (found ++ map (cert_function u summary) solved) 0
      10
  reaches_functions [] h found last m =
      reaches_as last found found (found ++ []) [] 0 10 (reaches_none last found 0 10 (omega arith) m)
      (sym (append-nil found))
  reaches_functions (s ∷ more) h found last m =
      let next = found ++ cert_function u summary s ∷ [] in
      reaches_as last found (next ++ map (cert_function u summary) more)
      (found ++ map (cert_function u summary) (s ∷ more)) (functions_text Certify u summary (s ∷ more)) 0 10
      (reaches_both last found next (next ++ map (cert_function u summary) more) (function_text Certify u summary s)
      (functions_text Certify u summary more) 0 10 0 10
      (reaches_function s h.0 found last m)
      (λ p pl pm. reaches_functions more h.1 next p pm))
      (append_assoc found (cert_function u summary s ∷ []) (map (cert_function u summary) more))

-- ---- ranges and reports

reaches_range : (b : Bool) (n : ℕ) (r : MutableRange) (found : List CertFunction) (last : Place) → rank last ≤ 11
    → Reaches last found (if b then range_line n r else []) found 0 11
reaches_range true n r found last m =
    reaches_as last found (with_line line.Range found) found (range_line n r) 0 11
    (reaches_line last found (range_line n r) line.Range 0 11 (range_spelled n r)
    (follows_by last place.Range (omega arith) m refl) (omega arith) (omega arith))
    (unkept found)
reaches_range false n r found last m = reaches_none last found 0 11 (omega arith) m

pub reaches_ranges : (numbered : List (ℕ × Identifier)) (found : List CertFunction) (last : Place) → rank last ≤ 11
    → Reaches last found (flat_map numbered_text numbered) found 0 11
reaches_ranges [] found last m = reaches_none last found 0 11 (omega arith) m
reaches_ranges (n ∷ more) found last m =
    reaches_both last found found found (numbered_text n) (flat_map numbered_text more) 0 11 0 11
    (reaches_range (has_range n.1.mutable_range) n.0 n.1.mutable_range found last m)
    (λ p pl pm. reaches_ranges more found p pm)

reaches_report_lines : (reports : List Report) (found : List CertFunction) (last : Place) → rank last ≤ 13
    → Reaches last found (report_lines reports) found 0 13
reaches_report_lines reports found last m =
    reaches_as last found (add_all (λ r. line.Report) reports found) found (report_lines reports) 0 13
    (reaches_all (λ (r : Report). Unit {0}) report_line (λ r. line.Report) 0 13 (λ r h. report_spelled r)
    (λ r p pl pm. follows_by p place.Report pl pm refl) (λ r. refl) (omega arith) reports (every reports) last
    (omega arith) m found)
    (none_added (λ (r : Report). line.Report) (λ r more. unkept more) reports found)

pub reaches_reports : (reports : List Report) (found : List CertFunction) (last : Place) → rank last ≤ 11
    → Reaches last found (reports_text reports) found 0 13
reaches_reports reports found last m =
    reaches_both last found found found (codes "reports " ++ decimal (length reports) ++ codes "\n")
    (report_lines reports) 12 12 0 13
    (reaches_as last found (with_line line.Reports found) found
    (codes "reports " ++ decimal (length reports) ++ codes "\n") 12 12
    (reaches_line last found (codes "reports " ++ decimal (length reports) ++ codes "\n") line.Reports 12 12
    (reports_spelled (length reports)) (follows_by last place.Reports (omega arith) m refl) (omega arith)
    (omega arith))
    (unkept found))
    (λ p pl pm. reaches_report_lines reports found p (omega (arith, pm)))

reaches_whole : (u : HirUnit) (solved : List Solved) (summary : List AliasingEffect) (reports : List Report)
    → AreFitting u solved → Reaches place.Start [] (result_text Certify u solved summary reports)
    (map (cert_function u summary) solved) 0 13
reaches_whole u solved summary reports h =
    let all = map (cert_function u summary) solved in
    reaches_both place.Start [] all all (functions_text Certify u summary solved ++ ranges_text u.env.identifiers)
    (reports_text reports) 0 11 0 13
    (reaches_both place.Start [] all all (functions_text Certify u summary solved) (ranges_text u.env.identifiers) 0 10
    0 11
    (reaches_functions u summary solved h [] place.Start (omega arith))
    (λ p pl pm. reaches_ranges (enumerate_from 0 u.env.identifiers) all p (omega (arith, pm))))
    (λ p pl pm. reaches_reports reports all p pm)

pub read_back : (u : HirUnit) (solved : List Solved) (summary : List AliasingEffect) (reports : List Report)
    → AreFitting u solved → IsUtf8 (result_text Certify u solved summary reports)
    → certificate_of_text (result_text Certify u solved summary reports) ≡ Ok (certificate_of u solved summary)
read_back u solved summary reports h utf8 =
    let text = result_text Certify u solved summary reports in
    let end : text ++ [] ≡ text = append-nil text in
    let reached = reaches_whole u solved summary reports h in
    let goes = reached.leads 1 [] (subst IsUtf8 (sym end) utf8) in
    ap certificate_of_text (sym end) ∙ ap (λ r. r >>= certificate_made) goes.same
