-- The certificate of what is inferred of a unit is accepted, or no number is left for a report.
use Rattle.std.specs.Prelude.{◌≡◌, if◌then◌else◌, List, [], ◌∷◌, length, Result, Ok, Err, refl}
use Rattle.std.proofs.Common.{ap, sym, ◌∙◌, arith, ◌+◌}
use Rattle.std.proofs.lemmas.Bool.{le-ltb}
use Rattle.std.proofs.lemmas.List.{length-append, length-map}
use Rattle.alias_base.specs.Answer.{◌>>=◌}
use Rattle.alias_hir.specs.declared.env.Unit.{Unit as HirUnit}
use Rattle.alias_hir.specs.declared.hir.HirFunction.{HirFunction}
use Rattle.alias_rules.specs.Functions.{rules_hold}
use Rattle.alias_nested.specs.Analysis.{Analysed, Analysis, analysis, most_levels}
use Rattle.alias_nested.specs.Units.{UnitAnalysis, unit_analysed}
use Rattle.alias_certificate.specs.declared.certificate.CertFunction.{CertFunction}
use Rattle.alias_certificate.specs.declared.fault.CheckFault.{CheckFault}
use Rattle.alias_certificate.specs.declared.fault.CheckFault.TheVariants as fault
use Rattle.alias_cert.specs.Functions.{Checking, checking, root_checked}
use Rattle.alias_cert.specs.Units.{below_checked, none_left, unit_checked}
use Rattle.alias_certificate_laws.specs.text.Certifying.{cert_function, certificate_of}
use Rattle.alias_inferred_laws.proofs.inferred.Rooting.{root_entry}
use Rattle.alias_certified_laws.specs.Printed.{PrintsWhatIsSaid}
use Rattle.alias_accepted_laws.specs.Complete.{IsAcceptedOrFull, accepted, full as full_unit, CertificatesAreAccepted}
use Rattle.alias_accepted_laws.specs.Following.{OrFull, done, full, PassesAreFollowed, ReadsAreSet, RangesAreFollowed}
use Rattle.alias_accepted_laws.specs.Following.{Follows}
use Rattle.alias_accepted_laws.proofs.One.{RootJoined, root_follows}
use Rattle.alias_accepted_laws.proofs.Saying.{Known, known, once, says}
use Rattle.alias_accepted_laws.proofs.Seen.{seen_self}
use Rattle.alias_accepted_laws.proofs.Telling.{or_full_then}
use Rattle.alias_accepted_laws.proofs.Walking.{below_walks}

all_checked : {P : HirFunction × Checking → Type 0} (r : Result (HirFunction × Checking) CheckFault) → OrFull P r
    → IsAcceptedOrFull r
all_checked r (done t is p) = accepted t.0 t.1.env t.1.functions is
all_checked r (full is) = full_unit is

module _ (prints : PrintsWhatIsSaid) (passes : PassesAreFollowed) (reads : ReadsAreSet) (ranges : RangesAreFollowed)
    (u : HirUnit) (a : UnitAnalysis) (rules : rules_hold u ≡ Ok tt) (is : unit_analysed u ≡ Ok a) where
  k : Known u a
  k = known u a is

  abbrev nested : Analysis
  nested = k.root.nested

  abbrev functions : List CertFunction
  functions = (certificate_of a.inferred.unit a.inferred.solved a.inferred.summary).functions

  long : length functions ≡ length nested.functions + 1
  long =
      length-map a.inferred.solved (cert_function a.inferred.unit a.inferred.summary) ∙ ap length k.solutions
      ∙ length-map a.functions (λ (x : Analysed). x.solved) ∙ ap length k.root.all
      ∙ length-append nested.functions (root_entry u nested k.root.end ∷ [])

  begins : Follows (analysis u.env []) (checking u.env [])
  begins = record { alike = seen_self u.env; count = refl; slots = λ id none. refl }

  below : OrFull (Follows nested) (below_checked functions most_levels u.function (checking u.env []))
  below =
      below_walks passes reads ranges functions a.functions (says prints u a rules is) (once prints u a rules is)
      most_levels u.function (analysis u.env []) nested (checking u.env []) k.root.analyses
      (record { rest = root_entry u nested k.root.end ∷ []; is = k.root.all }) begins

  root : (c : Checking) → Follows nested c → OrFull (RootJoined nested) (root_checked functions u.function c)
  root c follows =
      let s = says prints u a rules is nested.functions [] (root_entry u nested k.root.end) k.root.all in
      root_follows passes reads ranges u.function nested c follows functions s.said k.root.end k.root.ended s.there
      s.tells

  -- nothing more is said
  no_more : (t : HirFunction × Checking) → RootJoined nested t → none_left functions t ≡ Ok t
  no_more t j =
      let same : length functions ≡ length t.1.functions = long ∙ sym j in
      ap (λ b. let r : Result (HirFunction × Checking) CheckFault = if b
      then Err (fault.Functions (length t.1.functions)) else Ok t in r)
      (le-ltb (length t.1.functions) (length functions) (omega arith))

  whole : OrFull (RootJoined nested) (unit_checked functions u)
  whole =
      or_full_then (RootJoined nested) (below_checked functions most_levels u.function (checking u.env [])
      >>= root_checked functions u.function) (none_left functions)
      (or_full_then (RootJoined nested) (below_checked functions most_levels u.function (checking u.env []))
      (root_checked functions u.function) below root)
      (λ t j. done t (no_more t j) j)

  unit_accepted : IsAcceptedOrFull (unit_checked functions u)
  unit_accepted = all_checked (unit_checked functions u) whole

pub certificates_accepted : PrintsWhatIsSaid → PassesAreFollowed → ReadsAreSet → RangesAreFollowed
    → CertificatesAreAccepted
certificates_accepted prints passes reads ranges u a rules is = unit_accepted prints passes reads ranges u a rules is
