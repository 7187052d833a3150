-- What `brief` prints is accepted by `verify`.
use Rattle.std.specs.Prelude.{if◌then◌else◌, map}
use Rattle.std.specs.List.{AllByRecursion}
use Rattle.std.proofs.Common.{◌≡◌, ℕ, Bool, true, false, List, [], ◌∷◌, length, Option, Some, Ok, refl, ap}
use Rattle.std.proofs.Common.{◌∙◌, subst}
use Rattle.alias_base.specs.declared.ids.FunctionId.{FunctionId}
use Rattle.alias_hir.specs.declared.env.Unit.{Unit as HirUnit}
use Rattle.alias_rules.specs.Functions.{rules_hold}
use Rattle.alias_lattice.specs.AbstractValues.{AbstractProper}
use Rattle.alias_lattice.specs.Maps.{ProperOption}
use Rattle.alias_lattice.specs.ProperStates.{StateProper}
use Rattle.alias_lattice.specs.PutLaws.{proper_found}
use Rattle.alias_lattice.specs.SiteOrder.{site_cmp}
use Rattle.alias_lattice.specs.SiteOrderLaws.{sites_total}
use Rattle.alias_lattice.specs.States.{State, empty_state}
use Rattle.alias_lattice.specs.declared.site.Site.{Site}
use Rattle.alias_lattice.specs.declared.value.AbstractValue.{AbstractValue}
use Rattle.alias_effects.specs.declared.solved.BlockEntry.{BlockEntry}
use Rattle.alias_effects.specs.declared.solved.Solved.{Solved}
use Rattle.alias_answer_laws.proofs.order.Ordering.{went}
use Rattle.alias_certificate.specs.declared.certificate.CertFunction.{CertFunction}
use Rattle.alias_certificate.specs.states.Beyond.{beyond_of, more_values}
use Rattle.alias_cert.specs.Functions.{same_name}
use Rattle.alias_follow.specs.Units.{UnitFollowing, unit_followed}
use Rattle.alias_follow.specs.function.Givens.{given_of, blocks_given}
use Rattle.alias_follow.specs.lines.Known.{AreKnown, AreLinesKnown}
use Rattle.alias_brief.specs.Briefs.{brief_text}
use Rattle.alias_brief.specs.Differences.{whole_lines, first_difference}
use Rattle.alias_brief.proofs.Lines.{no_difference}
use Rattle.alias_brief.specs.Saying.{said_block, said}
use Rattle.alias_brief.specs.Verifying.{text_followed, compared_by, followed_so, read_so, verified}
use Rattle.alias_brief_laws.specs.Accepted.{AreGivenKnown, AreStatesProper, BriefsAreFollowed}
use Rattle.alias_brief_laws.specs.Accepted.{functions_in, ReadsAsTold}
use Rattle.alias_brief_laws.specs.Accepted.{BriefsAreAccepted}
use Rattle.alias_brief_laws.proofs.One.{ok_same}
use Rattle.alias_certificate.proofs.raised.Picking.{of_entries}
use Rattle.alias_brief_laws.proofs.Whole.{unit_again, count_is}

first_known : (c : CertFunction) (o : Option CertFunction) (t : Bool) → AreLinesKnown c.blocks
    → AreLinesKnown (blocks_given o) → AreLinesKnown (blocks_given (if t then Some c else o))
first_known c o true h k = h
first_known c o false h k = k

-- the values of what is given of a function
known_of : (given : List CertFunction) (id : Option FunctionId) → AreGivenKnown given
    → AreLinesKnown (blocks_given (given_of given id))
known_of [] id h = tt
known_of (c ∷ cs) id h = first_known c (given_of cs id) (same_name c.function id) h.0 (known_of cs id h.1)

pub briefs_are_followed : BriefsAreFollowed
briefs_are_followed given u x rules known h = unit_again given u x rules (λ id. known_of given id known) h

-- ---- what solutions say

values_known : (es : List (Site × AbstractValue)) → AllByRecursion (λ (e : Site × AbstractValue). AbstractProper e.1) es
    → AreKnown (more_values empty_state es)
values_known [] a = tt
values_known (e ∷ es) a = (a.0, values_known es a.1)

state_known : (s : State) → StateProper s → AreKnown (beyond_of s empty_state).values
state_known s h = values_known s.values (of_entries site_cmp sites_total (λ q v. AbstractProper v) s.values h.values.0
    (λ q v f. subst (ProperOption AbstractProper) f (proper_found site_cmp AbstractProper s.values h.values q)))

entries_known : (es : List BlockEntry) → AllByRecursion (λ (e : BlockEntry). StateProper e.state) es
    → AreLinesKnown (map said_block es)
entries_known [] a = tt
entries_known (e ∷ es) a = (state_known e.state a.0, entries_known es a.1)

-- the values of proper states are known
said_known : (solved : List Solved) → AreStatesProper solved → AreGivenKnown (said solved)
said_known [] a = tt
said_known (s ∷ solved) a = (entries_known s.entries a.0, said_known solved a.1)

-- ---- texts

module _ (solved : List Solved) (u : HirUnit) (text : List ℕ) (rules : rules_hold u ≡ Ok tt)
    (known : AreGivenKnown (said solved)) (reads : ReadsAsTold solved u text) where
  accepted_as : (x : UnitFollowing) → unit_followed (said solved) u ≡ Ok x → brief_text x.followed ≡ text
      → verified text u ≡ Ok (functions_in u)
  accepted_as x h same =
      ap (read_so text u) (reads x h)
      ∙ ap (followed_so text) (briefs_are_followed (said solved) u x rules known h)
      ∙ ap (λ t. compared_by (length x.followed.inferred.solved) (first_difference t text)) same
      ∙ ap (compared_by (length x.followed.inferred.solved)) (no_difference 1 (whole_lines text))
      ∙ ap Ok (count_is (said solved) u x rules (λ id. known_of (said solved) id known) h)

pub briefs_are_accepted : BriefsAreAccepted
briefs_are_accepted solved u text rules states h reads =
    let known : AreGivenKnown (said solved) = said_known solved states in
    let w = went (unit_followed (said solved) u) text_followed text h in
    accepted_as solved u text rules known reads w.0 w.1 (ok_same (brief_text w.0.followed) text w.2)
