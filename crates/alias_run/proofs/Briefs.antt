-- What follows for a unit that is read twice, and whether a text is what follows.
use Rattle.std.proofs.Common.{◌≡◌, ◌∙◌, ℕ, List, [], length, ◌<◌, refl, sym, ap, subst, arith}
use Rattle.std.specs.Prelude.{false, Result, Ok, Err, codes, ◌++◌, ◌∷◌}
use Rattle.alias_base.specs.Answer.{Gives}
use Rattle.alias_brief.specs.Verifying.{brief_of, verified, Verifies, IsVerified}
use Rattle.alias_brief.specs.declared.calls.VerifyFault.{VerifyFault}
use Rattle.alias_brief.specs.declared.calls.VerifyFault.TheVariants as verify
use Rattle.alias_brief_laws.specs.Accepted.{functions_in}
use Rattle.alias_cert.specs.function.Faults.{is_memory}
use Rattle.alias_certificate.specs.declared.fault.CheckFault.{CheckFault}
use Rattle.alias_certificate.specs.declared.fault.CheckFault.TheVariants as check
use Rattle.alias_effects.specs.declared.solved.Solved.{Solved}
use Rattle.alias_hir.specs.declared.env.Unit.{Unit as HirUnit}
use Rattle.alias_nested.specs.declared.infer.Inferred.{Inferred as UnitInference}
use Rattle.alias_read.specs.Fault.{IsMemory}
use Rattle.alias_read.specs.Units.{NoUnit, UnitReading}
use Rattle.alias_read.specs.declared.fault.TextFault.{TextFault}
use Rattle.alias_read.specs.declared.fault.TextFault.TheVariants as text
use Rattle.alias_rules.specs.Functions.{rules_hold, checks}
use Rattle.alias_rules.specs.function_rules.Fault.{is_memory as is_unfit_memory}
use Rattle.alias_rules.specs.declared.function_rules.fault.UnitFault.{UnitFault}
use Rattle.alias_rules.specs.declared.function_rules.fault.UnitFault.TheVariants as unit
use Rattle.alias_run.specs.declared.answer.Answer.{Answer}
use Rattle.alias_run.specs.declared.answer.Answer.TheVariants.{Nothing, Briefed, Verified}
use Rattle.alias_run.specs.declared.outcome.Outcome.{Outcome}
use Rattle.alias_run.specs.declared.query.Query.{Query}
use Rattle.alias_run.specs.declared.query.Query.TheVariants.{Inference, Acceptance, BriefText, Verification, Lints}
use Rattle.alias_run.specs.declared.query.Query.TheVariants.{Explanation, FunctionExplanation, Plainness}
use Rattle.alias_run.specs.declared.status.Status.{Status}
use Rattle.alias_run.specs.declared.status.Status.TheVariants.{Done, Memory}
use Rattle.alias_run.specs.Findings.{parts_of, IsBriefedAs, IsBriefedOf, IsReadAgain, IsVerifiedAs}
use Rattle.alias_run.specs.Statuses.{text_status, unit_status, brief_status, verify_status}
use Rattle.alias_run.proofs.Refusing.{one_unit}
use Rattle.alias_run.proofs.Running.{ended_as, rules_passed, rules_refused}

-- ---- the text that follows

pub briefed_done : (solved : List Solved) (u : HirUnit) (t accepted : List ℕ) (o : Outcome)
    → o ≡ record { status = Done; answer = Briefed t } → accepted ≡ t → brief_of solved u ≡ Ok t
    → verified accepted u ≡ Ok (functions_in u) → IsBriefedOf solved u o.status o.answer
briefed_done solved u t accepted o is same h k =
    subst (λ (z : Outcome). IsBriefedOf solved u z.status z.answer) (sym is)
    (h, subst (λ s. verified s u ≡ Ok (functions_in u)) same k)

-- a number is wanting, or what can't come
briefed_refused : (solved : List Solved) (u : HirUnit) (e : CheckFault) → Gives is_memory (brief_of solved u) (Err e)
    → IsBriefedOf solved u (brief_status e) Nothing
briefed_refused solved u (check.TooMany which) h = (h refl, refl)
briefed_refused solved u (check.Memory x) h = refl
briefed_refused solved u e h = (h refl, refl)

pub briefed_fault : (solved : List Solved) (u : HirUnit) (e : CheckFault) (status : Status) (o : Outcome) → o
    ≡ ended_as status → status ≡ brief_status e → Gives is_memory (brief_of solved u) (Err e)
    → IsBriefedOf solved u o.status o.answer
briefed_fault solved u e status o is s h =
    subst (λ (z : Outcome). IsBriefedOf solved u z.status z.answer) (sym (is ∙ ap ended_as s))
    (briefed_refused solved u e h)

-- ---- a unit that is read once more

-- it keeps the rules, as it did
pub briefed_checked : (solved : List Solved) (u v : HirUnit) (status : Status) (a : Answer) → checks u ≡ Ok v
    → IsBriefedOf solved v status a → IsBriefedOf solved u status a
briefed_checked solved u v status a h k =
    subst (λ z. IsBriefedOf solved z status a) (sym (rules_passed (rules_hold u) u v h).1) k

unfit_again : (solved : List Solved) (u : HirUnit) (e : UnitFault) → (is_unfit_memory e ≡ false → checks u ≡ Err e)
    → rules_hold u ≡ Ok tt → IsBriefedOf solved u (unit_status e) Nothing
unfit_again solved u (unit.Memory x) h rules = refl
unfit_again solved u e h rules =
    let no : Ok tt ≡ Err e = sym rules ∙ rules_refused (rules_hold u) u e (h refl) in absurd (cc)

pub briefed_unfit : (solved : List Solved) (u : HirUnit) (e : UnitFault) (status : Status) (o : Outcome) → o
    ≡ ended_as status → status ≡ unit_status e → (is_unfit_memory e ≡ false → checks u ≡ Err e)
    → rules_hold u ≡ Ok tt → IsBriefedOf solved u o.status o.answer
briefed_unfit solved u e status o is s h rules =
    subst (λ (z : Outcome). IsBriefedOf solved u z.status z.answer) (sym (is ∙ ap ended_as s))
    (unfit_again solved u e h rules)

-- the bytes spell the same unit
pub briefed_again : (bytes : List ℕ) (v u : HirUnit) (given solved : List Solved) (o : Outcome) → UnitReading bytes v
    → given ≡ solved → (rules_hold v ≡ Ok tt → IsBriefedOf given v o.status o.answer) → UnitReading bytes u
    → rules_hold u ≡ Ok tt → IsBriefedOf solved u o.status o.answer
briefed_again bytes v u given solved o is same h reads rules =
    let one : v ≡ u = one_unit bytes v u is reads in
    let there = h (subst (λ z. rules_hold z ≡ Ok tt) (sym one) rules) in
    subst (λ z. IsBriefedOf solved z o.status o.answer) one
    (subst (λ s. IsBriefedOf s v o.status o.answer) same there)

none_again : (bytes : List ℕ) (u : HirUnit) (solved : List Solved) (e : TextFault) → (¬ (IsMemory e) → NoUnit bytes)
    → UnitReading bytes u → IsBriefedOf solved u (text_status e) Nothing
none_again bytes u solved (text.Memory x) h reads = refl
none_again bytes u solved text.NotJson h reads = absurd (h (λ m. m) u reads)
none_again bytes u solved (text.NotUnit pointer rule) h reads = absurd (h (λ m. m) u reads)

pub briefed_unread : (bytes : List ℕ) (u : HirUnit) (solved : List Solved) (e : TextFault) (status : Status)
    (o : Outcome) → o ≡ ended_as status → status ≡ text_status e → (¬ (IsMemory e) → NoUnit bytes)
    → UnitReading bytes u → IsBriefedOf solved u o.status o.answer
briefed_unread bytes u solved e status o is s h reads =
    subst (λ (z : Outcome). IsBriefedOf solved u z.status z.answer) (sym (is ∙ ap ended_as s))
    (none_again bytes u solved e h reads)

-- where memory ran out there is no answer
pub memory_briefed : (u : HirUnit) (i : UnitInference) (a : Answer) → IsBriefedAs u i Memory a → a ≡ Nothing
memory_briefed u i a h = h

-- ---- what is read again

-- the bytes that are read again are those of the unit
again_of : (q : Query) (bytes : List ℕ) (u : HirUnit) → UnitReading (parts_of q bytes).0 u
    → IsReadAgain q (parts_of q bytes).1 u
again_of Inference bytes u h = tt
again_of Acceptance bytes u h = tt
again_of BriefText bytes u h = h
again_of Verification bytes u h = tt
again_of Lints bytes u h = tt
again_of (Explanation f id) bytes u h = tt
again_of (FunctionExplanation f) bytes u h = tt
again_of Plainness bytes u h = tt

pub read_again : (q : Query) (bytes : List ℕ) (parts : List ℕ × List ℕ) (u : HirUnit) → parts ≡ parts_of q bytes
    → UnitReading parts.0 u → IsReadAgain q parts.1 u
read_again q bytes parts u is h =
    subst (λ (p : List ℕ × List ℕ). IsReadAgain q p.1 u) (sym is)
    (again_of q bytes u (subst (λ (p : List ℕ × List ℕ). UnitReading p.0 u) is h))

pub again_checked : (q : Query) (bytes : List ℕ) (u v : HirUnit) → checks u ≡ Ok v → IsReadAgain q bytes u
    → IsReadAgain q bytes v
again_checked q bytes u v h k = subst (λ z. IsReadAgain q bytes z) (rules_passed (rules_hold u) u v h).1 k

-- ---- whether a text is what follows

pub verified_done : (t : List ℕ) (u : HirUnit) (count : ℕ) (o : Outcome)
    → o ≡ record { status = Done; answer = Verified count } → IsVerified t u count
    → IsVerifiedAs t u o.status o.answer
verified_done t u count o is h = subst (λ (z : Outcome). IsVerifiedAs t u z.status z.answer) (sym is) h

unverified : (t : List ℕ) (u : HirUnit) (e : VerifyFault) → Verifies t u (Err e)
    → IsVerifiedAs t u (verify_status e) Nothing
unverified t u (verify.BadLine number) h = (h refl, refl)
unverified t u (verify.Rejected fault) h = (h refl, refl)
unverified t u (verify.Differs number line) h = (h refl, refl)
unverified t u (verify.Memory x) h = refl

pub verified_fault : (t : List ℕ) (u : HirUnit) (e : VerifyFault) (status : Status) (o : Outcome) → o
    ≡ ended_as status → status ≡ verify_status e → Verifies t u (Err e) → IsVerifiedAs t u o.status o.answer
verified_fault t u e status o is s h =
    subst (λ (z : Outcome). IsVerifiedAs t u z.status z.answer) (sym (is ∙ ap ended_as s)) (unverified t u e h)
