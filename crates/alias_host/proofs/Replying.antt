-- From a run to its reply.
use Rattle.std.proofs.Common.{ℕ, ◌≡◌, List, [], Option, Some, None, false, IsTrue, arith, refl, sym, subst, inl, inr}
use Rattle.alias_stream.specs.Streams.{Adds, HasFailed}
use Rattle.alias_run.specs.declared.command.Command.{Command}
use Rattle.alias_run.specs.declared.command.Command.TheVariants.{Infer, Certify, Check, Lint, Explain, ExplainFunction}
use Rattle.alias_run.specs.declared.command.Command.TheVariants.{Brief, Verify, Plain, Made, Help, Version}
use Rattle.alias_run.specs.declared.status.Status.{Status}
use Rattle.alias_run.specs.declared.status.Status.TheVariants.{Done, Words, NotJson, NotUnit, Unfit, BadLine, Rejected}
use Rattle.alias_run.specs.declared.status.Status.TheVariants.{Differs, PlainRefused, Refused, NotHere, ReadFault}
use Rattle.alias_run.specs.declared.status.Status.TheVariants.{WriteFault, TooLong, Memory}
use Rattle.alias_run.specs.declared.answer.Answer.{Answer}
use Rattle.alias_run.specs.declared.query.Query.{Query}
use Rattle.alias_run.specs.declared.query.Query.TheVariants.{Inference, Acceptance, BriefText, Verification, Lints}
use Rattle.alias_run.specs.declared.query.Query.TheVariants.{Explanation, FunctionExplanation, Plainness}
use Rattle.alias_run.specs.Findings.{IsFound, IsRead}
use Rattle.alias_run.specs.Runs.{IsRun, IsHeadline, IsComplete, IsAccepting}
use Rattle.alias_run.specs.Statuses.{status_code}
use Rattle.alias_run.specs.Texts.{text_of, IsCertifying}
use Rattle.alias_run.proofs.Running.{no_write_fault}
use Rattle.alias_host.specs.Hosts.{IsReply, KeepsPromises, text_kept}

false_no : IsTrue false → ⊥
false_no t = cc

-- what never fails hasn't failed
pub unfailed : HasFailed 0 0 false → ⊥
unfailed f = elim f [ inl lt ↦ omega arith | inr t ↦ false_no t ]

unread : (q : Query) (known : Option (List ℕ)) (F : Type 0) → (F → ⊥) → (status : Status) (i : Answer)
    → IsRead q known F status i → IsRead q known ⊥ status i
unread q known F unfailing Done i r = r
unread q known F unfailing Words i r = r
unread q known F unfailing NotJson i r = r
unread q known F unfailing (NotUnit pointer rule) i r = r
unread q known F unfailing (Unfit fault) i r = r
unread q known F unfailing (BadLine number) i r = r
unread q known F unfailing (Rejected fault) i r = r
unread q known F unfailing (Differs number line) i r = r
unread q known F unfailing (PlainRefused fault) i r = r
unread q known F unfailing (Refused error) i r = r
unread q known F unfailing NotHere i r = r
unread q known F unfailing ReadFault i r = (unfailing r.0, r.1)
unread q known F unfailing WriteFault i r = r
unread q known F unfailing TooLong i r = r
unread q known F unfailing Memory i r = r

found : (known : Option (List ℕ)) (F : Type 0) → (F → ⊥) → (asked : Option Command) (status : Status) (i : Answer)
    → IsFound asked known F status i → IsFound asked known ⊥ status i
unfolding IsFound
found known F unfailing None status i f = f
found known F unfailing (Some Infer) status i f = unread Inference known F unfailing status i f
found known F unfailing (Some Certify) status i f = unread Inference known F unfailing status i f
found known F unfailing (Some Check) status i f = unread Acceptance known F unfailing status i f
found known F unfailing (Some Brief) status i f = unread BriefText known F unfailing status i f
found known F unfailing (Some Verify) status i f = unread Verification known F unfailing status i f
found known F unfailing (Some Lint) status i f = unread Lints known F unfailing status i f
found known F unfailing (Some (Explain function identifier)) status i f =
    unread (Explanation function identifier) known F unfailing status i f
found known F unfailing (Some (ExplainFunction function)) status i f =
    unread (FunctionExplanation function) known F unfailing status i f
found known F unfailing (Some Plain) status i f = unread Plainness known F unfailing status i f
found known F unfailing (Some (Made seed size)) status i f = f
found known F unfailing (Some Help) status i f = f
found known F unfailing (Some Version) status i f = f

some_held : (xs ys : List ℕ) → Some xs ≡ Some ys → xs ≡ ys
some_held xs ys e = cc

module _ (asked : Option Command) (input : List ℕ) (F : Type 0) (unfailing : F → ⊥) (bytes : List ℕ) where
  -- the whole text was written
  whole : (status : Status) (i : Answer) → IsFound asked (Some input) F status i
      → Adds (Some []) (text_of asked status i) (Some bytes)
      → IsHeadline asked (Some input) (Some []) (Some bytes) status i → IsCertifying asked i (text_of asked status i)
      → (j : Answer) × IsFound asked (Some input) ⊥ status j
      × IsHeadline asked (Some input) (Some []) (Some bytes) status j × (bytes ≡ text_of asked status j)
      × IsCertifying asked j bytes
  whole status i f t h c = let is = some_held _ _ t in
      (i, found (Some input) F unfailing asked status i f, h, is, subst (IsCertifying asked i) (sym is) c)

  pub replies : (status : Status) (i : Answer) → IsRun asked (Some input) F F (Some []) (Some bytes) status i
      → IsHeadline asked (Some input) (Some []) (Some bytes) status i → IsCertifying asked i (text_of asked status i)
      → IsReply asked input status (text_kept status bytes)
  replies Done i r h c = whole Done i r.0 r.1 h c
  replies Words i r h c = whole Words i r.0 r.1 h c
  replies NotJson i r h c = whole NotJson i r.0 r.1 h c
  replies (NotUnit pointer rule) i r h c = whole (NotUnit pointer rule) i r.0 r.1 h c
  replies (Unfit fault) i r h c = whole (Unfit fault) i r.0 r.1 h c
  replies (BadLine number) i r h c = whole (BadLine number) i r.0 r.1 h c
  replies (Rejected fault) i r h c = whole (Rejected fault) i r.0 r.1 h c
  replies (Differs number line) i r h c = whole (Differs number line) i r.0 r.1 h c
  replies (PlainRefused fault) i r h c = whole (PlainRefused fault) i r.0 r.1 h c
  replies (Refused error) i r h c = whole (Refused error) i r.0 r.1 h c
  replies NotHere i r h c = whole NotHere i r.0 r.1 h c
  replies ReadFault i r h c = whole ReadFault i r.0 r.1 h c
  replies TooLong i r h c = whole TooLong i r.0 r.1 h c
  replies WriteFault i r h c = absurd (unfailing r.0)
  replies Memory i r h c = refl

-- the same, of values that are known by equations
pub replies_as : (asked : Option Command) (input bytes : List ℕ) (known held held' : Option (List ℕ))
    (status status' : Status) (i : Answer) (text : List ℕ)
    → known ≡ Some input → held ≡ Some [] → held' ≡ Some bytes → status' ≡ status → text ≡ text_kept status bytes
    → IsRun asked known (HasFailed 0 0 false) (HasFailed 0 0 false) held held' status i
    → IsHeadline asked known held held' status i → IsCertifying asked i (text_of asked status i)
    → IsReply asked input status' text
replies_as asked input bytes known held held' status status' i text k h h' s t r done certifies =
    let F = HasFailed 0 0 false in
    let r1 : IsRun asked (Some input) F F held held' status i =
    subst (λ z. IsRun asked z F F held held' status i) k r in
    let r2 : IsRun asked (Some input) F F (Some []) held' status i =
    subst (λ z. IsRun asked (Some input) F F z held' status i) h r1 in
    let r3 : IsRun asked (Some input) F F (Some []) (Some bytes) status i =
    subst (λ z. IsRun asked (Some input) F F (Some []) z status i) h' r2 in
    let d1 : IsHeadline asked (Some input) held held' status i =
    subst (λ z. IsHeadline asked z held held' status i) k done in
    let d2 : IsHeadline asked (Some input) (Some []) held' status i =
    subst (λ z. IsHeadline asked (Some input) z held' status i) h d1 in
    let d3 : IsHeadline asked (Some input) (Some []) (Some bytes) status i =
    subst (λ z. IsHeadline asked (Some input) (Some []) z status i) h' d2 in
    let a : IsReply asked input status (text_kept status bytes) =
    replies asked input F unfailed bytes status i r3 d3 certifies in
    let b : IsReply asked input status text = subst (λ z. IsReply asked input status z) (sym t) a in
    subst (λ z. IsReply asked input z text) (sym s) b

-- what a run promises whose source and sink may fail, where neither does
complete_of : (asked : Option Command) (known : Option (List ℕ)) (F : Type 0) → (F → ⊥) → (status : Status)
    → IsComplete asked known F F status → IsComplete asked known ⊥ ⊥ status
unfolding IsComplete
complete_of (Some Infer) known F unfailing status h =
    λ bytes u is short reading rules plain settles reads writes.
    h bytes u is short reading rules plain settles unfailing unfailing
complete_of (Some Certify) known F unfailing status h =
    λ bytes u is short reading rules plain settles reads writes.
    h bytes u is short reading rules plain settles unfailing unfailing
complete_of (Some (Made seed size)) known F unfailing status h = λ writes. h unfailing
complete_of asked known F unfailing status h = tt

accepting_of : (asked : Option Command) (known : Option (List ℕ)) (F : Type 0) → (F → ⊥) → (status : Status)
    → IsAccepting asked known F F status → IsAccepting asked known ⊥ ⊥ status
unfolding IsAccepting
accepting_of (Some Check) known F unfailing status h =
    λ bytes u i is short reading rules infers certificate reads writes.
    h bytes u i is short reading rules infers certificate unfailing unfailing
accepting_of asked known F unfailing status h = tt

pub promises_as : (asked : Option Command) (input : List ℕ) (known : Option (List ℕ)) (status status' : Status) → known
    ≡ Some input → status' ≡ status
    → IsComplete asked known (HasFailed 0 0 false) (HasFailed 0 0 false) status
    → IsAccepting asked known (HasFailed 0 0 false) (HasFailed 0 0 false) status → KeepsPromises asked input status'
promises_as asked input known status status' k s c a =
    let F = HasFailed 0 0 false in
    subst (KeepsPromises asked input) (sym s) (
      complete_of asked (Some input) F unfailed status (subst (λ z. IsComplete asked z F F status) k c),
      accepting_of asked (Some input) F unfailed status (subst (λ z. IsAccepting asked z F F status) k a),
    )

-- memory ran out
memory_completes : (asked : Option Command) (known : Option (List ℕ)) → IsComplete asked known ⊥ ⊥ Memory
unfolding IsComplete
memory_completes (Some Infer) known = λ bytes u is short reading rules plain settles reads writes. tt
memory_completes (Some Certify) known = λ bytes u is short reading rules plain settles reads writes. tt
memory_completes (Some (Made seed size)) known = λ writes. tt
memory_completes asked known = tt

memory_accepts : (asked : Option Command) (known : Option (List ℕ)) → IsAccepting asked known ⊥ ⊥ Memory
unfolding IsAccepting
memory_accepts (Some Check) known = λ bytes u i is short reading rules infers certificate reads writes. tt
memory_accepts asked known = tt

pub ran_out_promises : (asked : Option Command) (input : List ℕ) (status : Status) → status ≡ Memory
    → KeepsPromises asked input status
ran_out_promises asked input status s = subst (KeepsPromises asked input) (sym s)
    (memory_completes asked (Some input), memory_accepts asked (Some input))

pub ran_out_replies : (asked : Option Command) (input : List ℕ) (status : Status) (text : List ℕ) → status ≡ Memory
    → text ≡ [] → IsReply asked input status text
ran_out_replies asked input status text s t = subst (λ z. IsReply asked input z text) (sym s) t

-- ---- no read and no write fails

never_read_fault : (known : Option (List ℕ)) (asked : Option Command) (i : Answer) → IsFound asked known ⊥ ReadFault i
    → ⊥
unfolding IsFound
never_read_fault known None i f = let e : ReadFault ≡ Words = f.0 in cc
never_read_fault known (Some Infer) i f = f.0
never_read_fault known (Some Certify) i f = f.0
never_read_fault known (Some Check) i f = f.0
never_read_fault known (Some Brief) i f = f.0
never_read_fault known (Some Verify) i f = f.0
never_read_fault known (Some Lint) i f = f.0
never_read_fault known (Some (Explain function identifier)) i f = f.0
never_read_fault known (Some (ExplainFunction function)) i f = f.0
never_read_fault known (Some Plain) i f = f.0
never_read_fault known (Some (Made seed size)) i f = f.1
never_read_fault known (Some Help) i f = let e : ReadFault ≡ Done = f.0 in cc
never_read_fault known (Some Version) i f = let e : ReadFault ≡ Done = f.0 in cc

module _ (asked : Option Command) (input text : List ℕ) where
  pub unfailing_code : (status : Status) → IsReply asked input status text → (status_code status ≡ 7 → ⊥)
      × (status_code status ≡ 8 → ⊥)
  unfailing_code Done a = (λ e. omega (arith, e), λ e. omega (arith, e))
  unfailing_code Words a = (λ e. omega (arith, e), λ e. omega (arith, e))
  unfailing_code NotJson a = (λ e. omega (arith, e), λ e. omega (arith, e))
  unfailing_code (NotUnit pointer rule) a = (λ e. omega (arith, e), λ e. omega (arith, e))
  unfailing_code (Unfit fault) a = (λ e. omega (arith, e), λ e. omega (arith, e))
  unfailing_code (BadLine number) a = (λ e. omega (arith, e), λ e. omega (arith, e))
  unfailing_code (Rejected fault) a = (λ e. omega (arith, e), λ e. omega (arith, e))
  unfailing_code (Differs number line) a = (λ e. omega (arith, e), λ e. omega (arith, e))
  unfailing_code (PlainRefused fault) a = (λ e. omega (arith, e), λ e. omega (arith, e))
  unfailing_code (Refused error) a = (λ e. omega (arith, e), λ e. omega (arith, e))
  unfailing_code NotHere a = (λ e. omega (arith, e), λ e. omega (arith, e))
  unfailing_code ReadFault a = (
    λ e. never_read_fault (Some input) asked a.0 a.1,
    λ e. never_read_fault (Some input) asked a.0 a.1,
  )
  unfailing_code WriteFault a = (
    λ e. no_write_fault (Some input) ⊥ asked a.0 a.1,
    λ e. no_write_fault (Some input) ⊥ asked a.0 a.1,
  )
  unfailing_code TooLong a = (λ e. omega (arith, e), λ e. omega (arith, e))
  unfailing_code Memory a = (λ e. omega (arith, e), λ e. omega (arith, e))
