-- The check of a function accepts the certificate that says its solution.
use Rattle.std.specs.Prelude.{if◌then◌else◌, map, slice_get}
use Rattle.std.proofs.Common.{◌≡◌, ℕ, zero, suc, ◌+◌, ◌<◌, ◌⊎◌, ⊎_elim, inl, inr, Bool, true, false, List, [], ◌∷◌}
use Rattle.std.proofs.Common.{◌++◌, length, replicate, get_or, Option, Some, None, Ok, Err, refl, ap, sym, ◌∙◌, subst}
use Rattle.std.proofs.Common.{arith, append-nil, append_assoc}
use Rattle.std.proofs.lemmas.List.{length-replicate, length-map, length-set}
use Rattle.std.proofs.lemmas.Bool.{le-ltb}
use Rattle.std.specs.Option.{is_some, option_map_or}
use Rattle.alias_base.specs.Answer.{◌>>=◌}
use Rattle.alias_base.specs.Find.{value_at}
use Rattle.alias_base.specs.declared.ids.FunctionId.{FunctionId}
use Rattle.alias_hir.specs.declared.env.Environment.{Environment}
use Rattle.alias_hir.specs.declared.hir.HirFunction.{HirFunction}
use Rattle.alias_lattice.specs.Flows.{Stepped}
use Rattle.alias_lattice.specs.ProperStates.{StateProper}
use Rattle.alias_lattice.specs.States.{State, state_join, state_below}
use Rattle.alias_flow.specs.Machine.{FlowLaws}
use Rattle.alias_flow.specs.Solutions.{entry_at}
use Rattle.alias_flow.specs.check.Checks.{solution_checked}
use Rattle.alias_flow.specs.check.Reached.{reached_marks}
use Rattle.alias_flow.proofs.check.Marks.{rounds_length, reached_is_marked, marked_is_reached}
use Rattle.alias_tables.specs.GrowingLaws.{Extends}
use Rattle.alias_tables.specs.Tables.{TableLists}
use Rattle.alias_tables.specs.declared.temporaries.Temporary.{Temporary}
use Rattle.alias_step.specs.block.Contexts.{context_of}
use Rattle.alias_step.specs.declared.block.recorded.BlockEffects.{BlockEffects}
use Rattle.alias_tables.specs.write_back.WriteBack.{tables_of}
use Rattle.alias_effects.specs.Inference.{block_at}
use Rattle.alias_effects.specs.Numbered.{numbered}
use Rattle.alias_effects.specs.PassLaws.{pass_laws}
use Rattle.alias_nested.specs.Created.{created_functions}
use Rattle.alias_certificate.specs.declared.certificate.CertBlock.{CertBlock}
use Rattle.alias_certificate.specs.declared.certificate.CertFunction.{CertFunction}
use Rattle.alias_certificate.specs.declared.fault.CheckFault.TheVariants as fault
use Rattle.alias_cert.specs.effects.Telling.{is_claimed}
use Rattle.alias_cert.specs.declared.function.claims.Difference.{Difference}
use Rattle.alias_cert.specs.declared.function.claims.Difference.TheVariants.{MissingTemporary, Effects}
use Rattle.alias_cert.specs.function.Blocks.{line_numbers, are_lines}
use Rattle.alias_cert.specs.function.Claims.{differs, is_claimed_at}
use Rattle.alias_cert.specs.function.Entries.{state_or_fault, line_state, entry_stated, entries_stated}
use Rattle.alias_cert.specs.function.Faults.{faulted}
use Rattle.alias_cert.specs.function.Functions.{numbers, lines_checked, entries_checked, steps_checked, checked_end}
use Rattle.alias_cert.specs.function.Functions.{function_solved}
use Rattle.alias_cert.specs.function.Temporaries.{is_key_there, temporaries_stated}
use Rattle.alias_certificate_laws.specs.accepting.Accepting.{rules, rules_of, AreClaimedAlike, IsAcceptedOrFull}
use Rattle.alias_certificate_laws.specs.accepting.Accepting.{accepted, full}
use Rattle.alias_certificate_laws.specs.accepting.Alike.{none, Elsewhere, elsewhere}
use Rattle.alias_certificate_laws.specs.accepting.AlikeBlocks.{AlikeRecorded}
use Rattle.alias_certificate_laws.specs.accepting.Certifying.{IsSolution, IsCertified, certified}
use Rattle.alias_certificate_laws.specs.accepting.Certifying.{full as full_certificate, IsAcceptedAsSaid}
use Rattle.alias_certificate_laws.specs.accepting.Saying.{NamesThere, AreCounted, said_block, said_each, those_there}
use Rattle.alias_certificate_laws.specs.accepting.Saying.{said_temporary, said_function}
use Rattle.alias_certificate_laws.proofs.accepting.Calling.{same_length}
use Rattle.alias_certificate_laws.proofs.accepting.Counting.{AreStated, counted_stated}
use Rattle.alias_certificate_laws.proofs.accepting.Lining.{marks_of, count_is, mark_at, marks_long, same_marks, stands}
use Rattle.alias_certificate_laws.proofs.accepting.Lining.{no_number, said_at, said_nothing, said_long, are_lines_of}
use Rattle.alias_certificate_laws.proofs.accepting.Rebuilding.{state_rebuilt}
use Rattle.alias_certificate_laws.proofs.accepting.Solutions.{reached_there, reached_here, accepts_anyway}
use Rattle.alias_certificate_laws.proofs.accepting.Telling.{block_claimed}

true_or_false : (b : Bool) → (b ≡ true) ⊎ (b ≡ false)
true_or_false true = inl refl
true_or_false false = inr refl

pub some_or_none : {A : Type 0} (o : Option A) → ((x : A) × (o ≡ Some x)) ⊎ (o ≡ None)
some_or_none None = inr refl
some_or_none (Some x) = inl (x, refl)

-- the entry states of all lines, behind those that are done
each_stated : (function : Option FunctionId) (n : ℕ) (created : List FunctionId) (lines : List CertBlock)
    (done rest : List (Option State)) (numbers : List (Option ℕ)) → length numbers ≡ length rest
    → ((i : ℕ) → entry_stated function n created lines (entry_at numbers i) ≡ Ok (entry_at rest i))
    → entries_stated function n created lines done numbers ≡ Ok (done ++ rest)
each_stated function n created lines done [] [] l h = ap Ok (sym (append-nil done))
each_stated function n created lines done (x ∷ rest) [] l h = cc
each_stated function n created lines done [] (k ∷ ks) l h = cc
each_stated function n created lines done (x ∷ rest) (k ∷ ks) l h =
    ap (λ r. r >>= (λ e. entries_stated function n created lines (done ++ e ∷ []) ks)) (h zero)
    ∙ each_stated function n created lines (done ++ x ∷ []) rest ks
    (let a : suc (length ks) ≡ suc (length rest) = l in omega arith) (λ i. h (suc i))
    ∙ ap Ok (append_assoc done (x ∷ []) rest)

within : {A : Type 0} (xs : List (Option A)) (b : ℕ) (s : A) → entry_at xs b ≡ Some s → b < length xs
within [] b s h = cc
within (x ∷ xs) zero s h = omega arith
within (x ∷ xs) (suc b) s h = let r : b < length xs = within xs b s h in omega arith

numbers_long : (n : ℕ) (ms : List Bool) → length (line_numbers n ms) ≡ length ms
numbers_long n [] = refl
numbers_long n (true ∷ ms) = ap suc (numbers_long (n + 1) ms)
numbers_long n (false ∷ ms) = ap suc (numbers_long n ms)

module _ (env : Environment) (func : HirFunction) (e : Bool)
    (entered : is_some (value_at func.body.blocks func.body.entry) ≡ true) (tables : TableLists)
    (entries : List (Option State)) (recorded : List (Option BlockEffects))
    (s : IsSolution env func e tables entries recorded) (o : Elsewhere env) where
  abbrev pub abroad : Environment
  abroad = elsewhere env o

  pub laws : FlowLaws StateProper Extends (numbered (context_of (elsewhere env o) func e))
      (replicate (length func.body.blocks) None)
  laws = pass_laws (context_of (elsewhere env o) func e) entered (replicate (length func.body.blocks) None)
      (length-replicate (length func.body.blocks) None)

  abbrev each_line : List (Option CertBlock)
  each_line = said_each func.body.blocks entries recorded

  abbrev pub lines : List CertBlock
  lines = those_there each_line

  abbrev line_marks : List Bool
  line_marks = marks_of each_line

  -- the line of a block that has an entry state
  record LineOf (i : ℕ) (x : State) : Type 0 where
    number : ℕ
    effects : BlockEffects
    kept : entry_at recorded i ≡ Some effects
    is : entry_at (line_numbers 0 line_marks) i ≡ Some number
    there : slice_get lines number ≡ Some (said_block (block_at func.body.blocks i) x effects)
    said : entry_at each_line i ≡ Some (said_block (block_at func.body.blocks i) x effects)

  line_of : (i : ℕ) (x : State) → entry_at entries i ≡ Some x → LineOf i x
  line_of i x h =
      let r = s.records i x h in
      let lt : i < length entries = within entries i x h in
      let count : length entries ≡ length func.body.blocks = s.solved.count in
      let here : entry_at each_line i ≡ Some (said_block (block_at func.body.blocks i) x r.1) =
      said_at func.body.blocks entries recorded i x r.1 (omega (arith, lt, count)) h r.3 in
      let t = stands [] each_line i (said_block (block_at func.body.blocks i) x r.1) here in
      record { number = t.number; effects = r.1; kept = r.3; is = t.is; there = t.there; said = here }

  no_line : (i : ℕ) → entry_at entries i ≡ None → entry_at each_line i ≡ None
  no_line i h = said_nothing func.body.blocks entries recorded i h

  -- ---- which blocks are reached

  mark_of : (i : ℕ) → get_or (reached_marks (rules_of (elsewhere env o) func e)) i false ≡ get_or line_marks i false
  mark_of i = ⊎_elim
      (λ h.
      let reached = marked_is_reached laws i h in
      let x = some_state (entry_at entries i) (s.solved.solves.reached i (reached_here env o func e i reached)) in
      h ∙ sym (mark_at each_line i ∙ ap is_some (line_of i x.0 x.1).said))
      (λ h.
      let nothing : entry_at entries i ≡ None = none_here i h (entry_at entries i) refl in
      h ∙ sym (mark_at each_line i ∙ ap is_some (no_line i nothing)))
      (true_or_false (get_or (reached_marks (rules_of (elsewhere env o) func e)) i false))
    where
      some_state : (o : Option State) → is_some o ≡ true → (x : State) × (o ≡ Some x)
      some_state None h = cc
      some_state (Some x) h = (x, refl)

      none_here : (i : ℕ) → get_or (reached_marks (rules_of (elsewhere env o) func e)) i false ≡ false
          → (o : Option State) → entry_at entries i ≡ o → entry_at entries i ≡ None
      none_here i h None is = is
      none_here i h (Some x) is = let marked : get_or (reached_marks (rules_of (elsewhere env o) func e)) i false
          ≡ true = reached_is_marked laws i (reached_there env o func e i (s.solved.solves.only_reached i x is)) in cc

  marks_are : reached_marks (rules_of (elsewhere env o) func e) ≡ line_marks
  marks_are =
      same_marks (reached_marks (rules_of (elsewhere env o) func e)) line_marks
      (rounds_length (rules_of (elsewhere env o) func e).flow.edges (length func.body.blocks) (length func.body.blocks)
      _ ∙ length-set (replicate (length func.body.blocks) false) (rules_of (elsewhere env o) func e).flow.entry true
      ∙ length-replicate (length func.body.blocks) false
      ∙ sym (marks_long each_line ∙ said_long func.body.blocks entries recorded s.solved.count s.count))
      mark_of

  -- ---- the parts of the check

  counted_elsewhere : (done rest : List Temporary) → AreCounted env done rest → AreCounted (elsewhere env o) done rest
  counted_elsewhere done [] c = tt
  counted_elsewhere done (x ∷ rest) c = (
    c.0,
    c.1,
    subst (λ n. is_key_there (length env.identifiers + length done) n x.key ≡ true)
        (same_length env.functions o.functions o.alike) c.2,
    c.3,
    counted_elsewhere (done ++ x ∷ []) rest c.4,
  )

  module _ (id : Option FunctionId) (summary : List (List ℕ)) where
    abbrev pub c : CertFunction
    c = said_function id func entries recorded tables.temporaries summary

    numbers_are : numbers c abroad func e ≡ line_numbers 0 line_marks
    numbers_are = ap (line_numbers 0) marks_are

    line_at_number : (i k : ℕ) → entry_at (line_numbers 0 line_marks) i ≡ Some k → (b : CertBlock)
        × (slice_get lines k ≡ Some b) × (b.block ≡ block_at func.body.blocks i)
    line_at_number i k h = ⊎_elim
        (λ x. let l = line_of i x.0 x.1 in let two : Some l.number ≡ Some k = sym l.is ∙ h in let same : l.number ≡ k =
        cc in (
          said_block (block_at func.body.blocks i) x.0 l.effects,
          ap (slice_get lines) (sym same) ∙ l.there,
          refl,
        ))
        (λ none. let two : None ≡ Some k = sym (no_number 0 each_line i (no_line i none)) ∙ h in cc)
        (some_or_none (entry_at entries i))

    lines_ok : lines_checked c abroad func e ≡ Ok tt
    lines_ok =
        ap (λ b. if b then Ok tt else Err (fault.Blocks id))
        (ap (are_lines lines func.body.blocks) marks_are
        ∙ are_lines_of lines func.body.blocks line_marks (count_is each_line) line_at_number)

    abbrev count : ℕ
    count = length env.identifiers + length (map said_temporary tables.temporaries)

    entry_ok : (i : ℕ) → entry_stated id count (created_functions func) lines (entry_at (line_numbers 0 line_marks) i)
        ≡ Ok (entry_at entries i)
    entry_ok i = ⊎_elim
        (λ x.
        let l = line_of i x.0 x.1 in
        let names = subst (λ n. NamesThere (length env.identifiers + n) (created_functions func) x.0)
        (sym (length-map tables.temporaries said_temporary)) (s.names.states i x.0 x.1) in
        ap (entry_stated id count (created_functions func) lines) l.is
        ∙ ap (line_state id count (created_functions func) lines) l.there
        ∙ ap (state_or_fault id count (created_functions func) lines (block_at func.body.blocks i))
        (state_rebuilt x.0 (s.solved.proper i x.0 x.1) count (created_functions func) (block_at func.body.blocks i)
        l.effects names)
        ∙ ap Ok (sym x.1))
        (λ none. ap (entry_stated id count (created_functions func) lines) (no_number 0 each_line i (no_line i none))
        ∙ ap Ok (sym none))
        (some_or_none (entry_at entries i))

    entries_ok : entries_checked c abroad func e ≡ Ok entries
    entries_ok =
        ap (entries_stated id count (created_functions func) lines []) numbers_are
        ∙ each_stated id count (created_functions func) lines [] entries (line_numbers 0 line_marks)
        (numbers_long 0 line_marks ∙ marks_long each_line
        ∙ said_long func.body.blocks entries recorded s.solved.count s.count ∙ sym s.solved.count) entry_ok

    claimed_at : (i : ℕ) (x y : State) (k q : BlockEffects) → entry_at entries i ≡ Some x
        → (rules env func e).flow.step tables i x ≡ Stepped y tables k → AlikeRecorded k q
        → is_claimed_at lines q (entry_at (numbers c abroad func e) i) ≡ true
    claimed_at i x y k q h step a =
        let l = line_of i x h in
        let r = s.records i x h in
        let two : Stepped r.0 tables r.1 ≡ Stepped y tables k = sym r.2 ∙ step in
        let same : r.1 ≡ k = cc in
        let some : Some r.1 ≡ Some l.effects = sym r.3 ∙ l.kept in
        let effects : l.effects ≡ k = cc in
        ap (λ ns. is_claimed_at lines q (entry_at ns i)) numbers_are
        ∙ ap (is_claimed_at lines q) l.is
        ∙ ap (λ o. option_map_or (is_claimed q) o false) l.there
        ∙ block_claimed (block_at func.body.blocks i) x l.effects q (subst (λ z. AlikeRecorded z q) (sym effects) a)

    -- what is asked of the steps
    abbrev pub asked : TableLists → ℕ → BlockEffects → Option Difference
    asked = differs lines (numbers c abroad func e) (length (map said_temporary tables.temporaries))

    claimed : AreClaimedAlike env func e tables entries asked
    claimed i x y k h step t q like a =
        let long : length (map said_temporary tables.temporaries) ≡ length t.temporaries =
        length-map tables.temporaries said_temporary ∙ same_length tables.temporaries t.temporaries like in
        ap (λ b. if b then Some MissingTemporary
        else (if is_claimed_at lines q (entry_at (numbers c abroad func e) i) then None else Some Effects))
        (le-ltb (length (map said_temporary tables.temporaries)) (length t.temporaries) (omega arith))
        ∙ ap (λ b. let o : Option Difference = if b then None else Some Effects in o) (claimed_at i x y k q h step a)

    -- the tables that the check begins with
    pub remade : AreStated id abroad tables.temporaries
        (temporaries_stated id abroad (map said_temporary tables.temporaries) (tables_of abroad))
    remade = counted_stated id abroad [] tables.temporaries (tables_of abroad) none
        (counted_elsewhere [] tables.temporaries s.names.temporaries)

    abbrev pub begun : TableLists
    begun = remade.tables

    pub before : function_solved c abroad func e
        ≡ (steps_checked c abroad func e entries begun >>= (λ w. Ok (checked_end c abroad func e entries w)))
    before =
        ap (λ r. r >>= (λ u. entries_checked c abroad func e
        >>= (λ xs. temporaries_stated id abroad (map said_temporary tables.temporaries) (tables_of abroad)
        >>= (λ t. steps_checked c abroad func e xs t >>= (λ w. Ok (checked_end c abroad func e xs w)))))) lines_ok
        ∙ ap (λ r. r >>= (λ xs. temporaries_stated id abroad (map said_temporary tables.temporaries) (tables_of abroad)
        >>= (λ t. steps_checked c abroad func e xs t >>= (λ w. Ok (checked_end c abroad func e xs w))))) entries_ok
        ∙ ap (λ r. r >>= (λ t. steps_checked c abroad func e entries t
        >>= (λ w. Ok (checked_end c abroad func e entries w)))) remade.is

    finished : IsAcceptedOrFull env func e tables
        (solution_checked state_join state_below (rules_of (elsewhere env o) func e) asked entries begun
        (replicate (length func.body.blocks) None)) → IsCertified env func e (function_solved c abroad func e)
    finished (accepted w is like) =
        certified (checked_end c abroad func e entries w)
        (before ∙ ap (λ r. faulted id abroad func.body.blocks r
        >>= (λ w. Ok (checked_end c abroad func e entries w))) is)
    finished (full b i is) = full_certificate
        (before ∙ ap (λ r. faulted id abroad func.body.blocks r >>= (λ w. Ok (checked_end c abroad func e entries w)))
        is)

    -- the steps are accepted, or no number is left for a report
    pub steps_accepted : IsAcceptedOrFull env func e tables
        (solution_checked state_join state_below (rules_of (elsewhere env o) func e) asked entries begun
        (replicate (length func.body.blocks) None))
    steps_accepted = accepts_anyway env func e entered tables entries s.solved o asked claimed begun remade.alike

    certifies : IsCertified env func e (function_solved c abroad func e)
    certifies = finished steps_accepted

pub accepted_as_said : (env : Environment) (func : HirFunction) (e : Bool)
    → is_some (value_at func.body.blocks func.body.entry) ≡ true
    → (tables : TableLists) (entries : List (Option State)) (recorded : List (Option BlockEffects))
    → IsSolution env func e tables entries recorded → IsAcceptedAsSaid env func e tables entries recorded
accepted_as_said env func e entered tables entries recorded s o id summary =
    certifies env func e entered tables entries recorded s o id summary
