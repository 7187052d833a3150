-- The check of a function accepts the certificate that says its solution, and ends with what is alike.
use Rattle.std.specs.Prelude.{map, slice_get, Result}
use Rattle.std.proofs.Common.{◌≡◌, ℕ, zero, suc, ◌⊎◌, ⊎_elim, Bool, true, List, [], ◌∷◌, length, replicate, Option}
use Rattle.std.proofs.Common.{Some, None, Ok, Err, refl, ap, sym, ◌∙◌, subst, arith}
use Rattle.std.specs.Option.{is_some}
use Rattle.alias_base.specs.Answer.{◌>>=◌}
use Rattle.alias_base.specs.Find.{value_at}
use Rattle.alias_base.specs.declared.ids.FunctionId.{FunctionId}
use Rattle.alias_hir.specs.declared.env.Environment.{Environment}
use Rattle.alias_hir.specs.declared.hir.HirFunction.{HirFunction}
use Rattle.alias_base.specs.declared.ids.BlockId.{BlockId}
use Rattle.alias_hir.specs.declared.hir.BasicBlock.{BasicBlock}
use Rattle.alias_lattice.specs.Flows.{Stepped, IsReached}
use Rattle.alias_lattice.specs.JoinLaws.{state_laws}
use Rattle.alias_lattice.specs.States.{State, state_join, state_below}
use Rattle.alias_flow.specs.Solutions.{entry_at, RecordsSteps, KeepsOthers}
use Rattle.alias_flow.specs.check.Checks.{Arriving, solution_checked}
use Rattle.alias_flow.proofs.check.Solves.{check_keeps, check_keeps_others, check_keeps_count}
use Rattle.alias_tables.specs.GrowingLaws.{grows_self}
use Rattle.alias_tables.specs.Tables.{TableLists}
use Rattle.alias_tables.specs.declared.temporaries.Temporary.{Temporary}
use Rattle.alias_step.specs.block.Blocks.{infer_block}
use Rattle.alias_step.specs.block.Contexts.{BlockContext, context_of}
use Rattle.alias_step.specs.block.Recorded.{no_effects}
use Rattle.alias_step.specs.declared.block.faults.BlockRefusal.{BlockRefusal}
use Rattle.alias_step.specs.declared.block.recorded.BlockEffects.{BlockEffects}
use Rattle.alias_tables.specs.write_back.WriteBack.{tables_of}
use Rattle.alias_effects.specs.FunctionFlow.{outcome_of}
use Rattle.alias_effects.specs.Numbered.{step_at}
use Rattle.alias_effects.specs.declared.output.PassEnd.{PassEnd}
use Rattle.alias_certificate.specs.declared.certificate.CertFunction.{CertFunction}
use Rattle.alias_certificate.specs.declared.fault.CheckFault.TheVariants as fault
use Rattle.alias_cert.specs.declared.function.claims.Difference.{Difference}
use Rattle.alias_cert.specs.function.Faults.{faulted}
use Rattle.alias_cert.specs.function.Functions.{checked_end, function_solved}
use Rattle.alias_cert.specs.function.Temporaries.{temporaries_stated}
use Rattle.alias_certificate_laws.specs.accepting.Accepting.{rules, rules_of, IsAcceptedOrFull, accepted, full}
use Rattle.alias_certificate_laws.specs.accepting.Alike.{Paired, none, more, Maybe, nothing, just, AlikeTemporaries}
use Rattle.alias_certificate_laws.specs.accepting.Alike.{Gives, given, excused, Elsewhere, elsewhere}
use Rattle.alias_certificate_laws.specs.accepting.AlikeBlocks.{AlikeRecorded, AlikeOut, out, IsBlockFull}
use Rattle.alias_certificate_laws.specs.accepting.Certifying.{IsSolution}
use Rattle.alias_certificate_laws.specs.accepting.Saying.{said_temporary, said_function}
use Rattle.alias_certificate_laws.proofs.accepting.Blocking.{away, same_infer_block}
use Rattle.alias_certificate_laws.proofs.accepting.Certifying.{some_or_none, laws, asked as asked_of, remade}
use Rattle.alias_certificate_laws.proofs.accepting.Certifying.{begun as begun_of, before, steps_accepted}
use Rattle.alias_certificate_laws.proofs.accepting.Knowing.{facts_elsewhere}
use Rattle.alias_certificate_laws.proofs.accepting.Solutions.{stepped_is, reached_there}
use Rattle.alias_accepted_laws.specs.Following.{OrFull, done, full as full_check}

none_of : {A : Type 0} (n b : ℕ) → entry_at {P = A} (replicate n None) b ≡ None
none_of zero b = refl
none_of (suc n) zero = refl
none_of (suc n) (suc b) = none_of n b

-- two lists of the same length, item by item
paired_at : {A : Type 0} {Q : A → A → Type 0} (xs ys : List (Option A)) → length xs ≡ length ys
    → ((b : ℕ) → Maybe Q (entry_at xs b) (entry_at ys b)) → Paired (Maybe Q) xs ys
paired_at [] [] l h = none
paired_at [] (y ∷ ys) l h = cc
paired_at (x ∷ xs) [] l h = cc
paired_at (x ∷ xs) (y ∷ ys) l h = more (h zero)
    (paired_at xs ys (let e : suc (length xs) ≡ suc (length ys) = l in omega arith) (λ b. h (suc b)))

-- ---- what a block records elsewhere, under tables whose temporaries are alike

abbrev Gave : Type 0
Gave = (State × BlockEffects) × TableLists

ok_same : (x y : Gave) → ◌≡◌ {A = Result Gave BlockRefusal} (Ok x) (Ok y) → x ≡ y
ok_same x y h = cc

not_both : (c : BlockRefusal) (y : Gave) {B : Type 0} → ◌≡◌ {A = Result Gave BlockRefusal} (Err c) (Ok y) → B
not_both c y h = cc

-- the same step, and so what it gave
given_alike : (whole : List Temporary) (y z : State) (k q : BlockEffects) (u : TableLists)
    (r : Result Gave BlockRefusal) → r ≡ Ok ((z, q), u) → Gives IsBlockFull whole AlikeOut (y, k) r → AlikeRecorded k q
given_alike whole y z k q u r is (given p v now (out _ _ other a) likes) =
    subst (AlikeRecorded k) (ap (λ (g : Gave). g.0.1) (ok_same ((y, other), v) ((z, q), u) (sym now ∙ is))) a
given_alike whole y z k q u r is (excused c now why) = not_both c ((z, q), u) (sym now ∙ is)

module _ (env : Environment) (func : HirFunction) (e : Bool) (o : Elsewhere env) where
  abbrev here : BlockContext
  here = context_of env func e

  context_there : context_of (elsewhere env o) func e ≡ away here o
  context_there = ap (λ k. let c : BlockContext =
      record { env = elsewhere env o; func = func; facts = k; is_function_expression = e } in c)
      (facts_elsewhere env o func)

  block_steps_alike : (block : BlockId × BasicBlock) (x y z : State) (k q : BlockEffects) (tables there : TableLists)
      → infer_block here block.0 block.1 x tables ≡ Ok ((y, k), tables)
      → infer_block (away here o) block.0 block.1 x there ≡ Ok ((z, q), there)
      → AlikeTemporaries tables.temporaries there.temporaries → AlikeRecorded k q
  block_steps_alike block x y z k q tables there first second likes =
      given_alike tables.temporaries y z k q there (infer_block (away here o) block.0 block.1 x there) second
      ((same_infer_block here o block.0 block.1 x).again tables tables there (y, k) first
      (grows_self tables.temporaries) likes)

  steps_alike_at : (x y z : State) (k q : BlockEffects) (tables there : TableLists) (b : Option (BlockId × BasicBlock))
      → step_at here b tables x ≡ Stepped y tables k → step_at (context_of (elsewhere env o) func e) b there x
      ≡ Stepped z there q
      → AlikeTemporaries tables.temporaries there.temporaries → AlikeRecorded k q
  steps_alike_at x y z k q tables there None first second likes =
      let mine : no_effects ≡ k = cc in
      let other : no_effects ≡ q = cc in
      subst (λ r. AlikeRecorded r q) mine (subst (λ r. AlikeRecorded no_effects r) other
      (record { instructions = none; terminal = none }))
  steps_alike_at x y z k q tables there (Some block) first second likes =
      block_steps_alike block x y z k q tables there
      (stepped_is (infer_block here block.0 block.1 x tables) y k tables first)
      (stepped_is (infer_block (away here o) block.0 block.1 x there) z q there
      (ap (λ c. outcome_of (infer_block c block.0 block.1 x there)) (sym context_there) ∙ second)) likes

  steps_alike : (b : ℕ) (x y z : State) (k q : BlockEffects) (tables there : TableLists)
      → (rules env func e).flow.step tables b x ≡ Stepped y tables k
      → (rules_of (elsewhere env o) func e).flow.step there b x ≡ Stepped z there q
      → AlikeTemporaries tables.temporaries there.temporaries → AlikeRecorded k q
  steps_alike b x y z k q tables there first second likes =
      steps_alike_at x y z k q tables there (slice_get func.body.blocks b) first second likes

module _ (env : Environment) (func : HirFunction) (e : Bool)
    (entered : is_some (value_at func.body.blocks func.body.entry) ≡ true) (tables : TableLists)
    (entries : List (Option State)) (recorded : List (Option BlockEffects))
    (s : IsSolution env func e tables entries recorded)
    (others : KeepsOthers (entry_at entries) (replicate (length func.body.blocks) None) recorded)
    (o : Elsewhere env) (id : Option FunctionId) (summary : List (List ℕ)) where
  abbrev abroad : Environment
  abroad = elsewhere env o

  abbrev c : CertFunction
  c = said_function id func entries recorded tables.temporaries summary

  abbrev asked : TableLists → ℕ → BlockEffects → Option Difference
  asked = asked_of env func e entered tables entries recorded s o id summary

  abbrev begun : TableLists
  begun = begun_of env func e entered tables entries recorded s o id summary

  -- ---- what the check ends with

  -- what its blocks record is alike, and so are its temporaries
  pub record EndsSo (p : PassEnd) : Type 0 where
    pub left : Arriving State TableLists BlockEffects
    pub is : checked_end c abroad func e entries left ≡ p
    pub temporaries : AlikeTemporaries tables.temporaries left.tables.temporaries
    pub records : Paired (Maybe AlikeRecorded) recorded left.recorded
    -- the tables that it began with, and what it asked of the steps
    pub begun_tables : TableLists
    pub stated : temporaries_stated id abroad (map said_temporary tables.temporaries) (tables_of abroad)
        ≡ Ok begun_tables
    pub likes : AlikeTemporaries tables.temporaries begun_tables.temporaries
    pub claims : TableLists → ℕ → BlockEffects → Option Difference
    pub ended : solution_checked state_join state_below (rules_of (elsewhere env o) func e) claims entries begun_tables
        (replicate (length func.body.blocks) None) ≡ Ok left

  module _ (w : Arriving State TableLists BlockEffects)
      (ended : solution_checked state_join state_below (rules_of (elsewhere env o) func e) asked entries begun
      (replicate (length func.body.blocks) None) ≡ Ok w)
      (like : AlikeTemporaries tables.temporaries w.tables.temporaries) where
    only : (b : ℕ) (x : State) → entry_at entries b ≡ Some x → IsReached (rules_of (elsewhere env o) func e).flow b
    only b x is = reached_there env o func e b (s.solved.solves.only_reached b x is)

    there_keeps : RecordsSteps (rules_of (elsewhere env o) func e).flow w.tables (entry_at entries) w.recorded
    there_keeps = check_keeps state_laws (laws env func e entered tables entries recorded s o) asked entries
        s.solved.proper s.solved.count only begun w ended

    there_others : KeepsOthers (entry_at entries) (replicate (length func.body.blocks) None) w.recorded
    there_others = check_keeps_others state_laws (laws env func e entered tables entries recorded s o) asked entries
        s.solved.proper s.solved.count only begun w ended

    there_long : length w.recorded ≡ length func.body.blocks
    there_long = check_keeps_count state_laws (laws env func e entered tables entries recorded s o) asked entries
        s.solved.proper s.solved.count only begun w ended

    -- what a block recorded here is alike to what it records there
    block_alike : (b : ℕ) (x : State) → entry_at entries b ≡ Some x
        → Maybe AlikeRecorded (entry_at recorded b) (entry_at w.recorded b)
    block_alike b x is =
        let h = s.records b x is in
        let t = there_keeps b x is in
        let a : AlikeRecorded h.1 t.1 = steps_alike env func e o b x h.0 t.0 h.1 t.1 tables w.tables h.2 t.2 like in
        subst (λ p. Maybe AlikeRecorded p (entry_at w.recorded b)) (sym h.3)
        (subst (λ q. Maybe AlikeRecorded (Some h.1) q) (sym t.3) (just a))

    nothing_there : (b : ℕ) → entry_at entries b ≡ None
        → Maybe AlikeRecorded (entry_at recorded b) (entry_at w.recorded b)
    nothing_there b is =
        subst (λ p. Maybe AlikeRecorded p (entry_at w.recorded b))
        (sym (others b is ∙ none_of (length func.body.blocks) b))
        (subst (λ q. Maybe AlikeRecorded None q) (sym (there_others b is ∙ none_of (length func.body.blocks) b))
        nothing)

    each_alike : (b : ℕ) → Maybe AlikeRecorded (entry_at recorded b) (entry_at w.recorded b)
    each_alike b = ⊎_elim (λ x. block_alike b x.0 x.1) (λ none. nothing_there b none)
        (some_or_none (entry_at entries b))

    ends_so : EndsSo (checked_end c abroad func e entries w)
    ends_so = record {
      left = w;
      is = refl;
      temporaries = like;
      records = paired_at recorded w.recorded (s.count ∙ sym there_long) each_alike;
      begun_tables = begun;
      stated = (remade env func e entered tables entries recorded s o id summary).is;
      likes = (remade env func e entered tables entries recorded s o id summary).alike;
      claims = asked;
      ended = ended;
    }

  finished : IsAcceptedOrFull env func e tables
      (solution_checked state_join state_below (rules_of (elsewhere env o) func e) asked entries begun
      (replicate (length func.body.blocks) None)) → OrFull EndsSo (function_solved c abroad func e)
  finished (accepted w is like) =
      done (checked_end c abroad func e entries w)
      (before env func e entered tables entries recorded s o id summary
      ∙ ap (λ r. faulted id abroad func.body.blocks r >>= (λ w. Ok (checked_end c abroad func e entries w))) is)
      (ends_so w is like)
  finished (full b i is) = full_check (before env func e entered tables entries recorded s o id summary
      ∙ ap (λ r. faulted id abroad func.body.blocks r >>= (λ w. Ok (checked_end c abroad func e entries w))) is)

  -- the certificate is accepted, or no number is left for a report
  pub certifies : OrFull EndsSo (function_solved c abroad func e)
  certifies = finished (steps_accepted env func e entered tables entries recorded s o id summary)
