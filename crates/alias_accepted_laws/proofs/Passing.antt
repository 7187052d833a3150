-- The check of a function follows its effects pass: it accepts what is said of it, and ends with what is alike.
use Rattle.std.specs.Prelude.{replicate, Result, map, slice_get}
use Rattle.std.proofs.Common.{◌≡◌, ℕ, ◌+◌, ◌<◌, Bool, true, List, [], ◌∷◌, ◌++◌, length, Option, Some, None, Ok, refl}
use Rattle.std.proofs.Common.{ap, sym, ◌∙◌, subst}
use Rattle.std.specs.List.{AllByRecursion}
use Rattle.std.specs.Option.{is_some}
use Rattle.alias_base.specs.Find.{value_at}
use Rattle.alias_base.specs.declared.ids.BlockId.{BlockId}
use Rattle.alias_base.specs.declared.ids.FunctionId.{FunctionId}
use Rattle.alias_hir.specs.declared.env.Environment.{Environment}
use Rattle.alias_hir.specs.declared.env.Identifier.{Identifier}
use Rattle.alias_hir.specs.declared.hir.BasicBlock.{BasicBlock}
use Rattle.alias_facts.specs.Handlers.{binding_at}
use Rattle.alias_hir.specs.declared.hir.HirFunction.{HirFunction}
use Rattle.alias_hir.specs.declared.place.Place.{Place}
use Rattle.alias_lattice.specs.Flows.{IsReached, at_entry, by_edge}
use Rattle.alias_lattice.specs.States.{State, state_join, state_below}
use Rattle.alias_flow.specs.Machine.{SolverState, VisitLog, Solved}
use Rattle.alias_flow.specs.RecordingLaws.{HoldsOf, AllHold}
use Rattle.alias_flow.specs.Solutions.{entry_at}
use Rattle.alias_rules.specs.Fitting.{function_fits}
use Rattle.alias_rules.specs.RuleLaws.{fitting_entry}
use Rattle.alias_tables.specs.Tables.{TableLists, has_room}
use Rattle.alias_tables.specs.declared.temporaries.Temporary.{Temporary}
use Rattle.alias_step.specs.block.Contexts.{context_of}
use Rattle.alias_step.specs.declared.block.recorded.BlockEffects.{BlockEffects}
use Rattle.alias_step_laws.specs.blocks.BlockLaws.{StateWithin}
use Rattle.alias_tables.specs.write_back.WriteBack.{tables_of}
use Rattle.alias_effects.specs.Inference.{end_of}
use Rattle.alias_effects.specs.Numbered.{numbered, visits_end}
use Rattle.alias_effects.specs.Recording.{with_effects_of}
use Rattle.alias_effects.specs.declared.output.PassEnd.{PassEnd}
use Rattle.alias_nested.specs.Created.{created_functions}
use Rattle.alias_certificate.specs.declared.certificate.CertFunction.{CertFunction}
use Rattle.alias_certificate.specs.declared.fault.CheckFault.{CheckFault}
use Rattle.alias_cert.specs.function.Functions.{checked_end, function_solved}
use Rattle.alias_cert.specs.function.Temporaries.{is_key_there}
use Rattle.alias_effects_laws.proofs.entries.Blocks.{AreNamed, ReturnNamed}
use Rattle.alias_effects_laws.proofs.entries.Entries.{bindings_named, return_named, tables_named, instructions_named}
use Rattle.alias_effects_laws.proofs.entries.Keeping.{at_holds}
use Rattle.alias_effects_laws.proofs.entries.Counting.{EffectNamed, ReadsHave, Counted}
use Rattle.alias_effects_laws.proofs.entries.NamedLaw.{InTable, IsThere}
use Rattle.alias_effects_laws.proofs.entries.States.{Stating}
use Rattle.alias_certificate_laws.specs.accepting.Alike.{none, AlikeTemporaries, Elsewhere, elsewhere}
use Rattle.alias_certificate_laws.specs.accepting.Certifying.{NamesItsOwn}
use Rattle.alias_certificate_laws.specs.accepting.Saying.{NamesThere, AreCounted, said_temporary, said_function}
use Rattle.alias_certificate_laws.proofs.accepting.Calling.{same_length}
use Rattle.alias_certificate_laws.proofs.accepting.Elsewhere.{context_at_elsewhere}
use Rattle.alias_certified_laws.specs.Names.{NamesAreThere}
use Rattle.alias_accepted_laws.specs.Following.{SeenAlike, OrFull, done, full, ReadsAreSetIn, EndsAlike}
use Rattle.alias_accepted_laws.specs.Following.{PassesAreFollowed}
use Rattle.alias_range_alike_laws.specs.Ranging.{CarriesAlike}
use Rattle.alias_accepted_laws.specs.Spans.{with_ids, SpansAreNotRead}
use Rattle.alias_accepted_laws.proofs.Carrying.{instructions_alike, terminals_alike, recorded_carry}
use Rattle.alias_accepted_laws.proofs.Certifying.{EndsSo, certifies}
use Rattle.alias_accepted_laws.proofs.Checking.{check_keeps_tables}
use Rattle.alias_accepted_laws.proofs.Noting.{IsFresh, stated_fresh, numbered_too, in_table_too, return_too, named_too}
use Rattle.alias_accepted_laws.proofs.Noting.{there_too, AnyNumber, any_stating, flow_counts}
use Rattle.alias_accepted_laws.proofs.Reading.{CreatedThere, reached_create, Own, all_set}
use Rattle.alias_accepted_laws.proofs.Solved.{IsSolved, is_solved, solution, others}

or_full_map : {A : Type 0} {P : A → Type 0} (Q : A → Type 0) (r : Result A CheckFault) → OrFull P r
    → ((x : A) → r ≡ Ok x → P x → Q x) → OrFull Q r
or_full_map Q r (done x is p) h = done x is (h x is p)
or_full_map Q r (full is) h = full is

-- ---- names over other spans

module _ (env : Environment) (ids : List Identifier) (long : length env.identifiers ≡ length ids) where
  counted_too : (earlier rest : List Temporary) → AreCounted env earlier rest
      → AreCounted (with_ids env ids) earlier rest
  counted_too earlier [] c = tt
  counted_too earlier (x ∷ rest) c = (
    c.0 ∙ ap (λ n. n + length earlier) long,
    c.1,
    subst (λ n. is_key_there (n + length earlier) (length env.functions) x.key ≡ true) long c.2,
    subst (λ n. has_room n (length env.types) (length earlier) ≡ true) long c.3,
    counted_too (earlier ++ x ∷ []) rest c.4,
  )

  names_too : (func : HirFunction) (e : Bool) (tables : TableLists) (entries : List (Option State))
      → NamesItsOwn env func e tables entries → NamesItsOwn (with_ids env ids) func e tables entries
  names_too func e tables entries names = record {
    states = λ b s is. subst (λ n. NamesThere (n + length tables.temporaries) (created_functions func) s) long
        (names.states b s is);
    temporaries = counted_too [] tables.temporaries names.temporaries;
  }

-- ---- the check

module _ (names : NamesAreThere) (spans : SpansAreNotRead) (env other : Environment) (func : HirFunction) (b : Bool)
    (w : SolverState (VisitLog State) TableLists BlockEffects) (fits : function_fits func env ≡ true)
    (ends : visits_end (context_of env func b) ≡ Solved w) (seen : SeenAlike env other) (id : Option FunctionId)
    (summary : List (List ℕ)) where
  abbrev here : Environment
  here = with_ids env other.identifiers

  entered : is_some (value_at func.body.blocks func.body.entry) ≡ true
  entered = fitting_entry func env fits

  ends_here : visits_end (context_of here func b) ≡ Solved w
  ends_here = spans env other.identifiers func b seen.identifiers ∙ ends

  names_here : NamesItsOwn here func b w.tables w.progress.joined_input
  names_here = names_too env other.identifiers (same_length env.identifiers other.identifiers seen.identifiers) func b
      w.tables w.progress.joined_input (names env func b w fits ends)

  abbrev away : Elsewhere here
  away = record { functions = other.functions; interned = other.interned; alike = seen.functions }

  it : elsewhere here away ≡ other
  it = ap (λ (z : Environment). record z {
    identifiers = other.identifiers;
    functions = other.functions;
    interned = other.interned;
  }) (sym seen.rest)

  abbrev said : CertFunction
  said = said_function id func w.progress.joined_input w.recorded w.tables.temporaries summary

  abbrev SaidSo : PassEnd → Type 0
  SaidSo = EndsSo here func b entered w.tables w.progress.joined_input w.recorded
      (solution here func b entered w ends_here names_here) (others here func b entered w ends_here) away id summary

  carries : (o : PassEnd) → SaidSo o → CarriesAlike (with_effects_of (end_of func w).solved func)
      (with_effects_of o.solved func)
  carries o p =
      subst (λ (z : PassEnd). CarriesAlike (with_effects_of (end_of func w).solved func)
      (with_effects_of z.solved func)) p.is
      (recorded_carry func (end_of func w).solved
      (checked_end said (elsewhere here away) func b w.progress.joined_input p.left).solved
      (instructions_alike w.recorded p.left.recorded p.records)
      (terminals_alike w.recorded p.left.recorded p.records))

  -- ---- what the check notes of context places

  abbrev abroad : Environment
  abroad = elsewhere here away

  solved : IsSolved here func b w
  solved = is_solved here func b entered w ends_here

  named : AllHold (λ s. StateWithin env s
      × Stating (λ n. n < length env.identifiers + length w.tables.temporaries) (Own env func b w fits ends) s)
      w.progress.joined_input × Counted env (Own env func b w fits ends) w.tables
  named = tables_named func env b fits (CreatedThere env func b) (reached_create env func b) w ends

  ids_long : length env.identifiers ≡ length abroad.identifiers
  ids_long = same_length env.identifiers other.identifiers seen.identifiers

  functions_long : length env.functions ≡ length abroad.functions
  functions_long = same_length env.functions other.functions seen.functions

  reached_back : (n : ℕ) → IsReached (numbered (context_of abroad func b)).flow n
      → IsReached (numbered (context_of env func b)).flow n
  reached_back n at_entry = at_entry
  reached_back n (by_edge a c r one) = by_edge a c (reached_back a r) one

  reached_on : (n : ℕ) → IsReached (numbered (context_of here func b)).flow n
      → IsReached (numbered (context_of abroad func b)).flow n
  reached_on n at_entry = at_entry
  reached_on n (by_edge a c r one) = by_edge a c (reached_on a r) one

  functions_there : (f : FunctionId) → Own env func b w fits ends f → IsThere abroad f
  functions_there f h = there_too env abroad ids_long refl functions_long (Own env func b w fits ends)
      (context_at_elsewhere here away) f h.1

  bindings_there : (d : BlockId) (p : Place) → binding_at (context_of abroad func b).facts.handlers d ≡ Some p
      → InTable abroad p
  bindings_there d p e = in_table_too env abroad ids_long refl functions_long p (bindings_named func env b fits d p e)

  return_there : (n : ℕ) (block : BlockId × BasicBlock) → slice_get func.body.blocks n ≡ Some block
      → ReturnNamed abroad block.1.terminal
  return_there n block at = return_too env abroad ids_long refl functions_long block.1.terminal
      (return_named func env b fits n block at)

  named_there : (n : ℕ) (block : BlockId × BasicBlock) → IsReached (numbered (context_of abroad func b)).flow n
      → slice_get func.body.blocks n ≡ Some block
      → AreNamed abroad (Own env func b w fits ends) func block.1.instructions
  named_there n block reached at =
      named_too env abroad ids_long refl functions_long (Own env func b w fits ends) (context_at_elsewhere here away)
      func block.1.instructions
      (instructions_named func env b fits (CreatedThere env func b) (reached_create env func b) n block
      (reached_back n reached) at)

  state_has : (o : Option State) (x : State) → o ≡ Some x
      → HoldsOf (λ s. StateWithin env s × Stating (λ n. n < length env.identifiers + length w.tables.temporaries)
      (Own env func b w fits ends) s) o → Stating AnyNumber (Own env func b w fits ends) x
  state_has None x e h = cc
  state_has (Some s) x e h = let same : s ≡ x = cc in
      subst (Stating AnyNumber (Own env func b w fits ends)) same (any_stating _ (Own env func b w fits ends) s h.1)

  states_there : (n : ℕ) (x : State) → entry_at w.progress.joined_input n ≡ Some x
      → Stating AnyNumber (Own env func b w fits ends) x
  states_there n x is = state_has (entry_at w.progress.joined_input n) x is
      (at_holds _ w.progress.joined_input n named.0)

  noted : (o : PassEnd) (p : SaidSo o) → ReadsHave (Own env func b w fits ends) p.left.tables.reads
  noted o p =
      let fresh : IsFresh p.begun_tables = stated_fresh id abroad (map said_temporary w.tables.temporaries)
      (tables_of abroad) p.begun_tables (record { first = refl; reads = refl }) p.stated in
      let counted : Counted abroad (Own env func b w fits ends) p.begun_tables = record {
        first = subst (AllByRecursion (EffectNamed abroad (Own env func b w fits ends) p.begun_tables))
            (sym fresh.first) tt;
        temporaries =
            numbered_too env abroad ids_long refl functions_long [] [] w.tables.temporaries p.begun_tables.temporaries
            none p.likes
            named.1.temporaries;
        reads = subst (ReadsHave (Own env func b w fits ends)) (sym fresh.reads) tt;
      } in
      (check_keeps_tables state_join state_below (numbered (context_of abroad func b)) p.claims w.progress.joined_input
      (Counted abroad (Own env func b w fits ends))
      (λ t n x y u k is c step.
      flow_counts abroad func b (Own env func b w fits ends) functions_there named_there bindings_there return_there n t
      x y u k (reached_on n (solved.solves.only_reached n x is)) (states_there n x is) c step)
      p.begun_tables (replicate (length func.body.blocks) None) p.left counted p.ended).reads

  ends_alike : (o : PassEnd) → function_solved said (elsewhere here away) func b ≡ Ok o → SaidSo o
      → EndsAlike func (end_of func w) o
  ends_alike o is p = record {
    temporaries = subst (λ (z : PassEnd). AlikeTemporaries w.tables.temporaries z.solved.temporaries) p.is
        p.temporaries;
    carries = carries o p;
    reads = subst (λ (z : PassEnd). ReadsAreSetIn (with_effects_of (end_of func w).solved func) z.reads) p.is
        (all_set env func b w fits ends p.left.tables.reads (noted o p));
  }

  follows : OrFull (EndsAlike func (end_of func w)) (function_solved said other func b)
  follows =
      subst (λ (z : Environment). OrFull (EndsAlike func (end_of func w)) (function_solved said z func b)) it
      (or_full_map (EndsAlike func (end_of func w)) (function_solved said (elsewhere here away) func b)
      (certifies here func b entered w.tables w.progress.joined_input w.recorded
      (solution here func b entered w ends_here names_here) (others here func b entered w ends_here) away id
      summary) ends_alike)

-- by the names that are there, and that no span is read
pub passes_followed : NamesAreThere → SpansAreNotRead → PassesAreFollowed
passes_followed names spans env other func b w fits ends seen id summary =
    follows names spans env other func b w fits ends seen id summary
