-- What the check of a function notes of context places is of functions that an instruction creates that carries an
-- effect afterwards.
use Rattle.std.specs.Prelude.{◌≡◌, ℕ, ◌+◌, ◌<◌, cond, Bool, true, false, if◌then◌else◌, ◌&&◌, ◌==◌, List, [], ◌∷◌, ◌++◌}
use Rattle.std.specs.Prelude.{length, Option, Some, None, Result, Ok, Err, slice_get, refl}
use Rattle.std.proofs.Common.{ap, sym, ◌∙◌, subst}
use Rattle.std.specs.List.{AllByRecursion}
use Rattle.std.specs.Option.{option_map_or}
use Rattle.alias_base.specs.declared.ids.BlockId.{BlockId}
use Rattle.alias_base.specs.declared.ids.FunctionId.{FunctionId}
use Rattle.alias_base.specs.declared.ids.InstructionId.{InstructionId}
use Rattle.alias_hir.specs.Values.{places_of, created}
use Rattle.alias_hir.specs.declared.env.Environment.{Environment}
use Rattle.alias_hir.specs.declared.error.Counter.TheVariants.{Identifiers}
use Rattle.alias_hir.specs.declared.hir.BasicBlock.{BasicBlock}
use Rattle.alias_hir.specs.declared.hir.HirFunction.{HirFunction}
use Rattle.alias_hir.specs.declared.hir.Instruction.{Instruction}
use Rattle.alias_hir.specs.declared.hir.Phi.{Phi}
use Rattle.alias_hir.specs.declared.place.Place.{Place}
use Rattle.alias_hir.specs.declared.terminal.Terminal.{Terminal}
use Rattle.alias_hir.specs.declared.terminal.Terminal.TheVariants.{Return}
use Rattle.alias_visit.specs.Operands.{context_at}
use Rattle.alias_visit.specs.Places.{created_places}
use Rattle.alias_lattice.specs.Flows.{Stepped, IsReached}
use Rattle.alias_lattice.specs.States.{State}
use Rattle.alias_apply.specs.freezing.Contexts.{context_in}
use Rattle.alias_facts.specs.Handlers.{binding_at}
use Rattle.alias_tables.specs.ReplayLaws.{tables_are, not_given}
use Rattle.alias_tables.specs.Tables.{TableLists, new_place, temporary, temporary_after, has_room}
use Rattle.alias_tables.specs.Temporaries.{same_temp, temp_like, temporary_of}
use Rattle.alias_tables.specs.declared.faults.Refusal.{Refusal}
use Rattle.alias_tables.specs.declared.faults.Refusal.TheVariants as refused
use Rattle.alias_tables.specs.declared.temp_key.TempKey.{TempKey}
use Rattle.alias_tables.specs.declared.temporaries.Temporary.{Temporary}
use Rattle.alias_step.specs.block.Contexts.{context_of}
use Rattle.alias_step.specs.block.Blocks.{infer_block}
use Rattle.alias_step.specs.declared.block.recorded.BlockEffects.{BlockEffects}
use Rattle.alias_effects.specs.Numbered.{numbered, step_at}
use Rattle.alias_effects.specs.PassLaws.{outcome_is}
use Rattle.alias_certificate.specs.declared.certificate.CertTemporary.{CertTemporary}
use Rattle.alias_certificate.specs.declared.fault.CheckFault.{CheckFault}
use Rattle.alias_certificate.specs.declared.fault.CheckFault.TheVariants as fault
use Rattle.alias_cert.specs.function.Temporaries.{is_key_there, next_number, given, temporary_stated}
use Rattle.alias_cert.specs.function.Temporaries.{temporaries_stated}
use Rattle.alias_effects_laws.specs.entries.Named.{KeyNamed, AreNumbered}
use Rattle.alias_effects_laws.proofs.entries.Blocks.{OptionNamed, AreNamed, PhisNamed, ReturnNamed, block_named}
use Rattle.alias_effects_laws.proofs.entries.Counting.{Counted}
use Rattle.alias_effects_laws.proofs.entries.Instructions.{InstructionNamed}
use Rattle.alias_effects_laws.proofs.entries.NamedLaw.{InTable, IsThere, Naming}
use Rattle.alias_effects_laws.proofs.entries.States.{Stating, stating_on}
use Rattle.alias_answer_laws.proofs.order.Ordering.{went}
use Rattle.alias_certificate_laws.specs.accepting.Alike.{none, more, moved, of_key, AlikeTemporaries}
use Rattle.alias_certificate_laws.proofs.accepting.Calling.{same_length}
use Rattle.alias_certificate_laws.proofs.accepting.Likeness.{paired_append}

-- ---- the tables that a check begins with

-- nothing is noted, and there is no interned effect yet
pub record IsFresh (t : TableLists) : Type 0 where
  pub first : t.first ≡ []
  pub reads : t.reads ≡ []

made_fresh : (b : Bool) (v t u : TableLists) (p q : Place) (c : Refusal) → IsFresh v
    → (let r : Result (Place × TableLists) Refusal = if b then Ok (q, v) else Err c in r ≡ Ok (p, u)) → IsFresh u
made_fresh true v t u p q c f h = subst IsFresh (tables_are q p v u h) f
made_fresh false v t u p q c f h = not_given c p u h

module _ (function : Option FunctionId) (env : Environment) where
  temporary_fresh : (o : Option Temporary) (key : TempKey) (t u : TableLists) (p : Place) → IsFresh t
      → temporary_after o env key None t ≡ Ok (p, u) → IsFresh u
  temporary_fresh (Some x) key t u p f h = subst IsFresh (tables_are x.place p t u h) f
  temporary_fresh None key t u p f h =
      let q : Place = new_place (length env.identifiers) (length t.temporaries) None in
      made_fresh (has_room (length env.identifiers) (length env.types) (length t.temporaries))
      (record t { temporaries = t.temporaries ++ temporary_of key q ∷ [] }) t u p q (refused.TooMany Identifiers)
      (record { first = f.first; reads = f.reads }) h

  given_fresh : (n : ℕ) (t u : TableLists) (r : Result (Place × TableLists) Refusal)
      → ((p : Place) (v : TableLists) → r ≡ Ok (p, v) → IsFresh v) → given function env n r ≡ Ok u → IsFresh u
  given_fresh n t u (Ok (p, v)) f h = right_fresh (p.identifier.0 == n) h
    where
      right_fresh : (b : Bool) → (let r : Result TableLists CheckFault = if b then Ok v
          else Err (fault.Temporaries function) in r ≡ Ok u) → IsFresh u
      right_fresh true g = let same : v ≡ u = cc in subst IsFresh same (f p v refl)
      right_fresh false g = cc
  given_fresh n t u (Err (refused.TooMany which)) f h = cc
  given_fresh n t u (Err e) f h = cc

  one_fresh : (c : CertTemporary) (t u : TableLists) (b : Bool) → IsFresh t
      → (let r : Result TableLists CheckFault = if b then given function env c.identifier.0 (temporary env c.key None t)
      else Err (fault.Temporaries function) in r ≡ Ok u) → IsFresh u
  one_fresh c t u true f h = given_fresh c.identifier.0 t u (temporary env c.key None t)
      (λ p v e. temporary_fresh (temp_like c.key t.temporaries) c.key t v p f e) h
  one_fresh c t u false f h = cc

  pub stated_fresh : (cs : List CertTemporary) (t u : TableLists) → IsFresh t → temporaries_stated function env cs t
      ≡ Ok u → IsFresh u
  stated_fresh [] t u f h = let same : t ≡ u = cc in subst IsFresh same f
  stated_fresh (c ∷ cs) t u f h =
      let p = went (temporary_stated function env c t) (temporaries_stated function env cs) u h in
      stated_fresh cs p.0 u (one_fresh c t p.0
      (is_key_there (next_number function env t) (length env.functions) c.key
      && (c.identifier.0 == next_number function env t)) f p.1) p.2

-- ---- temporaries that are alike are counted on from the identifiers too

none_alike : (key : TempKey) (xs ys : List Temporary) → AlikeTemporaries xs ys → temp_like key xs ≡ None
    → temp_like key ys ≡ None
none_alike key xs ys none h = refl
none_alike key xs ys (more {xs = us} {ys = vs} (of_key k p q) rest) h =
    elim (same_temp k key) as (λ b. cond b (Some (record { key = k; place = p })) (temp_like key us) ≡ None
    → cond b (Some (record { key = k; place = moved p q })) (temp_like key vs) ≡ None)
    [ true ↦ λ g. cc | false ↦ λ g. none_alike key us vs rest g ] h

module _ (env other : Environment) (identifiers : length env.identifiers ≡ length other.identifiers)
    (types : length env.types ≡ length other.types) (functions : length env.functions ≡ length other.functions) where
  key_too : (n m : ℕ) (key : TempKey) → n ≡ m → KeyNamed n (length env.functions) key
      → KeyNamed m (length other.functions) key
  key_too n m key e h = subst (λ k. KeyNamed k (length other.functions) key) e
      (subst (λ k. KeyNamed n k key) functions h)

  pub numbered_too : (done others xs ys : List Temporary) → AlikeTemporaries done others → AlikeTemporaries xs ys
      → AreNumbered env done xs → AreNumbered other others ys
  numbered_too done others xs ys d none h = tt
  numbered_too done others xs ys d (more {xs = us} {ys = vs} (of_key k p q) rest) h =
      let long : length done ≡ length others = same_length done others d in
      let next : length env.identifiers + length done ≡ length other.identifiers + length others =
      ap (λ n. n + length done) identifiers ∙ ap (λ n. length other.identifiers + n) long in (
        (
          h.0.0 ∙ next,
          none_alike k done others d h.0.1,
          key_too (length env.identifiers + length done) (length other.identifiers + length others) k next h.0.2,
          ap (λ n. has_room n (length other.types) (length others)) (sym identifiers)
              ∙ ap (λ n. has_room (length env.identifiers) n (length others)) (sym types)
              ∙ ap (has_room (length env.identifiers) (length env.types)) (sym long) ∙ h.0.3,
        ),
        numbered_too _ _ us vs (paired_append d (more (of_key k p q) none)) rest h.1,
      )

  -- ---- instructions that are named

  all_too : (P Q : Place → Type 0) → ((p : Place) → P p → Q p) → (ps : List Place) → AllByRecursion P ps
      → AllByRecursion Q ps
  all_too P Q f [] h = tt
  all_too P Q f (p ∷ ps) h = (f p h.0, all_too P Q f ps h.1)

  pub in_table_too : (p : Place) → InTable env p → InTable other p
  in_table_too p h = subst (λ n. p.identifier.0 < n) identifiers h

  pub return_too : (end : Terminal) → ReturnNamed env end → ReturnNamed other end
  return_too (Return id value effects) h = in_table_too value h
  return_too end h = tt

  module _ (F : FunctionId → Type 0) (contexts : (f : FunctionId) → context_at env f ≡ context_at other f) where
    places_same : (o : Option FunctionId) → created_places env o ≡ created_places other o
    places_same None = refl
    places_same (Some f) = contexts f

    instruction_too : (i : Instruction) → InstructionNamed env F i → InstructionNamed other F i
    instruction_too i k = record {
      lvalue = in_table_too i.lvalue k.lvalue;
      places = all_too (InTable env) (InTable other) in_table_too (places_of i.value) k.places;
      context = subst (AllByRecursion (InTable other)) (places_same (created i.value))
          (all_too (InTable env) (InTable other) in_table_too (created_places env (created i.value)) k.context);
      created = k.created;
    }

    option_too : (o : Option Instruction) → OptionNamed env F o → OptionNamed other F o
    option_too None k = tt
    option_too (Some i) k = instruction_too i k

    pub named_too : (func : HirFunction) (ids : List InstructionId) → AreNamed env F func ids
        → AreNamed other F func ids
    named_too func [] k = tt
    named_too func (id ∷ ids) k = (option_too (slice_get func.instructions id.0) k.0, named_too func ids k.1)

    context_same : (o : Option HirFunction) → context_in o ≡ option_map_or (λ (g : HirFunction). g.context) o []
    context_same None = refl
    context_same (Some g) = refl

    pub there_too : (f : FunctionId) → IsThere env f → IsThere other f
    there_too f h = (
      subst (λ n. f.0 < n) functions h.0,
      subst (AllByRecursion (InTable other))
          (context_same (slice_get env.functions f.0) ∙ contexts f ∙ sym (context_same (slice_get other.functions f.0)))
          (all_too (InTable env) (InTable other) in_table_too (context_in (slice_get env.functions f.0)) h.1),
    )

-- ---- the step of a block

abbrev pub AnyNumber : ℕ → Type 0
AnyNumber n = Unit {0}

module _ (env : Environment) (func : HirFunction) (b : Bool) (F : FunctionId → Type 0)
    (functions : (f : FunctionId) → F f → IsThere env f)
    (named : (n : ℕ) (block : BlockId × BasicBlock) → IsReached (numbered (context_of env func b)).flow n
    → slice_get func.body.blocks n ≡ Some block → AreNamed env F func block.1.instructions)
    (bindings : (d : BlockId) (p : Place) → binding_at (context_of env func b).facts.handlers d ≡ Some p
    → InTable env p) (returns : (n : ℕ) (block : BlockId × BasicBlock) → slice_get func.body.blocks n ≡ Some block
    → ReturnNamed env block.1.terminal) where
  names : Naming env (λ t. AnyNumber) F
  names = record { identifiers = λ t n h. tt; later = λ t u x n h. tt; functions = functions }

  any_phis : (ps : List Phi) → PhisNamed AnyNumber F ps
  any_phis [] = tt
  any_phis (p ∷ ps) = (tt, any_phis ps)

  step_counts : (n : ℕ) (o : Option (BlockId × BasicBlock)) (t : TableLists) (x y : State) (u : TableLists)
      (k : BlockEffects) → slice_get func.body.blocks n ≡ o → IsReached (numbered (context_of env func b)).flow n
      → Stating AnyNumber F x → Counted env F t
      → step_at (context_of env func b) o t x ≡ Stepped y u k → Counted env F u
  step_counts n None t x y u k at reached s c e = let same : t ≡ u = cc in subst (Counted env F) same c
  step_counts n (Some block) t x y u k at reached s c e =
      (block_named (context_of env func b) (λ t. AnyNumber) F names bindings block.0 block.1 x t u y k
      (any_phis block.1.phis) (named n block reached at) (returns n block at) c s
      (outcome_is (infer_block (context_of env func b) block.0 block.1 x t) y u k e)).0

  -- a step of a reached block, from a state whose function sites have F
  pub flow_counts : (n : ℕ) (t : TableLists) (x y : State) (u : TableLists) (k : BlockEffects)
      → IsReached (numbered (context_of env func b)).flow n → Stating AnyNumber F x → Counted env F t
      → (numbered (context_of env func b)).flow.step t n x ≡ Stepped y u k → Counted env F u
  flow_counts n t x y u k reached s c e = step_counts n (slice_get func.body.blocks n) t x y u k refl reached s c e

-- of the identifiers that a state names nothing is asked
pub any_stating : (N : ℕ → Type 0) (F : FunctionId → Type 0) (s : State) → Stating N F s → Stating AnyNumber F s
any_stating N F s h = stating_on N AnyNumber F F (λ n k. tt) (λ f k. k) s h
