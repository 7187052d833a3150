-- The entry state of a function names what is there, and so does the state that the step of a block leads to.
use Rattle.std.specs.Prelude.{◌≡◌, ℕ, ◌+◌, List, [], ◌∷◌, Option, None, Some, Ok, slice_get}
use Rattle.std.specs.List.{fold, AllByRecursion}
use Rattle.std.proofs.Common.{zero, suc}
use Rattle.alias_base.specs.declared.ids.BlockId.{BlockId}
use Rattle.alias_base.specs.declared.ids.FunctionId.{FunctionId}
use Rattle.alias_base.specs.declared.ids.InstructionId.{InstructionId}
use Rattle.alias_facts.specs.Handlers.{binding_at}
use Rattle.alias_hir.specs.Parts.{param_place}
use Rattle.alias_hir.specs.declared.env.Environment.{Environment}
use Rattle.alias_hir.specs.declared.hir.BasicBlock.{BasicBlock}
use Rattle.alias_hir.specs.declared.hir.ContextValue.{ContextValue}
use Rattle.alias_hir.specs.declared.hir.FunctionType.{FunctionType}
use Rattle.alias_hir.specs.declared.hir.FunctionType.TheVariants as func_is
use Rattle.alias_hir.specs.declared.hir.HirFunction.{HirFunction}
use Rattle.alias_hir.specs.declared.hir.Instruction.{Instruction}
use Rattle.alias_hir.specs.declared.hir.ParamPattern.{ParamPattern}
use Rattle.alias_hir.specs.declared.hir.Phi.{Phi}
use Rattle.alias_hir.specs.declared.place.Place.{Place}
use Rattle.alias_hir.specs.declared.terminal.Terminal.{Terminal}
use Rattle.alias_hir.specs.declared.terminal.Terminal.TheVariants.{Return}
use Rattle.alias_lattice.specs.States.{State, empty_state, phied, mutable_other}
use Rattle.alias_lattice.specs.declared.site.Site.TheVariants as site
use Rattle.alias_lattice.specs.declared.value.AbstractValue.{AbstractValue}
use Rattle.alias_tables.specs.GrowingLaws.{Extends}
use Rattle.alias_tables.specs.Tables.{TableLists}
use Rattle.alias_step.specs.block.Actions.{handler_binding}
use Rattle.alias_step.specs.block.Blocks.{infer_phis, infer_block}
use Rattle.alias_step.specs.block.Contexts.{BlockContext}
use Rattle.alias_step.specs.block.Initial.{context_value, with_context_place, with_context_from, with_context}
use Rattle.alias_step.specs.block.Initial.{param_value, with_param, with_param_at, with_params, initial_state}
use Rattle.alias_step.specs.declared.block.recorded.BlockEffects.{BlockEffects}
use Rattle.alias_walks.specs.Blocking.{BlockLaw, IfKnown, AreKnown, Placed, Returned, block_inferred}
use Rattle.alias_effects_laws.proofs.entries.Counting.{Counted}
use Rattle.alias_effects_laws.proofs.entries.Instructions.{InstructionNamed, instruction_known}
use Rattle.alias_effects_laws.proofs.entries.NamedLaw.{InTable, in_table_within, Naming, placed, naming}
use Rattle.alias_effects_laws.proofs.entries.States.{Stating, named_empty, named_given, named_appended, named_phied}

-- ---- the state of the entry

module _ (N : ℕ → Type 0) (F : FunctionId → Type 0) where
  abbrev Of : Place → Type 0
  Of p = N p.identifier.0

  abbrev OfParam : ParamPattern → Type 0
  OfParam p = N (param_place p).identifier.0

  named_context : (values : List ContextValue) (index : ℕ) (ps : List Place) (s : State) → AllByRecursion Of ps
      → Stating N F s → Stating N F (with_context_from values index ps s)
  named_context values index [] s n h = h
  named_context values index (p ∷ ps) s n h =
      named_context values (index + 1) ps (with_context_place (slice_get values index) p s) n.1
      (named_given N F p.identifier (site.Context p.identifier) (context_value (slice_get values index)) s n.0 n.0
      h)

  named_param : (v : AbstractValue) (s : State) (p : ParamPattern) → OfParam p → Stating N F s
      → Stating N F (with_param v s p)
  named_param v s p n h = named_given N F (param_place p).identifier (site.Parameter (param_place p).identifier) v s n n
      h

  abbrev IfParam : Option ParamPattern → Type 0
  IfParam None = Unit {0}
  IfParam (Some p) = OfParam p

  named_param_at : (v : AbstractValue) (o : Option ParamPattern) (s : State) → IfParam o → Stating N F s
      → Stating N F (with_param_at v o s)
  named_param_at v None s n h = h
  named_param_at v (Some p) s n h = named_param v s p n h

  named_all_params : (v : AbstractValue) (ps : List ParamPattern) (s : State) → AllByRecursion OfParam ps
      → Stating N F s → Stating N F (fold (with_param v) s ps)
  named_all_params v [] s n h = h
  named_all_params v (p ∷ ps) s n h = named_all_params v ps (with_param v s p) n.1 (named_param v s p n.0 h)

  param_in : (ps : List ParamPattern) (n : ℕ) → AllByRecursion OfParam ps → IfParam (slice_get ps n)
  param_in [] n h = tt
  param_in (p ∷ ps) zero h = h.0
  param_in (p ∷ ps) (suc n) h = param_in ps n h.1

  named_params : (t : FunctionType) (v : AbstractValue) (ps : List ParamPattern) (s : State) → AllByRecursion OfParam ps
      → Stating N F s → Stating N F (with_params t v ps s)
  named_params func_is.Component v ps s n h =
      named_param_at mutable_other (slice_get ps 1) (with_param_at v (slice_get ps 0) s) (param_in ps 1 n)
      (named_param_at v (slice_get ps 0) s (param_in ps 0 n) h)
  named_params t v ps s n h = named_all_params v ps s n h

  pub named_initial_state : (c : BlockContext) → AllByRecursion Of c.func.context → AllByRecursion OfParam c.func.params
      → Stating N F (initial_state c)
  named_initial_state c n m =
      named_params c.func.fn_type (param_value c.is_function_expression) c.func.params
      (with_context c.func.context_values c.func.context empty_state) m
      (named_context c.func.context_values 0 c.func.context empty_state n (named_empty N F))

  abbrev pub PhisNamed : List Phi → Type 0
  PhisNamed ps = AllByRecursion (λ (p : Phi). N p.place.identifier.0) ps

  named_phis : (ps : List Phi) (x : State) → PhisNamed ps → Stating N F x → Stating N F (infer_phis ps x)
  named_phis [] x n h = h
  named_phis (p ∷ ps) x n h = named_phis ps (phied p.place.identifier p.operands x) n.1
      (named_phied N F p.place.identifier p.operands x n.0 h)

-- ---- a block

-- what is named by the instruction, where there is one
abbrev pub OptionNamed : Environment → (FunctionId → Type 0) → Option Instruction → Type 0
OptionNamed env F None = Unit {0}
OptionNamed env F (Some x) = InstructionNamed env F x

-- and by those of the list
abbrev pub AreNamed : Environment → (FunctionId → Type 0) → HirFunction → List InstructionId → Type 0
AreNamed env F func is = AllByRecursion (λ (i : InstructionId). OptionNamed env F (slice_get func.instructions i.0)) is

-- the place that the block returns is of the table
abbrev pub ReturnNamed : Environment → Terminal → Type 0
ReturnNamed env (Return id value effects) = InTable env value
ReturnNamed env t = Unit {0}

module _ (env : Environment) (N : TableLists → ℕ → Type 0) (F : FunctionId → Type 0) (names : Naming env N F) where
  abbrev naming_blocks : BlockLaw env
  naming_blocks = record {
    steps = naming env N F names;
    Stated = λ t x. Stating (N t) F x;
    Listed = λ t es. Unit {0};
    listed_later = λ t u x es h. tt;
    starts = λ x m t h. h;
    states = λ s t h. h;
    lists = λ s t h. tt;
    appends = λ x v s t p q h. named_appended (N t) F x.identifier v.identifier s.state (placed env N F names t x p) h;
  }

module _ (c : BlockContext) (N : TableLists → ℕ → Type 0) (F : FunctionId → Type 0) (names : Naming c.env N F)
    (bindings : (b : BlockId) (p : Place) → binding_at c.facts.handlers b ≡ Some p → InTable c.env p) where
  abbrev law : BlockLaw c.env
  law = naming_blocks c.env N F names

  in_any : (p : Place) → InTable c.env p → Placed c law p
  in_any p h t k = in_table_within c.env t p h

  bound_named : (o : Option BlockId) (p : Place) → handler_binding c.facts.handlers o ≡ Some p → Placed c law p
  bound_named None p e = cc
  bound_named (Some b) p e = in_any p (bindings b p e)

  returned : (end : Terminal) → ReturnNamed c.env end → Returned c law end
  returned (Return id value effects) p = in_any value p
  returned end p = tt

  if_known : (o : Option Instruction) → OptionNamed c.env F o → IfKnown c law o
  if_known None h = tt
  if_known (Some i) h = instruction_known c.env F N names c.facts i h

  are_known : (is : List InstructionId) → AreNamed c.env F c.func is → AreKnown c law is
  are_known [] h = tt
  are_known (i ∷ is) h = (if_known (slice_get c.func.instructions i.0) h.0, are_known is h.1)

  -- the step of a block whose phis, instructions and terminal name what is there
  pub block_named : (b : BlockId) (block : BasicBlock) (x : State) (t u : TableLists) (y : State) (k : BlockEffects)
      → PhisNamed (N t) F block.phis → AreNamed c.env F c.func block.instructions → ReturnNamed c.env block.terminal
      → Counted c.env F t → Stating (N t) F x → infer_block c b block x t ≡ Ok ((y, k), u) → Counted c.env F u
      × Stating (N u) F y
  block_named b block x t u y k phis is end h g e =
      let r = (block_inferred c law bound_named b block x t h (are_known block.instructions is)
      (returned block.terminal end) (named_phis (N t) F block.phis x phis g)).leads u (y, k) e in
      (r.kept, r.value.0)
