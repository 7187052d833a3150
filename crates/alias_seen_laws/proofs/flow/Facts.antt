-- What is known of a function before its instructions are stepped is the same beside.
use Rattle.std.specs.Prelude.{false, List, [], ◌∷◌, Option, Some, None, is_some, slice_get, if◌then◌else◌}
use Rattle.std.proofs.Common.{◌≡◌, refl, ap, ◌∙◌}
use Rattle.std.specs.List.{AllByRecursion, fold}
use Rattle.std.specs.Option.{option_map_or}
use Rattle.alias_base.specs.declared.ids.BlockId.{BlockId}
use Rattle.alias_base.specs.declared.ids.FunctionId.{FunctionId}
use Rattle.alias_base.specs.declared.ids.IdentifierId.{IdentifierId}
use Rattle.alias_base.specs.declared.ids.InstructionId.{InstructionId}
use Rattle.alias_hir.specs.Terminals.{terminal_places}
use Rattle.alias_hir.specs.Values.{created}
use Rattle.alias_hir.specs.declared.env.Environment.{Environment}
use Rattle.alias_hir.specs.declared.hir.BasicBlock.{BasicBlock}
use Rattle.alias_hir.specs.declared.hir.HirFunction.{HirFunction}
use Rattle.alias_hir.specs.declared.hir.Instruction.{Instruction}
use Rattle.alias_hir.specs.declared.value.InstructionValue.{InstructionValue}
use Rattle.alias_hir.specs.declared.value.InstructionValue.TheVariants.{FunctionExpression, ObjectMethod}
use Rattle.alias_hir.specs.declared.value.InstructionValue.TheVariants.{DeclareContext, CallExpression, MethodCall}
use Rattle.alias_hir.specs.declared.value.InstructionValue.TheVariants.{PropertyLoad, JsxExpression, JsxFragment}
use Rattle.alias_hir.specs.declared.value.InstructionValue.TheVariants.{Destructure, LoadLocal, StoreLocal}
use Rattle.alias_visit.specs.Operands.{operands_of}
use Rattle.alias_facts.specs.Facts.{function_facts}
use Rattle.alias_facts.specs.Handlers.{handler_bindings}
use Rattle.alias_facts.specs.Hoisted as hoisted
use Rattle.alias_facts.specs.Spreads as spreads
use Rattle.alias_facts.specs.Hoisted.{Accesses, declaration_of, read_by, is_hoisting, with_hoisted}
use Rattle.alias_facts.specs.Spreads.{is_hook_at, after_hook, after_call}
use Rattle.alias_base.specs.declared.ids.DeclarationId.{DeclarationId}
use Rattle.alias_hir.specs.Tables.{hook_kind}
use Rattle.alias_hir.specs.declared.place.Place.{Place}
use Rattle.alias_hir.specs.declared.types.Ty.{Ty}
use Rattle.alias_facts.specs.declared.candidates.Candidates.{Candidates}
use Rattle.alias_facts.specs.Candidates.{after_use, selves, first_candidates, with_frozen}
use Rattle.alias_facts.specs.Spreads.{after_phi}
use Rattle.alias_effects_laws.specs.entries.Named.{CreatesHas, CreatesAt, BlocksCreate}
use Rattle.alias_seen_laws.specs.Beside.{Others, with_others, HasSame}
use Rattle.alias_seen_laws.proofs.same.Identifiers.{type_same, declaration_same, ref_same}

-- steps over the items of a list that have Q, which are the same where an item has it
fold_same : {A B : Type 0} (f g : B → A → B) (Q : A → Type 0) → ((b : B) (a : A) → Q a → f b a ≡ g b a) → (b : B)
    (xs : List A) → AllByRecursion Q xs → fold f b xs ≡ fold g b xs
fold_same f g Q h b [] a = refl
fold_same f g Q h b (x ∷ xs) a = ap (λ z. fold f z xs) (h b x a.0) ∙ fold_same f g Q h (g b x) xs a.1

module _ (env : Environment) (F : FunctionId → Type 0) (z : Others) (same : HasSame F env z) where
  abbrev there : Environment
  there = with_others env z

  declaration_at : (p : Place) → declaration_of there p.identifier ≡ declaration_of env p.identifier
  declaration_at p = declaration_same env z same.declares p.identifier

  context_beside : (f : FunctionId) → F f → operands_of there (FunctionExpression (record { func = f }))
      ≡ operands_of env (FunctionExpression (record { func = f }))
  context_beside f h = ap (λ (o : Option HirFunction). option_map_or (λ (g : HirFunction). g.context) o [])
      (same.functions f h)

  operands_beside : (v : InstructionValue) → CreatesHas F (created v) → operands_of there v ≡ operands_of env v
  operands_beside (FunctionExpression lowered) h = context_beside lowered.func h
  operands_beside (ObjectMethod lowered) h = context_beside lowered.func h
  operands_beside v h = refl

  -- ---- hoisted declarations

  reads_same : (h : Accesses) (ps : List Place)
      → fold (hoisted.after_read there) h ps ≡ fold (hoisted.after_read env) h ps
  reads_same h ps =
      ap (λ (f : Accesses → Place → Accesses). fold f h ps)
      (λ i a p. ap (λ (o : Option DeclarationId). read_by a o p) (declaration_at p) i)

  hoisted_value : (h : Accesses) (v : InstructionValue) → CreatesHas F (created v) → hoisted.after_value there h v
      ≡ hoisted.after_value env h v
  hoisted_value h (DeclareContext variable) k =
      ap (λ (o : Option DeclarationId). if is_hoisting variable.kind then with_hoisted h o else h)
      (declaration_at variable.place)
  hoisted_value h v k = reads_same h (operands_of there v) ∙ ap (fold (hoisted.after_read env) h) (operands_beside v k)

  hoisted_instruction : (h : Accesses) (i : Option Instruction) → CreatesAt F i → hoisted.after_instruction there h i
      ≡ hoisted.after_instruction env h i
  hoisted_instruction h None k = refl
  hoisted_instruction h (Some i) k = hoisted_value h i.value k

  -- ---- spreads

  hook_same : (c : Candidates) (l : IdentifierId) (callee : Place) (ps : List Place)
      → after_call there c l callee ps ≡ after_call env c l callee ps
  hook_same c l callee ps =
      ap (λ (o : Option Ty). if option_map_or (λ (t : Ty). is_some (hook_kind env t)) o false then after_hook there c l
      else fold after_use c ps) (type_same env z same.declares callee.identifier)
      ∙ ap (λ b. if is_hook_at env callee.identifier then (if b then c else with_frozen c l) else fold after_use c ps)
      (ref_same env z same.declares l)

  spread_value : (c : Candidates) (l : IdentifierId) (v : InstructionValue) → CreatesHas F (created v)
      → spreads.after_value there c l v ≡ spreads.after_value env c l v
  spread_value c l (Destructure variables v) k = refl
  spread_value c l (LoadLocal place) k = refl
  spread_value c l (StoreLocal variable v) k = refl
  spread_value c l (JsxExpression tag props children) k = refl
  spread_value c l (JsxFragment children) k = refl
  spread_value c l (PropertyLoad object) k = refl
  spread_value c l (CallExpression callee args) k = hook_same c l callee (operands_of env (CallExpression callee args))
  spread_value c l (MethodCall receiver property args) k =
      hook_same c l property (operands_of env (MethodCall receiver property args))
  spread_value c l v k = ap (fold after_use c) (operands_beside v k)

  spread_instruction : (c : Candidates) (i : Option Instruction) → CreatesAt F i → spreads.after_instruction there c i
      ≡ spreads.after_instruction env c i
  spread_instruction c None k = refl
  spread_instruction c (Some i) k = spread_value c i.lvalue.identifier i.value k

  module _ (func : HirFunction) (creates : BlocksCreate F func) where
    abbrev Creating : InstructionId → Type 0
    Creating i = CreatesAt F (slice_get func.instructions i.0)

    abbrev BlockCreates : BlockId × BasicBlock → Type 0
    BlockCreates b = AllByRecursion Creating b.1.instructions

    hoisted_block : (h : Accesses) (b : BlockId × BasicBlock) → BlockCreates b → hoisted.after_entry func there h b
        ≡ hoisted.after_entry func env h b
    hoisted_block h b k =
        reads_same (fold (hoisted.after_listed func there) h b.1.instructions) (terminal_places b.1.terminal)
        ∙ ap (λ z. fold (hoisted.after_read env) z (terminal_places b.1.terminal))
        (fold_same (hoisted.after_listed func there) (hoisted.after_listed func env) Creating
        (λ a i m. hoisted_instruction a (slice_get func.instructions i.0) m) h b.1.instructions k)

    spread_block : (c : Candidates) (b : BlockId × BasicBlock) → BlockCreates b → spreads.after_entry func there c b
        ≡ spreads.after_entry func env c b
    spread_block c b k =
        fold_same (spreads.after_listed func there) (spreads.after_listed func env) Creating
        (λ a i m. spread_instruction a (slice_get func.instructions i.0) m) (fold after_phi c b.1.phis)
        b.1.instructions k

    pub facts_beside : function_facts func there ≡ function_facts func env
    facts_beside = λ i. record {
      hoisted = fold_same (hoisted.after_entry func there) (hoisted.after_entry func env) BlockCreates hoisted_block []
          func.body.blocks creates i;
      spreads = selves (fold_same (spreads.after_entry func there) (spreads.after_entry func env) BlockCreates
          spread_block (first_candidates func) func.body.blocks creates i);
      handlers = handler_bindings func;
    }
