-- What is known of a function before its instructions are stepped is the same elsewhere.
use Rattle.std.specs.Prelude.{List, [], ◌∷◌, Option, Some, None, slice_get}
use Rattle.std.proofs.Common.{◌≡◌, refl, ap, sym, ◌∙◌}
use Rattle.std.specs.List.{fold}
use Rattle.alias_base.specs.declared.ids.BlockId.{BlockId}
use Rattle.alias_base.specs.declared.ids.IdentifierId.{IdentifierId}
use Rattle.alias_hir.specs.Terminals.{terminal_places}
use Rattle.alias_hir.specs.declared.env.Environment.{Environment}
use Rattle.alias_hir.specs.declared.hir.BasicBlock.{BasicBlock}
use Rattle.alias_hir.specs.declared.hir.HirFunction.{HirFunction}
use Rattle.alias_hir.specs.declared.hir.Instruction.{Instruction}
use Rattle.alias_hir.specs.declared.value.InstructionValue.{InstructionValue}
use Rattle.alias_hir.specs.declared.value.InstructionValue.TheVariants.{FunctionExpression, ObjectMethod}
use Rattle.alias_hir.specs.declared.value.InstructionValue.TheVariants.{DeclareContext, CallExpression, MethodCall}
use Rattle.alias_hir.specs.declared.value.InstructionValue.TheVariants.{PropertyLoad, JsxExpression, JsxFragment}
use Rattle.alias_hir.specs.declared.value.InstructionValue.TheVariants.{Destructure, LoadLocal, StoreLocal}
use Rattle.alias_visit.specs.Operands.{operands_of}
use Rattle.alias_facts.specs.Facts.{function_facts}
use Rattle.alias_facts.specs.Handlers.{handler_bindings}
use Rattle.alias_facts.specs.Hoisted as hoisted
use Rattle.alias_facts.specs.Spreads as spreads
use Rattle.alias_facts.specs.Hoisted.{Accesses}
use Rattle.alias_facts.specs.declared.candidates.Candidates.{Candidates}
use Rattle.alias_facts.specs.Candidates.{after_use, selves, first_candidates}
use Rattle.alias_facts.specs.Spreads.{after_phi}
use Rattle.alias_certificate_laws.specs.accepting.Alike.{Elsewhere, elsewhere}
use Rattle.alias_certificate_laws.proofs.accepting.Elsewhere.{context_at_elsewhere}

fold_same : {A B : Type 0} (f g : B → A → B) → ((b : B) (a : A) → f b a ≡ g b a) → (b : B) (xs : List A) → fold f b xs
    ≡ fold g b xs
fold_same f g h b [] = refl
fold_same f g h b (x ∷ xs) = ap (λ z. fold f z xs) (h b x) ∙ fold_same f g h (g b x) xs

module _ (env : Environment) (o : Elsewhere env) where
  operands_elsewhere : (v : InstructionValue) → operands_of (elsewhere env o) v ≡ operands_of env v
  operands_elsewhere (FunctionExpression lowered) = sym (context_at_elsewhere env o lowered.func)
  operands_elsewhere (ObjectMethod lowered) = sym (context_at_elsewhere env o lowered.func)
  operands_elsewhere v = refl

  -- ---- hoisted declarations

  hoisted_value : (h : Accesses) (v : InstructionValue) → hoisted.after_value (elsewhere env o) h v
      ≡ hoisted.after_value env h v
  hoisted_value h (DeclareContext variable) = refl
  hoisted_value h v = ap (fold (hoisted.after_read env) h) (operands_elsewhere v)

  hoisted_instruction : (h : Accesses) (i : Option Instruction) → hoisted.after_instruction (elsewhere env o) h i
      ≡ hoisted.after_instruction env h i
  hoisted_instruction h None = refl
  hoisted_instruction h (Some i) = hoisted_value h i.value

  -- ---- spreads

  spread_value : (c : Candidates) (l : IdentifierId) (v : InstructionValue)
      → spreads.after_value (elsewhere env o) c l v ≡ spreads.after_value env c l v
  spread_value c l (Destructure variables v) = refl
  spread_value c l (LoadLocal place) = refl
  spread_value c l (StoreLocal variable v) = refl
  spread_value c l (JsxExpression tag props children) = refl
  spread_value c l (JsxFragment children) = refl
  spread_value c l (PropertyLoad object) = refl
  spread_value c l (CallExpression callee args) = refl
  spread_value c l (MethodCall receiver property args) = refl
  spread_value c l v = ap (fold after_use c) (operands_elsewhere v)

  spread_instruction : (c : Candidates) (i : Option Instruction) → spreads.after_instruction (elsewhere env o) c i
      ≡ spreads.after_instruction env c i
  spread_instruction c None = refl
  spread_instruction c (Some i) = spread_value c i.lvalue.identifier i.value

  module _ (func : HirFunction) where
    hoisted_block : (h : Accesses) (b : BlockId × BasicBlock) → hoisted.after_entry func (elsewhere env o) h b
        ≡ hoisted.after_entry func env h b
    hoisted_block h b =
        ap (λ z. fold (hoisted.after_read env) z (terminal_places b.1.terminal))
        (fold_same (hoisted.after_listed func (elsewhere env o)) (hoisted.after_listed func env)
        (λ a i. hoisted_instruction a (slice_get func.instructions i.0)) h b.1.instructions)

    spread_block : (c : Candidates) (b : BlockId × BasicBlock) → spreads.after_entry func (elsewhere env o) c b
        ≡ spreads.after_entry func env c b
    spread_block c b =
        fold_same (spreads.after_listed func (elsewhere env o)) (spreads.after_listed func env)
        (λ a i. spread_instruction a (slice_get func.instructions i.0)) (fold after_phi c b.1.phis) b.1.instructions

    pub facts_elsewhere : function_facts func (elsewhere env o) ≡ function_facts func env
    facts_elsewhere = λ i. record {
      hoisted = fold_same (hoisted.after_entry func (elsewhere env o)) (hoisted.after_entry func env) hoisted_block []
          func.body.blocks i;
      spreads = selves (fold_same (spreads.after_entry func (elsewhere env o)) (spreads.after_entry func env)
          spread_block (first_candidates func) func.body.blocks i);
      handlers = handler_bindings func;
    }
