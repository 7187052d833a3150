-- A pass that lets the first block list fewer instructions keeps what a pass has to keep, where the inference still
-- takes the function.
use Rattle.std.specs.Prelude.{◌≡◌, ℕ, true, false, if◌then◌else◌, List, [], ◌∷◌, ◌++◌, Some, map, refl}
use Rattle.std.specs.List.{flat_map}
use Rattle.std.proofs.Common.{ap, sym, ◌∙◌, subst}
use Rattle.std.proofs.lemmas.List.{map-append}
use Rattle.alias_base.specs.Find.{same_block, value_at}
use Rattle.alias_base.specs.declared.ids.BlockId.{BlockId}
use Rattle.alias_base.specs.declared.ids.InstructionId.{InstructionId}
use Rattle.alias_rules.specs.function_rules.Rules.{is_among}
use Rattle.alias_hir.specs.Parts.{param_place}
use Rattle.alias_hir.specs.declared.env.Environment.{Environment}
use Rattle.alias_hir.specs.declared.hir.BasicBlock.{BasicBlock}
use Rattle.alias_hir.specs.declared.hir.HirFunction.{HirFunction}
use Rattle.alias_hir.specs.declared.place.Place.{Place}
use Rattle.alias_inner_passes.specs.Passes.{NoneAdded, NoneLost, block_effects, block_operands, Keeps}
use Rattle.alias_nesting_laws.specs.PartLaws.{append_cases, absent, not_both}
use Rattle.alias_nesting_laws.specs.ClosureLaws.{among_front, among_rest}
use Rattle.alias_rules.specs.Fitting.{function_fits}
use Rattle.alias_visit.specs.Places.{instruction_places, block_places}
use Rattle.alias_nested_tests.specs.Dropping.{first_lists, with_first, first_or, IsFront}

-- ---- lists

pub front_of : (all front : List InstructionId) (last : InstructionId) → all ≡ front ++ last ∷ [] → IsFront front all
front_of all front last h = (last ∷ [], h)

pub front_none : (all front : List InstructionId) → all ≡ [] → front ≡ [] → IsFront front all
front_none all front h e = ([], h ∙ ap (λ xs. xs ++ []) (sym e))

abbrev numbers : List InstructionId → List ℕ
numbers ids = map (λ (i : InstructionId). i.0) ids

fewer : (l rest : List InstructionId) (others : List ℕ) (k : ℕ) → is_among (numbers (l ++ rest) ++ others) k ≡ false
    → is_among (numbers l ++ others) k ≡ false
fewer l rest others k h = absent (is_among (numbers l ++ others) k)
    (λ i. not_both (is_among (numbers (l ++ rest) ++ others) k) (more i) h)
  where
    more : is_among (numbers l ++ others) k ≡ true → is_among (numbers (l ++ rest) ++ others) k ≡ true
    more i =
        append_cases (numbers l) others k (is_among (numbers (l ++ rest) ++ others) k ≡ true) i
        (λ here. among_front (numbers (l ++ rest)) others k
        (subst (λ zs. is_among zs k ≡ true) (sym (map-append (λ (i : InstructionId). i.0) l rest))
        (among_front (numbers l) (numbers rest) k here)))
        (λ behind. among_rest (numbers (l ++ rest)) others k behind)

-- ---- blocks

abbrev listed_by : BlockId × BasicBlock → List ℕ
listed_by e = map (λ (i : InstructionId). i.0) e.1.instructions

listed_fewer : (l : List InstructionId) (bs : List (BlockId × BasicBlock)) → IsFront l (first_or [] bs) → (k : ℕ)
    → is_among (flat_map listed_by bs) k ≡ false → is_among (flat_map listed_by (first_lists l bs)) k ≡ false
listed_fewer l [] p k h = h
listed_fewer l (e ∷ es) p k h = fewer l p.0 (flat_map listed_by es) k
    (subst (λ xs. is_among (numbers xs ++ flat_map listed_by es) k ≡ false) p.1 h)

ends_same : (l : List InstructionId) (bs : List (BlockId × BasicBlock)) (b : BlockId)
    → block_effects (value_at (first_lists l bs) b) ≡ block_effects (value_at bs b)
ends_same l [] b = refl
ends_same l (e ∷ es) b =
    elim (same_block b e.0) as (λ c. block_effects (if c then Some (record e.1 { instructions = l }) else value_at es b)
    ≡ block_effects (if c then Some e.1 else value_at es b)) [
      | true ↦ refl
      | false ↦ refl
    ]

places_same : (l : List InstructionId) (bs : List (BlockId × BasicBlock))
    → flat_map (λ (e : BlockId × BasicBlock). block_places e.1) (first_lists l bs)
    ≡ flat_map (λ (e : BlockId × BasicBlock). block_places e.1) bs
places_same l [] = refl
places_same l (e ∷ es) = refl

operands_same : (l : List InstructionId) (bs : List (BlockId × BasicBlock)) (b : BlockId)
    → block_operands (value_at (first_lists l bs) b) ≡ block_operands (value_at bs b)
operands_same l [] b = refl
operands_same l (e ∷ es) b =
    elim (same_block b e.0) as (λ c. block_operands
    (if c then Some (record e.1 { instructions = l }) else value_at es b)
    ≡ block_operands (if c then Some e.1 else value_at es b)) [
      | true ↦ refl
      | false ↦ refl
    ]

listed_again : (l : List InstructionId) (bs : List (BlockId × BasicBlock))
    → first_lists (first_or l bs) (first_lists l bs) ≡ bs
listed_again l [] = refl
listed_again l (e ∷ es) = refl

-- ---- functions

-- what the first block listed before is listed again
with_first_again : (l : List InstructionId) (f : HirFunction) → with_first (first_or l f.body.blocks) (with_first l f)
    ≡ f
with_first_again l f = ap (λ bs. let g : HirFunction = record f { body = record f.body { blocks = bs } } in g)
    (listed_again l f.body.blocks)

-- the function that lists again what it listed, where it listed something else meanwhile
pub listed_back : (l was : List InstructionId) (f fewer again : HirFunction) → fewer ≡ with_first l f → was
    ≡ first_or l f.body.blocks → again ≡ with_first was fewer → again ≡ f
listed_back l was f fewer again e w a = a ∙ ap (λ m. with_first m fewer) w
    ∙ ap (λ (g : HirFunction). with_first (first_or l f.body.blocks) g) e ∙ with_first_again l f

-- a function whose first block lists a front of what it listed
pub front_keeps : (l : List InstructionId) (f : HirFunction) (env : Environment) → IsFront l (first_or [] f.body.blocks)
    → function_fits (with_first l f) env ≡ true → Keeps f env (with_first l f) env
front_keeps l f env front fits = record {
  fits = fits;
  outside = record { params = refl; context = refl; context_values = refl; returns = refl };
  added = record {
    instructions = λ k h. listed_fewer l f.body.blocks front k h;
    effects = λ k e c. c;
    terminals = λ b. subst (NoneAdded (block_effects (value_at f.body.blocks b))) (sym (ends_same l f.body.blocks b))
        (λ e c. c);
    summary = λ e c. c;
    creations = λ k g h. h;
    operands = λ k p c u. (p, c, refl, u);
    ends = λ b. subst (NoneLost (block_operands (value_at f.body.blocks b))) (sym (operands_same l f.body.blocks b))
        (λ p c u. (p, c, refl, u));
  };
  tables = record { types = refl; shapes = refl; functions = refl; errors = refl; interned = refl; config = refl };
  identifiers = refl;
  present = λ k h.
      ap (λ ps. is_among (map (λ (p : Place). p.identifier.0)
      (map param_place f.params ++ f.context ++ f.returns ∷ flat_map (instruction_places env) f.instructions ++ ps))
      k) (places_same l f.body.blocks) ∙ h;
  others = λ k h. refl;
}
