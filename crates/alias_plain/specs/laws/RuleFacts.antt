-- What the rules of a unit say of the functions that plainness looks at.
use Rattle.std.specs.Prelude.{◌≡◌, ℕ, ◌<◌, not, nat_lt, Bool, true, false, List, [], ◌∷◌, ◌++◌, length, map, filter}
use Rattle.std.specs.Prelude.{Option, Some, None, Result, Ok, Err, ⊤, is_some, slice_get, refl, cond, if◌then◌else◌}
use Rattle.std.specs.List.{AllByRecursion, flat_map}
use Rattle.std.specs.Option.{option_map_or}
use Rattle.std.proofs.Common.{suc, ap, sym, ◌∙◌, subst}
use Rattle.std.proofs.lemmas.Bool.{ltb-true}
use Rattle.alias_base.specs.Answer.{◌>>=◌, all_pass}
use Rattle.alias_base.specs.Find.{same_block, value_at}
use Rattle.alias_base.specs.declared.ids.BlockId.{BlockId}
use Rattle.alias_base.specs.declared.ids.FunctionId.{FunctionId}
use Rattle.alias_facts.specs.Facts.{function_facts}
use Rattle.alias_rules.specs.declared.function_rules.fault.UnitFault.{UnitFault}
use Rattle.alias_rules.specs.function_rules.Rules.{is_among, place_fits, created_fits, instruction_fits, phi_fits}
use Rattle.alias_rules.specs.function_rules.Rules.{block_fits, numbers_fit, is_block}
use Rattle.alias_hir.specs.Effects.{effect_places}
use Rattle.alias_hir.specs.Parts.{apply_arg_places, param_place}
use Rattle.alias_hir.specs.Values.{places_of, created}
use Rattle.alias_hir.specs.declared.effect.AliasingEffect.{AliasingEffect}
use Rattle.alias_hir.specs.declared.effect.AliasingEffect.TheVariants as effect
use Rattle.alias_hir.specs.declared.env.Environment.{Environment}
use Rattle.alias_hir.specs.declared.env.Unit.{Unit as HirUnit}
use Rattle.alias_hir.specs.declared.hir.BasicBlock.{BasicBlock}
use Rattle.alias_hir.specs.declared.hir.HirFunction.{HirFunction}
use Rattle.alias_hir.specs.declared.hir.Instruction.{Instruction}
use Rattle.alias_hir.specs.declared.hir.Phi.{Phi}
use Rattle.alias_hir.specs.declared.place.Place.{Place}
use Rattle.alias_hir.specs.declared.report.ReportId.{ReportId}
use Rattle.alias_rules.specs.Functions.{rules_hold, of_function}
use Rattle.alias_rules.specs.RuleLaws.{parts_of_rules, root_of_rules, nested_of_rules, passes_at}
use Rattle.alias_rules.specs.declared.rules.Rule.TheVariants.{Numbers, Entry}
use Rattle.alias_signature.specs.Known.{known}
use Rattle.alias_signature.specs.SignatureLaws.{Named, Speaks, signature_speaks, both, front}
use Rattle.alias_visit.specs.Places.{created_places}
use Rattle.alias_plainness.specs.Making.{number, named_places, named_by, made_by, needed, needed_after}
use Rattle.alias_plainness.specs.Sureness.{list_of}
use Rattle.alias_plainness.specs.Paths.{phis_of}
use Rattle.alias_plainness.specs.Conditions.{needs}
use Rattle.alias_plain.specs.laws.SureLaws.{OperandsWithin, PhisWithin}
use Rattle.alias_plain.specs.laws.PlainLaws.{NeedsWithin}

-- ---- lists

pass_case : {A E : Type 0} (P : A → Type 0) (x : A) (xs : List A) (r rest : Result ⊤ E) → (r ≡ Ok tt → P x)
    → (rest ≡ Ok tt → AllByRecursion P xs) → (r >>= (λ _. rest)) ≡ Ok tt → AllByRecursion P (x ∷ xs)
pass_case P x xs (Ok u) rest h k e = (h refl, k e)
pass_case P x xs (Err c) rest h k e = cc

each_passes : {A E : Type 0} (f : A → Result ⊤ E) (P : A → Type 0) (xs : List A) → ((x : A) → f x ≡ Ok tt → P x)
    → all_pass f xs ≡ Ok tt → AllByRecursion P xs
each_passes f P [] h e = tt
each_passes f P (x ∷ xs) h e = pass_case P x xs (f x) (all_pass f xs) (h x) (each_passes f P xs h) e

both_pass : {E : Type 0} (r : Result ⊤ E) (s : Result ⊤ E) → (r >>= (λ _. s)) ≡ Ok tt → (r ≡ Ok tt) × (s ≡ Ok tt)
both_pass (Ok u) s h = (refl, h)
both_pass (Err c) s h = cc

of_map : {X Y : Type 0} (P : Y → Type 0) (g : X → Y) (xs : List X) → AllByRecursion (λ (x : X). P (g x)) xs
    → AllByRecursion P (map g xs)
of_map P g [] h = tt
of_map P g (x ∷ xs) h = (h.0, of_map P g xs h.1)

filter_case : {X : Type 0} (P : X → Type 0) (t : X → Bool) (x : X) (xs : List X) (b : Bool) → P x
    → AllByRecursion P (filter t xs) → AllByRecursion P (cond b (x ∷ filter t xs) (filter t xs))
filter_case P t x xs true h k = (h, k)
filter_case P t x xs false h k = k

of_filter : {X : Type 0} (P : X → Type 0) (t : X → Bool) (xs : List X) → AllByRecursion P xs
    → AllByRecursion P (filter t xs)
of_filter P t [] h = tt
of_filter P t (x ∷ xs) h = filter_case P t x xs (t x) h.0 (of_filter P t xs h.1)

-- ---- what an instruction needs

-- the place's identifier is below the number
abbrev pub PlaceBelow : ℕ → Place → Type 0
PlaceBelow n p = number p < n

-- what an effect names are places of it
named_below : (n : ℕ) (e : AliasingEffect) → AllByRecursion (PlaceBelow n) (effect_places e)
    → AllByRecursion (PlaceBelow n) (named_places e)
named_below n (effect.Apply receiver function mutates args into signature span) h =
    (h.0, (h.1.0, front (PlaceBelow n) (flat_map apply_arg_places args) (into ∷ []) h.1.1))
named_below n (effect.CreateFrom from into) h = (h.0, tt)
named_below n (effect.Assign from into) h = (h.0, tt)
named_below n (effect.Create into value reason) h = tt
named_below n (effect.CreateFunction into function captures) h = h.1
named_below n e h = h

needed_below : (n : ℕ) (es : List AliasingEffect) (made : List ℕ)
    → AllByRecursion (λ (e : AliasingEffect). AllByRecursion (PlaceBelow n) (effect_places e)) es
    → AllByRecursion (λ x. x < n) (needed_after made es)
needed_below n [] made h = tt
needed_below n (e ∷ es) made h =
    both (λ x. x < n) (filter (λ x. not (is_among made x)) (named_by e)) (needed_after (made ++ made_by e) es)
    (of_filter (λ x. x < n) (λ x. not (is_among made x)) (named_by e)
    (of_map (λ x. x < n) number (named_places e) (named_below n e h.0)))
    (needed_below n es (made ++ made_by e) h.1)

-- the effects of a list speak of places alone that are below
places_alone : (n : ℕ) (es : List AliasingEffect)
    → AllByRecursion (Speaks (PlaceBelow n) (λ (o : Option ReportId). Unit {0}) (λ (m : Named). Unit {0})) es
    → AllByRecursion (λ (e : AliasingEffect). AllByRecursion (PlaceBelow n) (effect_places e)) es
places_alone n [] h = tt
places_alone n (e ∷ es) h = (h.0.0, places_alone n es h.1)

lt_of : (x n : ℕ) → nat_lt x n ≡ true → x < n
lt_of x n g = ltb-true x n g

lt_case : (t : Bool) (x n : ℕ) (c : UnitFault) → nat_lt x n ≡ t
    → ◌≡◌ {A = Result ⊤ UnitFault} (if t then Ok tt else Err c) (Ok tt) → x < n
lt_case true x n c g h = lt_of x n g
lt_case false x n c g h = cc

place_below : (env : Environment) (p : Place) → place_fits env p ≡ Ok tt → PlaceBelow (length env.identifiers) p
place_below env p h = lt_case (nat_lt (number p) (length env.identifiers)) (number p) (length env.identifiers) _ refl h

-- ---- a function whose numbers fit

record NumberParts (env : Environment) (func : HirFunction) : Type 0 where
  context : all_pass (place_fits env) func.context ≡ Ok tt
  instructions : all_pass (instruction_fits env) func.instructions ≡ Ok tt
  blocks : all_pass (λ (e : BlockId × BasicBlock). block_fits env func e.1) func.body.blocks ≡ Ok tt

number_parts : (env : Environment) (func : HirFunction) → numbers_fit env func ≡ Ok tt → NumberParts env func
number_parts env func h =
    let a : (all_pass (λ p. place_fits env (param_place p)) func.params ≡ Ok tt) × _ =
    both_pass (all_pass (λ p. place_fits env (param_place p)) func.params) _ h in
    let b : (all_pass (place_fits env) func.context ≡ Ok tt) × _ =
    both_pass (all_pass (place_fits env) func.context) _ a.1 in
    let r : (place_fits env func.returns ≡ Ok tt) × _ = both_pass (place_fits env func.returns) _ b.1 in
    let i : (all_pass (instruction_fits env) func.instructions ≡ Ok tt) × _ =
    both_pass (all_pass (instruction_fits env) func.instructions) _ r.1 in
    record { context = b.0; instructions = i.0; blocks = i.1 }

operand_case : (env : Environment) (x : BlockId × Place) (es : List (BlockId × Place)) (b : BlockId) (q : Place)
    (t : Bool) → AllByRecursion (λ (e : BlockId × Place). PlaceBelow (length env.identifiers) e.1) (x ∷ es)
    → cond t (Some x.1) (value_at es b) ≡ Some q → (value_at es b ≡ Some q → number q < length env.identifiers)
    → number q < length env.identifiers
operand_case env x es b q true h e f = let same : x.1 ≡ q = cc in subst (PlaceBelow (length env.identifiers)) same h.0
operand_case env x es b q false h e f = f e

operand_found : (env : Environment) (es : List (BlockId × Place)) (b : BlockId) (q : Place)
    → AllByRecursion (λ (e : BlockId × Place). PlaceBelow (length env.identifiers) e.1) es → value_at es b ≡ Some q
    → number q < length env.identifiers
operand_found env [] b q h e = cc
operand_found env (x ∷ es) b q h e = operand_case env x es b q (same_block b x.0) h e (operand_found env es b q h.1)

phi_within : (env : Environment) (phi : Phi) → phi_fits env phi ≡ Ok tt → OperandsWithin (length env.identifiers) phi
phi_within env phi h b q e =
    let a : (place_fits env phi.place ≡ Ok tt) × _ = both_pass (place_fits env phi.place) _ h in
    operand_found env phi.operands b q (each_passes (λ (x : BlockId × Place). place_fits env x.1)
    (λ (x : BlockId × Place). PlaceBelow (length env.identifiers) x.1) phi.operands (λ x k. place_below env x.1 k)
    a.1) e

block_within : (env : Environment) (func : HirFunction) (b : BasicBlock) → block_fits env func b ≡ Ok tt
    → AllByRecursion (OperandsWithin (length env.identifiers)) b.phis
block_within env func b h =
    let a : (all_pass (phi_fits env) b.phis ≡ Ok tt) × _ = both_pass (all_pass (phi_fits env) b.phis) _ h in
    each_passes (phi_fits env) (OperandsWithin (length env.identifiers)) b.phis (phi_within env) a.0

block_case : (env : Environment) (x : BlockId × BasicBlock) (es : List (BlockId × BasicBlock)) (b : BlockId) (t : Bool)
    → AllByRecursion (OperandsWithin (length env.identifiers)) x.1.phis
    → AllByRecursion (OperandsWithin (length env.identifiers)) (phis_of (value_at es b))
    → AllByRecursion (OperandsWithin (length env.identifiers)) (phis_of (cond t (Some x.1) (value_at es b)))
block_case env x es b true h k = h
block_case env x es b false h k = k

blocks_within : (env : Environment) (es : List (BlockId × BasicBlock)) (b : BlockId)
    → AllByRecursion (λ (e : BlockId × BasicBlock). AllByRecursion (OperandsWithin (length env.identifiers)) e.1.phis)
    es
    → AllByRecursion (OperandsWithin (length env.identifiers)) (phis_of (value_at es b))
blocks_within env [] b h = tt
blocks_within env (x ∷ es) b h = block_case env x es b (same_block b x.0) h.0 (blocks_within env es b h.1)

phis_within : (env : Environment) (func : HirFunction) → numbers_fit env func ≡ Ok tt → PhisWithin func env
phis_within env func h b =
    blocks_within env func.body.blocks b
    (each_passes (λ (e : BlockId × BasicBlock). block_fits env func e.1)
    (λ (e : BlockId × BasicBlock). AllByRecursion (OperandsWithin (length env.identifiers)) e.1.phis)
    func.body.blocks (λ e k. block_within env func e.1 k) (number_parts env func h).blocks)

-- the numbers of each nested function fit
abbrev NestedFit : Environment → Type 0
NestedFit env = (k : ℕ) (g : HirFunction) → slice_get env.functions k ≡ Some g → numbers_fit env g ≡ Ok tt

context_case : (env : Environment) (o : Option HirFunction)
    → ((g : HirFunction) → o ≡ Some g → numbers_fit env g ≡ Ok tt)
    → AllByRecursion (PlaceBelow (length env.identifiers)) (option_map_or (λ (g : HirFunction). g.context) o [])
context_case env None h = tt
context_case env (Some g) h = each_passes (place_fits env) (PlaceBelow (length env.identifiers)) g.context
    (place_below env) (number_parts env g (h g refl)).context

created_below : (env : Environment) (o : Option FunctionId) → NestedFit env
    → AllByRecursion (PlaceBelow (length env.identifiers)) (created_places env o)
created_below env None h = tt
created_below env (Some f) h = context_case env (slice_get env.functions f.0) (h f.0)

instruction_below : (func : HirFunction) (env : Environment) (x : Instruction) → instruction_fits env x ≡ Ok tt
    → NestedFit env → AllByRecursion (λ z. z < length env.identifiers) (needs func env x)
instruction_below func env x h nested =
    let n = length env.identifiers in
    let a : (place_fits env x.lvalue ≡ Ok tt) × _ = both_pass (place_fits env x.lvalue) _ h in
    let b : (created_fits env (created x.value) ≡ Ok tt) × _ = both_pass (created_fits env (created x.value)) _ a.1 in
    let places : AllByRecursion (PlaceBelow n) (places_of x.value) =
    each_passes (place_fits env) (PlaceBelow n) (places_of x.value) (place_below env) b.1 in
    let context : AllByRecursion (PlaceBelow n) (created_places env (created x.value)) =
    created_below env (created x.value) nested in
    both (λ z. z < n) (needed (list_of func env x)) (map number (created_places env (created x.value)))
    (needed_below n (list_of func env x) [] (places_alone n (list_of func env x)
    (signature_speaks (PlaceBelow n) (λ (o : Option ReportId). Unit {0}) tt (λ (m : Named). Unit {0}) tt
    (known env (function_facts func env) None) x.lvalue x.span x.value (place_below env x.lvalue a.0) places context
    tt tt)))
    (of_map (λ z. z < n) number (created_places env (created x.value)) context)

needs_within : (env : Environment) (func : HirFunction) → numbers_fit env func ≡ Ok tt → NestedFit env
    → NeedsWithin func env
needs_within env func h nested i x found =
    instruction_below func env x (passes_at (instruction_fits env) func.instructions i.0 x
    (number_parts env func h).instructions found) nested

-- ---- what plainness looks at

-- the function begins with one of its blocks, and its phis and instructions name identifiers of the unit
pub record Looks (func : HirFunction) (env : Environment) : Type 0 where
  pub entry : is_some (value_at func.body.blocks func.body.entry) ≡ true
  pub phis : PhisWithin func env
  pub needs : NeedsWithin func env

entry_of : (b : Bool) (c : UnitFault) → ◌≡◌ {A = Result ⊤ UnitFault} (if b then Ok tt else Err c) (Ok tt) → b ≡ true
entry_of true c h = refl
entry_of false c h = cc

module _ (u : HirUnit) (h : rules_hold u ≡ Ok tt) where
  nested_fit : NestedFit u.env
  nested_fit k g e = sym (ap (of_function Numbers u.env k) e) ∙ nested_of_rules Numbers u k (parts_of_rules u h).numbers

  pub root_looks : Looks u.function u.env
  root_looks =
      let numbers : numbers_fit u.env u.function ≡ Ok tt = root_of_rules Numbers u (parts_of_rules u h).numbers in
      record {
        entry = entry_of (is_block u.function u.function.body.entry) _
            (root_of_rules Entry u (parts_of_rules u h).entry);
        phis = phis_within u.env u.function numbers;
        needs = needs_within u.env u.function numbers nested_fit;
      }

  pub nested_looks : (k : ℕ) (g : HirFunction) → slice_get u.env.functions k ≡ Some g → Looks g u.env
  nested_looks k g e =
      record {
        entry = entry_of (is_block g g.body.entry) _
            (sym (ap (of_function Entry u.env k) e) ∙ nested_of_rules Entry u k (parts_of_rules u h).entry);
        phis = phis_within u.env g (nested_fit k g e);
        needs = needs_within u.env g (nested_fit k g e) nested_fit;
      }

-- the same of all of a list
all_look : (env : Environment) (fs : List HirFunction)
    → ((k : ℕ) (g : HirFunction) → slice_get fs k ≡ Some g → Looks g env)
    → AllByRecursion (λ (f : HirFunction). Looks f env) fs
all_look env [] h = tt
all_look env (f ∷ fs) h = (h 0 f refl, all_look env fs (λ k g e. h (suc k) g e))

pub functions_look : (u : HirUnit) → rules_hold u ≡ Ok tt
    → AllByRecursion (λ (f : HirFunction). Looks f u.env) u.env.functions
functions_look u h = all_look u.env u.env.functions (nested_looks u h)
