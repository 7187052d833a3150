-- What is sure on a path is what isn't in the path's set.
use Rattle.std.specs.Prelude.{◌≡◌, ℕ, ◌<◌, ◌||◌, ◌&&◌, not, nat_eq, Bool, true, false, List, [], ◌∷◌, length, Option}
use Rattle.std.specs.Prelude.{Some, None, slice_get, refl, if◌then◌else◌}
use Rattle.std.specs.List.{AllByRecursion, list_all, range_with_len}
use Rattle.std.specs.Option.{option_map_or}
use Rattle.std.proofs.Common.{ap, sym, ◌∙◌, subst, arith}
use Rattle.alias_base.specs.Find.{value_at}
use Rattle.alias_base.specs.declared.ids.BlockId.{BlockId}
use Rattle.alias_base.specs.declared.ids.InstructionId.{InstructionId}
use Rattle.alias_rules.specs.function_rules.Rules.{is_among}
use Rattle.alias_hir.specs.declared.env.Environment.{Environment}
use Rattle.alias_hir.specs.declared.hir.HirFunction.{HirFunction}
use Rattle.alias_hir.specs.declared.hir.Instruction.{Instruction}
use Rattle.alias_hir.specs.declared.hir.Phi.{Phi}
use Rattle.alias_hir.specs.declared.place.Place.{Place}
use Rattle.alias_plainness.specs.Making.{number}
use Rattle.alias_plainness.specs.Sureness.{Sure, with_sure, sure_at_first, operand_is_sure, with_phi as sure_phi}
use Rattle.alias_plainness.specs.Sureness.{with_phis as sure_phis, adds, after_instruction, after_instructions}
use Rattle.alias_plainness.specs.Paths.{Path, begins, goes_on, sure_on, sure_before}
use Rattle.alias_plain.specs.unsure.Sets.{Rows, has}
use Rattle.alias_plain.specs.laws.Scopes.{Scope, scope_of}
use Rattle.alias_plain.specs.laws.UnsureFlow.{with_members, sure_numbers, unsure_at_first, operand_is_unsure, with_phi}
use Rattle.alias_plain.specs.laws.UnsureFlow.{with_phis, adds_in, through_at, through, through_all}
use Rattle.alias_plain.specs.laws.MemberLaws.{Compared, Same, Differ, compared, with_phi_same, with_phi_other}
use Rattle.alias_plain.specs.laws.MemberLaws.{has-with_members, has-without_members, among_range}
use Rattle.alias_plain.specs.laws.PathLaws.{phis_at, instructions_at, rows_on}
use Rattle.alias_plain.specs.laws.Scans.{sure_in}

-- of the identifiers of the unit exactly those are sure that aren't in the set
abbrev pub Agrees : ℕ → Sure → Rows → Type 0
Agrees n s r = (x : ℕ) → x < n → s x ≡ not (has r x)

-- the operands of the phi are identifiers of the unit
abbrev pub OperandsWithin : ℕ → Phi → Type 0
OperandsWithin n phi = (b : BlockId) (q : Place) → value_at phi.operands b ≡ Some q → number q < n

not_twice : (a b c : Bool) → b ≡ true → a ≡ not ((b || c) && not a)
not_twice true true c h = refl
not_twice false true c h = refl
not_twice a false c h = cc

first_agrees : (func : HirFunction) (env : Environment)
    → Agrees (length env.identifiers) (sure_at_first func) (unsure_at_first (scope_of func env))
first_agrees func env x h =
    let all = with_members (range_with_len 0 (length env.identifiers)) [] in
    let sure = is_among (sure_numbers func) x in
    not_twice sure (is_among (range_with_len 0 (length env.identifiers)) x) (has [] x)
    (among_range 0 (length env.identifiers) x (omega arith) (omega arith))
    ∙ ap not (sym (has-without_members (sure_numbers func) all x
    ∙ ap (λ b. b && not sure) (has-with_members (range_with_len 0 (length env.identifiers)) [] x)))

operand_case : (n : ℕ) (b : BlockId) (phi : Phi) (s : Sure) (r : Rows) (o : Option Place) → Agrees n s r
    → ((q : Place) → o ≡ Some q → number q < n)
    → option_map_or (λ (p : Place). s (number p)) o false ≡ not (option_map_or (λ (p : Place). has r (number p)) o true)
operand_case n b phi s r None h w = refl
operand_case n b phi s r (Some q) h w = h (number q) (w q refl)

operand_agrees : (n : ℕ) (from : Option BlockId) (phi : Phi) (s : Sure) (r : Rows) → Agrees n s r → OperandsWithin n phi
    → operand_is_sure from phi s ≡ not (operand_is_unsure from phi r)
operand_agrees n None phi s r h w = refl
operand_agrees n (Some b) phi s r h w = operand_case n b phi s r (value_at phi.operands b) h (w b)

phi_case : (n : ℕ) (from : Option BlockId) (phi : Phi) (s : Sure) (r : Rows) (x : ℕ) → Compared (number phi.place) x
    → Agrees n s r → OperandsWithin n phi → x < n → sure_phi from s phi x ≡ not (has (with_phi from r phi) x)
phi_case n from phi s r x (Same e b) h w l =
    ap (λ (t : Bool). if t then operand_is_sure from phi s else s x) b ∙ operand_agrees n from phi s r h w
    ∙ ap not (sym (with_phi_same from r phi x e))
phi_case n from phi s r x (Differ d b) h w l =
    ap (λ (t : Bool). if t then operand_is_sure from phi s else s x) b ∙ h x l
    ∙ ap not (sym (with_phi_other from r phi x d))

phis_agree : (n : ℕ) (from : Option BlockId) (phis : List Phi) (s : Sure) (r : Rows) → Agrees n s r
    → AllByRecursion (OperandsWithin n) phis → Agrees n (sure_phis from phis s) (with_phis from phis r)
phis_agree n from [] s r h w = h
phis_agree n from (phi ∷ phis) s r h w =
    phis_agree n from phis (sure_phi from s phi) (with_phi from r phi)
    (λ x l. phi_case n from phi s r x (compared (number phi.place) x) h w.0 l) w.1

added : (a s m : Bool) → s ≡ not m → a || s ≡ not (m && not a)
added true s true h = refl
added true s false h = refl
added false s true h = h
added false s false h = h

module _ (func : HirFunction) (env : Environment) where
  at_agrees : (n : ℕ) (o : Option Instruction) (s : Sure) (r : Rows) → Agrees n s r
      → Agrees n (with_sure (option_map_or (adds func env) o []) s) (through_at (scope_of func env) r o)
  at_agrees n None s r h x l = h x l
  at_agrees n (Some i) s r h x l = added (is_among (adds func env i) x) (s x) (has r x) (h x l)
      ∙ ap not (sym (has-without_members (adds func env i) r x))

  pub all_agree : (n : ℕ) (is : List InstructionId) (s : Sure) (r : Rows) → Agrees n s r
      → Agrees n (after_instructions func env is s) (through_all (scope_of func env) is r)
  all_agree n [] s r h = h
  all_agree n (i ∷ is) s r h = all_agree n is (after_instruction func env s i) (through (scope_of func env) r i)
      (at_agrees n (slice_get func.instructions i.0) s r h)

  -- the operands of the phis of a block are
  abbrev pub PhisWithin : Type 0
  PhisWithin = (b : BlockId) → AllByRecursion (OperandsWithin (length env.identifiers)) (phis_at func env b)

  pub path_agrees : {b : BlockId} (p : Path func b) → PhisWithin
      → Agrees (length env.identifiers) (sure_on func env p) (rows_on func env p)
  path_agrees begins w = phis_agree (length env.identifiers) None (phis_at func env func.body.entry)
      (sure_at_first func) (unsure_at_first (scope_of func env)) (first_agrees func env) (w func.body.entry)
  path_agrees (goes_on b d p e) w =
      phis_agree (length env.identifiers) (Some b) (phis_at func env d)
      (after_instructions func env (instructions_at func env b) (sure_on func env p))
      (through_all (scope_of func env) (instructions_at func env b) (rows_on func env p))
      (all_agree (length env.identifiers) (instructions_at func env b) (sure_on func env p) (rows_on func env p)
      (path_agrees p w)) (w d)

-- so the same lists of identifiers of the unit are sure
pub all_sure : (n : ℕ) (s : Sure) (r : Rows) (xs : List ℕ) → Agrees n s r → AllByRecursion (λ x. x < n) xs
    → list_all s xs ≡ list_all (sure_in r) xs
all_sure n s r [] h w = refl
all_sure n s r (x ∷ xs) h w = ap (λ b. b && list_all s xs) (h x w.0)
    ∙ ap (λ b. not (has r x) && b) (all_sure n s r xs h w.1)
