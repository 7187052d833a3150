-- A unit is followed again by what is told of its functions.
use Rattle.std.specs.Prelude.{slice_get, map, nat_eq, cond, ◌==◌, if◌then◌else◌}
use Rattle.std.specs.List.{AllByRecursion}
use Rattle.std.proofs.Common.{◌≡◌, ℕ, zero, suc, ◌+◌, ◌<◌, ◌≤◌, Bool, true, false, List, [], ◌∷◌, ◌++◌, length, Option}
use Rattle.std.proofs.Common.{Some, None}
use Rattle.std.proofs.Common.{Result, Ok, refl, ap, sym, ◌∙◌, subst, arith}
use Rattle.std.proofs.lemmas.Bool.Decides.{nat_tests}
use Rattle.std.proofs.lemmas.List.{map-append, length-map, length-append}
use Rattle.alias_base.specs.Answer.{◌>>=◌}
use Rattle.alias_base.specs.declared.ids.FunctionId.{FunctionId}
use Rattle.alias_hir.specs.declared.effect.AliasingEffect.{AliasingEffect}
use Rattle.alias_hir.specs.declared.env.Environment.{Environment}
use Rattle.alias_hir.specs.declared.env.Unit.{Unit as HirUnit}
use Rattle.alias_hir.specs.declared.hir.HirFunction.{HirFunction}
use Rattle.alias_hir.specs.declared.report.Report.{Report}
use Rattle.alias_range_pass.specs.Passes.{Ranged, range_pass}
use Rattle.alias_range_pass.specs.places.Keeping.{but_context}
use Rattle.alias_validate.specs.Freezing.{frozen_reports}
use Rattle.alias_validate.specs.Reassigning.{reassigned_reports, with_reassigned}
use Rattle.alias_validate.specs.Reports.{with_reports}
use Rattle.alias_rules.specs.Fitting.{function_fits}
use Rattle.alias_rules.specs.Functions.{rules_hold}
use Rattle.alias_rules.specs.Nesting.{times}
use Rattle.alias_rules.specs.RuleLaws.{fitting_entry, rules_make_function_fit}
use Rattle.alias_rules.specs.TreeLaws.{times_cons}
use Rattle.alias_effects.specs.Inference.{env_after}
use Rattle.alias_effects.specs.Recording.{with_effects_of}
use Rattle.alias_effects.specs.declared.solved.BlockEntry.{BlockEntry}
use Rattle.alias_nested.specs.Analysis.{most_levels}
use Rattle.alias_nested.specs.Created.{created_functions}
use Rattle.alias_nested.specs.Order.{innermost_first, numbers}
use Rattle.alias_nested.specs.Units.{validated}
use Rattle.alias_nested.proofs.Evolving.{passed_contexts}
use Rattle.alias_nested.proofs.Keeping.{pruned_fits}
use Rattle.alias_answer_laws.specs.order.Order.{nested_innermost_first}
use Rattle.alias_answer_laws.proofs.order.Ordering.{went}
use Rattle.alias_answer_laws.proofs.order.Solving.{root_apart}
use Rattle.alias_answer_laws.proofs.order.Staying.{count_alike}
use Rattle.alias_inferred_laws.proofs.inferred.Ranging.{PassLeaves, pass_leaves}
use Rattle.alias_text.specs.Results.{function_of}
use Rattle.alias_certificate.specs.declared.beyond.Beyond.{Beyond}
use Rattle.alias_certificate.specs.declared.certificate.CertFunction.{CertFunction}
use Rattle.alias_certificate.specs.declared.fault.CheckFault.{CheckFault}
use Rattle.alias_cert.specs.Functions.{ranging, same_name}
use Rattle.alias_follow.specs.Functions.{FollowedFunction, Following, following, followed_function, effects_followed}
use Rattle.alias_follow.specs.Functions.{root_ended, RootFollowing, root_finished, root_followed}
use Rattle.alias_follow.specs.Units.{below_followed, all_followed, UnitFollowing, handed_out, unit_followed}
use Rattle.alias_follow.specs.declared.function.follow.FunctionBeyond.{FunctionBeyond}
use Rattle.alias_follow.specs.declared.function.follow.FunctionEnd.{FunctionEnd}
use Rattle.alias_follow.specs.function.Functions.{function_followed}
use Rattle.alias_follow.specs.function.Givens.{given_of, blocks_given}
use Rattle.alias_follow.specs.lines.Known.{AreLinesKnown}
use Rattle.alias_brief_text_laws.specs.Telling.{told_block, told_blocks_from, told_blocks, told_temporaries}
use Rattle.alias_brief_text_laws.specs.Telling.{told_function}
use Rattle.alias_brief_text_laws.specs.Telling.{told_if_known, told_from, told}
use Rattle.alias_brief_laws.proofs.FunctionAgain.{IsTold, function_again}
use Rattle.alias_brief_laws.specs.Raising.{SaysBeyond}
use Rattle.alias_brief_laws.proofs.Lines.{AreTold, others_of}
use Rattle.alias_brief_laws.proofs.One.{effects_left, ranging_ok, ok_same}
use Rattle.alias_brief_laws.proofs.Order.{Done, goes_over}
use Rattle.alias_brief_laws.proofs.Walking.{Went, below_went, below_again}

-- ---- names

abbrev name_of : FollowedFunction → Option FunctionId
name_of x = x.solved.function

abbrev Unlike : Option FunctionId → List (Option FunctionId) → Type 0
Unlike n ns = AllByRecursion (λ (y : Option FunctionId). same_name y n ≡ false) ns

no_end : {X : Type 0} (P : Type 0) (xs ys : List X) (x : X) → [] ≡ xs ++ x ∷ ys → P
no_end P [] ys x e = cc
no_end P (z ∷ xs) ys x e = cc

counted_in : (ids : List FunctionId) (xs ys : List (Option FunctionId)) (j : FunctionId)
    → map Some ids ++ None ∷ [] ≡ xs ++ Some j ∷ ys → 1 ≤ times (numbers ids) j.0
counted_in [] [] ys j e = cc
counted_in [] (x ∷ xs) ys j e =
    let rest : [] ≡ xs ++ Some j ∷ ys = cc in no_end (1 ≤ times (numbers []) j.0) xs ys (Some j) rest
counted_in (k ∷ ids) [] ys j e =
    let same : k ≡ j = cc in
    let c : times (numbers (k ∷ ids)) j.0 ≡ cond (nat_eq k.0 j.0) 1 0 + times (numbers ids) j.0 =
    times_cons k.0 (numbers ids) j.0 in
    let itself : nat_eq j.0 j.0 ≡ true = grind (arith, nat_tests) in
    let one : ◌≡◌ {A = ℕ} (cond (nat_eq k.0 j.0) 1 0) 1 =
    ap (λ (z : FunctionId). cond (nat_eq z.0 j.0) 1 0) same ∙ ap (λ b. cond b 1 0) itself in
    omega (arith, c, one)
counted_in (k ∷ ids) (x ∷ xs) ys j e =
    let rest : map Some ids ++ None ∷ [] ≡ xs ++ Some j ∷ ys = cc in
    let more = counted_in ids xs ys j rest in
    let c : times (numbers (k ∷ ids)) j.0 ≡ cond (nat_eq k.0 j.0) 1 0 + times (numbers ids) j.0 =
    times_cons k.0 (numbers ids) j.0 in
    omega arith

unlike_if : (k j : FunctionId) (ids : List FunctionId) (b : Bool) → (k.0 == j.0) ≡ b → times (numbers (k ∷ ids)) j.0 ≤ 1
    → 1 ≤ times (numbers ids) j.0 → b ≡ false
unlike_if k j ids false is once more = refl
unlike_if k j ids true is once more =
    let c : times (numbers (k ∷ ids)) j.0 ≡ cond (nat_eq k.0 j.0) 1 0 + times (numbers ids) j.0 =
    times_cons k.0 (numbers ids) j.0 in
    let one : ◌≡◌ {A = ℕ} (cond (nat_eq k.0 j.0) 1 0) 1 = ap (λ b. cond b 1 0) is in
    absurd (omega (arith, once, more, c, one))

unlike_first : (k : FunctionId) (ids : List FunctionId) (n : Option FunctionId) (xs ys : List (Option FunctionId))
    → ((j : ℕ) → times (numbers (k ∷ ids)) j ≤ 1) → map Some ids ++ None ∷ [] ≡ xs ++ n ∷ ys
    → same_name (Some k) n ≡ false
unlike_first k ids None xs ys once e = refl
unlike_first k ids (Some j) xs ys once e = unlike_if k j ids (k.0 == j.0) refl (once j.0) (counted_in ids xs ys j e)

-- no name in front of one is the same
front_unlike : (ids : List FunctionId) → ((j : ℕ) → times (numbers ids) j ≤ 1) → (xs ys : List (Option FunctionId))
    (n : Option FunctionId) → map Some ids ++ None ∷ [] ≡ xs ++ n ∷ ys → Unlike n xs
front_unlike ids once [] ys n e = tt
front_unlike [] once (x ∷ xs) ys n e =
    let rest : [] ≡ xs ++ n ∷ ys = cc in no_end (Unlike n (x ∷ xs)) xs ys n rest
front_unlike (k ∷ ids) once (x ∷ xs) ys n e =
    let first : Some k ≡ x = cc in
    let rest : map Some ids ++ None ∷ [] ≡ xs ++ n ∷ ys = cc in (
      subst (λ y. same_name y n ≡ false) first (unlike_first k ids n xs ys once rest),
      front_unlike ids (λ j.
          let o = once j in
          let c : times (numbers (k ∷ ids)) j ≡ cond (nat_eq k.0 j) 1 0 + times (numbers ids) j =
          times_cons k.0 (numbers ids) j in
          omega arith) xs ys n rest,
    )

-- ---- what is told

from_zero : (k : ℕ) → 0 + k ≡ k
from_zero k = omega arith

module _ (u : HirUnit) (summary : List AliasingEffect) where
  abbrev told_of : FollowedFunction → CertFunction
  told_of x = told_function u summary x.solved x.beyond

  told_known : (x : FollowedFunction) (o : Option FunctionBeyond) → o ≡ Some x.beyond
      → told_if_known u summary x.solved o ≡ told_of x ∷ []
  told_known x o is = ap (told_if_known u summary x.solved) is

  told_all : (all : List FunctionBeyond) (n : ℕ) (fs : List FollowedFunction)
      → ((k : ℕ) → slice_get all (n + k) ≡ slice_get (map (λ (x : FollowedFunction). x.beyond) fs) k)
      → told_from u summary all n (map (λ (x : FollowedFunction). x.solved) fs) ≡ map told_of fs
  told_all all n [] at = refl
  told_all all n (x ∷ fs) at =
      let here : n ≡ n + 0 = omega arith in
      ap (λ cs. cs ++ told_from u summary all (n + 1) (map (λ (y : FollowedFunction). y.solved) fs))
      (told_known x (slice_get all n) (ap (slice_get all) here ∙ at 0))
      ∙ ap (λ cs. told_of x ∷ cs) (told_all all (n + 1) fs (λ k.
      let next : (n + 1) + k ≡ n + suc k = omega arith in ap (slice_get all) next ∙ at (suc k)))

  same_itself : (n : Option FunctionId) → same_name n n ≡ true
  same_itself None = refl
  same_itself (Some f) = grind (arith, nat_tests)

  first_given : (xs ys : List FollowedFunction) (z : FollowedFunction) → Unlike (name_of z) (map name_of xs)
      → given_of (map told_of (xs ++ z ∷ ys)) (name_of z) ≡ Some (told_of z)
  first_given [] ys z apart =
      ap (λ b. if b then Some (told_of z) else given_of (map told_of ys) (name_of z)) (same_itself (name_of z))
  first_given (x ∷ xs) ys z apart =
      ap (λ b. if b then Some (told_of x) else given_of (map told_of (xs ++ z ∷ ys)) (name_of z)) apart.0
      ∙ first_given xs ys z apart.1

  -- the blocks of a function that is there
  behind : (ms : List Beyond) (k : ℕ) → slice_get ms (suc k) ≡ slice_get (others_of ms) k
  behind [] k = refl
  behind (m ∷ ms) k = refl

  next_at : (all ms : List Beyond) (n : ℕ) → ((k : ℕ) → slice_get all (n + k) ≡ slice_get ms k) → (k : ℕ)
      → slice_get all ((n + 1) + k) ≡ slice_get (others_of ms) k
  next_at all ms n at k =
      let next : (n + 1) + k ≡ n + suc k = omega arith in
      ap (slice_get all) next ∙ at (suc k) ∙ behind ms k

  says_beyond : (g : HirFunction) (e : BlockEntry) (m : Beyond) (o : Option Beyond) → o ≡ Some m
      → SaysBeyond (told_block g o e) m
  says_beyond g e m o is = subst (λ z. SaysBeyond (told_block g z e) m) (sym is)
      (record { values = refl; variables = refl })

  are_told : (g : HirFunction) (all ms : List Beyond) (n : ℕ) → ((k : ℕ) → slice_get all (n + k) ≡ slice_get ms k)
      → (es : List BlockEntry) → AreTold (told_blocks_from g all n es) ms es
  are_told g all ms n at [] = tt
  are_told g all ms n at (e ∷ es) =
      let here : n ≡ n + 0 = omega arith in (
        refl,
        λ m is. says_beyond g e m (slice_get all n) (ap (slice_get all) here ∙ at 0 ∙ is),
        are_told g all (others_of ms) (n + 1) (next_at all ms n at) es,
      )

  blocks_told : (o : Option HirFunction) (g : HirFunction) → o ≡ Some g → (b : FunctionBeyond) (es : List BlockEntry)
      → AreTold (told_blocks o b es) b.blocks es
  blocks_told o g is b es = subst (λ z. AreTold (told_blocks z b es) b.blocks es) (sym is)
      (are_told g b.blocks b.blocks 0 (λ k. ap (slice_get b.blocks) (from_zero k)) es)

  is_told : (x : FollowedFunction) (g : HirFunction) (o : Option CertFunction)
      → function_of u (name_of x) ≡ Some g → o ≡ Some (told_of x) → IsTold o x.solved x.beyond
  is_told x g o there is = record {
    said = told_of x;
    is = is;
    blocks = blocks_told (function_of u (name_of x)) g there x.beyond x.solved.entries;
    temporaries = λ loops. ap (λ b. told_temporaries b x.solved.temporaries) loops;
  }

-- ---- the parts of a unit

-- what follows a function's effects at the root
after_effects : HirFunction → Following → Result FunctionEnd CheckFault → Result RootFollowing CheckFault
after_effects f a r = (r >>= (λ e. Ok (effects_left None false f a e))) >>= root_finished

root_again : (given also : List CertFunction) (f : HirFunction) (a : Following) (r : RootFollowing) (e : FunctionEnd)
    → root_followed given f a ≡ Ok r → function_followed (given_of given None) None a.env f false ≡ Ok e
    → function_followed (given_of also None) None a.env f false ≡ Ok e → root_followed also f a ≡ Ok r
unfolding after_effects
root_again given also f a r e h was again = ap (after_effects f a) (again ∙ sym was) ∙ h

-- what the range pass and both validations of the root leave of functions
record Left (env : Environment) (r : RootFollowing) (fs : List FollowedFunction) : Type 0 where
  functions : r.following.functions ≡ fs
  contexts : map but_context r.following.env.functions ≡ map but_context env.functions

root_left : (g : HirFunction) (env : Environment) (fs : List FollowedFunction) (r : RootFollowing)
    → root_finished (g, following env fs) ≡ Ok r → Left env r fs
root_left g env fs r h =
    let w = went (ranging None (root_ended g env)) (λ (q : List AliasingEffect × (HirFunction × Environment)).
    Ok (record { summary = q.0; func = q.1.0; following = following q.1.1 fs })) r h in
    let v = went (range_pass false g env) (λ (p : Ranged).
    validated p.after.0 p.after.1 >>= (λ (more : Environment).
    let z : List AliasingEffect × (HirFunction × Environment) = (p.summary, (p.after.0, more)) in Ok z)) w.0
    (ranging_ok None (root_ended g env) w.0 w.1) in
    let p : Ranged = v.0 in
    let x = went (validated p.after.0 p.after.1) (λ (more : Environment).
    let z : List AliasingEffect × (HirFunction × Environment) = (p.summary, (p.after.0, more)) in Ok z) w.0 v.2 in
    let y = went (with_reassigned p.after.1 (reassigned_reports p.after.1 p.after.0))
    (λ (m : Environment). Ok (with_reports m (frozen_reports m p.after.0))) x.0 x.1 in
    let z = went (reassigned_reports p.after.1 p.after.0) (λ (rs : List Report). Ok (with_reports p.after.1 rs)) y.0
    y.1 in
    let first : with_reports p.after.1 z.0 ≡ y.0 = ok_same (with_reports p.after.1 z.0) y.0 z.2 in
    let second : with_reports y.0 (frozen_reports y.0 p.after.0) ≡ x.0 =
    ok_same (with_reports y.0 (frozen_reports y.0 p.after.0)) x.0 y.2 in
    let third : ◌≡◌ {A = List AliasingEffect × (HirFunction × Environment)} (p.summary, (p.after.0, x.0)) w.0 =
    ok_same (p.summary, (p.after.0, x.0)) w.0 x.2 in
    let last : record { summary = w.0.0; func = w.0.1.0; following = following w.0.1.1 fs } ≡ r =
    ok_same (record { summary = w.0.0; func = w.0.1.0; following = following w.0.1.1 fs }) r w.2 in
    let same : r.following.env.functions ≡ p.after.1.functions =
    ap (λ (q : RootFollowing). q.following.env.functions) (sym last)
    ∙ ap (λ (q : List AliasingEffect × (HirFunction × Environment)). q.1.1.functions) (sym third)
    ∙ ap (λ (q : Environment). q.functions) (sym second) ∙ ap (λ (q : Environment). q.functions) (sym first) in
    let leaves : PassLeaves false g env p = pass_leaves false g env p v.1 in
    record {
      functions = ap (λ (q : RootFollowing). q.following.functions) (sym last);
      contexts = ap (map but_context) same ∙ ap (λ (q : Environment). q.functions) leaves.kept.rest;
    }

-- the functions below the root, the root, and what came of it
record Parts (given : List CertFunction) (u : HirUnit) (x : UnitFollowing) : Type 0 where
  nested : Following
  below : below_followed given most_levels u.function (following u.env []) ≡ Ok nested
  end : FunctionEnd
  ended : function_followed (given_of given None) None nested.env u.function false ≡ Ok end
  root : RootFollowing
  went_root : root_followed given u.function nested ≡ Ok root
  functions : root.following.functions ≡ nested.functions ++ followed_function None false u.function nested.env end ∷ []
  count : length root.following.env.functions ≡ length nested.env.functions
  out : handed_out root ≡ x

parts : (given : List CertFunction) (u : HirUnit) (x : UnitFollowing) → unit_followed given u ≡ Ok x → Parts given u x
parts given u x h =
    let w = went (all_followed given u.function (following u.env [])) (λ (r : RootFollowing). Ok (handed_out r)) x h in
    let v = went (below_followed given most_levels u.function (following u.env [])) (root_followed given u.function) w.0
    w.1 in
    let a : Following = v.0 in
    let y = went (effects_followed given None false u.function a) root_finished w.0 v.2 in
    let z = went (function_followed (given_of given None) None a.env u.function false)
    (λ e. Ok (effects_left None false u.function a e)) y.0 y.1 in
    let e : FunctionEnd = z.0 in
    let is : effects_left None false u.function a e ≡ y.0 = ok_same (effects_left None false u.function a e) y.0 z.2 in
    let left = root_left (with_effects_of e.end.solved u.function) (env_after a.env e.end)
    (a.functions ++ followed_function None false u.function a.env e ∷ []) w.0 (ap root_finished is ∙ y.2) in
    record {
      nested = a;
      below = v.1;
      end = e;
      ended = z.1;
      root = w.0;
      went_root = v.2;
      functions = left.functions;
      count = count_alike a.env.functions w.0.following.env.functions
          (left.contexts ∙ passed_contexts a.env e.end);
      out = ok_same (handed_out w.0) x w.2;
    }

-- ---- the whole

get_there : {X : Type 0} (xs : List X) (k : ℕ) → k < length xs → (x : X) × (slice_get xs k ≡ Some x)
get_there [] k h = absurd (omega arith)
get_there (x ∷ xs) zero h = (x, refl)
get_there (x ∷ xs) (suc k) h = get_there xs k (omega arith)

module _ (given : List CertFunction) (u : HirUnit) (x : UnitFollowing) (rules : rules_hold u ≡ Ok tt)
    (known : (id : Option FunctionId) → AreLinesKnown (blocks_given (given_of given id)))
    (h : unit_followed given u ≡ Ok x) where
  p : Parts given u x
  p = parts given u x h

  abbrev nested : Following
  nested = p.nested

  abbrev own : FollowedFunction
  own = followed_function None false u.function nested.env p.end

  functions_are : x.functions ≡ nested.functions ++ own ∷ []
  functions_are = ap (λ (z : UnitFollowing). z.functions) (sym p.out) ∙ p.functions

  abbrev order : List FunctionId
  order = nested_innermost_first u

  over : Done u.env.functions [] (following u.env []) nested
      (innermost_first most_levels u.env.functions (created_functions u.function))
  over = goes_over given u.env.functions most_levels u.function [] (following u.env []) nested
      (record { count = refl; slots = λ k free. refl }) (root_apart u rules) p.below

  names : map name_of x.functions ≡ map Some order ++ None ∷ []
  names = ap (map name_of) functions_are ∙ map-append name_of nested.functions (own ∷ [])
      ∙ ap (λ ns. ns ++ None ∷ []) over.functions

  split_names : (xs ys : List FollowedFunction) (z : FollowedFunction) → x.functions ≡ xs ++ z ∷ ys
      → map Some order ++ None ∷ [] ≡ map name_of xs ++ name_of z ∷ map name_of ys
  split_names xs ys z split = sym names ∙ ap (map name_of) split ∙ map-append name_of xs (z ∷ ys)

  once : (j : ℕ) → times (numbers order) j ≤ 1
  once j = let o = (root_apart u rules).once j in let none : times [] j ≡ 0 = refl in omega arith

  abbrev handed : HirUnit
  handed = x.followed.inferred.unit

  count : length handed.env.functions ≡ length u.env.functions
  count = ap (λ (z : UnitFollowing). length z.followed.inferred.unit.env.functions) (sym p.out) ∙ p.count
      ∙ over.stands.count

  there : (xs ys : List FollowedFunction) (z : FollowedFunction) (n : Option FunctionId) → name_of z ≡ n
      → x.functions ≡ xs ++ z ∷ ys → (g : HirFunction) × (function_of handed n ≡ Some g)
  there xs ys z None is split = (handed.function, refl)
  there xs ys z (Some id) is split =
      let at : map Some order ++ None ∷ [] ≡ map name_of xs ++ Some id ∷ map name_of ys =
      split_names xs ys z split ∙ ap (λ n. map name_of xs ++ n ∷ map name_of ys) is in
      let lt : id.0 < length u.env.functions = (root_apart u rules).there id.0
      (counted_in order (map name_of xs) (map name_of ys) id at) in
      get_there handed.env.functions id.0 (subst (λ k. id.0 < k) (sym count) lt)

  abbrev again : List CertFunction
  again = (told x.followed).functions

  solved_is : x.followed.inferred.solved ≡ map (λ (z : FollowedFunction). z.solved) x.functions
  solved_is = subst (λ (w : UnitFollowing). w.followed.inferred.solved
      ≡ map (λ (z : FollowedFunction). z.solved) w.functions) p.out refl

  beyond_is : x.followed.beyond ≡ map (λ (z : FollowedFunction). z.beyond) x.functions
  beyond_is = subst (λ (w : UnitFollowing). w.followed.beyond ≡ map (λ (z : FollowedFunction). z.beyond) w.functions)
      p.out refl

  again_is : again ≡ map (told_of handed x.followed.inferred.summary) x.functions
  again_is =
      (λ i. told_from handed x.followed.inferred.summary (beyond_is i) 0 (solved_is i))
      ∙ told_all handed x.followed.inferred.summary (map (λ (z : FollowedFunction). z.beyond) x.functions) 0
      x.functions
      (λ k. ap (slice_get (map (λ (z : FollowedFunction). z.beyond) x.functions)) (from_zero k))

  tells : (xs ys : List FollowedFunction) (z : FollowedFunction) → x.functions ≡ xs ++ z ∷ ys
      → IsTold (given_of again (name_of z)) z.solved z.beyond
  tells xs ys z split =
      let g = there xs ys z (name_of z) refl split in
      is_told handed x.followed.inferred.summary z g.0 (given_of again (name_of z)) g.1
      (ap (λ cs. given_of cs (name_of z)) (again_is ∙ ap (map (told_of handed x.followed.inferred.summary)) split)
      ∙ first_given handed x.followed.inferred.summary xs ys z
      (front_unlike order once (map name_of xs) (map name_of ys) (name_of z) (split_names xs ys z split)))

  -- one is handed out of each function
  pub count_is : length x.followed.inferred.solved ≡ length order + 1
  count_is =
      ap length solved_is ∙ length-map x.functions (λ (z : FollowedFunction). z.solved)
      ∙ sym (length-map x.functions name_of) ∙ ap length names ∙ length-append (map Some order) (None ∷ [])
      ∙ ap (λ n. n + 1) (length-map order (λ (id : FunctionId). Some id))

  fits : function_fits u.function u.env ≡ true
  fits = rules_make_function_fit u rules

  went_nested : Went (following u.env []) nested
  went_nested = below_went given known most_levels u.function (following u.env []) nested fits p.below

  fits_nested : function_fits u.function nested.env ≡ true
  fits_nested = pruned_fits u.env nested.env went_nested.pruned u.function fits

  below_too : below_followed again most_levels u.function (following u.env []) ≡ Ok nested
  below_too = below_again given known again x.functions tells most_levels u.function (following u.env []) nested fits
      p.below (record { rest = own ∷ []; is = functions_are })

  root_too : root_followed again u.function nested ≡ Ok p.root
  root_too =
      let t = tells nested.functions [] own functions_are in
      root_again given again u.function nested p.root p.end p.went_root p.ended
      (function_again None nested.env u.function false
      (fitting_entry u.function nested.env fits_nested)
      (given_of given None) (given_of again None) p.end
      (record { said = t.said; is = t.is; blocks = t.blocks; temporaries = t.temporaries }) (known None) p.ended)

  pub unit_again : unit_followed again u ≡ Ok x
  unit_again =
      ap (λ r. r >>= root_followed again u.function >>= (λ (s : RootFollowing). Ok (handed_out s))) below_too
      ∙ ap (λ r. r >>= (λ (s : RootFollowing). Ok (handed_out s))) root_too ∙ ap Ok p.out
