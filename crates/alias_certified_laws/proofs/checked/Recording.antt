-- While functions are checked, one that was checked before stands with the effects of its solution, and its check began
-- with it as the unit given has it.
use Rattle.std.specs.Prelude.{◌≡◌, ℕ, nat_eq, true, false, List, [], ◌∷◌, ◌++◌, Option, Some, None, Result, Ok}
use Rattle.std.specs.Prelude.{option_map, slice_get, slice_set, refl}
use Rattle.std.proofs.Common.{zero, suc, ⊎_elim, ap, sym, ◌∙◌, subst}
use Rattle.std.proofs.lemmas.Bool.{eqb-true}
use Rattle.alias_base.specs.Answer.{◌>>=◌}
use Rattle.alias_base.specs.declared.ids.FunctionId.{FunctionId}
use Rattle.alias_graph.proofs.FitLaws.{went_on}
use Rattle.alias_hir.specs.declared.env.Environment.{Environment}
use Rattle.alias_hir.specs.declared.hir.HirFunction.{HirFunction}
use Rattle.alias_rules.specs.function_rules.Rules.{is_among}
use Rattle.alias_nesting_laws.specs.SlotLaws.{set_other}
use Rattle.alias_nesting_laws.specs.Slots.{with_function}
use Rattle.alias_range_pass.specs.Laws.{but_places}
use Rattle.alias_range_pass.specs.places.Keeping.{but_context}
use Rattle.alias_nested.specs.Created.{created_functions}
use Rattle.alias_nested.specs.Slots.{emptied}
use Rattle.alias_nested.proofs.Changing.{slots_stay}
use Rattle.alias_answer_laws.proofs.order.Ordering.{neither, differs, both_false}
use Rattle.alias_certificate.specs.declared.certificate.CertFunction.{CertFunction}
use Rattle.alias_certificate.specs.declared.fault.CheckFault.{CheckFault}
use Rattle.alias_certified_laws.specs.checked.Carried.{CarriesItsSolution}
use Rattle.alias_certified_laws.specs.checked.Handed.{IsNamed}
use Rattle.alias_cert.specs.Functions.{CheckedFunction, Checking, checking, nested_checked}
use Rattle.alias_cert.specs.Units.{each, put_back, taken_checked, found_checked, slot_checked, below_checked}
use Rattle.alias_certified_laws.proofs.checked.Ordering.{ok_is, Finished, function_finished}
use Rattle.alias_certified_laws.proofs.checked.Preceding.{WasThere, IsNew, new_or_there, named_last, named_more}
use Rattle.alias_inferred_laws.proofs.inferred.Listing.{without_summary}

-- ---- functions that differ in the effects of context places

context_places : (f g : HirFunction) → but_context g ≡ but_context f → but_places g ≡ but_places f
context_places f g e = ap (λ (z : HirFunction). record (but_places z) { context = z.context }) e

pub carries_still : (x : CheckedFunction) (f g : HirFunction) → but_context g ≡ but_context f → CarriesItsSolution x f
    → CarriesItsSolution x g
carries_still x f g e h = ap without_summary (context_places f g e) ∙ h

-- what a slot holds now was there before, but for these
pub there_before : (o p : Option HirFunction) (g : HirFunction) → option_map but_context p ≡ option_map but_context o
    → p ≡ Some g → (f : HirFunction) × (o ≡ Some f) × (but_context g ≡ but_context f)
there_before None None g e h = cc
there_before None (Some h0) g e h = cc
there_before (Some f) None g e h = cc
there_before (Some f) (Some h0) g e h =
    let same : but_context h0 ≡ but_context f = cc in
    let is : h0 ≡ g = cc in
    (f, refl, subst (λ (z : HirFunction). but_context z ≡ but_context f) is same)

-- a slot holds what was put there
put_there : (xs : List HirFunction) (k : ℕ) (g f : HirFunction) → slice_get (slice_set xs k g) k ≡ Some f → g ≡ f
put_there [] k g f h = cc
put_there (x ∷ xs) zero g f h = cc
put_there (x ∷ xs) (suc k) g f h = put_there xs k g f h

-- ---- what holds of the functions that were checked

module _ (fs : List HirFunction) where
  -- Of each function that isn't out: where it was checked for the first time, the check began with it as the unit given
  -- has it; where it wasn't checked, it stands as it was given; and where it was checked for the last time, it carries
  -- its solution.
  pub record AllRecorded (out : List ℕ) (a : Checking) : Type 0 where
    pub given : (xs ys : List CheckedFunction) (x : CheckedFunction) (id : FunctionId) → a.functions ≡ xs ++ x ∷ ys
        → x.solved.function ≡ Some id → (IsNamed id xs → ⊥) → (IsNamed id ys → ⊥) → is_among out id.0 ≡ false
        → option_map but_context (slice_get fs id.0) ≡ Some (but_context x.func)
    pub fresh : (id : FunctionId) → (IsNamed id a.functions → ⊥) → is_among out id.0 ≡ false
        → option_map but_context (slice_get a.env.functions id.0) ≡ option_map but_context (slice_get fs id.0)
    pub carried : (xs ys : List CheckedFunction) (x : CheckedFunction) (id : FunctionId) → a.functions ≡ xs ++ x ∷ ys
        → x.solved.function ≡ Some id → (IsNamed id ys → ⊥) → is_among out id.0 ≡ false
        → (g : HirFunction) → slice_get a.env.functions id.0 ≡ Some g → CarriesItsSolution x g

  taken_out : (id : FunctionId) (out : List ℕ) (a : Checking) (g : HirFunction) → AllRecorded out a
      → AllRecorded (id.0 ∷ out) (record a { env = with_function id g a.env })
  taken_out id out a g all = record {
    given = λ xs ys x j split number before after free.
        all.given xs ys x j split number before after (neither (nat_eq j.0 id.0) (is_among out j.0) free).1;
    fresh = λ j unnamed free.
        let n = neither (nat_eq j.0 id.0) (is_among out j.0) free in
        ap (option_map but_context) (set_other a.env.functions id.0 j.0 g (λ e. differs j.0 id.0 n.0 e))
        ∙ all.fresh j unnamed n.1;
    carried = λ xs ys x j split number after free h there.
        let n = neither (nat_eq j.0 id.0) (is_among out j.0) free in
        all.carried xs ys x j split number after n.1 h
        (sym (set_other a.env.functions id.0 j.0 g (λ e. differs j.0 id.0 n.0 e)) ∙ there);
  }

  module _ (id : FunctionId) (out : List ℕ) (a : Checking) (f : HirFunction) (s : HirFunction × Checking)
      (fin : Finished id f a s.0 s.1) (all : AllRecorded (id.0 ∷ out) a)
      (is_given : (IsNamed id a.functions → ⊥) → is_among out id.0 ≡ false
      → option_map but_context (slice_get fs id.0) ≡ Some (but_context f)) where
    abbrev y : CheckedFunction
    y = fin.entry

    -- where it is the one that was checked last, its number is this
    same_number : (j : FunctionId) (x : CheckedFunction) → x.solved.function ≡ Some j → y ≡ x → j ≡ id
    same_number j x number same =
        let mine : x.solved.function ≡ Some id = ap (λ (z : CheckedFunction). z.solved.function) (sym same)
        ∙ fin.number in
        let both : Some j ≡ Some id = sym number ∙ mine in
        cc

    -- one that isn't named behind is another
    other : (j : FunctionId) (rest ys : List CheckedFunction) → ys ≡ rest ++ y ∷ [] → (IsNamed j ys → ⊥)
        → nat_eq j.0 id.0 ≡ false
    other j rest ys behind after =
        elim (nat_eq j.0 id.0) as (λ b. nat_eq j.0 id.0 ≡ b → nat_eq j.0 id.0 ≡ false) [
          | true ↦ λ e.
              let same : j ≡ id = ap (λ k. let z : FunctionId = record { 0 = k } in z) (eqb-true j.0 id.0 e) in
              absurd (after (subst (λ k. IsNamed k ys) (sym same)
              (subst (IsNamed id) (sym behind) (named_last id rest y fin.number))))
          | false ↦ λ e. e
        ] refl

    free_still : (j : FunctionId) → nat_eq j.0 id.0 ≡ false → is_among out j.0 ≡ false → is_among (id.0 ∷ out) j.0
        ≡ false
    free_still j e free = both_false (nat_eq j.0 id.0) (is_among out j.0) e free

    none_in_rest : (j : FunctionId) (rest ys : List CheckedFunction) → ys ≡ rest ++ y ∷ [] → (IsNamed j ys → ⊥)
        → IsNamed j rest → ⊥
    none_in_rest j rest ys behind after = λ i. after (subst (IsNamed j) (sym behind) (named_more j rest (y ∷ []) i))

    given_back : (xs ys : List CheckedFunction) (x : CheckedFunction) (j : FunctionId) → a.functions ++ y ∷ []
        ≡ xs ++ x ∷ ys → x.solved.function ≡ Some j → (IsNamed j xs → ⊥) → (IsNamed j ys → ⊥) → is_among out j.0 ≡ false
        → option_map but_context (slice_get fs j.0) ≡ Some (but_context x.func)
    given_back xs ys x j split number before after free =
        ⊎_elim
        (λ (n : IsNew a.functions y xs ys x).
        let same : j ≡ id = same_number j x number n.same in
        let func : x.func ≡ f = ap (λ (z : CheckedFunction). z.func) (sym n.same) ∙ fin.begun in
        let is : option_map but_context (slice_get fs id.0) ≡ Some (but_context f) =
        is_given (λ i. before (subst (λ k. IsNamed k xs) (sym same) (subst (IsNamed id) n.before i)))
        (subst (λ (k : FunctionId). is_among out k.0 ≡ false) same free) in
        ap (λ (k : FunctionId). option_map but_context (slice_get fs k.0)) same ∙ is
        ∙ ap (λ (z : HirFunction). Some (but_context z)) (sym func))
        (λ (t : WasThere a.functions y xs ys x).
        all.given xs t.rest x j t.all number before (none_in_rest j t.rest ys t.behind after)
        (free_still j (other j t.rest ys t.behind after) free))
        (new_or_there a.functions xs ys x y split)

    fresh_back : (j : FunctionId) → (IsNamed j (a.functions ++ y ∷ []) → ⊥) → is_among out j.0 ≡ false
        → option_map but_context (slice_get (put_back id s).env.functions j.0)
        ≡ option_map but_context (slice_get fs j.0)
    fresh_back j unnamed free =
        let e : nat_eq j.0 id.0 ≡ false = other j a.functions (a.functions ++ y ∷ []) refl unnamed in
        ap (option_map but_context) (set_other s.1.env.functions id.0 j.0 s.0 (λ same. differs j.0 id.0 e same))
        ∙ slots_stay a.env s.1.env fin.contexts j.0
        ∙ all.fresh j (λ i. unnamed (named_more j a.functions (y ∷ []) i)) (free_still j e free)

    carried_back : (xs ys : List CheckedFunction) (x : CheckedFunction) (j : FunctionId) → a.functions ++ y ∷ []
        ≡ xs ++ x ∷ ys → x.solved.function ≡ Some j → (IsNamed j ys → ⊥) → is_among out j.0 ≡ false
        → (g : HirFunction) → slice_get (put_back id s).env.functions j.0 ≡ Some g → CarriesItsSolution x g
    carried_back xs ys x j split number after free g there =
        ⊎_elim
        (λ (n : IsNew a.functions y xs ys x).
        let same : j ≡ id = same_number j x number n.same in
        let here : slice_get (slice_set s.1.env.functions id.0 s.0) id.0 ≡ Some g =
        subst (λ (k : FunctionId). slice_get (slice_set s.1.env.functions id.0 s.0) k.0 ≡ Some g) same there in
        subst (λ z. CarriesItsSolution z g) n.same
        (subst (CarriesItsSolution y) (put_there s.1.env.functions id.0 s.0 g here) fin.carries))
        (λ (t : WasThere a.functions y xs ys x).
        let e : nat_eq j.0 id.0 ≡ false = other j t.rest ys t.behind after in
        let stood : slice_get s.1.env.functions j.0 ≡ Some g =
        sym (set_other s.1.env.functions id.0 j.0 s.0 (λ same. differs j.0 id.0 e same)) ∙ there in
        let p = there_before (slice_get a.env.functions j.0) (slice_get s.1.env.functions j.0) g
        (slots_stay a.env s.1.env fin.contexts j.0) stood in
        carries_still x p.0 g p.2
        (all.carried xs t.rest x j t.all number (none_in_rest j t.rest ys t.behind after) (free_still j e free) p.0
        p.1))
        (new_or_there a.functions xs ys x y split)

    back : AllRecorded out (put_back id s)
    back = record {
      given = λ xs ys x j split number before after free.
          given_back xs ys x j (sym fin.functions ∙ split) number before after free;
      fresh = λ j unnamed free. fresh_back j (λ i. unnamed (subst (IsNamed j) (sym fin.functions) i)) free;
      carried = λ xs ys x j split number after free g there.
          carried_back xs ys x j (sym fin.functions ∙ split) number after free g there;
    }

  -- what a check leaves
  pub record Left (out : List ℕ) (a b : Checking) : Type 0 where
    pub all : AllRecorded out b
    pub named : (id : FunctionId) → IsNamed id a.functions → IsNamed id b.functions

  abbrev Keeps : (HirFunction → Checking → Result Checking CheckFault) → Type 0
  Keeps below = (f : HirFunction) (out : List ℕ) (a b : Checking) → AllRecorded out a → below f a ≡ Ok b
      → Left out a b

  same_left : (out : List ℕ) (a b : Checking) → AllRecorded out a → ◌≡◌ {A = Result Checking CheckFault} (Ok a) (Ok b)
      → Left out a b
  same_left out a b all h = subst (Left out a) (ok_is a b h) (record { all = all; named = λ id i. i })

  module _ (functions : List CertFunction) where
    module _ (below : HirFunction → Checking → Result Checking CheckFault) (keeps : Keeps below) where
      found_left : (id : FunctionId) (out : List ℕ) (a b : Checking) (o : Option HirFunction) → AllRecorded out a
          → slice_get a.env.functions id.0 ≡ o → found_checked functions below id a o ≡ Ok b → Left out a b
      found_left id out a b None all slot h = same_left out a b all h
      found_left id out a b (Some f) all slot h =
          let taken : Checking = record a { env = with_function id (emptied f.returns) a.env } in
          let w = went_on (taken_checked functions below id f taken) _ b h in
          let s : HirFunction × Checking = w.0 in
          let v = went_on (below f taken) (nested_checked functions id f) s w.1 in
          let mid : Checking = v.0 in
          let first : Left (id.0 ∷ out) taken mid =
          keeps f (id.0 ∷ out) taken mid (taken_out id out a (emptied f.returns) all) v.1 in
          let fin : Finished id f mid s.0 s.1 = function_finished functions id f mid s v.2 in
          let done : AllRecorded out (put_back id s) =
          back id out mid f s fin first.all (λ unnamed free.
          sym (all.fresh id (λ i. unnamed (first.named id i)) free) ∙ ap (option_map but_context) slot) in
          subst (Left out a) (ok_is (put_back id s) b w.2) (record {
            all = done;
            named = λ j i. subst (IsNamed j) (sym fin.functions)
                (named_more j mid.functions (fin.entry ∷ []) (first.named j i));
          })

      each_left : (ids : List FunctionId) (out : List ℕ) (a b : Checking) → AllRecorded out a
          → each (slot_checked functions below) ids a ≡ Ok b → Left out a b
      each_left [] out a b all h = same_left out a b all h
      each_left (id ∷ ids) out a b all h =
          let w = went_on (slot_checked functions below id a) (each (slot_checked functions below) ids) b h in
          let first : Left out a w.0 = found_left id out a w.0 (slice_get a.env.functions id.0) all refl w.1 in
          let rest : Left out w.0 b = each_left ids out w.0 b first.all w.2 in
          record { all = rest.all; named = λ j i. rest.named j (first.named j i) }

    -- the check of the functions on n levels
    pub checked_left : (n : ℕ) → Keeps (below_checked functions n)
    unfolding below_checked
    checked_left zero f out a b all h = same_left out a b all h
    checked_left (suc n) f out a b all h =
        each_left (below_checked functions n) (checked_left n) (created_functions f) out a b all h

-- nothing is checked as it begins
pub none_recorded : (env : Environment) → AllRecorded env.functions [] (checking env [])
none_recorded env = record {
  given = λ xs ys x id split number before after free. absurd (nothing xs ys x split);
  fresh = λ id unnamed free. refl;
  carried = λ xs ys x id split number after free g there. absurd (nothing xs ys x split);
}
  where
    nothing : (xs ys : List CheckedFunction) (x : CheckedFunction) → [] ≡ xs ++ x ∷ ys → ⊥
    nothing [] ys x e = cc
    nothing (z ∷ xs) ys x e = cc
