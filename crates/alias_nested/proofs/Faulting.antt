-- A fault of a pass of the caller names the pass that failed, and the function that it failed on.
use Rattle.std.specs.Prelude.{◌≡◌, ℕ, true, false, List, [], ◌∷◌, ◌++◌, Some, Result, Ok, Err, IfErr, ⊤, length}
use Rattle.std.specs.Prelude.{slice_get, refl}
use Rattle.std.proofs.Common.{inl, inr, ⊎_elim, ap, sym, ◌∙◌, subst, arith, ◌<◌, ◌⊎◌}
use Rattle.std.proofs.lemmas.Option.{slice_get_within}
use Rattle.alias_base.specs.declared.ids.FunctionId.{FunctionId}
use Rattle.alias_hir.specs.Errors.{is_memory}
use Rattle.alias_hir.specs.declared.env.Environment.{Environment}
use Rattle.alias_hir.specs.declared.error.InferError.{InferError}
use Rattle.alias_hir.specs.declared.error.InferError.TheVariants as error
use Rattle.alias_hir.specs.declared.error.Pass.{Pass}
use Rattle.alias_hir.specs.declared.hir.HirFunction.{HirFunction}
use Rattle.alias_rules.specs.function_rules.Rules.{is_among}
use Rattle.alias_nesting_laws.specs.FittingLaws.{first_among, later_among}
use Rattle.alias_nesting_laws.specs.PartLaws.{not_both}
use Rattle.alias_nesting_laws.specs.SlotLaws.{length_set, set_other}
use Rattle.alias_nesting_laws.specs.Slots.{with_function}
use Rattle.alias_nested.specs.Analysis.{IsFault, IsPassFault}
use Rattle.alias_nested.specs.Faults.{LastFault, IsNamedFault, IsFaultOf, IsFaultWithin, NamesItsPass}
use Rattle.alias_nested.specs.Order.{below_innermost_first, numbers, KeepsToOrder, refused_function}
use Rattle.alias_nested.proofs.Changing.{below_is, set_within}

-- ---- one function

-- what is no fault of a pass names none
pub unfailed : (last : LastFault) (id : FunctionId) (f : HirFunction) (e : InferError) → (IsFault e → ⊥)
    → IsFaultOf last id f e
unfailed last id f (error.PassFault g p) faultless = absurd (faultless tt)
unfailed last id f e faultless = tt

pub unfailed_unit : (last : LastFault) (env : Environment) (e : InferError) → (IsFault e → ⊥) → IsNamedFault last env e
unfailed_unit last env (error.PassFault g p) faultless = absurd (faultless tt)
unfailed_unit last env e faultless = tt

-- a pass that failed on the function of the number
pub fault_of : (last : LastFault) (id : FunctionId) (pass : Pass) (f : HirFunction) (e : InferError)
    → (is_memory e ≡ false → e ≡ error.PassFault (Some id) pass) → (IsFault e → last pass f) → IsFaultOf last id f e
fault_of last id pass f (error.PassFault g p) is failed =
    let same : error.PassFault g p ≡ error.PassFault (Some id) pass = is refl in
    let function : g ≡ Some id = cc in
    let named : pass ≡ p = cc in
    (function, subst (λ q. last q f) named (failed tt))
fault_of last id pass f e is failed = tt

-- ---- those below it

-- what of a refusal holds holds of it otherwise said
pub where_err : (P Q : InferError → Type 0) (r : Result ⊤ InferError) → ((e : InferError) → P e → Q e) → IfErr r P
    → IfErr r Q
where_err P Q (Ok x) f h = tt
where_err P Q (Err e) f h = f e h

-- of a refusal that is handed on
pub err_on : {A : Type 0} (P : InferError → Type 0) (q : Result A InferError) (e : InferError) → q ≡ Err e → P e
    → IfErr q P
err_on P q e same h = subst (λ z. IfErr z P) (sym same) h

-- what answers no fault names none
pub unfailed_result : {A : Type 0} (last : LastFault) (env : Environment) (r : Result A InferError)
    → (IsPassFault r → ⊥) → IfErr r (IsNamedFault last env)
unfailed_result last env (Ok x) faultless = tt
unfailed_result last env (Err e) faultless = unfailed_unit last env e faultless

stands_among : (before : List FunctionId) (id : FunctionId) (after : List FunctionId)
    → is_among (numbers (before ++ id ∷ after)) id.0 ≡ true
stands_among [] id after = first_among id.0 (numbers after)
stands_among (b ∷ bs) id after = later_among b.0 (numbers (bs ++ id ∷ after)) id.0 (stands_among bs id after)

-- one below it failed
pub failed_below : (last : LastFault) (below : List FunctionId) (id : FunctionId) (f : HirFunction)
    (old new : Environment) (e : InferError) → KeepsToOrder {A = ⊤} below (Err e) old new → IsNamedFault last new e
    → IsFaultWithin last below id f new e
failed_below last below id f old new (error.PassFault g p) k h =
    let ends = k.ends (error.PassFault g p) refl refl in
    inr (
      ends.id,
      ends.named,
      subst (λ zs. is_among (numbers zs) ends.id.0 ≡ true) (sym ends.split)
          (stands_among ends.before ends.id ends.after),
      h,
    )
failed_below last below id f old new e k h = inl tt

-- the function is put back into its slot
module _ (n : ℕ) (id : FunctionId) (f g stand_in : HirFunction) (old out after back : Environment)
    (there : slice_get old.functions id.0 ≡ Some f)
    (apart : is_among (numbers (below_innermost_first n f old)) id.0 ≡ false)
    (is : out ≡ with_function id stand_in old) (count : length after.functions ≡ length out.functions)
    (put : back ≡ with_function id g after) (last : LastFault) where
  stands_back : slice_get back.functions id.0 ≡ Some g
  stands_back =
      let in_old : id.0 < length old.functions = slice_get_within old.functions id.0 f there in
      let as_many : length out.functions ≡ length old.functions = ap (λ (e : Environment). length e.functions) is
      ∙ length_set old.functions id.0 stand_in in
      ap (λ (e : Environment). slice_get e.functions id.0) put ∙ set_within after.functions id.0 g (omega arith)

  stays_back : (other : FunctionId) → is_among (numbers (below_innermost_first n f out)) other.0 ≡ true
      → slice_get back.functions other.0 ≡ slice_get after.functions other.0
  stays_back other h = ap (λ (e : Environment). slice_get e.functions other.0) put
      ∙ set_other after.functions id.0 other.0 g
      (λ e. not_both (is_among (numbers (below_innermost_first n f old)) id.0)
      (subst (λ k. is_among (numbers (below_innermost_first n f old)) k ≡ true) e
      (subst (λ zs. is_among (numbers zs) other.0 ≡ true)
      (below_is n id f g stand_in old out after back there apart is count put) h)) apart)

  failed_here : (e : InferError) → IsFaultOf last id g e → IsNamedFault last back e
  failed_here (error.PassFault function pass) h = (id, h.0, g, stands_back, h.1)
  failed_here e h = tt

  failed_under : (e : InferError) (other : FunctionId) → refused_function e ≡ Some other
      → is_among (numbers (below_innermost_first n f out)) other.0 ≡ true → IsNamedFault last after e
      → IsNamedFault last back e
  failed_under (error.PassFault function pass) other named among h =
      let same : other ≡ h.0 = let both : Some other ≡ Some h.0 = sym named ∙ h.1 in cc in (
        h.0,
        h.1,
        h.2,
        stays_back h.0
            (subst (λ (z : FunctionId). is_among (numbers (below_innermost_first n f out)) z.0 ≡ true) same among)
            ∙ h.3,
        h.4,
      )
  failed_under e other named among h = tt

  pub slot_failed : (r : Result ⊤ InferError)
      → IfErr r (IsFaultWithin last (below_innermost_first n f out) id g after) → IfErr r (IsNamedFault last back)
  slot_failed r h = where_err (IsFaultWithin last (below_innermost_first n f out) id g after) (IsNamedFault last back) r
      (λ e w. ⊎_elim (failed_here e) (λ (u : (other : FunctionId) × (refused_function e ≡ Some other)
      × (is_among (numbers (below_innermost_first n f out)) other.0 ≡ true) × IsNamedFault last after e).
      failed_under e u.0 u.1 u.2 u.3) w) h

-- ---- a unit

pub names_its_pass : (last : LastFault) (env : Environment) (e : InferError) → IsNamedFault last env e
    → NamesItsPass last e
names_its_pass last env (error.PassFault function pass) h = (h.2, h.4)
names_its_pass last env e h = tt
