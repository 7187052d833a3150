-- The functions below a function are followed again by what is told of them.
use Rattle.std.specs.Prelude.{slice_get}
use Rattle.std.specs.List.{AllByRecursion}
use Rattle.std.proofs.Common.{◌≡◌, ℕ, zero, suc, true, List, [], ◌∷◌, ◌++◌, Option, Some, None, Result, Ok}
use Rattle.std.proofs.Common.{refl, ap}
use Rattle.std.proofs.Common.{sym, ◌∙◌, subst}
use Rattle.std.proofs.lemmas.List.{append-nil, append_assoc}
use Rattle.alias_base.specs.Answer.{◌>>=◌}
use Rattle.alias_base.specs.declared.ids.FunctionId.{FunctionId}
use Rattle.alias_hir.specs.declared.env.Environment.{Environment}
use Rattle.alias_hir.specs.declared.hir.HirFunction.{HirFunction}
use Rattle.alias_rules.specs.Fitting.{function_fits}
use Rattle.alias_rules.specs.Nesting.{created_in}
use Rattle.alias_rules.specs.RuleLaws.{fitting_entry}
use Rattle.alias_rules.specs.function_rules.Rules.{is_among}
use Rattle.alias_nesting_laws.specs.NestingLaws.{taken_out_fits}
use Rattle.alias_nesting_laws.specs.Slots.{with_function}
use Rattle.alias_fitting_laws.specs.pruning.PruningLaws.{function_through}
use Rattle.alias_nested.specs.Created.{created_functions}
use Rattle.alias_nested.specs.Fitting.{EnvironmentPruned}
use Rattle.alias_nested.specs.Slots.{emptied}
use Rattle.alias_nested.proofs.Creating.{created_is_among}
use Rattle.alias_nested.proofs.Keeping.{kept_pruned, pruned_self, pruned_through, pruned_fits, pruned_beside}
use Rattle.alias_nested.proofs.Keeping.{environment_back, not_itself}
use Rattle.alias_answer_laws.proofs.order.Ordering.{went}
use Rattle.alias_certificate.specs.declared.certificate.CertFunction.{CertFunction}
use Rattle.alias_certificate.specs.declared.fault.CheckFault.{CheckFault}
use Rattle.alias_follow.specs.Functions.{FollowedFunction, Following, followed_function, nested_followed}
use Rattle.alias_follow.specs.Units.{each, put_back, taken_followed, found_followed, slot_followed, below_followed}
use Rattle.alias_follow.specs.function.Givens.{given_of, blocks_given}
use Rattle.alias_follow.specs.lines.Known.{AreLinesKnown}
use Rattle.alias_brief_laws.proofs.FunctionAgain.{IsTold, function_again}
use Rattle.alias_brief_laws.proofs.One.{Taken, FollowedOne, followed_one, nested_again, one_kept, one_more}
use Rattle.alias_brief_laws.proofs.One.{ok_same}

-- ---- what following keeps

-- functions were followed behind those of before, and what the inference takes it takes still
pub record Went (a b : Following) : Type 0 where
  pub more : List FollowedFunction
  pub is : a.functions ++ more ≡ b.functions
  pub pruned : EnvironmentPruned a.env b.env

went_self : (f : HirFunction) (a b : Following) → function_fits f a.env ≡ true → a ≡ b → Went a b
went_self f a b fits is = subst (Went a) is
    (record { more = []; is = append-nil a.functions; pruned = pruned_self f a.env fits })

went_through : (a b c : Following) → Went a b → Went b c → Went a c
went_through a b c p q = record {
  more = p.more ++ q.more;
  is = sym (append_assoc a.functions p.more q.more) ∙ ap (λ zs. zs ++ q.more) p.is ∙ q.is;
  pruned = pruned_through a.env b.env c.env p.pruned q.pruned;
}

-- a function that was out of its slot
record Taking (given : List CertFunction) (below : HirFunction → Following → Result Following CheckFault)
    (id : FunctionId) (f : HirFunction) (a b : Following) : Type 0 where
  mid : Following
  went_below : below f (record a { env = with_function id (emptied f.returns) a.env }) ≡ Ok mid
  taken : Taken
  went_own : nested_followed given id f mid ≡ Ok taken
  back : put_back id taken ≡ b

taking : (given : List CertFunction) (below : HirFunction → Following → Result Following CheckFault) (id : FunctionId)
    (f : HirFunction) (a b : Following) → found_followed given below id a (Some f) ≡ Ok b
    → Taking given below id f a b
taking given below id f a b h =
    let out : Following = record a { env = with_function id (emptied f.returns) a.env } in
    let w = went (taken_followed given below id f out) (λ (s : Taken). Ok (put_back id s)) b h in
    let v = went (below f out) (nested_followed given id f) w.0 w.1 in
    record { mid = v.0; went_below = v.1; taken = w.0; went_own = v.2; back = ok_same (put_back id w.0) b w.2 }

-- the function creates each of these
abbrev AreCreated : HirFunction → List FunctionId → Type 0
AreCreated g ids = AllByRecursion (λ (id : FunctionId). is_among (created_in g) id.0 ≡ true) ids

all_at : {X : Type 0} (p : X → Type 0) (xs : List X) → ((k : ℕ) (x : X) → slice_get xs k ≡ Some x → p x)
    → AllByRecursion p xs
all_at p [] h = tt
all_at p (x ∷ xs) h = (h zero x refl, all_at p xs (λ k y e. h (suc k) y e))

module _ (given : List CertFunction)
    (known : (id : Option FunctionId) → AreLinesKnown (blocks_given (given_of given id))) where
  abbrev Goes : (HirFunction → Following → Result Following CheckFault) → Type 0
  Goes below = (f : HirFunction) (a b : Following) → function_fits f a.env ≡ true → below f a ≡ Ok b → Went a b

  module _ (below : HirFunction → Following → Result Following CheckFault) (goes : Goes below) (g : HirFunction)
      (id : FunctionId) (f : HirFunction) (a b : Following) (fits : function_fits g a.env ≡ true)
      (among : is_among (created_in g) id.0 ≡ true) (at : slice_get a.env.functions id.0 ≡ Some f)
      (t : Taking given below id f a b) where
    abbrev out : Following
    out = record a { env = with_function id (emptied f.returns) a.env }

    out_fits : function_fits f out.env ≡ true
    out_fits = taken_out_fits a.env g f (emptied f.returns) id fits among at refl

    went_mid : Went out t.mid
    went_mid = goes f out t.mid out_fits t.went_below

    mid_fits : function_fits f t.mid.env ≡ true
    mid_fits = pruned_fits out.env t.mid.env went_mid.pruned f out_fits

    one : FollowedOne given id f t.mid t.taken
    one = followed_one given id f t.mid t.taken t.went_own

    abbrev own : FollowedFunction
    own = followed_function (Some id) true f t.mid.env one.end

    own_last : t.taken.1.functions ≡ t.mid.functions ++ own ∷ []
    own_last = one_more given id f t.mid t.taken one

    went_back : EnvironmentPruned a.env (put_back id t.taken).env
    went_back = environment_back a.env id f t.taken.0 out.env t.taken.1.env (put_back id t.taken).env at
        (not_itself a.env g f id fits among at) refl refl
        (function_through f f t.taken.0 out.env t.mid.env t.taken.1.env
        (pruned_beside out.env t.mid.env went_mid.pruned f out_fits)
        (kept_pruned f t.mid.env t.taken.0 t.taken.1.env
        (one_kept given id f t.mid t.taken one (known (Some id)) mid_fits)))

    taking_went : Went a b
    taking_went = subst (Went a) t.back (record {
      more = went_mid.more ++ own ∷ [];
      is = sym (append_assoc a.functions went_mid.more (own ∷ [])) ∙ ap (λ zs. zs ++ own ∷ []) went_mid.is
          ∙ sym own_last;
      pruned = went_back;
    })

  module _ (below : HirFunction → Following → Result Following CheckFault) (goes : Goes below) (g : HirFunction) where
    found_went : (id : FunctionId) (a b : Following) (o : Option HirFunction) → function_fits g a.env ≡ true
        → is_among (created_in g) id.0 ≡ true → slice_get a.env.functions id.0 ≡ o
        → found_followed given below id a o ≡ Ok b → Went a b
    found_went id a b None fits among at h = went_self g a b fits (ok_same a b h)
    found_went id a b (Some f) fits among at h =
        taking_went below goes g id f a b fits among at (taking given below id f a b h)

    each_went : (ids : List FunctionId) (a b : Following) → function_fits g a.env ≡ true → AreCreated g ids
        → each (slot_followed given below) ids a ≡ Ok b → Went a b
    each_went [] a b fits created h = went_self g a b fits (ok_same a b h)
    each_went (id ∷ ids) a b fits created h =
        let w = went (slot_followed given below id a) (each (slot_followed given below) ids) b h in
        let first = found_went id a w.0 (slice_get a.env.functions id.0) fits created.0 refl w.1 in
        went_through a w.0 b first
        (each_went ids w.0 b (pruned_fits a.env w.0.env first.pruned g fits) created.1 w.2)

  are_created : (f : HirFunction) (env : Environment) → function_fits f env ≡ true → AreCreated f (created_functions f)
  are_created f env fits = all_at (λ (id : FunctionId). is_among (created_in f) id.0 ≡ true) (created_functions f)
      (created_is_among f env fits)

  pub below_went : (n : ℕ) → Goes (below_followed given n)
  unfolding below_followed
  below_went zero f a b fits h = went_self f a b fits (ok_same a b h)
  below_went (suc n) f a b fits h =
      each_went (below_followed given n) (below_went n) f (created_functions f) a b fits (are_created f a.env fits) h

  -- ---- again

  module _ (also : List CertFunction) (all : List FollowedFunction)
      (tells : (xs ys : List FollowedFunction) (x : FollowedFunction) → all ≡ xs ++ x ∷ ys
      → IsTold (given_of also x.solved.function) x.solved x.beyond) where
    -- these were followed first
    pub record IsFront (xs : List FollowedFunction) : Type 0 where
      pub rest : List FollowedFunction
      pub is : all ≡ xs ++ rest

    front_before : (xs more ys : List FollowedFunction) → xs ++ more ≡ ys → IsFront ys → IsFront xs
    front_before xs more ys is p = record {
      rest = more ++ p.rest;
      is = p.is ∙ ap (λ zs. zs ++ p.rest) (sym is) ∙ append_assoc xs more p.rest;
    }

    abbrev Again : ℕ → Type 0
    Again n = (f : HirFunction) (a b : Following) → function_fits f a.env ≡ true → below_followed given n f a ≡ Ok b
        → IsFront b.functions → below_followed also n f a ≡ Ok b

    module _ (n : ℕ) (again : Again n) (g : HirFunction) where
      taken_again : (id : FunctionId) (f : HirFunction) (a b : Following) → function_fits g a.env ≡ true
          → is_among (created_in g) id.0 ≡ true → slice_get a.env.functions id.0 ≡ Some f
          → Taking given (below_followed given n) id f a b → IsFront b.functions
          → found_followed also (below_followed also n) id a (Some f) ≡ Ok b
      taken_again id f a b fits among at t front =
          let below = below_followed given n in
          let z : Following = record a { env = with_function id (emptied f.returns) a.env } in
          let o = one below (below_went n) g id f a b fits among at t in
          let x : FollowedFunction = followed_function (Some id) true f t.mid.env o.end in
          let last : t.taken.1.functions ≡ t.mid.functions ++ x ∷ [] = one_more given id f t.mid t.taken o in
          let whole : all ≡ t.mid.functions ++ x ∷ front.rest =
          front.is ∙ ap (λ (w : Following). w.functions ++ front.rest) (sym t.back)
          ∙ ap (λ zs. zs ++ front.rest) last ∙ append_assoc t.mid.functions (x ∷ []) front.rest in
          let told = tells t.mid.functions front.rest x whole in
          let fits_mid = mid_fits below (below_went n) g id f a b fits among at t in
          let same = function_again (Some id) t.mid.env f true (fitting_entry f t.mid.env fits_mid)
          (given_of given (Some id)) (given_of also (Some id))
          o.end (record { said = told.said; is = told.is; blocks = told.blocks; temporaries = told.temporaries })
          (known (Some id)) o.ended in
          let first : below_followed also n f z ≡ Ok t.mid =
          again f z t.mid (out_fits below (below_went n) g id f a b fits among at t) t.went_below
          (record { rest = x ∷ front.rest; is = whole }) in
          let second : nested_followed also id f t.mid ≡ Ok t.taken =
          nested_again given also id f t.mid t.taken o t.went_own same in
          ap (λ r. r >>= nested_followed also id f >>= (λ (s : Taken). Ok (put_back id s))) first
          ∙ ap (λ r. r >>= (λ (s : Taken). Ok (put_back id s))) second ∙ ap Ok t.back

      found_again : (id : FunctionId) (a b : Following) (o : Option HirFunction) → function_fits g a.env ≡ true
          → is_among (created_in g) id.0 ≡ true → slice_get a.env.functions id.0 ≡ o
          → found_followed given (below_followed given n) id a o ≡ Ok b → IsFront b.functions
          → found_followed also (below_followed also n) id a o ≡ Ok b
      found_again id a b None fits among at h front = h
      found_again id a b (Some f) fits among at h front =
          taken_again id f a b fits among at (taking given (below_followed given n) id f a b h) front

      each_again : (ids : List FunctionId) (a b : Following) → function_fits g a.env ≡ true → AreCreated g ids
          → each (slot_followed given (below_followed given n)) ids a ≡ Ok b → IsFront b.functions
          → each (slot_followed also (below_followed also n)) ids a ≡ Ok b
      each_again [] a b fits created h front = h
      each_again (id ∷ ids) a b fits created h front =
          let below = below_followed given n in
          let w = went (slot_followed given below id a) (each (slot_followed given below) ids) b h in
          let first = found_went below (below_went n) g id a w.0 (slice_get a.env.functions id.0) fits created.0 refl
          w.1 in
          let fits_next = pruned_fits a.env w.0.env first.pruned g fits in
          let rest = each_went below (below_went n) g ids w.0 b fits_next created.1 w.2 in
          ap (λ r. r >>= each (slot_followed also (below_followed also n)) ids)
          (found_again id a w.0 (slice_get a.env.functions id.0) fits created.0 refl w.1
          (front_before w.0.functions rest.more b.functions rest.is front))
          ∙ each_again ids w.0 b fits_next created.1 w.2 front

    -- the functions on n levels are followed again
    pub below_again : (n : ℕ) → Again n
    unfolding below_followed
    below_again zero f a b fits h front = h
    below_again (suc n) f a b fits h front =
        each_again n (below_again n) f (created_functions f) a b fits (are_created f a.env fits) h front
