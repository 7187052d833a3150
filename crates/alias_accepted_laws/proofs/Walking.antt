-- The check goes over the functions below a function as their analysis did, one after the other.
use Rattle.std.specs.Prelude.{◌≡◌, ℕ, nat_eq, true, false, List, [], ◌∷◌, ◌++◌, length, option_map, Option, Some, None}
use Rattle.std.specs.Prelude.{Result, Ok, slice_get, slice_set, refl}
use Rattle.std.proofs.Common.{zero, suc, inl, inr, ap, sym, ◌∙◌, subst}
use Rattle.std.proofs.lemmas.Bool.{eqb-true}
use Rattle.std.proofs.lemmas.List.{append-nil, append_assoc}
use Rattle.alias_base.specs.declared.ids.FunctionId.{FunctionId}
use Rattle.alias_hir.specs.declared.error.InferError.{InferError}
use Rattle.alias_hir.specs.declared.hir.HirFunction.{HirFunction}
use Rattle.alias_nesting_laws.specs.SlotLaws.{set_other, set_there}
use Rattle.alias_nesting_laws.specs.Slots.{with_function}
use Rattle.alias_range_pass.specs.places.Keeping.{but_context}
use Rattle.alias_nested.specs.Analysis.{Analysed, Analysis, each as each_analysed, function_analysed, taken_analysed}
use Rattle.alias_nested.specs.Analysis.{put_back, found_analysed, slot_analysed, analysed}
use Rattle.alias_nested.specs.Created.{created_functions}
use Rattle.alias_nested.specs.Slots.{emptied}
use Rattle.alias_answer_laws.proofs.order.Ordering.{went, differs}
use Rattle.alias_inferred_laws.proofs.inferred.Listing.{Passed, function_passed}
use Rattle.alias_certificate.specs.declared.certificate.CertFunction.{CertFunction}
use Rattle.alias_cert.specs.Functions.{Checking, nested_checked}
use Rattle.alias_cert.specs.Units.{each as each_checked, put_back as put_back_checked, taken_checked, found_checked}
use Rattle.alias_cert.specs.Units.{slot_checked, below_checked}
use Rattle.alias_certificate_laws.specs.accepting.Alike.{Maybe, nothing, just, AlikeFunction, seen}
use Rattle.alias_certificate_laws.proofs.accepting.Likeness.{paired_get}
use Rattle.alias_inferred_laws.specs.handed.Handed.{IsNamed}
use Rattle.alias_inferred_laws.proofs.handed.Preceding.{named_more}
use Rattle.alias_accepted_laws.specs.Following.{OrFull, done, PassesAreFollowed, ReadsAreSet, RangesAreFollowed}
use Rattle.alias_accepted_laws.specs.Following.{Follows}
use Rattle.alias_accepted_laws.proofs.One.{Joined, own, nested_follows}
use Rattle.alias_accepted_laws.proofs.Seen.{function_self, seen_with}
use Rattle.alias_accepted_laws.proofs.Telling.{IsSaidAt, or_full_then}

abbrev Taken : Type 0
Taken = HirFunction × Analysis

ok_same : {A E : Type 0} (x y : A) → ◌≡◌ {A = Result A E} (Ok x) (Ok y) → x ≡ y
ok_same x y h = cc

-- ---- functions are analysed behind those of before

pub record Grown (a b : Analysis) : Type 0 where
  pub more : List Analysed
  pub is : a.functions ++ more ≡ b.functions

grown_self : (a b : Analysis) → a ≡ b → Grown a b
grown_self a b is = record { more = []; is = append-nil a.functions ∙ ap (λ (z : Analysis). z.functions) is }

grown_through : (a b c : Analysis) → Grown a b → Grown b c → Grown a c
grown_through a b c p q = record {
  more = p.more ++ q.more;
  is = sym (append_assoc a.functions p.more q.more) ∙ ap (λ zs. zs ++ q.more) p.is ∙ q.is;
}

function_grows : (id : FunctionId) (f : HirFunction) (a : Analysis) (s : Taken) → function_analysed id f a ≡ Ok s
    → Grown a s.1
function_grows id f a s h =
    let p : Passed id f a s = function_passed id f a s h in
    record { more = own id f a p.end ∷ []; is = ap (λ (q : Taken). q.1.functions) p.is }

abbrev Grows : (HirFunction → Analysis → Result Analysis InferError) → Type 0
Grows below = (f : HirFunction) (a b : Analysis) → below f a ≡ Ok b → Grown a b

-- a function that was out of its slot
record Taking (below : HirFunction → Analysis → Result Analysis InferError) (id : FunctionId) (f : HirFunction)
    (a b : Analysis) : Type 0 where
  mid : Analysis
  went_below : below f (record a { env = with_function id (emptied f.returns) a.env }) ≡ Ok mid
  taken : Taken
  went_own : function_analysed id f mid ≡ Ok taken
  back : put_back id taken ≡ b

taking : (below : HirFunction → Analysis → Result Analysis InferError) (id : FunctionId) (f : HirFunction)
    (a b : Analysis) → found_analysed below id a (Some f) ≡ Ok b → Taking below id f a b
taking below id f a b h =
    let out : Analysis = record a { env = with_function id (emptied f.returns) a.env } in
    let w = went (taken_analysed below id f out) (λ (s : Taken). Ok (put_back id s)) b h in
    let v = went (below f out) (function_analysed id f) w.0 w.1 in
    record { mid = v.0; went_below = v.1; taken = w.0; went_own = v.2; back = ok_same (put_back id w.0) b w.2 }

module _ (below : HirFunction → Analysis → Result Analysis InferError) (grows : Grows below) where
  taking_grows : (id : FunctionId) (f : HirFunction) (a b : Analysis) (t : Taking below id f a b) → Grown a b
  taking_grows id f a b t =
      let out : Analysis = record a { env = with_function id (emptied f.returns) a.env } in
      let first : Grown out t.mid = grows f out t.mid t.went_below in
      let last : Grown t.mid t.taken.1 = function_grows id f t.mid t.taken t.went_own in
      let whole : Grown out t.taken.1 = grown_through out t.mid t.taken.1 first last in
      record { more = whole.more; is = whole.is ∙ ap (λ (z : Analysis). z.functions) t.back }

  found_grows : (id : FunctionId) (a b : Analysis) (o : Option HirFunction) → found_analysed below id a o ≡ Ok b
      → Grown a b
  found_grows id a b None h = grown_self a b (ok_same a b h)
  found_grows id a b (Some f) h = taking_grows id f a b (taking below id f a b h)

  each_grows : (ids : List FunctionId) (a b : Analysis) → each_analysed (slot_analysed below) ids a ≡ Ok b → Grown a b
  each_grows [] a b h = grown_self a b (ok_same a b h)
  each_grows (id ∷ ids) a b h =
      let w = went (slot_analysed below id a) (each_analysed (slot_analysed below) ids) b h in
      grown_through a w.0 b (found_grows id a w.0 (slice_get a.env.functions id.0) w.1) (each_grows ids w.0 b w.2)

analysed_grows : (n : ℕ) → Grows (analysed n)
unfolding analysed
analysed_grows zero f a b h = grown_self a b (ok_same a b h)
analysed_grows (suc n) f a b h = each_grows (analysed n) (analysed_grows n) (created_functions f) a b h

-- ---- slots

-- of functions that are seen alike the same but for effects of context places are the same
same_slot : (o p : Option HirFunction) → Maybe AlikeFunction o p → option_map but_context p ≡ option_map but_context o
    → p ≡ o
same_slot o p nothing e = refl
same_slot o p (just (seen f g a)) e =
    let other : HirFunction = record g { params = f.params; context = f.context; returns = f.returns } in
    let same : but_context other ≡ but_context f = cc in
    ap (λ (z : HirFunction). Some (record z { context = f.context })) same

none_too : (o p : Option HirFunction) → Maybe AlikeFunction o p → o ≡ None → p ≡ None
none_too o p nothing e = refl
none_too o p (just q) e = cc

-- the same function is put into the same slot
set_same : (xs ys : List HirFunction) (n k : ℕ) (f g : HirFunction) → slice_get xs n ≡ Some f → slice_get ys n ≡ Some f
    → option_map but_context (slice_get ys k) ≡ option_map but_context (slice_get xs k)
    → option_map but_context (slice_get (slice_set ys n g) k) ≡ option_map but_context (slice_get (slice_set xs n g) k)
set_same xs ys n k f g at there same =
    elim (nat_eq k n) as (λ b. nat_eq k n ≡ b → option_map but_context (slice_get (slice_set ys n g) k)
    ≡ option_map but_context (slice_get (slice_set xs n g) k)) [
      | true ↦ λ e.
          subst (λ z. option_map but_context (slice_get (slice_set ys n g) z)
          ≡ option_map but_context (slice_get (slice_set xs n g) z)) (sym (eqb-true k n e))
          (ap (option_map but_context) (set_there ys n g f there ∙ sym (set_there xs n g f at)))
      | false ↦ λ e.
          ap (option_map but_context) (set_other ys n k g (differs k n e)) ∙ same
          ∙ sym (ap (option_map but_context) (set_other xs n k g (differs k n e)))
    ] refl

named_last : (id : FunctionId) (xs : List Analysed) (y : Analysed) → y.solved.function ≡ Some id
    → IsNamed id (xs ++ y ∷ [])
named_last id [] y e = inl (sym e)
named_last id (x ∷ xs) y e = inr (named_last id xs y e)

-- ---- the walk

module _ (passes : PassesAreFollowed) (reads : ReadsAreSet) (ranges : RangesAreFollowed) (functions : List CertFunction)
    (all : List Analysed)
    (says : (xs ys : List Analysed) (x : Analysed) → all ≡ xs ++ x ∷ ys → IsSaidAt functions (length xs) x)
    (once : (xs ys : List Analysed) (x : Analysed) (id : FunctionId) → all ≡ xs ++ x ∷ ys → x.solved.function ≡ Some id
    → IsNamed id xs → ⊥) where
  -- these were analysed first
  pub record IsFront (xs : List Analysed) : Type 0 where
    pub rest : List Analysed
    pub is : all ≡ xs ++ rest

  front_before : (a b : Analysis) → Grown a b → IsFront b.functions → IsFront a.functions
  front_before a b g p = record {
    rest = g.more ++ p.rest;
    is = p.is ∙ ap (λ zs. zs ++ p.rest) (sym g.is) ∙ append_assoc a.functions g.more p.rest;
  }

  abbrev Walks : ℕ → Type 0
  Walks n = (f : HirFunction) (a b : Analysis) (c : Checking) → analysed n f a ≡ Ok b → IsFront b.functions
      → Follows a c → OrFull (Follows b) (below_checked functions n f c)

  module _ (id : FunctionId) (f : HirFunction) (a : Analysis) (c : Checking) (follows : Follows a c)
      (at : slice_get a.env.functions id.0 ≡ Some f) (free : IsNamed id a.functions → ⊥) where
    there : slice_get c.env.functions id.0 ≡ Some f
    there = same_slot (slice_get a.env.functions id.0) (slice_get c.env.functions id.0)
        (paired_get id.0 a.env.functions c.env.functions follows.alike.functions) (follows.slots id free) ∙ at

    abbrev out : Analysis
    out = record a { env = with_function id (emptied f.returns) a.env }

    abbrev out_checked : Checking
    out_checked = record c { env = with_function id (emptied f.returns) c.env }

    follows_out : Follows out out_checked
    follows_out = record {
      alike = seen_with id.0 (emptied f.returns) (emptied f.returns) a.env c.env (function_self (emptied f.returns))
          follows.alike;
      count = follows.count;
      slots = λ k none. set_same a.env.functions c.env.functions id.0 k.0 f (emptied f.returns) at there
          (follows.slots k none);
    }

  -- one that is put back
  put_back_follows : (id : FunctionId) (f : HirFunction) (a : Analysis) (s : Taken) (t : HirFunction × Checking)
      (h : function_analysed id f a ≡ Ok s) → Joined a s t → Follows (put_back id s) (put_back_checked id t)
  put_back_follows id f a s t h j =
      let p : Passed id f a s = function_passed id f a s h in
      let more : a.functions ++ own id f a p.end ∷ [] ≡ s.1.functions = ap (λ (q : Taken). q.1.functions) p.is in
      record {
        alike = seen_with id.0 s.0 t.0 s.1.env t.1.env j.function j.alike;
        count = j.count;
        slots = λ k none.
            let other : k.0 ≡ id.0 → ⊥ = λ e. none
            (subst (λ z. IsNamed z s.1.functions) (same_number id k (sym e))
            (subst (IsNamed id) more (named_last id a.functions (own id f a p.end) refl))) in
            let before : IsNamed k a.functions → ⊥ =
            λ named. none (subst (IsNamed k) more (named_more k a.functions (own id f a p.end ∷ []) named)) in
            ap (option_map but_context) (set_other t.1.env.functions id.0 k.0 t.0 other) ∙ j.slots k before
            ∙ sym (ap (option_map but_context) (set_other s.1.env.functions id.0 k.0 s.0 other));
      }
    where
      same_number : (id k : FunctionId) → id.0 ≡ k.0 → id ≡ k
      same_number id k e = ap (λ n. let z : FunctionId = record { 0 = n } in z) e

  module _ (n : ℕ) (walks : Walks n) where
    taken_walks : (id : FunctionId) (f : HirFunction) (a b : Analysis) (c : Checking) → slice_get a.env.functions id.0
        ≡ Some f → Taking (analysed n) id f a b → IsFront b.functions → Follows a c
        → OrFull (Follows b) (found_checked functions (below_checked functions n) id c (slice_get c.env.functions id.0))
    taken_walks id f a b c at t front follows =
        let s : Taken = t.taken in
        let p : Passed id f t.mid s = function_passed id f t.mid s t.went_own in
        let x : Analysed = own id f t.mid p.end in
        let more : t.mid.functions ++ x ∷ [] ≡ s.1.functions = ap (λ (q : Taken). q.1.functions) p.is in
        let whole : IsFront s.1.functions = record
        { rest = front.rest; is = front.is ∙ ap (λ (z : Analysis). z.functions ++ front.rest) (sym t.back) } in
        let split : all ≡ t.mid.functions ++ x ∷ front.rest = whole.is ∙ ap (λ zs. zs ++ front.rest) (sym more)
        ∙ append_assoc t.mid.functions (x ∷ []) front.rest in
        let mid_free : IsNamed id t.mid.functions → ⊥ = once t.mid.functions front.rest x id split refl in
        let grown : Grown a t.mid = below_grown t in
        let free : IsNamed id a.functions → ⊥ =
        λ named. mid_free (subst (IsNamed id) grown.is (named_more id a.functions grown.more named)) in
        let said : IsSaidAt functions (length t.mid.functions) x = says t.mid.functions front.rest x split in
        let steps : OrFull (Follows b) (found_checked functions (below_checked functions n) id c (Some f))
        = or_full_then (Follows b) (taken_checked functions (below_checked functions n) id f
        (out_checked id f a c follows at free)) (λ (q : HirFunction × Checking). Ok (put_back_checked id q))
        (or_full_then (Joined t.mid s) (below_checked functions n f (out_checked id f a c follows at free))
        (nested_checked functions id f)
        (walks f (out id f a c follows at free) t.mid (out_checked id f a c follows at free) t.went_below
        (front_before t.mid s.1 (function_grows id f t.mid s t.went_own) whole)
        (follows_out id f a c follows at free))
        (λ d fol. nested_follows passes reads ranges id f t.mid d fol functions s said.said t.went_own said.there
        said.tells))
        (λ q j. done (put_back_checked id q) refl
        (subst (λ (z : Analysis). Follows z (put_back_checked id q)) t.back
        (put_back_follows id f t.mid s q t.went_own j))) in
        subst (λ o. OrFull (Follows b) (found_checked functions (below_checked functions n) id c o))
        (sym (there id f a c follows at free)) steps
      where
        below_grown : {id : FunctionId} {f : HirFunction} {a b : Analysis} (t : Taking (analysed n) id f a b)
            → Grown a t.mid
        below_grown {id = id} {f = f} {a = a} t =
            let g : Grown (record a { env = with_function id (emptied f.returns) a.env }) t.mid =
            analysed_grows n f (record a { env = with_function id (emptied f.returns) a.env }) t.mid t.went_below in
            record { more = g.more; is = g.is }

    found_walks : (id : FunctionId) (a b : Analysis) (c : Checking) (o : Option HirFunction)
        → slice_get a.env.functions id.0 ≡ o → found_analysed (analysed n) id a o ≡ Ok b → IsFront b.functions
        → Follows a c
        → OrFull (Follows b) (slot_checked functions (below_checked functions n) id c)
    found_walks id a b c None at h front follows =
        let none : slice_get c.env.functions id.0 ≡ None =
        none_too (slice_get a.env.functions id.0) (slice_get c.env.functions id.0)
        (paired_get id.0 a.env.functions c.env.functions follows.alike.functions) at in
        subst (λ o. OrFull (Follows b) (found_checked functions (below_checked functions n) id c o)) (sym none)
        (done c refl (subst (λ (z : Analysis). Follows z c) (ok_same a b h) follows))
    found_walks id a b c (Some f) at h front follows =
        taken_walks id f a b c at (taking (analysed n) id f a b h) front follows

    each_walks : (ids : List FunctionId) (a b : Analysis) (c : Checking)
        → each_analysed (slot_analysed (analysed n)) ids a ≡ Ok b → IsFront b.functions → Follows a c
        → OrFull (Follows b) (each_checked (slot_checked functions (below_checked functions n)) ids c)
    each_walks [] a b c h front follows = done c refl (subst (λ (z : Analysis). Follows z c) (ok_same a b h) follows)
    each_walks (id ∷ ids) a b c h front follows =
        let w = went (slot_analysed (analysed n) id a) (each_analysed (slot_analysed (analysed n)) ids) b h in
        let rest : Grown w.0 b = each_grows (analysed n) (analysed_grows n) ids w.0 b w.2 in
        or_full_then (Follows b) (slot_checked functions (below_checked functions n) id c)
        (each_checked (slot_checked functions (below_checked functions n)) ids)
        (found_walks id a w.0 c (slice_get a.env.functions id.0) refl w.1 (front_before w.0 b rest front) follows)
        (λ d fol. each_walks ids w.0 b d w.2 front fol)

  -- the check of the functions on n levels follows their analysis
  pub below_walks : (n : ℕ) → Walks n
  unfolding analysed below_checked
  below_walks zero f a b c h front follows = done c refl (subst (λ (z : Analysis). Follows z c) (ok_same a b h) follows)
  below_walks (suc n) f a b c h front follows = each_walks n (below_walks n) (created_functions f) a b c h front follows
