-- Environments that are seen alike stay so: over what an effects pass adds, and over what is set of a function once its
-- summary is known.
use Rattle.std.specs.Prelude.{◌≡◌, ◌⊎◌, ℕ, ◌||◌, ◌==◌, nat_eq, Bool, true, false, if◌then◌else◌, List, [], ◌∷◌, ◌++◌}
use Rattle.std.specs.Prelude.{length, map, option_map, Option, Some, None, slice_get, slice_set, refl}
use Rattle.std.proofs.Common.{zero, suc, inl, inr, ⊎_elim, ap, sym, ◌∙◌, subst}
use Rattle.std.proofs.lemmas.Bool.{eqb-true}
use Rattle.std.specs.List.{list_any, AllByRecursion}
use Rattle.std.specs.Option.{option_map_or}
use Rattle.alias_base.specs.declared.ids.IdentifierId.{IdentifierId}
use Rattle.alias_hir.specs.Tables.{fresh_identifier, with_identifier}
use Rattle.alias_hir.specs.declared.effect.AliasingEffect.{AliasingEffect}
use Rattle.alias_hir.specs.declared.env.Environment.{Environment}
use Rattle.alias_hir.specs.declared.env.Identifier.{Identifier}
use Rattle.alias_hir.specs.declared.hir.HirFunction.{HirFunction}
use Rattle.alias_hir.specs.declared.hir.ParamPattern.{ParamPattern}
use Rattle.alias_hir.specs.declared.place.Effect.TheVariants.{Capture, Read}
use Rattle.alias_hir.specs.declared.place.Place.{Place}
use Rattle.alias_hir.specs.declared.place.Span.{Span}
use Rattle.alias_hir.specs.declared.types.Ty.TheVariants.{Var}
use Rattle.alias_fitting_laws.specs.bare.Bare.{without_range}
use Rattle.alias_nesting_laws.specs.SlotLaws.{set_other}
use Rattle.alias_tables.specs.declared.reads.ContextRead.{ContextRead}
use Rattle.alias_tables.specs.declared.temporaries.Temporary.{Temporary}
use Rattle.alias_tables.specs.write_back.WriteBack.{with_identifiers, read_place, with_context_read, with_read}
use Rattle.alias_tables.specs.write_back.WriteBack.{with_reads}
use Rattle.alias_effects.specs.Inference.{env_after}
use Rattle.alias_effects.specs.declared.output.PassEnd.{PassEnd}
use Rattle.alias_range_pass.specs.Passes.{Ranged}
use Rattle.alias_range_pass.specs.places.Keeping.{but_effect}
use Rattle.alias_nested.specs.Annotating.{takes, is_capture, context_annotated, summarized, reset_at, reset, annotated}
use Rattle.alias_answer_laws.proofs.order.Ordering.{differs}
use Rattle.alias_certificate_laws.specs.accepting.Alike.{Paired, none, more, Maybe, nothing, just, Alike, apply}
use Rattle.alias_certificate_laws.specs.accepting.Alike.{create_from, immutable_capture, assign, alias, capture}
use Rattle.alias_certificate_laws.specs.accepting.Alike.{maybe_alias, create, freeze, impure, mutate_frozen}
use Rattle.alias_certificate_laws.specs.accepting.Alike.{mutate_global, render, mutate, mutate_conditionally}
use Rattle.alias_certificate_laws.specs.accepting.Alike.{mutate_transitive, mutate_transitive_conditionally}
use Rattle.alias_certificate_laws.specs.accepting.Alike.{create_function, AlikeEffects, AlikeTemporaries, AlikeFunction}
use Rattle.alias_certificate_laws.specs.accepting.Alike.{seen}
use Rattle.alias_certificate_laws.proofs.accepting.Calling.{same_length}
use Rattle.alias_certificate_laws.proofs.accepting.Likeness.{paired_self, paired_append, paired_get, alike_self}
use Rattle.alias_accepted_laws.specs.Following.{but_seen, SeenAlike, SeenNearly, ReadsAreSetIn}
use Rattle.alias_range_alike_laws.specs.Spans.{Respanned, respanned}
use Rattle.alias_range_alike_laws.specs.Ranging.{CarriesAlike, NearlyAlike, near, SameContextAt, SetsContext}

-- ---- lists

pub paired_set : {A B : Type 0} (Q : A → B → Type 0) (n : ℕ) (x : A) (y : B) → Q x y → {xs : List A} {ys : List B}
    → Paired Q xs ys → Paired Q (slice_set xs n x) (slice_set ys n y)
paired_set Q n x y q none = none
paired_set Q zero x y q (more r rs) = more q rs
paired_set Q (suc n) x y q (more r rs) = more r (paired_set Q n x y q rs)

set_left : {A B : Type 0} (Q : A → B → Type 0) (u : A → A) → ((x : A) (y : B) → Q x y → Q (u x) y)
    → (n : ℕ) (xs : List A) (ys : List B) (x : A) → slice_get xs n ≡ Some x → Paired Q xs ys
    → Paired Q (slice_set xs n (u x)) ys
set_left Q u h n xs ys x e none = none
set_left Q u h zero xs ys x e (more {a = a} {b = b} q qs) = let same : a ≡ x = cc in
    more (subst (λ z. Q (u z) b) same (h a b q)) qs
set_left Q u h (suc n) xs ys x e (more {xs = us} {ys = vs} q qs) = more q (set_left Q u h n us vs x e qs)

set_right : {A B : Type 0} (Q : A → B → Type 0) (u : B → B) → ((x : A) (y : B) → Q x y → Q x (u y))
    → (n : ℕ) (xs : List A) (ys : List B) (y : B) → slice_get ys n ≡ Some y → Paired Q xs ys
    → Paired Q xs (slice_set ys n (u y))
set_right Q u h n xs ys y e none = none
set_right Q u h zero xs ys y e (more {a = a} {b = b} q qs) = let same : b ≡ y = cc in
    more (subst (λ z. Q a (u z)) same (h a b q)) qs
set_right Q u h (suc n) xs ys y e (more {xs = us} {ys = vs} q qs) = more q (set_right Q u h n us vs y e qs)

-- ---- what is the same

pub respanned_self : (x : Identifier) → Respanned x x
respanned_self x = respanned x x.span

pub function_self : (f : HirFunction) → AlikeFunction f f
function_self f = seen f f (summary_self f.aliasing_effects)
  where
    summary_self : (o : Option (List AliasingEffect)) → Maybe AlikeEffects o o
    summary_self None = nothing
    summary_self (Some es) = just (paired_self Alike alike_self es)

pub seen_self : (env : Environment) → SeenAlike env env
seen_self env = record {
  identifiers = paired_self Respanned respanned_self env.identifiers;
  functions = paired_self AlikeFunction function_self env.functions;
  rest = refl;
}

-- with functions that are seen alike in a slot
pub seen_with : (n : ℕ) (f g : HirFunction) (env other : Environment) → AlikeFunction f g → SeenAlike env other
    → SeenAlike (record env { functions = slice_set env.functions n f })
    (record other { functions = slice_set other.functions n g })
seen_with n f g env other a s = record {
  identifiers = s.identifiers;
  functions = paired_set AlikeFunction n f g a s.functions;
  rest = s.rest;
}

-- ---- identifiers of temporaries

fresh_seen : (s t : Option Span) (n m k : ℕ) → m ≡ n → Respanned (fresh_identifier s n k) (fresh_identifier t m k)
fresh_seen s t n m k e = subst (λ z. Respanned (fresh_identifier s n k) (fresh_identifier t z k)) (sym e)
    (respanned (fresh_identifier s n k) t)

-- the identifiers but for spans, and all else but functions and interned reports
record Identified (env other : Environment) : Type 0 where
  identifiers : Paired Respanned env.identifiers other.identifiers
  rest : but_seen other ≡ but_seen env

one_identified : (s t : Option Span) (env other : Environment) → Identified env other
    → Identified (with_identifier s env) (with_identifier t other)
one_identified s t env other h =
    let long : length other.identifiers ≡ length env.identifiers =
    sym (same_length env.identifiers other.identifiers h.identifiers) in
    let types : length other.types ≡ length env.types = ap (λ (z : Environment). length z.types) h.rest in
    let new : Respanned (fresh_identifier s (length env.identifiers) (length env.types))
    (fresh_identifier t (length other.identifiers) (length other.types))
    = subst (λ k. Respanned (fresh_identifier s (length env.identifiers) (length env.types))
    (fresh_identifier t (length other.identifiers) k)) (sym types)
    (fresh_seen s t (length env.identifiers) (length other.identifiers) (length env.types) long) in
    record {
      identifiers = paired_append h.identifiers (more new none);
      rest = ap (λ (z : Environment). record z { types = z.types ++ Var ∷ [] }) h.rest;
    }

all_identified : (ts us : List Temporary) (env other : Environment) → AlikeTemporaries ts us → Identified env other
    → Identified (with_identifiers ts env) (with_identifiers us other)
all_identified ts us env other none h = h
all_identified ts us env other (more {a = t} {b = u} {xs = ts'} {ys = us'} q qs) h =
    all_identified ts' us' (with_identifier t.place.span env) (with_identifier u.place.span other) qs
    (one_identified t.place.span u.place.span env other h)

functions_stay : (ts : List Temporary) (env : Environment) → (with_identifiers ts env).functions ≡ env.functions
functions_stay [] env = refl
functions_stay (t ∷ ts) env = functions_stay ts (with_identifier t.place.span env)

-- ---- context places that are only read

read_stays : (b : Bool) (p : Place) → but_effect (if b then record p { effect = Read } else p) ≡ but_effect p
read_stays true p = refl
read_stays false p = refl

context_read_stays : (x : IdentifierId) (ps : List Place) → map but_effect (map (read_place x) ps) ≡ map but_effect ps
context_read_stays x [] = refl
context_read_stays x (p ∷ ps) = ap (λ z. z ∷ map but_effect (map (read_place x) ps))
    (read_stays (p.identifier.0 == x.0) p) ∙ ap (λ z. but_effect p ∷ z) (context_read_stays x ps)

nearly : (f g : HirFunction) → AlikeFunction f g → NearlyAlike f g
nearly f g (seen h k a) = near h k h.context refl a

nearly_left : (x : IdentifierId) (f g : HirFunction) → NearlyAlike f g → NearlyAlike (with_context_read x f) g
nearly_left x f g (near h k context same a) =
    near (with_context_read x h) k context (same ∙ sym (context_read_stays x h.context)) a

nearly_right : (x : IdentifierId) (f g : HirFunction) → NearlyAlike f g → NearlyAlike f (with_context_read x g)
nearly_right x f g (near h k context same a) =
    near h k (map (read_place x) context) (context_read_stays x context ∙ same) a

all_nearly : {fs gs : List HirFunction} → Paired AlikeFunction fs gs → Paired NearlyAlike fs gs
all_nearly none = none
all_nearly (more q qs) = more (nearly _ _ q) (all_nearly qs)

read_left : (r : ContextRead) (fs gs : List HirFunction) (o : Option HirFunction) → slice_get fs r.function.0 ≡ o
    → Paired NearlyAlike fs gs
    → Paired NearlyAlike (option_map_or (λ (f : HirFunction). slice_set fs r.function.0 (with_context_read r.place f)) o
    fs) gs
read_left r fs gs None e p = p
read_left r fs gs (Some f) e p = set_left NearlyAlike (with_context_read r.place) (nearly_left r.place) r.function.0 fs
    gs f e p

read_right : (r : ContextRead) (fs gs : List HirFunction) (o : Option HirFunction) → slice_get gs r.function.0 ≡ o
    → Paired NearlyAlike fs gs
    → Paired NearlyAlike fs (option_map_or
    (λ (f : HirFunction). slice_set gs r.function.0 (with_context_read r.place f)) o gs)
read_right r fs gs None e p = p
read_right r fs gs (Some g) e p = set_right NearlyAlike (with_context_read r.place) (nearly_right r.place) r.function.0
    fs gs g e p

reads_left : (rs : List ContextRead) (fs gs : List HirFunction) → Paired NearlyAlike fs gs
    → Paired NearlyAlike (with_reads rs fs) gs
reads_left [] fs gs p = p
reads_left (r ∷ rs) fs gs p = reads_left rs (with_read r fs) gs (read_left r fs gs (slice_get fs r.function.0) refl p)

reads_right : (rs : List ContextRead) (fs gs : List HirFunction) → Paired NearlyAlike fs gs
    → Paired NearlyAlike fs (with_reads rs gs)
reads_right [] fs gs p = p
reads_right (r ∷ rs) fs gs p = reads_right rs fs (with_read r gs)
    (read_right r fs gs (slice_get gs r.function.0) refl p)

one_other : (r : ContextRead) (fs : List HirFunction) (k : ℕ) (o : Option HirFunction) → (k ≡ r.function.0 → ⊥)
    → slice_get (option_map_or (λ (f : HirFunction). slice_set fs r.function.0 (with_context_read r.place f)) o fs) k
    ≡ slice_get fs k
one_other r fs k None d = refl
one_other r fs k (Some f) d = set_other fs r.function.0 k (with_context_read r.place f) d

-- a slot is one of those that are read of, or it stays
read_or_same : (P : ℕ → Type 0) (rs : List ContextRead) (fs : List HirFunction) (k : ℕ)
    → AllByRecursion (λ (r : ContextRead). P r.function.0) rs → P k ⊎ (slice_get (with_reads rs fs) k ≡ slice_get fs k)
read_or_same P [] fs k h = inr refl
read_or_same P (r ∷ rs) fs k h =
    elim (nat_eq k r.function.0) as (λ b. nat_eq k r.function.0 ≡ b → P k
    ⊎ (slice_get (with_reads rs (with_read r fs)) k ≡ slice_get fs k)) [
      | true ↦ λ e. inl (subst P (sym (eqb-true k r.function.0 e)) h.0)
      | false ↦ λ e. ⊎_elim (λ p. inl p) (λ same.
          inr (same ∙ one_other r fs k (slice_get fs r.function.0) (differs k r.function.0 e)))
          (read_or_same P rs (with_read r fs) k h.1)
    ] refl

same_context : (o p : Option HirFunction) → Maybe AlikeFunction o p → option_map (λ (f : HirFunction). f.context) p
    ≡ option_map (λ (f : HirFunction). f.context) o
same_context o p nothing = refl
same_context o p (just (seen f g a)) = refl

contexts_or_set : (f : HirFunction) (es os : List ContextRead) (fs gs : List HirFunction) → Paired AlikeFunction fs gs
    → ReadsAreSetIn f es → ReadsAreSetIn f os → (k : ℕ) → SetsContext f k
    ⊎ SameContextAt (with_reads es fs) (with_reads os gs) k
contexts_or_set f es os fs gs p a b k =
    ⊎_elim (λ s. inl s)
    (λ left. ⊎_elim (λ s. inl s)
    (λ right.
    inr (ap (option_map (λ (f : HirFunction). f.context)) right
    ∙ same_context (slice_get fs k) (slice_get gs k) (paired_get k fs gs p)
    ∙ ap (option_map (λ (f : HirFunction). f.context)) (sym left)))
    (read_or_same (SetsContext f) os gs k b))
    (read_or_same (SetsContext f) es fs k a)

-- what an effects pass and its check leave, where both read of functions alone that are set anew
pub after_seen : (f : HirFunction) (env other : Environment) (e o : PassEnd) → SeenAlike env other
    → AlikeTemporaries e.solved.temporaries o.solved.temporaries → ReadsAreSetIn f e.reads → ReadsAreSetIn f o.reads
    → SeenNearly f (env_after env e) (env_after other o)
after_seen f env other e o s ts a b =
    let i : Identified (with_identifiers e.solved.temporaries env) (with_identifiers o.solved.temporaries other)
    = all_identified e.solved.temporaries o.solved.temporaries env other ts
    (record { identifiers = s.identifiers; rest = s.rest }) in
    let left : (with_identifiers e.solved.temporaries env).functions ≡ env.functions =
    functions_stay e.solved.temporaries env in
    let right : (with_identifiers o.solved.temporaries other).functions ≡ other.functions =
    functions_stay o.solved.temporaries other in
    let same : Paired AlikeFunction (with_identifiers e.solved.temporaries env).functions
    (with_identifiers o.solved.temporaries other).functions
    = subst (λ fs. Paired AlikeFunction fs (with_identifiers o.solved.temporaries other).functions) (sym left)
    (subst (Paired AlikeFunction env.functions) (sym right) s.functions) in
    record {
      identifiers = i.identifiers;
      functions = reads_right o.reads _ _ (reads_left e.reads _ _ (all_nearly same));
      rest = i.rest;
      contexts = contexts_or_set f e.reads o.reads (with_identifiers e.solved.temporaries env).functions
          (with_identifiers o.solved.temporaries other).functions same a b;
    }

-- ---- what is set once the summary is known

-- effects that are alike capture or mutate the same
takes_alike : (x : IdentifierId) (e f : AliasingEffect) → Alike e f → takes x f ≡ takes x e
takes_alike x e f (apply r s g h a b mutates args others signature span other k) = refl
takes_alike x e f (create_from a b c d) = refl
takes_alike x e f (immutable_capture a b c d) = refl
takes_alike x e f (assign a b c d) = refl
takes_alike x e f (alias a b c d) = refl
takes_alike x e f (capture a b c d) = refl
takes_alike x e f (maybe_alias a b c d) = refl
takes_alike x e f (create a b k r) = refl
takes_alike x e f (freeze v w r) = refl
takes_alike x e f (impure p q d g) = refl
takes_alike x e f (mutate_frozen p q d g) = refl
takes_alike x e f (mutate_global p q d g) = refl
takes_alike x e f (render p q) = refl
takes_alike x e f (mutate v w r s) = refl
takes_alike x e f (mutate_conditionally v w) = refl
takes_alike x e f (mutate_transitive v w) = refl
takes_alike x e f (mutate_transitive_conditionally v w) = refl
takes_alike x e f (create_function a b g ps qs k) = refl

any_alike : (x : IdentifierId) (es fs : List AliasingEffect) → AlikeEffects es fs → list_any (takes x) fs
    ≡ list_any (takes x) es
any_alike x es fs none = refl
any_alike x es fs (more {a = e} {b = f} {xs = xs} {ys = ys} q rest) =
    ap (λ b. b || list_any (takes x) ys) (takes_alike x e f q) ∙ ap (λ b. takes x e || b) (any_alike x xs ys rest)

contexts_settled : (es fs : List AliasingEffect) → AlikeEffects es fs → (ps : List Place)
    → map (context_annotated fs) ps ≡ map (context_annotated es) ps
contexts_settled es fs a [] = refl
contexts_settled es fs a (p ∷ ps) =
    ap (λ b. record p { effect = if b || is_capture p.effect then Capture else Read } ∷ map (context_annotated fs) ps)
    (any_alike p.identifier es fs a) ∙ ap (λ zs. context_annotated es p ∷ zs) (contexts_settled es fs a ps)

range_gone : (is js : List Identifier) (n : ℕ) (o p : Option Identifier) → Maybe Respanned o p → Paired Respanned is js
    → Paired Respanned (reset_at is n o) (reset_at js n p)
range_gone is js n o p nothing s = s
range_gone is js n o p (just (respanned x span)) s =
    paired_set Respanned n (without_range x) (without_range (record x { span = span }))
    (respanned (without_range x) span) s

ranges_gone : (ps : List Place) (is js : List Identifier) → Paired Respanned is js
    → Paired Respanned (reset ps is) (reset ps js)
ranges_gone [] is js s = s
ranges_gone (p ∷ ps) is js s =
    ranges_gone ps (reset_at is p.identifier.0 (slice_get is p.identifier.0))
    (reset_at js p.identifier.0 (slice_get js p.identifier.0))
    (range_gone is js p.identifier.0 (slice_get is p.identifier.0) (slice_get js p.identifier.0)
    (paired_get p.identifier.0 is js s) s)

-- a function is the same with its own parameters, context places and result
as_itself : (g : HirFunction) (params : List ParamPattern) (context : List Place) (returns : Place) → params ≡ g.params
    → context ≡ g.context → returns ≡ g.returns → record g { params = params; context = context; returns = returns } ≡ g
as_itself g params context returns p c r =
    ap (λ z. record g { params = z; context = context; returns = returns }) p
    ∙ ap (λ z. record g { context = z; returns = returns }) c ∙ ap (λ z. record g { returns = z }) r

module _ (r there : Ranged) (summary : AlikeEffects r.summary there.summary)
    (carries : CarriesAlike r.after.0 there.after.0) where
  contexts_same : map (context_annotated there.summary) there.after.0.context
      ≡ map (context_annotated r.summary) r.after.0.context
  contexts_same = contexts_settled r.summary there.summary summary there.after.0.context
      ∙ ap (λ (z : HirFunction). map (context_annotated r.summary) z.context) carries.same

  -- the function is seen alike
  pub settled_alike : AlikeFunction (annotated r.summary r.after).0 (annotated there.summary there.after).0
  settled_alike =
      let f : HirFunction = summarized r.summary r.after.0 in
      let g : HirFunction = summarized there.summary there.after.0 in
      subst (AlikeFunction f)
      (as_itself g f.params f.context f.returns (sym (ap (λ (z : HirFunction). z.params) carries.same))
      (sym contexts_same) (sym (ap (λ (z : HirFunction). z.returns) carries.same)))
      (seen f g (just summary))

  -- and so is the environment
  pub settled_seen : SeenAlike r.after.1 there.after.1
      → SeenAlike (annotated r.summary r.after).1 (annotated there.summary there.after).1
  settled_seen s = record {
    identifiers = subst (λ ps. Paired Respanned (annotated r.summary r.after).1.identifiers
        (reset ps there.after.1.identifiers)) (sym contexts_same)
        (ranges_gone (summarized r.summary r.after.0).context r.after.1.identifiers there.after.1.identifiers
        s.identifiers);
    functions = s.functions;
    rest = s.rest;
  }
