-- What a walk reaches.
use Rattle.std.proofs.Common.{◌≡◌, ℕ, ◌+◌, ◌⊎◌, inl, inr, ⊎_elim, Bool, true, false, not, cond, IsTrue, List, [], ◌∷◌}
use Rattle.std.proofs.Common.{refl, ap, sym, ◌∙◌, subst, suc, zero}
use Rattle.std.proofs.lemmas.Bool.{false≢true}
use Rattle.alias_graph.specs.Walks.{IsOneOf, AllNew, put_all, Path, begin, more, Walk, is_covered, is_new, pop, step_at}
use Rattle.alias_graph.specs.Walks.{run}

module _ {E : Type 0} where
  put_old : (xs ys : List E) (x : E) → IsOneOf x ys → IsOneOf x (put_all xs ys)
  put_old [] ys x h = h
  put_old (y ∷ xs) ys x h = put_old xs (y ∷ ys) x (inr h)

  put_new : (xs ys : List E) (x : E) → IsOneOf x xs → IsOneOf x (put_all xs ys)
  put_new [] ys x h = absurd h
  put_new (y ∷ xs) ys x (inl h) = put_old xs (y ∷ ys) x (inl h)
  put_new (y ∷ xs) ys x (inr h) = put_new xs (y ∷ ys) x h

  put_is : (xs ys : List E) (x : E) → IsOneOf x (put_all xs ys) → IsOneOf x xs ⊎ IsOneOf x ys
  put_is [] ys x h = inr h
  put_is (y ∷ xs) ys x h = ⊎_elim (λ a. inl (inr a)) (λ b. ⊎_elim (λ e. inl (inl e)) (λ o. inr o) b)
      (put_is xs (y ∷ ys) x h)

module _ {E : Type 0} (covers : E → E → Bool) where
  -- one of the entries covers e
  abbrev pub Met : List E → E → Type 0
  Met ds e = (d : E) × IsOneOf d ds × IsTrue (covers d e)

  met_more : (ds : List E) (d e : E) → Met ds e → Met (d ∷ ds) e
  met_more ds d e m = (m.0, inr m.1, m.2)

  pub covered_met : (ds : List E) (e : E) → is_covered covers ds e ≡ true → Met ds e
  covered_met [] e h = cc
  covered_met (d ∷ ds) e h =
      elim (covers d e) as (λ b. covers d e ≡ b → cond b true (is_covered covers ds e) ≡ true → Met (d ∷ ds) e) [
        | true ↦ λ is g. (d, inl refl, is)
        | false ↦ λ is g. met_more ds d e (covered_met ds e g)
      ] refl h

-- the order that skips entries fits the links
pub record CoverLaws {E : Type 0} (covers : E → E → Bool) (node_exists : E → Bool) (next : E → List E) : Type 0 where
  pub itself : (e : E) → IsTrue (covers e e)
  pub trans : (d e f : E) → IsTrue (covers d e) → IsTrue (covers e f) → IsTrue (covers d f)
  pub alike : (d e : E) → IsTrue (covers d e) → node_exists d ≡ node_exists e
  -- what a covered entry leads to is covered by something that the covering one leads to
  pub mono : (d e f : E) → IsTrue (covers d e) → IsOneOf f (next e) → (c : E) × IsOneOf c (next d) × IsTrue (covers c f)

module _ {E : Type 0} (covers : E → E → Bool) (node_exists : E → Bool) (next : E → List E) where
  pub new_exists : (done : List E) (e : E) → is_new covers node_exists next done e ≡ true → (node_exists e ≡ true)
      × (is_covered covers done e ≡ false)
  new_exists done e h = elim (node_exists e) as
      (λ b. cond b (not (is_covered covers done e)) false ≡ true → (b ≡ true) × (is_covered covers done e ≡ false)) [
        | true ↦ elim (is_covered covers done e) as (λ b. not b ≡ true → (true ≡ true) × (b ≡ false))
            [ true ↦ λ g. cc | false ↦ λ g. (refl, refl) ]
        | false ↦ λ g. cc
      ] h

  old_covered : (done : List E) (e : E) → is_new covers node_exists next done e ≡ false → (node_exists e ≡ false)
      ⊎ (is_covered covers done e ≡ true)
  old_covered done e h = elim (node_exists e) as
      (λ b. cond b (not (is_covered covers done e)) false ≡ false → (b ≡ false) ⊎ (is_covered covers done e ≡ true)) [
        | true ↦ elim (is_covered covers done e) as (λ b. not b ≡ false → (true ≡ false) ⊎ (b ≡ true))
            [ true ↦ λ g. inr refl | false ↦ λ g. cc ]
        | false ↦ λ g. inl refl
      ] h

  -- the walk stays on paths
  pub record OnPaths (s : E) (w : Walk E) : Type 0 where
    pub waiting : (e : E) → IsOneOf e w.stack → IsTrue (node_exists e) → Path node_exists next s e
    pub expanded : (e : E) → IsOneOf e w.done → Path node_exists next s e

  pop_on_paths : (s : E) (b : Bool) (e : E) (es done : List E) (n : ℕ) → is_new covers node_exists next done e ≡ b
      → OnPaths s (record { stack = e ∷ es; done = done; popped = n })
      → OnPaths s (pop covers node_exists next b e es done n)
  pop_on_paths s false e es done n new h = record { waiting = λ x i. h.waiting x (inr i); expanded = h.expanded }
  pop_on_paths s true e es done n new h = let here = h.waiting e (inl refl) (new_exists done e new).0 in record {
    waiting = λ x i t. ⊎_elim (λ a. more here a t) (λ b. h.waiting x (inr b) t) (put_is (next e) es x i);
    expanded = λ x i. ⊎_elim (λ a. subst (Path node_exists next s) (sym a) here) (λ b. h.expanded x b) i;
  }

  step_on_paths : (s : E) (es done : List E) (n : ℕ) → OnPaths s (record { stack = es; done = done; popped = n })
      → OnPaths s (step_at covers node_exists next es done n)
  step_on_paths s [] done n h = h
  step_on_paths s (e ∷ es) done n h = pop_on_paths s (is_new covers node_exists next done e) e es done n refl h

  pub run_on_paths : (s : E) (n : ℕ) → OnPaths s (run covers node_exists next s n)
  run_on_paths s zero = record {
    waiting =
        λ x i t. ⊎_elim (λ a. subst (Path node_exists next s) (sym a) (begin (ap node_exists (sym a) ∙ t)))
        (λ b. absurd b) i;
    expanded = λ x i. absurd i;
  }
  run_on_paths s (suc n) = let w = run covers node_exists next s n in
      step_on_paths s w.stack w.done w.popped (run_on_paths s n)

module _ {E : Type 0} (covers : E → E → Bool) (node_exists : E → Bool) (next : E → List E) where
  pop_new : (b : Bool) (e : E) (es done : List E) (n : ℕ) → is_new covers node_exists next done e ≡ b
      → AllNew covers done → AllNew covers (pop covers node_exists next b e es done n).done
  pop_new false e es done n is h = h
  pop_new true e es done n is h = ((new_exists covers node_exists next done e is).1, h)

  step_new : (es done : List E) (n : ℕ) → AllNew covers done
      → AllNew covers (step_at covers node_exists next es done n).done
  step_new [] done n h = h
  step_new (e ∷ es) done n h = pop_new (is_new covers node_exists next done e) e es done n refl h

  -- nothing is expanded that an earlier one covers
  pub run_new : (s : E) (n : ℕ) → AllNew covers (run covers node_exists next s n).done
  run_new s zero = tt
  run_new s (suc n) = let w = run covers node_exists next s n in step_new w.stack w.done w.popped (run_new s n)

module _ {E : Type 0} {covers : E → E → Bool} {node_exists : E → Bool} {next : E → List E}
    (laws : CoverLaws covers node_exists next) where
  -- something that was or will be expanded covers e
  abbrev pub Held : Walk E → E → Type 0
  Held w e = IsTrue (node_exists e) → Met covers w.done e ⊎ Met covers w.stack e

  -- nothing that a path leads to is lost
  pub record Whole (s : E) (w : Walk E) : Type 0 where
    pub start : Held w s
    pub led : (d f : E) → IsOneOf d w.done → IsOneOf f (next d) → Held w f

  skip : (e f : E) (es done : List E) (n : ℕ) → (node_exists e ≡ false) ⊎ (is_covered covers done e ≡ true)
      → Held (record { stack = e ∷ es; done = done; popped = n }) f
      → Held (record { stack = es; done = done; popped = n + 1 }) f
  skip e f es done n why h t = ⊎_elim
      (λ m. inl m)
      (λ m. ⊎_elim
      (λ same. ⊎_elim
      (λ missing. absurd (false≢true (sym missing ∙ ap node_exists (sym same) ∙ laws.alike m.0 f m.2 ∙ t)))
      (λ is. let by = covered_met covers done e is in
      inl (by.0, by.1, laws.trans by.0 e f by.2 (subst (λ z. IsTrue (covers z f)) same m.2)))
      why)
      (λ other. inr (m.0, other, m.2)) m.1)
      (h t)

  expand : (e f : E) (es done : List E) (n : ℕ) → Held (record { stack = e ∷ es; done = done; popped = n }) f
      → Held (record { stack = put_all (next e) es; done = e ∷ done; popped = n + 1 }) f
  expand e f es done n h t = ⊎_elim
      (λ m. inl (met_more covers done e f m))
      (λ m. ⊎_elim
      (λ same. inl (e, inl refl, subst (λ z. IsTrue (covers z f)) same m.2))
      (λ other. inr (m.0, put_old (next e) es m.0 other, m.2)) m.1)
      (h t)

  pop_whole : (s : E) (b : Bool) (e : E) (es done : List E) (n : ℕ) → is_new covers node_exists next done e ≡ b
      → Whole s (record { stack = e ∷ es; done = done; popped = n })
      → Whole s (pop covers node_exists next b e es done n)
  pop_whole s false e es done n is h = let why = old_covered covers node_exists next done e is in record {
    start = skip e s es done n why h.start;
    led = λ d f i j. skip e f es done n why (h.led d f i j);
  }
  pop_whole s true e es done n is h = record {
    start = expand e s es done n h.start;
    led = λ d f i j. ⊎_elim
        (λ same t. inr (f, put_new (next e) es f (subst (λ z. IsOneOf f (next z)) same j), laws.itself f))
        (λ other. expand e f es done n (h.led d f other j)) i;
  }

  step_whole : (s : E) (es done : List E) (n : ℕ) → Whole s (record { stack = es; done = done; popped = n })
      → Whole s (step_at covers node_exists next es done n)
  step_whole s [] done n h = h
  step_whole s (e ∷ es) done n h = pop_whole s (is_new covers node_exists next done e) e es done n refl h

  pub run_whole : (s : E) (n : ℕ) → Whole s (run covers node_exists next s n)
  run_whole s zero = record { start = λ t. inr (s, inl refl, laws.itself s); led = λ d f i j. absurd i }
  run_whole s (suc n) = let w = run covers node_exists next s n in step_whole s w.stack w.done w.popped (run_whole s n)

  no_stack : (w : Walk E) (e : E) → w.stack ≡ [] → IsTrue (node_exists e) → Held w e → Met covers w.done e
  no_stack w e is t h = ⊎_elim (λ m. m) (λ m. absurd (subst (IsOneOf m.0) is m.1)) (h t)

  reached : (s : E) (w : Walk E) → Whole s w → w.stack ≡ [] → (e : E) → Path node_exists next s e → Met covers w.done e
  reached s w h is e (begin t) = no_stack w s is t h.start
  reached s w h is e (more {e = d} p i t) =
      let by = reached s w h is d p in
      let onto = laws.mono by.0 d e by.2 i in
      let met = no_stack w onto.0 is (laws.alike onto.0 e onto.2 ∙ t) (h.led by.0 onto.0 by.1 onto.1) in
      (met.0, met.1, laws.trans met.0 onto.0 e met.2 onto.2)

  -- at the end each entry of a path is covered by one that was expanded
  pub run_reaches : (s : E) (n : ℕ) → (run covers node_exists next s n).stack ≡ [] → (e : E) → Path node_exists next s e
      → Met covers (run covers node_exists next s n).done e
  run_reaches s n is e p = reached s (run covers node_exists next s n) (run_whole s n) is e p
