-- Two walks that lead to the same in a part, and from outside not into it, expand the same of it in the same order.
use Rattle.std.proofs.Common.{◌≡◌, ℕ, ◌+◌, inl, inr, Bool, true, false, not, cond, IsTrue, List, [], ◌∷◌, refl, ap, sym}
use Rattle.std.proofs.Common.{◌∙◌, subst, arith, suc, zero}
use Rattle.std.proofs.lemmas.Bool.{false≢true}
use Rattle.alias_graph.specs.Walks.{IsOneOf, put_all, Walk, is_covered, is_new, pop, step_at, step, run}

-- the items of the part, in order
abbrev pub kept : {E : Type 0} → (E → Bool) → List E → List E
kept keep [] = []
kept keep (x ∷ xs) = cond (keep x) (x ∷ kept keep xs) (kept keep xs)

module _ {E : Type 0} (keep : E → Bool) where
  pub kept_in : (e : E) (es : List E) → keep e ≡ true → kept keep (e ∷ es) ≡ e ∷ kept keep es
  kept_in e es is = ap (λ b. cond b (e ∷ kept keep es) (kept keep es)) is

  pub kept_out : (e : E) (es : List E) → keep e ≡ false → kept keep (e ∷ es) ≡ kept keep es
  kept_out e es is = ap (λ b. cond b (e ∷ kept keep es) (kept keep es)) is

  pub none_kept : (es : List E) → ((e : E) → IsOneOf e es → keep e ≡ false) → kept keep es ≡ []
  none_kept [] h = refl
  none_kept (e ∷ es) h = kept_out e es (h e (inl refl)) ∙ none_kept es (λ x i. h x (inr i))

  kept_put : (xs ys : List E) → kept keep (put_all xs ys) ≡ put_all (kept keep xs) (kept keep ys)
  kept_put [] ys = refl
  kept_put (x ∷ xs) ys = kept_put xs (x ∷ ys)
      ∙ elim (keep x) as (λ b. put_all (kept keep xs) (cond b (x ∷ kept keep ys) (kept keep ys))
      ≡ put_all (cond b (x ∷ kept keep xs) (kept keep xs)) (kept keep ys)) [ true ↦ refl | false ↦ refl ]

  module _ (covers : E → E → Bool) (alike : (d e : E) → IsTrue (covers d e) → keep d ≡ keep e) where
    not_covers : (d e : E) (ds : List E) → keep d ≡ false → keep e ≡ true
        → cond (covers d e) true (is_covered covers ds e) ≡ is_covered covers ds e
    not_covers d e ds out is = elim (covers d e) as
        (λ b. covers d e ≡ b → cond b true (is_covered covers ds e) ≡ is_covered covers ds e) [
          | true ↦ λ c. absurd (false≢true (sym out ∙ alike d e c ∙ is))
          | false ↦ λ c. refl
        ] refl

    covered_kept : (ds : List E) (e : E) → keep e ≡ true → is_covered covers (kept keep ds) e ≡ is_covered covers ds e
    covered_kept [] e is = refl
    covered_kept (d ∷ ds) e is = elim (keep d) as
        (λ b. keep d ≡ b → is_covered covers (cond b (d ∷ kept keep ds) (kept keep ds)) e
        ≡ cond (covers d e) true (is_covered covers ds e)) [
          | true ↦ λ k. ap (cond (covers d e) true) (covered_kept ds e is)
          | false ↦ λ k. covered_kept ds e is ∙ sym (not_covers d e ds k is)
        ] refl

    pub same_covered : (ds cs : List E) (e : E) → keep e ≡ true → kept keep ds ≡ kept keep cs → is_covered covers ds e
        ≡ is_covered covers cs e
    same_covered ds cs e is same = sym (covered_kept ds e is) ∙ ap (λ z. is_covered covers z e) same
        ∙ covered_kept cs e is

-- a walk outside of the part
module _ {E : Type 0} (keep : E → Bool) (covers : E → E → Bool) (node_exists : E → Bool) (next : E → List E)
    (out : (e : E) → keep e ≡ false → kept keep (next e) ≡ []) where
  abbrev StaysOut : List E → List E → Walk E → Type 0
  StaysOut es done w = (kept keep w.stack ≡ kept keep es) × (kept keep w.done ≡ kept keep done)

  pub pop_out : (b : Bool) (e : E) (es done : List E) (n : ℕ) → keep e ≡ false
      → StaysOut es done (pop covers node_exists next b e es done n)
  pop_out false e es done n k = (refl, refl)
  pop_out true e es done n k = (
    kept_put keep (next e) es ∙ ap (λ z. put_all z (kept keep es)) (out e k),
    kept_out keep e done k,
  )

  step_out : (es done : List E) (n : ℕ) → kept keep es ≡ []
      → StaysOut [] done (step_at covers node_exists next es done n)
  step_out [] done n none = (refl, refl)
  step_out (e ∷ es) done n none = elim (keep e) as
      (λ b. keep e ≡ b → cond b (e ∷ kept keep es) (kept keep es) ≡ []
      → StaysOut [] done (step_at covers node_exists next (e ∷ es) done n)) [
        | true ↦ λ k h. absurd (cc)
        | false ↦ λ k h. let p = pop_out (is_new covers node_exists next done e) e es done n k in (p.0 ∙ h, p.1)
      ] refl none

  abbrev at : E → ℕ → Walk E
  at s n = run covers node_exists next s n

  -- once nothing of the part waits, nothing of it is expanded any more
  pub stays_out : (s : E) (j : ℕ) → kept keep (at s j).stack ≡ [] → (i : ℕ) → StaysOut [] (at s j).done (at s (j + i))
  stays_out s j none zero = let same : j + zero ≡ j = omega arith in
      (ap (λ n. kept keep (at s n).stack) same ∙ none, ap (λ n. kept keep (at s n).done) same)
  stays_out s j none (suc i) =
      let same : j + suc i ≡ suc (j + i) = omega arith in
      let before = stays_out s j none i in
      let w = at s (j + i) in
      let after = step_out w.stack w.done w.popped before.0 in
      (ap (λ n. kept keep (at s n).stack) same ∙ after.0, ap (λ n. kept keep (at s n).done) same ∙ after.1 ∙ before.1)

-- the second walk leads to what the first does in the part, and nowhere from outside
pub record PartLaws {E : Type 0} (keep : E → Bool) (covers : E → E → Bool) (exists_one exists_two : E → Bool)
    (one two : E → List E) : Type 0 where
  pub alike : (d e : E) → IsTrue (covers d e) → keep d ≡ keep e
  pub exists : (e : E) → keep e ≡ true → exists_two e ≡ exists_one e
  pub next : (e : E) → keep e ≡ true → two e ≡ one e
  pub out : (e : E) → keep e ≡ false → kept keep (one e) ≡ []
  pub nowhere : (e : E) → keep e ≡ false → two e ≡ []

module _ {E : Type 0} (keep : E → Bool) (covers : E → E → Bool) (exists_one exists_two : E → Bool)
    (one two : E → List E) (laws : PartLaws keep covers exists_one exists_two one two) where
  pub record Alike (v w : Walk E) : Type 0 where
    pub stacks : kept keep v.stack ≡ kept keep w.stack
    pub dones : kept keep v.done ≡ kept keep w.done

  abbrev first : E → ℕ → Walk E
  first s n = run covers exists_one one s n

  abbrev second : E → ℕ → Walk E
  second s n = run covers exists_two two s n

  abbrev state : List E → List E → ℕ → Walk E
  state es done n = record { stack = es; done = done; popped = n }

  popped_alike : (b : Bool) (e : E) (es fs done others : List E) (n p : ℕ) → keep e ≡ true → kept keep es ≡ kept keep fs
      → kept keep done ≡ kept keep others
      → Alike (pop covers exists_one one b e es done n) (pop covers exists_two two b e fs others p)
  popped_alike false e es fs done others n p is stacks dones = record { stacks = stacks; dones = dones }
  popped_alike true e es fs done others n p is stacks dones = record {
    stacks = kept_put keep (one e) es ∙ ap (put_all (kept keep (one e))) stacks ∙ sym (kept_put keep (one e) fs)
        ∙ ap (λ z. kept keep (put_all z fs)) (sym (laws.next e is));
    dones = kept_in keep e done is ∙ ap (λ z. e ∷ z) dones ∙ sym (kept_in keep e others is);
  }

  same_new : (e : E) (done others : List E) → keep e ≡ true → kept keep done ≡ kept keep others
      → is_new covers exists_one one done e ≡ is_new covers exists_two two others e
  same_new e done others is dones =
      ap (λ z. cond (exists_one e) (not z) false) (same_covered keep covers laws.alike done others e is dones)
      ∙ ap (λ z. cond z (not (is_covered covers others e)) false) (sym (laws.exists e is))

  -- the second walk comes to an entry of the part
  pub record Comes (s e : E) (rest done : List E) : Type 0 where
    pub steps : ℕ
    pub left : List E
    pub expanded : List E
    pub popped : ℕ
    pub is : second s steps ≡ state (e ∷ left) expanded popped
    pub stack : kept keep left ≡ rest
    pub same : kept keep expanded ≡ kept keep done

  passed : (b : Bool) (x : E) (es done : List E) (n : ℕ) → keep x ≡ false → pop covers exists_two two b x es done n
      ≡ state es (pop covers exists_two two b x es done n).done (n + 1)
  passed false x es done n k = refl
  passed true x es done n k = ap (λ z. state (put_all z es) (x ∷ done) (n + 1)) (laws.nowhere x k)

  two_out : (e : E) → keep e ≡ false → kept keep (two e) ≡ []
  two_out e k = ap (kept keep) (laws.nowhere e k)

  comes : (s e : E) (rest es done : List E) (n k : ℕ) → second s k ≡ state es done n → kept keep es ≡ e ∷ rest
      → Comes s e rest done
  comes s e rest [] done n k is h = absurd (cc)
  comes s e rest (x ∷ es) done n k is h =
      elim (keep x) as (λ b. keep x ≡ b → cond b (x ∷ kept keep es) (kept keep es) ≡ e ∷ rest → Comes s e rest done) [
        | true ↦ λ t q.
            let same : x ≡ e = cc in
            let others : kept keep es ≡ rest = cc in
            record {
              steps = k;
              left = es;
              expanded = done;
              popped = n;
              is = is ∙ ap (λ z. state (z ∷ es) done n) same;
              stack = others;
              same = refl;
            }
        | false ↦ λ t q.
            let b = is_new covers exists_two two done x in
            let w = pop covers exists_two two b x es done n in
            let after : second s (suc k) ≡ state es w.done (n + 1) = ap (step covers exists_two two) is
            ∙ passed b x es done n t in
            let c = comes s e rest es w.done (n + 1) (suc k) after q in
            record {
              steps = c.steps;
              left = c.left;
              expanded = c.expanded;
              popped = c.popped;
              is = c.is;
              stack = c.stack;
              same = c.same ∙ (pop_out keep covers exists_two two two_out b x es done n t).1;
            }
      ] refl h

  step_alike : (s : E) (es done : List E) (n k : ℕ) → Alike (state es done n) (second s k) → (j : ℕ)
      × Alike (step_at covers exists_one one es done n) (second s j)
  step_alike s [] done n k h = (k, h)
  step_alike s (e ∷ es) done n k h = elim (keep e) as
      (λ b. keep e ≡ b → (j : ℕ) × Alike (step_at covers exists_one one (e ∷ es) done n) (second s j)) [
        | true ↦ λ is.
            let w = second s k in
            let c = comes s e (kept keep es) w.stack w.done w.popped k refl (sym h.stacks ∙ kept_in keep e es is) in
            let dones : kept keep done ≡ kept keep c.expanded = h.dones ∙ sym c.same in
            let b = is_new covers exists_one one done e in
            let after : second s (suc c.steps) ≡ pop covers exists_two two b e c.left c.expanded c.popped =
            ap (step covers exists_two two) c.is ∙ ap (λ z. pop covers exists_two two z e c.left c.expanded c.popped)
            (sym (same_new e done c.expanded is dones)) in (
              suc c.steps,
              subst (λ z. Alike (pop covers exists_one one b e es done n) z) (sym after)
                  (popped_alike b e es c.left done c.expanded n c.popped is (sym c.stack) dones),
            )
        | false ↦ λ is.
            let p = pop_out keep covers exists_one one laws.out (is_new covers exists_one one done e) e es done n is in
            (k, record { stacks = p.0 ∙ sym (kept_out keep e es is) ∙ h.stacks; dones = p.1 ∙ h.dones })
      ] refl

  run_alike : (s : E) (n : ℕ) → (k : ℕ) × Alike (first s n) (second s k)
  run_alike s zero = (0, record { stacks = refl; dones = refl })
  run_alike s (suc n) = let h = run_alike s n in let w = first s n in step_alike s w.stack w.done w.popped h.0 h.1

  -- whole walks expand the same of the part, in the same order
  pub same_part : (s : E) (n k : ℕ) → (first s n).stack ≡ [] → (second s k).stack ≡ [] → kept keep (first s n).done
      ≡ kept keep (second s k).done
  same_part s n k ended_one ended_two =
      let h = run_alike s n in
      let j = h.0 in
      let turn : j + k ≡ k + j = omega arith in
      h.1.dones
      ∙ sym (stays_out keep covers exists_two two two_out s j (sym h.1.stacks ∙ ap (kept keep) ended_one) k).1
      ∙ ap (λ z. kept keep (second s z).done) turn
      ∙ (stays_out keep covers exists_two two two_out s k (ap (kept keep) ended_two) j).1
