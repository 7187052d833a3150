-- What sending a state along edges changes.
use Rattle.std.proofs.Common.{◌≡◌, ℕ, ◌<◌, ◌≢◌, ◌⊎◌, inl, inr, ⊎_elim, Bool, true, false, not, if◌then◌else◌, IsTrue}
use Rattle.std.proofs.Common.{List, [], ◌∷◌, length, get_or, set, Option, Some, None, refl, ap, sym, ◌∙◌, subst, arith}
use Rattle.std.proofs.lemmas.List.{get_or-set_same, get_or-set_other, length-set}
use Rattle.std.proofs.lemmas.Bool.{cases_eq, false≢true}
use Rattle.std.specs.List.{AllByRecursion}
use Rattle.alias_lattice.specs.Laws.{LatticeLaws}
use Rattle.alias_lattice.specs.Flows.{IsOneOf}
use Rattle.alias_flow.specs.Machine.{joined}
use Rattle.alias_flow.specs.WorkLists.{WorkList, work_list_send, work_list_sends, grows}
use Rattle.alias_flow.proofs.Order.{below_itself, below_trans, below_left, below_right, absorbed, below_join}

not_false : (b : Bool) → not b ≡ false → IsTrue b
not_false true e = refl
not_false false e = absurd (false≢true (sym e))

module _ {P : Type 0} {proper : P → Type 0} {join : P → P → P} {below : P → P → Bool}
    (l : LatticeLaws proper join below) where
  abbrev pub at : WorkList P → ℕ → Option P
  at d q = get_or d.joined_input q None

  abbrev pub is_dirty : WorkList P → ℕ → Bool
  is_dirty d q = get_or d.dirty q false

  -- each state is proper, and the lists have n entries
  pub record Sound (n : ℕ) (d : WorkList P) : Type 0 where
    pub input_length : length d.joined_input ≡ n
    pub dirty_length : length d.dirty ≡ n
    pub proper_at : (q : ℕ) (s : P) → at d q ≡ Some s → proper s

  -- something at least as large is at q
  abbrev pub Raised : WorkList P → ℕ → P → Type 0
  Raised d q s = (u : P) × (at d q ≡ Some u) × IsTrue (below s u)

  joined_proper : (o : Option P) (x : P) → ((s : P) → o ≡ Some s → proper s) → proper x → proper (joined join o x)
  joined_proper None x h i = i
  joined_proper (Some s) x h i = l.closed s x (h s refl) i

  joined_above : (o : Option P) (x : P) → ((s : P) → o ≡ Some s → proper s) → proper x
      → IsTrue (below x (joined join o x))
  joined_above None x h i = below_itself l x i
  joined_above (Some s) x h i = below_right l s x (h s refl) i

  length_if : (b : Bool) (xs : List Bool) (i : ℕ) → length (if b then set xs i true else xs) ≡ length xs
  length_if true xs i = length-set xs i true
  length_if false xs i = refl

  some_is : (s u : P) → Some s ≡ Some u → s ≡ u
  some_is s u e = cc

  at_input : (x : P) (d : WorkList P) (e n : ℕ) → Sound n d → e < n → at (work_list_send join below x d e) e
      ≡ Some (joined join (at d e) x)
  at_input x d e n h lt = let i : e < length d.joined_input = omega (arith, h.input_length) in
      get_or-set_same d.joined_input e _ None i

  pub send_sound : (x : P) (d : WorkList P) (e n : ℕ) → proper x → Sound n d → e < n
      → Sound n (work_list_send join below x d e)
  send_sound x d e n p h lt = record {
    input_length = length-set d.joined_input e _ ∙ h.input_length;
    dirty_length = length_if (grows join below (at d e) x) d.dirty e ∙ h.dirty_length;
    proper_at = λ q s is. ⊎_elim
        (λ same. subst proper (some_is _ _ (sym (at_input x d e n h lt)
        ∙ ap (at (work_list_send join below x d e)) (sym same) ∙ is)) (joined_proper (at d e) x (h.proper_at e) p))
        (λ other. h.proper_at q s (sym (get_or-set_other d.joined_input e q _ None other) ∙ is))
        (cases_eq q e);
  }

  raise : (o : Option P) (x s : P) → ((t : P) → o ≡ Some t → proper t) → proper x → o ≡ Some s
      → IsTrue (below s (joined join o x))
  raise None x s h i e = cc
  raise (Some t) x s h i e = subst (λ z. IsTrue (below z (join t x))) (some_is t s e) (below_left l t x (h t refl) i)

  -- what was there only rises
  pub send_raises : (x : P) (d : WorkList P) (e n : ℕ) → proper x → Sound n d → e < n → (q : ℕ) (s : P) → at d q
      ≡ Some s → Raised (work_list_send join below x d e) q s
  send_raises x d e n p h lt q s is = ⊎_elim
      (λ same. (
        joined join (at d e) x,
        ap (at (work_list_send join below x d e)) same ∙ at_input x d e n h lt,
        raise (at d e) x s (h.proper_at e) p (ap (at d) (sym same) ∙ is),
      ))
      (λ other. (s, get_or-set_other d.joined_input e q _ None other ∙ is, below_itself l s (h.proper_at q s is)))
      (cases_eq q e)

  pub still : (o : Option P) (x : P) → ((t : P) → o ≡ Some t → proper t) → proper x → grows join below o x ≡ false
      → Some (joined join o x) ≡ o
  still None x h i e = absurd (false≢true (sym e))
  still (Some t) x h i e = ap Some (absorbed l t x (h t refl) i (not_false (below x t) e))

  grew_at : (b : Bool) (xs : List Bool) (e : ℕ) → e < length xs → get_or (if b then set xs e true else xs) e false
      ≡ false → b ≡ false
  grew_at true xs e i h = absurd (false≢true (sym h ∙ get_or-set_same xs e true false i))
  grew_at false xs e i h = refl

  same_if : (b : Bool) (xs : List Bool) (e : ℕ) → b ≡ false → get_or (if b then set xs e true else xs) e false
      ≡ get_or xs e false
  same_if true xs e h = absurd (false≢true (sym h))
  same_if false xs e h = refl

  other_if : (b : Bool) (xs : List Bool) (e q : ℕ) → q ≢ e → get_or (if b then set xs e true else xs) q false
      ≡ get_or xs q false
  other_if true xs e q n = get_or-set_other xs e q true false n
  other_if false xs e q n = refl

  -- a block that isn't dirty after a send wasn't dirty before, and has what it had
  send_keeps : (x : P) (d : WorkList P) (e n : ℕ) → proper x → Sound n d → e < n → (q : ℕ)
      → is_dirty (work_list_send join below x d e) q ≡ false → (is_dirty d q ≡ false)
      × (at (work_list_send join below x d e) q ≡ at d q)
  send_keeps x d e n p h lt q is = ⊎_elim
      (λ same.
      let at_e : is_dirty (work_list_send join below x d e) e ≡ false =
      ap (is_dirty (work_list_send join below x d e)) (sym same) ∙ is in
      let i : e < length d.dirty = omega (arith, h.dirty_length) in
      let quiet : grows join below (at d e) x ≡ false = grew_at (grows join below (at d e) x) d.dirty e i at_e in (
        ap (is_dirty d) same ∙ sym (same_if (grows join below (at d e) x) d.dirty e quiet) ∙ at_e,
        ap (at (work_list_send join below x d e)) same ∙ at_input x d e n h lt
            ∙ still (at d e) x (h.proper_at e) p quiet ∙ ap (at d) (sym same),
      ))
      (λ other. (
        sym (other_if (grows join below (at d e) x) d.dirty e q other) ∙ is,
        get_or-set_other d.joined_input e q _ None other,
      ))
      (cases_eq q e)

  -- what has a state after a send had one before, or was sent it
  send_source : (x : P) (d : WorkList P) (e : ℕ) (q : ℕ) (s : P) → at (work_list_send join below x d e) q ≡ Some s
      → ((t : P) × (at d q ≡ Some t)) ⊎ (q ≡ e)
  send_source x d e q s is = ⊎_elim (λ same. inr same)
      (λ other. inl (s, sym (get_or-set_other d.joined_input e q _ None other) ∙ is)) (cases_eq q e)

  -- all of the edges
  pub sends_sound : (x : P) (d : WorkList P) (es : List ℕ) (n : ℕ) → proper x → Sound n d
      → AllByRecursion (λ e. e < n) es → Sound n (work_list_sends join below x d es)
  sends_sound x d [] n p h lt = h
  sends_sound x d (e ∷ es) n p h lt = sends_sound x (work_list_send join below x d e) es n p
      (send_sound x d e n p h lt.0) lt.1

  pub sends_raise : (x : P) (d : WorkList P) (es : List ℕ) (n : ℕ) → proper x → Sound n d
      → AllByRecursion (λ e. e < n) es → (q : ℕ) (s : P) → at d q ≡ Some s
      → Raised (work_list_sends join below x d es) q s
  sends_raise x d [] n p h lt q s is = (s, is, below_itself l s (h.proper_at q s is))
  sends_raise x d (e ∷ es) n p h lt q s is =
      let once = send_raises x d e n p h lt.0 q s is in
      let sound = send_sound x d e n p h lt.0 in
      let more = sends_raise x (work_list_send join below x d e) es n p sound lt.1 q once.0 once.1 in (
        more.0,
        more.1,
        below_trans l s once.0 more.0 (h.proper_at q s is) (sound.proper_at q once.0 once.1)
            ((sends_sound x (work_list_send join below x d e) es n p sound lt.1).proper_at q more.0 more.1) once.2
            more.2,
      )

  pub sends_keep : (x : P) (d : WorkList P) (es : List ℕ) (n : ℕ) → proper x → Sound n d
      → AllByRecursion (λ e. e < n) es → (q : ℕ) → is_dirty (work_list_sends join below x d es) q ≡ false
      → (is_dirty d q ≡ false) × (at (work_list_sends join below x d es) q ≡ at d q)
  sends_keep x d [] n p h lt q is = (is, refl)
  sends_keep x d (e ∷ es) n p h lt q is =
      let more = sends_keep x (work_list_send join below x d e) es n p (send_sound x d e n p h lt.0) lt.1 q is in
      let once = send_keeps x d e n p h lt.0 q more.0 in
      (once.0, more.1 ∙ once.1)

  pub sends_cover : (x : P) (d : WorkList P) (es : List ℕ) (n : ℕ) → proper x → Sound n d
      → AllByRecursion (λ e. e < n) es → AllByRecursion (λ e. Raised (work_list_sends join below x d es) e x) es
  sends_cover x d [] n p h lt = tt
  sends_cover x d (e ∷ es) n p h lt =
      let sound = send_sound x d e n p h lt.0 in
      let u : P = joined join (at d e) x in
      let more = sends_raise x (work_list_send join below x d e) es n p sound lt.1 e u (at_input x d e n h lt.0) in (
        (
          more.0,
          more.1,
          below_trans l x u more.0 p (joined_proper (at d e) x (h.proper_at e) p)
              ((sends_sound x (work_list_send join below x d e) es n p sound lt.1).proper_at e more.0 more.1)
              (joined_above (at d e) x (h.proper_at e) p) more.2,
        ),
        sends_cover x (work_list_send join below x d e) es n p sound lt.1,
      )

  pub sends_source : (x : P) (d : WorkList P) (es : List ℕ) (q : ℕ) (s : P) → at (work_list_sends join below x d es) q
      ≡ Some s → ((t : P) × (at d q ≡ Some t)) ⊎ IsOneOf q es
  sends_source x d [] q s is = inl (s, is)
  sends_source x d (e ∷ es) q s is = ⊎_elim
      (λ w. ⊎_elim (λ v. inl v) (λ same. inr (inl same)) (send_source x d e q w.0 w.1))
      (λ among. inr (inr among))
      (sends_source x (work_list_send join below x d e) es q s is)

  -- a block that no edge leads to stays as it is
  pub sends_apart : (x : P) (d : WorkList P) (es : List ℕ) (q : ℕ) → AllByRecursion (λ e. q < e) es
      → (at (work_list_sends join below x d es) q ≡ at d q)
      × (is_dirty (work_list_sends join below x d es) q ≡ is_dirty d q)
  sends_apart x d [] q h = (refl, refl)
  sends_apart x d (e ∷ es) q h =
      let apart : q ≢ e = omega (arith, h.0) in
      let more = sends_apart x (work_list_send join below x d e) es q h.1 in (
        more.0 ∙ get_or-set_other d.joined_input e q _ None apart,
        more.1 ∙ other_if (grows join below (at d e) x) d.dirty e q apart,
      )

  -- a block that is dirty was dirty before, or an edge leads to it
  pub sends_dirty : (x : P) (d : WorkList P) (es : List ℕ) (q : ℕ) → is_dirty (work_list_sends join below x d es) q
      ≡ true → (is_dirty d q ≡ true) ⊎ IsOneOf q es
  sends_dirty x d [] q is = inl is
  sends_dirty x d (e ∷ es) q is = ⊎_elim
      (λ w. ⊎_elim (λ same. inr (inl same)) (λ other.
      inl (sym (other_if (grows join below (at d e) x) d.dirty e q other) ∙ w)) (cases_eq q e))
      (λ among. inr (inr among))
      (sends_dirty x (work_list_send join below x d e) es q is)

  joined_least : (o : Option P) (x u : P) → ((s : P) → o ≡ Some s → proper s) → proper x → proper u
      → ((s : P) → o ≡ Some s → IsTrue (below s u)) → IsTrue (below x u) → IsTrue (below (joined join o x) u)
  joined_least None x u h i k p q = q
  joined_least (Some s) x u h i k p q = below_join l s x u (h s refl) i k (p s refl) q

  -- what is below u stays below it, if what is sent is
  pub sends_least : (x : P) (d : WorkList P) (es : List ℕ) (n : ℕ) → proper x → Sound n d
      → AllByRecursion (λ e. e < n) es → (q : ℕ) (u : P) → proper u
      → ((s : P) → at d q ≡ Some s → IsTrue (below s u)) → (IsOneOf q es → IsTrue (below x u)) → (s : P)
      → at (work_list_sends join below x d es) q ≡ Some s → IsTrue (below s u)
  sends_least x d [] n p h lt q u k old new s is = old s is
  sends_least x d (e ∷ es) n p h lt q u k old new s is =
      sends_least x (work_list_send join below x d e) es n p (send_sound x d e n p h lt.0) lt.1 q u k
      (λ t is. ⊎_elim
      (λ same. subst (λ z. IsTrue (below z u))
      (some_is _ _ (sym (at_input x d e n h lt.0) ∙ ap (at (work_list_send join below x d e)) (sym same) ∙ is))
      (joined_least (at d e) x u (h.proper_at e) p k (λ r z. old r (ap (at d) same ∙ z)) (new (inl same))))
      (λ other. old t (sym (get_or-set_other d.joined_input e q _ None other) ∙ is))
      (cases_eq q e))
      (λ among. new (inr among)) s is
