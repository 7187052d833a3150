-- What an entry leads to is what links lead to, and links fit the order that skips entries.
use Rattle.std.proofs.Common.{◌≡◌, ℕ, ◌<◌, ◌⊎◌, inl, inr, ⊎_elim, Bool, true, false, cond, List, [], ◌∷◌, ◌++◌, nat_lt}
use Rattle.std.proofs.Common.{refl, ap, sym, ◌∙◌, subst, arith}
use Rattle.alias_graph.specs.declared.types.MutationKind.{MutationKind}
use Rattle.alias_graph.specs.declared.types.MutationKind.TheVariants.{Conditional}
use Rattle.alias_graph.specs.declared.types.Direction.{Direction}
use Rattle.alias_graph.specs.declared.types.Direction.TheVariants.{Backwards, Forwards}
use Rattle.alias_graph.specs.declared.types.EdgeKind.{EdgeKind}
use Rattle.alias_graph.specs.declared.types.EdgeKind.TheVariants.{Capture, Alias, MaybeAlias}
use Rattle.alias_graph.specs.declared.types.NodeValue.{NodeValue}
use Rattle.alias_graph.specs.declared.types.NodeValue.TheVariants.{Object, Phi, Function}
use Rattle.alias_graph.specs.Nodes.{Edge}
use Rattle.alias_graph.specs.Nodes.{Source}
use Rattle.alias_graph.specs.declared.types.Entry.{Entry}
use Rattle.alias_graph.specs.Nodes.{Node}
use Rattle.alias_graph.specs.Walks.{IsOneOf}
use Rattle.alias_graph.specs.Links.{entry, back_entries, along, forward_entries, opens, alias_entries, capture_entries}
use Rattle.alias_graph.specs.Links.{led_to}
use Rattle.alias_graph.specs.Legal.{Link, IsOpen, forward_alias, forward_maybe_alias, forward_capture, created_from}
use Rattle.alias_graph.specs.Legal.{alias, maybe_alias, capture}

module _ {A : Type 0} where
  pub in_left : (xs ys : List A) (x : A) → IsOneOf x xs → IsOneOf x (xs ++ ys)
  in_left [] ys x h = absurd h
  in_left (y ∷ xs) ys x (inl h) = inl h
  in_left (y ∷ xs) ys x (inr h) = inr (in_left xs ys x h)

  pub in_right : (xs ys : List A) (x : A) → IsOneOf x ys → IsOneOf x (xs ++ ys)
  in_right [] ys x h = h
  in_right (y ∷ xs) ys x h = inr (in_right xs ys x h)

  pub in_either : (xs ys : List A) (x : A) → IsOneOf x (xs ++ ys) → IsOneOf x xs ⊎ IsOneOf x ys
  in_either [] ys x h = inr h
  in_either (y ∷ xs) ys x (inl h) = inl (inl h)
  in_either (y ∷ xs) ys x (inr h) = ⊎_elim (λ a. inl (inr a)) (λ b. inr b) (in_either xs ys x h)

less_is : (a b : ℕ) → nat_lt a b ≡ true → a < b
less_is a b h = grind arith

is_less : (a b : ℕ) → a < b → nat_lt a b ≡ true
is_less a b h = grind arith

-- the sources
back_of : (m : ℕ) (t : Bool) (k : MutationKind) (ls : List Source) (f : Entry) → IsOneOf f (back_entries m t k ls)
    → (l : Source) × IsOneOf l ls × (l.index < m) × (f ≡ entry l.other t Backwards k)
back_of m t k [] f h = absurd h
back_of m t k (l ∷ ls) f h =
    elim (nat_lt l.index m) as (λ b. nat_lt l.index m ≡ b
    → IsOneOf f (cond b (entry l.other t Backwards k ∷ back_entries m t k ls) (back_entries m t k ls))
    → (s : Source) × IsOneOf s (l ∷ ls) × (s.index < m) × (f ≡ entry s.other t Backwards k)) [
      | true ↦ λ is i. ⊎_elim (λ e. (l, inl refl, less_is l.index m is, e))
          (λ j. let r = back_of m t k ls f j in (r.0, inr r.1, r.2, r.3)) i
      | false ↦ λ is i. let r = back_of m t k ls f i in (r.0, inr r.1, r.2, r.3)
    ] refl h

back_in : (m : ℕ) (t : Bool) (k : MutationKind) (ls : List Source) (l : Source) → IsOneOf l ls → l.index < m
    → IsOneOf (entry l.other t Backwards k) (back_entries m t k ls)
back_in m t k [] l i lt = absurd i
back_in m t k (x ∷ ls) l (inl same) lt =
    let is : nat_lt x.index m ≡ true = is_less x.index m (subst (λ (z : Source). z.index < m) same lt) in
    subst (λ b. IsOneOf (entry l.other t Backwards k)
    (cond b (entry x.other t Backwards k ∷ back_entries m t k ls) (back_entries m t k ls))) (sym is)
    (inl (ap (λ (z : Source). entry z.other t Backwards k) same))
back_in m t k (x ∷ ls) l (inr other) lt =
    let rest = back_in m t k ls l other lt in
    elim (nat_lt x.index m) as (λ b. IsOneOf (entry l.other t Backwards k)
    (cond b (entry x.other t Backwards k ∷ back_entries m t k ls) (back_entries m t k ls)))
    [ true ↦ inr rest | false ↦ rest ]

-- the edges
forward_of : (m : ℕ) (t : Bool) (k : MutationKind) (ls : List Edge) (f : Entry) → IsOneOf f (forward_entries m t k ls)
    → (l : Edge) × IsOneOf l ls × (l.index < m) × (f ≡ along l.kind l.other t k)
forward_of m t k [] f h = absurd h
forward_of m t k (l ∷ ls) f h =
    elim (nat_lt l.index m) as (λ b. nat_lt l.index m ≡ b
    → IsOneOf f (cond b (along l.kind l.other t k ∷ forward_entries m t k ls) (forward_entries m t k ls))
    → (s : Edge) × IsOneOf s (l ∷ ls) × (s.index < m) × (f ≡ along s.kind s.other t k)) [
      | true ↦ λ is i. ⊎_elim (λ e. (l, inl refl, less_is l.index m is, e))
          (λ j. let r = forward_of m t k ls f j in (r.0, inr r.1, r.2, r.3)) i
      | false ↦ λ is i. let r = forward_of m t k ls f i in (r.0, inr r.1, r.2, r.3)
    ] refl h

forward_in : (m : ℕ) (t : Bool) (k : MutationKind) (ls : List Edge) (l : Edge) → IsOneOf l ls → l.index < m
    → IsOneOf (along l.kind l.other t k) (forward_entries m t k ls)
forward_in m t k [] l i lt = absurd i
forward_in m t k (x ∷ ls) l (inl same) lt =
    let is : nat_lt x.index m ≡ true = is_less x.index m (subst (λ (z : Edge). z.index < m) same lt) in
    subst (λ b. IsOneOf (along l.kind l.other t k)
    (cond b (along x.kind x.other t k ∷ forward_entries m t k ls) (forward_entries m t k ls))) (sym is)
    (inl (ap (λ (z : Edge). along z.kind z.other t k) same))
forward_in m t k (x ∷ ls) l (inr other) lt =
    let rest = forward_in m t k ls l other lt in
    elim (nat_lt x.index m) as (λ b. IsOneOf (along l.kind l.other t k)
    (cond b (along x.kind x.other t k ∷ forward_entries m t k ls) (forward_entries m t k ls)))
    [ true ↦ inr rest | false ↦ rest ]

-- a phi that is entered forwards
open_is : (v : NodeValue) (d : Direction) → opens v d ≡ true → v ≡ Phi → d ≡ Forwards → ⊥
open_is Object d h p q = cc
open_is Phi Backwards h p q = cc
open_is Phi Forwards h p q = cc
open_is (Function f) d h p q = cc

is_open : (v : NodeValue) (d : Direction) → (v ≡ Phi → d ≡ Forwards → ⊥) → opens v d ≡ true
is_open Object d h = refl
is_open Phi Backwards h = refl
is_open Phi Forwards h = absurd (h refl refl)
is_open (Function f) d h = refl

alias_of : (b : Bool) (m : ℕ) (n : Node) (e f : Entry) → opens n.value e.direction ≡ b
    → IsOneOf f (alias_entries b m e.transitive e.kind n.aliases n.maybe_aliases) → Link m n e f
alias_of false m n e f is h = absurd h
alias_of true m n e f is h = let free : IsOpen n e = open_is n.value e.direction is in ⊎_elim
    (λ a. let r = back_of m e.transitive e.kind n.aliases f a in alias r.0 r.1 r.2 free r.3)
    (λ a. let r = back_of m e.transitive Conditional n.maybe_aliases f a in maybe_alias r.0 r.1 r.2 free r.3)
    (in_either (back_entries m e.transitive e.kind n.aliases) (back_entries m e.transitive Conditional n.maybe_aliases)
    f h)

capture_of : (b : Bool) (m : ℕ) (n : Node) (e f : Entry) → e.transitive ≡ b
    → IsOneOf f (capture_entries b m e.kind n.captures) → Link m n e f
capture_of false m n e f is h = absurd h
capture_of true m n e f is h = let r = back_of m true e.kind n.captures f h in
    capture r.0 r.1 r.2 is (r.3 ∙ ap (λ t. entry r.0.other t Backwards e.kind) (sym is))

forward_link : (m : ℕ) (n : Node) (e f : Entry) (l : Edge) → IsOneOf l n.forward → l.index < m → (k : EdgeKind) → l.kind
    ≡ k → f ≡ along k l.other e.transitive e.kind → Link m n e f
forward_link m n e f l i lt Capture is h = forward_capture l i lt is h
forward_link m n e f l i lt Alias is h = forward_alias l i lt is h
forward_link m n e f l i lt MaybeAlias is h = forward_maybe_alias l i lt is h

module _ (m : ℕ) (n : Node) (e : Entry) where
  abbrev as_forward : List Entry
  as_forward = forward_entries m e.transitive e.kind n.forward

  abbrev as_created : List Entry
  as_created = back_entries m true e.kind n.created_from

  abbrev as_alias : List Entry
  as_alias = alias_entries (opens n.value e.direction) m e.transitive e.kind n.aliases n.maybe_aliases

  abbrev as_capture : List Entry
  as_capture = capture_entries e.transitive m e.kind n.captures

  -- each entry that is led to comes by a link
  pub link_of : (f : Entry) → IsOneOf f (led_to m e n) → Link m n e f
  link_of f h = ⊎_elim
      (λ three. ⊎_elim
      (λ two. ⊎_elim
      (λ a. let r = forward_of m e.transitive e.kind n.forward f a in
      forward_link m n e f r.0 r.1 r.2 r.0.kind refl r.3)
      (λ a. let r = back_of m true e.kind n.created_from f a in created_from r.0 r.1 r.2 r.3)
      (in_either as_forward as_created f two))
      (λ a. alias_of (opens n.value e.direction) m n e f refl a)
      (in_either (as_forward ++ as_created) as_alias f three))
      (λ a. capture_of e.transitive m n e f refl a)
      (in_either (as_forward ++ as_created ++ as_alias) as_capture f h)

  at_forward : (f : Entry) → IsOneOf f as_forward → IsOneOf f (led_to m e n)
  at_forward f h = in_left (as_forward ++ as_created ++ as_alias) as_capture f
      (in_left (as_forward ++ as_created) as_alias f (in_left as_forward as_created f h))

  at_created : (f : Entry) → IsOneOf f as_created → IsOneOf f (led_to m e n)
  at_created f h = in_left (as_forward ++ as_created ++ as_alias) as_capture f
      (in_left (as_forward ++ as_created) as_alias f (in_right as_forward as_created f h))

  at_alias : (f : Entry) → IsOpen n e → IsOneOf f (alias_entries true m e.transitive e.kind n.aliases n.maybe_aliases)
      → IsOneOf f (led_to m e n)
  at_alias f free h = in_left (as_forward ++ as_created ++ as_alias) as_capture f
      (in_right (as_forward ++ as_created) as_alias f
      (subst (λ b. IsOneOf f (alias_entries b m e.transitive e.kind n.aliases n.maybe_aliases))
      (sym (is_open n.value e.direction free)) h))

  at_capture : (f : Entry) → e.transitive ≡ true → IsOneOf f (capture_entries true m e.kind n.captures)
      → IsOneOf f (led_to m e n)
  at_capture f is h = in_right (as_forward ++ as_created ++ as_alias) as_capture f
      (subst (λ b. IsOneOf f (capture_entries b m e.kind n.captures)) (sym is) h)

  at_edge : (f : Entry) (l : Edge) (k : EdgeKind) → IsOneOf l n.forward → l.index < m → l.kind ≡ k → f
      ≡ along k l.other e.transitive e.kind → IsOneOf f (led_to m e n)
  at_edge f l k i lt is h = at_forward f (subst (λ z. IsOneOf z as_forward)
      (sym (h ∙ ap (λ j. along j l.other e.transitive e.kind) (sym is)))
      (forward_in m e.transitive e.kind n.forward l i lt))

  pub of_link : (f : Entry) → Link m n e f → IsOneOf f (led_to m e n)
  of_link f (forward_alias l i lt is h) = at_edge f l Alias i lt is h
  of_link f (forward_maybe_alias l i lt is h) = at_edge f l MaybeAlias i lt is h
  of_link f (forward_capture l i lt is h) = at_edge f l Capture i lt is h
  of_link f (created_from l i lt h) = at_created f
      (subst (λ z. IsOneOf z as_created) (sym h) (back_in m true e.kind n.created_from l i lt))
  of_link f (alias l i lt free h) = at_alias f free
      (in_left (back_entries m e.transitive e.kind n.aliases) (back_entries m e.transitive Conditional n.maybe_aliases)
      f (subst (λ z. IsOneOf z (back_entries m e.transitive e.kind n.aliases)) (sym h)
      (back_in m e.transitive e.kind n.aliases l i lt)))
  of_link f (maybe_alias l i lt free h) =
      at_alias f free (in_right (back_entries m e.transitive e.kind n.aliases)
      (back_entries m e.transitive Conditional n.maybe_aliases) f
      (subst (λ z. IsOneOf z (back_entries m e.transitive Conditional n.maybe_aliases)) (sym h)
      (back_in m e.transitive Conditional n.maybe_aliases l i lt)))
  of_link f (capture l i lt is h) = at_capture f is
      (subst (λ z. IsOneOf z (back_entries m true e.kind n.captures))
      (sym (h ∙ ap (λ t. entry l.other t Backwards e.kind) is)) (back_in m true e.kind n.captures l i lt))
