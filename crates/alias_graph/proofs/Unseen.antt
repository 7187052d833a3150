-- What a table hasn't seen gets less with each entry that is noted.
use Rattle.std.proofs.Common.{◌≡◌, ◌==◌, ℕ, ◌+◌, ◌<◌, ◌≤◌, Bool, true, false, not, cond, List, [], ◌∷◌, length}
use Rattle.std.proofs.Common.{slice_index_or, slice_set, inl, inr, refl, ap, sym, ◌∙◌, subst, arith, suc, zero}
use Rattle.alias_base.specs.declared.ids.IdentifierId.{IdentifierId}
use Rattle.alias_graph.specs.declared.seen.Seen.{Seen}
use Rattle.alias_graph.specs.declared.types.Direction.{Direction}
use Rattle.alias_graph.specs.declared.types.Direction.TheVariants.{Backwards, Forwards}
use Rattle.alias_graph.specs.declared.types.Entry.{Entry}
use Rattle.alias_graph.specs.declared.types.MutationKind.{MutationKind}
use Rattle.alias_graph.specs.declared.types.MutationKind.TheVariants.{Conditional, Definite}
use Rattle.alias_graph.specs.Links.{entry, mode_covers}
use Rattle.alias_graph.specs.Reach.{once}
use Rattle.alias_graph.specs.Seen.{is_seen, see, nothing_seen}
use Rattle.alias_graph.specs.Walks.{IsOneOf, total}
use Rattle.alias_graph.proofs.Covering.{second}
use Rattle.alias_graph.proofs.Reaching.{covers_itself}
use Rattle.alias_graph.proofs.Size.{eight}
use Rattle.alias_graph.proofs.Table.{seen_more}

abbrev some_id : IdentifierId
some_id = record { 0 = 0 }

in_eight : (t : Bool) (x : Direction) (k : MutationKind) → IsOneOf (entry some_id t x k) (eight some_id)
in_eight true Backwards Definite = inl refl
in_eight true Backwards Conditional = inr (inl refl)
in_eight true Forwards Definite = inr (inr (inl refl))
in_eight true Forwards Conditional = inr (inr (inr (inl refl)))
in_eight false Backwards Definite = inr (inr (inr (inr (inl refl))))
in_eight false Backwards Conditional = inr (inr (inr (inr (inr (inl refl)))))
in_eight false Forwards Definite = inr (inr (inr (inr (inr (inr (inl refl))))))
in_eight false Forwards Conditional = inr (inr (inr (inr (inr (inr (inr (inl refl)))))))

total_less : (f h : Entry → ℕ) → ((e : Entry) → f e ≤ h e) → (es : List Entry) → total f es ≤ total h es
total_less f h le [] = omega arith
total_less f h le (e ∷ es) = let here = le e in let rest = total_less f h le es in omega arith

total_fewer : (f h : Entry → ℕ) → ((e : Entry) → f e ≤ h e) → (es : List Entry) (e : Entry) → IsOneOf e es → f e < h e
    → total f es < total h es
total_fewer f h le [] e i lt = absurd i
total_fewer f h le (d ∷ es) e (inl same) lt =
    let here : f d < h d = subst (λ z. f z < h z) same lt in
    let rest = total_less f h le es in
    omega arith
total_fewer f h le (d ∷ es) e (inr other) lt = let here = le d in let rest = total_fewer f h le es e other lt in
    omega arith

abbrev gap : Seen → Entry → ℕ
gap s e = once (not (is_seen s e))

-- how many of the eight entries of a node are unseen
abbrev unseen_at : Seen → ℕ
unseen_at s = total (gap s) (eight some_id)

gap_less : (b c : Bool) → once (not (cond b true c)) ≤ once (not c)
gap_less true true = omega arith
gap_less true false = omega arith
gap_less false c = omega arith

gaps_less : (d : Entry) (s : Seen) (e : Entry) → gap (see d s) e ≤ gap s e
gaps_less d s e = subst (λ b. once (not b) ≤ gap s e) (sym (seen_more d s e)) (gap_less (mode_covers d e) (is_seen s e))

gap_closes : (e : Entry) (s : Seen) → is_seen s e ≡ false → gap (see e s) e < gap s e
gap_closes e s new =
    let now : is_seen (see e s) e ≡ true = seen_more e s e
    ∙ ap (λ b. cond b true (is_seen s e)) (second (e.id.0 == e.id.0) (mode_covers e e) (covers_itself e)) in
    let after : gap (see e s) e ≡ 0 = ap (λ b. once (not b)) now in
    let before : gap s e ≡ 1 = ap (λ b. once (not b)) new in
    omega arith

unseen_less : (e : Entry) (s : Seen) → is_seen s e ≡ false → unseen_at (see e s) < unseen_at s
unseen_less e s new = total_fewer (gap (see e s)) (gap s) (gaps_less e s) (eight some_id)
    (entry some_id e.transitive e.direction e.kind) (in_eight e.transitive e.direction e.kind) (gap_closes e s new)

-- how many entries of the nodes are unseen
abbrev pub unseen : List Seen → ℕ
unseen [] = 0
unseen (s ∷ ss) = unseen_at s + unseen ss

unseen_set : (ss : List Seen) (p : ℕ) (x : Seen) → p < length ss → unseen_at x
    < unseen_at (slice_index_or ss p nothing_seen) → unseen (slice_set ss p x) < unseen ss
unseen_set [] p x lt less = absurd (omega arith)
unseen_set (s ∷ ss) zero x lt less = omega arith
unseen_set (s ∷ ss) (suc p) x lt less = let rest = unseen_set ss p x (omega arith) less in omega arith

pub noted_less : (ss : List Seen) (p : ℕ) (e : Entry) → p < length ss → is_seen (slice_index_or ss p nothing_seen) e
    ≡ false → unseen (slice_set ss p (see e (slice_index_or ss p nothing_seen))) < unseen ss
noted_less ss p e lt new = unseen_set ss p (see e (slice_index_or ss p nothing_seen)) lt
    (unseen_less e (slice_index_or ss p nothing_seen) new)
