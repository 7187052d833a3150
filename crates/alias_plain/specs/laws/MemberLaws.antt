-- Which members sets have after phis and instructions, and where blocks are entered.
use Rattle.std.specs.Prelude.{◌≡◌, ◌≢◌, ◌⊎◌, ℕ, ◌+◌, ◌<◌, ◌≤◌, ◌||◌, ◌&&◌, not, nat_eq, Bool, true, false, List, []}
use Rattle.std.specs.Prelude.{◌∷◌, Option, Some, None, slice_get, refl, if◌then◌else◌}
use Rattle.std.proofs.Common.{zero, suc, ap, sym, ◌∙◌, subst, inl, inr, arith, eq-eqb}
use Rattle.std.proofs.Math.Dec.{T, eqb→eq}
use Rattle.std.proofs.lemmas.Bool.{false≢true}
use Rattle.std.specs.List.{range_with_len}
use Rattle.std.specs.Option.{option_map_or}
use Rattle.alias_base.specs.Find.{value_at}
use Rattle.alias_base.specs.declared.ids.BlockId.{BlockId}
use Rattle.alias_base.specs.declared.ids.InstructionId.{InstructionId}
use Rattle.alias_rules.specs.function_rules.Rules.{is_among}
use Rattle.alias_hir.specs.declared.hir.Instruction.{Instruction}
use Rattle.alias_hir.specs.declared.hir.Phi.{Phi}
use Rattle.alias_hir.specs.declared.place.Place.{Place}
use Rattle.alias_hir.specs.Positions.{Blocks}
use Rattle.alias_lattice.specs.Flows.{IsOneOf}
use Rattle.alias_flow.specs.Machine.{joined}
use Rattle.alias_plainness.specs.Making.{number}
use Rattle.alias_plain.specs.unsure.Sets.{Rows, RowsProper, has, with_member, without_member, union}
use Rattle.alias_plain.specs.unsure.SetLaws.{has-none, has-union, has-with_same, has-with_other, has-without_same}
use Rattle.alias_plain.specs.unsure.SetLaws.{has-without_other}
use Rattle.alias_plain.specs.laws.FlowLaws.{phis_proper, ProperIfThere, joined_proper, first_proper, rest_proper}
use Rattle.alias_plain.specs.laws.Scopes.{Scope}
use Rattle.alias_plain.specs.unsure.Ways.{UnsureState, StateProper}
use Rattle.alias_plain.specs.laws.UnsureFlow.{with_members, without_members, source_of, operand_is_unsure, with_phi}
use Rattle.alias_plain.specs.laws.UnsureFlow.{with_phis, entered_from, rows_or_none, adds_in, through_at, through}
use Rattle.alias_plain.specs.laws.UnsureFlow.{through_all}

-- ---- equal numbers

pub data Compared (x y : ℕ) : Type 0 where
  Same : x ≡ y → nat_eq x y ≡ true → Compared x y
  Differ : x ≢ y → nat_eq x y ≡ false → Compared x y

compared_case : (x y : ℕ) (b : Bool) → nat_eq x y ≡ b → Compared x y
compared_case x y true h = Same (eqb→eq x y (subst T (sym h) tt)) h
compared_case x y false h = Differ (λ e. false≢true (sym h ∙ eq-eqb x y e)) h

pub compared : (x y : ℕ) → Compared x y
compared x y = compared_case x y (nat_eq x y) refl

-- ---- how a member afterwards comes from members before

-- z is a member of each result, of none, or exactly where y is one before
pub data Reads (f : Rows → Rows) (z : ℕ) : Type 0 where
  Always : ((r : Rows) → has (f r) z ≡ true) → Reads f z
  Never : ((r : Rows) → has (f r) z ≡ false) → Reads f z
  From : (y : ℕ) → ((r : Rows) → has (f r) z ≡ has r y) → Reads f z

after_from : (f g : Rows → Rows) (z y : ℕ) → ((r : Rows) → has (g r) z ≡ has r y) → Reads f y → Reads (λ r. g (f r)) z
after_from f g z y h (Always k) = Always (λ r. h (f r) ∙ k r)
after_from f g z y h (Never k) = Never (λ r. h (f r) ∙ k r)
after_from f g z y h (From x k) = From x (λ r. h (f r) ∙ k r)

pub reads_then : (f g : Rows → Rows) (z : ℕ) → Reads g z → ((y : ℕ) → Reads f y) → Reads (λ r. g (f r)) z
reads_then f g z (Always h) k = Always (λ r. h (f r))
reads_then f g z (Never h) k = Never (λ r. h (f r))
reads_then f g z (From y h) k = after_from f g z y h (k y)

without_case : (x z : ℕ) → Compared x z → Reads (without_member x) z
without_case x z (Same e b) = Never (λ r. ap (has (without_member x r)) (sym e) ∙ has-without_same x r)
without_case x z (Differ d b) = From z (λ r. has-without_other x z r d)

reads_without : (xs : List ℕ) (z : ℕ) → Reads (without_members xs) z
reads_without [] z = From z (λ r. refl)
reads_without (x ∷ xs) z = reads_then (without_member x) (without_members xs) z (reads_without xs z)
    (λ y. without_case x y (compared x y))

if_same : (b : Bool) (x : ℕ) (r : Rows) → has (if b then with_member x r else without_member x r) x ≡ b
if_same true x r = has-with_same x r
if_same false x r = has-without_same x r

if_other : (b : Bool) (x z : ℕ) (r : Rows) → x ≢ z → has (if b then with_member x r else without_member x r) z ≡ has r z
if_other true x z r d = has-with_other x z r d
if_other false x z r d = has-without_other x z r d

pub with_phi_same : (from : Option BlockId) (r : Rows) (phi : Phi) (z : ℕ) → number phi.place ≡ z
    → has (with_phi from r phi) z ≡ operand_is_unsure from phi r
with_phi_same from r phi z e = ap (has (with_phi from r phi)) (sym e)
    ∙ if_same (operand_is_unsure from phi r) (number phi.place) r

pub with_phi_other : (from : Option BlockId) (r : Rows) (phi : Phi) (z : ℕ) → number phi.place ≢ z
    → has (with_phi from r phi) z ≡ has r z
with_phi_other from r phi z d = if_other (operand_is_unsure from phi r) (number phi.place) z r d

operand_case : (from : BlockId) (phi : Phi) (z : ℕ) (o : Option Place) → value_at phi.operands from ≡ o
    → number phi.place ≡ z → Reads (λ r. with_phi (Some from) r phi) z
operand_case from phi z None h e = Always
    (λ r. with_phi_same (Some from) r phi z e
    ∙ ap (λ (v : Option Place). option_map_or (λ (p : Place). has r (number p)) v true) h)
operand_case from phi z (Some q) h e = From (number q)
    (λ r. with_phi_same (Some from) r phi z e
    ∙ ap (λ (v : Option Place). option_map_or (λ (p : Place). has r (number p)) v true) h)

source_case : (from : Option BlockId) (phi : Phi) (z : ℕ) → number phi.place ≡ z → Reads (λ r. with_phi from r phi) z
source_case None phi z e = Always (λ r. with_phi_same None r phi z e)
source_case (Some b) phi z e = operand_case b phi z (value_at phi.operands b) refl e

phi_case : (from : Option BlockId) (phi : Phi) (z : ℕ) → Compared (number phi.place) z
    → Reads (λ r. with_phi from r phi) z
phi_case from phi z (Same e b) = source_case from phi z e
phi_case from phi z (Differ d b) = From z (λ r. with_phi_other from r phi z d)

pub reads_phis : (from : Option BlockId) (phis : List Phi) (z : ℕ) → Reads (with_phis from phis) z
reads_phis from [] z = From z (λ r. refl)
reads_phis from (phi ∷ phis) z = reads_then (λ r. with_phi from r phi) (with_phis from phis) z (reads_phis from phis z)
    (λ y. phi_case from phi y (compared (number phi.place) y))

module _ (c : Scope) where
  reads_at : (o : Option Instruction) (z : ℕ) → Reads (λ r. through_at c r o) z
  reads_at None z = From z (λ r. refl)
  reads_at (Some i) z = reads_without (adds_in c i) z

  pub reads_through : (is : List InstructionId) (z : ℕ) → Reads (through_all c is) z
  reads_through [] z = From z (λ r. refl)
  reads_through (i ∷ is) z = reads_then (λ r. through c r i) (through_all c is) z (reads_through is z)
      (λ y. reads_at (slice_get c.func.instructions i.0) y)

-- more members before give more afterwards
pub grows : (f : Rows → Rows) (z : ℕ) → Reads f z → (r s : Rows) → ((y : ℕ) → has r y ≡ true → has s y ≡ true)
    → has (f r) z ≡ true → has (f s) z ≡ true
grows f z (Always h) r s g e = h s
grows f z (Never h) r s g e = absurd (false≢true (sym (h r) ∙ e))
grows f z (From y h) r s g e = h s ∙ g y (sym (h r) ∙ e)

-- ---- where a block is entered

or_first : (a b : Bool) → a ≡ true → a || b ≡ true
or_first true b h = refl
or_first false b h = absurd (false≢true h)

or_second : (a b : Bool) → b ≡ true → a || b ≡ true
or_second true b h = refl
or_second false b h = h

pub or_which : (a b : Bool) → a || b ≡ true → (a ≡ true) ⊎ (b ≡ true)
or_which true b h = inl refl
or_which false b h = inr h

joined_first : (o : Option Rows) (s : Rows) (z : ℕ) → ProperIfThere o → RowsProper s → has (rows_or_none o) z ≡ true
    → has (joined union o s) z ≡ true
joined_first None s z h i e = absurd (false≢true (sym (has-none z) ∙ e))
joined_first (Some r) s z h i e = has-union r s z h i ∙ or_first (has r z) (has s z) e

joined_second : (o : Option Rows) (s : Rows) (z : ℕ) → ProperIfThere o → RowsProper s → has s z ≡ true
    → has (joined union o s) z ≡ true
joined_second None s z h i e = e
joined_second (Some r) s z h i e = has-union r s z h i ∙ or_second (has r z) (has s z) e

joined_which : (o : Option Rows) (s : Rows) (z : ℕ) → ProperIfThere o → RowsProper s → has (joined union o s) z ≡ true
    → (has (rows_or_none o) z ≡ true) ⊎ (has s z ≡ true)
joined_which None s z h i e = inr e
joined_which (Some r) s z h i e = or_which (has r z) (has s z) (sym (has-union r s z h i) ∙ e)

-- some entry has the number after the phis
pub record Comes (blocks : Blocks) (phis : List Phi) (x : UnsureState) (z : ℕ) : Type 0 where
  pub way : ℕ × Rows
  pub entry : IsOneOf way x
  pub member : has (with_phis (source_of blocks way.0) phis way.1) z ≡ true

module _ (blocks : Blocks) (phis : List Phi) (z : ℕ) where
  abbrev after_phis : ℕ × Rows → Rows
  after_phis e = with_phis (source_of blocks e.0) phis e.1

  later : (e : ℕ × Rows) (es : UnsureState) → Comes blocks phis es z → Comes blocks phis (e ∷ es) z
  later e es h = record { way = h.way; entry = inr h.entry; member = h.member }

  stays_entered : (o : Option Rows) (es : UnsureState) → ProperIfThere o → StateProper es → has (rows_or_none o) z
      ≡ true → has (rows_or_none (entered_from blocks phis o es)) z ≡ true
  stays_entered o [] h i e = e
  stays_entered o (x ∷ es) h i e =
      let s : Rows = after_phis x in
      let p : RowsProper s = phis_proper (source_of blocks x.0) phis x.1 (first_proper x es i) in
      stays_entered (Some (joined union o s)) es (joined_proper o s h p) (rest_proper x es i) (joined_first o s z h p e)

  in_entered : (o : Option Rows) (es : UnsureState) (e : ℕ × Rows) → ProperIfThere o → StateProper es → IsOneOf e es
      → has (after_phis e) z ≡ true → has (rows_or_none (entered_from blocks phis o es)) z ≡ true
  in_entered o [] e h i k m = absurd k
  in_entered o (x ∷ es) e h i (inl same) m =
      let s : Rows = after_phis x in
      let p : RowsProper s = phis_proper (source_of blocks x.0) phis x.1 (first_proper x es i) in
      stays_entered (Some (joined union o s)) es (joined_proper o s h p) (rest_proper x es i)
      (joined_second o s z h p (subst (λ (y : ℕ × Rows). has (after_phis y) z ≡ true) same m))
  in_entered o (x ∷ es) e h i (inr k) m =
      let s : Rows = after_phis x in
      let p : RowsProper s = phis_proper (source_of blocks x.0) phis x.1 (first_proper x es i) in
      in_entered (Some (joined union o s)) es e (joined_proper o s h p) (rest_proper x es i) k m

  from_entered : (o : Option Rows) (es : UnsureState) → ProperIfThere o → StateProper es
      → has (rows_or_none (entered_from blocks phis o es)) z ≡ true → (has (rows_or_none o) z ≡ true)
      ⊎ Comes blocks phis es z
  from_entered o [] h i e = inl e
  from_entered o (x ∷ es) h i e =
      let s : Rows = after_phis x in
      let p : RowsProper s = phis_proper (source_of blocks x.0) phis x.1 (first_proper x es i) in
      elim (from_entered (Some (joined union o s)) es (joined_proper o s h p) (rest_proper x es i) e) as
      (λ r. (has (rows_or_none o) z ≡ true) ⊎ Comes blocks phis (x ∷ es) z) [
        | inl m ↦ elim (joined_which o s z h p m) as
            (λ r. (has (rows_or_none o) z ≡ true) ⊎ Comes blocks phis (x ∷ es) z) [
              | inl before ↦ inl before
              | inr now ↦ inr (record { way = x; entry = inl refl; member = now })
            ]
        | inr k ↦ inr (later x es k)
      ]

  -- what an entry has after the phis, the block has
  pub entry_enters : (x : UnsureState) (e : ℕ × Rows) → StateProper x → IsOneOf e x → has (after_phis e) z ≡ true
      → has (rows_or_none (entered_from blocks phis None x)) z ≡ true
  entry_enters x e i k m = in_entered None x e tt i k m

  -- and what the block has, an entry has
  pub entered_comes : (x : UnsureState) → StateProper x → has (rows_or_none (entered_from blocks phis None x)) z ≡ true
      → Comes blocks phis x z
  entered_comes x i e =
      elim (from_entered None x tt i e) as (λ r. Comes blocks phis x z) [
        | inl m ↦ absurd (false≢true (sym (has-none z) ∙ m))
        | inr k ↦ k
      ]

-- ---- members of lists

or_swap : (a b c : Bool) → a || (b || c) ≡ (b || a) || c
or_swap true true c = refl
or_swap true false c = refl
or_swap false true c = refl
or_swap false false c = refl

differ_case : (x y : ℕ) → Compared x y → y ≢ x → nat_eq x y ≡ false
differ_case x y (Same e b) d = absurd (d (sym e))
differ_case x y (Differ e b) d = b

pub other_way : (y x : ℕ) → y ≢ x → nat_eq x y ≡ false
other_way y x d = differ_case x y (compared x y) d

with_is : (y x : ℕ) (r : Rows) → Compared y x → has (with_member y r) x ≡ nat_eq x y || has r x
with_is y x r (Same e b) = ap (has (with_member y r)) (sym e) ∙ has-with_same y r
    ∙ sym (ap (λ t. t || has r x) (eq-eqb x y (sym e)))
with_is y x r (Differ d b) = has-with_other y x r d ∙ sym (ap (λ t. t || has r x) (other_way y x d))

pub has-with_members : (xs : List ℕ) (r : Rows) (x : ℕ) → has (with_members xs r) x ≡ is_among xs x || has r x
has-with_members [] r x = refl
has-with_members (y ∷ xs) r x =
    has-with_members xs (with_member y r) x
    ∙ ap (λ b. is_among xs x || b) (with_is y x r (compared y x))
    ∙ or_swap (is_among xs x) (nat_eq x y) (has r x)

and_not : (a b c : Bool) → (a && not b) && not c ≡ a && not (b || c)
and_not true true c = refl
and_not true false c = refl
and_not false b c = refl

and_false : (a b : Bool) → b ≡ true → a && not b ≡ false
and_false true true h = refl
and_false false b h = refl
and_false true false h = absurd (false≢true h)

and_true : (a b : Bool) → b ≡ false → a && not b ≡ a
and_true true false h = refl
and_true false b h = refl
and_true true true h = absurd (false≢true (sym h))

without_is : (y x : ℕ) (r : Rows) → Compared y x → has (without_member y r) x ≡ has r x && not (nat_eq x y)
without_is y x r (Same e b) = ap (has (without_member y r)) (sym e) ∙ has-without_same y r
    ∙ sym (and_false (has r x) (nat_eq x y) (eq-eqb x y (sym e)))
without_is y x r (Differ d b) = has-without_other y x r d ∙ sym (and_true (has r x) (nat_eq x y) (other_way y x d))

pub has-without_members : (xs : List ℕ) (r : Rows) (x : ℕ) → has (without_members xs r) x ≡ has r x
    && not (is_among xs x)
has-without_members [] r x = sym (and_true (has r x) false refl)
has-without_members (y ∷ xs) r x =
    has-without_members xs (without_member y r) x
    ∙ ap (λ b. b && not (is_among xs x)) (without_is y x r (compared y x))
    ∙ and_not (has r x) (nat_eq x y) (is_among xs x)

among_step : (i m x : ℕ) → Compared x i → x < i + suc m → i ≤ x
    → (x < i + 1 + m → i + 1 ≤ x → is_among (range_with_len (i + 1) m) x ≡ true) → nat_eq x i
    || is_among (range_with_len (i + 1) m) x ≡ true
among_step i m x (Same e b) h l f = or_first (nat_eq x i) _ b
among_step i m x (Differ d b) h l f = or_second (nat_eq x i) _ (f (omega arith) (omega arith))

pub among_range : (i m x : ℕ) → x < i + m → i ≤ x → is_among (range_with_len i m) x ≡ true
among_range i zero x h l = absurd (omega arith)
among_range i (suc m) x h l = among_step i m x (compared x i) h l (among_range (i + 1) m x)
