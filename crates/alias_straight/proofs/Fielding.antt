-- Laws of members that are taken off the tokens one after another.
use Rattle.std.specs.Prelude.{Result, Ok, Err, ⊤, option_map, if◌then◌else◌}
use Rattle.std.proofs.Common.{◌≡◌, ℕ, ◌+◌, ◌-◌, ◌<◌, ◌≤◌, Bool, true, false, true≢false, ◌&&◌, List, [], ◌∷◌, length}
use Rattle.std.proofs.Common.{Option, Some, None, Ordering, Less, Equal, Greater, refl, ap, sym, subst, ◌∙◌, arith}
use Rattle.std.specs.Cmp.Lexicographic.{slice_cmp}
use Rattle.std.specs.Ordering.{nat_cmp, match_ordering}
use Rattle.std.proofs.lemmas.Slice.Eq.{bytes_eq-Decides}
use Rattle.json.specs.Token.{Token}
use Rattle.json.specs.Json as json
use Rattle.json.specs.Json.{parse_map, members, value}
use Rattle.json.proofs.Grammar.{left, members_end, skip_value-shorter}
use Rattle.serde_json.specs.Data.{Data, object, Members, no_members, member, put}
use Rattle.serde_json.specs.Read.{of_json, of_members, converted}
use Rattle.serde_json.specs.Find.{get_member}
use Rattle.serde_json.proofs.Views.{get_member-put, get_member-put_other}
use Rattle.alias_json.specs.Reading.{Reads, text_is, is_known, members_known}
use Rattle.alias_json.specs.Pointer.{at_key}
use Rattle.alias_json.specs.Fault.{refusal}
use Rattle.alias_json.specs.declared.fault.ValueFault.{ValueFault}
use Rattle.alias_json.specs.declared.fault.TextRule.TheVariants.{Unknown}
use Rattle.alias_json.proofs.Parsing.{opened_object, member_read}
use Rattle.alias_straight.specs.Takes.{Takes}
use Rattle.alias_straight.specs.Members.{TakesMember, IfMember, MayTake, Fields, put_given, members_of, or_before}
use Rattle.alias_straight.specs.Members.{field, are_known, Opens, Goes}

-- ---- what is found of the fields

get-put : (key name : List ℕ) (d : Data) (ms : Members) (same : Bool) → text_is name key ≡ same
    → get_member key (put name d ms) ≡ (if same then Some d else get_member key ms)
get-put key name d ms true e = subst (λ (k : List ℕ). get_member k (put name d ms) ≡ Some d)
    ((bytes_eq-Decides name key).0 e) (get_member-put name d ms)
get-put key name d ms false e = get_member-put_other key name d ms
    (λ is. true≢false (sym ((bytes_eq-Decides name key).1 (sym is)) ∙ e))

stays : (b : Bool) (o : Option Data) → o ≡ (if b then or_before o None else o)
stays true None = refl
stays true (Some d) = refl
stays false o = refl

becomes : (b : Bool) (d : Data) (o : Option Data) → (if b then Some d else o) ≡ (if b then or_before o (Some d) else o)
becomes true d None = refl
becomes true d (Some e) = refl
becomes false d o = refl

get-put_given : (key name : List ℕ) (o : Option Data) (ms : Members) (found : Option Data) → get_member key ms ≡ found
    → get_member key (put_given name o ms) ≡ (if text_is name key then or_before found o else found)
get-put_given key name None ms found e = e ∙ stays (text_is name key) found
get-put_given key name (Some d) ms found e =
    get-put key name d ms (text_is name key) refl ∙ ap (λ (o : Option Data). if text_is name key then Some d else o) e
    ∙ becomes (text_is name key) d found

pub get-members_of : (key : List ℕ) (fs : Fields) → get_member key (members_of fs) ≡ field key fs
get-members_of key [] = refl
get-members_of key (f ∷ fs) = get-put_given key f.0 f.1 (members_of fs) (field key fs) (get-members_of key fs)

-- ---- keys that are known

abbrev IsOk : Result ⊤ ValueFault → Type 0
IsOk (Ok x) = ⊤
IsOk (Err e) = ⊥

module _ (keys : List (List ℕ)) (p : List ℕ) where
  first_known : (key : List ℕ) (d : Data) (ms : Members) → is_known keys key ≡ true
      → members_known keys p (member key d ms) ≡ members_known keys p ms
  first_known key d ms e = rw e refl

  by_order : (o : Ordering) (a b c : Members) → members_known keys p a ≡ Ok tt → members_known keys p b ≡ Ok tt
      → members_known keys p c ≡ Ok tt → members_known keys p (match_ordering o a b c) ≡ Ok tt
  by_order Less a b c x y z = x
  by_order Equal a b c x y z = y
  by_order Greater a b c x y z = z

  -- of a first member that is known, or isn't
  after_first : (l : List ℕ) (e : Data) (ms : Members) (b : Bool) → is_known keys l ≡ b
      → members_known keys p (member l e ms) ≡ Ok tt → (b ≡ true) × (members_known keys p ms ≡ Ok tt)
  after_first l e ms true is h = (refl, sym (first_known l e ms is) ∙ h)
  after_first l e ms false is h =
      let first : members_known keys p (member l e ms) ≡ refusal (at_key p l) Unknown = rw is refl in
      absurd (subst IsOk (sym h ∙ first) tt)

  known-put : (key : List ℕ) (d : Data) (ms : Members) → is_known keys key ≡ true → members_known keys p ms ≡ Ok tt
      → members_known keys p (put key d ms) ≡ Ok tt
  known-put key d no_members e h = first_known key d no_members e ∙ h
  known-put key d (member l g ms) e h =
      let parts = after_first l g ms (is_known keys l) refl h in
      by_order (slice_cmp nat_cmp key l) (member key d (member l g ms)) (member l d ms) (member l g (put key d ms))
      (first_known key d (member l g ms) e ∙ h)
      (first_known l d ms parts.0 ∙ parts.1)
      (first_known l g (put key d ms) parts.0 ∙ known-put key d ms e parts.1)

  known-put_given : (key : List ℕ) (o : Option Data) (ms : Members) → is_known keys key ≡ true → members_known keys p ms
      ≡ Ok tt → members_known keys p (put_given key o ms) ≡ Ok tt
  known-put_given key None ms e h = h
  known-put_given key (Some d) ms e h = known-put key d ms e h

both : (a b : Bool) → (a && b) ≡ true → (a ≡ true) × (b ≡ true)
both true b e = (refl, e)
both false b e = absurd (true≢false (sym e))

pub known-members_of : (keys : List (List ℕ)) (fs : Fields) → are_known keys fs ≡ true → (p : List ℕ)
    → members_known keys p (members_of fs) ≡ Ok tt
known-members_of keys [] e p = refl
known-members_of keys (f ∷ fs) e p =
    let parts = both (is_known keys f.0) (are_known keys fs) e in
    known-put_given keys p f.0 f.1 (members_of fs) parts.0 (known-members_of keys fs parts.1 p)

-- ---- the object from its brace on

pub opened : (depth : ℕ) (start ts : List Token) → 0 < depth → start ≡ Token.begin_object ∷ ts → Opens depth start [] ts
opened depth start ts h e = record {
  turns = length ts;
  enough = omega arith;
  read = ap (λ (l : List Token). converted of_json (value depth l)) e ∙ opened_object depth ts h;
}

abbrev IsNone : {A : Type 0} → Option A → Type 0
IsNone None = ⊤
IsNone (Some a) = ⊥

rest_of : {A : Type 0} (x : Option A) (d : A) (r rest : List Token) → option_map {U = A × List Token} (λ b. (b, r)) x
    ≡ Some (d, rest) → Some r ≡ Some rest
rest_of None d r rest e = absurd (subst IsNone e tt)
rest_of (Some b) d r rest e = ap (λ o. option_map (λ q. q.1) o) e

some_left : {A : Type 0} (f : json.Json → Option A) (o : Option (json.Json × List Token)) (d : A) (rest : List Token)
    → converted f o ≡ Some (d, rest) → left o ≡ Some rest
some_left f None d rest e = absurd (subst IsNone e tt)
some_left f (Some q) d rest e = rest_of (f q.0) d q.1 rest e

-- a value takes a token at least
pub takes-shorter : {A : Type 0} (reads : Reads A) (depth : ℕ) (ts rest : List Token) (x : A)
    → Takes reads depth ts x rest → length rest < length ts
takes-shorter reads depth ts rest x t = skip_value-shorter depth ts rest
    (some_left of_json (value depth ts) t.tree rest t.read)

pub goes : {A : Type 0} (reads : Reads A) (depth : ℕ) (start ts rest : List Token) (fs : Fields) (key : List ℕ) (x : A)
    → Opens depth start fs ts → TakesMember reads (depth - 1) ts key x rest
    → Goes reads depth start fs key (Some x) rest
goes reads depth start ts rest fs key x so_far m =
    let tokens : ts ≡ Token.key key ∷ m.after = m.first in
    let again : Opens depth start fs (Token.key key ∷ m.after) =
    subst (λ (l : List Token). Opens depth start fs l) tokens so_far in
    let shorter : length rest < length m.after = takes-shorter reads (depth - 1) m.after rest x m.takes in
    let enough : length m.after + 1 ≤ again.turns = omega (arith, again.enough) in
    record {
      tree = Some m.takes.tree;
      is = m.takes.is;
      opens = record {
        turns = again.turns - 1;
        enough = omega arith;
        read = again.read ∙ ap (parse_map object)
            (member_read (value (depth - 1)) (members_of fs) again.turns key (Token.key key ∷ m.after) m.after rest
            m.takes.tree (omega arith) refl m.takes.read);
      };
    }

may_go_by : {A : Type 0} (reads : Reads A) (depth : ℕ) (start ts rest : List Token) (fs : Fields) (key : List ℕ)
    (x : Option A) → Opens depth start fs ts → IfMember reads (depth - 1) ts key x rest
    → Goes reads depth start fs key x rest
may_go_by reads depth start ts rest fs key None so_far m =
    record {
      tree = None;
      is = tt;
      opens =
          subst (λ (l : List Token). Opens depth start ((key, None) ∷ fs) l) m
          (record { turns = so_far.turns; enough = so_far.enough; read = so_far.read });
    }
may_go_by reads depth start ts rest fs key (Some x) so_far m = goes reads depth start ts rest fs key x so_far m

pub may_go : {A : Type 0} (reads : Reads A) (depth : ℕ) (start ts rest : List Token) (fs : Fields) (key : List ℕ)
    (x : Option A) → Opens depth start fs ts → MayTake reads (depth - 1) ts key x rest
    → Goes reads depth start fs key x rest
may_go reads depth start ts rest fs key x so_far m = may_go_by reads depth start ts rest fs key x so_far m.member

pub closed : (depth : ℕ) (start ts rest : List Token) (fs : Fields) → Opens depth start fs ts → ts ≡ Token.end_object
    ∷ rest → converted of_json (value depth start) ≡ Some (object (members_of fs), rest)
closed depth start ts rest fs so_far e =
    let again : Opens depth start fs (Token.end_object ∷ rest) =
    subst (λ (l : List Token). Opens depth start fs l) e so_far in
    again.read ∙ ap (λ o. parse_map object (converted (λ ms. of_members ms (members_of fs)) o))
    (members_end (value (depth - 1)) again.turns (Token.end_object ∷ rest) rest again.enough refl)
