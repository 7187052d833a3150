-- The temporaries that are given are those that steps end with, where they make no more.
use Rattle.std.specs.Prelude.{◌&&◌, ◌==◌, if◌then◌else◌, nat_lt, map}
use Rattle.std.specs.List.{AllByRecursion}
use Rattle.std.proofs.Common.{◌≡◌, ℕ, ◌+◌, ◌<◌, ◌≤◌, suc, Bool, true, false, cond, List, [], ◌∷◌, ◌++◌, length, Option}
use Rattle.std.proofs.Common.{Some}
use Rattle.std.proofs.Common.{None, Result, Ok, Err, refl, ap, sym, ◌∙◌, subst, arith}
use Rattle.std.proofs.lemmas.Bool.{ltb-false, eqb-true}
use Rattle.std.proofs.lemmas.List.{append-nil, append_assoc, length-append}
use Rattle.alias_base.specs.declared.ids.FunctionId.{FunctionId}
use Rattle.alias_hir.specs.declared.env.Environment.{Environment}
use Rattle.alias_hir.specs.declared.error.Counter.TheVariants.{Identifiers}
use Rattle.alias_hir.specs.declared.place.Place.{Place}
use Rattle.alias_tables.specs.Tables.{TableLists, new_place, temporary, temporary_after, has_room}
use Rattle.alias_tables.specs.Temporaries.{same_temp, temp_like, temporary_of}
use Rattle.alias_tables.specs.declared.faults.Refusal.TheVariants as refused
use Rattle.alias_tables.specs.declared.temp_key.TempKey.{TempKey}
use Rattle.alias_tables.specs.declared.temporaries.Temporary.{Temporary}
use Rattle.alias_certificate.specs.declared.certificate.CertTemporary.{CertTemporary}
use Rattle.alias_certificate.specs.declared.fault.CheckFault.{CheckFault}
use Rattle.alias_certificate.specs.declared.fault.CheckFault.TheVariants as fault
use Rattle.alias_cert.specs.function.Temporaries.{is_key_there, next_number, given, temporary_stated}
use Rattle.alias_cert.specs.function.Temporaries.{temporaries_stated}
use Rattle.alias_cert.proofs.Running.{after}

-- a temporary as it is told
abbrev pub told_temporary : Temporary → CertTemporary
told_temporary t = record { identifier = t.place.identifier; key = t.key }

-- each is numbered below
abbrev pub AreLow : ℕ → List Temporary → Type 0
AreLow n ts = AllByRecursion (λ (t : Temporary). t.place.identifier.0 < n) ts

lower : (n m : ℕ) (ts : List Temporary) → n ≤ m → AreLow n ts → AreLow m ts
lower n m [] le a = tt
lower n m (t ∷ ts) le a = let lt = a.0 in (omega arith, lower n m ts le a.1)

low_appended : (n : ℕ) (ts : List Temporary) (k : Temporary) → AreLow n ts → k.place.identifier.0 < n
    → AreLow n (ts ++ k ∷ [])
low_appended n [] k a h = (h, tt)
low_appended n (t ∷ ts) k a h = (a.0, low_appended n ts k a.1 h)

low_if : (n : ℕ) (t x : Temporary) (o : Option Temporary) (b : Bool) → cond b (Some t) o ≡ Some x
    → t.place.identifier.0 < n → (o ≡ Some x → x.place.identifier.0 < n) → x.place.identifier.0 < n
low_if n t x o true h lt rest = let same : t ≡ x = cc in subst (λ (z : Temporary). z.place.identifier.0 < n) same lt
low_if n t x o false h lt rest = rest h

low_like : (n : ℕ) (key : TempKey) (ts : List Temporary) (x : Temporary) → AreLow n ts → temp_like key ts ≡ Some x
    → x.place.identifier.0 < n
low_like n key [] x a h = cc
low_like n key (t ∷ ts) x a h = low_if n t x (temp_like key ts) (same_temp t.key key) h a.0 (low_like n key ts x a.1)

-- one more, and then the others
then_more : {X : Type 0} (xs ys zs us : List X) (k : X) → ys ≡ xs ++ k ∷ [] → us ≡ ys ++ zs → us ≡ xs ++ k ∷ zs
then_more xs ys zs us k one rest = rest ∙ ap (λ z. z ++ zs) one ∙ append_assoc xs (k ∷ []) zs

longer_by : (n : ℕ) (xs ys : List Temporary) (k : Temporary) → ys ≡ xs ++ k ∷ [] → n + length ys ≡ (n + length xs) + 1
longer_by n xs ys k is =
    let long : length ys ≡ length xs + 1 = ap length is ∙ length-append xs (k ∷ []) in
    omega arith

-- one more temporary, which is told so
pub record OneMore (c : CertTemporary) (t u : TableLists) (n : ℕ) : Type 0 where
  pub new : Temporary
  pub is : u.temporaries ≡ t.temporaries ++ new ∷ []
  pub told : told_temporary new ≡ c
  pub number : new.place.identifier.0 ≡ n

module _ (function : Option FunctionId) (env : Environment) where
  abbrev next : TableLists → ℕ
  next t = next_number function env t

  told_as : (c : CertTemporary) (n : ℕ) → c.identifier.0 ≡ n
      → ◌≡◌ {A = CertTemporary} (record { identifier = record { 0 = n }; key = c.key }) c
  told_as c n h = λ i. record { identifier = record { 0 = sym h i }; key = c.key }

  right_number : (c : CertTemporary) (t v u : TableLists) (p : Place) (b : Bool)
      → (p.identifier.0 == c.identifier.0) ≡ b
      → (let r : Result TableLists CheckFault = if b then Ok v else Err (fault.Temporaries function) in r ≡ Ok u)
      → (p.identifier.0 ≡ c.identifier.0) × (v ≡ u)
  right_number c t v u p true is h = (eqb-true p.identifier.0 c.identifier.0 is, cc)
  right_number c t v u p false is h = cc

  made : (c : CertTemporary) (t u : TableLists) (b : Bool) → c.identifier.0 ≡ next t
      → given function env c.identifier.0 (let p = new_place (length env.identifiers) (length t.temporaries) None in
      if b then Ok (p, record t { temporaries = t.temporaries ++ temporary_of c.key p ∷ [] })
      else Err (refused.TooMany Identifiers)) ≡ Ok u → OneMore c t u (next t)
  made c t u false is h = cc
  made c t u true is h =
      let p : Place = new_place (length env.identifiers) (length t.temporaries) None in
      let v : TableLists = record t { temporaries = t.temporaries ++ temporary_of c.key p ∷ [] } in
      let r = right_number c t v u p (p.identifier.0 == c.identifier.0) refl h in
      record {
        new = temporary_of c.key p;
        is = ap (λ (z : TableLists). z.temporaries) (sym r.1);
        told = told_as c (length env.identifiers + length t.temporaries) is;
        number = refl;
      }

  added : (c : CertTemporary) (t u : TableLists) (o : Option Temporary) → temp_like c.key t.temporaries ≡ o
      → c.identifier.0 ≡ next t → AreLow (next t) t.temporaries
      → given function env c.identifier.0 (temporary_after o env c.key None t) ≡ Ok u → OneMore c t u (next t)
  added c t u (Some x) at is low h =
      let r = right_number c t t u x.place (x.place.identifier.0 == c.identifier.0) refl h in
      let number : x.place.identifier.0 ≡ next t = r.0 ∙ is in
      let lt : x.place.identifier.0 < next t = low_like (next t) c.key t.temporaries x low at in
      absurd (omega arith)
  added c t u None at is low h =
      made c t u (has_room (length env.identifiers) (length env.types) (length t.temporaries)) is h

  named_so : (c : CertTemporary) (t u : TableLists) (a b : Bool) → (c.identifier.0 == next t) ≡ b
      → AreLow (next t) t.temporaries
      → (let r : Result TableLists CheckFault = if a && b
      then given function env c.identifier.0 (temporary env c.key None t) else Err (fault.Temporaries function)
      in r ≡ Ok u)
      → OneMore c t u (next t)
  named_so c t u true true is low h =
      added c t u (temp_like c.key t.temporaries) refl (eqb-true c.identifier.0 (next t) is) low h
  named_so c t u true false is low h = cc
  named_so c t u false b is low h = cc

  -- what was given of temporaries is told of those that it made
  pub record AllMore (cs : List CertTemporary) (t u : TableLists) : Type 0 where
    pub new : List Temporary
    pub is : u.temporaries ≡ t.temporaries ++ new
    pub told : map told_temporary new ≡ cs

  pub all_more : (cs : List CertTemporary) (t u : TableLists) → AreLow (next t) t.temporaries
      → temporaries_stated function env cs t ≡ Ok u → AllMore cs t u
  all_more [] t u low h =
      let same : t ≡ u = cc in
      record {
        new = [];
        is = ap (λ (z : TableLists). z.temporaries) (sym same) ∙ sym (append-nil t.temporaries);
        told = refl;
      }
  all_more (c ∷ cs) t u low h =
      let a = after (temporary_stated function env c t) (temporaries_stated function env cs) u h in
      let one = named_so c t a.was (is_key_there (next t) (length env.functions) c.key)
      (c.identifier.0 == next t) refl low a.first in
      let longer : next a.was ≡ next t + 1 =
      longer_by (length env.identifiers) t.temporaries a.was.temporaries one.new one.is in
      let number = one.number in
      let low_next : AreLow (next a.was) a.was.temporaries = subst (AreLow (next a.was)) (sym one.is)
      (low_appended (next a.was) t.temporaries one.new (lower (next t) (next a.was) t.temporaries (omega arith) low)
      (omega arith)) in
      let rest = all_more cs a.was u low_next a.then_is in
      record {
        new = one.new ∷ rest.new;
        is = then_more t.temporaries a.was.temporaries rest.new u.temporaries one.new one.is rest.is;
        told = λ i. one.told i ∷ rest.told i;
      }

-- a list that grew no longer than it was
pub no_longer : {X : Type 0} (xs more ys : List X) → xs ++ more ≡ ys → nat_lt (length xs) (length ys) ≡ false → ys ≡ xs
no_longer xs [] ys is h = sym is ∙ append-nil xs
no_longer xs (x ∷ more) ys is h =
    let long : length ys ≡ length xs + suc (length more) = ap length (sym is) ∙ length-append xs (x ∷ more) in
    let short : length ys ≤ length xs = ltb-false (length xs) (length ys) h in
    absurd (omega arith)
