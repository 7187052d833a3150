-- Temporaries that are said are made again, in their order.
use Rattle.std.specs.Prelude.{◌==◌, if◌then◌else◌, map, cond}
use Rattle.std.proofs.Common.{◌≡◌, ℕ, ◌+◌, Bool, true, false, ◌&&◌, List, [], ◌∷◌, ◌++◌, length, Option, Some, None}
use Rattle.std.proofs.Common.{Result, Ok, Err, refl, ap, sym, ◌∙◌, subst, append-nil, append_assoc, eq-eqb}
use Rattle.alias_base.specs.Answer.{◌>>=◌}
use Rattle.alias_base.specs.declared.ids.FunctionId.{FunctionId}
use Rattle.alias_hir.specs.declared.env.Environment.{Environment}
use Rattle.alias_hir.specs.declared.error.Counter.TheVariants.{Identifiers}
use Rattle.alias_hir.specs.declared.place.Place.{Place}
use Rattle.alias_tables.specs.Tables.{TableLists, has_room, new_place, temporary, temporary_after}
use Rattle.alias_tables.specs.Temporaries.{same_temp, temp_like, temporary_of}
use Rattle.alias_tables.specs.declared.faults.Refusal.{Refusal}
use Rattle.alias_tables.specs.declared.faults.Refusal.TheVariants.{TooMany}
use Rattle.alias_tables.specs.declared.temp_key.TempKey.{TempKey}
use Rattle.alias_tables.specs.declared.temporaries.Temporary.{Temporary}
use Rattle.alias_certificate.specs.declared.fault.CheckFault.{CheckFault}
use Rattle.alias_certificate.specs.declared.fault.CheckFault.TheVariants as fault
use Rattle.alias_cert.specs.function.Temporaries.{is_key_there, next_number, given, temporary_stated}
use Rattle.alias_cert.specs.function.Temporaries.{temporaries_stated}
use Rattle.alias_certificate_laws.specs.accepting.Alike.{none, more, moved, AlikeTemporary, of_key, AlikeTemporaries}
use Rattle.alias_certificate_laws.specs.accepting.Saying.{said_temporary, AreCounted}
use Rattle.alias_certificate_laws.proofs.accepting.Calling.{same_length}
use Rattle.alias_certificate_laws.proofs.accepting.Likeness.{paired_append}

no_key : (b : Bool) (x y : Temporary) (o p : Option Temporary) → cond b (Some x) o ≡ None → (o ≡ None → p ≡ None)
    → cond b (Some y) p ≡ None
no_key true x y o p h k = cc
no_key false x y o p h k = k h

none_alike : (key : TempKey) (ts us : List Temporary) → AlikeTemporaries ts us → temp_like key ts ≡ None
    → temp_like key us ≡ None
none_alike key ts us none h = refl
none_alike key ts us (more {xs = xs} {ys = ys} (of_key k p q) rest) h =
    no_key (same_temp k key) (record { key = k; place = p }) (record { key = k; place = moved p q }) (temp_like key xs)
    (temp_like key ys) h (none_alike key xs ys rest)

-- the temporaries are said, and come to such tables
pub record AreStated (function : Option FunctionId) (env : Environment) (all : List Temporary)
    (r : Result TableLists CheckFault) : Type 0 where
  pub tables : TableLists
  pub is : r ≡ Ok tables
  pub alike : AlikeTemporaries all tables.temporaries

one_alike : (x : Temporary) (p : Place) → x.place.identifier.0 ≡ p.identifier.0
    → AlikeTemporary x (temporary_of x.key p)
one_alike x p h =
    subst (λ (q : Place). AlikeTemporary x (record { key = x.key; place = q }))
    (ap (λ (n : ℕ). let q : Place = record p { identifier = record { 0 = n } } in q) h) (of_key x.key x.place p)

module _ (function : Option FunctionId) (env : Environment) where
  abbrev added : TableLists → TempKey → TableLists
  added t key = record t {
    temporaries = t.temporaries
        ++ temporary_of key (new_place (length env.identifiers) (length t.temporaries) None) ∷ [];
  }

  one_stated : (x : Temporary) (done : List Temporary) (t : TableLists) → AlikeTemporaries done t.temporaries
      → x.place.identifier.0 ≡ length env.identifiers + length done → temp_like x.key done ≡ None
      → is_key_there (length env.identifiers + length done) (length env.functions) x.key ≡ true
      → has_room (length env.identifiers) (length env.types) (length done) ≡ true
      → temporary_stated function env (said_temporary x) t ≡ Ok (added t x.key)
  one_stated x done t like number new there room =
      let long : length done ≡ length t.temporaries = same_length done t.temporaries like in
      let next : x.place.identifier.0 ≡ length env.identifiers + length t.temporaries = number
      ∙ ap (λ n. length env.identifiers + n) long in
      let first : (is_key_there (next_number function env t) (length env.functions) x.key
      && (x.place.identifier.0 == next_number function env t)) ≡ true =
      ap (λ n. is_key_there (length env.identifiers + n) (length env.functions) x.key
      && (x.place.identifier.0 == next_number function env t)) (sym long)
      ∙ ap (λ b. b && (x.place.identifier.0 == next_number function env t)) there
      ∙ eq-eqb x.place.identifier.0 (next_number function env t) next in
      let found : temporary env x.key None t
      ≡ Ok (new_place (length env.identifiers) (length t.temporaries) None, added t x.key) =
      ap (λ o. temporary_after o env x.key None t) (none_alike x.key done t.temporaries like new)
      ∙ ap (λ b. let r : Result (Place × TableLists) Refusal = if b
      then Ok (new_place (length env.identifiers) (length t.temporaries) None, added t x.key)
      else Err (TooMany Identifiers) in r)
      (ap (has_room (length env.identifiers) (length env.types)) (sym long) ∙ room) in
      ap (λ b. if b then given function env x.place.identifier.0 (temporary env x.key None t)
      else Err (fault.Temporaries function)) first
      ∙ ap (given function env x.place.identifier.0) found
      ∙ ap (λ b. let r : Result TableLists CheckFault = if b then Ok (added t x.key)
      else Err (fault.Temporaries function) in r)
      (eq-eqb (length env.identifiers + length t.temporaries) x.place.identifier.0 (sym next))

  pub counted_stated : (done rest : List Temporary) (t : TableLists) → AlikeTemporaries done t.temporaries
      → AreCounted env done rest → AreStated function env (done ++ rest)
      (temporaries_stated function env (map said_temporary rest) t)
  counted_stated done [] t like c = record
      { tables = t; is = refl; alike = subst (λ l. AlikeTemporaries l t.temporaries) (sym (append-nil done)) like }
  counted_stated done (x ∷ rest) t like c =
      let step = one_stated x done t like c.0 c.1 c.2 c.3 in
      let next : x.place.identifier.0 ≡ length env.identifiers + length t.temporaries = c.0
      ∙ ap (λ n. length env.identifiers + n) (same_length done t.temporaries like) in
      let r = counted_stated (done ++ x ∷ []) rest (added t x.key)
      (paired_append like (more (one_alike x (new_place (length env.identifiers) (length t.temporaries) None) next)
      none)) c.4 in
      record {
        tables = r.tables;
        is = ap (λ z. z >>= temporaries_stated function env (map said_temporary rest)) step ∙ r.is;
        alike = subst (λ l. AlikeTemporaries l r.tables.temporaries) (append_assoc done (x ∷ []) rest) r.alike;
      }
