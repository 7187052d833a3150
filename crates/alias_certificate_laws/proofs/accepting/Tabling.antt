-- Temporaries are found again by their keys, and reports are interned as long as numbers are left.
use Rattle.std.proofs.Common.{◌≡◌, ◌+◌, Bool, true, false, ◌&&◌, nat_lt, cond, List, [], ◌∷◌, ◌++◌, length, Option}
use Rattle.std.proofs.Common.{Some, None, Result, Ok, Err, refl, ap, sym, ◌∙◌, subst, arith, length-append}
use Rattle.std.proofs.Common.{if◌then◌else◌}
use Rattle.alias_base.specs.declared.ids.IdentifierId.{IdentifierId}
use Rattle.alias_hir.specs.declared.env.Environment.{Environment}
use Rattle.alias_hir.specs.declared.error.Counter.TheVariants.{Diagnostics, Identifiers}
use Rattle.alias_hir.specs.declared.place.Place.{Place}
use Rattle.alias_hir.specs.declared.place.Span.{Span}
use Rattle.alias_hir.specs.declared.report.ReportId.{ReportId}
use Rattle.alias_hir.specs.declared.report.Report.{Report}
use Rattle.alias_hir.specs.ReportNumbers.{same_identity, same_instance, number_of}
use Rattle.alias_tables.specs.GrowingLaws.{grows_self, Extends, again_temporary}
use Rattle.alias_tables.specs.ReplayLaws.{first_is, tables_are, not_given}
use Rattle.alias_tables.specs.ReportLaws.{again_report, again_noted}
use Rattle.alias_tables.specs.Tables.{TableLists, has_room, new_place, temporary, temporary_after, intern_report, noted}
use Rattle.alias_tables.specs.Temporaries.{same_temp, temp_like, temporary_of}
use Rattle.alias_tables.specs.declared.faults.Refusal.{Refusal}
use Rattle.alias_tables.specs.declared.faults.Refusal.TheVariants.{TooMany}
use Rattle.alias_tables.specs.declared.reads.ContextRead.{ContextRead}
use Rattle.alias_tables.specs.declared.temp_key.TempKey.{TempKey}
use Rattle.alias_tables.specs.declared.temporaries.Temporary.{Temporary}
use Rattle.alias_certificate_laws.specs.accepting.Alike.{none, more, moved, AlikePlace, at, IsFull, of_key}
use Rattle.alias_certificate_laws.specs.accepting.Alike.{AlikeTemporaries, Gives, given, excused, Repeats, Elsewhere}
use Rattle.alias_certificate_laws.specs.accepting.Alike.{elsewhere}

-- ---- temporaries

-- a temporary of the key is there, at a place of the same identifier
record IsFound (key : TempKey) (ts : List Temporary) (p : Place) : Type 0 where
  temporary : Temporary
  is : temp_like key ts ≡ Some temporary
  alike : AlikePlace p temporary.place

found_first : (b : Bool) (x y t : Temporary) (o p : Option Temporary) → AlikePlace x.place y.place → cond b (Some x) o
    ≡ Some t → (o ≡ Some t → (z : Temporary) × (p ≡ Some z) × AlikePlace t.place z.place)
    → (z : Temporary) × (cond b (Some y) p ≡ Some z) × AlikePlace t.place z.place
found_first true x y t o p a h k = let same : x ≡ t = cc in
    (y, refl, subst (λ (u : Temporary). AlikePlace u.place y.place) same a)
found_first false x y t o p a h k = k h

found_alike : (key : TempKey) (ts us : List Temporary) (t : Temporary) → AlikeTemporaries ts us → temp_like key ts
    ≡ Some t → (z : Temporary) × (temp_like key us ≡ Some z) × AlikePlace t.place z.place
found_alike key ts us t none h = cc
found_alike key ts us t (more {xs = xs} {ys = ys} (of_key k p q) rest) h =
    found_first (same_temp k key) (record { key = k; place = p }) (record { key = k; place = moved p q }) t
    (temp_like key xs) (temp_like key ys) (at p q) h (found_alike key xs ys t rest)

longer : {A : Type 0} (xs : List A) (x : A) {B : Type 0} → xs ++ x ∷ [] ≡ xs → B
longer xs x h = let n : length xs + 1 ≡ length xs = sym (length-append xs (x ∷ [])) ∙ ap length h in let no : ⊥ =
    omega arith in absurd no

module _ (env : Environment) (key : TempKey) (span : Option Span) where
  none_made : (b : Bool) (w : TableLists) (x : Place)
      → (let r : Result (Place × TableLists) Refusal = if b
      then (let p = new_place (length env.identifiers) (length w.temporaries) span in
      Ok (p, record w { temporaries = w.temporaries ++ temporary_of key p ∷ [] })) else Err (TooMany Identifiers) in r
      ≡ Ok (x, w))
      → {B : Type 0} → B
  none_made true w x h =
      let p = new_place (length env.identifiers) (length w.temporaries) span in
      longer w.temporaries (temporary_of key p)
      (ap (λ (t : TableLists). t.temporaries)
      (tables_are p x (record w { temporaries = w.temporaries ++ temporary_of key p ∷ [] }) w h))
  none_made false w x h = not_given (TooMany Identifiers) x w h

  there_is : (o : Option Temporary) (w : TableLists) (x : Place) → temporary_after o env key span w ≡ Ok (x, w)
      → (t : Temporary) × (o ≡ Some t) × (t.place ≡ x)
  there_is (Some t) w x h = (t, refl, first_is t.place x w w h)
  there_is None w x h = none_made (has_room (length env.identifiers) (length env.types) (length w.temporaries)) w x h

abbrev pub AnyNumber : ReportId → ReportId → Type 0
AnyNumber d e = Unit {0}

module _ {whole : List Temporary} where
  pub repeats_temporary : (env : Environment) (away : Elsewhere env) (key : TempKey) (span other : Option Span)
      → Repeats IsFull whole AlikePlace (temporary env key span) (temporary (elsewhere env away) key other)
  repeats_temporary env away key span other = record {
    grows = λ t u x h. ((again_temporary env key span).grows t u x h).temporaries;
    again = λ t u v x h g like.
        let w : TableLists = record u { temporaries = whole } in
        let extends : Extends u w = record {
          first = grows_self u.first;
          temporaries = g;
          reports = grows_self u.reports;
          reads = grows_self u.reads;
        } in
        let again : temporary env key span w ≡ Ok (x, w) = (again_temporary env key span).again t u w x h extends in
        let here = there_is env key span (temp_like key whole) w x again in
        let z = found_alike key whole v.temporaries here.0 like here.1 in
        given z.0.place v (ap (λ o. temporary_after o (elsewhere env away) key other v) z.1)
        (subst (λ p. AlikePlace p z.0.place) here.2 z.2) like;
  }

  -- ---- reports

  report_given : (b : Bool) (d : ReportId) (v w : TableLists) (x : ReportId) → w.temporaries ≡ v.temporaries
      → AlikeTemporaries whole v.temporaries
      → Gives IsFull whole AnyNumber x (let r : Result (ReportId × TableLists) Refusal = if b then Ok (d, w)
      else Err (TooMany Diagnostics) in r)
  report_given true d v w x same like = given d w refl tt (subst (AlikeTemporaries whole) (sym same) like)
  report_given false d v w x same like = excused (TooMany Diagnostics) refl refl

  pub repeats_report : (id : IdentifierId) (r q : Report)
      → Repeats IsFull whole AnyNumber (intern_report id r) (intern_report id q)
  repeats_report id r q = record {
    grows = λ t u x h. ((again_report id r).grows t u x h).temporaries;
    again = λ t u v x h g like.
        report_given (nat_lt (number_of (same_identity id q) v.reports) 4294967295
        && nat_lt (number_of (same_instance id q) v.reports) 4294967295) _ v _ x refl like;
  }

  -- ---- context places

  pub repeats_noted : {A : Type 0} (R : A → A → Type 0) (r : ContextRead) (x y : A) → R x y
      → Repeats IsFull whole R (noted r x) (noted r y)
  repeats_noted R r x y a = record {
    grows = λ t u z h. ((again_noted r x).grows t u z h).temporaries;
    again = λ t u v z h g like. given y _ refl (subst (λ w. R w y) (first_is x z _ u h) a) like;
  }
