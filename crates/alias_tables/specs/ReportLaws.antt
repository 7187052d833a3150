-- Reports and read-only places are found again.
use Rattle.std.specs.Prelude.{◌≡◌, ℕ, ◌+◌, ◌<◌, Bool, true, false, cond, ◌&&◌, ◌||◌, ◌==◌, nat_lt, List, [], ◌∷◌, ◌++◌}
use Rattle.std.specs.Prelude.{length, Option, Some, None, Ok, Err, refl, if◌then◌else◌}
use Rattle.std.proofs.Common.{ap, sym, ◌∙◌, subst, append_assoc, eq-eqb, arith}
use Rattle.std.proofs.lemmas.Bool.Decides.{nat_tests}
use Rattle.std.specs.List.{list_any}
use Rattle.std.specs.Option.{option_eq}
use Rattle.std.specs.Cmp.Lexicographic.{pointwise}
use Rattle.alias_base.specs.declared.ids.IdentifierId.{IdentifierId}
use Rattle.alias_hir.specs.declared.error.Counter.TheVariants.{Diagnostics}
use Rattle.alias_hir.specs.declared.report.ReportId.{ReportId}
use Rattle.alias_hir.specs.declared.report.ErrorCategory.{ErrorCategory}
use Rattle.alias_hir.specs.declared.report.ErrorCategory.TheVariants.{Invariant, Todo, Immutability, Globals, Purity}
use Rattle.alias_hir.specs.declared.report.ErrorCategory.TheVariants.{IncompatibleLibrary}
use Rattle.alias_hir.specs.declared.report.Interned.{Interned}
use Rattle.alias_hir.specs.declared.report.Label.{Label}
use Rattle.alias_hir.specs.declared.report.Report.{Report}
use Rattle.alias_hir.specs.ReportNumbers.{same_category, same_text, same_span, same_label, same_words, same_report}
use Rattle.alias_hir.specs.ReportNumbers.{same_identity, same_instance, number_of, interned, with_interned}
use Rattle.alias_tables.specs.declared.reads.ContextRead.{ContextRead}
use Rattle.alias_tables.specs.declared.faults.Refusal.TheVariants.{TooMany}
use Rattle.alias_tables.specs.Reads.{same_read, is_noted}
use Rattle.alias_tables.specs.ReplayLaws.{tables_are, first_is, not_given}
use Rattle.alias_tables.specs.Tables.{TableLists, Step, with_reports, intern_report, note_read, noted}
use Rattle.alias_tables.specs.GrowingLaws.{Grows, Extends, Again, grows_self, grows_by}

-- ---- equal reports

pub and_true : (a b : Bool) → a ≡ true → b ≡ true → (a && b) ≡ true
and_true true b p q = q
and_true false b p q = cc

same_itself : (n : ℕ) → (n == n) ≡ true
same_itself n = eq-eqb n n refl

pointwise_itself : {A : Type 0} (E : A → A → Bool) → ((x : A) → E x x ≡ true) → (xs : List A) → pointwise E xs xs ≡ true
pointwise_itself E h [] = refl
pointwise_itself E h (x ∷ xs) = and_true (E x x) (pointwise E xs xs) (h x) (pointwise_itself E h xs)

text_itself : (t : List ℕ) → same_text t t ≡ true
text_itself t = pointwise_itself _ same_itself t

option_itself : (o : Option (List ℕ)) → option_eq same_text o o ≡ true
option_itself None = refl
option_itself (Some t) = text_itself t

category_itself : (c : ErrorCategory) → same_category c c ≡ true
category_itself Invariant = refl
category_itself Todo = refl
category_itself Immutability = refl
category_itself Globals = refl
category_itself Purity = refl
category_itself IncompatibleLibrary = refl

label_itself : (l : Label) → same_label l l ≡ true
label_itself l =
    and_true (same_span l.span l.span) (option_eq same_text l.text l.text)
    (and_true (l.span.start == l.span.start) (l.span.end == l.span.end) (same_itself l.span.start)
    (same_itself l.span.end))
    (option_itself l.text)

pub words_itself : (r : Report) → same_words r r ≡ true
words_itself r =
    and_true (same_category r.category r.category && same_text r.message r.message) (option_eq same_text r.help r.help)
    (and_true (same_category r.category r.category) (same_text r.message r.message) (category_itself r.category)
    (text_itself r.message))
    (option_itself r.help)

report_itself : (r : Report) → same_report r r ≡ true
report_itself r = and_true (same_words r r) (pointwise same_label r.labels r.labels) (words_itself r)
    (pointwise_itself same_label label_itself r.labels)

module _ (id : IdentifierId) (r : Report) where
  identity_itself : same_identity id r (interned id r) ≡ true
  identity_itself = and_true (id.0 == id.0) (same_words r r) (same_itself id.0) (words_itself r)

  instance_itself : same_instance id r (interned id r) ≡ true
  instance_itself = and_true (id.0 == id.0) (same_report r r) (same_itself id.0) (report_itself r)

  equal_says_same : (a b c : Bool) → (a && (b && c)) ≡ true → (a && b) ≡ true
  equal_says_same true true c h = refl
  equal_says_same true false c h = cc
  equal_says_same false b c h = cc

  says_same : (e : Interned) → same_instance id r e ≡ true → same_identity id r e ≡ true
  says_same e h = equal_says_same (e.identifier.0 == id.0) (same_words e.report r)
      (pointwise same_label e.report.labels r.labels) h

-- ---- numbers of entries

module _ (f : Interned → Bool) where
  number_here : (l more : List Interned) (x : Interned) → f x ≡ true → number_of f (l ++ x ∷ more) ≡ number_of f l
  number_here [] more x h = ap (λ b. cond b 0 (number_of f more + 1)) h
  number_here (y ∷ l) more x h = ap (λ n. cond (f y) 0 (n + 1)) (number_here l more x h)

  pub number_still : (l more : List Interned) → list_any f l ≡ true → number_of f (l ++ more) ≡ number_of f l
  number_still [] more h = cc
  number_still (y ∷ l) more h =
      elim (f y) as (λ b. (b || list_any f l) ≡ true → cond b 0 (number_of f (l ++ more) + 1)
      ≡ cond b 0 (number_of f l + 1)) [
        | true ↦ λ g. refl
        | false ↦ λ g. ap (λ n. n + 1) (number_still l more g)
      ] h

  any_here : (l more : List Interned) (x : Interned) → f x ≡ true → list_any f (l ++ x ∷ more) ≡ true
  any_here [] more x h = ap (λ b. b || list_any f more) h
  any_here (y ∷ l) more x h = elim (f y) as (λ b. (b || list_any f (l ++ x ∷ more)) ≡ true)
      [ true ↦ refl | false ↦ any_here l more x h ]

  any_still : (l more : List Interned) → list_any f l ≡ true → list_any f (l ++ more) ≡ true
  any_still [] more h = cc
  any_still (y ∷ l) more h = elim (f y) as (λ b. (b || list_any f l) ≡ true → (b || list_any f (l ++ more)) ≡ true)
      [ true ↦ λ g. refl | false ↦ λ g. any_still l more g ] h

  number_within : (l : List Interned) → list_any f l ≡ true → number_of f l < length l
  number_within [] h = cc
  number_within (y ∷ l) h =
      elim (f y) as (λ b. (b || list_any f l) ≡ true → cond b 0 (number_of f l + 1) < length (y ∷ l)) [
        | true ↦ λ g. omega arith
        | false ↦ λ g. let w = number_within l g in omega arith
      ] h

  number_past : (l : List Interned) → list_any f l ≡ false → number_of f l ≡ length l
  number_past [] h = refl
  number_past (y ∷ l) h =
      elim (f y) as (λ b. (b || list_any f l) ≡ false → cond b 0 (number_of f l + 1) ≡ length (y ∷ l)) [
        | true ↦ λ g. cc
        | false ↦ λ g. let w = number_past l g in omega arith
      ] h

  apart : (m n : ℕ) → m < n → (m == n) ≡ false
  apart m n h = grind (arith, nat_tests)

  -- where an entry passes, the next number isn't taken
  not_next : (l : List Interned) → list_any f l ≡ true → (number_of f l == length l) ≡ false
  not_next l h = apart (number_of f l) (length l) (number_within l h)

  pub passes : (l : List Interned) → (number_of f l == length l) ≡ false → list_any f l ≡ true
  passes l h =
      elim (list_any f l) as (λ b. list_any f l ≡ b → b ≡ true) [
        | true ↦ λ e. refl
        | false ↦ λ e. let same : (number_of f l == length l) ≡ true =
            eq-eqb (number_of f l) (length l) (number_past l e) in cc
      ] refl

any_weaker : (f g : Interned → Bool) → ((e : Interned) → f e ≡ true → g e ≡ true) → (l : List Interned) → list_any f l
    ≡ true → list_any g l ≡ true
any_weaker f g h [] e = cc
any_weaker f g h (y ∷ l) e = or_weaker (f y) (list_any f l) (g y) (list_any g l) (h y) (any_weaker f g h l) e
  where
    or_weaker : (a b c d : Bool) → (a ≡ true → c ≡ true) → (b ≡ true → d ≡ true) → (a || b) ≡ true → (c || d) ≡ true
    or_weaker true b c d p q k = ap (λ z. z || d) (p refl)
    or_weaker false true true d p q k = refl
    or_weaker false true false d p q k = q refl
    or_weaker false false c d p q k = cc

-- ---- reports

module _ (id : IdentifierId) (r : Report) where
  abbrev inst : Interned → Bool
  inst = same_instance id r

  abbrev ident : Interned → Bool
  ident = same_identity id r

  abbrev kept_if : Bool → List Interned → List Interned
  kept_if b l = cond b (l ++ interned id r ∷ []) l

  -- the report stands in what is kept, and what follows changes no number
  record Stays (l m : List Interned) : Type 0 where
    pub identity : number_of ident m ≡ number_of ident l
    pub instance : number_of inst m ≡ number_of inst l
    pub there : list_any inst m ≡ true

  stays_if : (b : Bool) (l more m : List Interned) → (number_of inst l == length l) ≡ b → kept_if b l ++ more ≡ m
      → Stays l m
  stays_if true l more m h e =
      let e2 : l ++ interned id r ∷ more ≡ m = sym (append_assoc l (interned id r ∷ []) more) ∙ e in record {
        identity = ap (number_of ident) (sym e2) ∙ number_here ident l more (interned id r) (identity_itself id r);
        instance = ap (number_of inst) (sym e2) ∙ number_here inst l more (interned id r) (instance_itself id r);
        there = ap (list_any inst) (sym e2) ∙ any_here inst l more (interned id r) (instance_itself id r);
      }
  stays_if false l more m h e =
      let p = passes inst l h in record {
        identity = ap (number_of ident) (sym e)
            ∙ number_still ident l more (any_weaker inst ident (says_same id r) l p);
        instance = ap (number_of inst) (sym e) ∙ number_still inst l more p;
        there = ap (list_any inst) (sym e) ∙ any_still inst l more p;
      }

  stays : (l m : List Interned) → Grows (with_interned l id r) m → Stays l m
  stays l m g = stays_if (number_of inst l == length l) l g.more m refl g.is

  grows_if : (b : Bool) (l : List Interned) → Grows l (kept_if b l)
  grows_if true l = grows_by l (interned id r ∷ [])
  grows_if false l = grows_self l

  pub grows_by_report : (l : List Interned) → Grows l (with_interned l id r)
  grows_by_report l = grows_if (number_of inst l == length l) l

  abbrev answer_if : Bool → ℕ → ℕ → List Interned → Step ReportId
  answer_if b i j reports t = if b then Ok (record { identity = i; instance = j }, with_reports t reports)
      else Err (TooMany Diagnostics)

  abbrev few : ℕ → ℕ → Bool
  few i j = nat_lt i 4294967295 && nat_lt j 4294967295

  added : (t : TableLists) → Extends t (with_reports t (with_interned t.reports id r))
  added t = record {
    first = grows_self t.first;
    temporaries = grows_self t.temporaries;
    reports = grows_by_report t.reports;
    reads = grows_self t.reads;
  }

  module _ (t u : TableLists) (y : ReportId) where
    abbrev d : ReportId
    d = record { identity = number_of ident t.reports; instance = number_of inst t.reports }

    abbrev kept : TableLists
    kept = with_reports t (with_interned t.reports id r)

    report_grows : (b : Bool) → answer_if b (number_of ident t.reports) (number_of inst t.reports)
        (with_interned t.reports id r) t ≡ Ok (y, u) → Extends t u
    report_grows true h = subst (Extends t) (tables_are d y kept u h) (added t)
    report_grows false h = not_given _ y u h

    report_again : (b : Bool) (v : TableLists) → few (number_of ident t.reports) (number_of inst t.reports) ≡ b
        → answer_if b (number_of ident t.reports) (number_of inst t.reports) (with_interned t.reports id r) t
        ≡ Ok (y, u) → Extends u v → intern_report id r v ≡ Ok (y, v)
    report_again true v enough h x =
        let tables : kept ≡ u = tables_are d y kept u h in
        let s : Stays t.reports v.reports = stays t.reports v.reports
        (subst (λ (w : TableLists). Grows w.reports v.reports) (sym tables) x.reports) in
        ap (λ i. answer_if (few i (number_of inst v.reports)) i (number_of inst v.reports)
        (with_interned v.reports id r) v) s.identity
        ∙ ap (λ j. answer_if (few (number_of ident t.reports) j) (number_of ident t.reports) j
        (with_interned v.reports id r) v) s.instance
        ∙ ap (λ b. answer_if b (number_of ident t.reports) (number_of inst t.reports) (with_interned v.reports id r) v)
        enough
        ∙ ap (λ b. Ok (d, with_reports v (kept_if b v.reports))) (not_next inst v.reports s.there)
        ∙ ap (λ z. Ok (z, v)) (first_is d y kept u h)
    report_again false v enough h x = not_given _ y u h

  -- a report is found again by its identifier and its text
  pub again_report : Again (intern_report id r)
  again_report = record {
    grows = λ t u y h. report_grows t u y (few (number_of ident t.reports) (number_of inst t.reports)) h;
    again = λ t u v y h x. report_again t u y (few (number_of ident t.reports) (number_of inst t.reports)) v refl h x;
  }

-- ---- read-only places

read_itself : (r : ContextRead) → same_read r r ≡ true
read_itself r = and_true (r.function.0 == r.function.0) (r.place.0 == r.place.0) (same_itself r.function.0)
    (same_itself r.place.0)

module _ (r : ContextRead) where
  noted_last : (l : List ContextRead) → is_noted r (l ++ r ∷ []) ≡ true
  noted_last [] = ap (λ b. b || false) (read_itself r)
  noted_last (x ∷ l) = elim (same_read x r) as (λ b. (b || is_noted r (l ++ r ∷ [])) ≡ true)
      [ true ↦ refl | false ↦ noted_last l ]

  noted_still : (l more : List ContextRead) → is_noted r l ≡ true → is_noted r (l ++ more) ≡ true
  noted_still [] more h = cc
  noted_still (x ∷ l) more h = elim (same_read x r) as
      (λ b. (b || is_noted r l) ≡ true → (b || is_noted r (l ++ more)) ≡ true)
      [ true ↦ λ g. refl | false ↦ λ g. noted_still l more g ] h

  abbrev reads_if : Bool → List ContextRead → List ContextRead
  reads_if b l = if b then l else l ++ r ∷ []

  reads_grow : (b : Bool) (l : List ContextRead) → Grows l (reads_if b l)
  reads_grow true l = grows_self l
  reads_grow false l = grows_by l (r ∷ [])

  then_noted : (b : Bool) (l : List ContextRead) → is_noted r l ≡ b → is_noted r (reads_if b l) ≡ true
  then_noted true l h = h
  then_noted false l h = noted_last l

  read_added : (t : TableLists) → Extends t (note_read r t)
  read_added t = record {
    first = grows_self t.first;
    temporaries = grows_self t.temporaries;
    reports = grows_self t.reports;
    reads = reads_grow (is_noted r t.reads) t.reads;
  }

  read_there : (t u v : TableLists) → note_read r t ≡ u → Extends u v → is_noted r v.reads ≡ true
  read_there t u v e x =
      let there : is_noted r u.reads ≡ true = ap (λ (w : TableLists). is_noted r w.reads) (sym e)
      ∙ then_noted (is_noted r t.reads) t.reads refl in
      ap (is_noted r) (sym x.reads.is) ∙ noted_still u.reads x.reads.more there

  -- a read-only place is noted once
  pub again_noted : {A : Type 0} (a : A) → Again (noted r a)
  again_noted {A} a = record {
    grows = λ t u y h. subst (Extends t) (tables_are a y (note_read r t) u h) (read_added t);
    again = λ t u v y h x.
        ap (λ b. Ok (a, record v { reads = reads_if b v.reads }))
        (read_there t u v (tables_are a y (note_read r t) u h) x)
        ∙ ap (λ z. Ok (z, v)) (first_is a y (note_read r t) u h);
  }
