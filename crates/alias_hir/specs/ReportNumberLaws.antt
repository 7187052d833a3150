-- What follows of interned reports: all numbers are taken where 4,294,967,295 reports are interned.
use Rattle.std.proofs.Common.{◌≡◌, ℕ, ◌+◌, ◌≤◌, Bool, true, false, cond, if◌then◌else◌, ◌&&◌, ◌==◌, nat_lt, List, []}
use Rattle.std.proofs.Common.{◌∷◌, length, refl, arith}
use Rattle.std.specs.Prelude.{Result, Ok, Err}
use Rattle.std.proofs.lemmas.Bool.Decides.{nat_tests}
use Rattle.alias_base.specs.Answer.{◌>>=◌}
use Rattle.alias_base.specs.AnswerLaws.{both_true}
use Rattle.alias_base.specs.declared.ids.IdentifierId.{IdentifierId}
use Rattle.alias_hir.specs.ReportNumbers.{same_words, same_identity, same_instance, number_of, numbered, report_id_of}
use Rattle.alias_hir.specs.ReportNumbers.{report_id_where_interned}
use Rattle.alias_hir.specs.declared.error.Counter.TheVariants.{Diagnostics}
use Rattle.alias_hir.specs.declared.error.HirError.{HirError}
use Rattle.alias_hir.specs.declared.error.HirError.TheVariants.{TooMany}
use Rattle.alias_hir.specs.declared.report.ReportId.{ReportId}
use Rattle.alias_hir.specs.declared.report.Interned.{Interned}
use Rattle.alias_hir.specs.declared.report.Report.{Report}

one_more_at_most : (t : Bool) (n l : ℕ) → n ≤ l → cond t 0 (n + 1) ≤ l + 1
one_more_at_most true n l h = omega arith
one_more_at_most false n l h = omega (arith, h)

number_at_most : (f : Interned → Bool) (es : List Interned) → number_of f es ≤ length es
number_at_most f [] = omega arith
number_at_most f (e ∷ es) = omega (arith, one_more_at_most (f e) (number_of f es) (length es) (number_at_most f es))

one_before : (s t : Bool) (m n : ℕ) → (t ≡ true → s ≡ true) → m ≤ n → cond s 0 (m + 1) ≤ cond t 0 (n + 1)
one_before true t m n i h = omega arith
one_before false true m n i h = let no : false ≡ true = i refl in cc
one_before false false m n i h = omega (arith, h)

-- what passes the second test passes the first, so the first is passed no later
number_before : (f g : Interned → Bool) → ((e : Interned) → g e ≡ true → f e ≡ true) → (es : List Interned)
    → number_of f es ≤ number_of g es
number_before f g h [] = omega arith
number_before f g h (e ∷ es) = one_before (f e) (g e) _ _ (h e) (number_before f g h es)

both : (a b : Bool) → a ≡ true → b ≡ true → (a && b) ≡ true
both true b p q = q
both false b p q = cc

-- an equal report says the same
says_the_same : (id : IdentifierId) (r : Report) (e : Interned) → same_instance id r e ≡ true → same_identity id r e
    ≡ true
says_the_same id r e h =
    let a : ((e.identifier.0 == id.0) ≡ true) × _ = both_true (e.identifier.0 == id.0) _ h in
    both (e.identifier.0 == id.0) (same_words e.report r) a.0 (both_true (same_words e.report r) _ a.1).0

-- the two numbers that are answered, where both are at most the length, which is at most the number of numbers
abbrev answered : ℕ → ℕ → Result ReportId HirError
answered i n = do
  identity ← numbered i
  instance ← numbered n
  Ok (record { identity = identity; instance = instance })

abbrev answered_where_interned : ℕ → ℕ → ℕ → Result ReportId HirError
answered_where_interned i n l = if (n == l) && (l == 4294967295) then Err (TooMany Diagnostics)
    else Ok (record { identity = i; instance = n })

by_tests : (p q t u : Bool) (i n l : ℕ) → nat_lt i 4294967295 ≡ p → nat_lt n 4294967295 ≡ q → (n == l) ≡ t
    → (l == 4294967295) ≡ u → i ≤ n → n ≤ l → l ≤ 4294967295
    → answered i n ≡ answered_where_interned i n l
by_tests true true true true i n l p q t u a b c = grind (arith, nat_tests)
by_tests true true true false i n l p q t u a b c = rw (p, q, t, u) refl
by_tests true true false u0 i n l p q t u a b c = rw (p, q, t) refl
by_tests true false true true i n l p q t u a b c = rw (p, q, t, u) refl
by_tests false q0 true true i n l p q t u a b c = rw (p, t, u) refl
by_tests p0 false t0 false i n l p q t u a b c = grind (arith, nat_tests)
by_tests p0 false false u0 i n l p q t u a b c = grind (arith, nat_tests)
by_tests false true t0 u0 i n l p q t u a b c = grind (arith, nat_tests)

-- both definitions answer the same
pub taken_where_full : (es : List Interned) (id : IdentifierId) (r : Report) → length es ≤ 4294967295
    → report_id_of es id r ≡ report_id_where_interned es id r
taken_where_full es id r h =
    by_tests _ _ _ _ (number_of (same_identity id r) es) (number_of (same_instance id r) es) (length es) refl refl refl
    refl
    (number_before (same_identity id r) (same_instance id r) (says_the_same id r) es)
    (number_at_most (same_instance id r) es) h
