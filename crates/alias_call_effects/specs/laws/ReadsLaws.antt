-- Steps that read the reports of tables alone.
use Rattle.std.specs.Prelude.{◌≡◌, Bool, true, false, List, [], ◌∷◌, Option, Some, None, Result, Ok, Err, refl}
use Rattle.std.specs.Prelude.{if◌then◌else◌}
use Rattle.std.proofs.Common.{ap, sym, ◌∙◌}
use Rattle.alias_base.specs.declared.ids.IdentifierId.{IdentifierId}
use Rattle.alias_hir.specs.declared.error.Counter.TheVariants.{Diagnostics}
use Rattle.alias_hir.specs.declared.report.ReportId.{ReportId}
use Rattle.alias_hir.specs.declared.report.Interned.{Interned}
use Rattle.alias_hir.specs.declared.report.Report.{Report}
use Rattle.alias_tables.specs.declared.faults.Refusal.{Refusal}
use Rattle.alias_tables.specs.declared.faults.Refusal.TheVariants as refusal
use Rattle.alias_tables.specs.Steps.{◌>>=◌, and_then, gives, refuses, each, if_some, collect}
use Rattle.alias_tables.specs.Tables.{TableLists, Step, intern_report}
use Rattle.alias_call_effects.specs.Answers.{tables_with}

-- what a step gives of other tables, with those reports in these
abbrev pub onto : {A : Type 0} → TableLists → Result (A × TableLists) Refusal → Result (A × TableLists) Refusal
onto t (Ok p) = Ok (p.0, record t { reports = p.1.reports })
onto t (Err c) = Err c

-- the step reads the reports alone, and changes nothing else
abbrev pub ReadsReports : {A : Type 0} → Step A → Type 0
ReadsReports f = (t : TableLists) → f t ≡ onto t (f (tables_with t.reports))

pub reads_gives : {A : Type 0} (x : A) → ReadsReports (gives x)
reads_gives x t = refl

pub reads_refuses : {A : Type 0} (c : Refusal) → ReadsReports {A = A} (refuses c)
reads_refuses c t = refl

onto_again : {A : Type 0} (t u : TableLists) (r : Result (A × TableLists) Refusal)
    → onto (record t { reports = u.reports }) r ≡ onto t (onto u r)
onto_again t u (Ok p) = refl
onto_again t u (Err c) = refl

reads_next : {A B : Type 0} (t : TableLists) (r : Result (A × TableLists) Refusal) (g : A → Step B)
    → ((x : A) → ReadsReports (g x)) → and_then (onto t r) g ≡ onto t (and_then r g)
reads_next t (Ok p) g h = h p.0 (record t { reports = p.1.reports })
    ∙ onto_again t p.1 (g p.0 (tables_with p.1.reports)) ∙ ap (onto t) (sym (h p.0 p.1))
reads_next t (Err c) g h = refl

pub reads_then : {A B : Type 0} (f : Step A) (g : A → Step B) → ReadsReports f → ((x : A) → ReadsReports (g x))
    → ReadsReports (f >>= g)
reads_then {A} f g hf hg t = ap (λ (r : Result (A × TableLists) Refusal). and_then r g) (hf t)
    ∙ reads_next t (f (tables_with t.reports)) g hg

pub reads_if : {A : Type 0} (b : Bool) (f g : Step A) → ReadsReports f → ReadsReports g
    → ReadsReports (if b then f else g)
reads_if true f g hf hg = hf
reads_if false f g hf hg = hg

pub reads_each : {X A : Type 0} (f : X → A → Step A) → ((x : X) (a : A) → ReadsReports (f x a)) → (xs : List X) (a : A)
    → ReadsReports (each f xs a)
reads_each f h [] a = reads_gives a
reads_each f h (x ∷ xs) a = reads_then (f x a) (each f xs) (h x a) (reads_each f h xs)

reads_if_some : {A B : Type 0} (o : Option A) (f : A → Step (Option B)) → ((x : A) → ReadsReports (f x))
    → ReadsReports (if_some o f)
reads_if_some None f h = reads_gives None
reads_if_some (Some x) f h = h x

pub reads_collect : {X A : Type 0} (f : X → A → Step (Option A)) → ((x : X) (a : A) → ReadsReports (f x a))
    → (xs : List X) (a : A) → ReadsReports (collect f xs a)
reads_collect f h [] a = reads_gives (Some a)
reads_collect f h (x ∷ xs) a = reads_then (f x a) (λ o. if_some o (collect f xs)) (h x a)
    (λ o. reads_if_some o (collect f xs) (reads_collect f h xs))

report_if : (b : Bool) (d : ReportId) (es : List Interned) (t : TableLists)
    → (if b then Ok (d, record t { reports = es }) else Err (refusal.TooMany Diagnostics))
    ≡ onto t (if b then Ok (d, tables_with es) else Err (refusal.TooMany Diagnostics))
report_if true d es t = refl
report_if false d es t = refl

pub reads_report : (id : IdentifierId) (r : Report) → ReadsReports (intern_report id r)
reads_report id r t = report_if _ _ _ t
