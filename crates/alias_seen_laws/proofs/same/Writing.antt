-- What definite and conditional writes do is the same beside.
use Rattle.std.specs.Prelude.{◌≡◌, ◌++◌, List, ℕ, Option, Some, None, codes, refl, if◌then◌else◌}
use Rattle.std.proofs.Common.{ap, ◌∙◌}
use Rattle.alias_base.specs.declared.ids.IdentifierId.{IdentifierId}
use Rattle.alias_hir.specs.Types.{is_ref_at}
use Rattle.alias_hir.specs.declared.effect.AliasingEffect.{AliasingEffect}
use Rattle.alias_hir.specs.declared.effect.ValueKind.{ValueKind}
use Rattle.alias_hir.specs.declared.effect.ValueKind.TheVariants.{Primitive, Global, Frozen, Mutable, Context}
use Rattle.alias_hir.specs.declared.effect.ValueKind.TheVariants.{MaybeFrozen}
use Rattle.alias_hir.specs.declared.env.Environment.{Environment}
use Rattle.alias_hir.specs.declared.place.Place.{Place}
use Rattle.alias_hir.specs.declared.place.Span.{Span}
use Rattle.alias_hir.specs.declared.report.Report.{Report}
use Rattle.alias_lattice.specs.States.{lookup}
use Rattle.alias_lattice.specs.declared.value.AbstractValue.{AbstractValue}
use Rattle.alias_tables.specs.Steps.{gives}
use Rattle.alias_tables.specs.Tables.{Step}
use Rattle.alias_apply.specs.Contexts.{StepContext, access_to, hoisted_access}
use Rattle.alias_apply.specs.Kinds.{is_frozen, is_writable}
use Rattle.alias_apply.specs.Mutation.{intern_and_apply_mutate_frozen, intern_and_apply_mutate_global, report_write}
use Rattle.alias_apply.specs.Mutation.{report_hoisted_write, record_mutation, apply_mutate, apply_mutate_conditionally}
use Rattle.alias_apply.specs.Progress.{record_of, looked_up_with_span, kind_at}
use Rattle.alias_apply.specs.Reports.{named, labels_at, access_labels, access_span, write_report, hoisting_report}
use Rattle.alias_apply.specs.declared.progress.StepProgress.{StepProgress}
use Rattle.alias_seen_laws.specs.Beside.{Others, with_others, DeclareSame}
use Rattle.alias_seen_laws.proofs.same.Identifiers.{declaration_same, named_same, ref_same}

-- the context of steps over the environment beside
abbrev pub beside : StepContext → Others → StepContext
beside c o = record c { env = with_others c.env o }

-- ---- reports

module _ (env : Environment) (z : Others) (same : DeclareSame env z) (id : IdentifierId) where
  names : (other : List ℕ) → named (with_others env z) id other ≡ named env id other
  names other = named_same env z same id other

  pub write_report_same : (span : Option Span) (reasons : ℕ)
      → write_report (with_others env z) id span reasons ≡ write_report env id span reasons
  write_report_same span reasons =
      ap (λ (name : List ℕ). record (write_report env id span reasons)
      { labels = labels_at span (Some (name ++ codes " cannot be modified")) }) (names (codes "value"))

  pub hoisting_report_same : (span : Option Span) (access : Option Place)
      → hoisting_report (with_others env z) id span access ≡ hoisting_report env id span access
  hoisting_report_same span access = λ i. record (hoisting_report env id span access) {
    help = Some (names (codes "This variable") i
        ++ codes
        " is accessed before it is declared, which prevents the earlier access from updating when this value changes over time");
    labels = access_labels (access_span access) span
        (names (codes "variable") i ++ codes " accessed before it is declared")
        ++ labels_at span (Some (names (codes "variable") i ++ codes " is declared here"));
  }

-- ---- writes

module _ (c : StepContext) (z : Others) (same : DeclareSame c.env z) where
  abbrev d : StepContext
  d = beside c z

  hoisted_same : (id : IdentifierId) → hoisted_access d id ≡ hoisted_access c id
  hoisted_same id = ap (access_to c.hoisted) (declaration_same c.env z same id)

  report_same : (there : AbstractValue) (v : Place) (s : StepProgress) → report_write d there v s
      ≡ report_write c there v s
  report_same there v s =
      ap (λ (r : Report). if is_frozen there.kind then intern_and_apply_mutate_frozen r v s
      else intern_and_apply_mutate_global r v s) (write_report_same c.env z same v.identifier v.span there.reason)

  hoisted_report_same : (o : Option (Option Place)) (there : AbstractValue) (v : Place) (s : StepProgress)
      → report_hoisted_write d o there v s ≡ report_hoisted_write c o there v s
  hoisted_report_same (Some access) there v s =
      ap (λ (r : Report). intern_and_apply_mutate_frozen r v s)
      (hoisting_report_same c.env z same v.identifier v.span access)
  hoisted_report_same None there v s = report_same there v s

  at_hoisted : (there : AbstractValue) (v : Place) (s : StepProgress)
      → report_hoisted_write d (hoisted_access d v.identifier) there v s
      ≡ report_hoisted_write c (hoisted_access c v.identifier) there v s
  at_hoisted there v s =
      ap (λ (o : Option (Option Place)). report_hoisted_write d o there v s) (hoisted_same v.identifier)
      ∙ hoisted_report_same (hoisted_access c v.identifier) there v s

  mutation_same : (k : ValueKind) (there : AbstractValue) (e : AliasingEffect) (v : Place) (s : StepProgress)
      → record_mutation d k there e v s ≡ record_mutation c k there e v s
  mutation_same Mutable there e v s = refl
  mutation_same Context there e v s = refl
  mutation_same Primitive there e v s = refl
  mutation_same Frozen there e v s = at_hoisted there v s
  mutation_same MaybeFrozen there e v s = at_hoisted there v s
  mutation_same Global there e v s = report_same there v s

  pub mutate_same : (e : AliasingEffect) (v : Place) (s : StepProgress) → apply_mutate d e v s ≡ apply_mutate c e v s
  mutate_same e v s =
      ap (λ b. if b then gives s
      else record_mutation d (kind_at v s) (lookup s.state v.identifier) e v (looked_up_with_span v s))
      (ref_same c.env z same v.identifier)
      ∙ ap (λ (q : Step StepProgress). if is_ref_at c.env v.identifier then gives s else q)
      (mutation_same (kind_at v s) (lookup s.state v.identifier) e v (looked_up_with_span v s))

  pub condition_same : (e : AliasingEffect) (v : Place) (s : StepProgress)
      → apply_mutate_conditionally d e v s ≡ apply_mutate_conditionally c e v s
  condition_same e v s =
      ap (λ b. if b then s else (if is_writable (kind_at v s) then record_of e (looked_up_with_span v s)
      else looked_up_with_span v s)) (ref_same c.env z same v.identifier)
