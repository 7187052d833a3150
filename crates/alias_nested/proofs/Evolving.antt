-- How the steps of an analysis change the environment, as the rules see it.
use Rattle.std.specs.Prelude.{◌≡◌, ◌==◌, Bool, true, false, if◌then◌else◌, List, [], ◌∷◌, Option, Some, None, Ok, map}
use Rattle.std.specs.Prelude.{slice_get, slice_set, refl}
use Rattle.std.specs.Option.{option_map_or}
use Rattle.std.proofs.Common.{ap, sym, ◌∙◌}
use Rattle.alias_base.specs.declared.ids.IdentifierId.{IdentifierId}
use Rattle.alias_fitting_laws.specs.bare.EvolvedLaws.{Evolves}
use Rattle.alias_fitting_laws.specs.bare.RangedLaws.{evolves_with_contexts}
use Rattle.alias_step_laws.specs.blocks.WrittenLaws.{tables_extended}
use Rattle.alias_effects.proofs.StillFits.{pass_end_within}
use Rattle.alias_effects.specs.Inference.{pass_end, end_tables, env_after}
use Rattle.alias_effects.specs.declared.output.PassEnd.{PassEnd}
use Rattle.alias_hir.specs.declared.env.Environment.{Environment}
use Rattle.alias_hir.specs.declared.hir.HirFunction.{HirFunction}
use Rattle.alias_hir.specs.declared.place.Effect.TheVariants.{Read}
use Rattle.alias_hir.specs.declared.place.Place.{Place}
use Rattle.alias_range_pass.specs.places.Keeping.{but_effect, but_context}
use Rattle.alias_range_pass.specs.places.StayLaws.{set_stays}
use Rattle.alias_rules.specs.Fitting.{function_fits}
use Rattle.alias_tables.specs.declared.reads.ContextRead.{ContextRead}
use Rattle.alias_tables.specs.declared.temporaries.Temporary.{Temporary}
use Rattle.alias_nested.specs.Order.{SameInSlots}
use Rattle.alias_tables.specs.write_back.WriteBack.{with_identifiers, read_place, with_context_read, with_read}
use Rattle.alias_tables.specs.write_back.WriteBack.{with_reads}

-- ---- the effects pass

read_stays : (b : Bool) (p : Place) → but_effect (if b then record p { effect = Read } else p) ≡ but_effect p
read_stays true p = refl
read_stays false p = refl

context_read_stays : (x : IdentifierId) (ps : List Place) → map but_effect (map (read_place x) ps) ≡ map but_effect ps
context_read_stays x [] = refl
context_read_stays x (p ∷ ps) = ap (λ z. z ∷ map but_effect (map (read_place x) ps))
    (read_stays (p.identifier.0 == x.0) p) ∙ ap (λ z. but_effect p ∷ z) (context_read_stays x ps)

read_contexts : (r : ContextRead) (fs : List HirFunction) (o : Option HirFunction) → slice_get fs r.function.0 ≡ o
    → map but_context (option_map_or (λ (f : HirFunction). slice_set fs r.function.0 (with_context_read r.place f)) o
    fs) ≡ map but_context fs
read_contexts r fs None h = refl
read_contexts r fs (Some f) h = set_stays but_context fs r.function.0 f (with_context_read r.place f) (sym h)
    (ap (λ z. record f { context = z }) (context_read_stays r.place f.context))

reads_contexts : (rs : List ContextRead) (fs : List HirFunction) → map but_context (with_reads rs fs)
    ≡ map but_context fs
reads_contexts [] fs = refl
reads_contexts (r ∷ rs) fs = reads_contexts rs (with_read r fs) ∙ read_contexts r fs (slice_get fs r.function.0) refl

identified : (ts : List Temporary) (env : Environment) → (with_identifiers ts env).functions ≡ env.functions
identified [] env = refl
identified (t ∷ ts) env = identified ts _

-- the effects pass changes of the functions in their slots the effects of context places alone
pub passed_contexts : (env : Environment) (e : PassEnd) → SameInSlots env (env_after env e)
passed_contexts env e =
    let t = end_tables e in
    reads_contexts t.reads (with_identifiers t.temporaries env).functions
    ∙ ap (map but_context) (identified t.temporaries env)

-- what the effects pass does to the environment
pub pass_evolves : (func : HirFunction) (env : Environment) (f : Bool) (e : PassEnd) → function_fits func env ≡ true
    → pass_end env func f ≡ Ok e → Evolves env (env_after env e)
pass_evolves func env f e h i = evolves_with_contexts env (env_after env e)
    (tables_extended env (end_tables e) (pass_end_within func env f e h i)).wider (passed_contexts env e)
