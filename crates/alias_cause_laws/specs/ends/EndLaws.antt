-- A range whose end the range pass changes is of an identifier that the function names, or that its effects make.
use Rattle.std.specs.Prelude.{◌≡◌, ℕ, Bool, true, false, List, Ok}
use Rattle.std.proofs.Common.{⊎_elim, sym, ◌∙◌}
use Rattle.alias_graph.specs.recorded.BlockListings.{listed}
use Rattle.alias_graph.specs.recorded.Fitting.{AllOf}
use Rattle.alias_graph.specs.recorded.Recording.{graph_listed}
use Rattle.alias_graph.specs.declared.recorded.listing.Listing.{Listing}
use Rattle.alias_hir.specs.declared.env.Environment.{Environment}
use Rattle.alias_hir.specs.declared.env.Identifier.{Identifier}
use Rattle.alias_hir.specs.declared.hir.HirFunction.{HirFunction}
use Rattle.alias_hir.specs.declared.hir.Instruction.{Instruction}
use Rattle.alias_range_pass.specs.Laws.{Causes}
use Rattle.alias_graph.specs.Reach.{end_at}
use Rattle.alias_visit.specs.Places.{places_in}
use Rattle.alias_cause_laws.specs.ends.Making.{EffectsMake, ends_named}
use Rattle.alias_cause_laws.specs.ends.Owned.{AllOwned, makes_owned}

-- a test holds of each identifier of the function's places, and of each that its effects make
pub record Tested (has : ℕ → Bool) (env : Environment) (f : HirFunction) : Type 0 where
  pub places : AllOwned (λ n. has n ≡ true) (places_in env f)
  pub effects : AllOf (λ (i : Instruction). EffectsMake (λ n. has n ≡ true) i.effects) f.instructions

-- where it holds not, the end stays
pub ends_stay : (has : ℕ → Bool) (env : Environment) (f : HirFunction) (l : Listing) (old new : List Identifier) (k : ℕ)
    → Tested has env f → listed f ≡ Ok l → Causes (graph_listed l) l.mutations f.instructions old new → has k ≡ false
    → end_at new k ≡ end_at old k
ends_stay has env f l old new k t is causes off =
    ⊎_elim (λ same. same) (λ on. let no : true ≡ false = sym on ∙ off in absurd (cc))
    (ends_named (λ n. has n ≡ true) f l old new (makes_owned (λ n. has n ≡ true) env f t.places t.effects) is causes k)
