-- The passes on one function of a unit, over an environment that the analysis of others left.
use Rattle.std.specs.Prelude.{◌≡◌, ℕ, ◌<◌, ◌≤◌, ◌⊎◌, Bool, true, None, Ok, length}
use Rattle.std.specs.List.{AllByRecursion}
use Rattle.std.proofs.Common.{inl, inr, ⊎_elim, ap, sym, ◌∙◌, subst, arith}
use Rattle.std.proofs.lemmas.List.{length-map}
use Rattle.alias_base.specs.declared.ids.IdentifierId.{IdentifierId}
use Rattle.alias_fitting_laws.specs.bare.Bare.{bare}
use Rattle.alias_fitting_laws.specs.bare.BareLaws.{identifiers_of_bare, bare_of_context}
use Rattle.alias_effects.specs.Inference.{pass_end, env_after}
use Rattle.alias_effects.specs.Recording.{with_effects_of}
use Rattle.alias_effects.specs.declared.output.PassEnd.{PassEnd}
use Rattle.alias_rules.specs.function_rules.Rules.{is_among, function_is_uninferred}
use Rattle.alias_graph.specs.recorded.Recording.{graph_listed}
use Rattle.alias_hir.specs.declared.env.Environment.{Environment}
use Rattle.alias_hir.specs.declared.hir.HirFunction.{HirFunction}
use Rattle.alias_effects_laws.specs.naming.PassLaws.{SolvedNames, pass_names}
use Rattle.alias_nested.proofs.Keeping.{effects_keep}
use Rattle.alias_nested.specs.Fitting.{FunctionKept}
use Rattle.alias_nesting_laws.specs.FittingLaws.{fitted}
use Rattle.alias_range_pass.specs.Passes.{Ranged, range_pass}
use Rattle.alias_range_pass.specs.places.Keeping.{but_range, but_context}
use Rattle.alias_graph.specs.Legal.{Legal}
use Rattle.alias_graph.specs.Reach.{end_at}
use Rattle.alias_graph.specs.declared.types.Entry.{Entry}
use Rattle.alias_rules.specs.Fitting.{function_fits}
use Rattle.alias_rules.specs.Sharing.{context_at}
use Rattle.alias_visit.specs.Places.{places_in, identifiers_in}
use Rattle.alias_inferred_laws.proofs.inferred.Ranging.{PassLeaves, pass_leaves}
use Rattle.alias_cause_laws.specs.ends.Making.{FunctionMakes, ends_named, legal_named}
use Rattle.alias_cause_laws.specs.ends.Owned.{AllOwned, all_there, by_numbers, numbers_owned, owned_across, makes_owned}
use Rattle.alias_cause_laws.proofs.causes.Alike.{AreAlike, effects_name}
use Rattle.alias_cause_laws.proofs.causes.Ends.{passed_ends, passed_length}
use Rattle.alias_cause_laws.proofs.causes.Recorded.{EffectsOwned, InstructionsOwned, TerminalsOwned, IsBelow}
use Rattle.alias_cause_laws.proofs.causes.Recorded.{named_owned, instructions_make, recorded_all, uninferred_owned}
use Rattle.alias_cause_laws.proofs.causes.Recorded.{fitting_below}

-- contexts name at most what they named in the unit
abbrev pub NamesLess : Environment → Environment → Type 0
NamesLess u env = (k x : ℕ) → is_among (context_at env k) x ≡ true → is_among (context_at u k) x ≡ true

-- Both passes ran on a function that the inference takes. It is that of the unit, but for the effects of its context
-- places, and contexts name at most what they
-- named in the unit.
pub record PassesRan (u : Environment) (g : HirFunction) (b : Bool) (env : Environment) (f : HirFunction) : Type 0 where
  pub fits : function_fits f env ≡ true
  pub same : but_context f ≡ but_context g
  pub less : NamesLess u env
  pub end : PassEnd
  pub ended : pass_end env f b ≡ Ok end
  pub ranged : Ranged
  pub ran : range_pass b (with_effects_of end.solved f) (env_after env end) ≡ Ok ranged

module _ (u : Environment) (g : HirFunction) (uninferred : function_is_uninferred g ≡ true) (b : Bool)
    (env : Environment) (f : HirFunction) (p : PassesRan u g b env f) where
  -- the function as its range pass begins, and the environment
  abbrev pub begun : HirFunction
  begun = with_effects_of p.end.solved f

  abbrev pub after : Environment
  after = env_after env p.end

  pub leaves : PassLeaves b begun after p.ranged
  leaves = pass_leaves b begun after p.ranged p.ran

  pub effects_kept : FunctionKept f env begun after
  effects_kept = effects_keep f env b p.end p.fits p.ended

  -- what stands in the function of the unit, or is new
  abbrev pub Named : ℕ → Type 0
  Named n = (is_among (identifiers_in u g) n ≡ true) ⊎ (length env.identifiers ≤ n)

  pub bare_same : bare f ≡ bare g
  bare_same = sym (bare_of_context f) ∙ ap bare p.same ∙ bare_of_context g

  -- what holds of what stands in the function of the unit holds of the places of a function that is the same but for
  -- what is inferred
  pub own_places : (P : ℕ → Type 0) (h : HirFunction) → ((x : ℕ) → is_among (identifiers_in u g) x ≡ true → P x)
      → bare h
      ≡ bare g → AllOwned P (places_in env h)
  own_places P h there e =
      let unit : AllOwned P (places_in u g) = by_numbers P (places_in u g) (all_there P (identifiers_in u g) there) in
      let own : AllByRecursion P (identifiers_in env g) =
      numbers_owned P (places_in env g) (owned_across P u env p.less g unit) in
      by_numbers P (places_in env h) (subst (AllByRecursion P) (sym (identifiers_of_bare env g h (sym e))) own)

  solved_names : SolvedNames env Named p.end.solved
  solved_names = pass_names env Named f b (λ n h. inr h) (own_places Named f (λ x m. inl m) bare_same) p.end p.ended

  carried : EffectsOwned Named f
  carried =
      let h : EffectsOwned Named g = uninferred_owned Named g uninferred in
      record {
        instructions = subst (InstructionsOwned Named) (sym (ap (λ (z : HirFunction). z.instructions) p.same))
            h.instructions;
        terminals = subst (TerminalsOwned Named) (sym (ap (λ (z : HirFunction). z.body.blocks) p.same)) h.terminals;
      }

  begun_effects : EffectsOwned Named begun
  begun_effects = recorded_all Named env p.end.solved f solved_names carried

  pub begun_bare : bare begun ≡ bare g
  begun_bare = effects_kept.still ∙ bare_same

  begun_makes : FunctionMakes Named begun
  begun_makes = makes_owned Named env begun (own_places Named begun (λ x m. inl m) begun_bare)
      (instructions_make Named begun.instructions begun_effects.instructions)

  -- what the function doesn't name keeps its end
  pub ends_stay : (n : ℕ) → (Named n → ⊥) → end_at p.ranged.after.1.identifiers n ≡ end_at env.identifiers n
  ends_stay n off =
      ⊎_elim (λ same. same ∙ passed_ends env p.end n) (λ on. absurd (off on))
      (ends_named Named begun leaves.listing after.identifiers p.ranged.after.1.identifiers begun_makes leaves.lists
      leaves.causes n)

  -- no identifier goes
  pub ranged_length : length p.ranged.after.1.identifiers ≡ length after.identifiers
  ranged_length =
      sym (length-map p.ranged.after.1.identifiers but_range)
      ∙ ap (λ (e : Environment). length e.identifiers) leaves.kept.rest ∙ length-map after.identifiers but_range

  pub more_length : length env.identifiers ≤ length p.ranged.after.1.identifiers
  more_length = let a = passed_length env p.end in let c = ranged_length in omega arith

  -- its effects name what is in the table
  begun_below : EffectsOwned (IsBelow after) begun
  begun_below = fitting_below after begun (fitted begun after effects_kept.fits).effects

  -- what its effects name stands in the function of the unit, or the pass added it
  pub effects_named : (id : IdentifierId) → effects_name id begun ≡ true → (is_among (identifiers_in u g) id.0 ≡ true)
      ⊎ ((length env.identifiers ≤ id.0) × (id.0 < length after.identifiers))
  effects_named id e = ⊎_elim (λ there. inl there)
      (λ new. inr (new, named_owned (IsBelow after) id begun begun_below e))
      (named_owned Named id begun begun_effects e)

  -- so does what a legal path leads to
  pub path_named : (index : ℕ) (start e : Entry)
      → ((x : ℕ) → is_among (identifiers_in u g) x ≡ true → x < length after.identifiers)
      → Legal (graph_listed leaves.listing) index start e
      → (is_among (identifiers_in u g) e.id.0 ≡ true)
      ⊎ ((length env.identifiers ≤ e.id.0) × (e.id.0 < length after.identifiers))
  path_named index start e there legal =
      let makes : FunctionMakes (IsBelow after) begun =
      makes_owned (IsBelow after) env begun (own_places (IsBelow after) begun there begun_bare)
      (instructions_make (IsBelow after) begun.instructions begun_below.instructions) in
      let below : e.id.0 < length after.identifiers =
      legal_named (IsBelow after) begun leaves.listing index start e makes leaves.lists legal in
      ⊎_elim (λ named. inl named) (λ new. inr (new, below))
      (legal_named Named begun leaves.listing index start e begun_makes leaves.lists legal)

  -- after the range pass the function is the same but for effects of places
  pub ranged_alike : AreAlike begun p.ranged.after.0
  ranged_alike = ap (λ (h : HirFunction). record h { aliasing_effects = None }) leaves.still
