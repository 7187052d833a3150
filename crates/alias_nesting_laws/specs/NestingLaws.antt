-- The inference takes a function that another one creates, once it is out of its slot.
use Rattle.std.specs.Prelude.{◌≡◌, ℕ, true, [], slice_get, Some, None, Ok, refl}
use Rattle.std.specs.Option.{option_map_or}
use Rattle.std.proofs.Common.{ap, sym, ◌∙◌, subst}
use Rattle.alias_base.specs.declared.ids.FunctionId.{FunctionId}
use Rattle.alias_hir.specs.declared.env.Environment.{Environment}
use Rattle.alias_hir.specs.declared.hir.HirFunction.{HirFunction}
use Rattle.alias_rules.specs.function_rules.Rules.{is_among}
use Rattle.alias_rules.specs.Fitting.{effects_fit, function_fits}
use Rattle.alias_rules.specs.Functions.{rule_holds, of_function}
use Rattle.alias_rules.specs.Nesting.{created_in, created_at}
use Rattle.alias_rules.specs.declared.rules.Rule.{Rule}
use Rattle.alias_nesting_laws.specs.ClosureLaws.{Among, Closed, tree_closed}
use Rattle.alias_nesting_laws.specs.FittingLaws.{is_asked, Fitted, fitted, fits_of_parts}
use Rattle.alias_nesting_laws.specs.PartLaws.{part_among}
use Rattle.alias_nesting_laws.specs.RootLaws.{rule_of_root}
use Rattle.alias_nesting_laws.specs.SeparateLaws.{still_apart}
use Rattle.alias_nesting_laws.specs.Slots.{with_function}
use Rattle.alias_nesting_laws.specs.StandInLaws.{standing, rule_same, at_same, creates_same, effects_kept}
use Rattle.alias_nesting_laws.specs.StandInLaws.{effects_at_kept}
use Rattle.alias_nesting_laws.specs.SubtreeLaws.{apart_from, Subtree, subtree, created_among}

module _ (env : Environment) (holder f stand_in : HirFunction) (id : FunctionId) (fits : Fitted holder env)
    (named : is_among (created_in holder) id.0 ≡ true) (there : slice_get env.functions id.0 ≡ Some f)
    (bare : stand_in.aliasing_effects ≡ None) where
  abbrev below_it : Subtree 63 (standing env id stand_in) [] (created_in f) fits.below id.0
  below_it = subtree env id stand_in holder f fits.below fits.tree named there

  within : is_among fits.below id.0 ≡ true
  within = created_among env holder fits.below fits.tree id.0 named

  other : (k : ℕ) → is_among below_it.below k ≡ true → k ≡ id.0 → ⊥
  other k h = apart_from below_it.below k id.0 h below_it.left_out

  -- what is below the function is closed
  closed_there : Closed (standing env id stand_in) [] (created_in f) below_it.below
  closed_there = tree_closed (standing env id stand_in) 63 [] (created_in f) below_it.below below_it.tree

  closed : (k : ℕ) → is_among below_it.below k ≡ true → Among below_it.below (created_at env k)
  closed k h = subst (λ zs. Among below_it.below zs) (creates_same env id stand_in k (other k h))
      (closed_there.closed k h refl)

  own_rule : (r : Rule) → is_asked r ≡ true → rule_holds r (standing env id stand_in) None f ≡ Ok tt
  own_rule r i = rule_same env id stand_in r None f
      ∙ rule_of_root id r env f (sym (ap (of_function r env id.0) there) ∙ fits.rule_below r i id.0 within)

  own_effects : effects_fit (standing env id stand_in) f ≡ true
  own_effects = effects_kept env id stand_in f there bare f
      (sym (ap (λ o. option_map_or (effects_fit env) o true) there) ∙ fits.effects_below id.0 within)

  fitted_there : Fitted f (standing env id stand_in)
  fitted_there = record {
    below = below_it.below;
    tree = below_it.tree;
    tables = fits.tables;
    types = fits.types;
    signatures = fits.signatures;
    reports = fits.reports;
    rule = own_rule;
    rule_below = λ r i k h. at_same env id stand_in r k (other k h)
        ∙ fits.rule_below r i k (part_among below_it.part k h);
    apart = still_apart env id stand_in below_it.below closed below_it.left_out holder f fits.below there
        closed_there.has_level (part_among below_it.part) within fits.apart;
    effects = own_effects;
    effects_below = λ k h. effects_at_kept env id stand_in f there bare k (other k h)
        (fits.effects_below k (part_among below_it.part k h));
  }

-- the inference takes a function that another one creates, once it is out of its slot, where a function without a
-- summary stands meanwhile
pub taken_out_fits : (env : Environment) (holder f stand_in : HirFunction) (id : FunctionId) → function_fits holder env
    ≡ true → is_among (created_in holder) id.0 ≡ true → slice_get env.functions id.0 ≡ Some f
    → stand_in.aliasing_effects ≡ None → function_fits f (with_function id stand_in env) ≡ true
taken_out_fits env holder f stand_in id h named there bare =
    fits_of_parts f (with_function id stand_in env)
    (fitted_there env holder f stand_in id (fitted holder env h) named there bare)
