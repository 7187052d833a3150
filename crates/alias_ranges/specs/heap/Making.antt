-- Which places a function makes, and in which order it makes them.
use Rattle.std.specs.Prelude.{Bool, true, not, ◌&&◌, ◌||◌, List, [], ◌∷◌, Option, Some, None}
use Rattle.std.specs.List.{list_any, filter_map}
use Rattle.alias_base.specs.declared.ids.IdentifierId.{IdentifierId}
use Rattle.alias_hir.specs.declared.effect.AliasingEffect.{AliasingEffect}
use Rattle.alias_hir.specs.declared.effect.AliasingEffect.TheVariants as effect
use Rattle.alias_hir.specs.declared.hir.HirFunction.{HirFunction}
use Rattle.alias_graph.specs.Nodes.{same_id}
use Rattle.alias_graph.specs.recorded.Fitting.{effect_makes}
use Rattle.alias_ranges.specs.heap.Items.{Item, Starts, Enters, Does, Ends, all_items}

-- the place that an item makes
abbrev pub item_makes : Item → Option IdentifierId
item_makes (Starts p) = Some p.identifier
item_makes (Enters phi) = Some phi.place.identifier
item_makes (Does i order e) = effect_makes e
item_makes (Ends a x) = None

-- the place that an effect makes hold more, besides what it holds already
abbrev pub effect_widens : AliasingEffect → Option IdentifierId
effect_widens (effect.Alias a x) = Some x.identifier
effect_widens (effect.MaybeAlias a x) = Some x.identifier
effect_widens e = None

abbrev pub item_widens : Item → Option IdentifierId
item_widens (Starts p) = None
item_widens (Enters phi) = None
item_widens (Does i order e) = effect_widens e
item_widens (Ends a x) = Some x.identifier

-- all places that the function makes
abbrev pub made_places : HirFunction → List IdentifierId
made_places f = filter_map item_makes (all_items f)

abbrev pub is_among : List IdentifierId → IdentifierId → Bool
is_among ids x = list_any (same_id x) ids

-- with the place that an item makes
abbrev pub with_made : Option IdentifierId → List IdentifierId → List IdentifierId
with_made None done = done
with_made (Some x) done = x ∷ done

-- it isn't made already
abbrev pub may_make : List IdentifierId → Option IdentifierId → Bool
may_make done None = true
may_make done (Some x) = not (is_among done x)

-- it is made already, or nowhere
abbrev pub may_widen : List IdentifierId → List IdentifierId → Option IdentifierId → Bool
may_widen all done None = true
may_widen all done (Some x) = is_among done x || not (is_among all x)

-- where `done` are made before: each item makes a place that isn't made already, and widens none that is made later
abbrev pub makes_in_order : List IdentifierId → List IdentifierId → List Item → Bool
makes_in_order all done [] = true
makes_in_order all done (it ∷ its) = (may_make done (item_makes it) && may_widen all done (item_widens it))
    && makes_in_order all (with_made (item_makes it) done) its

-- each place is made at most once, and is made before another is aliased into it, in stored order
abbrev pub makes_once : HirFunction → Bool
makes_once f = makes_in_order (made_places f) [] (all_items f)
