-- What the items of a function do on the heap, and what is done along blocks. `all` are the places that the function
-- makes: no other place ever holds an object.
use Rattle.std.specs.Prelude.{Bool, List, [], ◌∷◌, Option, Some, None, if◌then◌else◌}
use Rattle.alias_base.specs.declared.ids.BlockId.{BlockId}
use Rattle.alias_base.specs.declared.ids.IdentifierId.{IdentifierId}
use Rattle.alias_base.specs.Find.{value_at}
use Rattle.alias_hir.specs.declared.effect.AliasingEffect.{AliasingEffect}
use Rattle.alias_hir.specs.declared.effect.AliasingEffect.TheVariants as effect
use Rattle.alias_hir.specs.declared.hir.BasicBlock.{BasicBlock}
use Rattle.alias_hir.specs.declared.hir.HirFunction.{HirFunction}
use Rattle.alias_hir.specs.declared.place.Place.{Place}
use Rattle.alias_ranges.specs.heap.Items.{Item, Starts, Enters, Does, Ends, start_items, block_items}
use Rattle.alias_ranges.specs.heap.Making.{made_places, is_among}
use Rattle.alias_ranges.specs.heap.Heap.{New, NewFrom, Copies, Clears, Adds, StoresInto, History}

-- x also holds what a holds, where it can hold anything
abbrev pub widened : Bool → IdentifierId → IdentifierId → History → History
widened can_hold a x h = if can_hold then Adds a x ∷ h else h

abbrev pub after_effect : List IdentifierId → AliasingEffect → History → History
after_effect all (effect.Create x value reason) h = New x.identifier ∷ h
after_effect all (effect.CreateFunction x f captures) h = New x.identifier ∷ h
after_effect all (effect.CreateFrom a x) h = NewFrom a.identifier x.identifier ∷ h
after_effect all (effect.Assign a x) h = Copies a.identifier x.identifier ∷ h
after_effect all (effect.Alias a x) h = widened (is_among all x.identifier) a.identifier x.identifier h
after_effect all (effect.MaybeAlias a x) h = widened (is_among all x.identifier) a.identifier x.identifier h
after_effect all (effect.Capture a x) h = StoresInto a.identifier x.identifier ∷ h
after_effect all e h = h

-- the operand for the edge by which the block is entered
abbrev pub operand_by : Option BlockId → List (BlockId × Place) → Option Place
operand_by None operands = None
operand_by (Some p) operands = value_at operands p

-- a phi holds what its operand holds, and nothing where there is none
abbrev pub after_phi : Place → Option Place → History → History
after_phi x None h = Clears x.identifier ∷ h
after_phi x (Some a) h = Copies a.identifier x.identifier ∷ h

-- `from` is the block that the path comes from
abbrev pub after_item : List IdentifierId → Option BlockId → Item → History → History
after_item all from (Starts p) h = New p.identifier ∷ h
after_item all from (Enters phi) h = after_phi phi.place (operand_by from phi.operands) h
after_item all from (Does i order e) h = after_effect all e h
after_item all from (Ends a x) h = widened (is_among all x.identifier) a.identifier x.identifier h

abbrev pub after_items : List IdentifierId → Option BlockId → List Item → History → History
after_items all from [] h = h
after_items all from (it ∷ its) h = after_items all from its (after_item all from it h)

abbrev pub after_block : HirFunction → Option BlockId → Option BasicBlock → History → History
after_block f from None h = h
after_block f from (Some b) h = after_items (made_places f) from (block_items f b) h

-- after these blocks, one after the other
abbrev pub after_blocks : HirFunction → Option BlockId → List BlockId → History → History
after_blocks f from [] h = h
after_blocks f from (p ∷ ps) h = after_blocks f (Some p) ps (after_block f from (value_at f.body.blocks p) h)

abbrev pub last_of : Option BlockId → List BlockId → Option BlockId
last_of from [] = from
last_of from (p ∷ ps) = last_of (Some p) ps

-- after what is there from the start, the blocks `before`, and then `done` in the next one
abbrev pub history : HirFunction → List BlockId → List Item → History
history f before done = after_items (made_places f) (last_of None before) done
    (after_blocks f None before (after_items (made_places f) None (start_items f) []))
