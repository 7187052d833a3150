-- What the handlers of `Try`s bind.
use Rattle.std.specs.Prelude.{ℕ, List, [], Option, None, Some}
use Rattle.std.specs.List.{fold}
use Rattle.alias_base.specs.declared.ids.BlockId.{BlockId}
use Rattle.alias_hir.specs.declared.hir.BasicBlock.{BasicBlock}
use Rattle.alias_hir.specs.declared.hir.HirFunction.{HirFunction}
use Rattle.alias_hir.specs.declared.place.Place.{Place}
use Rattle.alias_hir.specs.declared.terminal.Terminal.{Terminal}
use Rattle.alias_hir.specs.declared.terminal.Terminal.TheVariants.{Try}
use Rattle.alias_facts.specs.Numbers.{value_of, with_value}

-- the bindings of handlers, in ascending order
abbrev pub Bindings : Type 0
Bindings = List (ℕ × Place)

-- what the handler binds
abbrev pub binding_at : Bindings → BlockId → Option Place
binding_at hs b = value_of hs b.0

abbrev pub with_binding : Bindings → BlockId → Option Place → Bindings
with_binding hs b None = hs
with_binding hs b (Some p) = with_value hs b.0 p

-- after a terminal: a `Try` may bind a place in its handler
abbrev pub after_terminal : Bindings → Terminal → Bindings
after_terminal hs (Try id block handler handler_binding) = with_binding hs handler handler_binding
after_terminal hs t = hs

abbrev pub after_entry : Bindings → BlockId × BasicBlock → Bindings
after_entry hs e = after_terminal hs e.1.terminal

-- the blocks in stored order
abbrev pub handler_bindings : HirFunction → Bindings
handler_bindings func = fold after_entry [] func.body.blocks
