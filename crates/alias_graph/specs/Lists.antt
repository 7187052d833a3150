-- A node's lists of links, as callers see them.
use Rattle.std.specs.Prelude.{ℕ, List, Option, Some, None, map, slice_get}
use Rattle.alias_graph.specs.declared.types.Link.{Link}
use Rattle.alias_graph.specs.declared.types.LinkList.{LinkList}
use Rattle.alias_graph.specs.declared.types.LinkList.TheVariants.{Forward, CreatedFrom, Captures, Aliases, MaybeAliases}
use Rattle.alias_graph.specs.Nodes.{Edge, Source, Node}

abbrev pub forward_link : Edge → Link
forward_link l = record { index = l.index; other = l.other; edge = Some l.kind }

abbrev pub backward_link : Source → Link
backward_link l = record { index = l.index; other = l.other; edge = None }

abbrev pub links_in : LinkList → Node → List Link
links_in Forward n = map forward_link n.forward
links_in CreatedFrom n = map backward_link n.created_from
links_in Captures n = map backward_link n.captures
links_in Aliases n = map backward_link n.aliases
links_in MaybeAliases n = map backward_link n.maybe_aliases

-- the link at a position of a list of the node, where both are there
abbrev pub link_in : Option Node → LinkList → ℕ → Option Link
link_in None list i = None
link_in (Some n) list i = slice_get (links_in list n) i
