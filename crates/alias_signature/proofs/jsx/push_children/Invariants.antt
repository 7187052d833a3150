use Rattle.std.proofs.Common.{◌≡◌, ◌++◌, take, map}
use Rattle.alias_hir.specs.declared.effect.AliasingEffect.TheVariants.{Render}
use Rattle.alias_signature.proofs.jsx.push_children.Given as goal

abbrev pub invariant-loop-child : goal.invariant-loop-child
invariant-loop-child l = l.effects ≡ l.initial.effects ++ map Render (take l.child-index l.children)
