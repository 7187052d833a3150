use Rattle.std.proofs.Common.{◌≡◌, ◌++◌, drop}
use Rattle.std.specs.Prelude.{map}
use Rattle.alias_hir.specs.declared.place.Place.{Place}
use Rattle.alias_hir.specs.declared.effect.AliasingEffect.TheVariants.{Capture}
use Rattle.alias_calls.proofs.legacy.push_captures.Given as goal

-- the captures so far, and those that are left
abbrev pub invariant-loop-into : goal.invariant-loop-into
invariant-loop-into l = l.out ++ map (λ (q : Place). Capture l.from q) (drop l.into-index l.stored) ≡ l.initial.out
    ++ map (λ (q : Place). Capture l.from q) l.stored
