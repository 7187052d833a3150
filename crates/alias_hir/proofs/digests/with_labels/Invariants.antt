use Rattle.std.proofs.Common.{◌≡◌, drop}
use Rattle.alias_hir.specs.Digests.{with_labels}
use Rattle.alias_hir.proofs.digests.with_labels.Given as goal

abbrev pub invariant-loop-label : goal.invariant-loop-label
invariant-loop-label l = with_labels l.digest l.labels ≡ with_labels l.mixed_in (drop l.label-index l.labels)
