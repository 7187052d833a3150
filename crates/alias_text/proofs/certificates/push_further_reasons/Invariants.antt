use Rattle.std.proofs.Common.{◌≡◌, ◌++◌, codes}
use Rattle.std.specs.List.{flat_map}
use Rattle.alias_hir.specs.declared.effect.ValueReason.{ValueReason}
use Rattle.alias_text.specs.Lines.{reason_word}
use Rattle.alias_text.proofs.certificates.push_further_reasons.Given as goal

-- the reasons that are left complete the text
abbrev pub invariant-loop-reason : goal.invariant-loop-reason
invariant-loop-reason l =
    l.out ++ flat_map (λ (r : ValueReason). codes "+" ++ reason_word r) l.reason-iterator
    ≡ l.initial.out ++ flat_map (λ (r : ValueReason). codes "+" ++ reason_word r) l.fn.members
