use Rattle.std.proofs.Common.{◌++◌, ◌∙◌, ap, None}
use Rattle.alias_lattice.specs.KeyLaws.{ids_total}
use Rattle.alias_lattice.specs.Keys.{id_cmp}
use Rattle.alias_lattice.specs.WalkLaws.{left_after, left-none, left_fewer}
use Rattle.alias_certificate.specs.states.Beyond.{more_variable, more_variables}
use Rattle.alias_certificate.proofs.beyond.Walking.{still_found, now_found}
use Rattle.alias_certificate.proofs.raised.sites_of_sets.Goals as goal

pub variables-init : goal.variables-init
variables-init c =
    ap (λ m. m ++ more_variables c.args.old.now (left_after id_cmp None c.args.sets.now)) c.new-more.ensures
    ∙ ap (more_variables c.args.old.now) (left-none id_cmp c.args.sets.now)

pub variables-smaller : goal.variables-smaller
variables-smaller c = left_fewer id_cmp ids_total c.variables.after c.args.sets.now
    c.in-Some.entry.now c.in-Some.ensures c.recall_proper.ensures.0

pub variables-preserved : goal.variables-preserved
variables-preserved c = still_found id_cmp (more_variable c.args.old.now) ids_total
    (more_variables c.args.old.now c.args.sets.now) c.variables.more c.push_more_variable.new.more
    c.variables.after c.args.sets.now c.in-Some.entry.now c.in-Some.ensures
    c.recall_proper.ensures.0 c.in_ok-push_more_variable.ensures c.variables.invariant

pub returns : goal.returns
returns c = now_found id_cmp (more_variable c.args.old.now) (more_variables c.args.old.now c.args.sets.now)
    c.variables.more c.variables.after c.args.sets.now c.in_default.ensures c.variables.invariant
