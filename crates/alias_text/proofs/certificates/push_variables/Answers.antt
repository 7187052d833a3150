use Rattle.std.proofs.Common.{◌++◌, ap, subst}
use Rattle.std.specs.List.{AllByRecursion, flat_map}
use Rattle.alias_lattice.specs.KeyLaws.{ids_total}
use Rattle.alias_lattice.specs.Keys.{id_cmp}
use Rattle.alias_text.specs.Certificates.{variable_line}
use Rattle.alias_text.specs.Fitting.{SmallVariable}
use Rattle.alias_lattice.specs.WalkLaws.{left-none, left_fewer}
use Rattle.alias_text.proofs.Walks.{still_complete, still_all, now_complete, now_all}
use Rattle.alias_text.proofs.certificates.push_variables.Goals as goal

pub variables-init : goal.variables-init
variables-init c =
    let all = left-none id_cmp c.args.state.now.variables in
    (ap (λ l. c.args.out.now ++ flat_map variable_line l) all, λ h. subst (AllByRecursion SmallVariable) all h)

pub variables-smaller : goal.variables-smaller
variables-smaller c = left_fewer id_cmp ids_total c.variables.after c.args.state.now.variables
    (c.in-Some.id, c.in-Some.sites.now) c.in-Some.ensures c.recall_proper.ensures.variables.0

pub variables-preserved : goal.variables-preserved
variables-preserved c =
    let all = c.args.out.now ++ flat_map variable_line c.args.state.now.variables in (
      still_complete id_cmp ids_total variable_line all c.variables.out c.push_variable_line.new.out c.variables.after
          c.args.state.now.variables (c.in-Some.id, c.in-Some.sites.now) c.in-Some.ensures
          c.recall_proper.ensures.variables.0 c.in_ok-push_variable_line.ensures.text c.variables.invariant.0,
      still_all id_cmp ids_total SmallVariable c.variables.after c.args.state.now.variables
          (c.in-Some.id, c.in-Some.sites.now) c.in-Some.ensures c.recall_proper.ensures.variables.0
          c.in_ok-push_variable_line.ensures.fits c.variables.invariant.1,
    )

pub returns-clause-text : goal.returns-clause-text
returns-clause-text c =
    let all = c.args.out.now ++ flat_map variable_line c.args.state.now.variables in
    now_complete id_cmp variable_line all c.variables.out c.variables.after c.args.state.now.variables
    c.in_default.ensures c.variables.invariant.0

pub returns-clause-fits : goal.returns-clause-fits
returns-clause-fits c = now_all id_cmp SmallVariable c.variables.after c.args.state.now.variables c.in_default.ensures
    c.variables.invariant.1
