use Rattle.std.proofs.Common.{[], ap, sym, ◌∙◌}
use Rattle.alias_certificate.specs.states.States.{with_sites}
use Rattle.alias_certificate.proofs.states.Valued.{variable_is_valued}
use Rattle.alias_certificate.proofs.states.define_variables.Goals as goal

pub define_all-requires : goal.define_all-requires
define_all-requires c =
    variable_is_valued c.args.identifiers c.loop-variable.state c.variable-item.result c.in_ok-sites.sites
    (c.in_ok-sites.ensures ∙ ap (λ ks. with_sites ks []) c.as_slice.ensures)
    (sym c.if-not-is_variable_there.ensures)
