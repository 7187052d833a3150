-- A state that the lines of a block raise.
use Rattle.std.specs.Prelude.{ℕ, Bool, ◌&&◌, if◌then◌else◌, List, Option, None, option_map}
use Rattle.std.specs.List.{list_all}
use Rattle.alias_base.specs.declared.ids.FunctionId.{FunctionId}
use Rattle.alias_lattice.specs.States.{State, empty_state, state_join}
use Rattle.alias_certificate.specs.declared.certificate.CertBlock.{CertBlock}
use Rattle.alias_certificate.specs.declared.certificate.CertValue.{CertValue}
use Rattle.alias_certificate.specs.declared.certificate.CertVariable.{CertVariable}
use Rattle.alias_certificate.specs.states.States.{is_site_there, with_values, with_variables}

-- the value of each site of a line is joined with the line's, or is the line's where the state has none
abbrev pub values_raised : List CertValue → State → State
values_raised vs s = state_join s (with_values vs empty_state)

-- each identifier of a line has the line's sites besides its own; None where one names what isn't there
abbrev pub variables_raised : ℕ → List CertVariable → State → Option State
variables_raised identifiers xs s = option_map (state_join s) (with_variables identifiers xs s)

-- the sites that the lines of identifiers name are there
abbrev pub are_sites_named : ℕ → List FunctionId → List CertVariable → Bool
are_sites_named identifiers created xs =
    list_all (λ (x : CertVariable). list_all (λ k. is_site_there identifiers created k) x.sites) xs

-- the state that the block's lines raise the given one to; None where they name what isn't there: an identifier that
-- isn't below the number, a function that isn't created, no site, or a site without a value
abbrev pub raised_state : ℕ → List FunctionId → CertBlock → State → Option State
raised_state identifiers created b s =
    if list_all (λ (v : CertValue). is_site_there identifiers created v.site) b.values
    && are_sites_named identifiers created b.variables
    then variables_raised identifiers b.variables (values_raised b.values s)
    else None
