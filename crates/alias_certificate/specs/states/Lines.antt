-- What a state has beyond another at the sites and identifiers of lines.
use Rattle.std.specs.Prelude.{List, [], ◌∷◌, Option, Some, None}
use Rattle.std.specs.List.{flat_map}
use Rattle.std.specs.FinMap.{find, put}
use Rattle.std.specs.declared.cmp.Ordering.{Ordering}
use Rattle.alias_base.specs.declared.ids.IdentifierId.{IdentifierId}
use Rattle.alias_lattice.specs.Keys.{id_cmp}
use Rattle.alias_lattice.specs.SiteOrder.{site_cmp}
use Rattle.alias_lattice.specs.States.{State, Sites, empty_state}
use Rattle.alias_certificate.specs.declared.beyond.Beyond.{Beyond}
use Rattle.alias_certificate.specs.declared.certificate.CertBlock.{CertBlock}
use Rattle.alias_certificate.specs.declared.certificate.CertVariable.{CertVariable}
use Rattle.alias_certificate.specs.states.Beyond.{more_value, more_variables}
use Rattle.alias_certificate.specs.states.States.{with_values, with_sites}

-- what f makes of the entry at the key, if there is one
abbrev pub at_key : {K X V : Type 0} → (K × X → List V) → K → Option X → List V
at_key f k None = []
at_key f k (Some x) = f (k, x)

-- what f makes of the entries of a list at the keys of another
abbrev pub at_keys : {K X Y V : Type 0} → (K → K → Ordering) → (K × X → List V) → List (K × X) → List (K × Y) → List V
at_keys R f es ls = flat_map (λ l. at_key f l.0 (find R l.0 es)) ls

-- the identifiers have these sets, the last of an identifier
abbrev pub with_sets : List CertVariable → List (IdentifierId × Sites) → List (IdentifierId × Sites)
with_sets [] m = m
with_sets (x ∷ xs) m = with_sets xs (put id_cmp x.identifier (with_sites x.sites []) m)

-- what the state has beyond the old one at the sites of the block's lines, and what the sets of its lines have
abbrev pub beyond_at : CertBlock → State → State → Beyond
beyond_at b s old = record {
  values = at_keys site_cmp (more_value old) s.values (with_values b.values empty_state).values;
  variables = more_variables old (with_sets b.variables []);
}
