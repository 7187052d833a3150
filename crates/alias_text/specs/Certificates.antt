-- The lines of `certify` that `infer` doesn't print: visits, entry states, interned effects and temporaries.
use Rattle.std.specs.Prelude.{ℕ, List, [], ◌∷◌, ◌++◌, codes}
use Rattle.std.specs.List.{flat_map, join_by}
use Rattle.std.specs.Fmt.{decimal}
use Rattle.json.specs.Print.{quoted}
use Rattle.alias_base.specs.declared.ids.BlockId.{BlockId}
use Rattle.alias_base.specs.declared.ids.IdentifierId.{IdentifierId}
use Rattle.alias_hir.specs.declared.effect.AliasingEffect.{AliasingEffect}
use Rattle.alias_hir.specs.declared.effect.ValueReason.{ValueReason}
use Rattle.alias_lattice.specs.Reasons.{reasons_in}
use Rattle.alias_lattice.specs.States.{State, Sites}
use Rattle.alias_lattice.specs.declared.site.Site.{Site}
use Rattle.alias_lattice.specs.declared.site.Site.TheVariants.{Parameter, Context, Created, CreatedFrom, Function}
use Rattle.alias_lattice.specs.declared.site.Site.TheVariants.{AssignFrozen, AssignCopy, Default}
use Rattle.alias_lattice.specs.declared.value.AbstractValue.{AbstractValue}
use Rattle.alias_tables.specs.declared.temp_key.TempKey.{TempKey}
use Rattle.alias_tables.specs.declared.temp_key.TempKey.TheVariants.{Named, Rest}
use Rattle.alias_tables.specs.declared.temporaries.Temporary.{Temporary}
use Rattle.alias_effects.specs.declared.solved.Solved.{Solved}
use Rattle.alias_text.specs.Lines.{kind_word, reason_word, spaced, effect_text}

-- ---- entry states

-- a form, and what it names in parentheses
abbrev pub form_text : List ℕ → List ℕ → List ℕ
form_text form names = form ++ codes "(" ++ names ++ codes ")"

-- two names
abbrev pub both_text : List ℕ → List ℕ → List ℕ
both_text first second = first ++ codes "," ++ second

abbrev pub two_ids : IdentifierId → IdentifierId → List ℕ
two_ids from into = both_text (decimal from.0) (decimal into.0)

abbrev pub site_text : Site → List ℕ
site_text (Parameter x) = form_text (codes "Parameter") (decimal x.0)
site_text (Context x) = form_text (codes "Context") (decimal x.0)
site_text (Created into kind reason) = form_text (codes "Created")
    (both_text (decimal into.0) (both_text (kind_word kind) (reason_word reason)))
site_text (CreatedFrom from into) = form_text (codes "CreatedFrom") (two_ids from into)
site_text (Function f) = form_text (codes "Function") (decimal f.0)
site_text (AssignFrozen from into) = form_text (codes "AssignFrozen") (two_ids from into)
site_text (AssignCopy from into) = form_text (codes "AssignCopy") (two_ids from into)
site_text (Default x) = form_text (codes "Default") (decimal x.0)

-- the reasons, joined by `+`, and `-` where there is none
abbrev pub reasons_text : List ValueReason → List ℕ
reasons_text [] = codes "-"
reasons_text (r ∷ rs) = join_by reason_word (codes "+") (r ∷ rs)

-- the site, and the kind and the reasons of its value
abbrev pub value_line : Site × AbstractValue → List ℕ
value_line e = codes "value " ++ site_text e.0 ++ codes " " ++ kind_word e.1.kind ++ codes " "
    ++ reasons_text (reasons_in e.1.reason) ++ codes "\n"

abbrev pub spaced_site : Site → List ℕ
spaced_site site = codes " " ++ site_text site

abbrev pub sites_text : Sites → List ℕ
sites_text sites = flat_map (λ (e : Site × Unit {0}). spaced_site e.0) sites

-- the identifier, and the sites of its set
abbrev pub variable_line : IdentifierId × Sites → List ℕ
variable_line e = codes "variable" ++ spaced e.0.0 ++ sites_text e.1 ++ codes "\n"

-- the values of sites, and then the sets of identifiers, both in ascending order
abbrev pub state_lines : State → List ℕ
state_lines s = flat_map value_line s.values ++ flat_map variable_line s.variables

-- ---- functions

abbrev pub spaced_block : BlockId → List ℕ
spaced_block b = spaced b.0

-- the blocks, in the order in which they were visited
abbrev pub visits_line : List BlockId → List ℕ
visits_line visits = codes "visits" ++ flat_map spaced_block visits ++ codes "\n"

abbrev pub first_line : AliasingEffect → List ℕ
first_line effect = codes "first " ++ effect_text effect ++ codes "\n"

-- the name as a JSON text
abbrev pub key_text : TempKey → List ℕ
key_text (Named into name) = form_text (codes "Named") (both_text (decimal into.0) (quoted name.text))
key_text (Rest f) = form_text (codes "Rest") (decimal f.0)

-- the identifier, and what it stands for
abbrev pub temporary_line : Temporary → List ℕ
temporary_line t = codes "temporary" ++ spaced t.place.identifier.0 ++ codes " " ++ key_text t.key ++ codes "\n"

-- the interned effects and then the temporaries, each in the order in which they came
abbrev pub table_lines : Solved → List ℕ
table_lines s = flat_map first_line s.first ++ flat_map temporary_line s.temporaries
