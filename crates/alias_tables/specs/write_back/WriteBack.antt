-- What the tables of a pass begin with, and what the environment takes over from them.
use Rattle.std.specs.Prelude.{◌==◌, List, [], ◌∷◌, map, slice_get, slice_set, if◌then◌else◌}
use Rattle.std.specs.Option.{option_map_or}
use Rattle.alias_base.specs.declared.ids.IdentifierId.{IdentifierId}
use Rattle.alias_hir.specs.declared.env.Environment.{Environment}
use Rattle.alias_hir.specs.declared.hir.HirFunction.{HirFunction}
use Rattle.alias_hir.specs.declared.place.Effect.TheVariants.{Read}
use Rattle.alias_hir.specs.declared.place.Place.{Place}
use Rattle.alias_hir.specs.Tables.{with_identifier}
use Rattle.alias_tables.specs.declared.reads.ContextRead.{ContextRead}
use Rattle.alias_tables.specs.declared.temporaries.Temporary.{Temporary}
use Rattle.alias_tables.specs.Tables.{TableLists}

-- a pass begins with the reports that are interned
abbrev pub tables_of : Environment → TableLists
tables_of env = record { first = []; temporaries = []; reports = env.interned; reads = [] }

-- a new identifier for each temporary, with the span of its place
abbrev pub with_identifiers : List Temporary → Environment → Environment
with_identifiers [] env = env
with_identifiers (t ∷ ts) env = with_identifiers ts (with_identifier t.place.span env)

-- the place is read, if it is this identifier's
abbrev pub read_place : IdentifierId → Place → Place
read_place x p = if p.identifier.0 == x.0 then record p { effect = Read } else p

-- the function only reads the identifier's place in its context
abbrev pub with_context_read : IdentifierId → HirFunction → HirFunction
with_context_read x f = record f { context = map (read_place x) f.context }

abbrev pub with_read : ContextRead → List HirFunction → List HirFunction
with_read r fs = option_map_or (λ (f : HirFunction). slice_set fs r.function.0 (with_context_read r.place f))
    (slice_get fs r.function.0) fs

abbrev pub with_reads : List ContextRead → List HirFunction → List HirFunction
with_reads [] fs = fs
with_reads (r ∷ rs) fs = with_reads rs (with_read r fs)

-- the environment with what a pass added to its tables: an identifier for each temporary, its reports, and the context
-- places that it found to be only read
abbrev pub with_tables : TableLists → Environment → Environment
with_tables t env =
    let more = with_identifiers t.temporaries env in
    record more { functions = with_reads t.reads more.functions; interned = t.reports }
