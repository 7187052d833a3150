-- What only grows, grows on from step to step.
use Rattle.std.specs.Prelude.{List, [], ◌∷◌, ◌++◌, refl}
use Rattle.std.proofs.Common.{ap, ◌∙◌}
use Rattle.alias_hir.specs.declared.env.Environment.{Environment}
use Rattle.alias_hir.specs.declared.report.Interned.{Interned}
use Rattle.alias_tables.specs.declared.temporaries.Temporary.{Temporary}
use Rattle.alias_tables.specs.GrowingLaws.{Grows, grows_self, grows_through}
use Rattle.alias_call_effects.specs.Kept.{Kept, kept, HasGrown}

pub grown_through : (k l m : Kept) → HasGrown k l → HasGrown l m → HasGrown k m
grown_through k l m a b = record {
  identifiers = grows_through k.env.identifiers l.env.identifiers m.env.identifiers a.identifiers b.identifiers;
  types = grows_through k.env.types l.env.types m.env.types a.types b.types;
  reports = grows_through k.env.interned l.env.interned m.env.interned a.reports b.reports;
  temporaries = grows_through k.temporaries l.temporaries m.temporaries a.temporaries b.temporaries;
  others = ap (λ (e : Environment). record e
      { identifiers = m.env.identifiers; types = m.env.types; interned = m.env.interned }) a.others ∙ b.others;
}

pub grown_by_reports : (env : Environment) (reports : List Interned) (ts : List Temporary) → Grows env.interned reports
    → HasGrown (kept env ts) (kept (record env { interned = reports }) ts)
grown_by_reports env reports ts g = record {
  identifiers = grows_self env.identifiers;
  types = grows_self env.types;
  reports = g;
  temporaries = grows_self ts;
  others = refl;
}
