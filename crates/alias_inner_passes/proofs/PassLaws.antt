-- What changes nothing keeps all that a pass is to keep.
use Rattle.std.proofs.Common.{◌≡◌, true, refl}
use Rattle.alias_hir.specs.declared.env.Environment.{Environment}
use Rattle.alias_hir.specs.declared.hir.HirFunction.{HirFunction}
use Rattle.alias_inner_passes.specs.Passes.{Keeps}
use Rattle.alias_rules.specs.Fitting.{function_fits}

pub keeps_unchanged : (func : HirFunction) (env : Environment) → function_fits func env ≡ true → Keeps func env func env
keeps_unchanged func env fits = record {
  fits = fits;
  outside = record { params = refl; context = refl; context_values = refl; returns = refl };
  added = record {
    instructions = λ k h. h;
    effects = λ k e h. h;
    terminals = λ b e h. h;
    summary = λ e h. h;
    creations = λ k f h. h;
    operands = λ k p h u. (p, h, refl, u);
    ends = λ b p h u. (p, h, refl, u);
  };
  tables = record { types = refl; shapes = refl; functions = refl; errors = refl; interned = refl; config = refl };
  identifiers = refl;
  present = λ k h. h;
  others = λ k h. refl;
}
