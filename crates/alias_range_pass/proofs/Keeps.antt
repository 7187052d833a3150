-- What the parts of the pass keep, the whole pass keeps.
use Rattle.std.proofs.Common.{◌≡◌, ◌++◌, ⊎_elim, Bool, true, false, if◌then◌else◌, List, [], ◌∷◌, map, refl, ap, sym}
use Rattle.std.proofs.Common.{◌∙◌, subst, arith, append_assoc, append-nil}
use Rattle.alias_hir.specs.declared.env.Environment.{Environment}
use Rattle.alias_hir.specs.declared.env.Identifier.{Identifier}
use Rattle.alias_hir.specs.declared.hir.HirFunction.{HirFunction}
use Rattle.alias_hir.specs.declared.hir.ParamPattern.{ParamPattern}
use Rattle.alias_hir.specs.declared.hir.ParamPattern.TheVariants as param
use Rattle.alias_hir.specs.declared.place.Effect.TheVariants.{Capture}
use Rattle.alias_hir.specs.declared.place.Place.{Place}
use Rattle.alias_hir.specs.declared.report.Report.{Report}
use Rattle.alias_graph.specs.Nodes.{Nodes}
use Rattle.alias_graph.specs.Reach.{but_end}
use Rattle.alias_graph.specs.Renders.{Grown}
use Rattle.alias_range_pass.specs.places.Keeping.{but_range, but_effect, but_context, but_effects, EnvKept}
use Rattle.alias_range_pass.specs.summary.Keeping.{but_walks, WalksKeep}
use Rattle.alias_range_pass.specs.summary.MarkedPlaces.{is_marked, captured, param_captured, function_captured}
use Rattle.alias_range_pass.specs.summary.MarkedPlaces.{IsSameOrCaptured}
use Rattle.alias_range_pass.specs.Laws.{but_inferred, PassKeeps, but_param, but_places}

-- ---- the environment

pub keeps_same : (env : Environment) → PassKeeps env env
keeps_same env = record { rest = refl; ends = λ i. omega arith; errors = ([], sym (append-nil env.errors)) }

grown_trans : (a b c : List Report) → Grown a b → Grown b c → Grown a c
grown_trans a b c g h = (g.0 ++ h.0, h.1 ∙ ap (λ z. z ++ h.0) g.1 ∙ append_assoc a g.0 h.0)

keeps_trans : (a b c : Environment) → PassKeeps a b → PassKeeps b c → PassKeeps a c
keeps_trans a b c g h = record {
  rest = h.rest ∙ g.rest;
  ends = λ i. let p = g.ends i in let q = h.ends i in omega arith;
  errors = grown_trans a.errors b.errors c.errors g.errors h.errors;
}

but_ends : (ids : List Identifier) → map but_range (map but_end ids) ≡ map but_range ids
but_ends [] = refl
but_ends (x ∷ xs) = ap (λ z. but_range x ∷ z) (but_ends xs)

abbrev without : Environment → Environment
without e = record e { identifiers = map but_range e.identifiers; functions = map but_context e.functions; errors = [] }

but_walked : (env : Environment) → without (but_walks env) ≡ but_inferred env
but_walked env = ap (λ z. record (but_inferred env) { identifiers = z }) (but_ends env.identifiers)

pub walks_keep : (old new : Environment) → WalksKeep old new → PassKeeps old new
walks_keep old new k = record {
  rest = sym (but_walked new) ∙ ap without k.rest ∙ but_walked old;
  ends = k.ends;
  errors = k.errors;
}

abbrev unreported : Environment → Environment
unreported e = record e { errors = [] }

abbrev errors_of : Environment → List Report
errors_of e = e.errors

places_keep : (old new : Environment) → EnvKept old new → PassKeeps old new
places_keep old new k = record {
  rest = ap unreported k.rest;
  ends = k.ends;
  errors = ([], ap errors_of k.rest ∙ sym (append-nil old.errors));
}

-- after the walks and a summary, and after all
pub summary_keeps : (a b c : Environment) → WalksKeep a b → c ≡ b → PassKeeps a c
summary_keeps a b c walked is = subst (λ z. PassKeeps a z) (sym is) (walks_keep a b walked)

pub pass_keeps : (a b c d : Environment) → WalksKeep a b → c ≡ b → EnvKept c d → PassKeeps a d
pass_keeps a b c d walked is placed = keeps_trans a c d (summary_keeps a b c walked is) (places_keep c d placed)

-- ---- the function

place_stays : (b : Bool) (x : Place) → but_effect (if b then record x { effect = Capture } else x) ≡ but_effect x
place_stays true x = refl
place_stays false x = refl

places_stay : (g : Nodes) (xs : List Place) → map but_effect (map (captured g) xs) ≡ map but_effect xs
places_stay g [] = refl
places_stay g (x ∷ xs) = ap (λ z. z ∷ map but_effect (map (captured g) xs)) (place_stays (is_marked g x.identifier) x)
    ∙ ap (λ z. but_effect x ∷ z) (places_stay g xs)

param_stays : (g : Nodes) (p : ParamPattern) → but_param (param_captured g p) ≡ but_param p
param_stays g (param.Place x) = ap param.Place (place_stays (is_marked g x.identifier) x)
param_stays g (param.Spread s) = ap (λ z. param.Spread (record s { place = z }))
    (place_stays (is_marked g s.place.identifier) s.place)

params_stay : (g : Nodes) (ps : List ParamPattern) → map but_param (map (param_captured g) ps) ≡ map but_param ps
params_stay g [] = refl
params_stay g (p ∷ ps) = ap (λ z. z ∷ map but_param (map (param_captured g) ps)) (param_stays g p)
    ∙ ap (λ z. but_param p ∷ z) (params_stay g ps)

captured_same : (g : Nodes) (f : HirFunction) → but_places (function_captured g f) ≡ but_places f
captured_same g f =
    ap (λ z. record (but_places f) { params = z; context = map but_effect (map (captured g) f.context) })
    (params_stay g f.params)
    ∙ ap (λ z. record (but_places f) { context = z }) (places_stay g f.context)

captured_stays : (g : Nodes) (f h : HirFunction) → h ≡ function_captured g f → but_places h ≡ but_places f
captured_stays g f h is = ap but_places is ∙ captured_same g f

-- a summary that is refused has captured, or not yet
pub refused_stays : (g : Nodes) (f h : HirFunction) → IsSameOrCaptured g f h → but_places h ≡ but_places f
refused_stays g f h is = ⊎_elim (λ same. ap but_places same) (captured_stays g f h) is

abbrev without_params : HirFunction → HirFunction
without_params f = record f { params = map but_param f.params; context = map but_effect f.context }

placed_stays : (f h : HirFunction) → but_effects h ≡ but_effects f → but_places h ≡ but_places f
placed_stays f h is = ap without_params is

-- the whole pass has captured and placed
pub pass_stays : (g : Nodes) (f h k : HirFunction) → h ≡ function_captured g f → but_effects k ≡ but_effects h
    → but_places k ≡ but_places f
pass_stays g f h k is still = placed_stays h k still ∙ captured_stays g f h is
