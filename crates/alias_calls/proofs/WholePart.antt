-- The list of a call by a whole aliasing part is the part's: its names are those that the part lists.
use Rattle.std.proofs.Common.{◌≡◌, Bool, false, ℕ, List, [], Ok, None, ◌&&◌, ap, sym, subst}
use Rattle.std.specs.Prelude.{Result, not, if◌then◌else◌}
use Rattle.std.specs.Option.{is_some}
use Rattle.alias_hir.specs.declared.env.Environment.{Environment}
use Rattle.alias_hir.specs.declared.place.Place.{Place}
use Rattle.alias_hir.specs.declared.place.PlaceOrSpreadOrHole.{PlaceOrSpreadOrHole}
use Rattle.alias_hir.specs.declared.signature.AliasingSignatureConfig.{AliasingSignatureConfig}
use Rattle.alias_tables.specs.Steps.{◌>>=◌, and_then, gives, each}
use Rattle.alias_tables.specs.Tables.{Leaves, Step, TableLists}
use Rattle.alias_tables.specs.declared.faults.EffectFault.{EffectFault}
use Rattle.alias_calls.specs.declared.call.CallSite.{CallSite}
use Rattle.alias_calls.specs.Arguments.{has_further}
use Rattle.alias_calls.specs.Configs.{with_temporary, with_config_effects, config_call, config_expansion}
use Rattle.alias_calls.specs.Copies.{Collected}

then_answers : {A B : Type 0} (step : Step A) (f : A → Step B) (t : TableLists) (x : A) (more : TableLists)
    (answer : Result B EffectFault) (left : TableLists) → step t ≡ Ok (x, more) → Leaves (f x more) answer left
    → Leaves ((step >>= f) t) answer left
then_answers step f t x more answer left e h = subst (λ r. Leaves (and_then r f) answer left) (sym e) h

pub whole_part :
    (env : Environment) (config : AliasingSignatureConfig) (site : CallSite) (args : List PlaceOrSpreadOrHole)
    (names : List (List ℕ)) (places : List Place) (t more : TableLists) (answer : Result Collected EffectFault)
    (left : TableLists)
    → (has_further config.params args 0 && not (is_some config.rest)) ≡ false
    → names ≡ config.temporaries
    → each (with_temporary env site) names [] t ≡ Ok (places, more)
    → Leaves (with_config_effects env (config_call (record config { temporaries = names }) site args places)
    config.effects [] more) answer left
    → Leaves (config_expansion env config site args t) answer left
whole_part env config site args names places t more answer left further named made h =
    let rest : List Place → Step Collected =
    λ ps. with_config_effects env (config_call config site args ps) config.effects [] in
    let part : (record config { temporaries = names }) ≡ config = ap (λ z. record config { temporaries = z }) named in
    let expanded : Leaves (rest places more) answer left =
    subst (λ p. Leaves (with_config_effects env (config_call p site args places) config.effects [] more) answer
    left) part h in
    let found : each (with_temporary env site) config.temporaries [] t ≡ Ok (places, more) =
    subst (λ z. each (with_temporary env site) z [] t ≡ Ok (places, more)) named made in
    subst (λ b. Leaves ((if b then gives None else (each (with_temporary env site) config.temporaries [] >>= rest)) t)
    answer left) (sym further)
    (then_answers (each (with_temporary env site) config.temporaries []) rest t places more answer left found expanded)
