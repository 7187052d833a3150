use Rattle.std.proofs.Common.{◌≡◌, ap, sym, ◌∙◌}
use Rattle.std.specs.Prelude.{◌&&◌}
use Rattle.alias_lattice.specs.declared.lookup.Lookup.{Lookup}
use Rattle.alias_lattice.specs.States.{lookup, freezes}
use Rattle.alias_apply.specs.freezing.SiteLaws.{freezes_where_defined}
use Rattle.alias_apply.proofs.freezing.sites.does_freeze.Goals as goal

pub returns-then-is_defined : goal.returns-then-is_defined
returns-then-is_defined c =
    let s = c.args.state.now in
    let x = c.args.place in
    c.freezes.ensures ∙ ap (λ (l : Lookup). freezes l.value.kind) c.kind_with_span.ensures
    ∙ sym (freezes_where_defined s x c.recall_proper.ensures
    ∙ ap (λ b. b && freezes (lookup s x).kind) (sym c.is_defined.ensures ∙ c.if-is_defined.true))
