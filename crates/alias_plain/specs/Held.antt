-- What a scope that holds references speaks of.
use Rattle.alias_plain.specs.laws.Scopes.{Scope, scope_with}
use Rattle.alias_plain.specs.declared.scope.Scope.{Scope as HeldScope}

abbrev pub held : HeldScope → Scope
held c = scope_with c.func.now c.env.now c.facts.now
