-- What walks and renders keep.
use Rattle.std.specs.Prelude.{◌≡◌, ℕ, ◌≤◌, [], map}
use Rattle.alias_hir.specs.declared.env.Environment.{Environment}
use Rattle.alias_graph.specs.Reach.{but_end, end_at}
use Rattle.alias_graph.specs.Renders.{Grown}

-- all of the environment but range ends and reports
abbrev pub but_walks : Environment → Environment
but_walks env = record env { identifiers = map but_end env.identifiers; errors = [] }

-- nothing but range ends and reports changes, no end falls, and no report goes
pub record WalksKeep (old new : Environment) : Type 0 where
  pub rest : but_walks new ≡ but_walks old
  pub ends : (i : ℕ) → end_at old.identifiers i ≤ end_at new.identifiers i
  pub errors : Grown old.errors new.errors
