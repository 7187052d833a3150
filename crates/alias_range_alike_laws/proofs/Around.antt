-- Environments that are alike: other functions, which are seen nearly alike, other interned reports, and other recorded
-- ones where errors are recorded.
use Rattle.std.specs.Prelude.{◌≡◌, ℕ, ◌++◌, Bool, false, cond, List, []}
use Rattle.std.proofs.Common.{ap, sym, ◌∙◌}
use Rattle.alias_hir.specs.declared.env.Environment.{Environment}
use Rattle.alias_hir.specs.declared.hir.HirFunction.{HirFunction}
use Rattle.alias_hir.specs.declared.report.Interned.{Interned}
use Rattle.alias_hir.specs.declared.report.Report.{Report}
use Rattle.alias_graph.specs.Reports.{with_reports}
use Rattle.alias_certificate_laws.specs.accepting.Alike.{Paired}
use Rattle.alias_range_alike_laws.specs.Ranging.{NearlyAlike, SameContextAt}

-- the functions are seen nearly alike, and where P holds of a position the context places there are the same
pub record NearAt (P : ℕ → Type 0) (xs ys : List HirFunction) : Type 0 where
  pub near : Paired NearlyAlike xs ys
  pub same : (k : ℕ) → P k → SameContextAt xs ys k

abbrev pub around : Environment → List HirFunction → List Interned → List Report → Environment
around env fs interned errors = record env { functions = fs; interned = interned; errors = errors }

-- where no errors are recorded, those of before are the same
pub data AlikeEnv (P : ℕ → Type 0) (recording : Bool) (interned : List Interned) : Environment → Environment
    → Type 0 where
  of_env : (env : Environment) (fs : List HirFunction) (errors : List Report) → NearAt P env.functions fs
      → (recording ≡ false → errors ≡ env.errors) → AlikeEnv P recording interned env (around env fs interned errors)

pub weaken_at : (P Q : ℕ → Type 0) → ((k : ℕ) → P k → Q k) → (xs ys : List HirFunction) → NearAt Q xs ys
    → NearAt P xs ys
weaken_at P Q h xs ys q = record { near = q.near; same = λ k p. q.same k (h k p) }

module _ (recording : Bool) (interned : List Interned) where
  pub weaken : (P Q : ℕ → Type 0) → ((k : ℕ) → P k → Q k) → (env other : Environment)
      → AlikeEnv Q recording interned env other → AlikeEnv P recording interned env other
  weaken P Q h env other (of_env _ fs errors q same) = of_env env fs errors (weaken_at P Q h env.functions fs q) same

  -- reports are added where errors are recorded
  none_added : (xs : List Report) → recording ≡ false → cond recording xs [] ≡ []
  none_added xs off = ap (λ b. cond b xs []) off

  pub reported_alike : (P : ℕ → Type 0) (xs ys : List Report) (env other : Environment)
      → AlikeEnv P recording interned env other
      → AlikeEnv P recording interned (with_reports (cond recording xs []) env)
      (with_reports (cond recording ys []) other)
  reported_alike P xs ys env other (of_env _ fs errors q same) =
      of_env (with_reports (cond recording xs []) env) fs (errors ++ cond recording ys []) q
      (λ off. ap (λ z. errors ++ z) (none_added ys off) ∙ ap (λ z. z ++ []) (same off)
      ∙ ap (λ z. env.errors ++ z) (sym (none_added xs off)))
