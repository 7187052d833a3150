-- What follows of steps that pass, and of tests that hold: their parts.
use Rattle.std.specs.Prelude.{◌≡◌, refl, Bool, true, false, ◌&&◌, Result, Ok, Err, ⊤}
use Rattle.alias_base.specs.Answer.{◌>>=◌}

-- the parts of a conjunction
pub both_true : (a b : Bool) → (a && b) ≡ true → (a ≡ true) × (b ≡ true)
both_true true b e = (refl, e)
both_true false b e = cc

-- the parts of steps that all pass
pub both_pass : {E : Type 0} (r : Result ⊤ E) (s : Result ⊤ E) → (r >>= (λ _. s)) ≡ Ok tt → (r ≡ Ok tt) × (s ≡ Ok tt)
both_pass (Ok tt) s e = (refl, e)
both_pass (Err f) s e = cc
