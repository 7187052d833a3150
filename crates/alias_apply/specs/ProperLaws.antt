-- What holds of all that a step gives, and of progress: that its state is proper.
use Rattle.std.specs.Prelude.{◌≡◌, Bool, true, false, List, [], ◌∷◌, Result, Ok, Err, refl, if◌then◌else◌}
use Rattle.std.proofs.Common.{subst, lit<}
use Rattle.alias_lattice.specs.AbstractValues.{AbstractProper}
use Rattle.alias_lattice.specs.ProperStates.{StateProper}
use Rattle.alias_tables.specs.declared.faults.Refusal.{Refusal}
use Rattle.alias_tables.specs.Tables.{TableLists, Step}
use Rattle.alias_tables.specs.Steps.{◌>>=◌, and_then, gives, refuses, each}
use Rattle.alias_tables.specs.ReplayLaws.{first_is, not_given}
use Rattle.alias_apply.specs.declared.progress.StepProgress.{StepProgress}
use Rattle.alias_apply.specs.Apply.{function_value}

-- what the step gives is P
abbrev pub Sound : {A : Type 0} → (A → Type 0) → Step A → Type 0
Sound {A} P f = (t u : TableLists) (y : A) → f t ≡ Ok (y, u) → P y

pub sound_gives : {A : Type 0} (P : A → Type 0) (x : A) → P x → Sound P (gives x)
sound_gives P x p t u y e = subst P (first_is x y t u e) p

pub sound_refuses : {A : Type 0} (P : A → Type 0) (c : Refusal) → Sound P (refuses c)
sound_refuses P c t u y e = not_given c y u e

bound : {A B : Type 0} (P : A → Type 0) (Q : B → Type 0) (r : Result (A × TableLists) Refusal) (g : A → Step B) (y : B)
    (w : TableLists) → ((x : A) (u : TableLists) → r ≡ Ok (x, u) → P x) → ((x : A) → P x → Sound Q (g x)) → and_then r g
    ≡ Ok (y, w) → Q y
bound P Q (Ok p) g y w f h e = h p.0 (f p.0 p.1 refl) p.1 w y e
bound P Q (Err c) g y w f h e = not_given c y w e

-- one step after the other
pub sound_then : {A B : Type 0} (P : A → Type 0) (Q : B → Type 0) (f : Step A) (g : A → Step B) → Sound P f
    → ((x : A) → P x → Sound Q (g x)) → Sound Q (f >>= g)
sound_then P Q f g hf hg t w y e = bound P Q (f t) g y w (λ x u. hf t u x) hg e

abbrev Any : {A : Type 0} → A → Type 0
Any x = Unit {0}

-- and one after a step of which nothing need be known
pub sound_after : {A B : Type 0} (Q : B → Type 0) (f : Step A) (g : A → Step B) → ((x : A) → Sound Q (g x))
    → Sound Q (f >>= g)
sound_after {A} {B} Q f g h = sound_then (Any {A = A}) Q f g (λ t u y e. tt) (λ x p. h x)

pub sound_if : {A : Type 0} (P : A → Type 0) (b : Bool) (f g : Step A) → Sound P f → Sound P g
    → Sound P (if b then f else g)
sound_if P true f g hf hg = hf
sound_if P false f g hf hg = hg

pub sound_each : {X A : Type 0} (P : A → Type 0) (f : X → A → Step A) → ((x : X) (a : A) → P a → Sound P (f x a))
    → (xs : List X) (a : A) → P a → Sound P (each f xs a)
sound_each P f h [] a p = sound_gives P a p
sound_each P f h (x ∷ xs) a p = sound_then P P (f x a) (each f xs) (h x a p) (sound_each P f h xs)

-- the state that the step has come to is proper
abbrev pub ProgressProper : StepProgress → Type 0
ProgressProper s = StateProper s.state

-- the step leads to a state that is proper
abbrev pub Fine : Step StepProgress → Type 0
Fine f = Sound ProgressProper f

pub proper-function_value : (b : Bool) → AbstractProper (function_value b)
proper-function_value true = (tt, lit< tt)
proper-function_value false = (tt, lit< tt)
