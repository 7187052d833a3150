-- Equal keys are hashed alike.
use Rattle.std.specs.Prelude.{◌≡◌, ◌++◌, ℕ, Bool, true, ◌==◌, ◌&&◌}
use Rattle.std.proofs.Common.{ap, sym, ◌∙◌, eqb-true, true≢false}
use Rattle.std.specs.Cmp.{first_so, second_so}
use Rattle.std.specs.Hash as fed
use Rattle.alias_tables.specs.declared.key.EffectKey.{EffectKey}
use Rattle.alias_tables.specs.declared.key.EffectKey.TheVariants as key
use Rattle.alias_tables.specs.contracts.key.EffectKeyPartialEq.TheImpl as keys
use Rattle.alias_tables.specs.KeyHashes.{key_numbers, fed_by}

abbrev of : ℕ → ℕ → ℕ → ℕ × ℕ × ℕ
of n a x = (n, a, x)

alone : (n a b : ℕ) → (a == b) ≡ true → of n a 0 ≡ of n b 0
alone n a b h = ap (λ m. of n m 0) (eqb-true a b h)

both : (n a b x y : ℕ) → ((a == b) && (x == y)) ≡ true → of n a x ≡ of n b y
both n a b x y h = ap (λ m. of n m x) (eqb-true a b (first_so (a == b) (x == y) h))
    ∙ ap (of n b) (eqb-true x y (second_so (a == b) (x == y) h))

first_alone : (n a b : ℕ) (r : Bool) → ((a == b) && r) ≡ true → of n a 0 ≡ of n b 0
first_alone n a b r h = alone n a b (first_so (a == b) r h)

first_two : (n a b x y : ℕ) (r : Bool) → ((a == b) && ((x == y) && r)) ≡ true → of n a x ≡ of n b y
first_two n a b x y r h = ap (λ m. of n m x) (eqb-true a b (first_so (a == b) _ h))
    ∙ ap (of n b) (eqb-true x y (first_so (x == y) r (second_so (a == b) _ h)))

same_numbers : (k l : EffectKey) → keys.ghosts.eq k l ≡ true → key_numbers k ≡ key_numbers l
same_numbers (key.CreateFrom a x) (key.CreateFrom b y) h = both 0 a.0 b.0 x.0 y.0 h
same_numbers (key.ImmutableCapture a x) (key.ImmutableCapture b y) h = both 1 a.0 b.0 x.0 y.0 h
same_numbers (key.Assign a x) (key.Assign b y) h = both 2 a.0 b.0 x.0 y.0 h
same_numbers (key.Alias a x) (key.Alias b y) h = both 3 a.0 b.0 x.0 y.0 h
same_numbers (key.Capture a x) (key.Capture b y) h = both 4 a.0 b.0 x.0 y.0 h
same_numbers (key.MaybeAlias a x) (key.MaybeAlias b y) h = both 5 a.0 b.0 x.0 y.0 h
same_numbers (key.Create a x p) (key.Create b y q) h = first_alone 6 a.0 b.0 _ h
same_numbers (key.Freeze a x) (key.Freeze b y) h = first_alone 7 a.0 b.0 _ h
same_numbers (key.Impure a) (key.Impure b) h = alone 8 a.0 b.0 h
same_numbers (key.MutateFrozen a x) (key.MutateFrozen b y) h = both 9 a.0 b.0 x y h
same_numbers (key.MutateGlobal a x) (key.MutateGlobal b y) h = both 10 a.0 b.0 x y h
same_numbers (key.Render a) (key.Render b) h = alone 11 a.0 b.0 h
same_numbers (key.Mutate a) (key.Mutate b) h = alone 12 a.0 b.0 h
same_numbers (key.MutateConditionally a) (key.MutateConditionally b) h = alone 13 a.0 b.0 h
same_numbers (key.MutateTransitive a) (key.MutateTransitive b) h = alone 14 a.0 b.0 h
same_numbers (key.MutateTransitiveConditionally a) (key.MutateTransitiveConditionally b) h = alone 15 a.0 b.0 h
same_numbers (key.CreateFunction a x p) (key.CreateFunction b y q) h = first_two 16 a.0 b.0 x.0 y.0 _ h
same_numbers k l h = absurd (true≢false (sym h))

pub alike_keys : (k l : EffectKey) → keys.ghosts.eq k l ≡ true → fed_by k ≡ fed_by l
alike_keys k l h = ap (λ (n : ℕ × ℕ × ℕ). fed.u8 n.0 ++ fed.u32 n.1 ++ fed.u32 n.2) (same_numbers k l h)
