-- What keys are hashed by.
use Rattle.std.specs.Prelude.{ℕ, ◌++◌}
use Rattle.std.specs.Hash as fed
use Rattle.std.specs.Hash.{HashWrites}
use Rattle.alias_tables.specs.declared.key.EffectKey.{EffectKey}
use Rattle.alias_tables.specs.declared.key.EffectKey.TheVariants as key

-- a number of its kind, and two of the numbers that it has
abbrev pub key_numbers : EffectKey → ℕ × ℕ × ℕ
key_numbers (key.CreateFrom a x) = (0, a.0, x.0)
key_numbers (key.ImmutableCapture a x) = (1, a.0, x.0)
key_numbers (key.Assign a x) = (2, a.0, x.0)
key_numbers (key.Alias a x) = (3, a.0, x.0)
key_numbers (key.Capture a x) = (4, a.0, x.0)
key_numbers (key.MaybeAlias a x) = (5, a.0, x.0)
key_numbers (key.Create x k r) = (6, x.0, 0)
key_numbers (key.Freeze v r) = (7, v.0, 0)
key_numbers (key.Impure p) = (8, p.0, 0)
key_numbers (key.MutateFrozen p identity) = (9, p.0, identity)
key_numbers (key.MutateGlobal p identity) = (10, p.0, identity)
key_numbers (key.Render p) = (11, p.0, 0)
key_numbers (key.Mutate v) = (12, v.0, 0)
key_numbers (key.MutateConditionally v) = (13, v.0, 0)
key_numbers (key.MutateTransitive v) = (14, v.0, 0)
key_numbers (key.MutateTransitiveConditionally v) = (15, v.0, 0)
key_numbers (key.CreateFunction x f captures) = (16, x.0, f.0)

-- the writes of these
abbrev pub fed_by : EffectKey → HashWrites
fed_by k = fed.u8 (key_numbers k).0 ++ fed.u32 (key_numbers k).1 ++ fed.u32 (key_numbers k).2
