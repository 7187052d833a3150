-- Keys that tie are the same.
use Rattle.std.specs.Prelude.{◌≡◌, ℕ, refl}
use Rattle.std.proofs.Common.{ap, ◌∙◌}
use Rattle.std.specs.FinMap.{IsAntisymmetric, nat_cmp-IsAntisymmetric, slice_cmp-IsAntisymmetric}
use Rattle.std.specs.Ordering.{ordering_then, nat_cmp}
use Rattle.std.specs.declared.cmp.Ordering.{Ordering}
use Rattle.std.specs.declared.cmp.Ordering.TheVariants.{Less, Equal, Greater}
use Rattle.alias_base.specs.declared.ids.FunctionId.{FunctionId}
use Rattle.alias_base.specs.declared.ids.IdentifierId.{IdentifierId}
use Rattle.alias_hir.specs.declared.effect.ValueKind.{ValueKind}
use Rattle.alias_hir.specs.declared.effect.ValueReason.{ValueReason}
use Rattle.alias_lattice.specs.Keys.{id_cmp, function_cmp}
use Rattle.alias_lattice.specs.KeyLaws.{ids_apart, functions_apart}
use Rattle.alias_lattice.specs.Kinds.{kind_cmp}
use Rattle.alias_lattice.specs.KindLaws.{kinds_apart}
use Rattle.alias_lattice.specs.ReasonOrder.{reason_cmp}
use Rattle.alias_lattice.specs.ReasonOrderLaws.{reasons_apart}
use Rattle.alias_tables.specs.CaptureOrder.{by_ids}
use Rattle.alias_tables.specs.InternedEffects.{key_cmp}
use Rattle.alias_tables.specs.declared.key.Captures.{Captures}
use Rattle.alias_tables.specs.declared.key.EffectKey.{EffectKey}
use Rattle.alias_tables.specs.declared.key.EffectKey.TheVariants as key

first_ties : (r s : Ordering) → ordering_then r s ≡ Equal → r ≡ Equal
first_ties Less s h = h
first_ties Equal s h = refl
first_ties Greater s h = h

second_ties : (r s : Ordering) → ordering_then r s ≡ Equal → s ≡ Equal
second_ties Less s h = cc
second_ties Equal s h = h
second_ties Greater s h = cc

module _ {A B : Type 0} (R : A → A → Ordering) (S : B → B → Ordering) (first : IsAntisymmetric R)
    (second : IsAntisymmetric S) where
  -- two parts, compared one after the other
  both : (make : A → B → EffectKey) (a b : A) (x y : B) → ordering_then (R a b) (S x y) ≡ Equal → make a x ≡ make b y
  both make a b x y h = ap (λ z. make z x) (first a b (first_ties (R a b) (S x y) h))
      ∙ ap (make b) (second x y (second_ties (R a b) (S x y) h))

ids : (make : IdentifierId → IdentifierId → EffectKey) (a b x y : IdentifierId)
    → ordering_then (id_cmp a b) (id_cmp x y) ≡ Equal → make a x ≡ make b y
ids = both id_cmp id_cmp ids_apart ids_apart

reports : (make : IdentifierId → ℕ → EffectKey) (a b : IdentifierId) (x y : ℕ)
    → ordering_then (id_cmp a b) (nat_cmp x y) ≡ Equal → make a x ≡ make b y
reports = both id_cmp nat_cmp ids_apart nat_cmp-IsAntisymmetric

captures_apart : IsAntisymmetric by_ids
captures_apart c d h = ap (λ is. let taken : Captures = record { ids = is } in taken)
    (slice_cmp-IsAntisymmetric ids_apart c.ids d.ids h)

created : (x y : IdentifierId) (k l : ValueKind) (r q : ValueReason)
    → ordering_then (id_cmp x y) (ordering_then (kind_cmp k l) (reason_cmp r q)) ≡ Equal → key.Create x k r
    ≡ key.Create y l q
created x y k l r q h =
    let rest = second_ties (id_cmp x y) (ordering_then (kind_cmp k l) (reason_cmp r q)) h in
    let e0 : x ≡ y = ids_apart x y (first_ties (id_cmp x y) (ordering_then (kind_cmp k l) (reason_cmp r q)) h) in
    let e1 : k ≡ l = kinds_apart k l (first_ties (kind_cmp k l) (reason_cmp r q) rest) in
    let e2 : r ≡ q = reasons_apart r q (second_ties (kind_cmp k l) (reason_cmp r q) rest) in
    cc

function_created : (x y : IdentifierId) (f g : FunctionId) (c d : Captures)
    → ordering_then (id_cmp x y) (ordering_then (function_cmp f g) (by_ids c d)) ≡ Equal → key.CreateFunction x f c
    ≡ key.CreateFunction y g d
function_created x y f g c d h =
    let rest = second_ties (id_cmp x y) (ordering_then (function_cmp f g) (by_ids c d)) h in
    let e0 : x ≡ y = ids_apart x y (first_ties (id_cmp x y) (ordering_then (function_cmp f g) (by_ids c d)) h) in
    let e1 : f ≡ g = functions_apart f g (first_ties (function_cmp f g) (by_ids c d) rest) in
    let e2 : c ≡ d = captures_apart c d (second_ties (function_cmp f g) (by_ids c d) rest) in
    cc

pub keys_apart : IsAntisymmetric key_cmp
keys_apart (key.CreateFrom a x) (key.CreateFrom b y) h = ids key.CreateFrom a b x y h
keys_apart (key.ImmutableCapture a x) (key.ImmutableCapture b y) h = ids key.ImmutableCapture a b x y h
keys_apart (key.Assign a x) (key.Assign b y) h = ids key.Assign a b x y h
keys_apart (key.Alias a x) (key.Alias b y) h = ids key.Alias a b x y h
keys_apart (key.Capture a x) (key.Capture b y) h = ids key.Capture a b x y h
keys_apart (key.MaybeAlias a x) (key.MaybeAlias b y) h = ids key.MaybeAlias a b x y h
keys_apart (key.Create x k r) (key.Create y l q) h = created x y k l r q h
keys_apart (key.Freeze v r) (key.Freeze w q) h = both id_cmp reason_cmp ids_apart reasons_apart key.Freeze v w r q h
keys_apart (key.Impure p) (key.Impure q) h = ap key.Impure (ids_apart p q h)
keys_apart (key.MutateFrozen p d) (key.MutateFrozen q e) h = reports key.MutateFrozen p q d e h
keys_apart (key.MutateGlobal p d) (key.MutateGlobal q e) h = reports key.MutateGlobal p q d e h
keys_apart (key.Render p) (key.Render q) h = ap key.Render (ids_apart p q h)
keys_apart (key.Mutate v) (key.Mutate w) h = ap key.Mutate (ids_apart v w h)
keys_apart (key.MutateConditionally v) (key.MutateConditionally w) h = ap key.MutateConditionally (ids_apart v w h)
keys_apart (key.MutateTransitive v) (key.MutateTransitive w) h = ap key.MutateTransitive (ids_apart v w h)
keys_apart (key.MutateTransitiveConditionally v) (key.MutateTransitiveConditionally w) h =
    ap key.MutateTransitiveConditionally (ids_apart v w h)
keys_apart (key.CreateFunction x f c) (key.CreateFunction y g d) h = function_created x y f g c d h
keys_apart k l h = cc
