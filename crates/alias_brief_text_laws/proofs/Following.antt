-- What is noted of the functions of a unit stands in order.
use Rattle.std.proofs.Common.{◌≡◌, ℕ, zero, suc, ◌+◌, inl, inr, Bool, true, false, List, [], ◌∷◌, ◌++◌, Option, Some}
use Rattle.std.proofs.Common.{None}
use Rattle.std.proofs.Common.{Result, Ok, ap, sym, ◌∙◌, subst, arith}
use Rattle.std.specs.Prelude.{slice_get, map}
use Rattle.std.specs.List.{AllByRecursion}
use Rattle.alias_base.specs.declared.ids.FunctionId.{FunctionId}
use Rattle.alias_hir.specs.declared.effect.AliasingEffect.{AliasingEffect}
use Rattle.alias_hir.specs.declared.env.Environment.{Environment}
use Rattle.alias_hir.specs.declared.env.Unit.{Unit as HirUnit}
use Rattle.alias_hir.specs.declared.hir.HirFunction.{HirFunction}
use Rattle.alias_effects.specs.Inference.{env_after}
use Rattle.alias_effects.specs.Recording.{with_effects_of}
use Rattle.alias_effects.specs.declared.solved.Solved.{Solved}
use Rattle.alias_nesting_laws.specs.Slots.{with_function}
use Rattle.alias_nested.specs.Analysis.{most_levels}
use Rattle.alias_nested.specs.Created.{created_functions}
use Rattle.alias_nested.specs.Finishing.{finished}
use Rattle.alias_nested.specs.Slots.{emptied}
use Rattle.alias_cert.specs.Functions.{ranging}
use Rattle.alias_cert.specs.Known.{AreKnown}
use Rattle.alias_certificate.specs.declared.beyond.Beyond.{Beyond}
use Rattle.alias_certificate.specs.declared.certificate.CertFunction.{CertFunction}
use Rattle.alias_certificate.specs.declared.fault.CheckFault.{CheckFault}
use Rattle.alias_follow.specs.Functions.{FollowedFunction, Following, following, followed_function, effects_followed}
use Rattle.alias_follow.specs.Functions.{nested_finished, nested_followed, RootFollowing, root_ended, root_finished}
use Rattle.alias_follow.specs.Functions.{root_followed}
use Rattle.alias_follow.specs.Units.{each, put_back, taken_followed, found_followed, slot_followed, below_followed}
use Rattle.alias_follow.specs.Units.{all_followed, UnitFollowing, handed_out, unit_followed}
use Rattle.alias_follow.specs.declared.function.follow.FunctionBeyond.{FunctionBeyond}
use Rattle.alias_follow.specs.declared.function.follow.FunctionEnd.{FunctionEnd}
use Rattle.alias_follow.specs.function.Functions.{function_followed}
use Rattle.alias_follow.specs.function.Givens.{given_of}
use Rattle.alias_brief.specs.Fitting.{FittingIfKnown, FittingFunctions, IsFitting}
use Rattle.alias_brief_text_laws.specs.Orderly.{Orderly, OrderlyBlocks, IsOrderly}
use Rattle.alias_brief_text_laws.proofs.Entries.{OfEntry, function_notes}
use Rattle.alias_brief_text_laws.proofs.Noting.{ok_same, after, all_append, all_map}
use Rattle.alias_brief_text_laws.proofs.Rising.{beyond_orderly}

abbrev NotesEntries : FollowedFunction → Type 0
NotesEntries x = AllByRecursion (OfEntry x.solved.entries) x.beyond.blocks

abbrev AllNote : Following → Type 0
AllNote a = AllByRecursion NotesEntries a.functions

-- ---- the functions, one after the other

module _ (given : List CertFunction) where
  effects_note : (id : Option FunctionId) (e : Bool) (f : HirFunction) (a : Following) (z : HirFunction × Following)
      → effects_followed given id e f a ≡ Ok z → AllNote a → AllNote z.1
  effects_note id e f a z h all =
      let next : FunctionEnd → HirFunction × Following =
      λ r. (
        with_effects_of r.end.solved f,
        following (env_after a.env r.end) (a.functions ++ followed_function id e f a.env r ∷ []),
      ) in
      let b = after (function_followed (given_of given id) id a.env f e) (λ r. Ok (next r)) z h in
      let same : next b.was ≡ z = ok_same (next b.was) z b.then_is in
      subst (λ (q : HirFunction × Following). AllNote q.1) same
      (all_append NotesEntries a.functions (followed_function id e f a.env b.was ∷ []) all
      (function_notes (given_of given id) id a.env f e b.was b.first, tt))

  finished_notes : (id : FunctionId) (s z : HirFunction × Following) → nested_finished id s ≡ Ok z → AllNote s.1
      → AllNote z.1
  finished_notes id s z h all =
      let next : HirFunction × Environment → HirFunction × Following = λ r. (r.0, following r.1 s.1.functions) in
      let b = after (ranging (Some id) (finished s.0 s.1.env)) (λ r. Ok (next r)) z h in
      let same : next b.was ≡ z = ok_same (next b.was) z b.then_is in
      subst (λ (q : HirFunction × Following). AllNote q.1) same all

  nested_notes : (id : FunctionId) (f : HirFunction) (a : Following) (z : HirFunction × Following)
      → nested_followed given id f a ≡ Ok z → AllNote a → AllNote z.1
  nested_notes id f a z h all =
      let b = after (effects_followed given (Some id) true f a) (nested_finished id) z h in
      finished_notes id b.was z b.then_is (effects_note (Some id) true f a b.was b.first all)

  -- what is noted before stands so behind a call
  abbrev Keeps : (HirFunction → Following → Result Following CheckFault) → Type 0
  Keeps below = (f : HirFunction) (a b : Following) → below f a ≡ Ok b → AllNote a → AllNote b

  module _ (below : HirFunction → Following → Result Following CheckFault) (keeps : Keeps below) where
    taken_notes : (id : FunctionId) (f : HirFunction) (a : Following) (z : HirFunction × Following)
        → taken_followed given below id f a ≡ Ok z → AllNote a → AllNote z.1
    taken_notes id f a z h all =
        let b = after (below f a) (nested_followed given id f) z h in
        nested_notes id f b.was z b.then_is (keeps f a b.was b.first all)

    found_notes : (id : FunctionId) (a b : Following) (o : Option HirFunction)
        → found_followed given below id a o ≡ Ok b → AllNote a → AllNote b
    found_notes id a b None h all = subst AllNote (ok_same a b h) all
    found_notes id a b (Some f) h all =
        let from = record a { env = with_function id (emptied f.returns) a.env } in
        let c = after (taken_followed given below id f from) (λ s. Ok (put_back id s)) b h in
        let same : put_back id c.was ≡ b = ok_same (put_back id c.was) b c.then_is in
        subst AllNote same (taken_notes id f from c.was c.first all)

    slots_note : (ids : List FunctionId) (a b : Following) → each (slot_followed given below) ids a ≡ Ok b → AllNote a
        → AllNote b
    slots_note [] a b h all = subst AllNote (ok_same a b h) all
    slots_note (id ∷ ids) a b h all =
        let c = after (slot_followed given below id a) (each (slot_followed given below) ids) b h in
        slots_note ids c.was b c.then_is
        (found_notes id a c.was (slice_get a.env.functions id.0) c.first all)

  below_notes : (n : ℕ) → Keeps (below_followed given n)
  unfolding below_followed
  below_notes zero f a b h all = subst AllNote (ok_same a b h) all
  below_notes (suc n) f a b h all =
      slots_note (below_followed given n) (below_notes n) (created_functions f) a b h all

  root_notes : (f : HirFunction) (a : Following) (r : RootFollowing) → root_followed given f a ≡ Ok r → AllNote a
      → AllNote r.following
  root_notes f a r h all =
      let b = after (effects_followed given None false f a) root_finished r h in
      let next : List AliasingEffect × (HirFunction × Environment) → RootFollowing =
      λ q. record { summary = q.0; func = q.1.0; following = following q.1.1 b.was.1.functions } in
      let c = after (ranging None (root_ended b.was.0 b.was.1.env)) (λ q. Ok (next q)) r b.then_is in
      let same : next c.was ≡ r = ok_same (next c.was) r c.then_is in
      subst (λ (q : RootFollowing). AllNote q.following) same (effects_note None false f a b.was b.first all)

  unit_notes : (f : HirFunction) (env : Environment) (r : RootFollowing)
      → all_followed given f (following env []) ≡ Ok r → AllNote r.following
  unit_notes f env r h =
      let a = following env [] in
      let b = after (below_followed given most_levels f a) (root_followed given f) r h in
      root_notes f b.was r b.then_is (below_notes most_levels f a b.was b.first tt)

-- ---- in order

noted_orderly : (x : FollowedFunction) → AreKnown x.solved.entries → (m : Beyond) → OfEntry x.solved.entries m
    → Orderly m
noted_orderly x known m (inl nothing) = subst Orderly (sym nothing) (record { values = tt; variables = tt; named = tt })
noted_orderly x known m (inr some) =
    subst Orderly (sym some.4) (beyond_orderly some.1.state some.2 (known some.0 some.1 some.3))

abbrev solved_in : List FollowedFunction → List Solved
solved_in fs = map (λ (x : FollowedFunction). x.solved) fs

abbrev beyond_in : List FollowedFunction → List FunctionBeyond
beyond_in fs = map (λ (x : FollowedFunction). x.beyond) fs

states_known : (u : HirUnit) (x : FollowedFunction) (o : Option FunctionBeyond) → o ≡ Some x.beyond
    → FittingIfKnown u x.solved o → AreKnown x.solved.entries
states_known u x o is h = (subst (FittingIfKnown u x.solved) is h).states

functions_orderly : (u : HirUnit) (all : List FunctionBeyond) (fs : List FollowedFunction) (n : ℕ)
    → ((i : ℕ) → slice_get all (n + i) ≡ slice_get (beyond_in fs) i) → FittingFunctions u all n (solved_in fs)
    → AllByRecursion NotesEntries fs → AllByRecursion OrderlyBlocks (beyond_in fs)
functions_orderly u all [] n at fits notes = tt
functions_orderly u all (x ∷ fs) n at fits notes =
    let zeroth : n + 0 ≡ n = omega arith in
    let is : slice_get all n ≡ Some x.beyond = ap (slice_get all) (sym zeroth) ∙ at 0 in
    let known = states_known u x (slice_get all n) is fits.0 in
    let next : (i : ℕ) → slice_get all ((n + 1) + i) ≡ slice_get (beyond_in fs) i =
    λ i. let later : (n + 1) + i ≡ n + suc i = omega arith in ap (slice_get all) later ∙ at (suc i) in (
      all_map (OfEntry x.solved.entries) Orderly (noted_orderly x known) x.beyond.blocks notes.0,
      functions_orderly u all fs (n + 1) next fits.1 notes.1,
    )

-- what follows for a unit stands in order where it fits
pub unit_orderly : (given : List CertFunction) (u : HirUnit) (x : UnitFollowing) → unit_followed given u ≡ Ok x
    → IsFitting x.followed → IsOrderly x.followed
unit_orderly given u x h fits =
    let a = after (all_followed given u.function (following u.env [])) (λ r. Ok (handed_out r)) x h in
    let same : handed_out a.was ≡ x = ok_same (handed_out a.was) x a.then_is in
    let fs = a.was.following.functions in
    let here : IsFitting (handed_out a.was).followed = subst (λ (z : UnitFollowing). IsFitting z.followed) (sym same)
    fits in
    subst (λ (z : UnitFollowing). IsOrderly z.followed) same
    (functions_orderly (handed_out a.was).followed.inferred.unit (beyond_in fs) fs 0
    (λ i. let first : 0 + i ≡ i = omega arith in ap (slice_get (beyond_in fs)) first) here
    (unit_notes given u.function u.env a.was a.first))
