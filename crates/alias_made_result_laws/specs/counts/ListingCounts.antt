-- How many positions the effects of a function take, where what its instructions and terminals carry is short: 26 for
-- each block at most.
use Rattle.std.specs.Prelude.{◌≡◌, ℕ, ◌+◌, ◌*◌, ◌≤◌, ◌<◌, Bool, true, false, if◌then◌else◌, List, [], ◌∷◌, length}
use Rattle.std.specs.Prelude.{Option, Some, None, Result, Ok, Err, ⊤, nat_lt, nat_le, slice_get, refl}
use Rattle.std.specs.List.{AllByRecursion}
use Rattle.std.proofs.Common.{zero, suc, subst, arith}
use Rattle.std.proofs.lemmas.Bool.Decides.{nat_tests}
use Rattle.alias_base.specs.Answer.{◌>>=◌}
use Rattle.alias_base.specs.declared.ids.BlockId.{BlockId}
use Rattle.alias_base.specs.declared.ids.EvaluationOrder.{EvaluationOrder}
use Rattle.alias_base.specs.declared.ids.InstructionId.{InstructionId}
use Rattle.alias_hir.specs.Terminals.{terminal_effects}
use Rattle.alias_hir.specs.declared.effect.AliasingEffect.{AliasingEffect}
use Rattle.alias_hir.specs.declared.effect.AliasingEffect.TheVariants as effect
use Rattle.alias_hir.specs.declared.env.Environment.{Environment}
use Rattle.alias_hir.specs.declared.error.Counter.TheVariants.{GraphPositions}
use Rattle.alias_hir.specs.declared.error.HirError.{HirError}
use Rattle.alias_hir.specs.declared.error.HirError.TheVariants as hir
use Rattle.alias_hir.specs.declared.error.InferError.{InferError}
use Rattle.alias_hir.specs.declared.error.InferError.TheVariants as error
use Rattle.alias_hir.specs.declared.hir.BasicBlock.{BasicBlock}
use Rattle.alias_hir.specs.declared.hir.HirFunction.{HirFunction}
use Rattle.alias_hir.specs.declared.hir.Instruction.{Instruction}
use Rattle.alias_hir.specs.declared.hir.Phi.{Phi}
use Rattle.alias_hir.specs.declared.place.Place.{Place}
use Rattle.alias_hir.specs.declared.terminal.Terminal.{Terminal}
use Rattle.alias_hir.specs.declared.terminal.Terminal.TheVariants as terminal
use Rattle.alias_graph.specs.declared.types.EdgeKind.{EdgeKind}
use Rattle.alias_graph.specs.declared.types.EdgeKind.TheVariants.{Alias, Capture, MaybeAlias}
use Rattle.alias_graph.specs.declared.types.NodeValue.TheVariants.{Object}
use Rattle.alias_graph.specs.declared.recorded.listing.Listing.{Listing}
use Rattle.alias_graph.specs.recorded.BlockListings.{phi_listed, returns_listed, alias_listed, aliases_in, with_pending}
use Rattle.alias_graph.specs.recorded.BlockListings.{end_listed, block_listed, blocks_listed, first_listing, listed}
use Rattle.alias_graph.specs.recorded.Each.{each}
use Rattle.alias_graph.specs.recorded.IdSets.{has_made}
use Rattle.alias_graph.specs.recorded.Listings.{position_after, made, made_once, linked, effect_listed, effects_in}
use Rattle.alias_graph.specs.recorded.Listings.{recorded_in, instruction_listed}
use Rattle.alias_range_pass.specs.Passes.{Ranged, ranged, range_pass}
use Rattle.alias_range_pass.specs.Refusals.{unreplaced, none_unreplaced, listing_or, positions_left, recorded}
use Rattle.alias_range_pass.specs.summary.Summaries.{tracked}
use Rattle.alias_answer_laws.specs.answers.Avoiding.{Avoids, Answered, avoids_then}
use Rattle.alias_made_result_laws.specs.counts.PassCounts.{is_too_many}

-- k positions at most were taken
abbrev pub TakesAt : ℕ → Listing → Result Listing HirError → Type 0
TakesAt k l (Ok m) = m.next ≤ l.next + k
TakesAt k l (Err (hir.TooMany which)) = ⊥
TakesAt k l (Err (hir.Memory e)) = Unit {0}

-- so it is, where there are as many
abbrev pub Takes : ℕ → (Listing → Result Listing HirError) → Type 0
Takes k f = (l : Listing) → l.next + k ≤ 4294967295 → TakesAt k l (f l)

-- ---- steps one after the other

takes_more : (j k : ℕ) (l m : Listing) (r : Result Listing HirError) → m.next + j ≤ l.next + k → TakesAt j m r
    → TakesAt k l r
takes_more j k l m (Ok n) h a = omega (arith, h, a)
takes_more j k l m (Err (hir.TooMany which)) h a = a
takes_more j k l m (Err (hir.Memory e)) h a = a

takes_bound : (j k : ℕ) (l : Listing) (r : Result Listing HirError) (g : Listing → Result Listing HirError) → l.next
    + (j + k) ≤ 4294967295 → TakesAt j l r → Takes k g → TakesAt (j + k) l (r >>= g)
takes_bound j k l (Ok m) g room a h = takes_more k (j + k) l m (g m) (omega (arith, a)) (h m (omega (arith, room, a)))
takes_bound j k l (Err (hir.TooMany which)) g room a h = a
takes_bound j k l (Err (hir.Memory e)) g room a h = a

takes_then : (j k : ℕ) (f g : Listing → Result Listing HirError) → Takes j f → Takes k g
    → Takes (j + k) (λ l. f l >>= g)
takes_then j k f g h m l room = takes_bound j k l (f l) g room (h l (omega (arith, room))) m

takes_on : (j k : ℕ) (f : Listing → Result Listing HirError) → j ≤ k → Takes j f → Takes k f
takes_on j k f le h l room = takes_more j k l l (f l) (omega (arith, le)) (h l (omega (arith, le, room)))

takes_none : (k : ℕ) → Takes k (λ l. Ok l)
takes_none k l room = omega arith

-- one for each item of a list
takes_each : {X : Type 0} (f : X → Listing → Result Listing HirError) → ((x : X) → Takes 1 (f x)) → (xs : List X)
    → Takes (length xs) (each f xs)
takes_each f h [] = takes_none 0
takes_each f h (x ∷ xs) = takes_on (1 + length xs) (length (x ∷ xs)) (each f (x ∷ xs)) (omega arith)
    (takes_then 1 (length xs) (f x) (each f xs) (h x) (takes_each f h xs))

-- ---- one effect

less : (m n : ℕ) → m < n → nat_lt m n ≡ true
less m n h = grind (arith, nat_tests)

positioned_if : (n : ℕ) (l : Listing) (g : ℕ → Result Listing HirError) (b : Bool) → b ≡ true → TakesAt 1 l (g (n + 1))
    → TakesAt 1 l ((if b then Ok (n + 1) else Err (hir.TooMany GraphPositions)) >>= g)
positioned_if n l g true h a = a
positioned_if n l g false h a = cc

-- at the next position, whatever is recorded there
at_position : (l : Listing) (g : ℕ → Result Listing HirError) → l.next + 1 ≤ 4294967295 → TakesAt 1 l (g (l.next + 1))
    → TakesAt 1 l (position_after l.next >>= g)
at_position l g room a = positioned_if l.next l g (nat_lt l.next 4294967295)
    (less l.next 4294967295 (omega (arith, room))) a

linked_takes : (k : EdgeKind) (a x : Place) → Takes 1 (linked k a x)
linked_takes k a x l room = at_position l _ room (omega arith)

next_if : (b : Bool) (l m : Listing) → m.next ≡ l.next → (if b then l else m).next ≡ l.next
next_if true l m h = refl
next_if false l m h = h

once_next : (x : Place) (l : Listing) → (made_once x l).next ≡ l.next
once_next x l = next_if (has_made l.events x.identifier) l (made Object x l) refl

assigned_takes : (a x : Place) → Takes 1 (λ l. linked Alias a x (made_once x l))
assigned_takes a x l room =
    let same : (made_once x l).next ≡ l.next = once_next x l in
    takes_more 1 1 l (made_once x l) (linked Alias a x (made_once x l)) (omega (arith, same))
    (linked_takes Alias a x (made_once x l) (omega (arith, same, room)))

effect_takes : (i : InstructionId) (o : EvaluationOrder) (e : AliasingEffect) → Takes 1 (effect_listed i o e)
effect_takes i o (effect.CreateFrom a x) l room = at_position l _ room (omega arith)
effect_takes i o (effect.Assign a x) l room = assigned_takes a x l room
effect_takes i o (effect.Alias a x) l room = linked_takes Alias a x l room
effect_takes i o (effect.Capture a x) l room = linked_takes Capture a x l room
effect_takes i o (effect.MaybeAlias a x) l room = linked_takes MaybeAlias a x l room
effect_takes i o (effect.Render x) l room = at_position l _ room (omega arith)
effect_takes i o (effect.Mutate x reason) l room = at_position l _ room (omega arith)
effect_takes i o (effect.MutateConditionally x) l room = at_position l _ room (omega arith)
effect_takes i o (effect.MutateTransitive x) l room = at_position l _ room (omega arith)
effect_takes i o (effect.MutateTransitiveConditionally x) l room = at_position l _ room (omega arith)
effect_takes i o e l room = omega arith

alias_takes : (e : AliasingEffect) → Takes 1 (alias_listed e)
alias_takes (effect.Alias a x) l room = linked_takes Alias a x l room
alias_takes e l room = omega arith

-- ---- instructions and terminals

-- at most k effects are carried
abbrev pub Carries : ℕ → Option (List AliasingEffect) → Type 0
Carries k None = Unit {0}
Carries k (Some es) = length es ≤ k

effects_take : (k : ℕ) (i : InstructionId) (o : EvaluationOrder) (es : Option (List AliasingEffect)) → Carries k es
    → Takes k (effects_in i o es)
effects_take k i o None h = takes_none k
effects_take k i o (Some es) h = takes_on (length es) k (each (effect_listed i o) es) h
    (takes_each (effect_listed i o) (effect_takes i o) es)

aliases_take : (k : ℕ) (es : Option (List AliasingEffect)) → Carries k es → Takes k (aliases_in es)
aliases_take k None h = takes_none k
aliases_take k (Some es) h = takes_on (length es) k (each alias_listed es) h (takes_each alias_listed alias_takes es)

returns_take : (returns : Place) (t : Terminal) → Takes 1 (returns_listed returns t)
returns_take returns (terminal.Return id value effects) l room = linked_takes Alias value returns l room
returns_take returns t l room = omega arith

end_takes : (returns : Place) (k : ℕ) (t : Terminal) → Carries 1 (terminal_effects t) → Takes 2 (end_listed returns k t)
end_takes returns k t h l room = takes_bound 1 1 l (returns_listed returns t (with_pending k l))
    (aliases_in (terminal_effects t)) room (returns_take returns t (with_pending k l) (omega (arith, room)))
    (aliases_take 1 (terminal_effects t) h)

-- ---- blocks

-- no phis, three instructions at most, and a terminal that carries one effect at most
pub record IsShortBlock (b : BlockId × BasicBlock) : Type 0 where
  pub phis : b.1.phis ≡ []
  pub few : length b.1.instructions ≤ 3
  pub ends : Carries 1 (terminal_effects b.1.terminal)

-- an instruction that carries eight effects at most
abbrev pub IsShortInstruction : Instruction → Type 0
IsShortInstruction x = Carries 8 x.effects

-- what holds of all of a list holds of what stands at a place
pub all_at : {X : Type 0} (P : X → Type 0) (xs : List X) (n : ℕ) (x : X) → AllByRecursion P xs → slice_get xs n ≡ Some x
    → P x
all_at P [] n x h e = cc
all_at P (y ∷ ys) zero x h e = let same : y ≡ x = cc in subst P same h.0
all_at P (y ∷ ys) (suc n) x h e = all_at P ys n x h.1 e

module _ (f : HirFunction) (short : AllByRecursion IsShortInstruction f.instructions) where
  recorded_takes : (i : InstructionId) (o : Option Instruction) → slice_get f.instructions i.0 ≡ o
      → Takes 8 (recorded_in i o)
  recorded_takes i None e = takes_none 8
  recorded_takes i (Some n) e = effects_take 8 i n.id n.effects (all_at IsShortInstruction f.instructions i.0 n short e)

  instructions_take : (is : List InstructionId) → Takes (8 * length is) (each (instruction_listed f.instructions) is)
  instructions_take [] = takes_none 0
  instructions_take (i ∷ is) =
      takes_on (8 + 8 * length is) (8 * length (i ∷ is)) (each (instruction_listed f.instructions) (i ∷ is))
      (omega arith)
      (takes_then 8 (8 * length is) (instruction_listed f.instructions i) (each (instruction_listed f.instructions) is)
      (recorded_takes i (slice_get f.instructions i.0) refl) (instructions_take is))

  without_phis : (k : ℕ) (b : BasicBlock) (phis : List Phi) → phis ≡ [] → length b.instructions ≤ 3
      → Carries 1 (terminal_effects b.terminal)
      → Takes 26 (λ l. each (phi_listed f.body.blocks k) phis l
      >>= (λ p. each (instruction_listed f.instructions) b.instructions p >>= end_listed f.returns k b.terminal))
  without_phis k b [] e few ends =
      takes_on (8 * length b.instructions + 2) 26
      (λ l. each (instruction_listed f.instructions) b.instructions l >>= end_listed f.returns k b.terminal)
      (omega (arith, few))
      (takes_then (8 * length b.instructions) 2 (each (instruction_listed f.instructions) b.instructions)
      (end_listed f.returns k b.terminal) (instructions_take b.instructions)
      (end_takes f.returns k b.terminal ends))
  without_phis k b (p ∷ ps) e few ends = cc

  block_takes : (k : ℕ) (b : BlockId × BasicBlock) → IsShortBlock b → Takes 26 (block_listed f k b.1)
  block_takes k b h = without_phis k b.1 b.1.phis h.phis h.few h.ends

  blocks_take : (bs : List (BlockId × BasicBlock)) (k : ℕ) → AllByRecursion IsShortBlock bs
      → Takes (26 * length bs) (blocks_listed f k bs)
  blocks_take [] k h = takes_none 0
  blocks_take (b ∷ bs) k h =
      takes_on (26 + 26 * length bs) (26 * length (b ∷ bs)) (blocks_listed f k (b ∷ bs)) (omega arith)
      (takes_then 26 (26 * length bs) (block_listed f k b.1) (blocks_listed f (k + 1) bs) (block_takes k b h.0)
      (blocks_take bs (k + 1) h.1))

-- ---- the range pass

-- 1,001 blocks at most, which are short, as are the instructions
pub record IsShortFunction (f : HirFunction) : Type 0 where
  pub instructions : AllByRecursion IsShortInstruction f.instructions
  pub blocks : AllByRecursion IsShortBlock f.body.blocks
  pub few : length f.body.blocks ≤ 1001
  pub tracked : length (tracked f) ≤ 1

abbrev Few : Listing → Type 0
Few l = l.next ≤ 26026

no_counter : (l : Listing) (r : Result Listing HirError) → l.next ≡ 0 → TakesAt 26026 l r
    → Avoids is_too_many Few (listing_or r)
no_counter l (Ok m) none h = omega (arith, none, h)
no_counter l (Err (hir.TooMany which)) none h = absurd h
no_counter l (Err (hir.Memory e)) none h = refl

left_avoids : (o : Option InstructionId) → Avoids is_too_many (Answered {A = ⊤}) (none_unreplaced o)
left_avoids None = tt
left_avoids (Some i) = refl

room_avoids : (b : Bool) → b ≡ true → (let r : Result ⊤ InferError = if b then Ok tt
    else Err (error.TooMany GraphPositions) in Avoids is_too_many (Answered {A = ⊤}) r)
room_avoids true h = tt
room_avoids false h = cc

within : (m n : ℕ) → m ≤ n → nat_le m n ≡ true
within m n h = grind (arith, nat_tests)

module _ (f : HirFunction) (h : IsShortFunction f) where
  listed_few : Avoids is_too_many Few (listing_or (listed f))
  listed_few =
      no_counter (first_listing f) (listed f) refl
      (takes_on (26 * length f.body.blocks) 26026 (blocks_listed f 0 f.body.blocks) (omega (arith, h.few))
      (blocks_take f h.instructions f.body.blocks 0 h.blocks) (first_listing f) (omega arith))

  recorded_avoids : Avoids is_too_many (Answered {A = Listing}) (recorded f)
  recorded_avoids =
      avoids_then is_too_many (Answered {A = ⊤}) (Answered {A = Listing}) (none_unreplaced (unreplaced f))
      (λ q. listing_or (listed f) >>= (λ l. positions_left l.next (length (tracked f)) >>= (λ t. Ok l)))
      (left_avoids (unreplaced f)) (λ q t.
      avoids_then is_too_many Few (Answered {A = Listing}) (listing_or (listed f))
      (λ l. positions_left l.next (length (tracked f)) >>= (λ t. Ok l)) listed_few (λ l few.
      avoids_then is_too_many (Answered {A = ⊤}) (Answered {A = Listing}) (positions_left l.next (length (tracked f)))
      (λ t. Ok l)
      (room_avoids (nat_le (l.next + length (tracked f)) 4294967295)
      (within (l.next + length (tracked f)) 4294967295 (omega (arith, few, h.tracked)))) (λ t a. tt)))

  -- the range pass of such a function is refused for no counter
  pub ranges_avoid : (b : Bool) (env : Environment) → Avoids is_too_many (Answered {A = Ranged}) (range_pass b f env)
  ranges_avoid b env = avoids_then is_too_many (Answered {A = Listing}) (Answered {A = Ranged}) (recorded f)
      (λ l. Ok (ranged b f env l)) recorded_avoids (λ l t. tt)
