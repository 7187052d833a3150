-- The range pass over functions that carry alike, in environments that are alike.
use Rattle.std.specs.Prelude.{◌≡◌, ℕ, zero, suc, ◌⊎◌, Bool, false, List, [], ◌∷◌, Option, Ok, length, refl}
use Rattle.std.proofs.Common.{ap, sym, subst, inl, inr, ⊎_elim}
use Rattle.std.specs.Option.{option_map_or}
use Rattle.alias_base.specs.Answer.{◌>>=◌}
use Rattle.alias_base.specs.declared.ids.BlockId.{BlockId}
use Rattle.alias_hir.specs.declared.effect.AliasingEffect.{AliasingEffect}
use Rattle.alias_hir.specs.declared.env.Environment.{Environment}
use Rattle.alias_hir.specs.declared.hir.BasicBlock.{BasicBlock}
use Rattle.alias_hir.specs.declared.hir.HirFunction.{HirFunction}
use Rattle.alias_hir.specs.declared.hir.Instruction.{Instruction}
use Rattle.alias_hir.specs.declared.place.Place.{Place}
use Rattle.alias_hir.specs.declared.report.Interned.{Interned}
use Rattle.alias_graph.specs.Nodes.{Nodes}
use Rattle.alias_graph.specs.declared.recorded.listing.Listing.{Listing}
use Rattle.alias_range_pass.specs.places.Blocks.{function_placed}
use Rattle.alias_range_pass.specs.summary.MarkedPlaces.{function_captured}
use Rattle.alias_range_pass.specs.summary.Summaries.{summarized}
use Rattle.alias_range_pass.specs.summary.Walking.{Walked, mutations_done, renders_done}
use Rattle.alias_range_pass.specs.Passes.{records, Ranged, ranged_after, range_pass}
use Rattle.alias_range_pass.specs.Refusals.{recorded}
use Rattle.alias_certificate_laws.specs.accepting.Alike.{Paired, none, more, AlikeEffects, AlikeFunction, seen}
use Rattle.alias_certificate_laws.specs.accepting.Alike.{Elsewhere}
use Rattle.alias_range_alike_laws.specs.Ranging.{CarryAlike, EndAlike, CarriesAlike, NearlyAlike, near, Nearby, nearby}
use Rattle.alias_range_alike_laws.specs.Ranging.{SameContextAt, RangesAlike, RangesNearby}
use Rattle.alias_range_alike_laws.proofs.Answers.{Both, answered, both_then, Beside, beside}
use Rattle.alias_range_alike_laws.proofs.Around.{NearAt, AlikeEnv, of_env}
use Rattle.alias_range_alike_laws.proofs.Blocks.{with_parts}
use Rattle.alias_range_alike_laws.proofs.Functions.{AlikeForm, of_form, carries_alike, parts_are, AlikePlacing}
use Rattle.alias_range_alike_laws.proofs.Functions.{weaken_placing, SlotSets, function_alike, slot_sets}
use Rattle.alias_range_alike_laws.proofs.Listings.{AlikeListing, listing}
use Rattle.alias_range_alike_laws.proofs.Nodes.{AlikeNodes}
use Rattle.alias_range_alike_laws.proofs.Recording.{recordings_alike}
use Rattle.alias_range_alike_laws.proofs.Summaries.{summary_alike, function_same}
use Rattle.alias_range_alike_laws.proofs.Walks.{AlikeWalked, mutations_done_alike, renders_done_alike}

-- ---- what the pass gives

pub record AlikeRanged (P : ℕ → Type 0) (recording : Bool) (interned : List Interned) (r s : Ranged) : Type 0 where
  pub summary : AlikeEffects r.summary s.summary
  pub after : AlikePlacing P recording interned r.after s.after

module _ (P : ℕ → Type 0) (recording : Bool) (interned : List Interned) (b : Bool) (f : HirFunction)
    (is : List Instruction) (bs : List (BlockId × BasicBlock)) (carry : Paired CarryAlike f.instructions is)
    (ends : Paired EndAlike f.body.blocks bs) where
  abbrev g : HirFunction
  g = with_parts f is bs

  abbrev Q : ℕ → Type 0
  Q = λ k. P k ⊎ SlotSets f 0 (length f.body.blocks) k

  same_next : (l m : Listing) → AlikeListing l m → m.next ≡ l.next
  same_next l m (listing _ ms rs es x y z) = refl

  begins_alike : (l m : Listing) → AlikeListing l m → AlikeEffects l.summary m.summary
  begins_alike l m (listing _ ms rs es x y z) = z

  -- the summary reads no function and no report
  summaries_alike : (n h : Nodes) (next : ℕ) (env other : Environment) (begin es : List AliasingEffect) → AlikeNodes n h
      → AlikeEffects begin es → AlikeEnv P recording interned env other
      → AlikeEffects (summarized n next f env begin) (summarized h next g other es)
  summaries_alike n h next env other begin es q a (of_env _ fs errors z same) =
      summary_alike n h next f env begin es q a

  captured_alike : (n h : Nodes) → AlikeNodes n h → AlikeForm (function_captured n f) (function_captured h g)
  captured_alike n h q = subst (λ (z : HirFunction). AlikeForm (function_captured n f) (with_parts z is bs))
      (sym (function_same n h q f)) (of_form (function_captured n f) is bs carry ends)

  -- what is captured has the same blocks and instructions
  captured_slots : (n : Nodes) (k : ℕ) → SlotSets f 0 (length f.body.blocks) k
      → SlotSets (function_captured n f) 0 (length f.body.blocks) k
  captured_slots n k h = record { slot = h.slot; from = h.from; below = h.below; sets = h.sets }

  after_alike : (l m : Listing) (w v : Walked) (env other : Environment) → AlikeListing l m
      → AlikeWalked P recording interned w v → AlikeEnv P recording interned env other
      → AlikeRanged Q recording interned (ranged_after b f l w env) (ranged_after b g m v other)
  after_alike l m w v env other a q r = record {
    summary =
        subst (λ (next : ℕ). AlikeEffects (summarized w.0 l.next f env l.summary)
        (summarized v.0 next g other m.summary)) (sym (same_next l m a))
        (summaries_alike w.0 v.0 l.next env other l.summary m.summary q.nodes (begins_alike l m a) r);
    after =
        weaken_placing Q (λ k. P k ⊎ SlotSets (function_captured w.0 f) 0 (length f.body.blocks) k) recording interned
        (λ k. ⊎_elim (λ h. inl h) (λ h. inr (captured_slots w.0 k h)))
        (function_placed b (function_captured w.0 f, env)) (function_placed b (function_captured v.0 g, other))
        (function_alike recording interned b P (function_captured w.0 f, env) (function_captured v.0 g, other)
        (record { function = captured_alike w.0 v.0 q.nodes; env = r }));
  }

  -- with the flag whether errors are recorded
  abbrev ranged_by : HirFunction → Environment → Listing → Ranged
  ranged_by h env l = ranged_after b h l (mutations_done recording l env)
      (renders_done recording l (mutations_done recording l env))

  ranged_alike : (l m : Listing) (env other : Environment) → AlikeListing l m → AlikeEnv P recording interned env other
      → AlikeRanged Q recording interned (ranged_by f env l) (ranged_by g other m)
  ranged_alike l m env other a q =
      let w : Walked = mutations_done recording l env in
      let v : Walked = mutations_done recording m other in
      let walked = mutations_done_alike P recording interned l m env other a q in
      after_alike l m w v (renders_done recording l w) (renders_done recording m v) a walked
      (renders_done_alike P interned recording l m w v a walked)

  pub pass_alike : (env other : Environment) → AlikeEnv P recording interned env other
      → Both (AlikeRanged Q recording interned) (recorded f >>= (λ l. Ok (ranged_by f env l)))
      (recorded g >>= (λ l. Ok (ranged_by g other l)))
  pass_alike env other q =
      both_then AlikeListing (AlikeRanged Q recording interned) (recorded f) (recorded g) (λ l. Ok (ranged_by f env l))
      (λ l. Ok (ranged_by g other l)) (recordings_alike f is bs carry ends)
      (λ l m a. answered (ranged_alike l m env other a q))

-- ---- nearby

-- what is nearby, of an environment
record IsNearby (P : ℕ → Type 0) (recording : Bool) (interned : List Interned) (env other : Environment) : Type 0 where
  functions : List HirFunction
  near : NearAt P env.functions functions
  is : record other { errors = env.errors } ≡ record env { functions = functions; interned = interned }
  errors : recording ≡ false → other.errors ≡ env.errors

is_nearby : (P : ℕ → Type 0) (recording : Bool) (interned : List Interned) (env other : Environment)
    → AlikeEnv P recording interned env other → IsNearby P recording interned env other
is_nearby P recording interned env other (of_env _ fs errors q same) =
    record { functions = fs; near = q; is = refl; errors = same }

module _ (env : Environment) (o : Nearby env) (f : HirFunction) (b : Bool) (r : Ranged) where
  abbrev Kept : ℕ → Type 0
  Kept k = SameContextAt env.functions o.functions k

  abbrev Known : ℕ → Type 0
  Known k = Kept k ⊎ SlotSets f 0 (length f.body.blocks) k

  given : (g : HirFunction) → Beside (AlikeRanged Known (records b env) o.interned) r (range_pass b g (nearby env o))
      → RangesNearby env o f g b r
  given g s =
      let e = is_nearby Known (records b env) o.interned r.after.1 s.other.after.1 s.alike.after.env in
      record {
        other = s.other;
        is = s.is;
        summary = s.alike.summary;
        function = carries_alike r.after.0 s.other.after.0 s.alike.after.function;
        away = record { functions = e.functions; interned = o.interned; near = e.near.near };
        environment = e.is;
        interned = refl;
        errors = e.errors;
        kept = λ k h. e.near.same k (inl h);
        set = λ k h. e.near.same k (inr (slot_sets f k h));
      }

  begins : AlikeEnv Kept (records b env) o.interned env (nearby env o)
  begins = of_env env o.functions env.errors (record { near = o.near; same = λ k h. h }) (λ off. refl)

  by_parts : (is : List Instruction) (bs : List (BlockId × BasicBlock)) → Paired CarryAlike f.instructions is
      → Paired EndAlike f.body.blocks bs → range_pass b f env ≡ Ok r → RangesNearby env o f (with_parts f is bs) b r
  by_parts is bs carry ends answers =
      given (with_parts f is bs)
      (beside (AlikeRanged Known (records b env) o.interned) (range_pass b f env)
      (range_pass b (with_parts f is bs) (nearby env o)) r
      (pass_alike Kept (records b env) o.interned b f is bs carry ends env (nearby env o) begins) answers)

  pub ranges_nearby : (g : HirFunction) → CarriesAlike f g → range_pass b f env ≡ Ok r → RangesNearby env o f g b r
  ranges_nearby g c answers = subst (λ (h : HirFunction). RangesNearby env o f h b r) (parts_are f g c)
      (by_parts g.instructions g.body.blocks c.instructions c.blocks answers)

-- ---- elsewhere

nearly : (f g : HirFunction) → AlikeFunction f g → NearlyAlike f g
nearly f g (seen _ h a) = near f h f.context refl a

all_nearly : (fs gs : List HirFunction) → Paired AlikeFunction fs gs → Paired NearlyAlike fs gs
all_nearly fs gs none = none
all_nearly fs gs (more {a = f} {b = g} {xs = us} {ys = vs} q qs) = more (nearly f g q) (all_nearly us vs qs)

all_same : (fs gs : List HirFunction) (k : ℕ) → Paired AlikeFunction fs gs → SameContextAt fs gs k
all_same fs gs k none = refl
all_same fs gs zero (more (seen f g a) qs) = refl
all_same fs gs (suc k) (more {xs = us} {ys = vs} q qs) = all_same us vs k qs

wholly : (f g : HirFunction) → NearlyAlike f g → g.context ≡ f.context → AlikeFunction f g
wholly f g (near _ h context same a) is =
    subst (λ (z : List Place). AlikeFunction f (record h { params = f.params; context = z; returns = f.returns }))
    (sym is) (seen f h a)

first_context : (f g : HirFunction) (fs gs : List HirFunction) → SameContextAt (f ∷ fs) (g ∷ gs) 0 → g.context
    ≡ f.context
first_context f g fs gs h = ap (λ (o : Option (List Place)). option_map_or (λ ps. ps) o []) h

all_wholly : (fs gs : List HirFunction) → Paired NearlyAlike fs gs → ((k : ℕ) → SameContextAt fs gs k)
    → Paired AlikeFunction fs gs
all_wholly fs gs none h = none
all_wholly fs gs (more {a = f} {b = g} {xs = us} {ys = vs} q qs) h =
    more (wholly f g q (first_context f g us vs (h 0))) (all_wholly us vs qs (λ k. h (suc k)))

pub ranges_elsewhere : (env : Environment) (o : Elsewhere env) (f g : HirFunction) (b : Bool) (r : Ranged)
    → CarriesAlike f g → range_pass b f env ≡ Ok r → RangesAlike env o g b r
ranges_elsewhere env o f g b r c answers =
    let n : Nearby env = record {
      functions = o.functions;
      interned = o.interned;
      near = all_nearly env.functions o.functions o.alike;
    } in
    let q = ranges_nearby env n f b r g c answers in
    record {
      other = q.other;
      is = q.is;
      summary = q.summary;
      function = q.function;
      away = record {
        functions = q.away.functions;
        interned = q.away.interned;
        alike = all_wholly r.after.1.functions q.away.functions q.away.near
            (λ k. q.kept k (all_same env.functions o.functions k o.alike));
      };
      environment = q.environment;
      errors = q.errors;
    }
