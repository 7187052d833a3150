-- What callers see of a function, and what the passes keep of it.
use Rattle.std.specs.Prelude.{◌≡◌, ℕ, ◌<◌, ◌≤◌, ◌+◌, Bool, true, false, if◌then◌else◌, List, [], ◌∷◌, ◌++◌, Option}
use Rattle.std.specs.Prelude.{Some, None, Ok, map, length, slice_get, refl}
use Rattle.std.proofs.Common.{zero, suc, ap, sym, ◌∙◌, subst, arith}
use Rattle.std.specs.List.{AllByRecursion}
use Rattle.alias_base.specs.declared.ids.FunctionId.{FunctionId}
use Rattle.alias_base.specs.declared.ids.InstructionId.{InstructionId}
use Rattle.alias_rules.specs.function_rules.Rules.{first_again, own_identifiers, repeated, places_distinct}
use Rattle.alias_hir.specs.Parts.{param_place}
use Rattle.alias_hir.specs.Values.{created}
use Rattle.alias_hir.specs.declared.effect.AliasingEffect.{AliasingEffect}
use Rattle.alias_hir.specs.declared.env.Environment.{Environment}
use Rattle.alias_hir.specs.declared.hir.BasicBlock.{BasicBlock}
use Rattle.alias_hir.specs.declared.hir.HirFunction.{HirFunction}
use Rattle.alias_hir.specs.declared.hir.Instruction.{Instruction}
use Rattle.alias_hir.specs.declared.hir.ParamPattern.{ParamPattern}
use Rattle.alias_hir.specs.declared.hir.ParamPattern.TheVariants as param
use Rattle.alias_hir.specs.declared.place.Effect.TheVariants.{Capture}
use Rattle.alias_hir.specs.declared.place.Place.{Place}
use Rattle.alias_graph.specs.Nodes.{Nodes}
use Rattle.alias_graph.specs.Reach.{but_end}
use Rattle.alias_graph.specs.recorded.Recording.{graph_listed}
use Rattle.alias_graph.specs.declared.recorded.listing.Listing.{Listing}
use Rattle.alias_graph.specs.declared.recorded.listing.RecordedMutation.{RecordedMutation}
use Rattle.alias_range_pass.specs.places.Blocks.{Placed, block_merged, placed_at, block_placed, blocks_placed}
use Rattle.alias_range_pass.specs.places.Blocks.{function_placed}
use Rattle.alias_range_pass.specs.places.Instructions.{instruction_placed, placed_in, instruction_at}
use Rattle.alias_range_pass.specs.places.Instructions.{instructions_placed}
use Rattle.alias_range_pass.specs.places.Keeping.{but_effect, but_context, but_range, EnvKept}
use Rattle.alias_range_pass.specs.places.KeepLaws.{merged_keeps, instruction_keeps}
use Rattle.alias_range_pass.specs.summary.Keeping.{WalksKeep}
use Rattle.alias_range_pass.specs.summary.KeepingLaws.{walk_keeps}
use Rattle.alias_range_pass.specs.summary.MarkedPlaces.{is_marked, captured, param_captured, function_captured}
use Rattle.alias_range_pass.specs.summary.Walking.{Walked, start_origin, expanded, after_mutation, after_mutations}
use Rattle.alias_range_pass.specs.summary.Walking.{mutation_start, env_reported, mutations_done}
use Rattle.alias_completeness.specs.Callable.{IsSummary, IsCallable, AreCallable, CreatesCallable}
use Rattle.alias_completeness.specs.Facing.{callable}
use Rattle.alias_completeness.specs.summaries.KeptTables.{TablesKept, tables_self, tables_then, tables_alike}
use Rattle.alias_completeness.specs.summaries.KeptTables.{bound_alike}

-- ---- a face

-- the function's own identifiers are distinct, and what it returns is in the table
pub record HasPlaces (n : ℕ) (f : HirFunction) : Type 0 where
  pub distinct : places_distinct None f ≡ Ok tt
  pub within : f.returns.identifier.0 < n

-- its summary, if it has one, is in order
pub record HasFace (n : ℕ) (f : HirFunction) : Type 0 where
  pub places : HasPlaces n f
  pub summary : (es : List AliasingEffect) → f.aliasing_effects ≡ Some es → IsSummary f.returns.identifier.0 es

pub face_callable : (env : Environment) (f : HirFunction) → HasFace (length env.identifiers) f → IsCallable env f
face_callable env f h = callable env None f h.places.distinct h.places.within h.summary

-- of all functions of a table
abbrev pub HaveFaces : ℕ → List HirFunction → Type 0
HaveFaces n fs = AllByRecursion (HasFace n) fs

got : {X : Type 0} (P : X → Type 0) (xs : List X) (n : ℕ) (x : X) → slice_get xs n ≡ Some x → AllByRecursion P xs → P x
got P [] n x e h = cc
got P (y ∷ ys) zero x e h = let same : y ≡ x = cc in subst P same h.0
got P (y ∷ ys) (suc n) x e h = got P ys n x e h.1

pub faces_callable : (env : Environment) → HaveFaces (length env.identifiers) env.functions → AreCallable env
faces_callable env h = λ n f e. face_callable env f (got (HasFace (length env.identifiers)) env.functions n f e h)

-- of those functions of a table whose numbers are these
abbrev pub TheseHaveFaces : (ℕ → Type 0) → ℕ → List HirFunction → Type 0
TheseHaveFaces These n fs = (k : ℕ) (f : HirFunction) → These k → slice_get fs k ≡ Some f → HasFace n f

-- where those that a function creates are among them, they are callable
pub faces_create : (env : Environment) (g : HirFunction) (These : ℕ → Type 0)
    → TheseHaveFaces These (length env.identifiers) env.functions
    → ((i : InstructionId) (x : Instruction) (c : FunctionId) → slice_get g.instructions i.0 ≡ Some x
    → created x.value ≡ Some c → These c.0) → CreatesCallable env g
faces_create env g These faces these i x c found makes h at =
    face_callable env h (faces c.0 h (these i x c found makes) at)

-- ---- the same places

abbrev pub ids : List Place → List ℕ
ids ps = map (λ (p : Place). p.identifier.0) ps

abbrev param_ids : List ParamPattern → List ℕ
param_ids ps = map (λ p. (param_place p).identifier.0) ps

pub same_ids : (h : Place → Place) → ((p : Place) → (h p).identifier ≡ p.identifier) → (ps : List Place)
    → ids (map h ps) ≡ ids ps
same_ids h e [] = refl
same_ids h e (p ∷ ps) = ap (λ z. z.0 ∷ ids (map h ps)) (e p) ∙ ap (λ z. p.identifier.0 ∷ z) (same_ids h e ps)

-- a function with the identifiers of another one in its own places
pub record SameOwn (f g : HirFunction) : Type 0 where
  pub params : param_ids g.params ≡ param_ids f.params
  pub context : ids g.context ≡ ids f.context
  pub returns : g.returns ≡ f.returns

own_of : List ℕ → List ℕ → Place → List ℕ
own_of ps cs r = ps ++ cs ++ r.identifier.0 ∷ []

same_own : (f g : HirFunction) → SameOwn f g → own_identifiers g ≡ own_identifiers f
unfolding own_of
same_own f g h = ap (λ z. own_of z (ids g.context) g.returns) h.params
    ∙ ap (λ z. own_of (param_ids f.params) z g.returns) h.context
    ∙ ap (own_of (param_ids f.params) (ids f.context)) h.returns

pub places_alike : (n m : ℕ) (f g : HirFunction) → SameOwn f g → n ≤ m → HasPlaces n f → HasPlaces m g
places_alike n m f g same l h =
    let r : g.returns.identifier.0 ≡ f.returns.identifier.0 = ap (λ (p : Place). p.identifier.0) same.returns in
    let w = h.within in
    record {
      distinct = ap (λ xs. repeated None (first_again [] xs)) (same_own f g same) ∙ h.distinct;
      within = subst (λ (z : ℕ). z < m) (sym r) (omega arith);
    }

pub face_alike : (n m : ℕ) (f g : HirFunction) → SameOwn f g → g.aliasing_effects ≡ f.aliasing_effects → n ≤ m
    → HasFace n f → HasFace m g
face_alike n m f g same summary l h =
    record {
      places = places_alike n m f g same l h.places;
      summary = λ es e. subst (λ (p : Place). IsSummary p.identifier.0 es) (sym same.returns)
          (h.summary es (sym summary ∙ e));
    }

pub same_own_then : (f g h : HirFunction) → SameOwn f g → SameOwn g h → SameOwn f h
same_own_then f g h a b = record {
  params = b.params ∙ a.params;
  context = b.context ∙ a.context;
  returns = b.returns ∙ a.returns;
}

-- ---- functions in their slots

pub context_ids : (f g : HirFunction) → but_context g ≡ but_context f → ids g.context ≡ ids f.context
context_ids f g e = sym (same_ids but_effect (λ p. refl) g.context) ∙ ap (λ (h : HirFunction). ids h.context) e
    ∙ same_ids but_effect (λ p. refl) f.context

pub in_slot : (f g : HirFunction) → but_context g ≡ but_context f → SameOwn f g
in_slot f g e = record {
  params = ap (λ (h : HirFunction). param_ids h.params) e;
  context = context_ids f g e;
  returns = ap (λ (h : HirFunction). h.returns) e;
}

pub faces_alike : (n m : ℕ) (fs gs : List HirFunction) → map but_context gs ≡ map but_context fs → n ≤ m
    → HaveFaces n fs → HaveFaces m gs
faces_alike n m [] [] e l h = tt
faces_alike n m [] (g ∷ gs) e l h = cc
faces_alike n m (f ∷ fs) [] e l h = cc
faces_alike n m (f ∷ fs) (g ∷ gs) e l h =
    let one : but_context g ≡ but_context f = cc in
    let rest : map but_context gs ≡ map but_context fs = cc in (
      face_alike n m f g (in_slot f g one) (ap (λ (h : HirFunction). h.aliasing_effects) one) l h.0,
      faces_alike n m fs gs rest l h.1,
    )

-- ---- environments

-- functions stay but for the effects of context places, and so do the entries of the tables
pub record Stays (old new : Environment) : Type 0 where
  pub functions : map but_context new.functions ≡ map but_context old.functions
  pub tables : TablesKept old new

pub stays_self : (env : Environment) → Stays env env
stays_self env = record { functions = refl; tables = tables_self env }

pub stays_then : (a b c : Environment) → Stays a b → Stays b c → Stays a c
stays_then a b c g h = record { functions = h.functions ∙ g.functions; tables = tables_then a b c g.tables h.tables }

kept_stays : (old new : Environment) → EnvKept old new → Stays old new
kept_stays old new k = record {
  functions = ap (λ (e : Environment). e.functions) k.rest;
  tables = tables_alike old new (bound_alike but_range (λ i. refl) old.identifiers new.identifiers
      (ap (λ (e : Environment). e.identifiers) k.rest)) (ap (λ (e : Environment). e.types) k.rest)
      (ap (λ (e : Environment). e.shapes) k.rest) (ap (λ (e : Environment). e.config) k.rest);
}

walk_stays : (old new : Environment) → WalksKeep old new → Stays old new
walk_stays old new k = record {
  functions = ap (λ (e : Environment). map but_context e.functions) k.rest;
  tables = tables_alike old new (bound_alike but_end (λ i. refl) old.identifiers new.identifiers
      (ap (λ (e : Environment). e.identifiers) k.rest)) (ap (λ (e : Environment). e.types) k.rest)
      (ap (λ (e : Environment). e.shapes) k.rest) (ap (λ (e : Environment). e.config) k.rest);
}

-- ---- the range pass

walks_stay : (r : Bool) (ms : List RecordedMutation) (w : Walked) → Stays w.1 (after_mutations r ms w).1
walks_stay r [] w = stays_self w.1
walks_stay r (m ∷ ms) w =
    stays_then w.1 (after_mutation r w m).1 (after_mutations r ms (after_mutation r w m)).1
    (walk_stays w.1 (after_mutation r w m).1
    (walk_keeps r (mutation_start m).index (start_origin (mutation_start m)) (mutation_start m).end w.0
    (expanded w.0 (mutation_start m)) w.1 (after_mutation r w m).1 refl)) (walks_stay r ms (after_mutation r w m))

-- of a nested function, of which no report is recorded
pub mutations_stay : (l : Listing) (env : Environment) → Stays env (mutations_done false l env).1
mutations_stay l env =
    let begun : Environment = env_reported false l env in
    let kept : TablesKept env begun = record {
      identifiers = λ k h. refl;
      longer = omega arith;
      types = λ k h. refl;
      more_types = omega arith;
      shapes = refl;
      config = refl;
    } in
    let reported : Stays env begun = record { functions = refl; tables = kept } in
    stays_then env begun (mutations_done false l env).1 reported (walks_stay false l.mutations (graph_listed l, begun))

placed_stays : (is : List Instruction) (env : Environment) (id : InstructionId) (o : Option Instruction)
    → Stays env (placed_in is env id o).1
placed_stays is env id None = stays_self env
placed_stays is env id (Some i) = kept_stays env (instruction_placed i env).1 (instruction_keeps i env)

instructions_stay : (ids : List InstructionId) (s : List Instruction × Environment)
    → Stays s.1 (instructions_placed ids s).1
instructions_stay [] s = stays_self s.1
instructions_stay (id ∷ ids) s =
    stays_then s.1 (instruction_at s id).1 (instructions_placed ids (instruction_at s id)).1
    (placed_stays s.0 s.1 id (slice_get s.0 id.0)) (instructions_stay ids (instruction_at s id))

-- the function's own places stay, and the environment
pub record PlacedStays (s t : Placed) : Type 0 where
  pub own : SameOwn s.0 t.0
  pub env : Stays s.1 t.1

own_self : (f : HirFunction) → SameOwn f f
own_self f = record { params = refl; context = refl; returns = refl }

slot_stays : (b : Bool) (k : ℕ) (o : Option BasicBlock) (s : Placed) → PlacedStays s (placed_at b k o s)
slot_stays b k None s = record { own = own_self s.0; env = stays_self s.1 }
slot_stays b k (Some x) s = record {
  own = record { params = refl; context = refl; returns = refl };
  env = stays_then s.1 (block_merged s.0 x s.1) _ (kept_stays s.1 (block_merged s.0 x s.1) (merged_keeps s.0 x s.1))
      (instructions_stay x.instructions (s.0.instructions, block_merged s.0 x s.1));
}

blocks_stay : (b : Bool) (n k : ℕ) (s : Placed) → PlacedStays s (blocks_placed b n k s)
blocks_stay b zero k s = record { own = own_self s.0; env = stays_self s.1 }
blocks_stay b (suc n) k s =
    let one : PlacedStays s (block_placed b k s) = slot_stays b k _ s in
    let rest : PlacedStays (block_placed b k s) (blocks_placed b n (k + 1) (block_placed b k s)) =
    blocks_stay b n (k + 1) (block_placed b k s) in
    record {
      own = same_own_then s.0 (block_placed b k s).0 (blocks_placed b n (k + 1) (block_placed b k s)).0 one.own
          rest.own;
      env = stays_then s.1 (block_placed b k s).1 (blocks_placed b n (k + 1) (block_placed b k s)).1 one.env
          rest.env;
    }

pub function_stays : (b : Bool) (s : Placed) → PlacedStays s (function_placed b s)
function_stays b s = blocks_stay b (length s.0.body.blocks) 0 s

marked_or_not : (b : Bool) (x : Place) → (if b then record x { effect = Capture } else x).identifier ≡ x.identifier
marked_or_not true x = refl
marked_or_not false x = refl

captured_param : (g : Nodes) (p : ParamPattern) → (param_place (param_captured g p)).identifier
    ≡ (param_place p).identifier
captured_param g (param.Place x) = marked_or_not (is_marked g x.identifier) x
captured_param g (param.Spread s) = marked_or_not (is_marked g s.place.identifier) s.place

captured_params : (g : Nodes) (ps : List ParamPattern) → param_ids (map (param_captured g) ps) ≡ param_ids ps
captured_params g [] = refl
captured_params g (p ∷ ps) = ap (λ z. z.0 ∷ param_ids (map (param_captured g) ps)) (captured_param g p)
    ∙ ap (λ z. (param_place p).identifier.0 ∷ z) (captured_params g ps)

-- marked places keep their identifiers
pub captured_own : (g : Nodes) (f : HirFunction) → SameOwn f (function_captured g f)
captured_own g f = record {
  params = captured_params g f.params;
  context = same_ids (captured g) (λ p. marked_or_not (is_marked g p.identifier) p) f.context;
  returns = refl;
}
