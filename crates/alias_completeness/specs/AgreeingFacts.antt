-- What is known of a function before its instructions are stepped is the same over an environment that agrees on what
-- the function names.
use Rattle.std.specs.Prelude.{◌≡◌, ℕ, ◌<◌, Bool, true, false, cond, if◌then◌else◌, is_some, List, [], ◌∷◌, ◌++◌, Option}
use Rattle.std.specs.Prelude.{Some, None, option_map, option_and_then, map, length, slice_get, refl}
use Rattle.std.proofs.Common.{ap, sym, ◌∙◌}
use Rattle.std.specs.List.{AllByRecursion, fold}
use Rattle.std.specs.Option.{option_map_or}
use Rattle.std.specs.Ordering.{nat_cmp, match_ordering}
use Rattle.std.specs.BTreeMap.{is_at}
use Rattle.std.specs.declared.cmp.Ordering.{Ordering}
use Rattle.std.specs.declared.cmp.Ordering.TheVariants.{Less, Equal, Greater}
use Rattle.alias_base.specs.declared.ids.BlockId.{BlockId}
use Rattle.alias_base.specs.declared.ids.DeclarationId.{DeclarationId}
use Rattle.alias_base.specs.declared.ids.IdentifierId.{IdentifierId}
use Rattle.alias_base.specs.declared.ids.InstructionId.{InstructionId}
use Rattle.alias_facts.specs.Candidates.{first_candidates, with_frozen, spread_of, without_spread, after_use, selves}
use Rattle.alias_facts.specs.Facts.{function_facts}
use Rattle.alias_facts.specs.Hoisted.{Accesses, declaration_of, access_at, with_access, read_by, after_read}
use Rattle.alias_facts.specs.Hoisted.{is_hoisting, with_hoisted, after_value as reads_after}
use Rattle.alias_facts.specs.Hoisted.{after_instruction as reads_after_instruction, after_listed as reads_after_listed}
use Rattle.alias_facts.specs.Hoisted.{after_entry as reads_after_entry}
use Rattle.alias_facts.specs.Numbers.{value_of, with_value}
use Rattle.alias_facts.specs.Spreads.{is_hook_at, after_hook, after_call, after_phi, after_value as spreads_after}
use Rattle.alias_facts.specs.Spreads.{after_instruction as spreads_after_instruction}
use Rattle.alias_facts.specs.Spreads.{after_listed as spreads_after_listed, after_entry as spreads_after_entry}
use Rattle.alias_facts.specs.declared.candidates.Candidates.{Candidates}
use Rattle.alias_hir.specs.ShapeNames.{shape_named}
use Rattle.alias_hir.specs.Tables.{hook_kind_of, hook_kind}
use Rattle.alias_hir.specs.Terminals.{terminal_places}
use Rattle.alias_hir.specs.Types.{function_shape, is_ref_or_ref_value, type_of}
use Rattle.alias_hir.specs.Parts.{places_in_pattern}
use Rattle.alias_hir.specs.Values.{places_of, created}
use Rattle.alias_hir.specs.declared.env.Environment.{Environment}
use Rattle.alias_hir.specs.declared.hir.BasicBlock.{BasicBlock}
use Rattle.alias_hir.specs.declared.hir.HirFunction.{HirFunction}
use Rattle.alias_hir.specs.declared.hir.Instruction.{Instruction}
use Rattle.alias_hir.specs.declared.place.Place.{Place}
use Rattle.alias_hir.specs.declared.signature.Shape.{Shape}
use Rattle.alias_hir.specs.declared.types.Ty.{Ty}
use Rattle.alias_hir.specs.declared.value.InstructionValue.{InstructionValue}
use Rattle.alias_hir.specs.declared.value.InstructionValue.TheVariants.{CallExpression, MethodCall, FunctionExpression}
use Rattle.alias_hir.specs.declared.value.InstructionValue.TheVariants.{ObjectMethod, DeclareLocal, DeclareContext}
use Rattle.alias_hir.specs.declared.value.InstructionValue.TheVariants.{Destructure, StoreLocal, PostfixUpdate}
use Rattle.alias_hir.specs.declared.value.InstructionValue.TheVariants.{PrefixUpdate}
use Rattle.alias_visit.specs.Operands.{context_at, owned_operands}
use Rattle.alias_visit.specs.Places.{created_places}
use Rattle.alias_plainness.specs.Making.{number}
use Rattle.alias_completeness.specs.Agreeing.{Agrees}
use Rattle.alias_completeness.specs.States.{id_of}

-- ---- what an environment has of a function, and another one too

-- the identifier of the place is in the table
abbrev pub InTable : Environment → Place → Type 0
InTable env p = number p < length env.identifiers

-- the places of an instruction, and the context places of the function that it creates, are in the tables
pub record IsInside (env : Environment) (x : Instruction) : Type 0 where
  pub lvalue : InTable env x.lvalue
  pub places : AllByRecursion (InTable env) (places_of x.value)
  pub contexts : AllByRecursion (InTable env) (created_places env (created x.value))

-- so are those of the function
pub record AllInside (env : Environment) (func : HirFunction) : Type 0 where
  pub instructions : (i : InstructionId) (x : Instruction) → slice_get func.instructions i.0 ≡ Some x → IsInside env x
  pub ends : AllByRecursion (λ (e : BlockId × BasicBlock). AllByRecursion (InTable env) (terminal_places e.1.terminal))
      func.body.blocks

-- the function that the value creates has context places of the same identifiers
abbrev pub SameContext : Environment → Environment → InstructionValue → Type 0
SameContext env more v = map number (created_places more (created v)) ≡ map number (created_places env (created v))

-- of identifiers of env, shapes and flags more says what env says, and the functions that func creates have context
-- places of the same identifiers
pub record AgreesOn (func : HirFunction) (env more : Environment) : Type 0 where
  pub agrees : Agrees env more
  pub contexts : (i : InstructionId) (x : Instruction) → slice_get func.instructions i.0 ≡ Some x
      → SameContext env more x.value

-- ---- hoisted declarations: which there are, and whether they are read, but not by which place

abbrev Marks : Type 0
Marks = List (ℕ × Bool)

abbrev mark : ℕ × Option Place → ℕ × Bool
mark e = (e.0, is_some e.1)

abbrev pub marks : Accesses → List (ℕ × Bool)
marks h = map mark h

marks_with : (h : Accesses) (n : ℕ) (v : Option Place) → marks (with_value h n v) ≡ with_value (marks h) n (is_some v)
marks_with [] n v = refl
marks_with (e ∷ h) n v = by_order (marks_with h n v) (nat_cmp n e.0)
  where
    by_order : marks (with_value h n v) ≡ with_value (marks h) n (is_some v) → (o : Ordering)
        → marks (match_ordering o ((n, v) ∷ e ∷ h) ((e.0, v) ∷ h) (e ∷ with_value h n v))
        ≡ match_ordering o ((n, is_some v) ∷ mark e ∷ marks h) ((e.0, is_some v) ∷ marks h)
        (mark e ∷ with_value (marks h) n (is_some v))
    by_order rest Less = refl
    by_order rest Equal = refl
    by_order rest Greater = ap (λ (m : Marks). mark e ∷ m) rest

marks_at : (h : Accesses) (n : ℕ) → option_map (λ (o : Option Place). is_some o) (value_of h n) ≡ value_of (marks h) n
marks_at [] n = refl
marks_at (e ∷ h) n = by_test (marks_at h n) (is_at (nat_cmp n) e.0)
  where
    by_test : option_map (λ (o : Option Place). is_some o) (value_of h n) ≡ value_of (marks h) n → (b : Bool)
        → option_map (λ (o : Option Place). is_some o) (cond b (Some e.1) (value_of h n))
        ≡ cond b (Some (is_some e.1)) (value_of (marks h) n)
    by_test rest true = refl
    by_test rest false = rest

abbrev marked_access : Marks → ℕ → Option Bool → Marks
marked_access m n (Some false) = with_value m n true
marked_access m n (Some true) = m
marked_access m n None = m

marks_access : (h : Accesses) (d : DeclarationId) (o : Option (Option Place)) (p : Place) → marks (with_access h d o p)
    ≡ marked_access (marks h) d.0 (option_map (λ (q : Option Place). is_some q) o)
marks_access h d (Some None) p = marks_with h d.0 (Some p)
marks_access h d (Some (Some q)) p = refl
marks_access h d None p = refl

abbrev marked_read : Marks → Option DeclarationId → Marks
marked_read m None = m
marked_read m (Some d) = marked_access m d.0 (value_of m d.0)

marks_read : (h : Accesses) (o : Option DeclarationId) (p : Place) → marks (read_by h o p) ≡ marked_read (marks h) o
marks_read h None p = refl
marks_read h (Some d) p = marks_access h d (access_at h d) p ∙ ap (marked_access (marks h) d.0) (marks_at h d.0)

abbrev marked_hoisted : Marks → Option DeclarationId → Marks
marked_hoisted m None = m
marked_hoisted m (Some d) = with_value m d.0 false

marks_hoisted : (h : Accesses) (o : Option DeclarationId) → marks (with_hoisted h o) ≡ marked_hoisted (marks h) o
marks_hoisted h None = refl
marks_hoisted h (Some d) = marks_with h d.0 None

-- whether a declaration is hoisted is told by the marks
pub hoisted_by_marks : (h g : Accesses) → marks g ≡ marks h → (d : DeclarationId) → is_some (access_at g d)
    ≡ is_some (access_at h d)
hoisted_by_marks h g e d = marked g ∙ ap (λ (m : Marks). is_some (value_of m d.0)) e ∙ sym (marked h)
  where
    mapped : (o : Option (Option Place)) → is_some o ≡ is_some (option_map (λ (q : Option Place). is_some q) o)
    mapped None = refl
    mapped (Some q) = refl

    marked : (k : Accesses) → is_some (access_at k d) ≡ is_some (value_of (marks k) d.0)
    marked k = mapped (access_at k d) ∙ ap (λ (o : Option Bool). is_some o) (marks_at k d.0)

behind : (P : Place → Type 0) (ps qs : List Place) → AllByRecursion P (ps ++ qs) → AllByRecursion P qs
behind P [] qs h = h
behind P (p ∷ ps) qs h = behind P ps qs h.1

-- the operands of a value are of its places
owned_in : (P : Place → Type 0) (v : InstructionValue) → AllByRecursion P (places_of v)
    → AllByRecursion P (owned_operands v)
owned_in P (Destructure variables v) h = behind P (places_in_pattern variables.pattern) (v ∷ []) h
owned_in P (DeclareLocal variable) h = tt
owned_in P (DeclareContext variable) h = tt
owned_in P (StoreLocal variable v) h = h.1
owned_in P (PostfixUpdate variable v) h = h.1
owned_in P (PrefixUpdate variable v) h = h.1
owned_in P v h = h

-- ---- steps

fold_same : {S X : Type 0} (f g : S → X → S) → ((s : S) (x : X) → f s x ≡ g s x) → (xs : List X) (s : S) → fold f s xs
    ≡ fold g s xs
fold_same f g h [] s = refl
fold_same f g h (x ∷ xs) s = ap (λ z. fold f z xs) (h s x) ∙ fold_same f g h xs (g s x)

use_same : (c : Candidates) (p q : Place) → number q ≡ number p → after_use c q ≡ after_use c p
unfolding after_use
use_same c p q e = ap (λ (n : ℕ). without_spread c (spread_of c (id_of n))) e

uses_same : (ps qs : List Place) → map number qs ≡ map number ps → (c : Candidates) → fold after_use c qs
    ≡ fold after_use c ps
uses_same [] [] e c = refl
uses_same [] (q ∷ qs) e c = cc
uses_same (p ∷ ps) [] e c = cc
uses_same (p ∷ ps) (q ∷ qs) e c =
    let one : number q ≡ number p = cc in
    let rest : map number qs ≡ map number ps = cc in
    ap (λ (d : Candidates). fold after_use d qs) (use_same c p q one) ∙ uses_same ps qs rest (after_use c p)

module _ (env more : Environment) (agrees : Agrees env more) where
  -- ---- reads of declarations

  read_alike : (p q : Place) → number q ≡ number p → InTable env p → (h g : Accesses) → marks g ≡ marks h
      → marks (after_read more g q) ≡ marks (after_read env h p)
  read_alike p q same there h g e =
      marks_read g (declaration_of more q.identifier) q
      ∙ ap (λ (n : ℕ). marked_read (marks g) (declaration_of more (id_of n))) same
      ∙ ap (marked_read (marks g)) (agrees.declarations p.identifier there)
      ∙ ap (λ (m : Marks). marked_read m (declaration_of env p.identifier)) e
      ∙ sym (marks_read h (declaration_of env p.identifier) p)

  reads_alike : (ps qs : List Place) → map number qs ≡ map number ps → AllByRecursion (InTable env) ps
      → (h g : Accesses) → marks g ≡ marks h → marks (fold (after_read more) g qs) ≡ marks (fold (after_read env) h ps)
  reads_alike [] [] same there h g e = e
  reads_alike [] (q ∷ qs) same there h g e = cc
  reads_alike (p ∷ ps) [] same there h g e = cc
  reads_alike (p ∷ ps) (q ∷ qs) same there h g e =
      let one : number q ≡ number p = cc in
      let rest : map number qs ≡ map number ps = cc in
      reads_alike ps qs rest there.1 (after_read env h p) (after_read more g q) (read_alike p q one there.0 h g e)

  declared_alike : (b : Bool) (p : Place) → InTable env p → (h g : Accesses) → marks g ≡ marks h
      → marks (if b then with_hoisted g (declaration_of more p.identifier) else g)
      ≡ marks (if b then with_hoisted h (declaration_of env p.identifier) else h)
  declared_alike true p there h g e =
      marks_hoisted g (declaration_of more p.identifier)
      ∙ ap (marked_hoisted (marks g)) (agrees.declarations p.identifier there)
      ∙ ap (λ (m : Marks). marked_hoisted m (declaration_of env p.identifier)) e
      ∙ sym (marks_hoisted h (declaration_of env p.identifier))
  declared_alike false p there h g e = e

  value_alike : (v : InstructionValue) → AllByRecursion (InTable env) (places_of v)
      → AllByRecursion (InTable env) (created_places env (created v)) → SameContext env more v → (h g : Accesses)
      → marks g ≡ marks h
      → marks (reads_after more g v) ≡ marks (reads_after env h v)
  value_alike (DeclareContext variable) p c s h g e =
      declared_alike (is_hoisting variable.kind) variable.place p.0 h g e
  value_alike (FunctionExpression lowered) p c s h g e =
      reads_alike (context_at env lowered.func) (context_at more lowered.func) s c h g e
  value_alike (ObjectMethod lowered) p c s h g e =
      reads_alike (context_at env lowered.func) (context_at more lowered.func) s c h g e
  value_alike v p c s h g e = reads_alike (owned_operands v) (owned_operands v) refl (owned_in (InTable env) v p) h g e

  -- ---- spreads

  hook_same : (x : IdentifierId) → x.0 < length env.identifiers → is_hook_at more x ≡ is_hook_at env x
  hook_same x there =
      ap (λ (shapes : List Shape). option_map_or
      (λ (t : Ty). is_some (option_and_then hook_kind_of (option_and_then (shape_named shapes) (function_shape t))))
      (type_of more x) false) agrees.shapes
      ∙ ap (λ (o : Option Ty). option_map_or (λ (t : Ty). is_some (hook_kind env t)) o false) (agrees.types x there)

  called_same : (l : IdentifierId) → l.0 < length env.identifiers → (callee : Place) → InTable env callee
      → (operands : List Place) (c : Candidates) → after_call more c l callee operands
      ≡ after_call env c l callee operands
  called_same l there callee inside operands c =
      ap (λ (b : Bool). if b then after_hook more c l else fold after_use c operands)
      (hook_same callee.identifier inside)
      ∙ ap (λ (o : Option Ty). if is_hook_at env callee.identifier
      then (if option_map_or is_ref_or_ref_value o false then c else with_frozen c l)
      else fold after_use c operands) (agrees.types l there)

  spread_alike : (l : IdentifierId) → l.0 < length env.identifiers → (v : InstructionValue)
      → AllByRecursion (InTable env) (places_of v) → SameContext env more v → (c : Candidates)
      → spreads_after more c l v ≡ spreads_after env c l v
  spread_alike l there (CallExpression callee args) p s c =
      called_same l there callee p.0 (owned_operands (CallExpression callee args)) c
  spread_alike l there (MethodCall receiver property args) p s c =
      called_same l there property p.1.0 (owned_operands (MethodCall receiver property args)) c
  spread_alike l there (FunctionExpression lowered) p s c =
      uses_same (context_at env lowered.func) (context_at more lowered.func) s c
  spread_alike l there (ObjectMethod lowered) p s c =
      uses_same (context_at env lowered.func) (context_at more lowered.func) s c
  spread_alike l there v p s c = refl

-- ---- a function

module _ (func : HirFunction) (env more : Environment) (agrees : AgreesOn func env more)
    (inside : AllInside env func) where
  read_listed : (i : InstructionId) (h g : Accesses) → marks g ≡ marks h → marks (reads_after_listed func more g i)
      ≡ marks (reads_after_listed func env h i)
  read_listed i h g e = by_found (slice_get func.instructions i.0) refl
    where
      by_found : (o : Option Instruction) → slice_get func.instructions i.0 ≡ o
          → marks (reads_after_instruction more g o) ≡ marks (reads_after_instruction env h o)
      by_found None k = e
      by_found (Some x) k = let in_it = inside.instructions i x k in
          value_alike env more agrees.agrees x.value in_it.places in_it.contexts (agrees.contexts i x k) h g e

  reads_listed : (is : List InstructionId) (h g : Accesses) → marks g ≡ marks h
      → marks (fold (reads_after_listed func more) g is) ≡ marks (fold (reads_after_listed func env) h is)
  reads_listed [] h g e = e
  reads_listed (i ∷ is) h g e = reads_listed is (reads_after_listed func env h i) (reads_after_listed func more g i)
      (read_listed i h g e)

  read_blocks : (bs : List (BlockId × BasicBlock))
      → AllByRecursion (λ (e : BlockId × BasicBlock). AllByRecursion (InTable env) (terminal_places e.1.terminal)) bs
      → (h g : Accesses) → marks g ≡ marks h
      → marks (fold (reads_after_entry func more) g bs) ≡ marks (fold (reads_after_entry func env) h bs)
  read_blocks [] there h g e = e
  read_blocks (b ∷ bs) there h g e =
      read_blocks bs there.1 (reads_after_entry func env h b) (reads_after_entry func more g b)
      (reads_alike env more agrees.agrees (terminal_places b.1.terminal) (terminal_places b.1.terminal) refl there.0
      (fold (reads_after_listed func env) h b.1.instructions)
      (fold (reads_after_listed func more) g b.1.instructions)
      (reads_listed b.1.instructions h g e))

  -- the same declarations are hoisted
  pub same_hoisted : marks (function_facts func more).hoisted ≡ marks (function_facts func env).hoisted
  same_hoisted = read_blocks func.body.blocks inside.ends [] [] refl

  spread_listed : (c : Candidates) (i : InstructionId) → spreads_after_listed func more c i
      ≡ spreads_after_listed func env c i
  spread_listed c i = by_found (slice_get func.instructions i.0) refl
    where
      by_found : (o : Option Instruction) → slice_get func.instructions i.0 ≡ o → spreads_after_instruction more c o
          ≡ spreads_after_instruction env c o
      by_found None k = refl
      by_found (Some x) k = let in_it = inside.instructions i x k in
          spread_alike env more agrees.agrees x.lvalue.identifier in_it.lvalue x.value in_it.places
          (agrees.contexts i x k) c

  spread_entry : (c : Candidates) (e : BlockId × BasicBlock) → spreads_after_entry func more c e
      ≡ spreads_after_entry func env c e
  spread_entry c e = fold_same (spreads_after_listed func more) (spreads_after_listed func env) spread_listed
      e.1.instructions (fold after_phi c e.1.phis)

  -- the same spreads are found
  pub found_spreads : (function_facts func more).spreads ≡ (function_facts func env).spreads
  found_spreads = ap selves (fold_same (spreads_after_entry func more) (spreads_after_entry func env) spread_entry
      func.body.blocks (first_candidates func))
