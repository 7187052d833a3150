-- The lines of a block read back.
use Rattle.std.proofs.Common.{◌≡◌, ℕ, ◌≤◌, Bool, true, false, List, [], ◌∷◌, ◌++◌, Option, Some, None, refl, ap, sym}
use Rattle.std.proofs.Common.{◌∙◌, arith, append_assoc, append-nil}
use Rattle.std.proofs.Math.Dec.{T}
use Rattle.std.specs.Prelude.{map, slice_get}
use Rattle.std.specs.List.{AllByRecursion, flat_map}
use Rattle.std.specs.Ordering.{is_lt}
use Rattle.std.specs.FinMap.{is_sorted}
use Rattle.std.specs.FinMap.Entries.{below_all}
use Rattle.alias_base.specs.Find.{value_at}
use Rattle.alias_base.specs.declared.ids.BlockId.{BlockId}
use Rattle.alias_base.specs.declared.ids.FunctionId.{FunctionId}
use Rattle.alias_base.specs.declared.ids.IdentifierId.{IdentifierId}
use Rattle.alias_base.specs.declared.ids.InstructionId.{InstructionId}
use Rattle.alias_hir.specs.Terminals.{terminal_effects}
use Rattle.alias_hir.specs.declared.effect.AliasingEffect.{AliasingEffect}
use Rattle.alias_hir.specs.declared.hir.BasicBlock.{BasicBlock}
use Rattle.alias_hir.specs.declared.hir.HirFunction.{HirFunction}
use Rattle.alias_hir.specs.declared.hir.Instruction.{Instruction}
use Rattle.alias_lattice.specs.Keys.{id_cmp}
use Rattle.alias_lattice.specs.PairLaws.{T-first, T-second}
use Rattle.alias_lattice.specs.SiteOrder.{site_cmp}
use Rattle.alias_lattice.specs.States.{Sites, State}
use Rattle.alias_lattice.specs.declared.site.Site.{Site}
use Rattle.alias_lattice.specs.declared.value.AbstractValue.{AbstractValue}
use Rattle.alias_effects.specs.declared.solved.BlockEntry.{BlockEntry}
use Rattle.alias_text.specs.declared.detail.Detail.TheVariants.{Certify}
use Rattle.alias_text.specs.Lines.{effect_text, recorded, recorded_of, effect_line, effect_lines, end_line, end_lines}
use Rattle.alias_text.specs.Lines.{instruction_lines, listed_lines, terminal_lines, block_head, block_lines}
use Rattle.alias_text.specs.Certificates.{value_line, variable_line, state_lines}
use Rattle.alias_text.specs.Results.{entry_text, blocks_text}
use Rattle.alias_certificate.specs.declared.certificate.CertBlock.{CertBlock}
use Rattle.alias_certificate.specs.declared.certificate.CertFunction.{CertFunction}
use Rattle.alias_cert_text.specs.declared.line.Line.{Line}
use Rattle.alias_cert_text.specs.declared.line.Line.TheVariants as line
use Rattle.alias_cert_text.specs.declared.order.Place.{Place}
use Rattle.alias_cert_text.specs.declared.order.Place.TheVariants.{Start, Function, Visits, Block, Value, Variable}
use Rattle.alias_cert_text.specs.declared.order.Place.TheVariants.{Effect, End, First, Temporary, Summary, Range}
use Rattle.alias_cert_text.specs.declared.order.Place.TheVariants.{Reports, Report}
use Rattle.alias_cert_text.specs.Certificates.{at_last, in_last_block, block_with, function_with, with_line, bare_block}
use Rattle.alias_cert_text.specs.Order.{rank, rises}
use Rattle.alias_cert_text.proofs.AtLast.{at_last_push}
use Rattle.alias_certificate_laws.specs.text.Certifying.{cert_value, cert_variable, cert_effect, effects_of, effects_in}
use Rattle.alias_certificate_laws.specs.text.Certifying.{ends_in, cert_block}
use Rattle.alias_text.specs.Fitting.{Small, FittingValue, FittingVariable, SmallInstruction, SmallBlock, FittingEntry}
use Rattle.alias_certificate_laws.proofs.text.Leading.{leads_both, leads_line, Reaches, follows_by, reaches_line}
use Rattle.alias_certificate_laws.proofs.text.Leading.{reaches_none, reaches_both, reaches_as, reaches_wider, add_all}
use Rattle.alias_certificate_laws.proofs.text.Leading.{reaches_all, added}
use Rattle.alias_certificate_laws.proofs.text.Spelling.{block_spelled, value_spelled, variable_spelled, effect_spelled}
use Rattle.alias_certificate_laws.proofs.text.Spelling.{end_spelled}

-- a function with these blocks, behind those that are done
abbrev pub in_blocks : List CertFunction → Option FunctionId → List CertBlock → List CertFunction
in_blocks done f bs = done ++ (record { function = f; blocks = bs; temporaries = []; summary = [] }) ∷ []

-- and its last block
abbrev pub in_block : List CertFunction → Option FunctionId → List CertBlock → CertBlock → List CertFunction
in_block done f bs b = in_blocks done f (bs ++ b ∷ [])

pub block_changed : (change : CertBlock → CertBlock) (done : List CertFunction) (f : Option FunctionId)
    (bs : List CertBlock) (b : CertBlock) → at_last (in_last_block change) (in_block done f bs b)
    ≡ in_block done f bs (change b)
block_changed change done f bs b =
    at_last_push (in_last_block change) done
    (record { function = f; blocks = bs ++ b ∷ []; temporaries = []; summary = [] })
    ∙ ap (in_blocks done f) (at_last_push change bs b)

true_of : (b : Bool) → T b → b ≡ true
true_of true h = refl
true_of false h = absurd h

-- ---- values

-- the first of these may stand behind the last
abbrev ValuesRise : Place → List (Site × AbstractValue) → Type 0
ValuesRise last [] = Unit {0}
ValuesRise last (e ∷ es) = rises (Value e.0) last ≡ true

values_above : (k : Site) (es : List (Site × AbstractValue)) → T (below_all site_cmp k es) → ValuesRise (Value k) es
values_above k [] h = tt
values_above k (e ∷ es) h = true_of (is_lt (site_cmp k e.0))
    (T-first (is_lt (site_cmp k e.0)) (below_all site_cmp k es) h)

pub value_first : (k : Site) (last : Place) → rank last ≤ 3 → rises (Value k) last ≡ true
value_first k Start h = refl
value_first k Function h = refl
value_first k Visits h = refl
value_first k Block h = refl
value_first k (Value s) h = absurd (omega (arith, h))
value_first k (Variable x) h = refl
value_first k Effect h = refl
value_first k End h = refl
value_first k First h = refl
value_first k Temporary h = refl
value_first k Summary h = refl
value_first k Range h = refl
value_first k Reports h = refl
value_first k Report h = refl

values_first : (es : List (Site × AbstractValue)) (last : Place) → rank last ≤ 3 → ValuesRise last es
values_first [] last h = tt
values_first (e ∷ es) last h = value_first e.0 last h

abbrev value_said : Site × AbstractValue → Line
value_said e = line.Value (cert_value e)

value_then : (e : Site × AbstractValue) (es : List (Site × AbstractValue)) → ValuesRise (Value e.0) es → FittingValue e
    → (last : Place) → 3 ≤ rank last → rank last ≤ 4 → rises (Value e.0) last ≡ true → (found : List CertFunction)
    → ((p : Place) → 3 ≤ rank p → rank p ≤ 4 → ValuesRise p es → (more : List CertFunction)
    → Reaches p more (flat_map value_line es) (add_all value_said es more) 3 4)
    → Reaches last found (flat_map value_line (e ∷ es)) (add_all value_said (e ∷ es) found) 3 4
value_then e es above h last l m up found then_more =
    let said = value_said e in
    let rest = then_more (Value e.0) (omega arith) (omega arith) above (with_line said found) in
    record {
      place = rest.place;
      least = rest.least;
      most = rest.most;
      leads =
          leads_both last (Value e.0) rest.place found (with_line said found)
          (add_all value_said es (with_line said found)) (value_line e) (flat_map value_line es)
          (leads_line last found (value_line e) said (value_spelled e h) (follows_by last (Value e.0) l m up))
          rest.leads;
    }

reaches_values : (es : List (Site × AbstractValue)) → AllByRecursion FittingValue es → T (is_sorted site_cmp es)
    → (last : Place) → 3 ≤ rank last → rank last ≤ 4 → ValuesRise last es → (found : List CertFunction)
    → Reaches last found (flat_map value_line es) (add_all value_said es found) 3 4
reaches_values [] h s last l m up found = reaches_none last found 3 4 l m
reaches_values (e ∷ es) h s last l m up found =
    value_then e es (values_above e.0 es (T-first (below_all site_cmp e.0 es) (is_sorted site_cmp es) s)) h.0 last l m
    up found
    (λ p pl pm rise more. reaches_values es h.1 (T-second (below_all site_cmp e.0 es) (is_sorted site_cmp es) s) p pl pm
    rise more)

-- ---- variables

abbrev VariablesRise : Place → List (IdentifierId × Sites) → Type 0
VariablesRise last [] = Unit {0}
VariablesRise last (e ∷ es) = rises (Variable e.0) last ≡ true

variables_above : (x : IdentifierId) (es : List (IdentifierId × Sites)) → T (below_all id_cmp x es)
    → VariablesRise (Variable x) es
variables_above x [] h = tt
variables_above x (e ∷ es) h = true_of (is_lt (id_cmp x e.0)) (T-first (is_lt (id_cmp x e.0)) (below_all id_cmp x es) h)

pub variable_first : (x : IdentifierId) (last : Place) → rank last ≤ 4 → rises (Variable x) last ≡ true
variable_first x Start h = refl
variable_first x Function h = refl
variable_first x Visits h = refl
variable_first x Block h = refl
variable_first x (Value s) h = refl
variable_first x (Variable y) h = absurd (omega (arith, h))
variable_first x Effect h = refl
variable_first x End h = refl
variable_first x First h = refl
variable_first x Temporary h = refl
variable_first x Summary h = refl
variable_first x Range h = refl
variable_first x Reports h = refl
variable_first x Report h = refl

variables_first : (es : List (IdentifierId × Sites)) (last : Place) → rank last ≤ 4 → VariablesRise last es
variables_first [] last h = tt
variables_first (e ∷ es) last h = variable_first e.0 last h

abbrev variable_said : IdentifierId × Sites → Line
variable_said e = line.Variable (cert_variable e)

variable_then : (e : IdentifierId × Sites) (es : List (IdentifierId × Sites)) → VariablesRise (Variable e.0) es
    → FittingVariable e → (last : Place) → 3 ≤ rank last → rank last ≤ 5 → rises (Variable e.0) last ≡ true
    → (found : List CertFunction)
    → ((p : Place) → 3 ≤ rank p → rank p ≤ 5 → VariablesRise p es → (more : List CertFunction)
    → Reaches p more (flat_map variable_line es) (add_all variable_said es more) 3 5)
    → Reaches last found (flat_map variable_line (e ∷ es)) (add_all variable_said (e ∷ es) found) 3 5
variable_then e es above h last l m up found then_more =
    let said = variable_said e in
    let rest = then_more (Variable e.0) (omega arith) (omega arith) above (with_line said found) in
    record {
      place = rest.place;
      least = rest.least;
      most = rest.most;
      leads =
          leads_both last (Variable e.0) rest.place found (with_line said found)
          (add_all variable_said es (with_line said found)) (variable_line e) (flat_map variable_line es)
          (leads_line last found (variable_line e) said (variable_spelled e h) (follows_by last (Variable e.0) l m up))
          rest.leads;
    }

reaches_variables : (es : List (IdentifierId × Sites)) → AllByRecursion FittingVariable es → T (is_sorted id_cmp es)
    → (last : Place) → 3 ≤ rank last → rank last ≤ 5 → VariablesRise last es → (found : List CertFunction)
    → Reaches last found (flat_map variable_line es) (add_all variable_said es found) 3 5
reaches_variables [] h s last l m up found = reaches_none last found 3 5 l m
reaches_variables (e ∷ es) h s last l m up found =
    variable_then e es (variables_above e.0 es (T-first (below_all id_cmp e.0 es) (is_sorted id_cmp es) s)) h.0 last l m
    up found
    (λ p pl pm rise more. reaches_variables es h.1 (T-second (below_all id_cmp e.0 es) (is_sorted id_cmp es) s) p pl pm
    rise more)

-- ---- the parts of a block, one by one

module _ (done : List CertFunction) (f : Option FunctionId) (bs : List CertBlock) where
  -- a block with these parts
  abbrev pub holding : CertBlock → List CertFunction
  holding b = in_block done f bs b

  values_held : (b : CertBlock) (es : List (Site × AbstractValue)) → add_all value_said es (holding b)
      ≡ holding (record b { values = b.values ++ map cert_value es })
  values_held b es = added value_said cert_value (λ v. holding (record b { values = v }))
      (λ e v. block_changed (block_with (value_said e)) done f bs (record b { values = v })) es b.values

  variables_held : (b : CertBlock) (es : List (IdentifierId × Sites)) → add_all variable_said es (holding b)
      ≡ holding (record b { variables = b.variables ++ map cert_variable es })
  variables_held b es = added variable_said cert_variable (λ v. holding (record b { variables = v }))
      (λ e v. block_changed (block_with (variable_said e)) done f bs (record b { variables = v })) es b.variables

  effects_held : (n : ℕ) (b : CertBlock) (es : List AliasingEffect)
      → add_all (λ e. line.Effect (cert_effect n e)) es (holding b)
      ≡ holding (record b { effects = b.effects ++ map (cert_effect n) es })
  effects_held n b es =
      added (λ e. line.Effect (cert_effect n e)) (cert_effect n) (λ v. holding (record b { effects = v }))
      (λ e v. block_changed (block_with (line.Effect (cert_effect n e))) done f bs (record b { effects = v })) es
      b.effects

  ends_held : (b : CertBlock) (es : List AliasingEffect) → add_all (λ e. line.End (effect_text e)) es (holding b)
      ≡ holding (record b { end = b.end ++ map effect_text es })
  ends_held b es = added (λ e. line.End (effect_text e)) effect_text (λ v. holding (record b { end = v }))
      (λ e v. block_changed (block_with (line.End (effect_text e))) done f bs (record b { end = v })) es b.end

  every : {A : Type 0} (xs : List A) → AllByRecursion (λ x. Unit {0}) xs
  every [] = tt
  every (x ∷ xs) = (tt, every xs)

  reaches_effects : (n : ℕ) → Small n → (es : List AliasingEffect) (b : CertBlock) (last : Place) → 3 ≤ rank last
      → rank last ≤ 6
      → Reaches last (holding b) (effect_lines n es)
      (holding (record b { effects = b.effects ++ map (cert_effect n) es })) 3 6
  reaches_effects n small es b last l m =
      reaches_as last (holding b) (add_all (λ e. line.Effect (cert_effect n e)) es (holding b)) _ (effect_lines n es) 3
      6
      (reaches_all (λ (e : AliasingEffect). Unit {0}) (effect_line n) (λ e. line.Effect (cert_effect n e)) 3 6
      (λ e h. effect_spelled n e small) (λ e p pl pm. follows_by p Effect pl pm refl) (λ e. refl) (omega arith) es
      (every es) last l m (holding b))
      (effects_held n b es)

  reaches_listed : (instructions : List Instruction) (ids : List InstructionId) → AllByRecursion SmallInstruction ids
      → (b : CertBlock) (last : Place) → 3 ≤ rank last → rank last ≤ 6
      → Reaches last (holding b) (listed_lines instructions ids)
      (holding (record b { effects = b.effects ++ flat_map (effects_of instructions) ids })) 3 6
  reaches_listed instructions [] h b last l m =
      reaches_as last (holding b) (holding b) _ [] 3 6 (reaches_none last (holding b) 3 6 l m)
      (ap (λ v. holding (record b { effects = v })) (sym (append-nil b.effects)))
  reaches_listed instructions (id ∷ ids) h b last l m =
      let more = effects_of instructions id in
      let after = record b { effects = b.effects ++ more } in
      reaches_as last (holding b) (holding (record b
      { effects = (b.effects ++ more) ++ flat_map (effects_of instructions) ids })) _
      (listed_lines instructions (id ∷ ids)) 3 6
      (reaches_both last (holding b) (holding after)
      (holding (record b { effects = (b.effects ++ more) ++ flat_map (effects_of instructions) ids }))
      (instruction_lines instructions id) (listed_lines instructions ids) 3 6 3 6
      (reaches_effects id.0 h.0 (recorded_of (slice_get instructions id.0)) b last l m)
      (λ p pl pm. reaches_listed instructions ids h.1 after p pl pm))
      (ap (λ v. holding (record b { effects = v }))
      (append_assoc b.effects more (flat_map (effects_of instructions) ids)))

  reaches_ends : (es : List AliasingEffect) (b : CertBlock) (last : Place) → 3 ≤ rank last → rank last ≤ 7
      → Reaches last (holding b) (end_lines es) (holding (record b { end = b.end ++ map effect_text es })) 3 7
  reaches_ends es b last l m =
      reaches_as last (holding b) (add_all (λ e. line.End (effect_text e)) es (holding b)) _ (end_lines es) 3 7
      (reaches_all (λ (e : AliasingEffect). Unit {0}) end_line (λ e. line.End (effect_text e)) 3 7
      (λ e h. end_spelled e) (λ e p pl pm. follows_by p End pl pm refl) (λ e. refl) (omega arith) es (every es) last
      l m (holding b))
      (ends_held b es)

  pub reaches_block_lines : (instructions : List Instruction) (block : Option BasicBlock) → SmallBlock block
      → (b : CertBlock) (last : Place) → 3 ≤ rank last → rank last ≤ 6
      → Reaches last (holding b) (block_lines instructions block)
      (holding (record b { effects = b.effects ++ effects_in instructions block; end = b.end ++ ends_in block })) 3
      7
  reaches_block_lines instructions None h b last l m =
      reaches_as last (holding b) (holding b) _ [] 3 7 (reaches_none last (holding b) 3 7 l (omega (arith, m)))
      (ap (λ v. holding (record b { effects = v })) (sym (append-nil b.effects))
      ∙ ap (λ v. holding (record b { effects = b.effects ++ []; end = v })) (sym (append-nil b.end)))
  reaches_block_lines instructions (Some block) h b last l m =
      let after = record b { effects = b.effects ++ flat_map (effects_of instructions) block.instructions } in
      reaches_both last (holding b) (holding after) _ (listed_lines instructions block.instructions)
      (terminal_lines block.terminal) 3 6 3 7
      (reaches_listed instructions block.instructions h b last l m)
      (λ p pl pm. reaches_ends (recorded (terminal_effects block.terminal)) after p pl (omega (arith, pm)))

  reaches_state : (state : State) → AllByRecursion FittingValue state.values → T (is_sorted site_cmp state.values)
      → AllByRecursion FittingVariable state.variables → T (is_sorted id_cmp state.variables)
      → (b : BlockId) (last : Place) → 3 ≤ rank last → rank last ≤ 3
      → Reaches last (holding (bare_block b)) (state_lines state)
      (holding (record (bare_block b) {
        values = map cert_value state.values;
        variables = map cert_variable state.variables;
      })) 3 5
  reaches_state state v vs x xs b last l m =
      let valued = record (bare_block b) { values = map cert_value state.values } in
      reaches_both last (holding (bare_block b)) (holding valued) _ (flat_map value_line state.values)
      (flat_map variable_line state.variables) 3 4 3 5
      (reaches_as last (holding (bare_block b)) (add_all value_said state.values (holding (bare_block b)))
      (holding valued) (flat_map value_line state.values) 3 4
      (reaches_values state.values v vs last l (omega (arith, m)) (values_first state.values last m)
      (holding (bare_block b)))
      (values_held (bare_block b) state.values))
      (λ p pl pm.
      reaches_as p (holding valued) (add_all variable_said state.variables (holding valued)) _
      (flat_map variable_line state.variables) 3 5
      (reaches_variables state.variables x xs p pl (omega (arith, pm)) (variables_first state.variables p pm)
      (holding valued))
      (variables_held valued state.variables))

  pub begun : (b : BlockId) → with_line (line.Block b) (in_blocks done f bs) ≡ holding (bare_block b)
  begun b = at_last_push (function_with (line.Block b)) done
      (record { function = f; blocks = bs; temporaries = []; summary = [] })

  pub reaches_entry : (func : HirFunction) (e : BlockEntry) → FittingEntry func e → (last : Place) → 1 ≤ rank last
      → rank last ≤ 7
      → Reaches last (in_blocks done f bs) (entry_text Certify func e) (in_blocks done f (bs ++ cert_block func e ∷ []))
      1 7
  reaches_entry func e h last l m =
      let block = value_at func.body.blocks e.block in
      let bare = bare_block e.block in
      let entered = record bare {
        values = map cert_value e.state.values;
        variables = map cert_variable e.state.variables;
      } in
      reaches_both last (in_blocks done f bs) (holding entered) _ (block_head e.block ++ state_lines e.state)
      (block_lines func.instructions block) 3 5 1 7
      (reaches_both last (in_blocks done f bs) (holding bare) (holding entered) (block_head e.block)
      (state_lines e.state) 3 3 3 5
      (reaches_as last (in_blocks done f bs) (with_line (line.Block e.block) (in_blocks done f bs)) (holding bare)
      (block_head e.block) 3 3
      (reaches_line last (in_blocks done f bs) (block_head e.block) (line.Block e.block) 3 3
      (block_spelled e.block h.block) (follows_by last Block l m refl) (omega arith) (omega arith))
      (begun e.block))
      (λ p pl pm. reaches_state e.state h.state.values h.state.values_rise h.state.variables h.state.variables_rise
      e.block p pl pm))
      (λ p pl pm. reaches_wider p (holding entered) _ (block_lines func.instructions block) 3 7 1 7 (omega arith)
      (omega arith) (reaches_block_lines func.instructions block h.instructions entered p pl (omega (arith, pm))))

module _ (done : List CertFunction) (f : Option FunctionId) (func : HirFunction) where
  pub reaches_entries : (entries : List BlockEntry) → AllByRecursion (FittingEntry func) entries
      → (bs : List CertBlock) (last : Place) → 1 ≤ rank last → rank last ≤ 7
      → Reaches last (in_blocks done f bs) (blocks_text Certify func entries)
      (in_blocks done f (bs ++ map (cert_block func) entries)) 1 7
  reaches_entries [] h bs last l m =
      reaches_as last (in_blocks done f bs) (in_blocks done f bs) _ [] 1 7
      (reaches_none last (in_blocks done f bs) 1 7 l m) (ap (in_blocks done f) (sym (append-nil bs)))
  reaches_entries (e ∷ es) h bs last l m =
      let more = bs ++ cert_block func e ∷ [] in
      reaches_as last (in_blocks done f bs) (in_blocks done f (more ++ map (cert_block func) es)) _
      (blocks_text Certify func (e ∷ es)) 1 7
      (reaches_both last (in_blocks done f bs) (in_blocks done f more)
      (in_blocks done f (more ++ map (cert_block func) es)) (entry_text Certify func e)
      (blocks_text Certify func es) 1 7 1 7
      (reaches_entry done f bs func e h.0 last l m)
      (λ p pl pm. reaches_entries es h.1 more p pl pm))
      (ap (in_blocks done f) (append_assoc bs (cert_block func e ∷ []) (map (cert_block func) es)))
