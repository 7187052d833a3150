-- The lines of what an entry state has beyond what arrived read back.
use Rattle.std.proofs.Common.{◌≡◌, ◌≤◌, true, List, [], ◌∷◌, ◌++◌, Option, Some, None, ap, sym, ◌∙◌}
use Rattle.std.proofs.Common.{arith, append_assoc, append-nil}
use Rattle.std.specs.List.{AllByRecursion, flat_map}
use Rattle.alias_base.specs.declared.ids.FunctionId.{FunctionId}
use Rattle.alias_certificate.specs.declared.beyond.Beyond.{Beyond}
use Rattle.alias_certificate.specs.declared.certificate.CertBlock.{CertBlock}
use Rattle.alias_certificate.specs.declared.certificate.CertFunction.{CertFunction}
use Rattle.alias_certificate.specs.declared.certificate.CertValue.{CertValue}
use Rattle.alias_certificate.specs.declared.certificate.CertVariable.{CertVariable}
use Rattle.alias_cert_text.specs.declared.line.Line.{Line}
use Rattle.alias_cert_text.specs.declared.line.Line.TheVariants as line
use Rattle.alias_cert_text.specs.declared.order.Place.{Place}
use Rattle.alias_cert_text.specs.declared.order.Place.TheVariants.{Value, Variable}
use Rattle.alias_cert_text.specs.Certificates.{block_with, with_line}
use Rattle.alias_cert_text.specs.Order.{rank, rises}
use Rattle.alias_brief.specs.Briefs.{beyond_value, beyond_variable, beyond_lines, beyond_or}
use Rattle.alias_brief.specs.Fitting.{FittingMoreValue, SmallMoreVariable, FittingBeyond, FittingMore}
use Rattle.alias_brief_text_laws.specs.Orderly.{Ascends, value_below, variable_below, NamesSite, Orderly}
use Rattle.alias_brief_text_laws.specs.Telling.{told_beyond}
use Rattle.alias_certificate_laws.proofs.text.Leading.{leads_both, leads_line, Reaches, follows_by, reaches_none}
use Rattle.alias_certificate_laws.proofs.text.Leading.{reaches_both}
use Rattle.alias_certificate_laws.proofs.text.Leading.{reaches_as, add_all}
use Rattle.alias_certificate_laws.proofs.text.Blocks.{in_block, block_changed, value_first, variable_first}
use Rattle.alias_brief_text_laws.proofs.Spelling.{value_spelled, variable_spelled}

-- ---- values

-- the first of these may stand behind the last
abbrev ValuesRise : Place → List CertValue → Type 0
ValuesRise last [] = Unit {0}
ValuesRise last (v ∷ vs) = rises (Value v.site) last ≡ true

values_above : (v : CertValue) (vs : List CertValue) → AllByRecursion (λ w. value_below v w ≡ true) vs
    → ValuesRise (Value v.site) vs
values_above v [] h = tt
values_above v (w ∷ vs) h = h.0

values_first : (vs : List CertValue) (last : Place) → rank last ≤ 3 → ValuesRise last vs
values_first [] last h = tt
values_first (v ∷ vs) last h = value_first v.site last h

abbrev value_said : CertValue → Line
value_said v = line.Value v

-- ---- variables

abbrev VariablesRise : Place → List CertVariable → Type 0
VariablesRise last [] = Unit {0}
VariablesRise last (v ∷ vs) = rises (Variable v.identifier) last ≡ true

variables_above : (v : CertVariable) (vs : List CertVariable) → AllByRecursion (λ w. variable_below v w ≡ true) vs
    → VariablesRise (Variable v.identifier) vs
variables_above v [] h = tt
variables_above v (w ∷ vs) h = h.0

variables_first : (vs : List CertVariable) (last : Place) → rank last ≤ 4 → VariablesRise last vs
variables_first [] last h = tt
variables_first (v ∷ vs) last h = variable_first v.identifier last h

abbrev variable_said : CertVariable → Line
variable_said v = line.Variable v

abbrev pub OrderlyMore : Option Beyond → Type 0
OrderlyMore None = Unit {0}
OrderlyMore (Some m) = Orderly m

value_then : (v : CertValue) (vs : List CertValue) → ValuesRise (Value v.site) vs → FittingMoreValue v
    → (last : Place) → 3 ≤ rank last → rank last ≤ 4 → rises (Value v.site) last ≡ true → (found : List CertFunction)
    → ((p : Place) → 3 ≤ rank p → rank p ≤ 4 → ValuesRise p vs → (more : List CertFunction)
    → Reaches p more (flat_map beyond_value vs) (add_all value_said vs more) 3 4)
    → Reaches last found (flat_map beyond_value (v ∷ vs)) (add_all value_said (v ∷ vs) found) 3 4
value_then v vs above h last l m up found then_more =
    let said = value_said v in
    let rest = then_more (Value v.site) (omega arith) (omega arith) above (with_line said found) in
    record {
      place = rest.place;
      least = rest.least;
      most = rest.most;
      leads =
          leads_both last (Value v.site) rest.place found (with_line said found)
          (add_all value_said vs (with_line said found)) (beyond_value v) (flat_map beyond_value vs)
          (leads_line last found (beyond_value v) said (value_spelled v h) (follows_by last (Value v.site) l m up))
          rest.leads;
    }

reaches_values : (vs : List CertValue) → AllByRecursion FittingMoreValue vs → Ascends value_below vs
    → (last : Place) → 3 ≤ rank last → rank last ≤ 4 → ValuesRise last vs → (found : List CertFunction)
    → Reaches last found (flat_map beyond_value vs) (add_all value_said vs found) 3 4
reaches_values [] h s last l m up found = reaches_none last found 3 4 l m
reaches_values (v ∷ vs) h s last l m up found = value_then v vs (values_above v vs s.0) h.0 last l m up found
    (λ p pl pm rise more. reaches_values vs h.1 s.1 p pl pm rise more)

variable_then : (v : CertVariable) (vs : List CertVariable) → VariablesRise (Variable v.identifier) vs
    → SmallMoreVariable v → NamesSite v → (last : Place) → 3 ≤ rank last → rank last ≤ 5
    → rises (Variable v.identifier) last ≡ true → (found : List CertFunction)
    → ((p : Place) → 3 ≤ rank p → rank p ≤ 5 → VariablesRise p vs → (more : List CertFunction)
    → Reaches p more (flat_map beyond_variable vs) (add_all variable_said vs more) 3 5)
    → Reaches last found (flat_map beyond_variable (v ∷ vs)) (add_all variable_said (v ∷ vs) found) 3 5
variable_then v vs above h named last l m up found then_more =
    let said = variable_said v in
    let rest = then_more (Variable v.identifier) (omega arith) (omega arith) above (with_line said found) in
    record {
      place = rest.place;
      least = rest.least;
      most = rest.most;
      leads =
          leads_both last (Variable v.identifier) rest.place found (with_line said found)
          (add_all variable_said vs (with_line said found)) (beyond_variable v) (flat_map beyond_variable vs)
          (leads_line last found (beyond_variable v) said (variable_spelled v h named)
          (follows_by last (Variable v.identifier) l m up))
          rest.leads;
    }

reaches_variables : (vs : List CertVariable) → AllByRecursion SmallMoreVariable vs → AllByRecursion NamesSite vs
    → Ascends variable_below vs → (last : Place) → 3 ≤ rank last → rank last ≤ 5 → VariablesRise last vs
    → (found : List CertFunction)
    → Reaches last found (flat_map beyond_variable vs) (add_all variable_said vs found) 3 5
reaches_variables [] h n s last l m up found = reaches_none last found 3 5 l m
reaches_variables (v ∷ vs) h n s last l m up found =
    variable_then v vs (variables_above v vs s.0) h.0 n.0 last l m up found
    (λ p pl pm rise more. reaches_variables vs h.1 n.1 s.1 p pl pm rise more)

module _ (done : List CertFunction) (f : Option FunctionId) (bs : List CertBlock) where
  -- a block with these parts
  abbrev holding : CertBlock → List CertFunction
  holding b = in_block done f bs b

  values_held : (b : CertBlock) (vs : List CertValue) → add_all value_said vs (holding b)
      ≡ holding (record b { values = b.values ++ vs })
  values_held b [] = ap (λ v. holding (record b { values = v })) (sym (append-nil b.values))
  values_held b (v ∷ vs) =
      let after = record b { values = b.values ++ v ∷ [] } in
      ap (add_all value_said vs) (block_changed (block_with (value_said v)) done f bs b)
      ∙ values_held after vs
      ∙ ap (λ vs. holding (record b { values = vs })) (append_assoc b.values (v ∷ []) vs)

  variables_held : (b : CertBlock) (vs : List CertVariable) → add_all variable_said vs (holding b)
      ≡ holding (record b { variables = b.variables ++ vs })
  variables_held b [] = ap (λ v. holding (record b { variables = v })) (sym (append-nil b.variables))
  variables_held b (v ∷ vs) =
      let after = record b { variables = b.variables ++ v ∷ [] } in
      ap (add_all variable_said vs) (block_changed (block_with (variable_said v)) done f bs b)
      ∙ variables_held after vs
      ∙ ap (λ vs. holding (record b { variables = vs })) (append_assoc b.variables (v ∷ []) vs)

  -- the lines of what a state has beyond what arrived, behind the line of a block
  reaches_beyond : (m : Beyond) → FittingBeyond m → Orderly m → (b : CertBlock) → b.values ≡ [] → b.variables ≡ []
      → (last : Place) → 3 ≤ rank last → rank last ≤ 3
      → Reaches last (holding b) (beyond_lines m)
      (holding (record b { values = m.values; variables = m.variables })) 3 5
  reaches_beyond m fits orderly b no_values no_variables last l h =
      let valued = record b { values = b.values ++ m.values } in
      reaches_as last (holding b) (holding (record valued { variables = b.variables ++ m.variables })) _
      (beyond_lines m) 3 5
      (reaches_both last (holding b) (holding valued) _ (flat_map beyond_value m.values)
      (flat_map beyond_variable m.variables) 3 4 3 5
      (reaches_as last (holding b) (add_all value_said m.values (holding b)) (holding valued)
      (flat_map beyond_value m.values) 3 4
      (reaches_values m.values fits.values orderly.values last l (omega (arith, h)) (values_first m.values last h)
      (holding b))
      (values_held b m.values))
      (λ p pl pm.
      reaches_as p (holding valued) (add_all variable_said m.variables (holding valued)) _
      (flat_map beyond_variable m.variables) 3 5
      (reaches_variables m.variables fits.variables orderly.named orderly.variables p pl (omega (arith, pm))
      (variables_first m.variables p pm) (holding valued))
      (variables_held valued m.variables)))
      (ap (λ v. holding (record valued { variables = v ++ m.variables })) no_variables
      ∙ ap (λ v. holding (record b { values = v ++ m.values; variables = m.variables })) no_values)

  pub reaches_more : (o : Option Beyond) → FittingMore o → OrderlyMore o → (b : CertBlock) → b.values ≡ []
      → b.variables ≡ [] → (last : Place) → 3 ≤ rank last → rank last ≤ 3
      → Reaches last (holding b) (beyond_or o)
      (holding (record b { values = (told_beyond o).values; variables = (told_beyond o).variables })) 3 5
  reaches_more None fits orderly b no_values no_variables last l h =
      reaches_as last (holding b) (holding b) _ [] 3 5 (reaches_none last (holding b) 3 5 l (omega (arith, h)))
      (ap (λ v. holding (record b { values = v })) no_values
      ∙ ap (λ v. holding (record b { values = []; variables = v })) no_variables)
  reaches_more (Some m) fits orderly b no_values no_variables last l h =
      reaches_beyond m fits orderly b no_values no_variables last l h
