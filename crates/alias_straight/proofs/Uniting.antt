-- Units, as they are taken off the tokens.
use Rattle.std.specs.Prelude.{Result, Ok, Err, ⊤, MatchOption, codes, length, is_some, option_map, option_and_then}
use Rattle.std.specs.Prelude.{unwrap_or}
use Rattle.std.proofs.Common.{◌≡◌, ℕ, ◌-◌, ◌<◌, true, false, true≢false, List, [], ◌∷◌, Option, Some, None, refl, ap}
use Rattle.std.proofs.Common.{sym, subst, ◌∙◌}
use Rattle.alias_base.specs.Answer.{◌>>=◌}
use Rattle.json.specs.Token.{Token}
use Rattle.json.specs.Lex.{tokens}
use Rattle.json.specs.Json as json
use Rattle.json.specs.Json.{value}
use Rattle.serde_json.specs.Data.{Data, number, unsigned, object}
use Rattle.serde_json.specs.Read.{of_json, converted, read}
use Rattle.alias_hir.specs.declared.env.Config.{Config}
use Rattle.alias_hir.specs.declared.env.Identifier.{Identifier}
use Rattle.alias_hir.specs.declared.env.Unit.{Unit as HirUnit}
use Rattle.alias_hir.specs.declared.hir.ContextValue.{ContextValue}
use Rattle.alias_hir.specs.declared.hir.HirFunction.{HirFunction}
use Rattle.alias_hir.specs.declared.signature.Shape.{Shape}
use Rattle.alias_hir.specs.declared.types.Ty.{Ty}
use Rattle.alias_json.specs.Pointer.{at_key}
use Rattle.alias_json.specs.Reading.{Reads, number_at, known_keys}
use Rattle.alias_json.specs.declared.fault.ValueFault.{ValueFault}
use Rattle.alias_read.specs.Json.{required, if_given, given_or, list_at, list_of}
use Rattle.alias_read.specs.Functions.{function_at}
use Rattle.alias_read.specs.Shapes.{shapes_at}
use Rattle.alias_read.specs.Tables.{identifier_at, unset, config_at}
use Rattle.alias_read.specs.Types.{type_at}
use Rattle.alias_read.specs.Units.{format_at, format_numbered, first_keys, second_keys, context_values_at}
use Rattle.alias_read.specs.Units.{with_context_values, unit_at}
use Rattle.alias_read.specs.declared.unit.Format.{Format}
use Rattle.alias_read.specs.declared.unit.Format.TheVariants.{First, Second}
use Rattle.alias_straight.specs.Entries.{as_is}
use Rattle.alias_straight.specs.Takes.{Takes}
use Rattle.alias_straight.specs.Members.{TakesMember, TakesList, MayTake, Fields, members_of, field, IsRead, Opens}
use Rattle.alias_straight.specs.Units.{given_values}
use Rattle.alias_straight.proofs.Fielding.{get-members_of, opened, goes, may_go, closed}
use Rattle.alias_straight.proofs.Finding.{required_is, known_is}
use Rattle.alias_straight.proofs.Kinding.{list_of_is}

-- ---- the format

pub first_there : (n : ℕ) (d : Data) → n ≡ 1 → ((p : List ℕ) → number_at p d ≡ Ok n) → (p : List ℕ) → format_at p d
    ≡ Ok First
first_there n d e is p = ap (λ (r : Result ℕ ValueFault). r >>= format_numbered p) (is p) ∙ ap (format_numbered p) e

pub second_there : (n : ℕ) (d : Data) → n ≡ 2 → ((p : List ℕ) → number_at p d ≡ Ok n) → (p : List ℕ) → format_at p d
    ≡ Ok Second
second_there n d e is p = ap (λ (r : Result ℕ ValueFault). r >>= format_numbered p) (is p) ∙ ap (format_numbered p) e

-- ---- parts

abbrev data_of : Result Data ValueFault → Data → Data
data_of (Ok d) other = d
data_of (Err e) other = other

as_found : (v o : Option Data) → IsRead as_is v o → o ≡ v
as_found None None is = refl
as_found None (Some d) is = absurd is
as_found (Some d) None is = absurd is
as_found (Some d) (Some e) is = ap (λ (r : Result Data ValueFault). Some (data_of r d)) (is [])

-- the part of the root that stands at a key is what its data are
part_is : {A : Type 0} (reads : Reads A) (default : A) (key : List ℕ) (fs : Fields) (v o : Option Data) (x : A)
    → field key fs ≡ o → IsRead as_is v o → if_given reads default (at_key [] key) v ≡ Ok x
    → given_or reads default [] key (object (members_of fs)) ≡ Ok x
part_is reads default key fs v o x e is then =
    ap (if_given reads default (at_key [] key)) (get-members_of key fs ∙ e ∙ as_found v o is) ∙ then

abbrev unit_of_parts : Config → List Ty → List Shape → List Identifier → List HirFunction → HirFunction
    → List ContextValue → HirUnit
unit_of_parts config types shapes identifiers functions root values =
    record {
      function = with_context_values root values;
      env = record {
        identifiers = identifiers;
        types = types;
        functions = functions;
        shapes = shapes;
        errors = [];
        interned = [];
        config = config;
      };
    }

first_is : (d0 d1 d2 d3 d4 d5 d6 : Option Data) (vc vt vs : Option Data) (gi : Option (List Identifier))
    (gf : Option (List HirFunction)) (config : Config) (types : List Ty) (shapes : List Shape)
    (identifiers : List Identifier) (functions : List HirFunction) (root : HirFunction)
    → IsRead format_at (Some First) d0 → IsRead as_is vc d1 → IsRead as_is vt d2 → IsRead as_is vs d3
    → IsRead (list_at identifier_at) gi d4 → IsRead (list_at function_at) gf d5 → IsRead function_at (Some root) d6
    → if_given config_at unset (at_key [] (codes "config")) vc ≡ Ok config
    → if_given (list_at type_at) [] (at_key [] (codes "types")) vt ≡ Ok types
    → if_given shapes_at [] (at_key [] (codes "shapes")) vs ≡ Ok shapes
    → identifiers ≡ unwrap_or gi [] → functions ≡ unwrap_or gf []
    → unit_at [] (object (members_of ((codes "root", d6) ∷ (codes "functions", d5) ∷ (codes "identifiers", d4)
    ∷ (codes "shapes", d3) ∷ (codes "types", d2) ∷ (codes "config", d1) ∷ (codes "format", d0) ∷ [])))
    ≡ Ok (unit_of_parts config types shapes identifiers functions root [])
first_is d0 d1 d2 d3 d4 d5 d6 vc vt vs gi gf config types shapes identifiers functions root x0 x1 x2 x3 x4 x5 x6 hc ht
    hs si sf =
    let fs : Fields = (codes "root", d6) ∷ (codes "functions", d5) ∷ (codes "identifiers", d4) ∷ (codes "shapes", d3)
    ∷ (codes "types", d2) ∷ (codes "config", d1) ∷ (codes "format", d0) ∷ [] in
    let e0 : required format_at [] (codes "format") (object (members_of fs)) ≡ Ok First =
    required_is format_at (codes "format") fs First d0 refl x0 [] in
    let e1 : given_or config_at unset [] (codes "config") (object (members_of fs)) ≡ Ok config =
    part_is config_at unset (codes "config") fs vc d1 config refl x1 hc in
    let e2 : given_or (list_at type_at) [] [] (codes "types") (object (members_of fs)) ≡ Ok types =
    part_is (list_at type_at) [] (codes "types") fs vt d2 types refl x2 ht in
    let e3 : given_or shapes_at [] [] (codes "shapes") (object (members_of fs)) ≡ Ok shapes =
    part_is shapes_at [] (codes "shapes") fs vs d3 shapes refl x3 hs in
    let e4 : list_of identifier_at [] (codes "identifiers") (object (members_of fs)) ≡ Ok identifiers =
    list_of_is identifier_at (codes "identifiers") fs gi identifiers d4 refl x4 si [] in
    let e5 : list_of function_at [] (codes "functions") (object (members_of fs)) ≡ Ok functions =
    list_of_is function_at (codes "functions") fs gf functions d5 refl x5 sf [] in
    let e6 : required function_at [] (codes "root") (object (members_of fs)) ≡ Ok root =
    required_is function_at (codes "root") fs root d6 refl x6 [] in
    let e7 : known_keys first_keys [] (object (members_of fs)) ≡ Ok tt = known_is first_keys fs refl [] in
    rw (e0, e1, e2, e3, e4, e5, e6, e7) refl

second_is : (d0 d1 d2 d3 d4 d5 d6 d7 : Option Data) (vc vt vs : Option Data) (gi : Option (List Identifier))
    (gf : Option (List HirFunction)) (vv : Option Data) (config : Config) (types : List Ty) (shapes : List Shape)
    (identifiers : List Identifier) (functions : List HirFunction) (root : HirFunction) (values : List ContextValue)
    → IsRead format_at (Some Second) d0 → IsRead as_is vc d1 → IsRead as_is vt d2 → IsRead as_is vs d3
    → IsRead (list_at identifier_at) gi d4 → IsRead (list_at function_at) gf d5 → IsRead function_at (Some root) d6
    → if_given config_at unset (at_key [] (codes "config")) vc ≡ Ok config
    → if_given (list_at type_at) [] (at_key [] (codes "types")) vt ≡ Ok types
    → if_given shapes_at [] (at_key [] (codes "shapes")) vs ≡ Ok shapes
    → identifiers ≡ unwrap_or gi [] → functions ≡ unwrap_or gf []
    → IsRead as_is vv d7 → if_given (context_values_at (length root.context)) [] (at_key [] (codes "context_values")) vv
    ≡ Ok values
    → unit_at [] (object (members_of ((codes "context_values", d7) ∷ (codes "root", d6) ∷ (codes "functions", d5)
    ∷ (codes "identifiers", d4) ∷ (codes "shapes", d3) ∷ (codes "types", d2) ∷ (codes "config", d1)
    ∷ (codes "format", d0) ∷ []))) ≡ Ok (unit_of_parts config types shapes identifiers functions root values)
second_is d0 d1 d2 d3 d4 d5 d6 d7 vc vt vs gi gf vv config types shapes identifiers functions root values x0 x1 x2 x3 x4
    x5 x6 hc ht hs si sf x7 hv =
    let fs : Fields = (codes "context_values", d7) ∷ (codes "root", d6) ∷ (codes "functions", d5)
    ∷ (codes "identifiers", d4) ∷ (codes "shapes", d3) ∷ (codes "types", d2) ∷ (codes "config", d1)
    ∷ (codes "format", d0) ∷ [] in
    let e0 : required format_at [] (codes "format") (object (members_of fs)) ≡ Ok Second =
    required_is format_at (codes "format") fs Second d0 refl x0 [] in
    let e1 : given_or config_at unset [] (codes "config") (object (members_of fs)) ≡ Ok config =
    part_is config_at unset (codes "config") fs vc d1 config refl x1 hc in
    let e2 : given_or (list_at type_at) [] [] (codes "types") (object (members_of fs)) ≡ Ok types =
    part_is (list_at type_at) [] (codes "types") fs vt d2 types refl x2 ht in
    let e3 : given_or shapes_at [] [] (codes "shapes") (object (members_of fs)) ≡ Ok shapes =
    part_is shapes_at [] (codes "shapes") fs vs d3 shapes refl x3 hs in
    let e4 : list_of identifier_at [] (codes "identifiers") (object (members_of fs)) ≡ Ok identifiers =
    list_of_is identifier_at (codes "identifiers") fs gi identifiers d4 refl x4 si [] in
    let e5 : list_of function_at [] (codes "functions") (object (members_of fs)) ≡ Ok functions =
    list_of_is function_at (codes "functions") fs gf functions d5 refl x5 sf [] in
    let e6 : required function_at [] (codes "root") (object (members_of fs)) ≡ Ok root =
    required_is function_at (codes "root") fs root d6 refl x6 [] in
    let e7 : given_or (context_values_at (length root.context)) [] [] (codes "context_values") (object (members_of fs))
    ≡ Ok values = part_is (context_values_at (length root.context)) [] (codes "context_values") fs vv d7 values refl
    x7 hv in
    let e8 : known_keys second_keys [] (object (members_of fs)) ≡ Ok tt = known_is second_keys fs refl [] in
    rw (e0, e1, e2, e3, e4, e5, e6, e7, e8) refl

-- ---- a unit

second_given : (v : Option Data) (root : HirFunction) (values : List ContextValue) → given_values v Second root
    ≡ Ok values → if_given (context_values_at (length root.context)) [] (at_key [] (codes "context_values")) v
    ≡ Ok values
second_given None root values e = e
second_given (Some d) root values e = e

abbrev IsErr : {A : Type 0} → Result A ValueFault → Type 0
IsErr (Ok x) = ⊥
IsErr (Err e) = ⊤

abbrev ok_or : {A : Type 0} → A → Result A ValueFault → A
ok_or other (Ok x) = x
ok_or other (Err e) = other

first_given : (v : Option Data) (root : HirFunction) (values : List ContextValue) → given_values v First root
    ≡ Ok values → (v ≡ None) × ([] ≡ values)
first_given None root values e = (refl, ap (ok_or []) e)
first_given (Some d) root values e = absurd (subst IsErr e tt)

abbrev IsNone : {A : Type 0} → Option A → Type 0
IsNone None = ⊤
IsNone (Some a) = ⊥

abbrev IsUnit : ℕ → List Token → List Token → HirUnit → Type 0
IsUnit depth start rest u = (d : Data) × (converted of_json (value depth start) ≡ Some (d, rest))
    × (unit_at [] d ≡ Ok u)

module _ (depth : ℕ) (start t0 t1 t2 t3 t4 t5 t6 t7 t8 rest : List Token) (vc vt vs vv : Option Data) (config : Config)
    (types : List Ty) (shapes : List Shape) (identifiers : List Identifier) (functions : List HirFunction)
    (root : HirFunction) (values : List ContextValue) (h : 0 < depth) (begins : start ≡ Token.begin_object ∷ t0)
    (m1 : MayTake as_is (depth - 1) t1 (codes "config") vc t2) (m2 : MayTake as_is (depth - 1) t2 (codes "types") vt t3)
    (m3 : MayTake as_is (depth - 1) t3 (codes "shapes") vs t4)
    (m4 : TakesList identifier_at (depth - 1) t4 (codes "identifiers") identifiers t5)
    (m5 : TakesList function_at (depth - 1) t5 (codes "functions") functions t6)
    (m6 : TakesMember function_at (depth - 1) t6 (codes "root") root t7)
    (m7 : MayTake as_is (depth - 1) t7 (codes "context_values") vv t8) (ends : t8 ≡ Token.end_object ∷ rest)
    (hc : if_given config_at unset (at_key [] (codes "config")) vc ≡ Ok config)
    (ht : if_given (list_at type_at) [] (at_key [] (codes "types")) vt ≡ Ok types)
    (hs : if_given shapes_at [] (at_key [] (codes "shapes")) vs ≡ Ok shapes) where
  no_values : (v : Option Data) → v ≡ None → MayTake as_is (depth - 1) t7 (codes "context_values") v t8 → t7 ≡ t8
  no_values None e m = m.member
  no_values (Some d) e m = absurd (subst IsNone (sym e) tt)

  first_taken : TakesMember format_at (depth - 1) t0 (codes "format") First t1 → given_values vv First root ≡ Ok values
      → IsUnit depth start rest (unit_of_parts config types shapes identifiers functions root values)
  first_taken m0 hv =
      let f0 = goes format_at depth start t0 t1 [] (codes "format") First (opened depth start t0 h begins) m0 in
      let f1 = may_go as_is depth start t1 t2 _ (codes "config") vc f0.opens m1 in
      let f2 = may_go as_is depth start t2 t3 _ (codes "types") vt f1.opens m2 in
      let f3 = may_go as_is depth start t3 t4 _ (codes "shapes") vs f2.opens m3 in
      let f4 = may_go (list_at identifier_at) depth start t4 t5 _ (codes "identifiers") m4.list f3.opens m4.may in
      let f5 = may_go (list_at function_at) depth start t5 t6 _ (codes "functions") m5.list f4.opens m5.may in
      let f6 = goes function_at depth start t6 t7 _ (codes "root") root f5.opens m6 in
      let absent = first_given vv root values hv in
      let whole = first_is f0.tree f1.tree f2.tree f3.tree f4.tree f5.tree f6.tree vc vt vs m4.list m5.list config types
      shapes identifiers functions root f0.is f1.is f2.is f3.is f4.is f5.is f6.is hc ht hs m4.is m5.is in (
        object (members_of ((codes "root", f6.tree) ∷ (codes "functions", f5.tree) ∷ (codes "identifiers", f4.tree)
            ∷ (codes "shapes", f3.tree) ∷ (codes "types", f2.tree) ∷ (codes "config", f1.tree)
            ∷ (codes "format", f0.tree)
            ∷ [])),
        closed depth start t7 rest ((codes "root", f6.tree) ∷ (codes "functions", f5.tree)
            ∷ (codes "identifiers", f4.tree) ∷ (codes "shapes", f3.tree) ∷ (codes "types", f2.tree)
            ∷ (codes "config", f1.tree) ∷ (codes "format", f0.tree) ∷ []) f6.opens (no_values vv absent.0 m7 ∙ ends),
        whole ∙ ap (λ (l : List ContextValue). Ok (unit_of_parts config types shapes identifiers functions root l))
            absent.1,
      )

  second_taken : TakesMember format_at (depth - 1) t0 (codes "format") Second t1 → given_values vv Second root
      ≡ Ok values → IsUnit depth start rest (unit_of_parts config types shapes identifiers functions root values)
  second_taken m0 hv =
      let f0 = goes format_at depth start t0 t1 [] (codes "format") Second (opened depth start t0 h begins) m0 in
      let f1 = may_go as_is depth start t1 t2 _ (codes "config") vc f0.opens m1 in
      let f2 = may_go as_is depth start t2 t3 _ (codes "types") vt f1.opens m2 in
      let f3 = may_go as_is depth start t3 t4 _ (codes "shapes") vs f2.opens m3 in
      let f4 = may_go (list_at identifier_at) depth start t4 t5 _ (codes "identifiers") m4.list f3.opens m4.may in
      let f5 = may_go (list_at function_at) depth start t5 t6 _ (codes "functions") m5.list f4.opens m5.may in
      let f6 = goes function_at depth start t6 t7 _ (codes "root") root f5.opens m6 in
      let f7 = may_go as_is depth start t7 t8 _ (codes "context_values") vv f6.opens m7 in
      let whole = second_is f0.tree f1.tree f2.tree f3.tree f4.tree f5.tree f6.tree f7.tree vc vt vs m4.list m5.list vv
      config types shapes identifiers functions root values f0.is f1.is f2.is f3.is f4.is f5.is f6.is hc ht hs m4.is
      m5.is f7.is (second_given vv root values hv) in (
        object (members_of ((codes "context_values", f7.tree) ∷ (codes "root", f6.tree) ∷ (codes "functions", f5.tree)
            ∷ (codes "identifiers", f4.tree) ∷ (codes "shapes", f3.tree) ∷ (codes "types", f2.tree)
            ∷ (codes "config", f1.tree) ∷ (codes "format", f0.tree) ∷ [])),
        closed depth start t8 rest ((codes "context_values", f7.tree) ∷ (codes "root", f6.tree)
            ∷ (codes "functions", f5.tree) ∷ (codes "identifiers", f4.tree) ∷ (codes "shapes", f3.tree)
            ∷ (codes "types", f2.tree) ∷ (codes "config", f1.tree) ∷ (codes "format", f0.tree) ∷ []) f7.opens ends,
        whole,
      )

  pub unit_taken : (format : Format) → TakesMember format_at (depth - 1) t0 (codes "format") format t1
      → given_values vv format root ≡ Ok values
      → IsUnit depth start rest (unit_of_parts config types shapes identifiers functions root values)
  unit_taken First m0 hv = first_taken m0 hv
  unit_taken Second m0 hv = second_taken m0 hv

-- ---- a text

-- no token is next, so none is left
pub none_left : {A : Type 0} (o : Option A) (ts more : List Token) (P : A → Type 0)
    → MatchOption o ((ts ≡ []) × (more ≡ [])) P → is_some o ≡ false → ts ≡ []
none_left None ts more P m n = m.0
none_left (Some x) ts more P m n = absurd (true≢false n)

abbrev rest_of : Option (Data × List Token) → List Token → List Token
rest_of None other = other
rest_of (Some q) other = q.1

abbrev data_in : Option (Data × List Token) → Option Data
data_in None = None
data_in (Some q) = Some q.0

last_read : (j : json.Json) (r : List Token) (x : Option Data) (d : Data) → of_json j ≡ x
    → option_map {U = Data × List Token} (λ b. (b, r)) x
    ≡ Some (d, []) → option_and_then of_json (json.if_last j r) ≡ Some d
last_read j r None d is e = absurd (subst IsNone e tt)
last_read j r (Some b) d is e =
    let over : r ≡ [] = ap (λ (o : Option (Data × List Token)). rest_of o []) e in
    ap (λ (l : List Token). option_and_then of_json (json.if_last j l)) over ∙ is ∙ ap data_in e

last_value : (o : Option (json.Json × List Token)) (d : Data) → converted of_json o ≡ Some (d, [])
    → option_and_then of_json (option_and_then (λ p. json.if_last p.0 p.1) o) ≡ Some d
last_value None d e = absurd (subst IsNone e tt)
last_value (Some q) d e = last_read q.0 q.1 (of_json q.0) d refl e

pub text_is_read : (text : List ℕ) (d : Data) (rest : List Token) → converted of_json (value 127 (tokens text))
    ≡ Some (d, rest) → rest ≡ [] → read text ≡ Some d
text_is_read text d rest e over = last_value (value 127 (tokens text)) d (e ∙ ap (λ (l : List Token). Some (d, l)) over)
