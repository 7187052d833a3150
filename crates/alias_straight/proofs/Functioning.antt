-- Blocks and functions, as they are taken off the tokens.
use Rattle.std.specs.Prelude.{Result, Ok, Bool, codes, unwrap_or}
use Rattle.std.proofs.Common.{◌≡◌, ℕ, ◌-◌, ◌<◌, false, List, [], ◌∷◌, Option, Some, None, refl, ap, ◌∙◌}
use Rattle.alias_base.specs.Find.{value_at}
use Rattle.alias_base.specs.declared.ids.BlockId.{BlockId}
use Rattle.alias_base.specs.declared.ids.InstructionId.{InstructionId}
use Rattle.json.specs.Token.{Token}
use Rattle.json.specs.Json.{value}
use Rattle.json.proofs.Grammar.{value_is}
use Rattle.serde_json.specs.Data.{Data, boolean, object}
use Rattle.serde_json.specs.Read.{of_json, converted}
use Rattle.alias_hir.specs.declared.place.Place.{Place}
use Rattle.alias_hir.specs.declared.place.Span.{Span}
use Rattle.alias_hir.specs.declared.hir.BasicBlock.{BasicBlock}
use Rattle.alias_hir.specs.declared.hir.FunctionType.{FunctionType}
use Rattle.alias_hir.specs.declared.hir.HirFunction.{HirFunction}
use Rattle.alias_hir.specs.declared.hir.Instruction.{Instruction}
use Rattle.alias_hir.specs.declared.hir.ParamPattern.{ParamPattern}
use Rattle.alias_hir.specs.declared.hir.Phi.{Phi}
use Rattle.alias_hir.specs.declared.terminal.Terminal.{Terminal}
use Rattle.alias_json.specs.Names.{named_at}
use Rattle.alias_json.specs.Reading.{boolean_at, known_keys}
use Rattle.alias_read.specs.Json.{required, optional, flag, list_at, list_of}
use Rattle.alias_read.specs.Entries.{block_id_at, entries_at}
use Rattle.alias_read.specs.Functions.{instruction_at, instruction_id_at, phi_at, block_at, function_at}
use Rattle.alias_read.specs.Names.{function_type_names}
use Rattle.alias_read.specs.Places.{place_at, span_at, param_at}
use Rattle.alias_read.specs.Terminals.{terminal_at}
use Rattle.alias_straight.specs.Takes.{Takes}
use Rattle.alias_straight.specs.Members.{TakesMember, TakesList, MayTake, Fields, members_of, IsRead}
use Rattle.alias_straight.proofs.Fielding.{opened, goes, may_go, closed}
use Rattle.alias_straight.proofs.Finding.{required_is, given_is, optional_is, known_is}
use Rattle.alias_straight.proofs.Identifying.{no_span}
use Rattle.alias_straight.proofs.Kinding.{list_of_is}

pub flag_taken : (depth : ℕ) (ts rest : List Token) (b : Bool) → ts ≡ Token.boolean b ∷ rest
    → Takes boolean_at depth ts b rest
flag_taken depth ts rest b first = record {
  tree = boolean b;
  read = ap (λ (l : List Token). converted of_json (value depth l)) first
      ∙ ap (converted of_json) (value_is depth (Token.boolean b ∷ rest));
  is = λ p. refl;
}

block_is : (found : List (BlockId × BasicBlock)) (d0 d1 d2 d3 : Option Data) (g_phis : Option (List Phi))
    (g_instructions : Option (List InstructionId)) (id : BlockId) (phis : List Phi) (instructions : List InstructionId)
    (ending : Terminal) → value_at found id ≡ None → IsRead block_id_at (Some id) d0 → IsRead (list_at phi_at) g_phis d1
    → IsRead (list_at instruction_id_at) g_instructions d2 → IsRead terminal_at (Some ending) d3 → phis
    ≡ unwrap_or g_phis [] → instructions ≡ unwrap_or g_instructions [] → (p : List ℕ)
    → block_at found p (object (members_of
    ((codes "terminal", d3) ∷ (codes "instructions", d2) ∷ (codes "phis", d1) ∷ (codes "id", d0) ∷ [])))
    ≡ Ok ((id, record { phis = phis; instructions = instructions; terminal = ending }))
block_is found d0 d1 d2 d3 g_phis g_instructions id phis instructions ending new x_id x_phis x_instructions x_ending
    s_phis s_instructions p =
    let fs : Fields = (codes "terminal", d3) ∷ (codes "instructions", d2) ∷ (codes "phis", d1) ∷ (codes "id", d0)
    ∷ [] in
    let e0 : required block_id_at p (codes "id") (object (members_of fs)) ≡ Ok id =
    required_is block_id_at (codes "id") fs id d0 refl x_id p in
    let e1 : list_of phi_at p (codes "phis") (object (members_of fs)) ≡ Ok phis =
    list_of_is phi_at (codes "phis") fs g_phis phis d1 refl x_phis s_phis p in
    let e2 : list_of instruction_id_at p (codes "instructions") (object (members_of fs)) ≡ Ok instructions =
    list_of_is instruction_id_at (codes "instructions") fs g_instructions instructions d2 refl x_instructions
    s_instructions p in
    let e3 : required terminal_at p (codes "terminal") (object (members_of fs)) ≡ Ok ending =
    required_is terminal_at (codes "terminal") fs ending d3 refl x_ending p in
    let e4 : known_keys (codes "id" ∷ codes "phis" ∷ codes "instructions" ∷ codes "terminal" ∷ []) p
    (object (members_of fs)) ≡ Ok tt = known_is
    (codes "id" ∷ codes "phis" ∷ codes "instructions" ∷ codes "terminal" ∷ []) fs refl p in
    rw (e0, new, e1, e2, e3, e4) refl

pub block_taken : (found : List (BlockId × BasicBlock)) (depth : ℕ) (start t0 t1 t2 t3 t4 rest : List Token)
    (id : BlockId) (phis : List Phi) (instructions : List InstructionId) (ending : Terminal) → value_at found id ≡ None
    → 0 < depth → start ≡ Token.begin_object ∷ t0 → TakesMember block_id_at (depth - 1) t0 (codes "id") id t1
    → TakesList phi_at (depth - 1) t1 (codes "phis") phis t2
    → TakesList instruction_id_at (depth - 1) t2 (codes "instructions") instructions t3
    → TakesMember terminal_at (depth - 1) t3 (codes "terminal") ending t4 → t4 ≡ Token.end_object ∷ rest
    → Takes (block_at found) depth start ((id, record { phis = phis; instructions = instructions; terminal = ending }))
    rest
block_taken found depth start t0 t1 t2 t3 t4 rest id phis instructions ending new h begins m0 m1 m2 m3 ends =
    let f0 = goes block_id_at depth start t0 t1 [] (codes "id") id (opened depth start t0 h begins) m0 in
    let f1 = may_go (list_at phi_at) depth start t1 t2 _ (codes "phis") m1.list f0.opens m1.may in
    let f2 = may_go (list_at instruction_id_at) depth start t2 t3 _ (codes "instructions") m2.list f1.opens m2.may in
    let f3 = goes terminal_at depth start t3 t4 _ (codes "terminal") ending f2.opens m3 in
    record {
      tree = object (members_of ((codes "terminal", f3.tree) ∷ (codes "instructions", f2.tree) ∷ (codes "phis", f1.tree)
          ∷ (codes "id", f0.tree) ∷ []));
      read = closed depth start t4 rest ((codes "terminal", f3.tree) ∷ (codes "instructions", f2.tree)
          ∷ (codes "phis", f1.tree) ∷ (codes "id", f0.tree) ∷ []) f3.opens ends;
      is = block_is found f0.tree f1.tree f2.tree f3.tree m1.list m2.list id phis instructions ending new f0.is f1.is
          f2.is f3.is m1.is m2.is;
    }

function_is : (d0 d1 d2 d3 d4 d5 d6 d7 d8 : Option Data) (g_params : Option (List ParamPattern))
    (g_context : Option (List Place)) (g_instructions : Option (List Instruction)) (fn_type : FunctionType)
    (params : List ParamPattern) (context : List Place) (returns : Place) (entry : BlockId) (is_async : Option Bool)
    (span : Option Span) (instructions : List Instruction) (blocks : List (BlockId × BasicBlock))
    → IsRead (named_at function_type_names) (Some fn_type) d0 → IsRead (list_at param_at) g_params d1
    → IsRead (list_at place_at) g_context d2 → IsRead place_at (Some returns) d3 → IsRead block_id_at (Some entry) d4
    → IsRead boolean_at is_async d5 → IsRead span_at span d6 → IsRead (list_at instruction_at) g_instructions d7
    → IsRead (entries_at block_at) (Some blocks) d8 → params ≡ unwrap_or g_params [] → context ≡ unwrap_or g_context []
    → instructions ≡ unwrap_or g_instructions [] → (p : List ℕ)
    → function_at p (object (members_of ((codes "blocks", d8) ∷ (codes "instructions", d7) ∷ (codes "span", d6)
    ∷ (codes "is_async", d5) ∷ (codes "entry", d4) ∷ (codes "returns", d3) ∷ (codes "context", d2)
    ∷ (codes "params", d1) ∷ (codes "fn_type", d0) ∷ [])))
    ≡ Ok (record {
      fn_type = fn_type;
      params = params;
      context = context;
      context_values = [];
      returns = returns;
      body = record { entry = entry; blocks = blocks };
      instructions = instructions;
      is_async = unwrap_or is_async false;
      span = span;
      aliasing_effects = None;
    })
function_is d0 d1 d2 d3 d4 d5 d6 d7 d8 g_params g_context g_instructions fn_type params context returns entry is_async
    span instructions blocks x_fn_type x_params x_context x_returns x_entry x_is_async x_span x_instructions x_blocks
    s_params s_context s_instructions p =
    let fs : Fields = (codes "blocks", d8) ∷ (codes "instructions", d7) ∷ (codes "span", d6) ∷ (codes "is_async", d5)
    ∷ (codes "entry", d4) ∷ (codes "returns", d3) ∷ (codes "context", d2) ∷ (codes "params", d1)
    ∷ (codes "fn_type", d0) ∷ [] in
    let e0 : required (named_at function_type_names) p (codes "fn_type") (object (members_of fs)) ≡ Ok fn_type =
    required_is (named_at function_type_names) (codes "fn_type") fs fn_type d0 refl x_fn_type p in
    let e1 : list_of param_at p (codes "params") (object (members_of fs)) ≡ Ok params =
    list_of_is param_at (codes "params") fs g_params params d1 refl x_params s_params p in
    let e2 : list_of place_at p (codes "context") (object (members_of fs)) ≡ Ok context =
    list_of_is place_at (codes "context") fs g_context context d2 refl x_context s_context p in
    let e3 : required place_at p (codes "returns") (object (members_of fs)) ≡ Ok returns =
    required_is place_at (codes "returns") fs returns d3 refl x_returns p in
    let e4 : required block_id_at p (codes "entry") (object (members_of fs)) ≡ Ok entry =
    required_is block_id_at (codes "entry") fs entry d4 refl x_entry p in
    let e5 : flag p (codes "is_async") (object (members_of fs)) ≡ Ok (unwrap_or is_async false) =
    given_is boolean_at false (codes "is_async") fs is_async d5 refl x_is_async p in
    let e6 : optional span_at p (codes "span") (object (members_of fs)) ≡ Ok span =
    optional_is span_at no_span (codes "span") fs span d6 refl x_span p in
    let e7 : list_of instruction_at p (codes "instructions") (object (members_of fs)) ≡ Ok instructions =
    list_of_is instruction_at (codes "instructions") fs g_instructions instructions d7 refl x_instructions
    s_instructions p in
    let e8 : required (entries_at block_at) p (codes "blocks") (object (members_of fs)) ≡ Ok blocks =
    required_is (entries_at block_at) (codes "blocks") fs blocks d8 refl x_blocks p in
    let e9 : known_keys (codes "fn_type" ∷ codes "params" ∷ codes "context" ∷ codes "returns" ∷ codes "entry"
    ∷ codes "is_async" ∷ codes "span" ∷ codes "instructions" ∷ codes "blocks" ∷ []) p (object (members_of fs))
    ≡ Ok tt = known_is (codes "fn_type" ∷ codes "params" ∷ codes "context" ∷ codes "returns" ∷ codes "entry"
    ∷ codes "is_async" ∷ codes "span" ∷ codes "instructions" ∷ codes "blocks" ∷ []) fs refl p in
    rw (e0, e1, e2, e3, e4, e5, e6, e7, e8, e9) refl

pub function_taken : (depth : ℕ) (start t0 t1 t2 t3 t4 t5 t6 t7 t8 t9 rest : List Token) (fn_type : FunctionType)
    (params : List ParamPattern) (context : List Place) (returns : Place) (entry : BlockId) (is_async : Option Bool)
    (span : Option Span) (instructions : List Instruction) (blocks : List (BlockId × BasicBlock)) → 0 < depth → start
    ≡ Token.begin_object ∷ t0 → TakesMember (named_at function_type_names) (depth - 1) t0 (codes "fn_type") fn_type t1
    → TakesList param_at (depth - 1) t1 (codes "params") params t2
    → TakesList place_at (depth - 1) t2 (codes "context") context t3
    → TakesMember place_at (depth - 1) t3 (codes "returns") returns t4
    → TakesMember block_id_at (depth - 1) t4 (codes "entry") entry t5
    → MayTake boolean_at (depth - 1) t5 (codes "is_async") is_async t6
    → MayTake span_at (depth - 1) t6 (codes "span") span t7
    → TakesList instruction_at (depth - 1) t7 (codes "instructions") instructions t8
    → TakesMember (entries_at block_at) (depth - 1) t8 (codes "blocks") blocks t9 → t9 ≡ Token.end_object ∷ rest
    → Takes function_at depth start (record {
      fn_type = fn_type;
      params = params;
      context = context;
      context_values = [];
      returns = returns;
      body = record { entry = entry; blocks = blocks };
      instructions = instructions;
      is_async = unwrap_or is_async false;
      span = span;
      aliasing_effects = None;
    }) rest
function_taken depth start t0 t1 t2 t3 t4 t5 t6 t7 t8 t9 rest fn_type params context returns entry is_async span
    instructions blocks h begins m0 m1 m2 m3 m4 m5 m6 m7 m8 ends =
    let f0 = goes (named_at function_type_names) depth start t0 t1 [] (codes "fn_type") fn_type
    (opened depth start t0 h begins) m0 in
    let f1 = may_go (list_at param_at) depth start t1 t2 _ (codes "params") m1.list f0.opens m1.may in
    let f2 = may_go (list_at place_at) depth start t2 t3 _ (codes "context") m2.list f1.opens m2.may in
    let f3 = goes place_at depth start t3 t4 _ (codes "returns") returns f2.opens m3 in
    let f4 = goes block_id_at depth start t4 t5 _ (codes "entry") entry f3.opens m4 in
    let f5 = may_go boolean_at depth start t5 t6 _ (codes "is_async") is_async f4.opens m5 in
    let f6 = may_go span_at depth start t6 t7 _ (codes "span") span f5.opens m6 in
    let f7 = may_go (list_at instruction_at) depth start t7 t8 _ (codes "instructions") m7.list f6.opens m7.may in
    let f8 = goes (entries_at block_at) depth start t8 t9 _ (codes "blocks") blocks f7.opens m8 in
    record {
      tree = object (members_of ((codes "blocks", f8.tree) ∷ (codes "instructions", f7.tree) ∷ (codes "span", f6.tree)
          ∷ (codes "is_async", f5.tree) ∷ (codes "entry", f4.tree) ∷ (codes "returns", f3.tree)
          ∷ (codes "context", f2.tree) ∷ (codes "params", f1.tree) ∷ (codes "fn_type", f0.tree) ∷ []));
      read = closed depth start t9 rest ((codes "blocks", f8.tree) ∷ (codes "instructions", f7.tree)
          ∷ (codes "span", f6.tree) ∷ (codes "is_async", f5.tree) ∷ (codes "entry", f4.tree)
          ∷ (codes "returns", f3.tree) ∷ (codes "context", f2.tree) ∷ (codes "params", f1.tree)
          ∷ (codes "fn_type", f0.tree) ∷ []) f8.opens ends;
      is = function_is f0.tree f1.tree f2.tree f3.tree f4.tree f5.tree f6.tree f7.tree f8.tree m1.list m2.list m7.list
          fn_type params context returns entry is_async span instructions blocks f0.is f1.is f2.is f3.is f4.is f5.is
          f6.is f7.is f8.is m1.is m2.is m7.is;
    }
