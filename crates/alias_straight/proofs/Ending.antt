-- The ends of blocks, as they are taken off the tokens.
use Rattle.std.specs.Prelude.{Result, Ok, Err, ⊤, codes, unwrap_or}
use Rattle.std.proofs.Common.{◌≡◌, ℕ, ◌-◌, ◌<◌, true, false, List, [], ◌∷◌, Option, Some, None, refl, ap, sym, subst}
use Rattle.std.proofs.Common.{◌∙◌}
use Rattle.alias_base.specs.Answer.{◌>>=◌}
use Rattle.alias_base.specs.declared.ids.BlockId.{BlockId}
use Rattle.alias_base.specs.declared.ids.EvaluationOrder.{EvaluationOrder}
use Rattle.json.specs.Token.{Token}
use Rattle.serde_json.specs.Data.{Data, null, object}
use Rattle.alias_hir.specs.declared.place.Place.{Place}
use Rattle.alias_hir.specs.declared.terminal.SwitchCase.{SwitchCase}
use Rattle.alias_hir.specs.declared.terminal.Terminal.{Terminal}
use Rattle.alias_hir.specs.declared.terminal.Terminal.TheVariants as terminal
use Rattle.alias_json.specs.Names.{named_at}
use Rattle.alias_json.specs.Reading.{number_at, known_keys}
use Rattle.alias_json.specs.declared.fault.ValueFault.{ValueFault}
use Rattle.alias_read.specs.Json.{required, option_at, optional, list_at, list_of}
use Rattle.alias_read.specs.Entries.{block_id_at}
use Rattle.alias_read.specs.Places.{place_at}
use Rattle.alias_read.specs.TerminalKinds.{terminal_names}
use Rattle.alias_read.specs.Terminals.{order_at, jump_key, jump_with, jump_at, branch_with, branch_at, case_at}
use Rattle.alias_read.specs.Terminals.{switch_at, exit_with, exit_at, unreachable_at, try_at, maybe_throw_at}
use Rattle.alias_read.specs.Terminals.{terminal_of_kind, terminal_at}
use Rattle.alias_read.specs.declared.terminal_kinds.JumpKind.{JumpKind}
use Rattle.alias_read.specs.declared.terminal_kinds.JumpKind.TheVariants as jump
use Rattle.alias_read.specs.declared.terminal_kinds.BranchKind.{BranchKind}
use Rattle.alias_read.specs.declared.terminal_kinds.ExitKind.{ExitKind}
use Rattle.alias_read.specs.declared.terminal_kinds.TerminalKind.{TerminalKind}
use Rattle.alias_read.specs.declared.terminal_kinds.TerminalKind.TheVariants as of
use Rattle.alias_straight.specs.Kinds.{TakesTerminal}
use Rattle.alias_straight.specs.Takes.{Takes}
use Rattle.alias_straight.specs.Members.{TakesMember, TakesList, MayTake, Fields, members_of, field, are_known, IsRead}
use Rattle.alias_straight.specs.Members.{Opens}
use Rattle.alias_straight.proofs.Fielding.{opened, goes, may_go, closed}
use Rattle.alias_straight.proofs.Finding.{required_is, given_is, optional_is, not_null, known_is}
use Rattle.alias_straight.proofs.Kinding.{list_of_is, key_is}
use Rattle.alias_straight.proofs.Literals.{null_read}

pub order_is : (n : ℕ) (d : Data) → ((p : List ℕ) → number_at p d ≡ Ok n) → (p : List ℕ) → order_at p d
    ≡ Ok (record { 0 = n })
order_is n d is p = ap (λ (r : Result ℕ ValueFault). r >>= (λ n. Ok (record { 0 = n }))) (is p)

abbrev IsErr : {A : Type 0} → Result A ValueFault → Type 0
IsErr (Ok x) = ⊥
IsErr (Err e) = ⊤

no_place : (x : Place) → place_at [] null ≡ Ok x → ⊥
no_place x e = subst IsErr e tt

-- a place that may be null
pub perhaps_place : (x : Place) (d : Data) → ((p : List ℕ) → place_at p d ≡ Ok x) → (p : List ℕ)
    → option_at place_at p d ≡ Ok (Some x)
perhaps_place x d is p = not_null place_at no_place p x d is

pub null_taken : (depth : ℕ) (ts rest : List Token) → ts ≡ Token.null ∷ rest
    → Takes (option_at place_at) depth ts None rest
null_taken depth ts rest first = record { tree = null; read = null_read depth ts rest first; is = λ p. refl }

no_block : (x : BlockId) → block_id_at [] null ≡ Ok x → ⊥
no_block x e = subst IsErr e tt

-- ---- behind the kind and the id

terminal_is : (kind : TerminalKind) (id : EvaluationOrder) (fs : Fields) (a b : Option Data) (t : Terminal)
    → field (codes "kind") fs ≡ a → field (codes "id") fs ≡ b
    → IsRead (named_at terminal_names) (Some kind) a → IsRead order_at (Some id) b → (p : List ℕ)
    → terminal_of_kind kind id p (object (members_of fs)) ≡ Ok t → terminal_at p (object (members_of fs)) ≡ Ok t
terminal_is kind id fs a b t ea eb ka ib p then =
    ap (λ (r : Result TerminalKind ValueFault). r
    >>= (λ k. required order_at p (codes "id") (object (members_of fs))
    >>= (λ i. terminal_of_kind k i p (object (members_of fs)))))
    (required_is (named_at terminal_names) (codes "kind") fs kind a ea ka p)
    ∙ ap (λ (r : Result EvaluationOrder ValueFault). r >>= (λ i. terminal_of_kind kind i p (object (members_of fs))))
    (required_is order_at (codes "id") fs id b eb ib p)
    ∙ then

terminal_taken : (kind : TerminalKind) (id : EvaluationOrder) (depth : ℕ) (start ts rest : List Token) (fs : Fields)
    (a b : Option Data) (t : Terminal) → field (codes "kind") fs ≡ a → field (codes "id") fs ≡ b
    → IsRead (named_at terminal_names) (Some kind) a → IsRead order_at (Some id) b → Opens depth start fs ts → ts
    ≡ Token.end_object ∷ rest → ((p : List ℕ) → terminal_of_kind kind id p (object (members_of fs)) ≡ Ok t)
    → Takes terminal_at depth start t rest
terminal_taken kind id depth start ts rest fs a b t ea eb ka ib so_far ends then =
    record {
      tree = object (members_of fs);
      read = closed depth start ts rest fs so_far ends;
      is = λ p. terminal_is kind id fs a b t ea eb ka ib p (then p);
    }

-- ---- a block that control goes on to

abbrev jump_fields : JumpKind → Option Data → Option Data → Option Data → Fields
jump_fields k a b c = (jump_key k, c) ∷ (codes "id", b) ∷ (codes "kind", a) ∷ []

jump_found : (k : JumpKind) (a b c : Option Data) → (field (codes "kind") (jump_fields k a b c) ≡ a)
    × (field (codes "id") (jump_fields k a b c) ≡ b) × (field (jump_key k) (jump_fields k a b c) ≡ c)
    × (are_known (codes "kind" ∷ codes "id" ∷ jump_key k ∷ []) (jump_fields k a b c) ≡ true)
jump_found jump.Goto a b c = (refl, refl, refl, refl)
jump_found jump.For a b c = (refl, refl, refl, refl)
jump_found jump.ForOf a b c = (refl, refl, refl, refl)
jump_found jump.ForIn a b c = (refl, refl, refl, refl)
jump_found jump.DoWhile a b c = (refl, refl, refl, refl)
jump_found jump.While a b c = (refl, refl, refl, refl)
jump_found jump.Logical a b c = (refl, refl, refl, refl)
jump_found jump.Ternary a b c = (refl, refl, refl, refl)
jump_found jump.Optional a b c = (refl, refl, refl, refl)
jump_found jump.Label a b c = (refl, refl, refl, refl)
jump_found jump.Sequence a b c = (refl, refl, refl, refl)
jump_found jump.Scope a b c = (refl, refl, refl, refl)
jump_found jump.PrunedScope a b c = (refl, refl, refl, refl)

jump_is : (k : JumpKind) (id : EvaluationOrder) (a b c : Option Data) (block : BlockId)
    → IsRead block_id_at (Some block) c → (p : List ℕ) → jump_at k id p (object (members_of (jump_fields k a b c)))
    ≡ Ok (jump_with k id block)
jump_is k id a b c block x p =
    let fs = jump_fields k a b c in
    let found = jump_found k a b c in
    let e₁ : required block_id_at p (jump_key k) (object (members_of fs)) ≡ Ok block =
    required_is block_id_at (jump_key k) fs block c found.2 x p in
    let e₂ : known_keys (codes "kind" ∷ codes "id" ∷ jump_key k ∷ []) p (object (members_of fs)) ≡ Ok tt =
    known_is (codes "kind" ∷ codes "id" ∷ jump_key k ∷ []) fs found.3 p in
    ap (λ (r : Result BlockId ValueFault). r
    >>= (λ x. known_keys (codes "kind" ∷ codes "id" ∷ jump_key k ∷ []) p (object (members_of fs))
    >>= (λ _. Ok (jump_with k id x)))) e₁
    ∙ ap (λ (r : Result ⊤ ValueFault). r >>= (λ _. Ok (jump_with k id block))) e₂

pub jump_taken : (k : JumpKind) (id : EvaluationOrder) (depth : ℕ) (ts t1 rest : List Token) (name : List ℕ)
    (block : BlockId) → name ≡ jump_key k → TakesMember block_id_at (depth - 1) ts name block t1 → t1 ≡ Token.end_object
    ∷ rest
    → TakesTerminal (of.Jump k) id depth ts (jump_with k id block) rest
jump_taken k id depth ts t1 rest name block same m ends = record {
  takes = λ start a b ka ib so_far.
      let f = goes block_id_at depth start ts t1 _ (jump_key k) block so_far
      (key_is block_id_at (depth - 1) ts t1 name (jump_key k) block same m) in
      let found = jump_found k a b f.tree in
      terminal_taken (of.Jump k) id depth start t1 rest (jump_fields k a b f.tree) a b (jump_with k id block) found.0
      found.1 ka ib f.opens ends (jump_is k id a b f.tree block f.is);
}

-- ---- the other kinds

branch_is : (k : BranchKind) (id : EvaluationOrder) (a b : Option Data) (d0 d1 d2 : Option Data) (test : Place)
    (consequent : BlockId) (alternate : BlockId) → IsRead place_at (Some test) d0
    → IsRead block_id_at (Some consequent) d1 → IsRead block_id_at (Some alternate) d2 → (p : List ℕ)
    → branch_at k id p (object (members_of
    ((codes "alternate", d2) ∷ (codes "consequent", d1) ∷ (codes "test", d0) ∷ (codes "id", b) ∷ (codes "kind", a)
    ∷ []))) ≡ Ok (branch_with k id test consequent alternate)
branch_is k id a b d0 d1 d2 test consequent alternate x_test x_consequent x_alternate p =
    let fs : Fields = (codes "alternate", d2) ∷ (codes "consequent", d1) ∷ (codes "test", d0) ∷ (codes "id", b)
    ∷ (codes "kind", a) ∷ [] in
    let e0 : required place_at p (codes "test") (object (members_of fs)) ≡ Ok test =
    required_is place_at (codes "test") fs test d0 refl x_test p in
    let e1 : required block_id_at p (codes "consequent") (object (members_of fs)) ≡ Ok consequent =
    required_is block_id_at (codes "consequent") fs consequent d1 refl x_consequent p in
    let e2 : required block_id_at p (codes "alternate") (object (members_of fs)) ≡ Ok alternate =
    required_is block_id_at (codes "alternate") fs alternate d2 refl x_alternate p in
    let e3 : known_keys (codes "kind" ∷ codes "id" ∷ codes "test" ∷ codes "consequent" ∷ codes "alternate" ∷ []) p
    (object (members_of fs)) ≡ Ok tt = known_is
    (codes "kind" ∷ codes "id" ∷ codes "test" ∷ codes "consequent" ∷ codes "alternate" ∷ []) fs refl p in
    rw (e0, e1, e2, e3) refl

pub branch_taken : (k : BranchKind) (id : EvaluationOrder) (depth : ℕ) (ts t1 t2 t3 rest : List Token) (test : Place)
    (consequent : BlockId) (alternate : BlockId) → TakesMember place_at (depth - 1) ts (codes "test") test t1
    → TakesMember block_id_at (depth - 1) t1 (codes "consequent") consequent t2
    → TakesMember block_id_at (depth - 1) t2 (codes "alternate") alternate t3 → t3 ≡ Token.end_object ∷ rest
    → TakesTerminal (of.Branch k) id depth ts (branch_with k id test consequent alternate) rest
branch_taken k id depth ts t1 t2 t3 rest test consequent alternate m0 m1 m2 ends = record {
  takes = λ start a b ka ib so_far.
      let f0 = goes place_at depth start ts t1 _ (codes "test") test so_far m0 in
      let f1 = goes block_id_at depth start t1 t2 _ (codes "consequent") consequent f0.opens m1 in
      let f2 = goes block_id_at depth start t2 t3 _ (codes "alternate") alternate f1.opens m2 in
      terminal_taken (of.Branch k) id depth start t3 rest
      ((codes "alternate", f2.tree) ∷ (codes "consequent", f1.tree) ∷ (codes "test", f0.tree) ∷ (codes "id", b)
      ∷ (codes "kind", a) ∷ []) a b (branch_with k id test consequent alternate) refl refl ka ib f2.opens ends
      (branch_is k id a b f0.tree f1.tree f2.tree test consequent alternate f0.is f1.is f2.is);
}

exit_is : (k : ExitKind) (id : EvaluationOrder) (a b : Option Data) (d0 : Option Data) (stored : Place)
    → IsRead place_at (Some stored) d0 → (p : List ℕ)
    → exit_at k id p (object (members_of ((codes "value", d0) ∷ (codes "id", b) ∷ (codes "kind", a) ∷ [])))
    ≡ Ok (exit_with k id stored)
exit_is k id a b d0 stored x_stored p =
    let fs : Fields = (codes "value", d0) ∷ (codes "id", b) ∷ (codes "kind", a) ∷ [] in
    let e0 : required place_at p (codes "value") (object (members_of fs)) ≡ Ok stored =
    required_is place_at (codes "value") fs stored d0 refl x_stored p in
    let e1 : known_keys (codes "kind" ∷ codes "id" ∷ codes "value" ∷ []) p (object (members_of fs)) ≡ Ok tt =
    known_is (codes "kind" ∷ codes "id" ∷ codes "value" ∷ []) fs refl p in
    rw (e0, e1) refl

pub exit_taken : (k : ExitKind) (id : EvaluationOrder) (depth : ℕ) (ts t1 rest : List Token) (stored : Place)
    → TakesMember place_at (depth - 1) ts (codes "value") stored t1 → t1 ≡ Token.end_object ∷ rest
    → TakesTerminal (of.Exit k) id depth ts (exit_with k id stored) rest
exit_taken k id depth ts t1 rest stored m0 ends = record {
  takes = λ start a b ka ib so_far.
      let f0 = goes place_at depth start ts t1 _ (codes "value") stored so_far m0 in
      terminal_taken (of.Exit k) id depth start t1 rest
      ((codes "value", f0.tree) ∷ (codes "id", b) ∷ (codes "kind", a) ∷ []) a b (exit_with k id stored) refl refl ka
      ib f0.opens ends (exit_is k id a b f0.tree stored f0.is);
}

switch_is : (id : EvaluationOrder) (a b : Option Data) (d0 d1 : Option Data) (g_cases : Option (List SwitchCase))
    (test : Place) (cases : List SwitchCase) → IsRead place_at (Some test) d0 → IsRead (list_at case_at) g_cases d1
    → cases ≡ unwrap_or g_cases [] → (p : List ℕ)
    → switch_at id p (object (members_of ((codes "cases", d1) ∷ (codes "test", d0) ∷ (codes "id", b) ∷ (codes "kind", a)
    ∷ []))) ≡ Ok (terminal.Switch id test cases)
switch_is id a b d0 d1 g_cases test cases x_test x_cases s_cases p =
    let fs : Fields = (codes "cases", d1) ∷ (codes "test", d0) ∷ (codes "id", b) ∷ (codes "kind", a) ∷ [] in
    let e0 : required place_at p (codes "test") (object (members_of fs)) ≡ Ok test =
    required_is place_at (codes "test") fs test d0 refl x_test p in
    let e1 : list_of case_at p (codes "cases") (object (members_of fs)) ≡ Ok cases =
    list_of_is case_at (codes "cases") fs g_cases cases d1 refl x_cases s_cases p in
    let e2 : known_keys (codes "kind" ∷ codes "id" ∷ codes "test" ∷ codes "cases" ∷ []) p (object (members_of fs))
    ≡ Ok tt = known_is (codes "kind" ∷ codes "id" ∷ codes "test" ∷ codes "cases" ∷ []) fs refl p in
    rw (e0, e1, e2) refl

pub switch_taken : (id : EvaluationOrder) (depth : ℕ) (ts t1 t2 rest : List Token) (test : Place)
    (cases : List SwitchCase) → TakesMember place_at (depth - 1) ts (codes "test") test t1
    → TakesList case_at (depth - 1) t1 (codes "cases") cases t2 → t2 ≡ Token.end_object ∷ rest
    → TakesTerminal of.Switch id depth ts (terminal.Switch id test cases) rest
switch_taken id depth ts t1 t2 rest test cases m0 m1 ends = record {
  takes = λ start a b ka ib so_far.
      let f0 = goes place_at depth start ts t1 _ (codes "test") test so_far m0 in
      let f1 = may_go (list_at case_at) depth start t1 t2 _ (codes "cases") m1.list f0.opens m1.may in
      terminal_taken of.Switch id depth start t2 rest
      ((codes "cases", f1.tree) ∷ (codes "test", f0.tree) ∷ (codes "id", b) ∷ (codes "kind", a) ∷ []) a b
      (terminal.Switch id test cases) refl refl ka ib f1.opens ends
      (switch_is id a b f0.tree f1.tree m1.list test cases f0.is f1.is m1.is);
}

unreachable_is : (id : EvaluationOrder) (a b : Option Data) → (p : List ℕ)
    → unreachable_at id p (object (members_of ((codes "id", b) ∷ (codes "kind", a) ∷ [])))
    ≡ Ok (terminal.Unreachable id)
unreachable_is id a b p =
    let fs : Fields = (codes "id", b) ∷ (codes "kind", a) ∷ [] in
    let e0 : known_keys (codes "kind" ∷ codes "id" ∷ []) p (object (members_of fs)) ≡ Ok tt =
    known_is (codes "kind" ∷ codes "id" ∷ []) fs refl p in
    rw e0 refl

pub unreachable_taken : (id : EvaluationOrder) (depth : ℕ) (ts rest : List Token) → ts ≡ Token.end_object ∷ rest
    → TakesTerminal of.Unreachable id depth ts (terminal.Unreachable id) rest
unreachable_taken id depth ts rest ends = record {
  takes = λ start a b ka ib so_far.
      terminal_taken of.Unreachable id depth start ts rest ((codes "id", b) ∷ (codes "kind", a) ∷ []) a b
      (terminal.Unreachable id) refl refl ka ib so_far ends (unreachable_is id a b);
}

try_is : (id : EvaluationOrder) (a b : Option Data) (d0 d1 d2 : Option Data) (block : BlockId) (handler : BlockId)
    (binding : Option Place) → IsRead block_id_at (Some block) d0 → IsRead block_id_at (Some handler) d1
    → IsRead place_at binding d2 → (p : List ℕ)
    → try_at id p (object (members_of ((codes "handler_binding", d2) ∷ (codes "handler", d1) ∷ (codes "block", d0)
    ∷ (codes "id", b) ∷ (codes "kind", a) ∷ []))) ≡ Ok (terminal.Try id block handler binding)
try_is id a b d0 d1 d2 block handler binding x_block x_handler x_binding p =
    let fs : Fields = (codes "handler_binding", d2) ∷ (codes "handler", d1) ∷ (codes "block", d0) ∷ (codes "id", b)
    ∷ (codes "kind", a) ∷ [] in
    let e0 : required block_id_at p (codes "block") (object (members_of fs)) ≡ Ok block =
    required_is block_id_at (codes "block") fs block d0 refl x_block p in
    let e1 : required block_id_at p (codes "handler") (object (members_of fs)) ≡ Ok handler =
    required_is block_id_at (codes "handler") fs handler d1 refl x_handler p in
    let e2 : optional place_at p (codes "handler_binding") (object (members_of fs)) ≡ Ok binding =
    optional_is place_at no_place (codes "handler_binding") fs binding d2 refl x_binding p in
    let e3 : known_keys (codes "kind" ∷ codes "id" ∷ codes "block" ∷ codes "handler" ∷ codes "handler_binding" ∷ []) p
    (object (members_of fs)) ≡ Ok tt = known_is
    (codes "kind" ∷ codes "id" ∷ codes "block" ∷ codes "handler" ∷ codes "handler_binding" ∷ []) fs refl p in
    rw (e0, e1, e2, e3) refl

pub try_taken : (id : EvaluationOrder) (depth : ℕ) (ts t1 t2 t3 rest : List Token) (block : BlockId) (handler : BlockId)
    (binding : Option Place) → TakesMember block_id_at (depth - 1) ts (codes "block") block t1
    → TakesMember block_id_at (depth - 1) t1 (codes "handler") handler t2
    → MayTake place_at (depth - 1) t2 (codes "handler_binding") binding t3 → t3 ≡ Token.end_object ∷ rest
    → TakesTerminal of.Try id depth ts (terminal.Try id block handler binding) rest
try_taken id depth ts t1 t2 t3 rest block handler binding m0 m1 m2 ends = record {
  takes = λ start a b ka ib so_far.
      let f0 = goes block_id_at depth start ts t1 _ (codes "block") block so_far m0 in
      let f1 = goes block_id_at depth start t1 t2 _ (codes "handler") handler f0.opens m1 in
      let f2 = may_go place_at depth start t2 t3 _ (codes "handler_binding") binding f1.opens m2 in
      terminal_taken of.Try id depth start t3 rest
      ((codes "handler_binding", f2.tree) ∷ (codes "handler", f1.tree) ∷ (codes "block", f0.tree) ∷ (codes "id", b)
      ∷ (codes "kind", a) ∷ []) a b (terminal.Try id block handler binding) refl refl ka ib f2.opens ends
      (try_is id a b f0.tree f1.tree f2.tree block handler binding f0.is f1.is f2.is);
}

maybe_throw_is : (id : EvaluationOrder) (a b : Option Data) (d0 d1 : Option Data) (continuation : BlockId)
    (handler : Option BlockId) → IsRead block_id_at (Some continuation) d0 → IsRead block_id_at handler d1
    → (p : List ℕ) → maybe_throw_at id p (object
    (members_of ((codes "handler", d1) ∷ (codes "continuation", d0) ∷ (codes "id", b) ∷ (codes "kind", a) ∷ [])))
    ≡ Ok (terminal.MaybeThrow id continuation handler None)
maybe_throw_is id a b d0 d1 continuation handler x_continuation x_handler p =
    let fs : Fields = (codes "handler", d1) ∷ (codes "continuation", d0) ∷ (codes "id", b) ∷ (codes "kind", a) ∷ [] in
    let e0 : required block_id_at p (codes "continuation") (object (members_of fs)) ≡ Ok continuation =
    required_is block_id_at (codes "continuation") fs continuation d0 refl x_continuation p in
    let e1 : optional block_id_at p (codes "handler") (object (members_of fs)) ≡ Ok handler =
    optional_is block_id_at no_block (codes "handler") fs handler d1 refl x_handler p in
    let e2 : known_keys (codes "kind" ∷ codes "id" ∷ codes "continuation" ∷ codes "handler" ∷ []) p
    (object (members_of fs)) ≡ Ok tt = known_is
    (codes "kind" ∷ codes "id" ∷ codes "continuation" ∷ codes "handler" ∷ []) fs refl p in
    rw (e0, e1, e2) refl

pub maybe_throw_taken : (id : EvaluationOrder) (depth : ℕ) (ts t1 t2 rest : List Token) (continuation : BlockId)
    (handler : Option BlockId) → TakesMember block_id_at (depth - 1) ts (codes "continuation") continuation t1
    → MayTake block_id_at (depth - 1) t1 (codes "handler") handler t2 → t2 ≡ Token.end_object ∷ rest
    → TakesTerminal of.MaybeThrow id depth ts (terminal.MaybeThrow id continuation handler None) rest
maybe_throw_taken id depth ts t1 t2 rest continuation handler m0 m1 ends = record {
  takes = λ start a b ka ib so_far.
      let f0 = goes block_id_at depth start ts t1 _ (codes "continuation") continuation so_far m0 in
      let f1 = may_go block_id_at depth start t1 t2 _ (codes "handler") handler f0.opens m1 in
      terminal_taken of.MaybeThrow id depth start t2 rest
      ((codes "handler", f1.tree) ∷ (codes "continuation", f0.tree) ∷ (codes "id", b) ∷ (codes "kind", a) ∷ []) a b
      (terminal.MaybeThrow id continuation handler None) refl refl ka ib f1.opens ends
      (maybe_throw_is id a b f0.tree f1.tree continuation handler f0.is f1.is);
}

-- ---- a case

case_is : (d0 d1 : Option Data) (test : Option (Option Place)) (block : BlockId) → IsRead (option_at place_at) test d0
    → IsRead block_id_at (Some block) d1 → (p : List ℕ)
    → case_at p (object (members_of ((codes "block", d1) ∷ (codes "test", d0) ∷ [])))
    ≡ Ok (record { test = unwrap_or test None; block = block })
case_is d0 d1 test block x_test x_block p =
    let fs : Fields = (codes "block", d1) ∷ (codes "test", d0) ∷ [] in
    let e0 : optional place_at p (codes "test") (object (members_of fs)) ≡ Ok (unwrap_or test None) =
    given_is (option_at place_at) None (codes "test") fs test d0 refl x_test p in
    let e1 : required block_id_at p (codes "block") (object (members_of fs)) ≡ Ok block =
    required_is block_id_at (codes "block") fs block d1 refl x_block p in
    let e2 : known_keys (codes "test" ∷ codes "block" ∷ []) p (object (members_of fs)) ≡ Ok tt =
    known_is (codes "test" ∷ codes "block" ∷ []) fs refl p in
    rw (e0, e1, e2) refl

pub case_taken : (depth : ℕ) (start t0 t1 t2 rest : List Token) (test : Option (Option Place)) (block : BlockId) → 0
    < depth → start ≡ Token.begin_object ∷ t0 → MayTake (option_at place_at) (depth - 1) t0 (codes "test") test t1
    → TakesMember block_id_at (depth - 1) t1 (codes "block") block t2 → t2 ≡ Token.end_object ∷ rest
    → Takes case_at depth start (record { test = unwrap_or test None; block = block }) rest
case_taken depth start t0 t1 t2 rest test block h begins m0 m1 ends =
    let f0 = may_go (option_at place_at) depth start t0 t1 [] (codes "test") test (opened depth start t0 h begins) m0 in
    let f1 = goes block_id_at depth start t1 t2 _ (codes "block") block f0.opens m1 in
    record {
      tree = object (members_of ((codes "block", f1.tree) ∷ (codes "test", f0.tree) ∷ []));
      read = closed depth start t2 rest ((codes "block", f1.tree) ∷ (codes "test", f0.tree) ∷ []) f1.opens ends;
      is = case_is f0.tree f1.tree test block f0.is f1.is;
    }
