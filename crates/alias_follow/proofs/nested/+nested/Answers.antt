use Rattle.std.proofs.Common.{◌≡◌, ◌∙◌, ◌-◌, suc, Err, Some, refl, subst, rules, arith}
use Rattle.std.specs.Prelude.{slice_get, slice_index_or}
use Rattle.alias_base.specs.declared.ids.FunctionId.{FunctionId}
use Rattle.alias_certificate.specs.declared.fault.CheckFault.{CheckFault}
use Rattle.alias_nested.specs.Created.{created_functions}
use Rattle.alias_nested.specs.Slots.{emptied}
use Rattle.alias_nested.proofs.Creating.{created_is_among}
use Rattle.alias_nested.proofs.Keeping.{pruned_self, pruned_through, pruned_fits, pruned_beside, environment_back}
use Rattle.alias_nested.proofs.Keeping.{not_itself}
use Rattle.alias_nested.proofs.Leading.{item_at}
use Rattle.alias_nesting_laws.specs.NestingLaws.{taken_out_fits}
use Rattle.alias_nesting_laws.specs.SlotLaws.{created_exists}
use Rattle.alias_fitting_laws.specs.pruning.PruningLaws.{function_through}
use Rattle.alias_follow.specs.Functions.{following}
use Rattle.alias_follow.specs.Units.{taken_followed, slot_followed, below_followed}
use Rattle.alias_follow.proofs.Coming.{comes_fault, comes_with_fault}
use Rattle.alias_follow.proofs.Levels.{continues_all, continues_on, stops_here, all_done, below_none, below_more}
use Rattle.alias_follow.proofs.Levels.{taken_refused, taken_comes, slot_comes}
use Rattle.alias_follow.proofs.nested.+nested.Goals as goal

pub follow_created-returns-then-levels-eq0-clause-run : goal.follow_created-returns-then-levels-eq0-clause-run
follow_created-returns-then-levels-eq0-clause-run t c =
    let none : c.args.levels ≡ 0 = omega arith in
    λ fs a. (fs, below_none c.args.given.now c.args.levels c.args.func.now (following c.args.env.now fs) none, a)

pub follow_created-returns-then-levels-eq0-clause-kept : goal.follow_created-returns-then-levels-eq0-clause-kept
follow_created-returns-then-levels-eq0-clause-kept t c = pruned_self c.args.func.now c.args.env.now c.requires

pub follow_created-returns-in_err-created-clause-kept : goal.follow_created-returns-in_err-created-clause-kept
follow_created-returns-in_err-created-clause-kept t c = pruned_self c.args.func.now c.args.env.now c.requires

pub follow_created-loop-id-init : goal.follow_created-loop-id-init
follow_created-loop-id-init t c = record {
  run = λ fs a. continues_all (slot_followed c.args.given.now
      (below_followed c.args.given.now (c.args.levels - 1))) c.as_slice-id-items.result.now c.args.env.now fs
      c.args.handed.now.solved c.args.handed.now.beyond a;
  kept = pruned_self c.args.func.now c.args.env.now c.requires;
}

pub follow_created-loop-id-preserved : goal.follow_created-loop-id-preserved
follow_created-loop-id-preserved t c =
    let items = c.as_slice-id-items.result.now in
    let id : FunctionId = slice_index_or items c.loop-id.id-index (record { 0 = 0 }) in
    let at = item_at items c.loop-id.id-index (record { 0 = 0 }) c.loop-id-test.true in
    record {
      run = λ fs a.
          continues_on (slot_followed c.args.given.now (below_followed c.args.given.now (c.args.levels - 1)))
          items c.loop-id.id-index id (following c.args.env.now fs) c.loop-id.env c.follow_slot.new.env
          c.loop-id.handed.solved c.loop-id.handed.beyond c.follow_slot.new.handed.solved c.follow_slot.new.handed.beyond
          at (c.loop-id.invariant.run fs a) c.in_ok-follow_slot.ensures.run;
      kept = pruned_through c.args.env.now c.loop-id.env c.follow_slot.new.env c.loop-id.invariant.kept
          c.follow_slot.ensures.kept;
    }

pub follow_created-returns-in_err-follow_slot-clause-kept : goal.follow_created-returns-in_err-follow_slot-clause-kept
follow_created-returns-in_err-follow_slot-clause-kept t c =
    pruned_through c.args.env.now c.loop-id.env c.follow_slot.new.env c.loop-id.invariant.kept c.follow_slot.ensures.kept

pub follow_created-follow_slot-requires : goal.follow_created-follow_slot-requires
follow_created-follow_slot-requires t c =
    let f = c.args.func.now in
    let env = c.loop-id.env in
    let items = c.as_slice-id-items.result.now in
    let same : items ≡ created_functions f = c.as_slice-id-items.ensures ∙ c.in_ok-created.ensures in
    let id : FunctionId = slice_index_or items c.loop-id.id-index (record { 0 = 0 }) in
    let at : slice_get (created_functions f) c.loop-id.id-index ≡ Some id =
    subst (λ xs. slice_get xs c.loop-id.id-index ≡ Some id) same
    (item_at items c.loop-id.id-index (record { 0 = 0 }) c.loop-id-test.true) in
    let among = created_is_among f c.args.env.now c.requires c.loop-id.id-index id at in
    let fits = pruned_fits c.args.env.now env c.loop-id.invariant.kept f c.requires in (
      omega arith,
      (
        created_exists env f id fits among,
        (
          λ h is. taken_out_fits env f h (emptied h.returns) id fits among is refl,
          λ h is. not_itself env f h id fits among is,
        ),
      ),
    )

pub follow_created-returns-in_err-follow_slot-clause-run : goal.follow_created-returns-in_err-follow_slot-clause-run
follow_created-returns-in_err-follow_slot-clause-run t c =
    let given = c.args.given.now in
    let f = c.args.func.now in
    let e : CheckFault = c.in_err-follow_slot.field-0.0 in
    let same : c.from_residual-in_err-follow_slot.result ≡ Err e = search rules in
    let more : c.args.levels ≡ suc (c.args.levels - 1) = omega arith in
    let items = c.as_slice-id-items.result.now in
    let all : items ≡ created_functions f = c.as_slice-id-items.ensures ∙ c.in_ok-created.ensures in
    let id : FunctionId = slice_index_or items c.loop-id.id-index (record { 0 = 0 }) in
    λ fs a.
    let so_far = c.loop-id.invariant.run fs a in
    comes_fault (below_followed given c.args.levels f (following c.args.env.now fs))
    c.from_residual-in_err-follow_slot.result e c.follow_slot.new.env c.follow_slot.new.handed.solved c.follow_slot.new.handed.beyond same
    (λ free. below_more given c.args.levels (c.args.levels - 1) f (following c.args.env.now fs) items more all
    ∙ stops_here (slot_followed given (below_followed given (c.args.levels - 1))) items c.loop-id.id-index id
    (following c.args.env.now fs) c.loop-id.env c.loop-id.handed.solved c.loop-id.handed.beyond e so_far
    (item_at items c.loop-id.id-index (record { 0 = 0 }) c.loop-id-test.true)
    (c.in_err-follow_slot.ensures.run so_far.0 so_far.1.accounts free))

pub follow_created-returns-clause-run : goal.follow_created-returns-clause-run
follow_created-returns-clause-run t c =
    let given = c.args.given.now in
    let f = c.args.func.now in
    let more : c.args.levels ≡ suc (c.args.levels - 1) = omega arith in
    let items = c.as_slice-id-items.result.now in
    let all : items ≡ created_functions f = c.as_slice-id-items.ensures ∙ c.in_ok-created.ensures in
    λ fs a.
    let so_far = c.loop-id.invariant.run fs a in (
      so_far.0,
      below_more given c.args.levels (c.args.levels - 1) f (following c.args.env.now fs) items more all
          ∙ all_done (slot_followed given (below_followed given (c.args.levels - 1))) items c.loop-id.id-index
          (following c.args.env.now fs) c.loop-id.env c.loop-id.handed.solved c.loop-id.handed.beyond (omega (arith, c.loop-id-test.false)) so_far,
      so_far.1.accounts,
    )

pub follow_slot-returns-clause-run : goal.follow_slot-returns-clause-run
follow_slot-returns-clause-run t c =
    let given = c.args.given.now in
    let taken = c.take_out-func in
    let done = c.follow_taken-answer in
    λ fs a.
    slot_comes given (below_followed given c.args.levels) c.args.id c.args.env.now taken.new.env fs taken.result
    taken.ensures.func taken.ensures.env done.new.func done.new.env c.put_back.new.env done.new.handed.solved done.new.handed.beyond done.result
    c.put_back.ensures (done.ensures.run fs a)

pub follow_slot-returns-clause-kept : goal.follow_slot-returns-clause-kept
follow_slot-returns-clause-kept t c =
    let taken = c.take_out-func in
    let done = c.follow_taken-answer in
    environment_back c.args.env.now c.args.id taken.result done.new.func taken.new.env done.new.env c.put_back.new.env
    taken.ensures.func (c.requires.other taken.result taken.ensures.func) taken.ensures.env c.put_back.ensures
    done.ensures.kept

pub follow_taken-returns-in_err-follow_created-clause-run : goal.follow_taken-returns-in_err-follow_created-clause-run
follow_taken-returns-in_err-follow_created-clause-run t c =
    let given = c.args.given.now in
    let e : CheckFault = c.in_err-follow_created.field-0.0 in
    let same : c.from_residual.result ≡ Err e = search rules in
    λ fs a. comes_with_fault (taken_followed given (below_followed given c.args.levels) c.args.id c.args.func.now
    (following c.args.env.now fs)) c.from_residual.result e c.args.func.now c.follow_created.new.env
    c.follow_created.new.handed.solved c.follow_created.new.handed.beyond same
    (λ free. taken_refused given (below_followed given c.args.levels) c.args.id c.args.func.now
    (following c.args.env.now fs) e (c.in_err-follow_created.ensures.run fs a free))

pub follow_taken-returns-in_err-follow_created-clause-kept : goal.follow_taken-returns-in_err-follow_created-clause-kept
follow_taken-returns-in_err-follow_created-clause-kept t c =
    pruned_beside c.args.env.now c.follow_created.new.env c.follow_created.ensures.kept c.args.func.now c.requires

pub follow_taken-follow_nested-requires : goal.follow_taken-follow_nested-requires
follow_taken-follow_nested-requires t c = pruned_fits c.args.env.now c.follow_created.new.env c.follow_created.ensures.kept
    c.args.func.now c.requires

pub follow_taken-returns-clause-run : goal.follow_taken-returns-clause-run
follow_taken-returns-clause-run t c =
    let given = c.args.given.now in
    λ fs a.
    let l = c.in_ok-follow_created.ensures.run fs a in
    taken_comes given (below_followed given c.args.levels) c.args.id c.args.func.now c.follow_nested.new.func
    (following c.args.env.now fs) (following c.follow_created.new.env l.0) c.follow_nested.new.env
    c.follow_nested.new.handed.solved c.follow_nested.new.handed.beyond c.follow_nested.result l.1 (c.follow_nested.ensures.run l.0 l.2)

pub follow_taken-returns-clause-kept : goal.follow_taken-returns-clause-kept
follow_taken-returns-clause-kept t c =
    function_through c.args.func.now c.args.func.now c.follow_nested.new.func c.args.env.now c.follow_created.new.env
    c.follow_nested.new.env
    (pruned_beside c.args.env.now c.follow_created.new.env c.follow_created.ensures.kept c.args.func.now c.requires)
    c.follow_nested.ensures.kept
