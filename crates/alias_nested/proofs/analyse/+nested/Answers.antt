use Rattle.std.proofs.Common.{◌≡◌, ◌∙◌, ◌-◌, suc, [], ◌∷◌, Ok, Err, Some, inl, refl, subst, drop, rules, arith}
use Rattle.std.specs.Prelude.{slice_get, slice_index_or}
use Rattle.alias_base.specs.declared.ids.FunctionId.{FunctionId}
use Rattle.alias_hir.specs.declared.error.InferError.{InferError}
use Rattle.alias_hir.specs.declared.error.InferError.TheVariants.{Memory}
use Rattle.alias_nested.specs.Analysis.{analysis}
use Rattle.alias_nested.specs.Answers.{TakenAnalysed, SlotAnalysed, AnalysedWith, Each}
use Rattle.alias_nested.specs.Created.{created_functions}
use Rattle.alias_nested.specs.Order.{below_innermost_first}
use Rattle.alias_nested.specs.Refusals.{TakenRefused, OneOfRefused, SlotRefused, AnalysisRefused}
use Rattle.alias_nested.specs.Slots.{emptied}
use Rattle.alias_nested.proofs.Answering.{leads_with_error, taken_refused, taken_leads, slot_leads}
use Rattle.alias_nested.proofs.Changing.{each_innermost_first, over_nothing, over_more, over_all, nothing_below}
use Rattle.alias_nested.proofs.Changing.{nameless_below, next_apart, refused_in, once_each, in_order, refused_below}
use Rattle.alias_nested.proofs.Changing.{keeps_itself, slot_keeps, slot_notes, notes_both, notes_all, notes_none}
use Rattle.alias_nested.proofs.Changing.{where_ok}
use Rattle.alias_nested.proofs.Creating.{created_is_among}
use Rattle.alias_nested.proofs.Keeping.{pruned_self, pruned_through, pruned_fits, pruned_beside, environment_back}
use Rattle.alias_nested.proofs.Keeping.{not_itself}
use Rattle.alias_nested.proofs.Leading.{item_at, stops_here, all_done, continues_all, continues_on, analysed_none}
use Rattle.alias_nested.proofs.Leading.{analysed_more, refused_more, leads_error}
use Rattle.alias_nesting_laws.specs.NestingLaws.{taken_out_fits}
use Rattle.alias_nesting_laws.specs.SlotLaws.{created_exists}
use Rattle.alias_fitting_laws.specs.pruning.PruningLaws.{function_through}
use Rattle.alias_nested.specs.Faults.{IsNamedFault, IsFaultOf, IsFaultWithin}
use Rattle.alias_nested.proofs.Faulting.{err_on, where_err, failed_below, slot_failed}
use Rattle.alias_nested.proofs.analyse.+nested.Goals as goal

pub analyse_created-returns-then-levels-eq0-clause-run : goal.analyse_created-returns-then-levels-eq0-clause-run
analyse_created-returns-then-levels-eq0-clause-run g t c =
    let none : c.args.levels ≡ 0 = omega arith in
    λ fs a. (
      fs,
      analysed_none g.P.InnerPasses.keeps_all c.args.levels c.args.func.now (analysis c.args.env.now fs)
          none,
      a,
    )

pub analyse_created-returns-then-levels-eq0-clause-kept : goal.analyse_created-returns-then-levels-eq0-clause-kept
analyse_created-returns-then-levels-eq0-clause-kept g t c = pruned_self c.args.func.now c.args.env.now c.requires.fits

pub analyse_created-returns-then-levels-eq0-clause-order : goal.analyse_created-returns-then-levels-eq0-clause-order
analyse_created-returns-then-levels-eq0-clause-order g t c =
    nothing_below (below_innermost_first c.args.levels c.args.func.now c.args.env.now) c.args.env.now

pub analyse_created-returns-in_err-created-clause-order : goal.analyse_created-returns-in_err-created-clause-order
analyse_created-returns-in_err-created-clause-order g t c =
    let e : InferError = Memory c.in_err-created.field-0.0 in
    let same : c.from_residual.result ≡ Err e = search rules in
    nameless_below (below_innermost_first c.args.levels c.args.func.now c.args.env.now) c.args.env.now
    c.from_residual.result e same refl

pub analyse_created-returns-in_err-created-clause-kept : goal.analyse_created-returns-in_err-created-clause-kept
analyse_created-returns-in_err-created-clause-kept g t c = pruned_self c.args.func.now c.args.env.now c.requires.fits

pub analyse_created-loop-id-init : goal.analyse_created-loop-id-init
analyse_created-loop-id-init g t c =
    let k = g.P.InnerPasses.keeps_all in
    record {
      run = λ fs a. continues_all (SlotRefused k (c.args.levels - 1) (AnalysisRefused k (c.args.levels - 1)))
          (SlotAnalysed k (AnalysedWith k (c.args.levels - 1))) c.as_slice-id-items.result.now c.args.env.now fs
          c.args.solved.now a;
      kept = pruned_self c.args.func.now c.args.env.now c.requires.fits;
      order = over_nothing (each_innermost_first (c.args.levels - 1) c.args.env.now c.as_slice-id-items.result.now)
          c.args.env.now c.args.solved.now;
      faults = omega arith;
    }

pub analyse_created-loop-id-preserved : goal.analyse_created-loop-id-preserved
analyse_created-loop-id-preserved g t c =
    let k = g.P.InnerPasses.keeps_all in
    let items = c.as_slice-id-items.result.now in
    let id : FunctionId = slice_index_or items c.loop-id.id-index (record { 0 = 0 }) in
    let at = item_at items c.loop-id.id-index (record { 0 = 0 }) c.loop-id-test.true in
    let all : items ≡ created_functions c.args.func.now = c.as_slice-id-items.ensures ∙ c.in_ok-created.ensures in
    let once = once_each (c.args.levels - 1) c.args.func.now c.args.env.now items all c.requires.fits in
    let before = c.loop-id.invariant.faults in
    let now = c.analyse_slot.ensures.faults in
    record {
      run = λ fs a.
          continues_on (SlotRefused k (c.args.levels - 1) (AnalysisRefused k (c.args.levels - 1)))
          (SlotAnalysed k (AnalysedWith k (c.args.levels - 1))) items c.loop-id.id-index id
          (analysis c.args.env.now fs) c.loop-id.env c.analyse_slot.new.env c.loop-id.solved
          c.analyse_slot.new.solved
          at (c.loop-id.invariant.run fs a) c.in_ok-analyse_slot.ensures.run;
      kept = pruned_through c.args.env.now c.loop-id.env c.analyse_slot.new.env c.loop-id.invariant.kept
          c.analyse_slot.ensures.kept;
      order =
          over_more (c.args.levels - 1) items c.loop-id.id-index id at c.args.env.now c.loop-id.env once
          c.args.solved.now c.loop-id.solved c.loop-id.invariant.order
          c.analyse_slot.new.env c.analyse_slot.ensures.order.changes c.analyse_slot.new.solved
          c.in_ok-analyse_slot.ensures.noted;
      faults = omega arith;
    }

pub analyse_created-returns-in_err-analyse_slot-clause-kept :
    goal.analyse_created-returns-in_err-analyse_slot-clause-kept
analyse_created-returns-in_err-analyse_slot-clause-kept g t c =
    pruned_through c.args.env.now c.loop-id.env c.analyse_slot.new.env c.loop-id.invariant.kept
    c.analyse_slot.ensures.kept

pub analyse_created-analyse_slot-requires : goal.analyse_created-analyse_slot-requires
analyse_created-analyse_slot-requires g t c κs within =
    let f = c.args.func.now in
    let env = c.loop-id.env in
    let items = c.as_slice-id-items.result.now in
    let same : items ≡ created_functions f = c.as_slice-id-items.ensures ∙ c.in_ok-created.ensures in
    let id : FunctionId = slice_index_or items c.loop-id.id-index (record { 0 = 0 }) in
    let at : slice_get (created_functions f) c.loop-id.id-index ≡ Some id =
    subst (λ xs. slice_get xs c.loop-id.id-index ≡ Some id) same
    (item_at items c.loop-id.id-index (record { 0 = 0 }) c.loop-id-test.true) in
    let among = created_is_among f c.args.env.now c.requires.fits c.loop-id.id-index id at in
    let fits = pruned_fits c.args.env.now env c.loop-id.invariant.kept f c.requires.fits in
    let once = once_each (c.args.levels - 1) f c.args.env.now items same c.requires.fits in
    let here = item_at items c.loop-id.id-index (record { 0 = 0 }) c.loop-id-test.true in
    let apart = next_apart (c.args.levels - 1) items c.loop-id.id-index id here c.args.env.now env once
    c.args.solved.now c.loop-id.solved c.loop-id.invariant.order in (
      omega arith,
      (
        within.0,
        (
          within.1,
          (
            created_exists env f id fits among,
            (
              λ h is. taken_out_fits env f h (emptied h.returns) id fits among is refl,
              (λ h is. not_itself env f h id fits among is, (apart, c.requires.logger)),
            ),
          ),
        ),
      ),
    )

pub analyse_created-returns-in_err-analyse_slot-clause-run : goal.analyse_created-returns-in_err-analyse_slot-clause-run
analyse_created-returns-in_err-analyse_slot-clause-run g t c =
    let f = c.args.func.now in
    let k = g.P.InnerPasses.keeps_all in
    let e : InferError = c.in_err-analyse_slot.field-0.0 in
    let same : c.from_residual-in_err-analyse_slot.result ≡ Err e = search rules in
    let more : c.args.levels ≡ suc (c.args.levels - 1) = omega arith in
    let items = c.as_slice-id-items.result.now in
    let all : items ≡ created_functions f = c.as_slice-id-items.ensures ∙ c.in_ok-created.ensures in
    let id : FunctionId = slice_index_or items c.loop-id.id-index (record { 0 = 0 }) in
    let step = SlotAnalysed k (AnalysedWith k (c.args.levels - 1)) in
    let stops = SlotRefused k (c.args.levels - 1) (AnalysisRefused k (c.args.levels - 1)) in
    let last = c.analyse_slot.new.env in
    λ fs a.
    let so_far = c.loop-id.invariant.run fs a in
    leads_error (AnalysedWith k c.args.levels f (analysis c.args.env.now fs))
    (AnalysisRefused k c.args.levels f (analysis c.args.env.now fs)) c.from_residual-in_err-analyse_slot.result e
    last c.analyse_slot.new.solved same
    (λ free. refused_more k c.args.levels (c.args.levels - 1) f (analysis c.args.env.now fs) e last more
    (subst (λ xs. OneOfRefused stops step xs (analysis c.args.env.now fs) e last) all
    (so_far.1.refusals e last
    (stops_here stops step items c.loop-id.id-index id
    (item_at items c.loop-id.id-index (record { 0 = 0 }) c.loop-id-test.true) (analysis c.loop-id.env so_far.0) e
    last (c.in_err-analyse_slot.ensures.run so_far.0 so_far.1.accounts free)))))

pub analyse_created-returns-clause-run : goal.analyse_created-returns-clause-run
analyse_created-returns-clause-run g t c =
    let f = c.args.func.now in
    let k = g.P.InnerPasses.keeps_all in
    let more : c.args.levels ≡ suc (c.args.levels - 1) = omega arith in
    let items = c.as_slice-id-items.result.now in
    let all : items ≡ created_functions f = c.as_slice-id-items.ensures ∙ c.in_ok-created.ensures in
    let step = SlotAnalysed k (AnalysedWith k (c.args.levels - 1)) in
    λ fs a.
    let so_far = c.loop-id.invariant.run fs a in (
      so_far.0,
      analysed_more k c.args.levels (c.args.levels - 1) f (analysis c.args.env.now fs)
          (Ok (analysis c.loop-id.env so_far.0)) more
          (subst (λ xs. Each step xs (analysis c.args.env.now fs) (Ok (analysis c.loop-id.env so_far.0))) all
          (so_far.1.rest (Ok (analysis c.loop-id.env so_far.0))
          (all_done step items c.loop-id.id-index (analysis c.loop-id.env so_far.0)
          (omega (arith, c.loop-id-test.false))))),
      so_far.1.accounts,
    )

pub analyse_created-returns-in_err-analyse_slot-clause-order :
    goal.analyse_created-returns-in_err-analyse_slot-clause-order
analyse_created-returns-in_err-analyse_slot-clause-order g t c =
    let e : InferError = c.in_err-analyse_slot.field-0.0 in
    let same : c.from_residual-in_err-analyse_slot.result ≡ Err e = search rules in
    let more : c.args.levels ≡ suc (c.args.levels - 1) = omega arith in
    let items = c.as_slice-id-items.result.now in
    let all : items ≡ created_functions c.args.func.now = c.as_slice-id-items.ensures ∙ c.in_ok-created.ensures in
    let id : FunctionId = slice_index_or items c.loop-id.id-index (record { 0 = 0 }) in
    let at = item_at items c.loop-id.id-index (record { 0 = 0 }) c.loop-id-test.true in
    let once = once_each (c.args.levels - 1) c.args.func.now c.args.env.now items all c.requires.fits in
    in_order c.args.levels (c.args.levels - 1) c.args.func.now c.args.env.now c.analyse_slot.new.env items
    c.from_residual-in_err-analyse_slot.result more all
    (refused_in (c.args.levels - 1) items c.loop-id.id-index id at c.args.env.now c.loop-id.env once c.args.solved.now
    c.loop-id.solved c.loop-id.invariant.order c.analyse_slot.new.env c.from_residual-in_err-analyse_slot.result e
    same c.in_err-analyse_slot.ensures.order)

pub analyse_created-returns-clause-order : goal.analyse_created-returns-clause-order
analyse_created-returns-clause-order g t c =
    let more : c.args.levels ≡ suc (c.args.levels - 1) = omega arith in
    let items = c.as_slice-id-items.result.now in
    let all : items ≡ created_functions c.args.func.now = c.as_slice-id-items.ensures ∙ c.in_ok-created.ensures in
    in_order c.args.levels (c.args.levels - 1) c.args.func.now c.args.env.now c.loop-id.env items (Ok tt) more all
    (over_all (each_innermost_first (c.args.levels - 1) c.args.env.now items)
    (each_innermost_first (c.args.levels - 1) c.args.env.now (drop c.loop-id.id-index items)) c.args.env.now
    c.loop-id.env c.args.solved.now c.loop-id.solved c.loop-id.invariant.order)

pub analyse_created-returns-clause-noted : goal.analyse_created-returns-clause-noted
analyse_created-returns-clause-noted g t c =
    let more : c.args.levels ≡ suc (c.args.levels - 1) = omega arith in
    let items = c.as_slice-id-items.result.now in
    let all : items ≡ created_functions c.args.func.now = c.as_slice-id-items.ensures ∙ c.in_ok-created.ensures in
    notes_all c.args.levels (c.args.levels - 1) c.args.func.now c.args.env.now c.loop-id.env items c.loop-id.id-index
    c.args.solved.now c.loop-id.solved more all (omega (arith, c.loop-id-test.false)) c.loop-id.invariant.order

pub analyse_created-returns-then-levels-eq0-clause-noted : goal.analyse_created-returns-then-levels-eq0-clause-noted
analyse_created-returns-then-levels-eq0-clause-noted g t c =
    let none : c.args.levels ≡ 0 = omega arith in
    notes_none c.args.levels c.args.func.now c.args.env.now c.args.solved.now none

pub analyse_slot-returns-clause-order : goal.analyse_slot-returns-clause-order
analyse_slot-returns-clause-order g t c =
    let taken = c.take_out-func in
    let done = c.analyse_taken-answer in
    slot_keeps c.args.levels c.args.id taken.result done.new.func (emptied taken.result.returns) c.args.env.now
    taken.new.env done.new.env c.put_back.new.env taken.ensures.func
    (c.requires.apart taken.result taken.ensures.func)
    taken.ensures.env done.ensures.kept.prunes.count c.put_back.ensures done.result done.ensures.order

pub analyse_slot-returns-clause-noted : goal.analyse_slot-returns-clause-noted
analyse_slot-returns-clause-noted g t c =
    let taken = c.take_out-func in
    let done = c.analyse_taken-answer in
    where_ok _ _ done.result
    (slot_notes c.args.levels c.args.id taken.result done.new.func (emptied taken.result.returns) c.args.env.now
    taken.new.env done.new.env c.put_back.new.env taken.ensures.func
    (c.requires.apart taken.result taken.ensures.func)
    taken.ensures.env done.ensures.kept.prunes.count c.put_back.ensures c.args.solved.now done.new.solved)
    done.ensures.noted

pub analyse_slot-returns-clause-run : goal.analyse_slot-returns-clause-run
analyse_slot-returns-clause-run g t c =
    let k = g.P.InnerPasses.keeps_all in
    let taken = c.take_out-func in
    let done = c.analyse_taken-answer in
    λ fs a.
    slot_leads k c.args.levels c.args.id c.args.env.now taken.new.env fs taken.result taken.ensures.func
    taken.ensures.env done.new.func done.new.env c.put_back.new.env done.new.solved done.result c.put_back.ensures
    (done.ensures.run fs a)

pub analyse_slot-returns-clause-kept : goal.analyse_slot-returns-clause-kept
analyse_slot-returns-clause-kept g t c =
    let taken = c.take_out-func in
    let done = c.analyse_taken-answer in
    environment_back c.args.env.now c.args.id taken.result done.new.func taken.new.env done.new.env c.put_back.new.env
    taken.ensures.func (c.requires.other taken.result taken.ensures.func) taken.ensures.env c.put_back.ensures
    done.ensures.kept

pub analyse_taken-returns-in_err-analyse_created-clause-run :
    goal.analyse_taken-returns-in_err-analyse_created-clause-run
analyse_taken-returns-in_err-analyse_created-clause-run g t c =
    let e : InferError = c.in_err-analyse_created.field-0.0 in
    let same : c.from_residual.result ≡ Err e = search rules in
    let k = g.P.InnerPasses.keeps_all in
    λ fs a.
    leads_with_error (TakenAnalysed k (AnalysedWith k c.args.levels) c.args.id c.args.func.now
    (analysis c.args.env.now fs)) (TakenRefused k c.args.levels (AnalysisRefused k c.args.levels) c.args.id
    c.args.func.now (analysis c.args.env.now fs)) c.from_residual.result e c.args.func.now
    c.analyse_created.new.env c.analyse_created.new.solved same
    (λ free. taken_refused k c.args.levels c.args.id c.args.func.now (analysis c.args.env.now fs)
    c.analyse_created.new.env e (c.in_err-analyse_created.ensures.run fs a free))

pub analyse_taken-returns-in_err-analyse_created-clause-kept :
    goal.analyse_taken-returns-in_err-analyse_created-clause-kept
analyse_taken-returns-in_err-analyse_created-clause-kept g t c =
    pruned_beside c.args.env.now c.analyse_created.new.env c.analyse_created.ensures.kept c.args.func.now
    c.requires.fits

pub analyse_taken-returns-in_err-analyse_created-clause-order :
    goal.analyse_taken-returns-in_err-analyse_created-clause-order
analyse_taken-returns-in_err-analyse_created-clause-order g t c =
    let e : InferError = c.in_err-analyse_created.field-0.0 in
    let same : c.from_residual.result ≡ Err e = search rules in
    refused_below (below_innermost_first c.args.levels c.args.func.now c.args.env.now) c.args.id c.from_residual.result
    e c.args.func.now c.args.env.now c.analyse_created.new.env same c.in_err-analyse_created.ensures.order

pub analyse_taken-returns-clause-order : goal.analyse_taken-returns-clause-order
analyse_taken-returns-clause-order g t c =
    keeps_itself (below_innermost_first c.args.levels c.args.func.now c.args.env.now) c.args.id c.infer_function.result
    c.args.func.now c.infer_function.new.func c.args.env.now c.analyse_created.new.env c.infer_function.new.env
    c.analyse_created.ensures.order.changes c.infer_function.ensures.slots c.infer_function.ensures.names

pub analyse_taken-returns-clause-noted : goal.analyse_taken-returns-clause-noted
analyse_taken-returns-clause-noted g t c =
    where_ok _ _ c.infer_function.result
    (notes_both (below_innermost_first c.args.levels c.args.func.now c.args.env.now) (c.args.id ∷ []) c.args.solved.now
    c.analyse_created.new.solved c.infer_function.new.solved c.in_ok-analyse_created.ensures.noted)
    c.infer_function.ensures.noted

pub analyse_taken-infer_function-requires-clause-fits : goal.analyse_taken-infer_function-requires-clause-fits
analyse_taken-infer_function-requires-clause-fits g t c =
    pruned_fits c.args.env.now c.analyse_created.new.env c.analyse_created.ensures.kept c.args.func.now c.requires.fits

pub analyse_taken-returns-clause-run : goal.analyse_taken-returns-clause-run
analyse_taken-returns-clause-run g t c =
    let k = g.P.InnerPasses.keeps_all in
    λ fs a.
    let l = c.in_ok-analyse_created.ensures.run fs a in
    taken_leads k c.args.levels c.args.id c.args.func.now (analysis c.args.env.now fs) c.infer_function.new.func
    c.analyse_created.new.env c.infer_function.new.env l.0 c.infer_function.new.solved c.infer_function.result l.1
    (c.infer_function.ensures.run l.0 l.2)

pub analyse_taken-returns-clause-kept : goal.analyse_taken-returns-clause-kept
analyse_taken-returns-clause-kept g t c =
    function_through c.args.func.now c.args.func.now c.infer_function.new.func c.args.env.now c.analyse_created.new.env
    c.infer_function.new.env
    (pruned_beside c.args.env.now c.analyse_created.new.env c.analyse_created.ensures.kept c.args.func.now
    c.requires.fits) c.infer_function.ensures.kept

pub analyse_created-returns-in_err-created-clause-last : goal.analyse_created-returns-in_err-created-clause-last
analyse_created-returns-in_err-created-clause-last g t c =
    let e : InferError = Memory c.in_err-created.field-0.0 in
    let same : c.from_residual.result ≡ Err e = search rules in
    err_on (IsNamedFault (g.P.InnerPasses.failed_last c.args.passes.now) c.args.env.now) c.from_residual.result e same
    tt

pub analyse_created-returns-in_err-analyse_slot-clause-last :
    goal.analyse_created-returns-in_err-analyse_slot-clause-last
analyse_created-returns-in_err-analyse_slot-clause-last g t c =
    let e : InferError = c.in_err-analyse_slot.field-0.0 in
    let same : c.from_residual-in_err-analyse_slot.result ≡ Err e = search rules in
    err_on (IsNamedFault (g.P.InnerPasses.failed_last c.analyse_slot.new.passes) c.analyse_slot.new.env)
    c.from_residual-in_err-analyse_slot.result e same c.in_err-analyse_slot.ensures.last

pub analyse_slot-returns-clause-last : goal.analyse_slot-returns-clause-last
analyse_slot-returns-clause-last g t c =
    let taken = c.take_out-func in
    let done = c.analyse_taken-answer in
    slot_failed c.args.levels c.args.id taken.result done.new.func (emptied taken.result.returns) c.args.env.now
    taken.new.env done.new.env c.put_back.new.env taken.ensures.func
    (c.requires.apart taken.result taken.ensures.func)
    taken.ensures.env done.ensures.kept.prunes.count c.put_back.ensures
    (g.P.InnerPasses.failed_last done.new.passes) done.result done.ensures.last

pub analyse_taken-returns-in_err-analyse_created-clause-last :
    goal.analyse_taken-returns-in_err-analyse_created-clause-last
analyse_taken-returns-in_err-analyse_created-clause-last g t c =
    let e : InferError = c.in_err-analyse_created.field-0.0 in
    let same : c.from_residual.result ≡ Err e = search rules in
    let last = g.P.InnerPasses.failed_last c.analyse_created.new.passes in
    let below = below_innermost_first c.args.levels c.args.func.now c.args.env.now in
    err_on (IsFaultWithin last below c.args.id c.args.func.now c.analyse_created.new.env) c.from_residual.result e same
    (failed_below last below c.args.id c.args.func.now c.args.env.now c.analyse_created.new.env e
    c.in_err-analyse_created.ensures.order c.in_err-analyse_created.ensures.last)

pub analyse_taken-returns-clause-last : goal.analyse_taken-returns-clause-last
analyse_taken-returns-clause-last g t c =
    let last = g.P.InnerPasses.failed_last c.infer_function.new.passes in
    let below = below_innermost_first c.args.levels c.args.func.now c.args.env.now in
    where_err (IsFaultOf last c.args.id c.infer_function.new.func)
    (IsFaultWithin last below c.args.id c.infer_function.new.func c.infer_function.new.env) c.infer_function.result
    (λ e h. inl h) c.infer_function.ensures.last
