-- What following one nested function comes to.
use Rattle.std.proofs.Common.{◌≡◌, Bool, true, false, List, [], ◌∷◌, ◌++◌, Some, Option, Result, Ok, Err, ap, sym}
use Rattle.std.proofs.Common.{◌∙◌, subst}
use Rattle.alias_base.specs.Answer.{◌>>=◌}
use Rattle.alias_base.specs.declared.ids.FunctionId.{FunctionId}
use Rattle.alias_hir.specs.declared.env.Environment.{Environment}
use Rattle.alias_hir.specs.declared.error.InferError.{InferError}
use Rattle.alias_hir.specs.declared.hir.HirFunction.{HirFunction}
use Rattle.alias_rules.specs.Fitting.{function_fits}
use Rattle.alias_fitting_laws.specs.bare.EvolvedLaws.{evolves_through}
use Rattle.alias_effects.specs.Inference.{env_after}
use Rattle.alias_effects.specs.Recording.{with_effects_of}
use Rattle.alias_range_pass.specs.Passes.{Ranged, range_pass}
use Rattle.alias_ranges.specs.KeptLaws.{silent_fits}
use Rattle.alias_ranges.specs.laws.ReportLaws.{expression_reports}
use Rattle.alias_ranges.specs.laws.SummaryLaws.{summary_fits}
use Rattle.alias_nested.specs.Annotating.{annotated}
use Rattle.alias_nested.specs.Finishing.{finished}
use Rattle.alias_nested.specs.Fitting.{FunctionKept, SummaryFits}
use Rattle.alias_nested.proofs.Keeping.{ranged_keeps, annotated_keeps, summary_kept}
use Rattle.alias_answer_laws.proofs.order.Ordering.{went}
use Rattle.alias_inferred_laws.proofs.inferred.Ranging.{PassLeaves, pass_leaves}
use Rattle.alias_certificate.specs.declared.certificate.CertFunction.{CertFunction}
use Rattle.alias_certificate.specs.declared.fault.CheckFault.{CheckFault}
use Rattle.alias_cert.specs.Functions.{ranging}
use Rattle.alias_follow.specs.Functions.{FollowedFunction, Following, following, followed_function, effects_followed}
use Rattle.alias_follow.specs.Functions.{nested_finished, nested_followed}
use Rattle.alias_follow.specs.declared.function.follow.FunctionEnd.{FunctionEnd}
use Rattle.alias_follow.specs.function.Functions.{function_followed, is_forward}
use Rattle.alias_follow.specs.function.Givens.{given_of, kept, blocks_given}
use Rattle.alias_follow.specs.lines.Known.{AreLinesKnown}
use Rattle.alias_follow.proofs.function.Recording.{followed_keeps}

-- ---- its parts

abbrev pub Taken : Type 0
Taken = HirFunction × Following

-- a function that carries its effects, with what was followed
abbrev pub effects_left : Option FunctionId → Bool → HirFunction → Following → FunctionEnd → Taken
effects_left id b f a e = (
  with_effects_of e.end.solved f,
  following (env_after a.env e.end) (a.functions ++ followed_function id b f a.env e ∷ []),
)

-- a nested function was followed: its effects, and the range pass
pub record FollowedOne (given : List CertFunction) (id : FunctionId) (f : HirFunction) (a : Following) (s : Taken) :
    Type 0 where
  pub end : FunctionEnd
  pub ended : function_followed (given_of given (Some id)) (Some id) a.env f true ≡ Ok end
  pub ranged : Ranged
  pub ran : range_pass true (with_effects_of end.end.solved f) (env_after a.env end.end) ≡ Ok ranged
  pub is : ◌≡◌ {A = Taken} (
    (annotated ranged.summary ranged.after).0,
    following (annotated ranged.summary ranged.after).1
        (a.functions ++ followed_function (Some id) true f a.env end ∷ []),
  ) s

pub ranging_ok : {A : Type 0} (id : Option FunctionId) (r : Result A InferError) (x : A) → ranging id r ≡ Ok x → r
    ≡ Ok x
ranging_ok id (Ok y) x h = let same : y ≡ x = cc in ap Ok same
ranging_ok id (Err e) x h = cc

pub ok_same : {A E : Type 0} (x y : A) → ◌≡◌ {A = Result A E} (Ok x) (Ok y) → x ≡ y
ok_same x y h = cc

left_as : (p q : HirFunction × Environment) (fs : List FollowedFunction) (s : Taken) → p ≡ q
    → ◌≡◌ {A = Taken} (q.0, following q.1 fs) s → ◌≡◌ {A = Taken} (p.0, following p.1 fs) s
left_as p q fs s same h = ap (λ (r : HirFunction × Environment). let z : Taken = (r.0, following r.1 fs) in z) same ∙ h

pub followed_one : (given : List CertFunction) (id : FunctionId) (f : HirFunction) (a : Following) (s : Taken)
    → nested_followed given id f a ≡ Ok s → FollowedOne given id f a s
followed_one given id f a s h =
    let w = went (effects_followed given (Some id) true f a) (nested_finished id) s h in
    let v = went (function_followed (given_of given (Some id)) (Some id) a.env f true)
    (λ e. Ok (effects_left (Some id) true f a e)) w.0 w.1 in
    let e : FunctionEnd = v.0 in
    let is : effects_left (Some id) true f a e ≡ w.0 = ok_same (effects_left (Some id) true f a e) w.0 v.2 in
    let then_ : nested_finished id (effects_left (Some id) true f a e) ≡ Ok s = ap (nested_finished id) is ∙ w.2 in
    let g : HirFunction = with_effects_of e.end.solved f in
    let env : Environment = env_after a.env e.end in
    let fs : List FollowedFunction = a.functions ++ followed_function (Some id) true f a.env e ∷ [] in
    let x = went (ranging (Some id) (finished g env)) (λ (r : HirFunction × Environment). Ok (r.0, following r.1 fs)) s
    then_ in
    let y = went (range_pass true g env) (λ (r : Ranged). Ok (annotated r.summary r.after)) x.0
    (ranging_ok (Some id) (finished g env) x.0 x.1) in
    let set : annotated y.0.summary y.0.after ≡ x.0 = ok_same (annotated y.0.summary y.0.after) x.0 y.2 in
    let last : ◌≡◌ {A = Taken} (x.0.0, following x.0.1 fs) s = ok_same (x.0.0, following x.0.1 fs) s x.2 in
    record {
      end = e;
      ended = v.1;
      ranged = y.0;
      ran = y.1;
      is = left_as (annotated y.0.summary y.0.after) x.0 fs s set last;
    }

-- what follows a function's effects
after_effects : FunctionId → HirFunction → Following → Result FunctionEnd CheckFault → Result Taken CheckFault
after_effects id f a r = (r >>= (λ e. Ok (effects_left (Some id) true f a e))) >>= nested_finished id

-- where effects follow again, so does the whole
pub nested_again : (given also : List CertFunction) (id : FunctionId) (f : HirFunction) (a : Following) (s : Taken)
    (o : FollowedOne given id f a s) → nested_followed given id f a ≡ Ok s
    → function_followed (given_of also (Some id)) (Some id) a.env f true ≡ Ok o.end
    → nested_followed also id f a ≡ Ok s
unfolding after_effects
nested_again given also id f a s o h again = ap (after_effects id f a) (again ∙ sym o.ended) ∙ h

-- ---- what it keeps

pub kept_through : (f g h : HirFunction) (a b c : Environment) → FunctionKept f a g b → FunctionKept g b h c
    → FunctionKept f a h c
kept_through f g h a b c p q = record {
  evolves = evolves_through a b c p.evolves q.evolves;
  still = q.still ∙ p.still;
  fits = q.fits;
}

-- what the range pass and the summary keep
range_kept : (f : HirFunction) (env : Environment) (r : Ranged) → function_fits f env ≡ true → range_pass true f env
    ≡ Ok r → FunctionKept f env (annotated r.summary r.after).0 (annotated r.summary r.after).1
range_kept f env r fits h =
    let l : PassLeaves true f env r = pass_leaves true f env r h in
    let ranged : function_fits r.after.0 r.after.1 ≡ true =
    silent_fits f r.after.0 env r.after.1 fits l.still l.kept (expression_reports f env r h) in
    let first : FunctionKept f env r.after.0 r.after.1 = ranged_keeps f r.after.0 env r.after.1 ranged l.still l.kept in
    let s = summary_fits true f env r h fits in
    let summary : SummaryFits r.after.1 r.summary =
    summary_kept env r.after.1 f first.evolves.effects fits r.summary (record { within = s.0; no_call = s.1 }) in
    kept_through f r.after.0 (annotated r.summary r.after).0 env r.after.1 (annotated r.summary r.after).1 first
    (annotated_keeps r.summary r.after.0 r.after.1 ranged summary)

-- of which lines are known, where a function keeps what is given
pub lines_kept : (o : Option CertFunction) (t : Bool) → AreLinesKnown (blocks_given o)
    → AreLinesKnown (blocks_given (kept t o))
lines_kept o true k = tt
lines_kept o false k = k

pub one_kept : (given : List CertFunction) (id : FunctionId) (f : HirFunction) (a : Following) (s : Taken)
    → FollowedOne given id f a s → AreLinesKnown (blocks_given (given_of given (Some id)))
    → function_fits f a.env ≡ true → FunctionKept f a.env s.0 s.1.env
one_kept given id f a s o known fits =
    let said = given_of given (Some id) in
    let effects = followed_keeps said (Some id) a.env f true fits
    (lines_kept said (is_forward said (Some id) a.env f true) known) o.end o.ended in
    let ranged = range_kept (with_effects_of o.end.end.solved f) (env_after a.env o.end.end) o.ranged effects.fits o.ran
    in
    subst (λ (z : Taken). FunctionKept f a.env z.0 z.1.env) o.is
    (kept_through f (with_effects_of o.end.end.solved f) (annotated o.ranged.summary o.ranged.after).0 a.env
    (env_after a.env o.end.end) (annotated o.ranged.summary o.ranged.after).1 effects ranged)

-- it is one more
pub one_more : (given : List CertFunction) (id : FunctionId) (f : HirFunction) (a : Following) (s : Taken)
    → (o : FollowedOne given id f a s)
    → s.1.functions ≡ a.functions ++ followed_function (Some id) true f a.env o.end ∷ []
one_more given id f a s o = sym (ap (λ (z : Taken). z.1.functions) o.is)
