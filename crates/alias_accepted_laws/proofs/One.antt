-- The check of one function follows its inference.
use Rattle.std.specs.Prelude.{◌≡◌, ⊤, true, false, if◌then◌else◌, List, [], ◌∷◌, ◌++◌, length, map, Some, None, Result}
use Rattle.std.specs.Prelude.{Ok, Err, slice_get, refl}
use Rattle.std.proofs.Common.{ap, sym, ◌∙◌, subst, ◌+◌}
use Rattle.std.proofs.lemmas.List.{length-append}
use Rattle.alias_base.specs.Answer.{◌>>=◌}
use Rattle.alias_base.specs.declared.ids.FunctionId.{FunctionId}
use Rattle.alias_hir.specs.declared.effect.AliasingEffect.{AliasingEffect}
use Rattle.alias_hir.specs.declared.env.Environment.{Environment}
use Rattle.alias_hir.specs.declared.error.InferError.{InferError}
use Rattle.alias_hir.specs.declared.hir.HirFunction.{HirFunction}
use Rattle.alias_lattice.specs.States.{State}
use Rattle.alias_flow.specs.Machine.{SolverState, VisitLog, Solved}
use Rattle.alias_rules.specs.Fitting.{function_fits}
use Rattle.alias_tables.specs.Tables.{TableLists}
use Rattle.alias_step.specs.block.Contexts.{context_of}
use Rattle.alias_step.specs.declared.block.recorded.BlockEffects.{BlockEffects}
use Rattle.alias_effects.specs.Inference.{end_of, env_after, answer_of, pass_end}
use Rattle.alias_effects.specs.Numbered.{visits_end}
use Rattle.alias_effects.specs.Recording.{with_effects_of}
use Rattle.alias_effects.specs.declared.output.PassEnd.{PassEnd}
use Rattle.alias_range_pass.specs.Passes.{Ranged, range_pass}
use Rattle.alias_range_pass.specs.places.Keeping.{but_context}
use Rattle.alias_nested.specs.Analysis.{Analysed, Analysis, analysis, numbered, function_analysed}
use Rattle.alias_nested.specs.Finishing.{finished}
use Rattle.alias_nested.specs.Order.{SameInSlot}
use Rattle.alias_nested.specs.Annotating.{annotated}
use Rattle.alias_nested.proofs.Changing.{slots_stay}
use Rattle.alias_nested.proofs.Evolving.{passed_contexts}
use Rattle.alias_inferred_laws.proofs.inferred.Listing.{Passed, function_passed}
use Rattle.alias_inferred_laws.proofs.inferred.Ranging.{PassLeaves, pass_leaves}
use Rattle.alias_text.specs.Lines.{effect_text}
use Rattle.alias_certificate.specs.declared.certificate.CertFunction.{CertFunction}
use Rattle.alias_certificate.specs.declared.fault.CheckFault.{CheckFault}
use Rattle.alias_certificate.specs.declared.fault.CheckFault.TheVariants as fault
use Rattle.alias_cert.specs.Functions.{CheckedFunction, Checking, checking, checked_function, said, ranging}
use Rattle.alias_cert.specs.Functions.{stored_summary, summed, nested_finished, nested_as_said, nested_checked}
use Rattle.alias_cert.specs.Functions.{root_finished, root_as_said, root_checked}
use Rattle.alias_cert.specs.effects.Telling.{is_summary_claimed}
use Rattle.alias_cert.specs.function.Functions.{function_solved}
use Rattle.alias_certificate_laws.specs.accepting.Alike.{AlikeEffects, AlikeFunction}
use Rattle.alias_certificate_laws.specs.accepting.Saying.{said_function}
use Rattle.alias_inferred_laws.specs.handed.Handed.{IsNamed}
use Rattle.alias_accepted_laws.specs.Following.{SeenAlike, SeenNearly, OrFull, done, EndsAlike, PassesAreFollowed}
use Rattle.alias_accepted_laws.specs.Following.{ReadsAreSet, RangeFollowed, RangesAreFollowed, Follows}
use Rattle.alias_accepted_laws.proofs.Seen.{after_seen, settled_alike, settled_seen}
use Rattle.alias_accepted_laws.proofs.Telling.{IsSaidOf, or_full_made, said_there, summary_reported}

ok_same : {A E : Type 0} (x y : A) → ◌≡◌ {A = Result A E} (Ok x) (Ok y) → x ≡ y
ok_same x y h = cc

-- a summary that is reported goes through
summed_reported : (c : CertFunction) (summary : List AliasingEffect) (f : HirFunction) (a : Checking)
    → is_summary_claimed summary c.summary ≡ true → summed c summary f a ≡ Ok (f, a)
summed_reported c summary f a h =
    ap (λ b. let r : Result ⊤ CheckFault = if b then Ok tt else Err (fault.Summary c.function) in
    let q : Result (HirFunction × Checking) CheckFault = r >>= (λ (u : ⊤). Ok (f, a)) in q) h

-- what a certificate says of a function that an effects pass ended so with is reported of what is alike
reported_of : (summary there : List AliasingEffect) (c cert : CertFunction) → cert ≡ c → cert.summary
    ≡ map effect_text summary → AlikeEffects summary there → is_summary_claimed there c.summary ≡ true
reported_of summary there c cert is texts a = ap (λ (z : CertFunction). is_summary_claimed there z.summary) (sym is)
    ∙ ap (is_summary_claimed there) texts ∙ summary_reported summary there a

one_more : {A B : Type 0} (xs : List A) (ys : List B) (x : A) (y : B) → length xs ≡ length ys → length (xs ++ x ∷ [])
    ≡ length (ys ++ y ∷ [])
one_more xs ys x y e = length-append xs (x ∷ []) ∙ ap (λ n. n + 1) e ∙ sym (length-append ys (y ∷ []))

-- a nested function as its effects pass began, with what was solved of it
abbrev pub own : FunctionId → HirFunction → Analysis → PassEnd → Analysed
own id f a e = record { env = a.env; func = f; is_function_expression = true; solved = numbered id e.solved }

-- a nested function that is out of its slot, and the check of it
pub record Joined (a : Analysis) (s : HirFunction × Analysis) (t : HirFunction × Checking) : Type 0 where
  pub function : AlikeFunction s.0 t.0
  pub alike : SeenAlike s.1.env t.1.env
  pub count : length t.1.functions ≡ length s.1.functions
  pub slots : (id : FunctionId) → (IsNamed id a.functions → ⊥) → SameInSlot s.1.env t.1.env id.0

-- as many functions were checked as were analysed, and the root
abbrev pub RootJoined : Analysis → HirFunction × Checking → Type 0
RootJoined a t = length t.1.functions ≡ length a.functions + 1

module _ (passes : PassesAreFollowed) (reads : ReadsAreSet) (ranges : RangesAreFollowed) where
  -- ---- a nested function

  module _ (id : FunctionId) (f : HirFunction) (a : Analysis) (c : Checking) (follows : Follows a c) where
    abbrev Left : Type 0
    Left = SolverState (VisitLog State) TableLists BlockEffects

    abbrev begun : PassEnd → HirFunction
    begun e = with_effects_of e.solved f

    -- what the inference made of it
    abbrev made : PassEnd → Ranged → HirFunction × Analysis
    made e r = (
      (annotated r.summary r.after).0,
      analysis (annotated r.summary r.after).1 (a.functions ++ own id f a e ∷ []),
    )

    -- what the check made of it
    abbrev checks : CertFunction → PassEnd → List CheckedFunction
    checks cert o = c.functions ++ checked_function (Some id) true f c.env cert o ∷ []

    contexts_before : (r : Ranged) (e : PassEnd) (env : Environment) (g : HirFunction)
        → range_pass true g (env_after env e) ≡ Ok r → map but_context (annotated r.summary r.after).1.functions
        ≡ map but_context env.functions
    contexts_before r e env g ran =
        let leaves : PassLeaves true g (env_after env e) r = pass_leaves true g (env_after env e) r ran in
        ap (λ (z : Environment). z.functions) leaves.kept.rest ∙ passed_contexts env e

    module _ (cert : CertFunction) (w : Left) (fits : function_fits f a.env ≡ true)
        (ends : visits_end (context_of a.env f true) ≡ Solved w) (r : Ranged)
        (ran : range_pass true (begun (end_of f w)) (env_after a.env (end_of f w)) ≡ Ok r)
        (is : said_function (Some id) f w.progress.joined_input w.recorded w.tables.temporaries
        (map effect_text r.summary) ≡ cert) where
      abbrev Whole : HirFunction × Checking → Type 0
      Whole t = Joined a (made (end_of f w) r) t

      module _ (o : PassEnd) (alike : EndsAlike f (end_of f w) o) where
        nearly : SeenNearly (begun (end_of f w)) (env_after a.env (end_of f w)) (env_after c.env o)
        nearly = after_seen (begun (end_of f w)) a.env c.env (end_of f w) o follows.alike alike.temporaries
            (reads a.env f true w fits ends) alike.reads

        range : RangeFollowed (env_after c.env o) (begun o) true r
        range = ranges (env_after a.env (end_of f w)) (env_after c.env o) (begun (end_of f w)) (begun o) true r nearly
            alike.carries ran

        abbrev last : HirFunction × Environment
        last = annotated range.there.summary range.there.after

        finishes : finished (begun o) (env_after c.env o) ≡ Ok last
        finishes = ap (λ q. let z : Result (HirFunction × Environment) InferError = q
            >>= (λ (k : Ranged). Ok (annotated k.summary k.after)) in z) range.is

        reported : is_summary_claimed range.there.summary cert.summary ≡ true
        reported = reported_of r.summary range.there.summary cert
            (said_function (Some id) f w.progress.joined_input w.recorded w.tables.temporaries
            (map effect_text r.summary)) is refl range.summary

        finished_so : nested_finished cert id (begun o, checking (env_after c.env o) (checks cert o))
            ≡ Ok (last.0, checking last.1 (checks cert o))
        finished_so =
            ap (λ q. ranging (Some id) q >>= (λ (k : HirFunction × Environment).
            summed cert (stored_summary k.0) k.0 (checking k.1 (checks cert o)))) finishes
            ∙ summed_reported cert range.there.summary last.0 (checking last.1 (checks cert o)) reported

        joined : Whole (last.0, checking last.1 (checks cert o))
        joined = record {
          function = settled_alike r range.there range.summary range.function;
          alike = settled_seen r range.there range.summary range.function (range.nested refl);
          count = one_more c.functions a.functions (checked_function (Some id) true f c.env cert o)
              (own id f a (end_of f w)) follows.count;
          slots = λ k free.
              slots_stay c.env last.1 (contexts_before range.there o c.env (begun o) range.is) k.0
              ∙ follows.slots k free
              ∙ sym (slots_stay a.env (annotated r.summary r.after).1
              (contexts_before r (end_of f w) a.env (begun (end_of f w)) ran) k.0);
        }

        nested_done : OrFull Whole (nested_finished cert id (begun o, checking (env_after c.env o) (checks cert o)))
        nested_done = done (last.0, checking last.1 (checks cert o)) finished_so joined

      nested_said : OrFull Whole (nested_as_said id f c cert)
      nested_said =
          or_full_made Whole (function_solved cert c.env f true)
          (λ (o : PassEnd). let t : HirFunction × Checking =
          (begun o, checking (env_after c.env o) (checks cert o)) in t) (nested_finished cert id)
          (subst (λ z. OrFull (EndsAlike f (end_of f w)) (function_solved z c.env f true)) is
          (passes a.env c.env f true w fits ends follows.alike (Some id) (map effect_text r.summary)))
          nested_done

    -- the check of a nested function follows its analysis
    pub nested_follows : (functions : List CertFunction) (s : HirFunction × Analysis) (cert : CertFunction)
        (h : function_analysed id f a ≡ Ok s) → slice_get functions (length a.functions) ≡ Some cert
        → IsSaidOf (own id f a (function_passed id f a s h).end) cert
        → OrFull (Joined a s) (nested_checked functions id f c)
    nested_follows functions s cert h there t =
        let p : Passed id f a s = function_passed id f a s h in
        let e : PassEnd = end_of f t.left in
        let ended : e ≡ p.end = ok_same e p.end (sym (ap (answer_of a.env f) t.ends) ∙ p.ended) in
        let ran : range_pass true (begun e) (env_after a.env e) ≡ Ok p.ranged =
        subst (λ (z : PassEnd). range_pass true (begun z) (env_after a.env z) ≡ Ok p.ranged) (sym ended) p.ran in
        let ranged : t.ranged ≡ p.ranged = ok_same t.ranged p.ranged (sym t.ran ∙ ran) in
        let whole : made e t.ranged ≡ s = ap (λ (z : PassEnd). made z t.ranged) ended ∙ ap (made p.end) ranged ∙ p.is in
        let at : nested_checked functions id f c ≡ nested_as_said id f c cert
        = ap (λ n. said functions n (Some id) >>= nested_as_said id f c) follows.count
        ∙ ap (λ q. q >>= nested_as_said id f c)
        (said_there functions (length a.functions) (Some id) cert there
        (ap (λ (z : CertFunction). z.function) (sym t.is))) in
        subst (λ z. OrFull (Joined a s) z) (sym at)
        (subst (λ z. OrFull (Joined a z) (nested_as_said id f c cert)) whole
        (nested_said cert t.left t.fits t.ends t.ranged t.ran t.is))

  -- ---- the root

  module _ (f : HirFunction) (a : Analysis) (c : Checking) (follows : Follows a c) where
    abbrev root_begun : PassEnd → HirFunction
    root_begun e = with_effects_of e.solved f

    abbrev root_checks : CertFunction → PassEnd → List CheckedFunction
    root_checks cert o = c.functions ++ checked_function None false f c.env cert o ∷ []

    module _ (cert : CertFunction) (w : SolverState (VisitLog State) TableLists BlockEffects)
        (fits : function_fits f a.env ≡ true) (ends : visits_end (context_of a.env f false) ≡ Solved w) (r : Ranged)
        (ran : range_pass false (root_begun (end_of f w)) (env_after a.env (end_of f w)) ≡ Ok r)
        (is : said_function None f w.progress.joined_input w.recorded w.tables.temporaries
        (map effect_text r.summary) ≡ cert) where
      module _ (o : PassEnd) (alike : EndsAlike f (end_of f w) o) where
        root_range : RangeFollowed (env_after c.env o) (root_begun o) false r
        root_range =
            ranges (env_after a.env (end_of f w)) (env_after c.env o) (root_begun (end_of f w)) (root_begun o) false r
            (after_seen (root_begun (end_of f w)) a.env c.env (end_of f w) o follows.alike alike.temporaries
            (reads a.env f false w fits ends) alike.reads) alike.carries ran

        abbrev root_last : HirFunction × Environment
        root_last = root_range.there.after

        root_reported : is_summary_claimed root_range.there.summary cert.summary ≡ true
        root_reported = reported_of r.summary root_range.there.summary cert
            (said_function None f w.progress.joined_input w.recorded w.tables.temporaries (map effect_text r.summary))
            is refl root_range.summary

        root_finished_so : root_finished cert (root_begun o, checking (env_after c.env o) (root_checks cert o))
            ≡ Ok (root_last.0, checking root_last.1 (root_checks cert o))
        root_finished_so =
            ap (λ q. ranging None q >>= (λ (k : Ranged).
            summed cert k.summary k.after.0 (checking k.after.1 (root_checks cert o)))) root_range.is
            ∙ summed_reported cert root_range.there.summary root_last.0 (checking root_last.1 (root_checks cert o))
            root_reported

        root_done : OrFull (RootJoined a) (root_finished cert
            (root_begun o, checking (env_after c.env o) (root_checks cert o)))
        root_done =
            done (root_last.0, checking root_last.1 (root_checks cert o)) root_finished_so
            (length-append c.functions (checked_function None false f c.env cert o ∷ [])
            ∙ ap (λ n. n + 1) follows.count)

      root_said : OrFull (RootJoined a) (root_as_said f c cert)
      root_said =
          or_full_made (RootJoined a) (function_solved cert c.env f false)
          (λ (o : PassEnd). let t : HirFunction × Checking =
          (root_begun o, checking (env_after c.env o) (root_checks cert o)) in t) (root_finished cert)
          (subst (λ z. OrFull (EndsAlike f (end_of f w)) (function_solved z c.env f false)) is
          (passes a.env c.env f false w fits ends follows.alike None (map effect_text r.summary)))
          root_done

    -- the check of the root follows its analysis
    pub root_follows : (functions : List CertFunction) (cert : CertFunction) (e : PassEnd) → pass_end a.env f false
        ≡ Ok e → slice_get functions (length a.functions) ≡ Some cert
        → IsSaidOf (record { env = a.env; func = f; is_function_expression = false; solved = e.solved }) cert
        → OrFull (RootJoined a) (root_checked functions f c)
    root_follows functions cert e ended there t =
        let same : end_of f t.left ≡ e = ok_same (end_of f t.left) e (sym (ap (answer_of a.env f) t.ends) ∙ ended) in
        let is : said_function None f t.left.progress.joined_input t.left.recorded t.left.tables.temporaries
        (map effect_text t.ranged.summary) ≡ cert
        = ap (λ (z : PassEnd). said_function z.solved.function f t.left.progress.joined_input t.left.recorded
        t.left.tables.temporaries (map effect_text t.ranged.summary)) same ∙ t.is in
        let at : root_checked functions f c ≡ root_as_said f c cert
        = ap (λ n. said functions n None >>= root_as_said f c) follows.count
        ∙ ap (λ q. q >>= root_as_said f c) (said_there functions (length a.functions) None cert there
        (ap (λ (z : CertFunction). z.function) (sym is))) in
        subst (λ z. OrFull (RootJoined a) z) (sym at) (root_said cert t.left t.fits t.ends t.ranged t.ran is)
