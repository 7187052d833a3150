-- What a certificate says of functions that were analysed, and parts of checks that find no fault.
use Rattle.std.specs.Prelude.{◌≡◌, ℕ, true, if◌then◌else◌, List, [], map, Option, Some, None, Result, Ok, Err}
use Rattle.std.specs.Prelude.{slice_get, refl}
use Rattle.std.proofs.Common.{ap, sym, ◌∙◌, subst, eq-eqb}
use Rattle.alias_base.specs.Answer.{◌>>=◌}
use Rattle.alias_base.specs.declared.ids.FunctionId.{FunctionId}
use Rattle.alias_hir.specs.declared.effect.AliasingEffect.{AliasingEffect}
use Rattle.alias_lattice.specs.States.{State}
use Rattle.alias_flow.specs.Machine.{SolverState, VisitLog, Solved}
use Rattle.alias_rules.specs.Fitting.{function_fits}
use Rattle.alias_tables.specs.Tables.{TableLists}
use Rattle.alias_step.specs.block.Contexts.{context_of}
use Rattle.alias_step.specs.declared.block.recorded.BlockEffects.{BlockEffects}
use Rattle.alias_effects.specs.Inference.{solved_of, end_of, env_after}
use Rattle.alias_effects.specs.Numbered.{visits_end}
use Rattle.alias_effects.specs.Recording.{with_effects_of}
use Rattle.alias_range_pass.specs.Passes.{Ranged, range_pass}
use Rattle.alias_nested.specs.Analysis.{Analysed}
use Rattle.alias_text.specs.Lines.{effect_text}
use Rattle.alias_certificate.specs.declared.certificate.CertFunction.{CertFunction}
use Rattle.alias_certificate.specs.declared.fault.CheckFault.{CheckFault}
use Rattle.alias_certificate.specs.declared.fault.CheckFault.TheVariants as fault
use Rattle.alias_cert.specs.Functions.{same_name, said_as, said}
use Rattle.alias_cert.specs.effects.Telling.{is_all, texts_after, is_summary_claimed}
use Rattle.alias_certificate_laws.specs.accepting.Alike.{none, more, AlikeEffects}
use Rattle.alias_certificate_laws.specs.accepting.Saying.{said_function}
use Rattle.alias_certificate_laws.proofs.accepting.Texts.{claimed_alike}
use Rattle.alias_accepted_laws.specs.Following.{OrFull, done, full}

-- the certificate says of the function what its effects pass ended with, and the summary that the range pass then gave
pub record IsSaidOf (x : Analysed) (c : CertFunction) : Type 0 where
  pub fits : function_fits x.func x.env ≡ true
  pub left : SolverState (VisitLog State) TableLists BlockEffects
  pub ends : visits_end (context_of x.env x.func x.is_function_expression) ≡ Solved left
  pub ranged : Ranged
  pub ran : range_pass x.is_function_expression (with_effects_of (solved_of x.func left) x.func)
      (env_after x.env (end_of x.func left)) ≡ Ok ranged
  pub is : said_function x.solved.function x.func left.progress.joined_input left.recorded left.tables.temporaries
      (map effect_text ranged.summary) ≡ c

-- the certificate says this of the function at the position
pub record IsSaidAt (functions : List CertFunction) (n : ℕ) (x : Analysed) : Type 0 where
  pub said : CertFunction
  pub there : slice_get functions n ≡ Some said
  pub tells : IsSaidOf x said

-- ---- answers, or want of numbers

pub or_full_then : {A B : Type 0} {P : A → Type 0} (Q : B → Type 0) (r : Result A CheckFault)
    (k : A → Result B CheckFault) → OrFull P r → ((x : A) → P x → OrFull Q (k x)) → OrFull Q (r >>= k)
or_full_then Q r k (done x is p) h = subst (λ z. OrFull Q (z >>= k)) (sym is) (h x p)
or_full_then Q r k (full is) h = full (ap (λ z. z >>= k) is)

-- what is made of an answer goes on
pub or_full_made : {A B C : Type 0} {P : A → Type 0} (Q : C → Type 0) (r : Result A CheckFault) (make : A → B)
    (k : B → Result C CheckFault) → OrFull P r → ((x : A) → P x → OrFull Q (k (make x)))
    → OrFull Q ((r >>= (λ x. Ok (make x))) >>= k)
or_full_made Q r make k (done x is p) h = subst (λ z. OrFull Q ((z >>= (λ x. Ok (make x))) >>= k)) (sym is) (h x p)
or_full_made Q r make k (full is) h = full (ap (λ z. (z >>= (λ x. Ok (make x))) >>= k) is)

-- ---- what is said at a position

same_itself : (id : Option FunctionId) → same_name id id ≡ true
same_itself None = refl
same_itself (Some f) = eq-eqb f.0 f.0 refl

pub said_there : (functions : List CertFunction) (n : ℕ) (id : Option FunctionId) (c : CertFunction)
    → slice_get functions n ≡ Some c → c.function ≡ id → said functions n id ≡ Ok c
said_there functions n id c at named =
    ap (said_as n id) at ∙ ap (λ b. let r : Result CertFunction CheckFault = if b then Ok c
    else Err (fault.Functions n) in r) (ap (λ f. same_name f id) named ∙ same_itself id)

-- ---- summaries

texts_left : (es fs : List AliasingEffect) → AlikeEffects es fs → texts_after fs (map effect_text es) ≡ Some []
texts_left es fs none = refl
texts_left es fs (more {a = e} {b = f} {xs = xs} {ys = ys} q qs) =
    ap (λ b. if b then texts_after ys (map effect_text xs) else None) (claimed_alike e f q) ∙ texts_left xs ys qs

-- a summary that is alike is the one that is reported
pub summary_reported : (es fs : List AliasingEffect) → AlikeEffects es fs → is_summary_claimed fs (map effect_text es)
    ≡ true
summary_reported es fs a = ap is_all (texts_left es fs a)
