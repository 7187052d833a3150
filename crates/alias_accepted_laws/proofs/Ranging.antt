-- The range pass of the check follows that of the inference.
use Rattle.std.specs.Prelude.{◌≡◌, ℕ, Bool, true, false, List, Some, Ok, refl}
use Rattle.std.proofs.Common.{zero, suc, ⊎_elim, ap, sym, ◌∙◌, subst}
use Rattle.alias_hir.specs.declared.env.Environment.{Environment}
use Rattle.alias_hir.specs.declared.env.Identifier.{Identifier}
use Rattle.alias_hir.specs.declared.hir.HirFunction.{HirFunction}
use Rattle.alias_range_pass.specs.Passes.{Ranged, range_pass, records}
use Rattle.alias_certificate_laws.specs.accepting.Alike.{Paired, none, more, AlikeFunction, seen}
use Rattle.alias_accepted_laws.specs.Following.{but_seen, SeenAlike, SeenNearly, RangeFollowed, RangesAreFollowed}
use Rattle.alias_range_alike_laws.specs.Ranging.{CarriesAlike, NearlyAlike, near, Nearby, nearby, SameContextAt}
use Rattle.alias_range_alike_laws.specs.Ranging.{RangesNearby, RangePassIsNearlyAlike}
use Rattle.alias_range_alike_laws.specs.Spans.{Respanned, RangesReadNoSpan}
use Rattle.alias_accepted_laws.specs.Spans.{with_ids}

-- functions that are seen nearly alike, of the same context places, are seen alike
all_alike : (fs gs : List HirFunction) → Paired NearlyAlike fs gs → ((k : ℕ) → SameContextAt fs gs k)
    → Paired AlikeFunction fs gs
all_alike fs gs none same = none
all_alike fs gs (more {xs = xs} {ys = ys} (near f g context kept a) rest) same =
    let first : Some context ≡ Some f.context = same zero in
    let own : context ≡ f.context = cc in
    more (subst (λ c. AlikeFunction f (record g { params = f.params; context = c; returns = f.returns })) (sym own)
    (seen f g a)) (all_alike xs ys rest (λ k. same (suc k)))

records_none : (b : Bool) (env : Environment) → b ≡ true → records b env ≡ false
records_none true env e = refl
records_none false env e = cc

module _ (nearly : RangePassIsNearlyAlike) (spans : RangesReadNoSpan) (env other : Environment) (f g : HirFunction)
    (b : Bool) (r : Ranged) (s : SeenNearly f env other) (carries : CarriesAlike f g)
    (ran : range_pass b f env ≡ Ok r) where
  abbrev here : Environment
  here = with_ids env other.identifiers

  respans :
      (js : List Identifier) × Paired Respanned r.after.1.identifiers js
      × (range_pass b f (record env { identifiers = other.identifiers })
      ≡ Ok (record r { after = (r.after.0, record r.after.1 { identifiers = js }) }))
  respans = spans env other.identifiers f b r s.identifiers ran

  abbrev over : Ranged
  over = record r { after = (r.after.0, with_ids r.after.1 respans.0) }

  abbrev away : Nearby here
  away = record { functions = other.functions; interned = other.interned; near = s.functions }

  -- the environment of the check
  it : nearby here away ≡ other
  it = ap (λ (z : Environment). record z {
    identifiers = other.identifiers;
    functions = other.functions;
    interned = other.interned;
  }) (sym s.rest)

  near_by : RangesNearby here away f g b over
  near_by = nearly here away f g b over carries respans.2

  module _ (expression : b ≡ true) where
    whole : near_by.other.after.1 ≡ nearby over.after.1 near_by.away
    whole = ap (λ es. record near_by.other.after.1 { errors = es }) (near_by.errors (records_none b here expression))
        ∙ near_by.environment

    contexts : (k : ℕ) → SameContextAt over.after.1.functions near_by.away.functions k
    contexts k = ⊎_elim (λ set. near_by.set k set) (λ same. near_by.kept k same) (s.contexts k)

    alike_after : SeenAlike r.after.1 near_by.other.after.1
    alike_after = record {
      identifiers = subst (λ (z : Environment). Paired Respanned r.after.1.identifiers z.identifiers) (sym whole)
          respans.1;
      functions = subst (λ (z : Environment). Paired AlikeFunction r.after.1.functions z.functions) (sym whole)
          (all_alike r.after.1.functions near_by.away.functions near_by.away.near contexts);
      rest = ap but_seen whole;
    }

  follows : RangeFollowed other g b r
  follows = record {
    there = near_by.other;
    is = ap (range_pass b g) (sym it) ∙ near_by.is;
    summary = near_by.summary;
    function = near_by.function;
    nested = alike_after;
  }

-- by what the range pass gives nearby, and over other spans
pub ranges_followed : RangePassIsNearlyAlike → RangesReadNoSpan → RangesAreFollowed
ranges_followed nearly spans env other f g b r s carries ran = follows nearly spans env other f g b r s carries ran
