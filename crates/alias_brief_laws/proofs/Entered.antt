-- A block is entered again with the same state by a line of what that has beyond what arrives.
use Rattle.std.specs.Prelude.{◌&&◌, if◌then◌else◌, ℕ, option_map, IsTrue}
use Rattle.std.proofs.Common.{◌≡◌, Bool, true, false, List, [], ◌∷◌, Option, Some, None, refl, ap, sym, ◌∙◌, subst}
use Rattle.alias_base.specs.declared.ids.FunctionId.{FunctionId}
use Rattle.alias_lattice.specs.JoinLaws.{state_laws}
use Rattle.alias_lattice.specs.ProperStates.{StateProper}
use Rattle.alias_lattice.specs.States.{State, state_below}
use Rattle.alias_certificate.specs.declared.beyond.Beyond.{Beyond}
use Rattle.alias_certificate.specs.declared.certificate.CertBlock.{CertBlock}
use Rattle.alias_certificate.specs.states.Beyond.{beyond_of, nothing_beyond}
use Rattle.alias_certificate.specs.states.Raised.{raised_state}
use Rattle.alias_follow.specs.lines.Entering.{is_bare, none_of, entered_by}
use Rattle.alias_brief_laws.specs.Raising.{AreValuesProper, SaysBeyond}
use Rattle.alias_certificate.proofs.raised.Lines.{was_raised}
use Rattle.alias_brief_laws.proofs.RaisedAgain.{is_proper, is_above}
use Rattle.alias_brief_laws.proofs.RaisedAgain.{raises_again, raised_by_none}

-- a state with what it has beyond what arrives
abbrev pub with_beyond : State → State → State × Beyond
with_beyond x u = (u, beyond_of u x)

-- the state that is entered is proper, and above what arrives; and it is entered again by a line of what it has beyond
-- that
pub record Enters (n : ℕ) (ids : List FunctionId) (x s : State) (m : Beyond) : Type 0 where
  pub is_proper : StateProper s
  pub above : IsTrue (state_below x s)
  pub again : (d : CertBlock) → SaysBeyond d m → entered_by n ids (Some d) x ≡ Some (s, m)

nothing_said : (d : CertBlock) → SaysBeyond d nothing_beyond → is_bare d ≡ true
nothing_said d says = λ i. none_of (says.values i) && none_of (says.variables i)

same_pair : (p q : State × Beyond) → ◌≡◌ {A = Option (State × Beyond)} (Some p) (Some q) → p ≡ q
same_pair p q e = cc

module _ (n : ℕ) (ids : List FunctionId) where
  -- where nothing raises what arrives
  as_it_is : (x s : State) (m : Beyond) → StateProper x
      → ◌≡◌ {A = Option (State × Beyond)} (Some (x, nothing_beyond)) (Some (s, m)) → Enters n ids x s m
  as_it_is x s m h e =
      subst (λ (p : State × Beyond). Enters n ids x p.0 p.1) (same_pair (x, nothing_beyond) (s, m) e) (record {
        is_proper = h;
        above = (state_laws.order x x h h).1 (state_laws.idempotent x h);
        again = λ d says. ap (λ t. if t then Some (x, nothing_beyond)
            else option_map (with_beyond x) (raised_state n ids d x)) (nothing_said d says);
      })

  none_is : {A : Type 0} (xs : List A) → none_of xs ≡ true → xs ≡ []
  none_is [] h = refl
  none_is (y ∷ ys) h = cc

  both_are : (a b : Bool) → (a && b) ≡ true → (a ≡ true) × (b ≡ true)
  both_are true b h = (refl, h)
  both_are false b h = cc

  -- a line that says nothing raises it to itself
  bare_raises : (d : CertBlock) (x s : State) → StateProper x → is_bare d ≡ true → raised_state n ids d x ≡ Some s
      → s ≡ x
  bare_raises d x s h bare e =
      let b = both_are (none_of d.values) (none_of d.variables) bare in
      raised_by_none n ids d x s h (none_is d.values b.0) (none_is d.variables b.1) e

  -- where a line raised it
  again_if : (x s : State) (d : CertBlock) (t : Bool) → StateProper x → is_bare d ≡ t → SaysBeyond d (beyond_of s x)
      → raised_state n ids d x ≡ Some s
      → (if t then Some (x, nothing_beyond) else option_map (with_beyond x) (raised_state n ids d x))
      ≡ Some (s, beyond_of s x)
  again_if x s d false h is says e = ap (option_map (with_beyond x)) e
  again_if x s d true h is says e =
      let b = both_are (none_of d.values) (none_of d.variables) is in
      let nothing : nothing_beyond ≡ beyond_of s x = λ i. record {
        values = (sym (none_is d.values b.0) ∙ says.values) i;
        variables = (sym (none_is d.variables b.1) ∙ says.variables) i;
      } in
      λ i. Some (sym (bare_raises d x s h is e) i, nothing i)

  raised_enters : (c : CertBlock) (x s : State) → AreValuesProper c.values → StateProper x
      → raised_state n ids c x ≡ Some s → Enters n ids x s (beyond_of s x)
  raised_enters c x s known h e =
      let r = was_raised n ids c x s e in
      record {
        is_proper = is_proper n ids c x s known h r;
        above = is_above n ids c x s known h r;
        again = λ d says. again_if x s d (is_bare d) h refl says (raises_again n ids c d x s known h e says);
      }

  raised_or : (c : CertBlock) (x s : State) (m : Beyond) (o : Option State) → AreValuesProper c.values → StateProper x
      → raised_state n ids c x ≡ o → option_map (with_beyond x) o ≡ Some (s, m) → Enters n ids x s m
  raised_or c x s m None known h is e = cc
  raised_or c x s m (Some u) known h is e =
      subst (λ (p : State × Beyond). Enters n ids x p.0 p.1) (same_pair (with_beyond x u) (s, m) e)
      (raised_enters c x u known h is)

  bare_or : (c : CertBlock) (x s : State) (m : Beyond) (t : Bool) → AreValuesProper c.values → StateProper x
      → (if t then Some (x, nothing_beyond) else option_map (with_beyond x) (raised_state n ids c x)) ≡ Some (s, m)
      → Enters n ids x s m
  bare_or c x s m true known h e = as_it_is x s m h e
  bare_or c x s m false known h e = raised_or c x s m (raised_state n ids c x) known h refl e

  pub enters : (o : Option CertBlock) (x s : State) (m : Beyond)
      → ((c : CertBlock) → o ≡ Some c → AreValuesProper c.values) → StateProper x → entered_by n ids o x ≡ Some (s, m)
      → Enters n ids x s m
  enters None x s m known h e = as_it_is x s m h e
  enters (Some c) x s m known h e = bare_or c x s m (is_bare c) (known c refl) h e
