-- Where there is an entry state, its block is marked.
use Rattle.std.proofs.Common.{◌≡◌, ℕ, ◌+◌, zero, suc, Bool, true, false, List, [], ◌∷◌, ◌++◌, length, get_or, Option}
use Rattle.std.proofs.Common.{Some, None, Result, Ok, Err, refl, ap, sym, ◌∙◌, append_assoc, append-nil, arith}
use Rattle.alias_base.specs.Answer.{◌>>=◌}
use Rattle.alias_base.specs.declared.ids.FunctionId.{FunctionId}
use Rattle.alias_lattice.specs.States.{State}
use Rattle.alias_flow.specs.Solutions.{entry_at}
use Rattle.alias_certificate.specs.declared.certificate.CertBlock.{CertBlock}
use Rattle.alias_certificate.specs.declared.fault.CheckFault.{CheckFault}
use Rattle.alias_cert.specs.function.Blocks.{line_numbers}
use Rattle.alias_cert.specs.function.Entries.{entry_stated, entries_stated}

-- a block with a line is marked
pub line_is_marked : (n : ℕ) (marks : List Bool) (b k : ℕ) → entry_at (line_numbers n marks) b ≡ Some k
    → get_or marks b false ≡ true
line_is_marked n [] b k h = cc
line_is_marked n (true ∷ marks) zero k h = refl
line_is_marked n (false ∷ marks) zero k h = cc
line_is_marked n (true ∷ marks) (suc b) k h = line_is_marked (n + 1) marks b k h
line_is_marked n (false ∷ marks) (suc b) k h = line_is_marked n marks b k h

pub lines_long : (n : ℕ) (marks : List Bool) → length (line_numbers n marks) ≡ length marks
lines_long n [] = refl
lines_long n (true ∷ marks) = ap suc (lines_long (n + 1) marks)
lines_long n (false ∷ marks) = ap suc (lines_long n marks)

module _ (function : Option FunctionId) (identifiers : ℕ) (created : List FunctionId) (lines : List CertBlock) where
  -- what is stated behind those that are done: one for each line, and a state only where there is a line
  pub record AreStated (done : List (Option State)) (numbers : List (Option ℕ)) (entries : List (Option State)) : Type
      0 where
    pub more : List (Option State)
    pub is : entries ≡ done ++ more
    pub long : length more ≡ length numbers
    pub lined : (b : ℕ) (s : State) → entry_at more b ≡ Some s → (k : ℕ) × (entry_at numbers b ≡ Some k)

  none_stated : (done entries : List (Option State)) → done ≡ entries → AreStated done [] entries
  none_stated done entries same = record {
    more = [];
    is = sym same ∙ sym (append-nil done);
    long = refl;
    lined = λ b s h. cc;
  }

  no_error : {A : Type 0} (e : CheckFault) (x : A) {B : Type 0} → Err e ≡ Ok x → B
  no_error e x h = cc

  one_lined : (n : Option ℕ) (e : Option State) (numbers : List (Option ℕ)) (more : List (Option State))
      → entry_stated function identifiers created lines n ≡ Ok e
      → ((b : ℕ) (s : State) → entry_at more b ≡ Some s → (k : ℕ) × (entry_at numbers b ≡ Some k)) → (b : ℕ) (s : State)
      → entry_at (e ∷ more) b ≡ Some s → (k : ℕ) × (entry_at (n ∷ numbers) b ≡ Some k)
  one_lined None e numbers more is lined zero s h = let two : None ≡ Some s = let none : None ≡ e = cc in none ∙ h in cc
  one_lined (Some k) e numbers more is lined zero s h = (k, refl)
  one_lined n e numbers more is lined (suc b) s h = lined b s h

  one_stated : (done : List (Option State)) (n : Option ℕ) (numbers : List (Option ℕ)) (entries : List (Option State))
      (r : Result (Option State) CheckFault) → entry_stated function identifiers created lines n ≡ r
      → (r >>= (λ e. entries_stated function identifiers created lines (done ++ e ∷ []) numbers)) ≡ Ok entries
      → ((e : Option State) → entries_stated function identifiers created lines (done ++ e ∷ []) numbers ≡ Ok entries
      → AreStated (done ++ e ∷ []) numbers entries) → AreStated done (n ∷ numbers) entries
  one_stated done n numbers entries (Err e) is h next = no_error e entries h
  one_stated done n numbers entries (Ok e) is h next =
      let r = next e h in
      record {
        more = e ∷ r.more;
        is = r.is ∙ append_assoc done (e ∷ []) r.more;
        long = ap suc r.long;
        lined = one_lined n e numbers r.more is r.lined;
      }

  pub are_stated : (done : List (Option State)) (numbers : List (Option ℕ)) (entries : List (Option State))
      → entries_stated function identifiers created lines done numbers ≡ Ok entries → AreStated done numbers entries
  are_stated done [] entries h = none_stated done entries cc
  are_stated done (n ∷ numbers) entries h =
      one_stated done n numbers entries (entry_stated function identifiers created lines n) refl h
      (λ e k. are_stated (done ++ e ∷ []) numbers entries k)
