-- The lines of the blocks that are reached stand where they are looked for.
use Rattle.std.specs.Prelude.{slice_get}
use Rattle.std.proofs.Common.{◌≡◌, ℕ, zero, suc, ◌+◌, ◌<◌, Bool, true, false, ◌&&◌, List, [], ◌∷◌, ◌++◌, length, get_or}
use Rattle.std.proofs.Common.{Option, Some, None, refl, ap, sym, ◌∙◌, arith, append_assoc, length-append, eq-eqb}
use Rattle.std.specs.List.{list_all}
use Rattle.std.specs.Option.{is_some, option_map_or}
use Rattle.alias_base.specs.Find.{same_block}
use Rattle.alias_base.specs.declared.ids.BlockId.{BlockId}
use Rattle.alias_hir.specs.Positions.{Blocks}
use Rattle.alias_lattice.specs.States.{State}
use Rattle.alias_flow.specs.Machine.{up}
use Rattle.alias_flow.specs.Solutions.{entry_at}
use Rattle.alias_step.specs.declared.block.recorded.BlockEffects.{BlockEffects}
use Rattle.alias_effects.specs.Inference.{block_at}
use Rattle.alias_certificate.specs.declared.certificate.CertBlock.{CertBlock}
use Rattle.alias_cert.specs.function.Blocks.{line_numbers, marked_count, line_is, are_lines}
use Rattle.alias_certificate_laws.specs.accepting.Saying.{said_block, said_of, said_each, those_there}

-- which of them are there
abbrev pub marks_of : {A : Type 0} → List (Option A) → List Bool
marks_of [] = []
marks_of (x ∷ xs) = is_some x ∷ marks_of xs

pub count_is : {A : Type 0} (xs : List (Option A)) → length (those_there xs) ≡ marked_count (marks_of xs)
count_is [] = refl
count_is (None ∷ xs) = count_is xs
count_is (Some x ∷ xs) = let rest : length (those_there xs) ≡ marked_count (marks_of xs) = count_is xs in omega arith

pub mark_at : {A : Type 0} (xs : List (Option A)) (i : ℕ) → get_or (marks_of xs) i false ≡ is_some (entry_at xs i)
mark_at [] i = refl
mark_at (x ∷ xs) zero = refl
mark_at (x ∷ xs) (suc i) = mark_at xs i

pub marks_long : {A : Type 0} (xs : List (Option A)) → length (marks_of xs) ≡ length xs
marks_long [] = refl
marks_long (x ∷ xs) = ap suc (marks_long xs)

pub same_marks : (ms ns : List Bool) → length ms ≡ length ns → ((i : ℕ) → get_or ms i false ≡ get_or ns i false) → ms
    ≡ ns
same_marks [] [] l h = refl
same_marks [] (n ∷ ns) l h = cc
same_marks (m ∷ ms) [] l h = cc
same_marks (m ∷ ms) (n ∷ ns) l h =
    let rest : ms ≡ ns = same_marks ms ns (let a : suc (length ms) ≡ suc (length ns) = l in omega arith)
    (λ i. h (suc i)) in
    let first : m ≡ n = h zero in
    cc

-- where a thing is there, its line has a number, and stands there
pub record Stands {A : Type 0} (front : List A) (xs : List (Option A)) (i : ℕ) (x : A) : Type 0 where
  pub number : ℕ
  pub is : entry_at (line_numbers (length front) (marks_of xs)) i ≡ Some number
  pub there : slice_get (front ++ those_there xs) number ≡ Some x

get_behind : {A : Type 0} (front : List A) (x : A) (xs : List A) → slice_get (front ++ x ∷ xs) (length front) ≡ Some x
get_behind [] x xs = refl
get_behind (y ∷ ys) x xs = get_behind ys x xs

one_more : {A : Type 0} (front : List A) (x : A) → length (front ++ x ∷ []) ≡ length front + 1
one_more front x = length-append front (x ∷ [])

pub stands : {A : Type 0} (front : List A) (xs : List (Option A)) (i : ℕ) (x : A) → entry_at xs i ≡ Some x
    → Stands front xs i x
stands front [] i x h = cc
stands front (None ∷ xs) zero x h = cc
stands front (None ∷ xs) (suc i) x h = let r = stands front xs i x h in
    record { number = r.number; is = r.is; there = r.there }
stands front (Some y ∷ xs) zero x h = let same : y ≡ x = cc in
    record { number = length front; is = refl; there = get_behind front y (those_there xs) ∙ ap Some same }
stands front (Some y ∷ xs) (suc i) x h =
    let r = stands (front ++ y ∷ []) xs i x h in
    record {
      number = r.number;
      is = ap (λ n. entry_at (line_numbers n (marks_of xs)) i) (sym (one_more front y)) ∙ r.is;
      there = ap (λ l. slice_get l r.number) (sym (append_assoc front (y ∷ []) (those_there xs))) ∙ r.there;
    }

pub no_number : {A : Type 0} (n : ℕ) (xs : List (Option A)) (i : ℕ) → entry_at xs i ≡ None
    → entry_at (line_numbers n (marks_of xs)) i ≡ None
no_number n [] i h = refl
no_number n (None ∷ xs) zero h = refl
no_number n (None ∷ xs) (suc i) h = no_number n xs i h
no_number n (Some y ∷ xs) zero h = cc
no_number n (Some y ∷ xs) (suc i) h = no_number (n + 1) xs i h

-- ---- what is said of each block

pub said_at : (bs : Blocks) (xs : List (Option State)) (rs : List (Option BlockEffects)) (i : ℕ) (s : State)
    (r : BlockEffects) → i < length bs → entry_at xs i ≡ Some s → entry_at rs i ≡ Some r
    → entry_at (said_each bs xs rs) i ≡ Some (said_block (block_at bs i) s r)
said_at [] xs rs i s r lt h k = let no : ⊥ = omega arith in absurd no
said_at (b ∷ bs) [] rs i s r lt h k = cc
said_at (b ∷ bs) (x ∷ xs) [] i s r lt h k = cc
said_at (b ∷ bs) (x ∷ xs) (q ∷ rs) zero s r lt h k = ap (λ o. said_of b o q) h ∙ ap (said_of b (Some s)) k
said_at (b ∷ bs) (x ∷ xs) (q ∷ rs) (suc i) s r lt h k = said_at bs xs rs i s r (omega arith) h k

pub said_nothing : (bs : Blocks) (xs : List (Option State)) (rs : List (Option BlockEffects)) (i : ℕ) → entry_at xs i
    ≡ None → entry_at (said_each bs xs rs) i ≡ None
said_nothing [] xs rs i h = refl
said_nothing (b ∷ bs) [] rs i h = refl
said_nothing (b ∷ bs) (x ∷ xs) [] i h = refl
said_nothing (b ∷ bs) (x ∷ xs) (q ∷ rs) zero h = ap (λ o. said_of b o q) h
said_nothing (b ∷ bs) (x ∷ xs) (q ∷ rs) (suc i) h = said_nothing bs xs rs i h

pub said_long : (bs : Blocks) (xs : List (Option State)) (rs : List (Option BlockEffects)) → length xs ≡ length bs
    → length rs ≡ length bs → length (said_each bs xs rs) ≡ length bs
said_long [] xs rs h k = refl
said_long (b ∷ bs) [] rs h k = cc
said_long (b ∷ bs) (x ∷ xs) [] h k = cc
said_long (b ∷ bs) (x ∷ xs) (r ∷ rs) h k =
    ap suc (said_long bs xs rs (let a : suc (length xs) ≡ suc (length bs) = h in omega arith)
    (let a : suc (length rs) ≡ suc (length bs) = k in omega arith))

-- ---- the lines are those of the blocks

line_ok : (lines : List CertBlock) (b : BlockId) (n : Option ℕ)
    → ((k : ℕ) → n ≡ Some k → (c : CertBlock) × (slice_get lines k ≡ Some c) × (c.block ≡ b)) → line_is lines b n ≡ true
line_ok lines b None h = refl
line_ok lines b (Some k) h =
    let r = h k refl in
    ap (λ o. option_map_or (λ (c : CertBlock). same_block c.block b) o false) r.1 ∙ ap (λ z. same_block z b) r.2
    ∙ eq-eqb b.0 b.0 refl

all_up : (test : ℕ → Bool) (i n : ℕ) → ((b : ℕ) → test b ≡ true) → list_all test (up i n) ≡ true
all_up test i zero h = refl
all_up test i (suc n) h = ap (λ t. t && list_all test (up (i + 1) n)) (h i) ∙ all_up test (i + 1) n h

pub are_lines_of : (lines : List CertBlock) (blocks : Blocks) (marks : List Bool) → length lines ≡ marked_count marks
    → ((i k : ℕ) → entry_at (line_numbers 0 marks) i ≡ Some k → (c : CertBlock) × (slice_get lines k ≡ Some c)
    × (c.block ≡ block_at blocks i)) → are_lines lines blocks marks ≡ true
are_lines_of lines blocks marks count each =
    ap (λ t. t && list_all (λ i. line_is lines (block_at blocks i) (entry_at (line_numbers 0 marks) i))
    (up 0 (length blocks))) (eq-eqb (length lines) (marked_count marks) count)
    ∙ all_up (λ i. line_is lines (block_at blocks i) (entry_at (line_numbers 0 marks) i)) 0 (length blocks)
    (λ i. line_ok lines (block_at blocks i) (entry_at (line_numbers 0 marks) i) (λ k h. each i k h))
