-- The line that is told of each block of a function.
use Rattle.std.specs.Prelude.{cond, slice_get, slice_index_or, ⊤}
use Rattle.std.specs.Map.{keys_of}
use Rattle.std.proofs.Common.{◌≡◌, ℕ, ◌<◌, zero, suc, Bool, true, false, List, [], ◌∷◌, length, Option, Some, None}
use Rattle.std.proofs.Common.{option_map, refl, ap, sym, ◌∙◌, subst, arith}
use Rattle.alias_base.specs.Find.{same_block}
use Rattle.alias_base.specs.declared.ids.BlockId.{BlockId}
use Rattle.alias_hir.specs.PositionLaws.{position_step, same_is, same_self}
use Rattle.alias_hir.specs.Positions.{Blocks, position_in}
use Rattle.alias_hir.specs.declared.hir.BasicBlock.{BasicBlock}
use Rattle.alias_lattice.specs.States.{State}
use Rattle.alias_effects.specs.Inference.{entries_of}
use Rattle.alias_effects.specs.declared.solved.BlockEntry.{BlockEntry}
use Rattle.alias_certificate.specs.declared.beyond.Beyond.{Beyond}
use Rattle.alias_certificate.specs.declared.certificate.CertBlock.{CertBlock}
use Rattle.alias_follow.specs.lines.First.{first_line, first_lines, line_at}
use Rattle.alias_brief_laws.specs.Raising.{SaysBeyond}
use Rattle.alias_brief_laws.proofs.Marking.{beyond_at}

-- ---- what is told

abbrev pub others_of : {B : Type 0} → List B → List B
others_of [] = []
others_of (m ∷ ms) = ms

-- the lines of these blocks, in order: each says what is beyond in the block's entry state
abbrev pub AreTold : List CertBlock → List Beyond → List BlockEntry → Type 0
AreTold [] ms [] = ⊤
AreTold [] ms (e ∷ es) = ⊥
AreTold (c ∷ cs) ms [] = ⊥
AreTold (c ∷ cs) ms (e ∷ es) = (c.block ≡ e.block) × ((m : Beyond) → slice_get ms 0 ≡ Some m → SaysBeyond c m)
    × AreTold cs (others_of ms) es

-- ---- the first line of a block

abbrev line_of : List CertBlock → BlockId → Option CertBlock
line_of cs b = line_at cs (first_line cs b)

line_or : (c : CertBlock) (cs : List CertBlock) (t : Bool) (o : Option ℕ)
    → line_at (c ∷ cs) (cond t (Some 0) (option_map suc o)) ≡ cond t (Some c) (line_at cs o)
line_or c cs true o = refl
line_or c cs false None = refl
line_or c cs false (Some n) = refl

line_step : (c : CertBlock) (cs : List CertBlock) (b : BlockId) → line_of (c ∷ cs) b
    ≡ cond (same_block c.block b) (Some c) (line_of cs b)
line_step c cs b =
    ap (line_at (c ∷ cs)) (position_step (λ (d : CertBlock). same_block d.block b) c cs)
    ∙ line_or c cs (same_block c.block b) (first_line cs b)

-- there is a line, and it says this
pub record Tells (cs : List CertBlock) (b : BlockId) (m : Beyond) : Type 0 where
  pub line : CertBlock
  pub is : line_of cs b ≡ Some line
  pub says : SaysBeyond line m

later : (t : Bool) (o : Option ℕ) (q : ℕ) → cond t (Some 0) (option_map suc o) ≡ Some (suc q)
    → (t ≡ false) × (o ≡ Some q)
later true o q h = let clash : 0 ≡ suc q = cc in absurd (omega arith)
later false None q h = cc
later false (Some n) q h = let same : suc n ≡ suc q = cc in let less : n ≡ q = omega arith in (refl, ap Some less)

other_way : (a b : BlockId) (t : Bool) → same_block a b ≡ t → same_block b a ≡ false → t ≡ false
other_way a b false is h = refl
other_way a b true is h =
    let same : a ≡ b = same_is a b is in
    let clash : true ≡ false = sym (same_self a) ∙ ap (λ z. same_block z a) same ∙ h in cc

-- a block that is the first of its name has another than the block before it, and is the first behind that
apart_first : (b : BlockId × BasicBlock) (bs : Blocks) (e : BlockId) (q : ℕ) → position_in (b ∷ bs) e ≡ Some (suc q)
    → (same_block b.0 e ≡ false) × (position_in bs e ≡ Some q)
apart_first b bs e q h =
    let l = later (same_block e b.0) (position_in bs e) q (sym (position_step (same_block e) b.0 (keys_of bs)) ∙ h) in
    (other_way b.0 e (same_block b.0 e) refl l.0, l.1)

told_behind : (c : CertBlock) (cs : List CertBlock) (b : BlockId) (m : Beyond) → same_block c.block b ≡ false
    → Tells cs b m → Tells (c ∷ cs) b m
told_behind c cs b m other t = record {
  line = t.line;
  is = line_step c cs b ∙ ap (λ z. cond z (Some c) (line_of cs b)) other ∙ t.is;
  says = t.says;
}

told_here : (c : CertBlock) (cs : List CertBlock) (b : BlockId) (m : Beyond) → c.block ≡ b → SaysBeyond c m
    → Tells (c ∷ cs) b m
told_here c cs b m same says = record {
  line = c;
  is = line_step c cs b
      ∙ ap (λ z. cond z (Some c) (line_of cs b)) (ap (λ d. same_block d b) same ∙ same_self b);
  says = says;
}

-- each block of whose entry state this is beyond, and that is the first of its name, has a line that says it
block_told : (blocks : Blocks) (xs : List (Option State)) (ms : List Beyond) (cs : List CertBlock)
    → AreTold cs ms (entries_of blocks xs) → (q : ℕ) (e : BlockId × BasicBlock) (m : Beyond)
    → slice_get blocks q ≡ Some e → position_in blocks e.0 ≡ Some q → beyond_at xs ms q ≡ Some m → Tells cs e.0 m
block_told [] xs ms cs t q e m at is h = cc
block_told (b ∷ bs) [] ms cs t q e m at is h = cc
block_told (b ∷ bs) (None ∷ xs) ms cs t zero e m at is h = cc
block_told (b ∷ bs) (None ∷ xs) ms cs t (suc q) e m at is h =
    block_told bs xs ms cs t q e m at (apart_first b bs e.0 q is).1 h
block_told (b ∷ bs) (Some x ∷ xs) ms [] t q e m at is h = absurd t
block_told (b ∷ bs) (Some x ∷ xs) [] (c ∷ cs) t q e m at is h = cc
block_told (b ∷ bs) (Some x ∷ xs) (k ∷ ms) (c ∷ cs) t zero e m at is h =
    let same : b ≡ e = cc in
    told_here c cs e.0 m (t.0 ∙ ap (λ (y : BlockId × BasicBlock). y.0) same) (t.1 m h)
block_told (b ∷ bs) (Some x ∷ xs) (k ∷ ms) (c ∷ cs) t (suc q) e m at is h =
    let first = apart_first b bs e.0 q is in
    told_behind c cs e.0 m (ap (λ z. same_block z e.0) t.0 ∙ first.0)
    (block_told bs xs ms cs t.2 q e m at first.1 h)

-- ---- by numbers

number_at : (cs : List CertBlock) (blocks : Blocks) (q : ℕ) (e : BlockId × BasicBlock) → slice_get blocks q ≡ Some e
    → slice_index_or (first_lines cs blocks) q None ≡ first_line cs e.0
number_at cs [] q e h = cc
number_at cs (b ∷ bs) zero e h = let same : b ≡ e = cc in ap (λ (y : BlockId × BasicBlock). first_line cs y.0) same
number_at cs (b ∷ bs) (suc q) e h = number_at cs bs q e h

block_there : (blocks : Blocks) (q : ℕ) → q < length blocks → (e : BlockId × BasicBlock) × (slice_get blocks q ≡ Some e)
block_there [] q h = absurd (omega arith)
block_there (b ∷ bs) zero h = (b, refl)
block_there (b ∷ bs) (suc q) h = block_there bs q (omega arith)

beyond_within : {P B : Type 0} (xs : List (Option P)) (ms : List B) (q : ℕ) (m : B) → beyond_at xs ms q ≡ Some m
    → q < length xs
beyond_within [] ms q m h = cc
beyond_within (None ∷ xs) ms zero m h = cc
beyond_within (None ∷ xs) ms (suc q) m h = let r = beyond_within xs ms q m h in omega arith
beyond_within (Some x ∷ xs) [] q m h = cc
beyond_within (Some x ∷ xs) (k ∷ ms) zero m h = omega arith
beyond_within (Some x ∷ xs) (k ∷ ms) (suc q) m h = let r = beyond_within xs ms q m h in omega arith

-- the line of the block at a position says what is beyond in its entry state
pub record TellsAt (cs : List CertBlock) (numbers : List (Option ℕ)) (q : ℕ) (m : Beyond) : Type 0 where
  pub line : CertBlock
  pub is : line_at cs (slice_index_or numbers q None) ≡ Some line
  pub says : SaysBeyond line m

pub position_told : (blocks : Blocks) (xs : List (Option State)) (ms : List Beyond) (cs : List CertBlock)
    → AreTold cs ms (entries_of blocks xs) → length xs ≡ length blocks → (q : ℕ) (m : Beyond)
    → ((e : BlockId × BasicBlock) → slice_get blocks q ≡ Some e → position_in blocks e.0 ≡ Some q)
    → beyond_at xs ms q ≡ Some m → TellsAt cs (first_lines cs blocks) q m
position_told blocks xs ms cs t long q m is h =
    let within : q < length blocks = subst (λ n. q < n) long (beyond_within xs ms q m h) in
    let b = block_there blocks q within in
    let told = block_told blocks xs ms cs t q b.0 m b.1 (is b.0 b.1) h in
    record {
      line = told.line;
      is = ap (line_at cs) (number_at cs blocks q b.0 b.1) ∙ told.is;
      says = told.says;
    }
