-- Tests of edges that are put together.
use Rattle.std.proofs.Common.{◌≡◌, ℕ, nat_lt, Bool, true, ◌&&◌, List, [], ◌∷◌, ◌++◌, map, Option, Some, None, refl}
use Rattle.std.proofs.Common.{ap, sym, ◌∙◌}
use Rattle.std.proofs.lemmas.List.Folds.{list_all-append, list_all-map}
use Rattle.std.specs.Prelude.{slice_get}
use Rattle.std.specs.List.{list_all}
use Rattle.std.specs.Option.{option_map_or}
use Rattle.alias_base.specs.declared.ids.BlockId.{BlockId}
use Rattle.alias_hir.specs.Positions.{Blocks, position_in, with_position, positions_of, edges_at}
use Rattle.alias_hir.specs.Terminals.{successors}
use Rattle.alias_hir.specs.declared.hir.BasicBlock.{BasicBlock}
use Rattle.alias_verify.specs.Edges.{stands_behind, goes_on}

-- a test of three parts, the last of which is made of each item
pub all_of_parts : {X Y : Type 0} (p : Y → Bool) (f : X → Y) (all xs ys : List Y) (zs : List X)
    → all ≡ xs ++ ys ++ map f zs
    → list_all p all ≡ (list_all p xs && list_all p ys && list_all (λ z. p (f z)) zs)
all_of_parts p f all xs ys zs e =
    ap (list_all p) e ∙ list_all-append p (xs ++ ys) (map f zs)
    ∙ ap (λ b. b && list_all p (map f zs)) (list_all-append p xs ys)
    ∙ ap (λ b. list_all p xs && list_all p ys && b) (list_all-map p f zs)

-- where the first two parts pass, it is that of the last
pub last_part : {X Y : Type 0} (p : Y → Bool) (f : X → Y) (all xs ys : List Y) (zs : List X) (r : Bool)
    → all ≡ xs ++ ys ++ map f zs → true ≡ (list_all p xs && list_all p ys) → r ≡ list_all (λ z. p (f z)) zs
    → r ≡ list_all p all
last_part p f all xs ys zs r e two last =
    last ∙ ap (λ t. t && list_all (λ z. p (f z)) zs) two ∙ sym (all_of_parts p f all xs ys zs e)

first_behind : (at : ℕ) (o : Option ℕ) (ns : List ℕ) → list_all (λ e. nat_lt at e) (with_position o ns)
    ≡ (option_map_or (λ n. nat_lt at n) o true && list_all (λ e. nat_lt at e) ns)
first_behind at None ns = refl
first_behind at (Some n) ns = refl

-- the positions of blocks are behind one where the blocks are
all_behind : (blocks : Blocks) (at : ℕ) (names : List BlockId) → list_all (λ e. nat_lt at e) (positions_of blocks names)
    ≡ list_all (stands_behind blocks at) names
all_behind blocks at [] = refl
all_behind blocks at (b ∷ bs) = first_behind at (position_in blocks b) (positions_of blocks bs)
    ∙ ap (λ t. stands_behind blocks at b && t) (all_behind blocks at bs)

-- the test of the block at a position
pub block_goes_on : (blocks : Blocks) (at : ℕ) (b : BlockId) (x : BasicBlock) (r : Bool)
    → Some (b, x) ≡ slice_get blocks at → r ≡ list_all (stands_behind blocks at) (successors x.terminal)
    → r ≡ goes_on blocks at
block_goes_on blocks at b x r here e =
    e ∙ sym (all_behind blocks at (successors x.terminal))
    ∙ ap (λ o. list_all (λ n. nat_lt at n) (edges_at blocks o)) here
