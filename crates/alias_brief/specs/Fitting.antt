-- What the printed parts of what follows for a unit keep: numbers are below 2 ^ 32, sets of reasons have twelve bits, and
-- entry states are proper.
use Rattle.std.specs.Prelude.{◌≡◌, ℕ, ◌+◌, Bool, true, false, List, [], ◌∷◌, Option, Some, None, Ok, slice_get}
use Rattle.std.specs.List.{AllByRecursion}
use Rattle.alias_base.specs.Find.{value_at}
use Rattle.alias_hir.specs.declared.env.Unit.{Unit as HirUnit}
use Rattle.alias_hir.specs.declared.hir.HirFunction.{HirFunction}
use Rattle.alias_lattice.specs.Reasons.{ReasonBits}
use Rattle.alias_tables.specs.declared.temporaries.Temporary.{Temporary}
use Rattle.alias_effects.specs.declared.solved.BlockEntry.{BlockEntry}
use Rattle.alias_effects.specs.declared.solved.Solved.{Solved}
use Rattle.alias_text.specs.Fitting.{Small, SmallSite, SmallBlock, SmallTemporary, SmallName}
use Rattle.alias_text.specs.Results.{function_of}
use Rattle.alias_cert.specs.Known.{AreKnown}
use Rattle.alias_certificate.specs.declared.beyond.Beyond.{Beyond}
use Rattle.alias_certificate.specs.declared.certificate.CertValue.{CertValue}
use Rattle.alias_certificate.specs.declared.certificate.CertVariable.{CertVariable}
use Rattle.alias_follow.specs.Units.{UnitFollowing, unit_followed}
use Rattle.alias_follow.specs.declared.function.follow.FunctionBeyond.{FunctionBeyond}
use Rattle.alias_follow.specs.declared.unit.Followed.{Followed}
use Rattle.alias_brief.specs.Briefs.{brief_text}
use Rattle.alias_brief.specs.Saying.{said}

-- ---- beyond what arrived

abbrev pub FittingMoreValue : CertValue → Type 0
FittingMoreValue v = SmallSite v.site × ReasonBits v.value.reason

abbrev pub SmallMoreVariable : CertVariable → Type 0
SmallMoreVariable v = Small v.identifier.0 × AllByRecursion SmallSite v.sites

pub record FittingBeyond (b : Beyond) : Type 0 where
  pub values : AllByRecursion FittingMoreValue b.values
  pub variables : AllByRecursion SmallMoreVariable b.variables

abbrev pub FittingMore : Option Beyond → Type 0
FittingMore None = Unit {0}
FittingMore (Some b) = FittingBeyond b

-- ---- blocks

-- the entry of a block, and what it has beyond what arrived
pub record FittingBlock (func : HirFunction) (b : Option Beyond) (e : BlockEntry) : Type 0 where
  pub block : Small e.block.0
  pub beyond : FittingMore b
  pub instructions : SmallBlock (value_at func.body.blocks e.block)

-- what is beyond of the first stands at this position
abbrev pub FittingFrom : HirFunction → List Beyond → ℕ → List BlockEntry → Type 0
FittingFrom func beyond n [] = Unit {0}
FittingFrom func beyond n (e ∷ es) = FittingBlock func (slice_get beyond n) e × FittingFrom func beyond (n + 1) es

abbrev pub FittingFound : Option HirFunction → FunctionBeyond → List BlockEntry → Type 0
FittingFound None b entries = Unit {0}
FittingFound (Some func) b entries = FittingFrom func b.blocks 0 entries

-- ---- functions

-- the temporaries of a function that isn't forward
abbrev pub FittingTemporaries : Bool → List Temporary → Type 0
FittingTemporaries true ts = Unit {0}
FittingTemporaries false ts = AllByRecursion SmallTemporary ts

pub record FittingFunction (u : HirUnit) (s : Solved) (b : FunctionBeyond) : Type 0 where
  pub states : AreKnown s.entries
  pub function : SmallName s.function
  pub entries : FittingFound (function_of u s.function) b s.entries
  pub temporaries : FittingTemporaries b.is_forward s.temporaries

-- a function of which nothing is known isn't printed
abbrev pub FittingIfKnown : HirUnit → Solved → Option FunctionBeyond → Type 0
FittingIfKnown u s None = Unit {0}
FittingIfKnown u s (Some b) = FittingFunction u s b

-- what is beyond in the first stands at this position
abbrev pub FittingFunctions : HirUnit → List FunctionBeyond → ℕ → List Solved → Type 0
FittingFunctions u beyond n [] = Unit {0}
FittingFunctions u beyond n (s ∷ solved) = FittingIfKnown u s (slice_get beyond n)
    × FittingFunctions u beyond (n + 1) solved

-- ---- the whole

-- what follows for a unit keeps this where it is printed
abbrev pub IsFitting : Followed → Type 0
IsFitting f = FittingFunctions f.inferred.unit f.beyond 0 f.inferred.solved

-- the text is that of what follows for a unit from what solutions say, and that fits
abbrev pub IsFittingText : List Solved → HirUnit → List ℕ → Type 0
IsFittingText solved u text = (x : UnitFollowing) × (unit_followed (said solved) u ≡ Ok x) × (text ≡ brief_text x.followed)
    × IsFitting x.followed
