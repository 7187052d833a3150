-- The certificate that the text of what follows for a unit is.
use Rattle.std.specs.Prelude.{ℕ, ◌+◌, Bool, true, false, List, [], ◌∷◌, ◌++◌, Option, None, Some, map, slice_get}
use Rattle.alias_base.specs.Find.{value_at}
use Rattle.alias_hir.specs.declared.effect.AliasingEffect.{AliasingEffect}
use Rattle.alias_hir.specs.declared.env.Unit.{Unit as HirUnit}
use Rattle.alias_hir.specs.declared.hir.HirFunction.{HirFunction}
use Rattle.alias_tables.specs.declared.temporaries.Temporary.{Temporary}
use Rattle.alias_effects.specs.declared.solved.BlockEntry.{BlockEntry}
use Rattle.alias_effects.specs.declared.solved.Solved.{Solved}
use Rattle.alias_text.specs.Lines.{effect_text}
use Rattle.alias_text.specs.Results.{function_of}
use Rattle.alias_text.specs.Summaries.{summary_of}
use Rattle.alias_certificate.specs.declared.beyond.Beyond.{Beyond}
use Rattle.alias_certificate.specs.declared.certificate.Certificate.{Certificate}
use Rattle.alias_certificate.specs.declared.certificate.CertBlock.{CertBlock}
use Rattle.alias_certificate.specs.declared.certificate.CertFunction.{CertFunction}
use Rattle.alias_certificate.specs.declared.certificate.CertTemporary.{CertTemporary}
use Rattle.alias_certificate.specs.states.Beyond.{nothing_beyond}
use Rattle.alias_follow.specs.declared.function.follow.FunctionBeyond.{FunctionBeyond}
use Rattle.alias_follow.specs.declared.unit.Followed.{Followed}
use Rattle.alias_certificate_laws.specs.text.Certifying.{effects_in, ends_in, cert_temporary}

-- ---- blocks

-- nothing is told of a block of which nothing is known
abbrev pub told_beyond : Option Beyond → Beyond
told_beyond None = nothing_beyond
told_beyond (Some b) = b

-- what the entry state of a block has beyond what arrived, and the block's effects
abbrev pub told_block : HirFunction → Option Beyond → BlockEntry → CertBlock
told_block func b e =
    let block = value_at func.body.blocks e.block in
    record {
      block = e.block;
      values = (told_beyond b).values;
      variables = (told_beyond b).variables;
      effects = effects_in func.instructions block;
      end = ends_in block;
    }

-- the blocks one after the other. What is beyond of the first stands at this position
abbrev pub told_blocks_from : HirFunction → List Beyond → ℕ → List BlockEntry → List CertBlock
told_blocks_from func beyond n [] = []
told_blocks_from func beyond n (e ∷ es) = told_block func (slice_get beyond n) e
    ∷ told_blocks_from func beyond (n + 1) es

-- a function that isn't there has no blocks
abbrev pub told_blocks : Option HirFunction → FunctionBeyond → List BlockEntry → List CertBlock
told_blocks None b entries = []
told_blocks (Some func) b entries = told_blocks_from func b.blocks 0 entries

-- ---- functions

-- the temporaries of a function that isn't forward
abbrev pub told_temporaries : Bool → List Temporary → List CertTemporary
told_temporaries true ts = []
told_temporaries false ts = map cert_temporary ts

-- `summary` is that of the root
abbrev pub told_function : HirUnit → List AliasingEffect → Solved → FunctionBeyond → CertFunction
told_function u summary s b =
    record {
      function = s.function;
      blocks = told_blocks (function_of u s.function) b s.entries;
      temporaries = told_temporaries b.is_forward s.temporaries;
      summary = map effect_text (summary_of u summary s.function);
    }

-- a function of which nothing is known isn't told
abbrev pub told_if_known : HirUnit → List AliasingEffect → Solved → Option FunctionBeyond → List CertFunction
told_if_known u summary s None = []
told_if_known u summary s (Some b) = told_function u summary s b ∷ []

-- the functions in their order. What is beyond in the first stands at this position
abbrev pub told_from : HirUnit → List AliasingEffect → List FunctionBeyond → ℕ → List Solved → List CertFunction
told_from u summary beyond n [] = []
told_from u summary beyond n (s ∷ solved) = told_if_known u summary s (slice_get beyond n)
    ++ told_from u summary beyond (n + 1) solved

-- what follows for a unit, as a certificate
abbrev pub told : Followed → Certificate
told f = record { functions = told_from f.inferred.unit f.inferred.summary f.beyond 0 f.inferred.solved }
