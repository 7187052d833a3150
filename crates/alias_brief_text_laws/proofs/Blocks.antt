-- The lines of a block read back.
use Rattle.std.proofs.Common.{ℕ, zero, suc, ◌+◌, ◌≤◌, List, [], ◌∷◌, ◌++◌, Option, refl, ap, sym}
use Rattle.std.proofs.Common.{arith, append_assoc, append-nil}
use Rattle.std.specs.Prelude.{slice_get}
use Rattle.std.specs.List.{AllByRecursion}
use Rattle.alias_base.specs.Find.{value_at}
use Rattle.alias_base.specs.declared.ids.FunctionId.{FunctionId}
use Rattle.alias_hir.specs.declared.hir.HirFunction.{HirFunction}
use Rattle.alias_effects.specs.declared.solved.BlockEntry.{BlockEntry}
use Rattle.alias_text.specs.Lines.{block_head, block_lines}
use Rattle.alias_certificate.specs.declared.beyond.Beyond.{Beyond}
use Rattle.alias_certificate.specs.declared.certificate.CertBlock.{CertBlock}
use Rattle.alias_certificate.specs.declared.certificate.CertFunction.{CertFunction}
use Rattle.alias_cert_text.specs.declared.line.Line.TheVariants as line
use Rattle.alias_cert_text.specs.declared.order.Place.{Place}
use Rattle.alias_cert_text.specs.declared.order.Place.TheVariants.{Block}
use Rattle.alias_cert_text.specs.Certificates.{with_line, bare_block}
use Rattle.alias_cert_text.specs.Order.{rank}
use Rattle.alias_brief.specs.Briefs.{entry_text, beyond_or, blocks_from}
use Rattle.alias_brief.specs.Fitting.{FittingBlock, FittingFrom}
use Rattle.alias_brief_text_laws.specs.Orderly.{Orderly}
use Rattle.alias_brief_text_laws.specs.Telling.{told_beyond, told_block, told_blocks_from}
use Rattle.alias_certificate_laws.proofs.text.Leading.{Reaches, follows_by, reaches_line, reaches_none, reaches_both}
use Rattle.alias_certificate_laws.proofs.text.Leading.{reaches_as}
use Rattle.alias_certificate_laws.proofs.text.Leading.{reaches_wider}
use Rattle.alias_certificate_laws.proofs.text.Spelling.{block_spelled}
use Rattle.alias_certificate_laws.proofs.text.Blocks.{in_blocks, in_block, begun, reaches_block_lines}
use Rattle.alias_brief_text_laws.proofs.States.{OrderlyMore, reaches_more}

-- ---- the parts of a block, one by one

module _ (done : List CertFunction) (f : Option FunctionId) (bs : List CertBlock) where
  -- a block with these parts
  abbrev holding : CertBlock → List CertFunction
  holding b = in_block done f bs b

  reaches_entry : (func : HirFunction) (o : Option Beyond) (e : BlockEntry) → FittingBlock func o e
      → OrderlyMore o → (last : Place) → 1 ≤ rank last → rank last ≤ 7
      → Reaches last (in_blocks done f bs) (entry_text func o e) (in_blocks done f (bs ++ told_block func o e ∷ [])) 1 7
  reaches_entry func o e h orderly last l m =
      let block = value_at func.body.blocks e.block in
      let bare = bare_block e.block in
      let entered = record bare { values = (told_beyond o).values; variables = (told_beyond o).variables } in
      reaches_both last (in_blocks done f bs) (holding entered) _ (block_head e.block ++ beyond_or o)
      (block_lines func.instructions block) 3 5 1 7
      (reaches_both last (in_blocks done f bs) (holding bare) (holding entered) (block_head e.block) (beyond_or o) 3 3 3
      5
      (reaches_as last (in_blocks done f bs) (with_line (line.Block e.block) (in_blocks done f bs)) (holding bare)
      (block_head e.block) 3 3
      (reaches_line last (in_blocks done f bs) (block_head e.block) (line.Block e.block) 3 3
      (block_spelled e.block h.block) (follows_by last Block l m refl) (omega arith) (omega arith))
      (begun done f bs e.block))
      (λ p pl pm. reaches_more done f bs o h.beyond orderly bare refl refl p pl pm))
      (λ p pl pm. reaches_wider p (holding entered) _ (block_lines func.instructions block) 3 7 1 7 (omega arith)
      (omega arith)
      (reaches_block_lines done f bs func.instructions block h.instructions entered p pl (omega (arith, pm))))

orderly_at : (beyond : List Beyond) → AllByRecursion Orderly beyond → (n : ℕ) → OrderlyMore (slice_get beyond n)
orderly_at [] h n = tt
orderly_at (m ∷ beyond) h zero = h.0
orderly_at (m ∷ beyond) h (suc n) = orderly_at beyond h.1 n

module _ (done : List CertFunction) (f : Option FunctionId) (func : HirFunction)
    (beyond : List Beyond) (orderly : AllByRecursion Orderly beyond) where
  pub reaches_entries : (n : ℕ) (entries : List BlockEntry) → FittingFrom func beyond n entries
      → (bs : List CertBlock) (last : Place) → 1 ≤ rank last → rank last ≤ 7
      → Reaches last (in_blocks done f bs) (blocks_from func beyond n entries)
      (in_blocks done f (bs ++ told_blocks_from func beyond n entries)) 1 7
  reaches_entries n [] h bs last l m =
      reaches_as last (in_blocks done f bs) (in_blocks done f bs) _ [] 1 7
      (reaches_none last (in_blocks done f bs) 1 7 l m) (ap (in_blocks done f) (sym (append-nil bs)))
  reaches_entries n (e ∷ es) h bs last l m =
      let o = slice_get beyond n in
      let more = bs ++ told_block func o e ∷ [] in
      let rest = told_blocks_from func beyond (n + 1) es in
      reaches_as last (in_blocks done f bs) (in_blocks done f (more ++ rest)) _ (blocks_from func beyond n (e ∷ es)) 1 7
      (reaches_both last (in_blocks done f bs) (in_blocks done f more) (in_blocks done f (more ++ rest))
      (entry_text func o e) (blocks_from func beyond (n + 1) es) 1 7 1 7
      (reaches_entry done f bs func o e h.0 (orderly_at beyond orderly n) last l m)
      (λ p pl pm. reaches_entries (n + 1) es h.1 more p pl pm))
      (ap (in_blocks done f) (append_assoc bs (told_block func o e ∷ []) rest))
