use Rattle.alias_brief.proofs.briefs.push_entry.Goals as goal

pub returns-clause-fits : goal.returns-clause-fits
returns-clause-fits c = record {
  block = c.in_ok-push_block_head.ensures.fits;
  beyond = c.in_ok-push_beyond.ensures.fits;
  instructions = c.in_ok-push_block_lines.ensures.fits;
}
