use Rattle.alias_brief_text_laws.proofs.Following.{unit_orderly}
use Rattle.alias_brief_text_laws.proofs.Whole.{read_back}
use Rattle.alias_brief_text_laws.proofs.laws.briefs_read_back.Goals as goal

pub returns : goal.returns
returns c =
    λ given u x h fits utf8. read_back x.followed fits (unit_orderly given u x h fits) utf8
