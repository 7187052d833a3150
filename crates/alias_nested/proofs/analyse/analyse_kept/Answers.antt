use Rattle.alias_nested.specs.Analysis.{analysis}
use Rattle.alias_nested.proofs.Answering.{leads_exactly}
use Rattle.alias_nested.proofs.analyse.analyse_kept.Goals as goal

pub returns-clause-run : goal.returns-clause-run
returns-clause-run g c =
    λ fs a. leads_exactly g.P.InnerPasses.keeps_all c.requires.keeps_all 63 c.args.func.now (analysis c.args.env.now fs)
    c.analyse_created.result c.analyse_created.new.env c.analyse_created.new.solved
    (c.analyse_created.ensures.run fs a)
