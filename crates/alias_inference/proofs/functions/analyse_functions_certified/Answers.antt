use Rattle.alias_inference.proofs.Following.{certified_operands, certified_blames, certified_complete}
use Rattle.alias_inference.proofs.Following.{certified_applies}
use Rattle.alias_inference.proofs.functions.analyse_functions_certified.Goals as goal

pub returns-clause-operands : goal.returns-clause-operands
returns-clause-operands g c = let a = c.analyse_functions_certified in
    certified_operands g.P.InnerPasses.keeps_all c.args.func.now c.args.env.now a.result a.new.env a.ensures.answer

pub returns-clause-blames : goal.returns-clause-blames
returns-clause-blames g c = let a = c.analyse_functions_certified in
    λ ordered. certified_blames c.args.func.now c.args.env.now c.requires.fits ordered g.P.InnerPasses.keeps_all
    a.result a.new.env a.ensures.answer

pub returns-clause-complete : goal.returns-clause-complete
returns-clause-complete g c = let a = c.analyse_functions_certified in
    λ keeps_all ordered none. certified_complete c.args.func.now c.args.env.now c.requires.fits ordered a.result
    a.new.env (a.ensures.exact keeps_all)
    (certified_applies g.P.InnerPasses.keeps_all c.args.func.now c.args.env.now c.requires.fits none a.result
    a.new.env a.ensures.answer)
    (certified_operands g.P.InnerPasses.keeps_all c.args.func.now c.args.env.now a.result a.new.env a.ensures.answer)

pub returns-clause-applies : goal.returns-clause-applies
returns-clause-applies g c = let a = c.analyse_functions_certified in
    λ none. certified_applies g.P.InnerPasses.keeps_all c.args.func.now c.args.env.now c.requires.fits none
    a.result a.new.env a.ensures.answer
