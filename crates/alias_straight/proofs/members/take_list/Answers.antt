use Rattle.alias_straight.proofs.Listing.{list_there, list_absent}
use Rattle.alias_straight.proofs.members.take_list.Goals as goal

pub returns-in-Some : goal.returns-in-Some
returns-in-Some g c = list_there g.T.FromJson.reads c.args.depth _ _ c.args.key.now c.in_ok-found.found c.in-Some.list
    c.in-Some.is c.in_ok-found.ensures

pub returns-in-None : goal.returns-in-None
returns-in-None g c = rw c.new.ensures (list_absent g.T.FromJson.reads c.args.depth _ _ c.args.key.now
    c.in_ok-found.found c.in-None.is c.in_ok-found.ensures)
