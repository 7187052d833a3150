use Rattle.alias_range_pass.specs.summary.WalkLaws.{listing_covers, listing_causes}
use Rattle.alias_range_pass.proofs.summary.walking.walk_listing.Goals as goal

pub returns-clause-cover : goal.returns-clause-cover
returns-clause-cover c =
    listing_covers c.args.should_record_errors c.args.listing.now c.args.env.now c.args.graph.now c.walk_all.new.env
    c.requires.fits c.requires.graph c.in_ok-walk_all.ensures.env

pub returns-clause-cause : goal.returns-clause-cause
returns-clause-cause c =
    listing_causes c.args.should_record_errors c.args.listing.now c.args.env.now c.args.graph.now c.walk_all.new.env
    c.requires.graph c.in_ok-walk_all.ensures.env
