use Rattle.std.proofs.Common.{arith}
use Rattle.alias_text.proofs.Fits.{all_taken}
use Rattle.alias_text.specs.Certificates.{spaced_site}
use Rattle.alias_text.specs.Fitting.{SmallSite}
use Rattle.alias_brief.proofs.Listing.{item_more}
use Rattle.alias_brief.proofs.briefs.push_sites.Goals as goal

pub loop-site-preserved : goal.loop-site-preserved
loop-site-preserved c =
    let l = c.loop-site in
    item_more SmallSite spaced_site c.args.sites.now l.site-index _ l.out c.push_spaced_site.new.out c.args.out.now
    c.loop-site-test.true l.invariant.0 l.invariant.1 c.in_ok-push_spaced_site.ensures.fits
    c.in_ok-push_spaced_site.ensures.text

pub returns-clause-fits : goal.returns-clause-fits
returns-clause-fits c = all_taken SmallSite c.args.sites.now c.loop-site.site-index
    (omega (arith, c.loop-site-test.false)) c.loop-site.invariant.1
