-- The certificate of what is inferred of a unit is accepted.
use Rattle.alias_certified_laws.proofs.Names.{names_there}
use Rattle.alias_certified_laws.proofs.Printing.{prints}
use Rattle.alias_certified_laws.specs.Names.{NamesAreThere}
use Rattle.alias_certified_laws.specs.Printed.{PrintsWhatIsSaid}
use Rattle.alias_range_alike_laws.proofs.Ranging.{ranges_nearby}
use Rattle.alias_range_alike_laws.proofs.Spanning.{reads_no_span}
use Rattle.alias_range_alike_laws.specs.Ranging.{RangePassIsNearlyAlike}
use Rattle.alias_accepted_laws.proofs.Passing.{passes_followed}
use Rattle.alias_accepted_laws.proofs.Ranging.{ranges_followed}
use Rattle.alias_accepted_laws.proofs.Reading.{reads_are_set}
use Rattle.alias_accepted_laws.proofs.Unspanned.{spans_not_read}
use Rattle.alias_accepted_laws.proofs.Whole.{certificates_accepted}
use Rattle.alias_accepted_laws.specs.Complete.{CertificatesAreAccepted}

there : NamesAreThere
there env func e w fits ends = names_there env func e w fits ends

said : PrintsWhatIsSaid
said env func e w fits instructions terminals ends = prints env func e w fits ends instructions terminals

nearby : RangePassIsNearlyAlike
nearby env o f g b r carries answers = ranges_nearby env o f b r g carries answers

pub certificates_are_accepted : CertificatesAreAccepted
certificates_are_accepted = certificates_accepted said (passes_followed there spans_not_read) reads_are_set
    (ranges_followed nearby reads_no_span)
