use Rattle.alias_cause_laws.proofs.handed.Capturing.{created_summarized}
use Rattle.alias_cause_laws.proofs.handed.capture_laws.Goals as goal

pub returns : goal.returns
returns c = created_summarized c.args.unit.now
