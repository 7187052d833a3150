use Rattle.serde_json.specs.Data.{depth}
use Rattle.alias_json.specs.Tree.{view}
use Rattle.alias_read.proofs.types.+read_type.Given as goal

abbrev pub decreases-read_type : goal.decreases-read_type
decreases-read_type l = depth (view l.value.now)
