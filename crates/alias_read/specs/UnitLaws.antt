-- What follows for a unit that was read.
use Rattle.std.specs.Prelude.{◌≡◌, ℕ, List, Some}
use Rattle.std.proofs.Common.{sym, ◌∙◌}
use Rattle.serde_json.specs.Data.{Data}
use Rattle.alias_read.specs.Units.{IsReading}

-- bytes have one reading at most
pub one_reading : (bytes : List ℕ) (d e : Data) → IsReading bytes d → IsReading bytes e → d ≡ e
one_reading bytes d e r s = let both : Some d ≡ Some e = sym r.tree ∙ s.tree in cc
