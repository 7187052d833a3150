use Rattle.std.proofs.Common.{◌≡◌, ◌+◌, ◌≤◌, length}
use Rattle.std.specs.Prelude.{IsUtf8}
use Rattle.alias_brief.specs.Differences.{whole_lines, difference_from}
use Rattle.alias_brief.proofs.difference.difference_between.Given as goal

abbrev pub invariant-lines : goal.invariant-lines
invariant-lines l =
    record {
      few : l.number + length l.left ≤ length l.initial.left + 1;
      so_far : difference_from 1 (whole_lines l.initial.expected_left) (whole_lines l.initial.left)
          ≡ difference_from l.number (whole_lines l.expected_left) (whole_lines l.left);
      is_text : IsUtf8 l.expected_left;
    }

abbrev pub decreases-lines : goal.decreases-lines
decreases-lines l = length l.left
