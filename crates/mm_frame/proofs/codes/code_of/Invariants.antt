use Rattle.std.proofs.Common.{◌≡◌, ◌≤◌, length, drop, true}
use Rattle.mm_frame.specs.Code.Codes.{are_ascii, bytes_code}
use Rattle.mm_frame.proofs.codes.code_of.Given as goal

abbrev pub invariant-loop-left : goal.invariant-loop-left
invariant-loop-left l = (l.left ≤ length l.bytes) × (l.code ≡ bytes_code (drop l.left l.bytes)) × (are_ascii (drop l.left l.bytes) ≡ true)

abbrev pub decreases-loop-left : goal.decreases-loop-left
decreases-loop-left l = l.left
