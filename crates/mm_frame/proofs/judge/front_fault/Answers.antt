use Rattle.std.proofs.Common.{rules}
use Rattle.mm_frame.proofs.judge.front_fault.Goals.{else-matches-via-then-matches+else-is_inside, else-matches-via-else-matches}
use Rattle.mm_frame.proofs.judge.front_fault.Goals as goal

pub returns-then-is_inside : goal.returns-then-is_inside
returns-then-is_inside c before h k = let inside = c.is_inside.ensures c.args.names.now before h k in search rules

pub returns-in_err-label : goal.returns-in_err-label
returns-in_err-label c before h k = elim c.else-matches.branch [
  | else-matches-via-then-matches+else-is_inside w ↦ (let inside = w.is_inside.ensures c.args.names.now before h k in search rules)
  | else-matches-via-else-matches w ↦ search rules
]
