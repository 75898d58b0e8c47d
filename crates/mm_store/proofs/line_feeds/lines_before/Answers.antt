use Rattle.std.proofs.{Common.{rules}, Math.Seq.{take-add}}
use Rattle.mm_store.proofs.line_feeds.lines_before.Goals as goal

pub returns : goal.returns
returns c = search (rules, take-add)
