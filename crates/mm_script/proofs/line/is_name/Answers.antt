use Rattle.mm_script.proofs.LineLemmas.{is_name_by, none_by, some_by}
use Rattle.mm_script.proofs.line.is_name.Goals as goal

pub returns-then-not-is_empty-clause-yes : goal.returns-then-not-is_empty-clause-yes
returns-then-not-is_empty-clause-yes c = λ yes. is_name_by c.args.word.now (some_by c.args.word.now (c.if-not-is_empty.ensures)) (c.cut_at_space.ensures.none (none_by c.cut_at_space.result c.is_none.result c.is_none.ensures yes)) c.requires
