use Rattle.std.proofs.Common.{rules}
use Rattle.mm_text.proofs.KindLemmas.{keyword_run_len}
use Rattle.mm_text.proofs.spelling.keyword_run.Goals as goal

pub returns-in-36-clause-len : goal.returns-in-36-clause-len
returns-in-36-clause-len c = keyword_run_len c.args.bytes.now c.keyword_of.result c.in-36.len_at_least (search rules) (search rules) c.keyword_of.ensures
