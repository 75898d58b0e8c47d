use Rattle.std.proofs.Common.{rules}
use Rattle.mm_store.proofs.lemmas.edits.{AnswerLemmas.{some_answer}, EditLawLemmas.{one_after}, ReasonLemmas.{one_reason}, RefusalLemmas.{not_refused}}
use Rattle.mm_store.proofs.laws.one_edit.Goals as goal

pub returns : goal.returns
returns c = search (rules, some_answer c.one_cut.ensures.some, one_reason c.one_cut.ensures.not_both c.one_cut.ensures.cut c.one_cut.ensures.fault, one_after, not_refused) steps 500000
