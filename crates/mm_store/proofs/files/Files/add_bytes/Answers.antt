use Rattle.std.proofs.{lemmas.Grind.{common_steps}, Common.{length, sym, ap, ◌∙◌, arith}}
use Rattle.mm_store.proofs.lemmas.{files.AddLemmas.{bytes_more}, edits.EditLemmas.{if_err}}
use Rattle.mm_store.proofs.files.Files.add_bytes.Goals as goal

pub put_last-requires-clause-counted : goal.put_last-requires-clause-counted
put_last-requires-clause-counted c = (rw c.as_slice.ensures at c.ended_len-more.ensures) ∙ sym (ap length c.in_ok-cut.ensures.cut.joined)

pub returns-in_err-cut-clause-fault_within : goal.returns-in_err-cut-clause-fault_within
returns-in_err-cut-clause-fault_within c = grind (arith, common_steps, if_err) steps 200000

pub returns-clause-within : goal.returns-clause-within
returns-clause-within c = grind (arith, common_steps, bytes_more) steps 200000
