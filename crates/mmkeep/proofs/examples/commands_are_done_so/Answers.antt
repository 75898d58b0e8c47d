use Rattle.std.proofs.Common.{rules}
use Rattle.mmkeep.proofs.ExampleLemmas.{axioms_lists, gives_words, has_these_words, has_this_status, is_cut_there, is_in_order_then, reads_nothing, session_ends, verify_finds}
use Rattle.mmkeep.proofs.examples.commands_are_done_so.Goals as goal

pub returns : goal.returns
returns c = search (rules, axioms_lists, gives_words, has_these_words, has_this_status, is_cut_there, is_in_order_then, reads_nothing, session_ends, verify_finds)
