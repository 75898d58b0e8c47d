use Rattle.mm_script.proofs.ScriptExampleLemmas.{bound_words, cuts_batch, cuts_batch_text, cuts_feed, cuts_line, cuts_text, ends_at_line, ends_at_text, ends_in_edit, grows_by_two, has_two_commands}
use Rattle.mm_script.proofs.ScriptExampleLemmas.{reads_batch, reads_last_edit, reads_text, tells_writer, waits_for_feed}
use Rattle.mm_script.proofs.laws.scripts_are_read_so.Goals as goal

pub returns : goal.returns
returns c = record {
  text = reads_text;
  batch = reads_batch;
  last_edit = reads_last_edit;
  cut_text = cuts_text;
  cut_feed = cuts_feed;
  cut_line = cuts_line;
  cut_batch = cuts_batch;
  cut_batch_text = cuts_batch_text;
  bad_edit = ends_in_edit;
  bad_line = ends_at_line;
  bad_text = ends_at_text;
  feed = waits_for_feed;
  commands = has_two_commands;
  bounds = bound_words;
  written = grows_by_two;
  writer = tells_writer;
}
