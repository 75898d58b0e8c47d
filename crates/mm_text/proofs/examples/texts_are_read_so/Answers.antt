use Rattle.mm_text.proofs.ExampleLemmas.{cuts_nothing, has_five_words, has_three_members, have_their_faults, hold_one_unit_each, is_cut_in_two, misses_end, name_and_bring, sort_bytes}
use Rattle.mm_text.proofs.ExampleLemmas.{stands_in_second_line}
use Rattle.mm_text.proofs.examples.texts_are_read_so.Goals as goal

pub returns : goal.returns
returns c = record {
  words = has_five_words;
  place = stands_in_second_line;
  fault = misses_end;
  faults = have_their_faults;
  bytes = sort_bytes;
  members = has_three_members;
  edits = name_and_bring;
  units = hold_one_unit_each;
  cut = is_cut_in_two;
  nothing = cuts_nothing;
}
