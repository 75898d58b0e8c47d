use Rattle.std.proofs.Common.{rules}
use Rattle.mm_store.proofs.lemmas.places.StartLemmas.{starts_stay}
use Rattle.mm_store.proofs.file_text.FileText.hold_one.Goals as goal

pub returns-clause-keys : goal.returns-clause-keys
returns-clause-keys c pieces = record {
  items = search rules;
  starts = search (rules, starts_stay);
  room = search rules;
  tail = search rules;
}
