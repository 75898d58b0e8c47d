use Rattle.std.proofs.{Common.{arith, map}, lemmas.{Grind.{common_steps}, List.{map-append}}}
use Rattle.mm_store.{specs.Language.{FilesView.{plain}, Keyless.{bare, keyless_item}}, proofs.lemmas.expansion.{ExpansionLemmas.{expansion_names_one, expansion_one}, StandingLemmas.{one_stands}}}
use Rattle.mm_store.proofs.lemmas.{expansion.KeylessLemmas.{expansion_bare}, files.GrowthLemmas.{stands_kept, walk_kept}}
use Rattle.mm_store.proofs.laws.walks_go_on.Goals as goal

pub returns : goal.returns
returns c = record {
  added = grind (arith, common_steps, map-append, walk_kept) steps 200000;
  stands = grind (arith, common_steps, map-append, stands_kept) steps 200000;
  one = λ files walk a b first second. one_stands c.one_meaning.ensures.words c.one_division.ensures.units files walk walk b second a first;
  names = expansion_names_one c.one_meaning.ensures.words c.one_division.ensures.units;
  end = λ files top items others is other. expansion_one c.one_meaning.ensures.words c.one_division.ensures.units (bare (plain files)) top others (map keyless_item items) other (expansion_bare files top items is);
}
