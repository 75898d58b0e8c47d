use Rattle.std.proofs.{Common.{sym, ◌∙◌}, lemmas.List.Sums.{AllPass-from_list_all}}
use Rattle.mm_text.{specs.Language.Reading.{is_allowed}, proofs.PieceUnitLemmas.{all_allowed}}
use Rattle.mm_text.proofs.whole_text.first_bad_byte.Goals as goal

pub returns-then-is_all_text : goal.returns-then-is_all_text
returns-then-is_all_text c = sym (all_allowed c.args.text.now (AllPass-from_list_all is_allowed c.args.text.now (sym c.is_all_text.ensures ∙ c.if-is_all_text.true)))
