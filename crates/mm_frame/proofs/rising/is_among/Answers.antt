use Rattle.std.proofs.Common.{◌∙◌}
use Rattle.mm_frame.proofs.lemmas.lists.Rising.{among_found}
use Rattle.mm_frame.proofs.rising.is_among.Goals as goal

pub returns : goal.returns
returns c rising = c.is_ok.ensures.value ∙ among_found c.args.numbers.now c.args.number c.binary_search.result c.binary_search.ensures.position rising
