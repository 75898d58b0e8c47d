use Rattle.std.proofs.Common.{sym, ap, ◌∙◌}
use Rattle.mm_text.proofs.PieceLemmas.{ends_as_last, white_or_none}
use Rattle.mm_text.proofs.spelling.ends_white.Goals as goal

pub returns-in-Some : goal.returns-in-Some
returns-in-Some c = c.is_white_space.ensures ∙ sym (ends_as_last c.args.bytes.now ∙ ap white_or_none (sym c.in-Some.ensures.value))

pub returns-in-None : goal.returns-in-None
returns-in-None c = sym (ends_as_last c.args.bytes.now ∙ ap white_or_none (sym c.in-None.ensures.value))
