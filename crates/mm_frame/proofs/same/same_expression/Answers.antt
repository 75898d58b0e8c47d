use Rattle.std.proofs.{Common.{arith}, lemmas.Grind.{common_steps}}
use Rattle.mm_frame.proofs.lemmas.frames.SameLemmas.{numbers_from_readings}
use Rattle.mm_frame.proofs.same.same_expression.Goals as goal

pub returns : goal.returns
returns c names base copy is are s t =
    let mine = c.known_expression.ensures.symbols names base is s in
    let yours = c.known_expression-2.ensures.symbols names copy are t in
    let same = c.same_symbols.ensures in
    grind (arith, common_steps, same.0, c.known_expression.ensures.numbered names base is, c.known_expression-2.ensures.numbered names copy are, numbers_from_readings) steps 200000
