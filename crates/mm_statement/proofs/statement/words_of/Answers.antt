use Rattle.std.proofs.{lemmas.Grind.{common_steps}, Common.{arith, length-take, length-drop}}
use Rattle.mm_statement.proofs.PieceLemmas.{has_words, ends_within, has_one, same_item, said_is}
use Rattle.mm_statement.proofs.statement.words_of.Goals as goal

pub slice_bounds-text-end : goal.slice_bounds-text-end
slice_bounds-text-end c = grind (arith, common_steps, ends_within c.args.files.now c.args.item.now c.piece.result.now c.requires c.piece.ensures.text) steps 200000

pub new-requires : goal.new-requires
new-requires c = (c.requires.words, has_words c.args.files.now c.args.item.now c.piece.result.now c.requires c.piece.ensures.text)

pub returns : goal.returns
returns c =
    let r = c.requires in
    let words = c.new.ensures.only r.words (has_words c.args.files.now c.args.item.now c.piece.result.now r c.piece.ensures.text) in
    record {
      words = grind (arith, common_steps, has_one, has_words, length-drop, length-take) steps 200000;
      says = record { read = r; is = same_item c.args.files.now c.args.item.now c.piece.result.now r c.piece.ensures.text c.new.result.words words };
      only = λ said says. said_is c.args.files.now c.args.item.now c.piece.result.now c.piece.ensures.text c.new.result.words c.new.ensures.only said says;
    }
