use Rattle.std.proofs.Common.{◌+◌, refl}
use Rattle.mm_proof.specs.mm_store.Language.{FilesView.{plain_file, text_of}, FileFacts.{piece_offset}}
use Rattle.mm_keep.proofs.SpotLemmas.{own_text, placed_in, word_is_byte}
use Rattle.mm_keep.proofs.seen.place_in.Goals as goal

pub place-line-requires : goal.place-line-requires
place-line-requires c =
    let files = c.args.files.now in
    let item = c.args.item.now in
    let stands = c.requires.stands in
    let file = plain_file files.pieces stands.file in
    let at = item.start + (c.args.word + c.args.letter) in
    (text_of file, piece_offset file item.piece + at, word_is_byte files item c.requires.read c.requires.read.text (own_text files item c.requires.read) stands at c.requires.within)

pub returns : goal.returns
returns c =
    let files = c.args.files.now in
    let item = c.args.item.now in
    let stands = c.requires.stands in
    let file = plain_file files.pieces stands.file in
    let offset = piece_offset file item.piece + (item.start + (c.args.word + c.args.letter)) in
    let byte = word_is_byte files item c.requires.read c.requires.read.text (own_text files item c.requires.read) stands (item.start + (c.args.word + c.args.letter)) c.requires.within in
    placed_in files item stands (c.args.word + c.args.letter) _ refl (c.place-line.ensures.line (text_of file) offset byte) (c.place-line.ensures.column (text_of file) offset byte) c.requires.within
