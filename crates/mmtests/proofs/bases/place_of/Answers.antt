use Rattle.std.{proofs.{Common.{◌+◌, Some, refl, sym, ap, ◌∙◌, arith}, lemmas.Option.{slice_get-map}}, specs.Option.{option_map}}
use Rattle.mm_report.specs.mm_store.Language.{FileFacts.{piece_offset}, FilesView.{plain_file, text_of}, Pieces.{text_in, text_under}}
use Rattle.mmtests.proofs.bases.place_of.Goals as goal

pub place-requires : goal.place-requires
place-requires c =
    let files = c.args.files.now in
    let item = c.args.item.now in
    let read = c.requires.read in
    let stands = c.requires.stands in
    let file = plain_file files.pieces stands.file in (
      text_of file,
      piece_offset file item.piece + item.start,
      record {
        file = file;
        there = slice_get-map (plain_file files.pieces) files.keyed item.file ∙ ap (option_map (plain_file files.pieces)) stands.there;
        is_text = refl;
        bytes = read.text;
        is_piece = slice_get-map (text_under files.pieces) stands.file.keys item.piece ∙ ap (option_map (text_under files.pieces)) stands.is_key ∙ ap Some (ap text_in read.live.held ∙ sym read.live.is_text);
        within = omega (arith, read.some, read.within);
        is_offset = refl;
      },
    )
