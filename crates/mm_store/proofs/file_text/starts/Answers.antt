use Rattle.std.proofs.{Common.{rules, ◌≡◌, ℕ, ◌<◌, [], List, length, map, get_or, sym, ap, ◌∙◌, length-append}, lemmas.List.{length-map, get_or-map}}
use Rattle.mm_store.{specs.declared.piece_text.PieceText.{PieceText}, proofs.lemmas.places.PlaceLemmas.{each_more, concat_one, piece_within}}
use Rattle.mm_store.proofs.file_text.starts.Goals as goal

abbrev text_of_piece : PieceText → List ℕ
text_of_piece piece = piece.text

-- the text of the piece that is come to
text_here : (pieces : List PieceText) (n : ℕ) (piece : PieceText) → n < length pieces → piece ≡ get_or pieces n piece → get_or (map text_of_piece pieces) n [] ≡ piece.text
text_here pieces n piece h is = get_or-map text_of_piece pieces n piece [] h ∙ ap text_of_piece (sym is)

pub behind-start-requires-clause-small : goal.behind-start-requires-clause-small
behind-start-requires-clause-small c = search (rules, length-map, piece_within, text_here)

pub loop-piece-preserved : goal.loop-piece-preserved
loop-piece-preserved c = search (rules, concat_one, each_more, length-append, length-map, text_here)

pub returns : goal.returns
returns c = search (rules, each_more, length-append, length-map)
