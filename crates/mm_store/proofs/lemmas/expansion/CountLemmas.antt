-- Items are no more than bytes.
use Rattle.std.proofs.{lemmas.{Grind.{common_steps}, List.{length-map}}, Common.{ℕ, suc, ◌+◌, ◌≤◌, Bool, if◌then◌else◌, List, [], ◌∷◌, ◌++◌, length, ap, arith, length-append}}
use Rattle.std.specs.List.{flat_map, concat}
use Rattle.mm_text.specs.Language.{Run.{Run, runs, runs_from, with_first_byte, is_white, ends_run}, Reading.{Single, Comment, segment_words, segment_runs}}
use Rattle.mm_text.specs.Language.{Unit.{Units, Nothing, Simple, Block, unit_tokens, token_of}, Part.{parts_of}}
use Rattle.mm_store.{specs.Language.{FilesView.{PieceView, piece_texts}, Expansion.{Placed, ArePartsOf, ArePlaced}}, proofs.lemmas.expansion.NameLemmas.{named_are}}
use Rattle.mm_text.specs.Language.Reading as reading

run_count : (w e : Bool) (at b n : ℕ) (run : Run) (runs : List Run) → length runs ≤ n → length (if w then runs else if e then run ∷ runs else with_first_byte at b runs) ≤ suc n
run_count w e at b n run runs h = grind (arith, common_steps) steps 200000

runs_few : (at : ℕ) (bytes : List ℕ) → length (runs_from at bytes) ≤ length bytes
runs_few at [] = omega arith
runs_few at (b ∷ bytes) = run_count (is_white b) (ends_run bytes) at b (length bytes) (record { start = at; bytes = b ∷ [] }) (runs_from (at + 1) bytes) (runs_few (at + 1) bytes)

words_in_parts : (parts : List reading.Segment) → length (flat_map segment_words parts) ≤ length (flat_map segment_runs parts)
words_in_parts [] = omega arith
words_in_parts (Single run word ∷ parts) = omega (arith, words_in_parts parts)
words_in_parts (Comment first inside last ∷ parts) = grind (arith, common_steps, words_in_parts parts, length-append (first ∷ (inside ++ last ∷ [])) (flat_map segment_runs parts)) steps 200000

parts_few : (units : Units) → length (parts_of units) ≤ length (unit_tokens units)
parts_few Nothing = omega arith
parts_few (Simple shape later) = grind (arith, common_steps, parts_few later, length-append) steps 200000
parts_few (Block begin inner end later) = grind (arith, common_steps, parts_few inner, parts_few later, length-append) steps 200000

of_piece : (file n : ℕ) (piece : PieceView) (placed : List Placed) → ArePartsOf file n piece placed → length placed ≤ length piece.text
of_piece file n piece placed are =
    grind (arith, common_steps, length-map are.words (token_of piece.text), length-map, named_are are.units, parts_few are.units, runs_few, words_in_parts) steps 200000

pub placed_few : (file n : ℕ) (pieces : List PieceView) (placed : List Placed) → ArePlaced file n pieces placed → length placed ≤ length (concat (piece_texts pieces))
placed_few file n [] placed are = omega (arith, ap length are)
placed_few file n (piece ∷ pieces) placed are =
    omega (arith, of_piece file n piece are.0 are.2, placed_few file (n + 1) pieces are.1 are.3, ap length are.4, length-append are.0 are.1, length-append piece.text (concat (piece_texts pieces)))
