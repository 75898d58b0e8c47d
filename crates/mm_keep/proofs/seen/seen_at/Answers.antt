use Rattle.std.proofs.{lemmas.Grind.{common_steps}, Common.{◌∙◌, ap, slice_range, arith}}
use Rattle.mm_keep.{specs.Code.KeyedTold.{word_start, word_spelling}, proofs.SpotLemmas.{item_text, item_within, item_words}}
use Rattle.mm_keep.proofs.seen.seen_at.Goals as goal

pub slice_bounds-text-end : goal.slice_bounds-text-end
slice_bounds-text-end c = grind (arith, common_steps, item_within c.args.files.now c.args.item.now c.requires.read c.piece.result.now c.piece.ensures.text) steps 200000

pub nth_word-found-requires : goal.nth_word-found-requires
nth_word-found-requires c = grind (arith, common_steps, item_words c.args.files.now c.args.item.now c.requires.read c.piece.result.now c.piece.ensures.text) steps 200000

pub returns : goal.returns
returns c =
    let files = c.args.files.now in
    let item = c.args.item.now in
    let piece = c.piece.result.now in
    let read = c.requires.read in
    let word = c.nth_word-found.ensures.nth read.words (item_words files item read piece c.piece.ensures.text) in
    let place = c.place_in.ensures c.args.word 0 read (omega (arith, c.start_of.ensures ∙ ap word_start word)) in
    let shown = place.is_byte.read in
    let found = c.nth_word-found.ensures.nth shown.words (item_words files item shown piece c.piece.ensures.text) in
    record { has_place = place; is_word = c.spelled.ensures ∙ (λ i. word_spelling (slice_range (item_text files item shown piece c.piece.ensures.text i) item.start item.end) (found i)) }
