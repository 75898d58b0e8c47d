use Rattle.std.proofs.{lemmas.Grind.{common_steps}, Common.{◌+◌, ◌∙◌, sym, ap, arith}}
use Rattle.mm_proof.specs.mm_frame.Language.Base.{said_at}
use Rattle.mm_keep.{specs.{Language.WordPlaces.{proof_word}, Code.KeyedTold.{word_start}}, proofs.{ToldLemmas.{read_at, stands_at, says_at}, SpotLemmas.{letter_in, letter_within}}}
use Rattle.mm_keep.proofs.seen.place_of_spot.Goals as goal

pub nth_of_proof-word-requires : goal.nth_of_proof-word-requires
nth_of_proof-word-requires c =
    grind (arith, common_steps, read_at c.requires.0 c.args.files.now c.args.base.now c.args.number c.item-item.result.now (c.requires.1, c.requires.2, c.requires.3) c.item-item.ensures.found) steps 200000

pub place_in-requires : goal.place_in-requires
place_in-requires c =
    let r = c.requires in
    let files = c.args.files.now in
    let item = c.item-item.result.now in
    let spot = c.args.spot in
    let said = said_at r.1 c.args.number in
    let says = says_at r.0 files c.args.base.now r.1 c.args.number item r.2 c.item-item.ensures.found in
    let start = c.start_of.ensures ∙ ap word_start (c.nth_of_proof-word.ensures said says) in
    let less = letter_within files item says.read (proof_word said spot.word) spot.letter (letter_in files item said spot says r.5) in
    record { read = says.read; stands = stands_at r.0 files c.args.base.now c.args.number item (r.1, r.2, r.3) c.item-item.ensures.found; within = omega (arith, less, start) }

pub returns : goal.returns
returns c names view is proof =
    let item = c.item-item.result.now in
    let there = c.item-item.ensures.found in
    let says = says_at names c.args.files.now c.args.base.now view c.args.number item is there in
    let word = c.nth_of_proof-word.ensures (said_at view c.args.number) says in
    record {
      item = item;
      there = there;
      has_place = c.place_in.ensures (proof_word (said_at view c.args.number) c.args.spot.word) c.args.spot.letter says.read (ap (λ k. k + c.args.spot.letter) (sym (c.start_of.ensures ∙ ap word_start word)));
    }
