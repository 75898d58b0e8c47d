use Rattle.std.{proofs.{lemmas.{Grind.{common_steps}, List.{length-map, get_or-map}}, Common.{◌≡◌, ◌<◌, [], ◌++◌, length, map, take, get_or, sym, ap, ◌∙◌, subst, arith}}, specs.List.{concat}}
use Rattle.mm_store.{specs.{Language.Pieces.{text_under}, Code.Lines.{IsStart}}, proofs.lemmas.places.PlaceLemmas.{concat_one, piece_within}}
use Rattle.mm_store.proofs.file_text.FileText.start.Goals as goal

pub next_start-start-requires : goal.next_start-start-requires
next_start-start-requires c = grind (arith, common_steps, get_or-map, length-map, piece_within) steps 200000

pub loop-before-preserved : goal.loop-before-preserved
loop-before-preserved c =
    let f = text_under c.args.pieces.now in
    let keys = c.args.self.now.keys.items in
    let texts = map f keys in
    let n = c.loop-before.before in
    let within : n < length keys = omega (arith, c.loop-before-test.true, c.requires.there, c.args.self.now.keys.ok.0) in
    let within_texts : n < length texts = omega (arith, within, length-map keys f) in
    let here : get_or texts n [] ≡ f c.index.result.now = get_or-map f keys n c.index.result.now [] within ∙ ap f (sym c.index.ensures) in
    subst (λ bytes. IsStart bytes c.next_start-start.result) (sym (concat_one texts n within_texts ∙ ap (λ t. concat (take n texts) ++ t) here)) (c.next_start-start.ensures (concat (take n texts)) c.loop-before.invariant)
