use Rattle.std.{proofs.{lemmas.{Grind.{common_steps}, List.{length-map, get_or-map}}, Common.{◌≡◌, ◌<◌, [], ◌++◌, length, map, take, get_or, sym, ap, ◌∙◌, subst, arith}}, specs.List.{concat}}
use Rattle.mm_store.{specs.{Language.Pieces.{text_under}, Code.Lines.{IsStart}}, proofs.lemmas.places.{PlaceLemmas.{concat_one, piece_within}, StartLemmas.{starts_more}}}
use Rattle.mm_store.proofs.file_text.FileText.set_next.Goals as goal

pub next_start-requires : goal.next_start-requires
next_start-requires c =
    let within : c.args.piece < length c.args.self.now.keys.items = omega (arith, c.requires.there, c.args.self.now.keys.ok.0) in
    let within_texts : c.args.piece < length (map (text_under c.args.pieces.now) c.args.self.now.keys.items) = omega (arith, within, length-map c.args.self.now.keys.items (text_under c.args.pieces.now)) in
    grind (arith, common_steps, c.requires.before c.args.piece c.index.result.now (omega arith), piece_within (map (text_under c.args.pieces.now) c.args.self.now.keys.items) c.args.piece within_texts) steps 200000

pub returns-clause-starts : goal.returns-clause-starts
returns-clause-starts c =
    let f = text_under c.args.pieces.now in
    let keys = c.args.self.now.keys.items in
    let texts = map f keys in
    let n = c.args.piece in
    let within : n < length keys = omega (arith, c.requires.there, c.args.self.now.keys.ok.0) in
    let within_texts : n < length texts = omega (arith, within, length-map keys f) in
    let here : get_or texts n [] ≡ f c.index-2.result.now = get_or-map f keys n c.index-2.result.now [] within ∙ ap f (sym c.index-2.ensures) in
    let start = subst (IsStart (concat (take n texts))) (sym c.index.ensures) (c.requires.before n c.index.result.now (omega arith)) in
    let next = subst (λ bytes. IsStart bytes c.next_start.result) (sym (concat_one texts n within_texts ∙ ap (λ t. concat (take n texts) ++ t) here)) (c.next_start.ensures (concat (take n texts)) start) in
    starts_more texts c.args.self.now.starts.items n c.next_start.result (omega (arith, c.requires.there, c.requires.room)) next c.requires.before
