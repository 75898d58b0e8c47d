use Rattle.std.proofs.{lemmas.Grind.{common_steps}, Common.{ap, ◌∙◌, arith}}
use Rattle.mm_store.{proofs.lemmas.{edits.UndoLemmas.{is_replaced, old_other, replaced_is}, files.MapLemmas.{get_put_same}}, specs.Language.{FilesView.{FilesView, bytes_of, plain}, Undoing.{key_at}}}
use Rattle.mm_store.proofs.files.Files.replace_piece.Goals as goal

pub exchange-requires-clause-fits : goal.exchange-requires-clause-fits
exchange-requires-clause-fits c = grind (arith, common_steps, get_put_same) steps 200000

pub exchange-requires-clause-within : goal.exchange-requires-clause-within
exchange-requires-clause-within c =
    let new = c.in_ok-key.ensures.ok in
    let differs = old_other c.args.self.now c.args.number c.args.at c.stand_once.ensures c.stay_small.ensures c.requires.there c.in_ok-key.key new.fresh in
    let done = is_replaced c.args.self.now c.args.number c.args.at c.stand_once.ensures c.stay_small.ensures c.requires.there c.in_ok-key.key c.args.kept.text new.fresh in
    omega (arith, c.requires.within, ap (λ (view : FilesView). bytes_of (plain view)) (replaced_is new c.args.at differs), ap bytes_of done.means)

pub returns-clause-ok : goal.returns-clause-ok
returns-clause-ok c =
    let new = c.in_ok-key.ensures.ok in
    let differs = old_other c.args.self.now c.args.number c.args.at c.stand_once.ensures c.stay_small.ensures c.requires.there c.in_ok-key.key new.fresh in
    (c.in_ok-key.key, new.fresh, c.exchange.ensures.files ∙ replaced_is new c.args.at differs)

pub returns-clause-key : goal.returns-clause-key
returns-clause-key c = c.exchange.ensures.key ∙ ap (λ (view : FilesView). key_at view c.args.number c.args.at) c.in_ok-key.ensures.ok.is
