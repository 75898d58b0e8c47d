use Rattle.std.proofs.{lemmas.Grind.{common_steps}, Common.{ap, ◌∙◌, arith}}
use Rattle.mm_store.{proofs.lemmas.{edits.UndoLemmas.{inserted_is, is_inserted}, files.MapLemmas.{get_put_same}}, specs.Language.FilesView.{FilesView, bytes_of, plain}}
use Rattle.mm_store.proofs.files.Files.insert_piece.Goals as goal

pub put_back-requires-clause-fits : goal.put_back-requires-clause-fits
put_back-requires-clause-fits c = grind (arith, common_steps, get_put_same) steps 200000

pub put_back-requires-clause-within : goal.put_back-requires-clause-within
put_back-requires-clause-within c =
    let new = c.in_ok-key.ensures.ok in
    let done = is_inserted c.args.self.now c.args.number c.args.at c.stand_once.ensures c.stay_small.ensures c.in_ok-key.key c.args.kept.text c.requires.file c.requires.there new.fresh in
    omega (arith, c.requires.within, ap (λ (view : FilesView). bytes_of (plain view)) (inserted_is new c.args.at), ap bytes_of done.means)

pub returns-clause-ok : goal.returns-clause-ok
returns-clause-ok c = (c.in_ok-key.key, c.in_ok-key.ensures.ok.fresh, c.put_back.ensures ∙ inserted_is c.in_ok-key.ensures.ok c.args.at)
