use Rattle.std.proofs.Common.{◌∙◌, ap, sym, inl}
use Rattle.mm_store.specs.{Language.FilesView.{files_in, piece_view}, Code.Steps.{piece_at, spot_at}}
use Rattle.mm_store.proofs.walk.Walk.step.Goals as goal

pub returns-in-None-included_name-clause-ok : goal.returns-in-None-included_name-clause-ok
returns-in-None-included_name-clause-ok c =
    let level = c.in-Some.level in
    let piece = piece_view c.args.files.now.pieces c.in-Some-key_at.key.at in
    let here = c.in-Some.ensures.some in
    inl (record {
      front = here.0;
      level = level;
      piece = piece;
      is_here = record { last = here.1; there = ap (piece_at (files_in c.args.files.now)) (sym c.level.view_is) ∙ sym c.in-Some-key_at.ensures.is };
      is_spot = ap (λ level. spot_at level piece) c.level.view_is;
      nothing = c.in-None-included_name.ensures.none level.file level.piece;
      after = c.pass.ensures here.0 level here.1;
    })
