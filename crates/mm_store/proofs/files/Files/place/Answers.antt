use Rattle.std.{proofs.{Common.{◌+◌, length, sym, ap, ◌∙◌, arith, count_by}, lemmas.List.{length-map}}, specs.List.{after_last}}
use Rattle.mm_text.specs.Language.Place.{is_line_feed}
use Rattle.mm_store.{specs.Language.Pieces.{text_under}, proofs.lemmas.{files.FileLemmas.{shown}, places.ByteLemmas.{byte_in}}}
use Rattle.mm_store.proofs.files.Files.place.Goals as goal

pub lines_at-requires : goal.lines_at-requires
lines_at-requires c =
    let had = shown c.self.inside c.args.file c.self.invariant c.as_slice.ensures.entries c.get_index.ensures.entry c.unwrap.ensures in
    record {
      starts = (shown c.self.inside c.args.file c.self.invariant c.as_slice.ensures.entries c.get_index.ensures.entry c.unwrap.ensures).file.starts;
      room = omega (arith, (shown c.self.inside c.args.file c.self.invariant c.as_slice.ensures.entries c.get_index.ensures.entry c.unwrap.ensures).file.has.room.starts);
      small = (shown c.self.inside c.args.file c.self.invariant c.as_slice.ensures.entries c.get_index.ensures.entry c.unwrap.ensures).file.small;
      piece_in = omega (arith, (byte_in had c.self.view_is c.requires.2).piece_in, length-map c.unwrap.result.1.now.keys.items (text_under c.self.inside.pieces));
      within = (byte_in had c.self.view_is c.requires.2).within;
    }

pub returns : goal.returns
returns c = record {
  line = λ text offset byte. let had = shown c.self.inside c.args.file c.self.invariant c.as_slice.ensures.entries c.get_index.ensures.entry c.unwrap.ensures in
      c.place.ensures.line ∙ ap (λ n. n + 1) (c.lines_at.ensures.feeds ∙ ap (count_by is_line_feed) (sym (byte_in had c.self.view_is byte).is_before));
  column = λ text offset byte. let had = shown c.self.inside c.args.file c.self.invariant c.as_slice.ensures.entries c.get_index.ensures.entry c.unwrap.ensures in
      c.place.ensures.column ∙ ap (λ n. n + 1) (c.lines_at.ensures.behind ∙ ap (λ before. length (after_last is_line_feed before)) (sym (byte_in had c.self.view_is byte).is_before));
}
