use Rattle.std.{proofs.{Common.{arith, ℕ, Some, length, sym, ap, ◌∙◌}, lemmas.{Grind.{common_steps}, List.{length-map}}}, specs.Option.{option_map}}
use Rattle.mm_store.{proofs.lemmas.files.{NumberLemmas.{number_is}, FilesLemmas.{found_is}}, specs.Language.{Pieces.{text_under}, FilesView.{File, FilesView, plain, find_file}}}
use Rattle.mm_store.proofs.files.Files.piece_count.Goals as goal

abbrev count : File → ℕ
count file = length file.pieces

pub returns-in-None : goal.returns-in-None
returns-in-None c = grind (arith, common_steps, number_is) steps 200000

pub returns-in-Some : goal.returns-in-Some
returns-in-Some c =
    let inside = c.self.inside in
    let keys = c.in-Some.file.now.keys in
    let found = found_is inside.pieces c.args.name.now inside.files.entries c.in-Some.field-0-0 (c.in-Some.field-0-1.now, c.in-Some.file.now) c.in-Some.ensures.index c.in-Some.ensures.entry in
    sym (ap (λ (v : FilesView). option_map count (find_file (plain v) c.args.name.now)) (sym c.self.view_is) ∙ ap (option_map count) found ∙ ap Some (length-map keys.items (text_under inside.pieces) ∙ sym keys.ok.0 ∙ sym c.len.ensures))
