use Rattle.std.proofs.{Common.{length, sym, ap, ◌∙◌, arith, Global}, lemmas.{Option.{IfSome_then}, List.{length-map}}}
use Rattle.mm_store.{specs.{Code.Kept.{keyed_file}, Language.FilesView.{plain, FilesView, file_number}}, proofs.lemmas.files.NumberLemmas.{number_is}}
use Rattle.mm_store.proofs.files.Files.number_of.Goals as goal

pub returns-clause-number : goal.returns-clause-number
returns-clause-number c = c.get_index_of.ensures.index ∙ sym (number_is c.self.inside.pieces c.args.name.now c.self.inside.files.entries) ∙ ap (λ (view : FilesView). file_number (plain view) c.args.name.now) c.self.view_is

pub returns-clause-within : goal.returns-clause-within
returns-clause-within c = IfSome_then c.get_index_of.result c.get_index_of.ensures.within (λ n lt. omega (arith, lt, length-map c.self.inside.files.entries (keyed_file {Y = Global}), ap (λ (view : FilesView). length view.keyed) c.self.view_is))
