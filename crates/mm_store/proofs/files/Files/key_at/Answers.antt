use Rattle.std.proofs.{lemmas.{Grind.{common_steps}, Option.{slice_get-map, slice_get_past, slice_get_read}}, Common.{◌≡◌, List, Some, refl, sym, ap, ◌∙◌, length, Global, Vec, ℕ, slice_get, arith}}
use Rattle.std.specs.Option.{option_map}
use Rattle.mm_store.specs.{declared.{file_text.FileText.{FileText}, files.Files.TheInside.{Inside}}, Language.FilesView.{FilesView, piece_view}, Code.Kept.{files_view, keyed_file}}
use Rattle.mm_store.proofs.lemmas.files.ViewLemmas.{piece_at_key, held_there}
use Rattle.mm_store.proofs.files.Files.key_at.Goals as goal

in_view : {view : FilesView} {entries : List (Vec ℕ Global × FileText)} {entry : Vec ℕ Global × FileText} (inside : Inside) (n : ℕ) → files_view inside ≡ view → entries ≡ inside.files.entries
    → Some entry ≡ slice_get entries n → slice_get view.keyed n ≡ Some (keyed_file entry)
in_view inside n is same there = grind (arith, common_steps, slice_get-map keyed_file inside.files.entries n) steps 200000

pub returns-in_err-at-clause-is : goal.returns-in_err-at-clause-is
returns-in_err-at-clause-is c =
    let there = in_view c.self.inside c.args.file c.self.view_is c.as_slice.ensures.entries c.in_ok-file.ensures.entry in
    let none = slice_get_past c.in_ok-file.file.now.keys.items c.args.piece c.in_err-at.ensures.item.3 in
    grind (arith, common_steps, piece_at_key c.args.self.now c.args.file c.args.piece _ there) steps 200000

pub returns-clause-is : goal.returns-clause-is
returns-clause-is c =
    let view = c.args.self.now in
    let keys = c.in_ok-file.file.now.keys.items in
    let key = c.in_ok-at.field-0.now in
    let there = in_view c.self.inside c.args.file c.self.view_is c.as_slice.ensures.entries c.in_ok-file.ensures.entry in
    let h = c.in_ok-at.ensures.item.3 in
    sym (piece_at_key view c.args.file c.args.piece _ there ∙ ap (option_map (piece_view view.pieces)) (slice_get_read keys (length keys) c.args.piece key refl h.0 (h.1 key)))

pub returns-clause-held : goal.returns-clause-held
returns-clause-held c =
    let keys = c.in_ok-file.file.now.keys.items in
    let key = c.in_ok-at.field-0.now in
    let there = in_view c.self.inside c.args.file c.self.view_is c.as_slice.ensures.entries c.in_ok-file.ensures.entry in
    let h = c.in_ok-at.ensures.item.3 in
    held_there c.args.self.now c.args.file c.args.piece _ key c.holds_pieces.ensures there (slice_get_read keys (length keys) c.args.piece key refl h.0 (h.1 key))
