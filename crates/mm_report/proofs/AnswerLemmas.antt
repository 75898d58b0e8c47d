-- A session has one report.
use Rattle.std.proofs.{lemmas.Option.{slice_get-get_or}, Common.{◌≡◌, ◌<◌, length, get_or, sym, ap, ◌∙◌, ext_get_or, arith}}
use Rattle.mm_keep.specs.{mm_statement.Language.Laws.{FilesHaveOneDatabase}, mm_frame.Language.Base.{base_of}, Language.{Laws.{OneFinding}, Told.{Quiet}}}
use Rattle.mm_report.specs.Language.{Laws.{OneReport}, Report.{names_of, report}}

pub same_report : FilesHaveOneDatabase → OneFinding → OneReport
same_report alone one session bytes copy f g = f.bytes_are ∙ (λ i. report (names_of session.files) (base_of (items i)) (all i)) ∙ sym g.bytes_are
  where
    items : f.items ≡ g.items
    items = alone session.files session.top f.items g.items f.of_files g.of_files

    all : f.all ≡ g.all
    all = ext_get_or Quiet f.all g.all (f.are_told.count ∙ ap length items ∙ sym g.are_told.count) (λ n within.
        let behind : n < length g.all = omega (arith, within, ap length items, f.are_told.count, g.are_told.count) in
        one n session (get_or f.all n Quiet) (get_or g.all n Quiet)
        (f.items, f.of_files, f.are_told.each n (get_or f.all n Quiet) (slice_get-get_or f.all n Quiet within))
        (g.items, g.of_files, g.are_told.each n (get_or g.all n Quiet) (slice_get-get_or g.all n Quiet behind)))
