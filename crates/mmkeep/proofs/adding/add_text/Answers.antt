use Rattle.std.proofs.Common.{ℕ, List, sym, subst}
use Rattle.mm_report.specs.mm_store.Language.{Answers.{IsAddError}, FilesView.{plain}}
use Rattle.mmkeep.specs.Language.Loading.{IsTextError}
use Rattle.mmkeep.proofs.adding.add_text.Goals as goal

pub returns-in-Err-clause-refused : goal.returns-in-Err-clause-refused
returns-in-Err-clause-refused c =
    let files = plain c.args.files.now in
    let error = subst (λ (text : List ℕ). IsAddError files c.args.name.now text c.in-Err.error) (sym c.as_slice.ensures) c.in-Err.ensures.err in
    subst (λ (text : List ℕ). IsTextError files text c.reason.result) c.as_slice.ensures (c.reason.ensures files c.args.name.now error)
