use Rattle.std.proofs.Common.{ℕ, List, sym, ◌∙◌, subst}
use Rattle.mm_proof.specs.mm_store.Language.FilesView.{plain}
use Rattle.mm_keep.{specs.Language.Sessions.{IsBegun}, proofs.{FoundLemmas.{begun}, KeepLemmas.{number_plain}}}
use Rattle.mm_keep.proofs.session.Session.begin.Goals as goal

pub returns-in-Err-clause-no_top : goal.returns-in-Err-clause-no_top
returns-in-Err-clause-no_top c =
    let same = number_plain c.args.files c.args.top.now in
    let told = c.in-Err.ensures.no_top in
    (λ is. same ∙ told.0 (cc), λ none. let is = told.1 (sym same ∙ none) in cc)

pub returns-in-Ok-clause-runs : goal.returns-in-Ok-clause-runs
returns-in-Ok-clause-runs c =
    let next = c.in-Ok.next in
    let is = begun c.items_are_located.ensures.located c.first_with_top.new.names c.args.files c.args.top.now next c.holds_pieces.ensures c.in-Ok.ensures.first in
    subst (λ (name : List ℕ). IsBegun (record { files = plain c.args.files; top = name }) next.ran.work) (sym c.in-Ok.ensures.top) is
