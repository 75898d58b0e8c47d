use Rattle.std.proofs.Common.{sym, subst}
use Rattle.mm_store.specs.Language.{FilesView.{files_in}, Expansion.{IsExpansion}}
use Rattle.mm_frame.proofs.base.Base.build.Goals as goal

pub returns-clause-base : goal.returns-clause-base
returns-clause-base c =
    let built = c.in_ok-of_items.ensures.base in
    let expansion = subst (IsExpansion (files_in c.args.files.now) c.args.top.now) (sym built.0) c.in_ok-items.ensures.items in
    (built.1.0, record { expansion = expansion; each = built.1.1 }, built.1.2, built.1.3)
