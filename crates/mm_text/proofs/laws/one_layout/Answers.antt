use Rattle.mm_text.proofs.LayoutLemmas.{laid_out, one_layout}
use Rattle.mm_text.proofs.laws.one_layout.Goals as goal

pub returns-clause-laid_out : goal.returns-clause-laid_out
returns-clause-laid_out c text = laid_out 0 text

pub returns-clause-only : goal.returns-clause-only
returns-clause-only c text others h = one_layout others 0 text h
