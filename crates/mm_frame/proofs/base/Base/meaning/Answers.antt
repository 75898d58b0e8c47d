use Rattle.std.proofs.Common.{◌∙◌, ap, sym}
use Rattle.mm_frame.proofs.lemmas.base.ResolvingLemmas.{assertion_means, active_means, inactive_means, later_means}
use Rattle.mm_frame.proofs.base.Base.meaning.Goals as goal

pub returns-then-j-i : goal.returns-then-j-i
returns-then-j-i c base label is e = later_means base c.args.i label c.args.j e c.if-j-i.true

pub returns-then-is_framed : goal.returns-then-is_framed
returns-then-is_framed c base label is e = assertion_means base c.args.i label c.args.j e c.if-j-i.false (sym (c.is_framed.ensures base is) ∙ c.if-is_framed.true)

pub returns-then-is_active_at : goal.returns-then-is_active_at
returns-then-is_active_at c base label is e =
    let framed = sym (c.is_framed.ensures base is) ∙ c.if-is_framed.false in
    active_means base c.args.i label c.args.j c.self.inside.parts.blocks (ap (λ a. a.marks) c.self.view_is ∙ is.1.marks) e c.if-j-i.false framed (sym c.is_active_at.ensures ∙ c.if-is_active_at.true)

pub returns-else-is_active_at : goal.returns-else-is_active_at
returns-else-is_active_at c base label is e =
    let framed = sym (c.is_framed.ensures base is) ∙ c.if-is_framed.false in
    inactive_means base c.args.i label c.args.j c.self.inside.parts.blocks (ap (λ a. a.marks) c.self.view_is ∙ is.1.marks) e c.if-j-i.false framed (sym c.is_active_at.ensures ∙ c.if-is_active_at.false)
