use Rattle.std.proofs.Common.{None, get_or, sym, ap, ◌∙◌}
use Rattle.mm_keep.{specs.Code.KeptCheck.{kept_at, said}, proofs.CheckLemmas.{kept_here}}
use Rattle.mm_keep.proofs.checks.Checks.get.Goals as goal

pub returns : goal.returns
returns c =
    let i = c.self.inside in
    c.kept_in.ensures ∙ ap (λ w. said (kept_at w c.at.result)) c.deref.ensures.value
    ∙ ap said (ap (kept_at i.checks.items) c.at.ensures ∙ sym (kept_here i.checks.items i.places c.args.i) ∙ ap (λ w. get_or w c.args.i None) c.self.view_is)
