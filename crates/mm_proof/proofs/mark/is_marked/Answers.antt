use Rattle.std.proofs.{Common.{◌≡◌, Some, sym, ◌∙◌, ap, subst, eqb-true}, lemmas.Option.{slice_get-get_or}}
use Rattle.mm_frame.specs.Language.Base.{hypothesis_at}
use Rattle.mm_proof.proofs.mark.is_marked.Goals as goal

pub returns-in-Some-old : goal.returns-in-Some-old
returns-in-Some-old c t old new are names base copy f g =
    let n = c.args.n in
    let m = c.args.m in
    let found = c.in-Some.ensures.lookup in
    let there = slice_get-get_or c.args.marks.now m c.in-Some.mark.now found.3.0 ∙ ap Some (sym found.1) in
    let one = are m c.in-Some.mark.now there c.if-mark.true c.in-Some-old.i c.in-Some-old.is names base copy f g in
    subst (λ k. hypothesis_at base k ≡ hypothesis_at copy m) (eqb-true c.in-Some-old.i n t) one.same
