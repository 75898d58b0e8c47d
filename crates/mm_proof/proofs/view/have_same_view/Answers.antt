use Rattle.std.proofs.Common.{refl}
use Rattle.mm_proof.proofs.ViewLemmas.{shared_view, view_proof}
use Rattle.mm_proof.proofs.view.have_same_view.Goals as goal

pub returns-then-same_pairs : goal.returns-then-same_pairs
returns-then-same_pairs c base copy f g these =
    let i = c.args.two.i in
    let j = c.args.two.j in
    let hypotheses = (c.if-not-same_but_active.ensures base copy f.base g.base these).0 refl in
    let pairs = (c.same_pairs.ensures base copy f.base g.base these).0 c.if-same_pairs.true in
    let written = c.same_written.ensures base copy f g in
    (λ e. shared_view base copy i j hypotheses pairs (written.0 e), λ v. written.1 (view_proof base copy i j v))
