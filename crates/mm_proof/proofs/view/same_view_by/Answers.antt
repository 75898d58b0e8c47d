use Rattle.mm_proof.proofs.view.same_view_by.Goals as goal

pub returns : goal.returns
returns c base copy old_is new_is was is = c.have_same_view.ensures base copy old_is new_is (record { was = was; is = is })
