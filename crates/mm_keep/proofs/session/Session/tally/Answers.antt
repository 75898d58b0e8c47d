use Rattle.std.proofs.Common.{subst}
use Rattle.mm_proof.specs.mm_frame.Language.Base.{base_of}
use Rattle.mm_keep.{specs.Language.{Sessions.{SessionView}, Told.{AreRightlyTold}}, proofs.{FoundLemmas.{kept}, PlacedLemmas.{all_there}}}
use Rattle.mm_keep.proofs.session.Session.tally.Goals as goal

pub tally_of-requires : goal.tally_of-requires
tally_of-requires c =
    let k = kept c.items_stand.ensures.stand c.items_are_located.ensures.located c.self.inside c.self.invariant c.holds_pieces.ensures c.args.self.now c.self.view_is in
    (c.self.inside.names, base_of k.items, k.is, k.are)

pub returns : goal.returns
returns c =
    let inside = c.self.inside in
    let k = kept c.items_stand.ensures.stand c.items_are_located.ensures.located inside c.self.invariant c.holds_pieces.ensures c.args.self.now c.self.view_is in
    let told = c.tally_of.ensures inside.names (base_of k.items) k.is k.are in
    let all = all_there c.spots_are_in.ensures inside.files inside.base.items k.items k.is.read_in.each k.located told.0 told.1 in
    record { items = k.items; of_files = k.of_files; all = told.0; are_told = subst (λ (s : SessionView). AreRightlyTold s.files k.items told.0) c.self.view_is all; is = told.2 }
