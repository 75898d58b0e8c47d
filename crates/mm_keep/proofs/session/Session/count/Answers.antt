use Rattle.mm_proof.specs.mm_frame.Language.Base.{base_of}
use Rattle.mm_keep.proofs.FoundLemmas.{kept}
use Rattle.mm_keep.proofs.session.Session.count.Goals as goal

pub returns-clause-count : goal.returns-clause-count
returns-clause-count c =
    let k = kept c.items_stand.ensures.stand c.items_are_located.ensures.located c.self.inside c.self.invariant c.holds_pieces.ensures c.args.self.now c.self.view_is in
    (k.items, k.of_files, c.count.ensures.count (base_of k.items) (c.self.inside.names, k.is.read_in.base))
