use Rattle.std.proofs.Common.{ℕ}
use Rattle.mm_proof.specs.mm_frame.Language.Base.{base_of}
use Rattle.mm_keep.{specs.Language.Sessions.{IsAssertion, OfItems}, proofs.FoundLemmas.{holds_of, kept, map_some}}
use Rattle.mm_keep.proofs.session.Session.assertion.Goals as goal

pub returns : goal.returns
returns c =
    let inside = c.self.inside in
    let session = c.args.self.now in
    let label = c.args.label.now in
    let k = kept c.items_stand.ensures.stand c.items_are_located.ensures.located inside c.self.invariant c.holds_pieces.ensures session c.self.view_is in
    record {
      some = map_some (IsAssertion (base_of k.items) label) (λ i. OfItems session (λ base. IsAssertion base label i)) c.assertion_in.result
          (λ i is. (k.items, k.of_files, is)) (c.assertion_in.ensures.some (base_of k.items) (inside.names, k.is.read_in.base));
      none = λ none has.
          let a = holds_of c.files_have_one_database.ensures inside session k (λ base. (i : ℕ) × IsAssertion base label i) has in
          let found = c.assertion_in.ensures.found (base_of k.items) a.0 (inside.names, k.is.read_in.base) a.1 in
          cc;
    }
