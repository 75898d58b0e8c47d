use Rattle.mm_keep.{specs.Language.Sessions.{IsAssertion}, proofs.FoundLemmas.{holds_of, kept}}
use Rattle.mm_proof.specs.mm_frame.Language.Base.{base_of}
use Rattle.mm_keep.proofs.session.Session.numbers.Goals as goal

pub numbers_of-requires : goal.numbers_of-requires
numbers_of-requires c =
    let k = kept c.items_stand.ensures.stand c.items_are_located.ensures.located c.self.inside c.self.invariant c.holds_pieces.ensures c.args.self.now c.self.view_is in
    let holds = holds_of c.files_have_one_database.ensures c.self.inside c.args.self.now k (λ base. IsAssertion base c.args.label.now c.in-Some.i) c.in-Some.ensures.some in
    (c.self.inside.names, base_of k.items, k.is, k.are, holds)

pub returns-in_ok-numbers_of-in-Some-clause-ok : goal.returns-in_ok-numbers_of-in-Some-clause-ok
returns-in_ok-numbers_of-in-Some-clause-ok c =
    let k = kept c.items_stand.ensures.stand c.items_are_located.ensures.located c.self.inside c.self.invariant c.holds_pieces.ensures c.args.self.now c.self.view_is in
    let holds = holds_of c.files_have_one_database.ensures c.self.inside c.args.self.now k (λ base. IsAssertion base c.args.label.now c.in-Some.i) c.in-Some.ensures.some in
    (k.items, k.of_files, (c.in-Some.i, holds, c.in_ok-numbers_of-in-Some.ensures c.self.inside.names (base_of k.items) k.is k.are holds))
