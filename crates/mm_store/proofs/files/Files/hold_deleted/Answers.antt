use Rattle.std.proofs.{lemmas.Grind.{common_steps}, Common.{refl, ap, ◌∙◌, arith}}
use Rattle.mm_store.proofs.lemmas.files.{EntryLemmas.{same_view}, FileLemmas.{keys_now, lent}, KeptLemmas.{kept_edited, view_after}, ListLemmas.{with_same}, MapLemmas.{drop_put}}
use Rattle.mm_store.proofs.lemmas.edits.StepLemmas.{held, same}
use Rattle.std.specs.FinMap as finite
use Rattle.mm_store.proofs.files.Files.hold_deleted.Goals as goal

pub hold_one-requires : goal.hold_one-requires
hold_one-requires c = (lent c.self.inside c.args.number c.self.invariant c.get_index_mut.ensures.value c.unwrap-file.ensures).has.room

pub invariant_of-self-in-Err : goal.invariant_of-self-in-Err
invariant_of-self-in-Err c =
    let file = lent c.self.inside c.args.number c.self.invariant c.get_index_mut.ensures.value c.unwrap-file.ensures in
    let pieces = c.drop_piece.ensures.pieces ∙ ap (λ p. finite.remove p c.in_ok-key.key) c.in_ok-key.ensures.ok ∙ drop_put c.self.inside.pieces c.in_ok-key.key _ c.in_ok-key.ensures.fresh in
    kept_edited file (c.hold_one.ensures.keys c.self.inside.pieces) pieces _ c.self.invariant (same file.keyed file.there) (omega (arith, c.in-Err.ensures.err)) refl c.self.invariant.within

pub returns-in-Err-clause-err : goal.returns-in-Err-clause-err
returns-in-Err-clause-err c =
    let file = lent c.self.inside c.args.number c.self.invariant c.get_index_mut.ensures.value c.unwrap-file.ensures in
    let pieces = c.drop_piece.ensures.pieces ∙ ap (λ p. finite.remove p c.in_ok-key.key) c.in_ok-key.ensures.ok ∙ drop_put c.self.inside.pieces c.in_ok-key.key _ c.in_ok-key.ensures.fresh in
    let is = view_after file (c.hold_one.ensures.keys c.self.inside.pieces) pieces c.self.inside.bytes c.self.view_is in
    let keys = keys_now file c.self.view_is in
    grind (arith, common_steps, same_view, with_same) steps 200000

pub invariant_of-self-in_default : goal.invariant_of-self-in_default
invariant_of-self-in_default c =
    let file = lent c.self.inside c.args.number c.self.invariant c.get_index_mut.ensures.value c.unwrap-file.ensures in
    kept_edited file (c.hold_one.ensures.keys c.self.inside.pieces) c.in_ok-key.ensures.ok _ c.self.invariant (held file.keyed c.in_ok-key.key _ c.in_ok-key.ensures.fresh refl file.there)
    (omega (arith, c.in_default.ensures.ok)) refl c.self.invariant.within

pub returns-clause-ok : goal.returns-clause-ok
returns-clause-ok c =
    let file = lent c.self.inside c.args.number c.self.invariant c.get_index_mut.ensures.value c.unwrap-file.ensures in
    let is = view_after file (c.hold_one.ensures.keys c.self.inside.pieces) c.in_ok-key.ensures.ok c.self.inside.bytes c.self.view_is in
    let keys = keys_now file c.self.view_is in
    grind (arith, common_steps, same_view, with_same) steps 200000
