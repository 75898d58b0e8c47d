use Rattle.std.proofs.{lemmas.Grind.{common_steps}, Common.{arith}}
use Rattle.mm_store.proofs.lemmas.files.{EntryLemmas.{same_view}, FileLemmas.{keys_now, lent}, KeptLemmas.{deleted_file, deleted_from, kept_edited, view_after}, ListLemmas.{with_same}}
use Rattle.mm_store.proofs.lemmas.edits.StepLemmas.{settled}
use Rattle.mm_store.proofs.files.Files.drop_deleted.Goals as goal

pub unwrap-file-requires : goal.unwrap-file-requires
unwrap-file-requires c = c.get_index_mut.ensures.found.1 (deleted_file c.self.inside c.args.number c.args.old c.self.invariant c.self.view_is c.requires)

pub forget_deleted-requires : goal.forget_deleted-requires
forget_deleted-requires c = grind (arith, common_steps, deleted_from, lent) steps 200000

pub invariant_of-self : goal.invariant_of-self
invariant_of-self c =
    let file = lent c.self.inside c.args.number c.self.invariant c.get_index_mut.ensures.value c.unwrap-file.ensures in
    kept_edited file (c.forget_deleted.ensures.keys c.self.inside.pieces) c.drop_piece.ensures.pieces _ c.self.invariant (settled file.keyed c.args.old (rw (← c.self.view_is) at c.requires) file.there)
    (omega (arith, c.forget_deleted.ensures.deleted)) (omega arith) c.self.invariant.within

pub returns : goal.returns
returns c =
    let file = lent c.self.inside c.args.number c.self.invariant c.get_index_mut.ensures.value c.unwrap-file.ensures in
    let is = view_after file (c.forget_deleted.ensures.keys c.self.inside.pieces) c.drop_piece.ensures.pieces c.self.inside.bytes c.self.view_is in
    let keys = keys_now file c.self.view_is in
    grind (arith, common_steps, same_view, with_same) steps 200000
