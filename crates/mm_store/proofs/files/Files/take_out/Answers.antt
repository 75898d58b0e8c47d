use Rattle.std.proofs.{lemmas.Grind.{common_steps}, Common.{arith}}
use Rattle.mm_store.proofs.lemmas.files.{EntryLemmas.{same_view}, FileLemmas.{keys_now, lent_at, there_is}, KeptLemmas.{kept_edited, view_after}}
use Rattle.mm_store.proofs.lemmas.edits.StepLemmas.{deleted, here_is_some, here_within}
use Rattle.mm_store.proofs.files.Files.take_out.Goals as goal

pub unwrap-file-requires : goal.unwrap-file-requires
unwrap-file-requires c = c.get_index_mut.ensures.found.1 (there_is c.self.inside c.args.number c.args.at c.self.view_is c.requires)

pub delete_key-old-requires : goal.delete_key-old-requires
delete_key-old-requires c = grind (arith, common_steps, lent_at) steps 200000

pub set_state-less-requires : goal.set_state-less-requires
set_state-less-requires c =
    let place = lent_at c.self.inside c.args.number c.args.at c.self.invariant c.self.view_is c.requires c.get_index_mut.ensures.value c.unwrap-file.ensures in
    here_is_some place.file.keyed c.delete_key-old.ensures.value place.there

pub overflow_sub-self : goal.overflow_sub-self
overflow_sub-self c =
    let place = lent_at c.self.inside c.args.number c.args.at c.self.invariant c.self.view_is c.requires c.get_index_mut.ensures.value c.unwrap-file.ensures in
    omega (
      arith,
      c.set_state-less.ensures.len,
      c.self.invariant.counted,
      here_within place.file.keyed c.delete_key-old.ensures.value place.there,
    )

pub invariant_of-self : goal.invariant_of-self
invariant_of-self c =
    let place = lent_at c.self.inside c.args.number c.args.at c.self.invariant c.self.view_is c.requires c.get_index_mut.ensures.value c.unwrap-file.ensures in
    kept_edited place.file (c.delete_key-old.ensures.keys c.self.inside.pieces) c.set_state-less.ensures.pieces _ c.self.invariant
    (deleted place.file.keyed c.delete_key-old.ensures.value place.there)
    (omega (arith, c.delete_key-old.ensures.deleted))
    (omega (arith, c.set_state-less.ensures.len, c.self.invariant.counted, here_within place.file.keyed c.delete_key-old.ensures.value place.there))
    (omega (arith, c.self.invariant.within))

pub returns-clause-key : goal.returns-clause-key
returns-clause-key c =
    let place = lent_at c.self.inside c.args.number c.args.at c.self.invariant c.self.view_is c.requires c.get_index_mut.ensures.value c.unwrap-file.ensures in
    let keys = keys_now place.file c.self.view_is in
    grind (arith, common_steps) steps 200000

pub returns-clause-files : goal.returns-clause-files
returns-clause-files c =
    let place = lent_at c.self.inside c.args.number c.args.at c.self.invariant c.self.view_is c.requires c.get_index_mut.ensures.value c.unwrap-file.ensures in
    let is = view_after place.file (c.delete_key-old.ensures.keys c.self.inside.pieces) c.set_state-less.ensures.pieces c.self.inside.bytes c.self.view_is in
    let keys = keys_now place.file c.self.view_is in
    grind (arith, common_steps, same_view) steps 200000
