use Rattle.std.proofs.{lemmas.Grind.{common_steps}, Common.{length, ap, arith}}
use Rattle.mm_store.proofs.lemmas.files.{EntryLemmas.{same_view}, FileLemmas.{keys_now, lent}, KeptLemmas.{deleted_file, deleted_from, kept_edited, view_after}}
use Rattle.mm_store.proofs.lemmas.edits.StepLemmas.{deleted_is_some, step_bytes, undeleted}
use Rattle.mm_store.proofs.files.Files.put_back.Goals as goal

pub unwrap-file-requires : goal.unwrap-file-requires
unwrap-file-requires c = c.get_index_mut.ensures.found.1 (deleted_file c.self.inside c.args.number c.args.key c.self.invariant c.self.view_is c.requires.fits.1)

pub restore_key-requires : goal.restore_key-requires
restore_key-requires c =
    let file = lent c.self.inside c.args.number c.self.invariant c.get_index_mut.ensures.value c.unwrap-file.ensures in
    record {
      there = omega (arith, c.requires.fits.0, ap length (keys_now file c.self.view_is), c.unwrap-file.result.now.keys.ok.0);
      parked = omega (arith, file.has.parked, deleted_from c.self.inside c.args.number c.args.key c.self.invariant c.self.view_is c.requires.fits.1);
      room = file.has.room;
    }

pub set_state-more-requires : goal.set_state-more-requires
set_state-more-requires c = grind (arith, common_steps, deleted_is_some) steps 200000

pub overflow_add-self : goal.overflow_add-self
overflow_add-self c =
    let file = lent c.self.inside c.args.number c.self.invariant c.get_index_mut.ensures.value c.unwrap-file.ensures in
    let step = undeleted file.keyed c.args.key (rw (← c.self.view_is) at c.requires.fits.1) c.args.at file.there in
    omega (arith, c.set_state-more.ensures.len, c.self.invariant.counted, step_bytes step, rw (← c.self.view_is, file.keyed.is) at c.requires.within)

pub invariant_of-self : goal.invariant_of-self
invariant_of-self c =
    let file = lent c.self.inside c.args.number c.self.invariant c.get_index_mut.ensures.value c.unwrap-file.ensures in
    let step = undeleted file.keyed c.args.key (rw (← c.self.view_is) at c.requires.fits.1) c.args.at file.there in
    kept_edited file (c.restore_key.ensures.keys c.self.inside.pieces) c.set_state-more.ensures.pieces _ c.self.invariant step (omega (arith, c.restore_key.ensures.deleted)) (omega (arith, c.set_state-more.ensures.len))
    (omega (arith, c.set_state-more.ensures.len, c.self.invariant.counted, step_bytes step, rw (← c.self.view_is, file.keyed.is) at c.requires.within))

pub returns : goal.returns
returns c =
    let file = lent c.self.inside c.args.number c.self.invariant c.get_index_mut.ensures.value c.unwrap-file.ensures in
    let is = view_after file (c.restore_key.ensures.keys c.self.inside.pieces) c.set_state-more.ensures.pieces c.self.inside.bytes c.self.view_is in
    let keys = keys_now file c.self.view_is in
    grind (arith, common_steps, same_view) steps 200000
