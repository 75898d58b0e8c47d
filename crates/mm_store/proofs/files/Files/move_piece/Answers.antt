use Rattle.std.proofs.{lemmas.Grind.{common_steps}, Common.{refl, arith}}
use Rattle.mm_store.proofs.lemmas.{files.{EntryLemmas.{same_view}, FileLemmas.{keys_now, lent_at, there_is}, KeptLemmas.{kept_edited, view_after}}, edits.StepLemmas.{moved}}
use Rattle.mm_store.proofs.files.Files.move_piece.Goals as goal

pub unwrap-file-requires : goal.unwrap-file-requires
unwrap-file-requires c = c.get_index_mut.ensures.found.1 (there_is c.self.inside c.args.number c.args.at c.self.view_is c.requires.there)

pub move_key-requires : goal.move_key-requires
move_key-requires c = grind (arith, common_steps, lent_at) steps 200000

pub invariant_of-self : goal.invariant_of-self
invariant_of-self c =
    let place = lent_at c.self.inside c.args.number c.args.at c.self.invariant c.self.view_is c.requires.there c.get_index_mut.ensures.value c.unwrap-file.ensures in
    kept_edited place.file (c.move_key.ensures.keys c.self.inside.pieces) refl _ c.self.invariant
    (moved place.file.keyed refl place.there c.args.to)
    (omega (arith, c.move_key.ensures.deleted)) refl c.self.invariant.within

pub returns : goal.returns
returns c =
    let place = lent_at c.self.inside c.args.number c.args.at c.self.invariant c.self.view_is c.requires.there c.get_index_mut.ensures.value c.unwrap-file.ensures in
    let is = view_after place.file (c.move_key.ensures.keys c.self.inside.pieces) (refl {a = c.self.inside.pieces}) c.self.inside.bytes c.self.view_is in
    let keys = keys_now place.file c.self.view_is in
    grind (arith, common_steps, same_view) steps 200000
