use Rattle.std.proofs.{lemmas.Grind.{common_steps}, Common.{is_some, length, ap, ◌∙◌, arith}}
use Rattle.mm_store.proofs.lemmas.files.{EntryLemmas.{same_view}, FileLemmas.{keys_now, lent_at, there_is}, KeptLemmas.{kept_edited, view_after}, PieceLemmas.{text_state}}
use Rattle.mm_store.{proofs.lemmas.edits.StepLemmas.{exchanged, here_is_some, here_within, old_is_some, step_bytes}, specs.Language.Pieces.{Parked, Replaced, Standing, with_state, text_under}}
use Rattle.std.specs.FinMap as finite
use Rattle.mm_store.proofs.files.Files.exchange.Goals as goal

pub unwrap-file-requires : goal.unwrap-file-requires
unwrap-file-requires c = c.get_index_mut.ensures.found.1 (there_is c.self.inside c.args.number c.args.at c.self.view_is c.requires.fits.0)

pub replace_key-old-requires : goal.replace_key-old-requires
replace_key-old-requires c =
    let place = lent_at c.self.inside c.args.number c.args.at c.self.invariant c.self.view_is c.requires.fits.0 c.get_index_mut.ensures.value c.unwrap-file.ensures in
    record { there = place.in_keys; room = place.file.has.room }

pub set_state-less-requires : goal.set_state-less-requires
set_state-less-requires c =
    let place = lent_at c.self.inside c.args.number c.args.at c.self.invariant c.self.view_is c.requires.fits.0 c.get_index_mut.ensures.value c.unwrap-file.ensures in
    here_is_some place.file.keyed c.replace_key-old.ensures.value place.there

pub set_state-more-requires : goal.set_state-more-requires
set_state-more-requires c =
    let place = lent_at c.self.inside c.args.number c.args.at c.self.invariant c.self.view_is c.requires.fits.0 c.get_index_mut.ensures.value c.unwrap-file.ensures in
    ap (λ p. is_some (finite.get p c.args.key)) c.set_state-less.ensures.pieces
    ∙ old_is_some place.file.keyed c.replace_key-old.ensures.value place.there c.args.key (rw (← c.self.view_is) at c.requires.fits.1)

pub overflow_sub-self : goal.overflow_sub-self
overflow_sub-self c =
    let place = lent_at c.self.inside c.args.number c.args.at c.self.invariant c.self.view_is c.requires.fits.0 c.get_index_mut.ensures.value c.unwrap-file.ensures in
    omega (arith, c.set_state-less.ensures.len, c.self.invariant.counted, here_within place.file.keyed c.replace_key-old.ensures.value place.there)

pub overflow_add-self : goal.overflow_add-self
overflow_add-self c =
    let place = lent_at c.self.inside c.args.number c.args.at c.self.invariant c.self.view_is c.requires.fits.0 c.get_index_mut.ensures.value c.unwrap-file.ensures in
    let step = exchanged place.file.keyed c.replace_key-old.ensures.value place.there c.args.key (rw (← c.self.view_is) at c.requires.fits.1) in
    let more = c.set_state-more.ensures.len ∙ ap (λ p. length (text_under p c.args.key)) c.set_state-less.ensures.pieces ∙ ap length (text_state c.self.inside.pieces c.replace_key-old.result (Parked c.args.number Replaced) c.args.key) in
    omega (
      arith,
      c.set_state-less.ensures.len,
      more,
      c.self.invariant.counted,
      here_within place.file.keyed c.replace_key-old.ensures.value place.there,
      step_bytes step,
      rw (← c.self.view_is, place.file.keyed.is, ← c.replace_key-old.ensures.value) at c.requires.within,
    )

pub invariant_of-self : goal.invariant_of-self
invariant_of-self c =
    let place = lent_at c.self.inside c.args.number c.args.at c.self.invariant c.self.view_is c.requires.fits.0 c.get_index_mut.ensures.value c.unwrap-file.ensures in
    let step = exchanged place.file.keyed c.replace_key-old.ensures.value place.there c.args.key (rw (← c.self.view_is) at c.requires.fits.1) in
    let more = c.set_state-more.ensures.len ∙ ap (λ p. length (text_under p c.args.key)) c.set_state-less.ensures.pieces ∙ ap length (text_state c.self.inside.pieces c.replace_key-old.result (Parked c.args.number Replaced) c.args.key) in
    let within = here_within place.file.keyed c.replace_key-old.ensures.value place.there in
    kept_edited place.file (c.replace_key-old.ensures.keys c.self.inside.pieces) (c.set_state-more.ensures.pieces ∙ ap (λ p. with_state p c.args.key Standing) c.set_state-less.ensures.pieces) _ c.self.invariant step
    (omega (arith, c.replace_key-old.ensures.deleted)) (omega (arith, c.set_state-less.ensures.len, more, c.self.invariant.counted, within))
    (omega (arith, c.set_state-less.ensures.len, more, c.self.invariant.counted, within, step_bytes step, rw (← c.self.view_is, place.file.keyed.is, ← c.replace_key-old.ensures.value) at c.requires.within))

pub returns-clause-key : goal.returns-clause-key
returns-clause-key c =
    let place = lent_at c.self.inside c.args.number c.args.at c.self.invariant c.self.view_is c.requires.fits.0 c.get_index_mut.ensures.value c.unwrap-file.ensures in
    let keys = keys_now place.file c.self.view_is in
    grind (arith, common_steps) steps 200000

pub returns-clause-files : goal.returns-clause-files
returns-clause-files c =
    let place = lent_at c.self.inside c.args.number c.args.at c.self.invariant c.self.view_is c.requires.fits.0 c.get_index_mut.ensures.value c.unwrap-file.ensures in
    let is = view_after place.file (c.replace_key-old.ensures.keys c.self.inside.pieces) c.set_state-more.ensures.pieces c.self.inside.bytes c.self.view_is in
    let keys = keys_now place.file c.self.view_is in
    grind (arith, common_steps, same_view) steps 200000
