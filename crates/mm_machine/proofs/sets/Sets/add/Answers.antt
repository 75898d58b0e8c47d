use Rattle.std.proofs.{Common.{◌*◌, ◌/◌, ◌%◌, ◌^◌, ◌<◌, ◌≡◌, Some, length, refl, sym, ◌∙◌, ap, arith, slice_get}, lemmas.{List.{get_or_default}, Option.{slice_get-get_or}}}
use Rattle.mm_machine.{specs.declared.sets.Chunk.{Chunk}, proofs.lemmas.machine.SetLemmas.{added_last, added_there, in_more, in_one}}
use Rattle.mm_machine.proofs.sets.Sets.add.Goals as goal

pub returns-then-index-at : goal.returns-then-index-at
returns-then-index-at c =
    let chunks = c.args.self.now.chunks.items in
    let w = c.index_mut.result.now in
    let v = c.index.result.now in
    let place = c.place_of-place.result in
    let within : place < length chunks = omega (arith, c.if-place-len.true, c.len.ensures, c.args.self.now.chunks.ok) in
    let at : slice_get chunks place ≡ Some w = slice_get-get_or chunks place w within ∙ ap Some (sym c.index_mut.ensures.value) in
    let same : v ≡ w = c.index.ensures ∙ get_or_default chunks place v w within ∙ sym c.index_mut.ensures.value in
    added_there c.args.start c.args.number place chunks _ w _ c.if-place-start.true at refl
    (λ n. in_more w c.args.number n (ap (λ (u : Chunk). u.at) (sym same) ∙ c.if-index-at.true))

pub returns : goal.returns
returns c =
    added_last c.args.start c.args.number c.args.self.now.chunks.items c.push.new.self.items (record { at = c.args.number / 64; bits = 1 * 2 ^ (c.args.number % 64) % 2 ^ 64 }) c.requires c.in_ok-push.ensures.items (in_one c.args.number)
