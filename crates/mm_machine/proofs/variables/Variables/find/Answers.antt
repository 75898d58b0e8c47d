use Rattle.std.proofs.lemmas.{Grind.{common_steps}, List.{get_or_default, length-map}, Option.{slice_get_within, same_Some}}
use Rattle.std.proofs.Common.{◌≡◌, ◌<◌, map, sym, ◌∙◌, ap, arith, length, slice_get, slice_index}
use Rattle.mm_machine.{specs.Language.Keys.{home, home_at}, proofs.lemmas.machine.{FlatLemmas.{mapped_get}, MarkLemmas.{marked_found}}}
use Rattle.mm_machine.proofs.variables.Variables.find.Goals as goal

pub returns-then-place-len : goal.returns-then-place-len
returns-then-place-len g c h =
    let m = g.S.Symbol.means in
    let self = c.args.self.now in
    let y = m c.args.symbol.now in
    let all = map m self.all.items in
    let places = self.places.items in
    let key = home_at g.S.Kept.key_of (length places) in
    let at : c.home-at.result ≡ key y = c.home-at.ensures ∙ ap (λ k. home k c.len.result) c.key.ensures ∙ ap (home (g.S.Kept.key_of y)) (c.len.ensures ∙ self.places.ok.0) in
    let room : c.home-at.result < length places = omega (arith, c.if-at-len.false, c.len-2.ensures, self.places.ok) in
    let place = c.index-place.ensures ∙ get_or_default places c.home-at.result c.index-place.result.now 0 room ∙ ap (slice_index places) at in
    let f = marked_found key all places (length all) y (omega arith) c.requires.table h (omega (arith, room, at)) in
    absurd (omega (arith, slice_get_within all (slice_index places (key y)) f.0 f.1, length-map self.all.items m, place, c.if-place-len.true, c.len-3.ensures, self.all.ok))

pub returns-then-same : goal.returns-then-same
returns-then-same g c = grind (arith, common_steps, mapped_get) steps 200000

pub returns-then-home-at : goal.returns-then-home-at
returns-then-home-at g c h =
    let m = g.S.Symbol.means in
    let self = c.args.self.now in
    let y = m c.args.symbol.now in
    let x = m c.index-x.result.now in
    let all = map m self.all.items in
    let places = self.places.items in
    let key = home_at g.S.Kept.key_of (length places) in
    let at : c.home-at.result ≡ key y = c.home-at.ensures ∙ ap (λ k. home k c.len.result) c.key.ensures ∙ ap (home (g.S.Kept.key_of y)) (c.len.ensures ∙ self.places.ok.0) in
    let room : c.home-at.result < length places = omega (arith, c.if-at-len.false, c.len-2.ensures, self.places.ok) in
    let place = c.index-place.ensures ∙ get_or_default places c.home-at.result c.index-place.result.now 0 room ∙ ap (slice_index places) at in
    let f = marked_found key all places (length all) y (omega arith) c.requires.table h (omega (arith, room, at)) in
    let within : c.index-place.result.now < length self.all.items = omega (arith, c.if-place-len.false, c.len-3.ensures, self.all.ok) in
    let same = same_Some x f.0 (sym (mapped_get m self.all.items c.index-place.result.now c.index-x.result.now within c.index-x.ensures) ∙ ap (slice_get all) place ∙ f.1) in
    absurd (c.if-home-at.true (c.home.ensures ∙ ap (λ k. home k c.len-4.result) c.key-2.ensures ∙ ap (home (g.S.Kept.key_of x)) (c.len-4.ensures ∙ self.places.ok.0) ∙ ap key same ∙ f.2 ∙ sym at))
