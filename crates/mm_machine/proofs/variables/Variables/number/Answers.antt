use Rattle.std.proofs.{Common.{arith, ◌≡◌, ◌++◌, ◌∷◌, [], map, sym, ◌∙◌, ap, length, subst, slice_set}, lemmas.{Grind.{common_steps}, List.{length-map, map-append}}}
use Rattle.mm_machine.{specs.Language.Keys.{AreNumbered, home, home_at}, proofs.lemmas.machine.{ApartLemmas.{last_at}, MarkLemmas.{numbered_more}}}
use Rattle.mm_machine.proofs.variables.Variables.number.Goals as goal

-- the variables with one more
grown : (g : _) (c : goal.In_ok-push g) → map g.S.Symbol.means c.push.new.self.items ≡ map g.S.Symbol.means c.args.self.now.all.items ++ g.S.Symbol.means c.args.symbol.now ∷ []
grown g c = grind (arith, common_steps, map-append) steps 200000

pub returns-clause-numbered : goal.returns-clause-numbered
returns-clause-numbered g c =
    let m = g.S.Symbol.means in
    let self = c.args.self.now in
    let y = m c.args.symbol.now in
    let all = map m self.all.items in
    let places = self.places.items in
    let at : c.home-at.result ≡ home_at g.S.Kept.key_of (length places) y = c.home-at.ensures ∙ ap (λ k. home k c.len.result) c.key.ensures ∙ ap (home (g.S.Kept.key_of y)) (c.len.ensures ∙ self.places.ok.0) in
    let count : c.len-number.result ≡ length all = c.len-number.ensures ∙ self.all.ok.0 ∙ sym (length-map self.all.items m) in
    subst (λ w. AreNumbered g.S.Kept.key_of w c.note.new.places.items) (sym (grown g c))
    (numbered_more g.S.Kept.key_of all places c.note.new.places.items y c.in_default.ensures (c.note.ensures ∙ ap (λ k. slice_set places k c.len-number.result) at ∙ ap (slice_set places (home_at g.S.Kept.key_of (length places) y)) count) c.requires)

pub returns-clause-number : goal.returns-clause-number
returns-clause-number g c = grind (arith, common_steps, grown, last_at, length-map) steps 200000

pub returns-clause-grows : goal.returns-clause-grows
returns-clause-grows g c = (g.S.Symbol.means c.args.symbol.now ∷ [], grown g c)
