use Rattle.std.proofs.{Common.{◌≡◌, List, [], ◌∷◌, length, map, refl, sym, ◌≤◌, ◌∙◌, ap, arith}, lemmas.{Grind.{common_steps}, List.{length-map}}}
use Rattle.mm_machine.specs.Language.{Lasting.{lasting_or}, NumberedSymbols.{by_number}}
use Rattle.mm_verdict.proofs.lemmas.base.FrameLemmas.{shown_framed}
use Rattle.mm_verdict.proofs.known.takes_nothing.Goals as goal

nothing_there : {X : Type 0} (xs : List X) → length xs ≡ 0 → xs ≡ []
nothing_there [] e = refl
nothing_there (x ∷ xs) e = absurd (omega (arith, e))

pub returns-then-is_empty : goal.returns-then-is_empty
returns-then-is_empty c short names view is framed =
    let lasting = c.requires.0 in
    let numbers = c.args.cited.now.hypotheses in
    let count : length numbers.now ≡ 0 = grind (arith, common_steps, c.if-is_empty.true, c.is_empty.ensures) steps 200000 in
    let says = c.expression.ensures names view is (shown_framed view c.args.number framed) in
    let few : length c.expression.result.now ≤ 1000000 = grind (arith, common_steps, short) steps 200000 in (
      sym (c.requires.1 names view is framed).hypotheses ∙ ap (map (lasting_or lasting)) (nothing_there numbers.now count),
      omega (arith, few, sym (ap length says), length-map c.expression.result.now by_number),
    )
