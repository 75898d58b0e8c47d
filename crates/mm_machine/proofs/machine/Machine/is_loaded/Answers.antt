use Rattle.std.proofs.{Common.{◌≡◌, ◌≢◌, ◌-◌, ◌<◌, List, [], ◌∷◌, length, map, drop, false, refl, sym, ◌∙◌, ap, subst, arith}, lemmas.Grind.{common_steps}}
use Rattle.std.proofs.lemmas.List.{get_or-map, length-drop, length-map, length-take-le}
use Rattle.mm_machine.specs.Language.{Frame.{Mandatory}, Lasting.{IsPattern, lasting_at, lasting_or, lasting_of, pattern_symbols}}
use Rattle.mm_machine.proofs.machine.Machine.is_loaded.Goals as goal

-- a list has an element, or it is empty
some_or_none : {X : Type 0} (xs : List X) → (0 < length xs → xs ≢ []) × (xs ≢ [] → 0 < length xs)
some_or_none [] = (λ l. absurd (omega arith), λ n. absurd (n refl))
some_or_none (x ∷ xs) = (λ l e. absurd (omega (arith, ap length e)), λ n. omega arith)

pub returns : goal.returns
returns g c =
    let self = c.args.self.now in
    let l = self.lasting in
    let n = c.args.number in
    let symbols = map g.S.Symbol.means self.symbols.items in
    let p = c.index.result.now in
    let none : Mandatory = record { floating = false; expression = [] } in
    let within : n < length l.patterns.items = omega (arith, c.requires.within, length-map l.patterns.items (lasting_at symbols)) in
    let holds = c.requires.holds in
    let is = subst (IsPattern l.ground symbols (map g.S.Symbol.means l.variables.all.items) l.slots.items) (sym c.index.ensures) (holds.patterns n p within) in
    let e : (lasting_or (lasting_of g.S.Symbol.means self) n).expression ≡ pattern_symbols symbols p =
    ap (λ (h : Mandatory). h.expression) (get_or-map (lasting_at symbols) l.patterns.items n p none within ∙ ap (lasting_at symbols) (sym c.index.ensures)) in
    let size = ap length e ∙ length-take-le (p.end - p.start) (drop p.start symbols) (omega (arith, length-drop p.start symbols, is.within, holds.below, length-map self.symbols.items g.S.Symbol.means)) in
    let some = some_or_none (lasting_or (lasting_of g.S.Symbol.means self) n).expression in
    grind (arith, common_steps, some, size)
