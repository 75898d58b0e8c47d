use Rattle.std.proofs.{lemmas.Grind.{common_steps}, Common.{rules, ◌≡◌, map, take, arith}}
use Rattle.mm_machine.proofs.{lemmas.machine.{LastingLemmas.{expressions_stay, patterns_kept}, RoomLemmas.{front_grown}}, machine.Machine.clear.Goals.{In_ok-stretch}}
use Rattle.mm_machine.proofs.machine.Machine.clear.Goals as goal

-- the symbols of the lasting expressions stay
front : (g : _) (c : In_ok-stretch g) → take c.args.self.now.lasting.ground (map g.S.Symbol.means c.stretch.new.symbols.items)
    ≡ take c.args.self.now.lasting.ground (map g.S.Symbol.means c.args.self.now.symbols.items)
front g c = grind (arith, common_steps, front_grown) steps 200000

pub returns-clause-lasting : goal.returns-clause-lasting
returns-clause-lasting g c = search (rules, expressions_stay, front)

pub returns-clause-whole : goal.returns-clause-whole
returns-clause-whole g c =
    let m = g.S.Symbol.means in
    let l = c.args.self.now.lasting in
    let s = c.stretch.new.symbols in
    let long = c.in_ok-stretch.ensures.count in (
      search rules,
      omega (arith, c.saturating_add.ensures, long, s.ok, s.small),
      record {
        below = omega (arith, c.saturating_add.ensures, long, s.ok, s.small);
        numbered = c.requires.numbered;
        patterns = search (rules, front, patterns_kept);
        given = c.requires.given;
      },
      omega arith,
    )
