use Rattle.std.proofs.{Common.{rules, ◌≡◌, ◌-◌, ◌≤◌, ◌++◌, Bool, All, map, set, length, take, drop, subst, arith, ◌∙◌, ap, ap₂}, lemmas.{Grind.{common_steps}, List.{length-map}}}
use Rattle.mm_machine.{specs.Language.{Frame.{Mandatory}, Lasting.{IsPattern, lasting_at, pattern_symbols}}, proofs.lemmas.machine.LastingLemmas.{pattern_set, expression_set}}
use Rattle.mm_machine.proofs.{lemmas.machine.RoomLemmas.{front_grown, put_behind, written_back}, machine.Machine.load.Goals.{In_ok-give_places}}
use Rattle.mm_machine.proofs.machine.Machine.load.Goals as goal

-- what is put is behind what was there
behind : (g : _) (c : In_ok-give_places g) →
    (take c.args.self.now.lasting.ground (map g.S.Symbol.means c.put_expression.new.all) ≡ take c.args.self.now.lasting.ground (map g.S.Symbol.means c.args.self.now.symbols.items))
    × (take (length c.args.expression.now) (drop c.args.self.now.lasting.ground (map g.S.Symbol.means c.put_expression.new.all)) ≡ map g.S.Listed.Symbol.means c.args.expression.now)
behind g c =
    let m = g.S.Symbol.means in
    let old = c.args.self.now.symbols.items in
    let ground = c.args.self.now.lasting.ground in
    let more = map g.S.Listed.Symbol.means c.args.expression.now in
    let grows = c.in_ok-stretch.ensures.grows in
    let same = ap (λ w. take ground (map m w)) c.deref_mut.ensures.value ∙ front_grown m old grows.0 c.stretch.new.symbols.items ground (omega (arith, c.requires.holds.below)) grows.1 in
    put_behind (map m old) (map m c.put_expression.new.all) more ground (length c.args.expression.now) (omega (arith, c.requires.holds.below, length-map old m)) (length-map c.args.expression.now g.S.Listed.Symbol.means)
    (c.in_ok-put_expression.ensures.put ∙ ap (λ w. w ++ more) same)

-- and is written back
whole : (g : _) (c : In_ok-give_places g) → take c.stretch.new.symbols.len (c.put_expression.new.all ++ drop (length c.put_expression.new.all) c.stretch.new.symbols.items) ≡ c.put_expression.new.all
whole g c = grind (arith, common_steps, written_back) steps 200000

-- it is as long as the expression
long : (g : _) (c : In_ok-give_places g) → c.saturating_add-end.result - c.args.self.now.lasting.ground ≡ length c.args.expression.now
long g c = let s = c.stretch.new.symbols in omega (arith, c.saturating_add-end.ensures, c.in_ok-stretch.ensures.count, s.ok, s.small)

-- the lasting expressions then: their patterns, and what they are
added : (g : _) (c : In_ok-give_places g) →
    All (IsPattern c.saturating_add-end.result (map g.S.Symbol.means c.put_expression.new.all) (map g.S.Symbol.means c.put_expression.new.variables.all.items) c.put_expression.new.slots.items)
    (set c.args.self.now.lasting.patterns.items c.args.number c.in_ok-pattern.pattern)
    × (map (lasting_at (map g.S.Symbol.means c.put_expression.new.all)) (set c.args.self.now.lasting.patterns.items c.args.number c.in_ok-pattern.pattern)
    ≡ set (map (lasting_at (map g.S.Symbol.means c.args.self.now.symbols.items)) c.args.self.now.lasting.patterns.items) c.args.number
    (record { floating = c.args.floating; expression = map g.S.Listed.Symbol.means c.args.expression.now }))
added g c =
    let m = g.S.Symbol.means in
    let old = c.args.self.now in
    let l = old.lasting in
    let all = map m c.put_expression.new.all in
    let expression = map g.S.Listed.Symbol.means c.args.expression.now in
    let p = c.in_ok-pattern.pattern in
    let e = c.in_ok-pattern.ensures in
    let start = e.0 in
    let end : p.end ≡ c.saturating_add-end.result = e.1 in
    let floating = e.4 in
    let order : p.start ≤ p.end = omega (arith, start, end, c.saturating_add-end.ensures) in
    let is : pattern_symbols all p ≡ expression = ap₂ (λ a b. take (b - a) (drop a all)) start end ∙ ap (λ k. take k (drop l.ground all)) (long g c) ∙ (behind g c).1 in
    let added = c.in_ok-put_expression.ensures in
    let first : p.first ≡ length l.slots.items = omega (arith, e.2, c.len-first.ensures, l.slots.ok) in
    let last : p.last ≡ length c.put_expression.new.slots.items = omega (arith, e.3, c.len-last.ensures, c.put_expression.new.slots.ok) in
    let made : Bool → Mandatory = λ f. record { floating = f; expression = expression } in
    let patterns = pattern_set l.ground (map m old.symbols.items) all expression (map m l.variables.all.items) added.grows.0 (map m c.put_expression.new.variables.all.items) l.slots.items
    added.slots.0 c.put_expression.new.slots.items p (behind g c).0 start order is added.grows.1 added.slots.1 first last added.slots.2 l.patterns.items c.requires.holds.patterns c.args.number in
    let expressions = expression_set l.ground (map m old.symbols.items) all expression (map m l.variables.all.items) added.grows.0 (map m c.put_expression.new.variables.all.items) l.slots.items
    added.slots.0 c.put_expression.new.slots.items p (behind g c).0 start order is added.grows.1 added.slots.1 first last added.slots.2 l.patterns.items c.requires.holds.patterns c.args.number in (
      subst (λ n. All (IsPattern n all (map m c.put_expression.new.variables.all.items) c.put_expression.new.slots.items) (set l.patterns.items c.args.number p)) end patterns,
      expressions ∙ ap (λ w. set (map (lasting_at (map m old.symbols.items)) l.patterns.items) c.args.number (made w)) floating,
    )

pub returns-clause-holds : goal.returns-clause-holds
returns-clause-holds g c =
    let m = g.S.Symbol.means in
    let d = (goal.at.returns-clause-holds g c).In_ok-give_places in
    record {
      below = omega (arith, ap length (whole g d), c.in_ok-put_expression.ensures.count, ap length c.deref_mut.ensures.value, c.in_ok-stretch.ensures.count);
      numbered = c.in_ok-put_expression.ensures.numbered;
      patterns = search (rules, added g d, whole g d);
      given = omega (arith, c.in_ok-give_places.ensures, c.len.ensures, c.put_expression.new.variables.all.ok, length-map c.put_expression.new.variables.all.items m);
    }

pub returns-clause-lasting : goal.returns-clause-lasting
returns-clause-lasting g c =
    let d = (goal.at.returns-clause-lasting g c).In_ok-give_places in
    rw (whole g d) (added g d).1
