use Rattle.std.proofs.{Common.{rules, arith, sym, ◌≡◌, ◌∙◌, ◌∷◌, [], ◌+◌, ◌++◌, true, false, Some, ap, map, take, slice_get}, lemmas.List.{append_assoc, length-map}}
use Rattle.mm_machine.{specs.Language.Frame.{Symbol}, proofs.lemmas.machine.{FlatLemmas.{mapped_get}, RoomLemmas.{map_next, put_next}, SlotLemmas.{constant_more, slot_more, all_slots, pushed_behind}}}
use Rattle.mm_machine.proofs.slots.put_expression.Goals.{then-is_variable+in_ok-variable+in_ok-slot_from+in_ok-push, else-is_variable}
use Rattle.mm_machine.proofs.slots.put_expression.Goals as goal

pub loop-place-preserved : goal.loop-place-preserved
loop-place-preserved g c =
    let m = g.S.Symbol.means in
    let listed = g.S.Listed.Symbol.means in
    let e = map listed c.args.expression.now in
    let place = c.loop-place.place in
    let run = c.loop-place.constants in
    let s = listed c.index-expression-place.result in
    let same : m c.in_ok-symbol.symbol ≡ s = c.in_ok-symbol.ensures in
    let at = mapped_get listed c.args.expression.now place c.index-expression-place.result c.loop-place-test.true c.index-expression-place.is in
    let kind = ap (λ (s : Symbol). s.variable) (sym same) ∙ sym c.is_variable.ensures in
    let next = map_next listed c.args.expression.now place c.index-expression-place.result c.loop-place-test.true c.index-expression-place.is in
    let i = c.loop-place.invariant in
    let put = put_next m (take c.args.at (map m c.args.all.now)) (take place e) (take (place + 1) e) c.loop-place.all c.args.at place c.in_ok-symbol.symbol
    (omega (arith, c.requires.room, c.loop-place.auto.all)) (next ∙ ap (λ s. take place e ++ s ∷ []) (sym same)) i.put in
    elim c.if-is_variable.branch [
      | then-is_variable+in_ok-variable+in_ok-slot_from+in_ok-push w ↦
          let variable : s.variable ≡ true = kind ∙ w.if-is_variable.true in
          let slot = w.in_ok-slot_from.field-0 in
          let old = map m c.loop-place.variables.all.items in
          let all = map m w.number.new.self.all.items in
          let more = w.in_ok-variable.ensures.grows in
          let is = w.in_ok-slot_from.ensures in
          let numbered = ap (slice_get all) is.1 ∙ w.in_ok-variable.ensures.number ∙ ap Some same in
          record {
            put = put;
            numbered = rw w.variables-is w.in_ok-variable.ensures.numbered;
            grows = rw w.variables-is (i.grows.0 ++ more.0, more.1 ∙ ap (λ w. w ++ more.0) i.grows.1 ∙ append_assoc (map m c.args.variables.now.all.items) i.grows.0 more.0);
            slots = (
              i.slots.0 ++ slot ∷ [],
              rw w.slots-is (pushed_behind c.args.slots.now.items i.slots.0 c.loop-place.slots.items w.push.new.self.items slot w.in_ok-push.ensures.items i.slots.1),
              rw (w.variables-is, w.constants-is) (slot_more old more.0 all e place run i.slots.0 s slot more.1 at variable is.0 numbered i.slots.2),
            );
          }
      | else-is_variable w ↦
          let constant : s.variable ≡ false = kind ∙ w.if-is_variable.false in
          record {
            put = put;
            numbered = rw w.variables-is i.numbered;
            grows = rw w.variables-is i.grows;
            slots = (
              i.slots.0,
              rw w.slots-is i.slots.1,
              rw (w.variables-is, w.constants-is) (constant_more (map m c.loop-place.variables.all.items) e place run i.slots.0 s at constant i.slots.2),
            );
          }
    ]

pub returns-clause-slots : goal.returns-clause-slots
returns-clause-slots g c = search (rules, all_slots, length-map)
