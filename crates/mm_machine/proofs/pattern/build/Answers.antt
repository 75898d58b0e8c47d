use Rattle.std.proofs.lemmas.{Grind.{common_steps}, Bool.{false≢true}, List.{length-map}, Option.{slice_get_within}}
use Rattle.std.proofs.Common.{◌≡◌, ◌≤◌, ◌<◌, ◌+◌, ◌-◌, ℕ, map, take, drop, length, sym, ◌∙◌, subst, arith, append-nil}
use Rattle.mm_machine.specs.Code.Filling.{AreSlotsWithin, pattern_filled}
use Rattle.mm_machine.proofs.lemmas.machine.FillLemmas.{built_below, built_more, built_rest, built_slot, built_whole, given_at, slot_at, slot_known}
use Rattle.mm_machine.proofs.pattern.build.Goals as goal

pub loop-n-init : goal.loop-n-init
loop-n-init g c = grind (arith, common_steps, append-nil (take c.args.top (map g.S.Symbol.means c.args.all.now))) steps 200000

pub bounds-given-slots : goal.bounds-given-slots
bounds-given-slots g c =
    let slots = take (c.args.pattern.last - c.args.pattern.first) (drop c.args.pattern.first c.args.slots.now) in
    let k = slot_known c.args.given.now c.args.top (c.args.pattern.end - c.loop-n.from) slots c.loop-n.n (omega (arith, c.loop-n-test.true)) c.loop-n.invariant.slots in
    slice_get_within c.args.given.now (slot_at slots c.loop-n.n).variable (given_at c.args.given.now slots c.loop-n.n) k.0.0

pub overflow_sub-count : goal.overflow_sub-count
overflow_sub-count g c =
    let slots = take (c.args.pattern.last - c.args.pattern.first) (drop c.args.pattern.first c.args.slots.now) in
    let k = slot_known c.args.given.now c.args.top (c.args.pattern.end - c.loop-n.from) slots c.loop-n.n (omega (arith, c.loop-n-test.true)) c.loop-n.invariant.slots in
    k.0.1.0

pub returns-then-not-have_room-clause-below : goal.returns-then-not-have_room-clause-below
returns-then-not-have_room-clause-below g c =
    let m = g.S.Symbol.means in
    let is = c.loop-n.invariant in
    built_below (map m c.args.all.now) c.args.given.now _ c.args.top c.loop-n.at c.loop-n.from c.args.pattern.end is.low (omega (arith, c.requires.top, length-map c.args.all.now m))
    (map m c.loop-n.all) _ is.built

-- there is less room than is wanted
less_room : (at given constants all old top whole : ℕ) → (constants + given ≤ all - at - 4 → ⊥) → at + (constants + given) ≤ top + whole → all ≡ old → at + 4 ≤ all → old < top + whole + 4
less_room at given constants all old top whole less size e within = grind (arith, less, size, e, within)

pub returns-then-not-have_room-clause-built : goal.returns-then-not-have_room-clause-built
returns-then-not-have_room-clause-built g c =
    let m = g.S.Symbol.means in
    let is = c.loop-n.invariant in
    let old = map m c.args.all.now in
    let slots = take (c.args.pattern.last - c.args.pattern.first) (drop c.args.pattern.first c.args.slots.now) in
    let put = given_at c.args.given.now slots c.loop-n.n in
    let whole = pattern_filled old c.args.given.now c.args.slots.now c.args.pattern in
    let size = built_slot old c.args.given.now whole c.args.top c.loop-n.at c.loop-n.from c.args.pattern.end is.low (omega (arith, c.requires.top, length-map c.args.all.now m))
    (map m c.loop-n.all) slots c.loop-n.n (omega (arith, c.loop-n-test.true)) is.slots c.requires.fillable.within is.built (omega (arith, is.within, length-map c.loop-n.all m)) in
    less_room c.loop-n.at (put.end - put.start) (slot_at slots c.loop-n.n).constants (length c.loop-n.all) (length c.args.all.now) c.args.top (length whole)
    (λ fits. false≢true (sym c.if-not-have_room.true ∙ c.have_room.ensures.1 fits)) size is.count is.within

pub copy_on-requires-in-loop-n-clause-order : goal.copy_on-requires-in-loop-n-clause-order
copy_on-requires-in-loop-n-clause-order g c =
    let slots = take (c.args.pattern.last - c.args.pattern.first) (drop c.args.pattern.first c.args.slots.now) in
    let k = slot_known c.args.given.now c.args.top (c.args.pattern.end - c.loop-n.from) slots c.loop-n.n (omega (arith, c.loop-n-test.true)) c.loop-n.invariant.slots in
    omega (arith, k.0.1.0, k.0.1.1, c.loop-n.invariant.low)

pub loop-n-preserved : goal.loop-n-preserved
loop-n-preserved g c =
    let m = g.S.Symbol.means in
    let is = c.loop-n.invariant in
    let old = map m c.args.all.now in
    let slots = take (c.args.pattern.last - c.args.pattern.first) (drop c.args.pattern.first c.args.slots.now) in
    let n = c.loop-n.n in
    let some : n < length slots = omega (arith, c.loop-n-test.true) in
    let k = slot_known c.args.given.now c.args.top (c.args.pattern.end - c.loop-n.from) slots n some is.slots in
    record {
      count = c.copy_on-in-loop-n.ensures.count ∙ c.copy_on.ensures.count ∙ is.count;
      low = omega (arith, is.low);
      within = omega (arith, c.have_room.ensures.0 c.if-not-have_room.false, c.copy_on.ensures.count, c.copy_on-in-loop-n.ensures.count);
      from = omega (arith, k.1);
      slots = subst (λ size. AreSlotsWithin c.args.given.now c.args.top size (drop (n + 1) slots)) (omega arith) k.2;
      built = built_more old c.args.given.now (pattern_filled old c.args.given.now c.args.slots.now c.args.pattern) c.args.top c.loop-n.at c.loop-n.from c.args.pattern.end is.low
          (omega (arith, c.requires.top, length-map c.args.all.now m)) (map m c.loop-n.all) slots n some is.slots c.requires.fillable.within is.built
          (map m c.copy_on.new.all) (map m c.copy_on-in-loop-n.new.all) c.in_ok-copy_on.ensures.copied c.in_ok-copy_on-2.ensures.copied;
    }

pub returns-then-rest-all-clause-below : goal.returns-then-rest-all-clause-below
returns-then-rest-all-clause-below g c =
    let m = g.S.Symbol.means in
    let is = c.loop-n.invariant in
    built_below (map m c.args.all.now) c.args.given.now _ c.args.top c.loop-n.at c.loop-n.from c.args.pattern.end is.low (omega (arith, c.requires.top, length-map c.args.all.now m))
    (map m c.loop-n.all) _ is.built

pub returns-then-rest-all-clause-built : goal.returns-then-rest-all-clause-built
returns-then-rest-all-clause-built g c =
    let m = g.S.Symbol.means in
    let is = c.loop-n.invariant in
    let old = map m c.args.all.now in
    let slots = take (c.args.pattern.last - c.args.pattern.first) (drop c.args.pattern.first c.args.slots.now) in
    let size = built_rest old c.args.given.now (pattern_filled old c.args.given.now c.args.slots.now c.args.pattern) c.args.top c.loop-n.at c.loop-n.from c.args.pattern.end is.low
    (omega (arith, c.requires.top, length-map c.args.all.now m)) (map m c.loop-n.all) slots c.loop-n.n (omega (arith, c.loop-n-test.false))
    (omega (arith, is.within, length-map c.loop-n.all m)) is.from c.requires.fillable.within is.built in
    omega (arith, size, c.if-rest-all.true, is.count)

pub returns-clause-below : goal.returns-clause-below
returns-clause-below g c =
    let m = g.S.Symbol.means in
    let is = c.loop-n.invariant in
    let old = map m c.args.all.now in
    let slots = take (c.args.pattern.last - c.args.pattern.first) (drop c.args.pattern.first c.args.slots.now) in
    (built_whole old c.args.given.now (pattern_filled old c.args.given.now c.args.slots.now c.args.pattern) c.args.top c.loop-n.at c.loop-n.from c.args.pattern.end is.low
    (omega (arith, c.requires.top, length-map c.args.all.now m)) (map m c.loop-n.all) slots c.loop-n.n (omega (arith, c.loop-n-test.false))
    (omega (arith, is.within, length-map c.loop-n.all m)) is.from c.requires.fillable.within is.built (map m c.copy_on-2.new.all) c.in_ok-copy_on-3.ensures.copied).0

pub returns-clause-built : goal.returns-clause-built
returns-clause-built g c =
    let m = g.S.Symbol.means in
    let is = c.loop-n.invariant in
    let old = map m c.args.all.now in
    let slots = take (c.args.pattern.last - c.args.pattern.first) (drop c.args.pattern.first c.args.slots.now) in (
      omega (arith, c.if-rest-all.false, is.count, is.low, is.within),
      (built_whole old c.args.given.now (pattern_filled old c.args.given.now c.args.slots.now c.args.pattern) c.args.top c.loop-n.at c.loop-n.from c.args.pattern.end is.low
          (omega (arith, c.requires.top, length-map c.args.all.now m)) (map m c.loop-n.all) slots c.loop-n.n (omega (arith, c.loop-n-test.false))
          (omega (arith, is.within, length-map c.loop-n.all m)) is.from c.requires.fillable.within is.built (map m c.copy_on-2.new.all) c.in_ok-copy_on-3.ensures.copied).1,
    )
