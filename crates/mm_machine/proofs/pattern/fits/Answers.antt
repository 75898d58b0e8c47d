use Rattle.std.proofs.lemmas.{Bool.{false≢true}, List.{length-drop, length-map, length-take}, Option.{slice_get_within}}
use Rattle.std.proofs.Common.{◌≡◌, ◌<◌, ◌+◌, ◌-◌, map, take, drop, length, sym, ◌∙◌, ap, subst, arith}
use Rattle.mm_machine.specs.Code.Filling.{AreSlotsWithin, pattern_filled}
use Rattle.mm_machine.proofs.lemmas.machine.FillLemmas.{fits_constants, fits_given, fits_rest, fits_room, fitting_more, given_at, slot_at, slot_known}
use Rattle.mm_machine.proofs.pattern.fits.Goals as goal

pub bounds-given-slots : goal.bounds-given-slots
bounds-given-slots g c =
    let slots = take (c.args.pattern.last - c.args.pattern.first) (drop c.args.pattern.first c.args.slots.now) in
    let k = slot_known c.args.given.now (length c.args.all.now - 4) (c.args.pattern.end - c.loop-n.from) slots c.loop-n.n (omega (arith, c.loop-n-test.true)) c.loop-n.invariant.slots in
    slice_get_within c.args.given.now (slot_at slots c.loop-n.n).variable (given_at c.args.given.now slots c.loop-n.n) k.0.0

pub overflow_sub-count : goal.overflow_sub-count
overflow_sub-count g c =
    let slots = take (c.args.pattern.last - c.args.pattern.first) (drop c.args.pattern.first c.args.slots.now) in
    let k = slot_known c.args.given.now (length c.args.all.now - 4) (c.args.pattern.end - c.loop-n.from) slots c.loop-n.n (omega (arith, c.loop-n-test.true)) c.loop-n.invariant.slots in
    k.0.1.0

pub returns-then-not-have_room : goal.returns-then-not-have_room
returns-then-not-have_room g c = (
  λ t. absurd (false≢true t),
  λ is_whole.
      let m = g.S.Symbol.means in
      let is = c.loop-n.invariant in
      let all = map m c.args.all.now in
      let slots = take (c.args.pattern.last - c.args.pattern.first) (drop c.args.pattern.first c.args.slots.now) in
      absurd (false≢true (sym c.if-not-have_room.true ∙ c.have_room.ensures.1 (fits_room all c.args.given.now c.args.entry
      (pattern_filled all c.args.given.now c.args.slots.now c.args.pattern) (length c.args.all.now - 4) c.loop-n.at c.loop-n.from c.args.pattern.end (omega (arith, length-map c.args.all.now m, c.requires.room))
      c.requires.fillable.within is.within slots c.loop-n.n (omega (arith, c.loop-n-test.true)) is.slots is.fitting is_whole))),
)

pub returns-then-not-are_same : goal.returns-then-not-are_same
returns-then-not-are_same g c = (
  λ t. absurd (false≢true t),
  λ is_whole.
      let m = g.S.Symbol.means in
      let is = c.loop-n.invariant in
      let all = map m c.args.all.now in
      let slots = take (c.args.pattern.last - c.args.pattern.first) (drop c.args.pattern.first c.args.slots.now) in
      absurd (false≢true (sym c.if-not-are_same.true ∙ c.are_same.ensures.1 (fits_constants all c.args.given.now c.args.entry
      (pattern_filled all c.args.given.now c.args.slots.now c.args.pattern) (length c.args.all.now - 4) c.loop-n.at c.loop-n.from c.args.pattern.end (omega (arith, length-map c.args.all.now m, c.requires.room))
      c.requires.fillable.within is.within slots c.loop-n.n (omega (arith, c.loop-n-test.true)) is.slots is.fitting is_whole))),
)

pub are_same-requires-in-loop-n-clause-other : goal.are_same-requires-in-loop-n-clause-other
are_same-requires-in-loop-n-clause-other g c =
    let slots = take (c.args.pattern.last - c.args.pattern.first) (drop c.args.pattern.first c.args.slots.now) in
    let k = slot_known c.args.given.now (length c.args.all.now - 4) (c.args.pattern.end - c.loop-n.from) slots c.loop-n.n (omega (arith, c.loop-n-test.true)) c.loop-n.invariant.slots in
    omega (arith, k.0.1.0, k.0.1.1)

pub returns-then-not-are_same-2 : goal.returns-then-not-are_same-2
returns-then-not-are_same-2 g c = (
  λ t. absurd (false≢true t),
  λ is_whole.
      let m = g.S.Symbol.means in
      let is = c.loop-n.invariant in
      let all = map m c.args.all.now in
      let slots = take (c.args.pattern.last - c.args.pattern.first) (drop c.args.pattern.first c.args.slots.now) in
      absurd (false≢true (sym c.if-not-are_same-2.true ∙ c.are_same-in-loop-n.ensures.1 (fits_given all c.args.given.now c.args.entry
      (pattern_filled all c.args.given.now c.args.slots.now c.args.pattern) (length c.args.all.now - 4) c.loop-n.at c.loop-n.from c.args.pattern.end (omega (arith, length-map c.args.all.now m, c.requires.room))
      c.requires.fillable.within is.within slots c.loop-n.n (omega (arith, c.loop-n-test.true)) is.slots is.fitting is_whole))),
)

pub loop-n-preserved : goal.loop-n-preserved
loop-n-preserved g c =
    let m = g.S.Symbol.means in
    let is = c.loop-n.invariant in
    let all = map m c.args.all.now in
    let slots = take (c.args.pattern.last - c.args.pattern.first) (drop c.args.pattern.first c.args.slots.now) in
    let n = c.loop-n.n in
    let some : n < length slots = omega (arith, c.loop-n-test.true) in
    let k = slot_known c.args.given.now (length c.args.all.now - 4) (c.args.pattern.end - c.loop-n.from) slots n some is.slots in
    let room = c.have_room.ensures.0 c.if-not-have_room.false in
    record {
      within = omega (arith, room, is.within);
      from = omega (arith, k.1);
      slots = subst (λ size. AreSlotsWithin c.args.given.now (length c.args.all.now - 4) size (drop (n + 1) slots)) (omega arith) k.2;
      fitting = fitting_more all c.args.given.now c.args.entry (pattern_filled all c.args.given.now c.args.slots.now c.args.pattern) (length c.args.all.now - 4) c.loop-n.at c.loop-n.from
          c.args.pattern.end (omega (arith, length-map c.args.all.now m, c.requires.room)) c.requires.fillable.within is.within slots n some is.slots is.fitting room
          (c.are_same.ensures.0 c.if-not-are_same.false) (c.are_same-in-loop-n.ensures.0 c.if-not-are_same-2.false);
    }

pub returns-then-rest-entry : goal.returns-then-rest-entry
returns-then-rest-entry g c =
    let m = g.S.Symbol.means in
    let is = c.loop-n.invariant in
    let all = map m c.args.all.now in
    let slots = take (c.args.pattern.last - c.args.pattern.first) (drop c.args.pattern.first c.args.slots.now) in
    let end = c.args.pattern.end in
    let rest = fits_rest all c.args.given.now c.args.entry (pattern_filled all c.args.given.now c.args.slots.now c.args.pattern) c.loop-n.at c.loop-n.from end slots c.loop-n.n
    (omega (arith, c.loop-n-test.false)) is.fitting in (
      λ t. absurd (false≢true t),
      λ is_whole.
          let one = length-take (c.args.entry.end - c.loop-n.at) (drop c.loop-n.at all) in
          let other = length-take (end - c.loop-n.from) (drop c.loop-n.from all) in
          absurd (c.if-rest-entry.true (omega (
            arith,
            ap length (rest.1 is_whole),
            one,
            other,
            length-drop c.loop-n.at all,
            length-drop c.loop-n.from all,
            c.requires.fillable.within,
            c.requires.entry.1,
            length-map c.args.all.now m,
            is.within,
            is.from,
          ))),
    )

pub returns : goal.returns
returns g c =
    let m = g.S.Symbol.means in
    let is = c.loop-n.invariant in
    let all = map m c.args.all.now in
    let slots = take (c.args.pattern.last - c.args.pattern.first) (drop c.args.pattern.first c.args.slots.now) in
    let end = c.args.pattern.end in
    let rest = fits_rest all c.args.given.now c.args.entry (pattern_filled all c.args.given.now c.args.slots.now c.args.pattern) c.loop-n.at c.loop-n.from end slots c.loop-n.n
    (omega (arith, c.loop-n-test.false)) is.fitting in
    let long : end - c.loop-n.from ≡ c.args.entry.end - c.loop-n.at = omega (arith, c.if-rest-entry.false) in (
      λ t. rest.0 (ap (λ n. take n (drop c.loop-n.at all)) (sym long) ∙ c.are_same-2.ensures.0 t),
      λ is_whole. c.are_same-2.ensures.1 (ap (λ n. take n (drop c.loop-n.at all)) long ∙ rest.1 is_whole),
    )
