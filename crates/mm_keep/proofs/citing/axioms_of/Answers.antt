use Rattle.std.proofs.{Common.{◌<◌, Bool, true, List, drop, length, set, sym, ◌∙◌, subst₂, arith, length-set}, lemmas.Result.{IfOk-weaker}}
use Rattle.mm_keep.{specs.Code.Cited.{MarksBehind}, proofs.ChainLemmas.{axioms_marked, one_marked, take_front}}
use Rattle.mm_keep.proofs.citing.axioms_of.Goals as goal

pub returns : goal.returns
returns c = IfOk-weaker c.marked_axioms.result _ _ (λ numbers those names view is are.
    let i = c.args.i in
    let empty = c.in_ok-marks.marks.items in
    let first = set empty i true in
    let after = c.mark_behind.new.marks in
    let within : i < length view = omega (arith, c.requires.4, c.requires.3.count, are.count) in
    let count = c.in_ok-marks.ensures.count in
    let one = one_marked empty i (omega (arith, count)) c.in_ok-marks.ensures.none in
    let led = c.mark_behind.ensures names view is are in
    let long = sym c.deref_mut.ensures.len ∙ sym led.count in
    let left = c.deref.ensures.value ∙ take_front after (drop (length after) first) c.in_ok-marks.marks.len long in
    let behind = subst₂ (λ (fresh marks : List Bool). MarksBehind view fresh marks) c.deref_mut.ensures.value (sym left) led in
    axioms_marked view i first c.deref.result.now numbers.items within (length-set empty i true ∙ count) one.0 one.1 behind (those view (names, is.read_in.base))) c.marked_axioms.ensures
