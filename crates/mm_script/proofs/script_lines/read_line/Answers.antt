use Rattle.std.proofs.{lemmas.{Grind.{common_steps}, List.{take_rest}}, Common.{◌≡◌, ◌∙◌, ap, sym, subst, arith, length, drop, slice_range}}
use Rattle.mm_script.{specs.{Language.Commands.{pending}, Code.Stops.{IsOneLine}}, proofs.GrowLemmas.{found_line, no_feed_left, last_line, rest_of, grows_then, part_grown}}
use Rattle.mm_script.proofs.script_lines.read_line.Goals as goal

pub returns-in-Some-clause-line : goal.returns-in-Some-clause-line
returns-in-Some-clause-line g c =
    let bytes = pending c.loop-more.input in
    let is = rest_of c.pending-pending.result.now bytes c.loop-more.end c.pending-pending.ensures in
    let found = c.in-Some.ensures in
    found_line bytes _ _ c.args.start c.loop-more.end c.in-Some.more is c.loop-more.invariant.ordered c.loop-more.invariant.within c.loop-more.invariant.none
    (λ k low. found.0.before k (omega arith) low) found.0.high found.1

pub returns-in_err-read_on-clause-read : goal.returns-in_err-read_on-clause-read
returns-in_err-read_on-clause-read g c = λ read.
    let bytes = pending c.loop-more.input in
    let is = rest_of c.pending-pending.result.now bytes c.loop-more.end c.pending-pending.ensures in
    let one : IsOneLine (drop c.args.start bytes) = no_feed_left bytes _ c.args.start c.loop-more.end is c.loop-more.invariant.ordered c.loop-more.invariant.none
    (λ k low. c.in_default.ensures k (omega arith) low) in
    subst (λ xs. IsOneLine (drop c.args.start xs)) (sym c.in_err-read_on.ensures.kept) one

pub returns-then-not-branch-clause-line : goal.returns-then-not-branch-clause-line
returns-then-not-branch-clause-line g c =
    let bytes = pending c.loop-more.input in
    let is = rest_of c.pending-pending.result.now bytes c.loop-more.end c.pending-pending.ensures in
    let one : IsOneLine (drop c.args.start bytes) = no_feed_left bytes _ c.args.start c.loop-more.end is c.loop-more.invariant.ordered c.loop-more.invariant.none
    (λ k low. c.in_default.ensures k (omega arith) low) in
    let ended = c.in_ok-read_on.ensures.end c.if-not-branch.true in
    grind (arith, common_steps, last_line) steps 200000

pub loop-more-preserved : goal.loop-more-preserved
loop-more-preserved g c =
    let bytes = pending c.loop-more.input in
    let count : length c.pending-pending.result.now ≡ length bytes = ap length c.pending-pending.ensures in
    let is = rest_of c.pending-pending.result.now bytes c.loop-more.end c.pending-pending.ensures in
    let one : IsOneLine (drop c.args.start bytes) = no_feed_left bytes _ c.args.start c.loop-more.end is c.loop-more.invariant.ordered c.loop-more.invariant.none
    (λ k low. c.in_default.ensures k (omega arith) low) in
    let grows = c.in_ok-read_on.ensures.grows in
    let whole = ap (slice_range bytes c.args.start) count ∙ take_rest bytes c.args.start in
    let same = part_grown c.loop-more.input c.read_on.new.self _ _ c.args.start (length c.pending-pending.result.now) grows (omega (arith, count)) (omega (arith, count)) in
    grind (arith, common_steps, grows_then _ _ _ _ _ _ c.loop-more.invariant.grows grows) steps 200000

pub returns-in_err-read_on-clause-grows : goal.returns-in_err-read_on-clause-grows
returns-in_err-read_on-clause-grows g c = grows_then _ _ _ _ _ _ c.loop-more.invariant.grows c.in_err-read_on.ensures.grows

pub returns-then-not-branch-clause-grows : goal.returns-then-not-branch-clause-grows
returns-then-not-branch-clause-grows g c = grows_then _ _ _ _ _ _ c.loop-more.invariant.grows c.in_ok-read_on.ensures.grows
