use Rattle.std.proofs.{Common.{◌≡◌, arith}, lemmas.{Bool.{not-false}, Grind.{common_steps}}}
use Rattle.mm_script.{specs.Language.Commands.{pending}, proofs.GrowLemmas.{blank_line, blank_more, blanks_grown, grows_then}}
use Rattle.mm_script.proofs.script_lines.read_some_line.Goals as goal

pub loop-line-preserved : goal.loop-line-preserved
loop-line-preserved g c =
    let grows = c.in_ok-line.ensures.grows in
    let blanks = blanks_grown c.loop-line.input c.read_line.new.input _ _ c.args.from c.loop-line.start grows c.loop-line.invariant.blanks in
    let here = blank_line (pending c.read_line.new.input) _ c.in_ok-line.line c.in_ok-line.ensures.line (not-false _ c.if-not-line.false) (omega arith) in
    let start : c.in_ok-line.line.start ≡ c.loop-line.start = c.in_ok-line.ensures.start in
    grind (arith, common_steps, grows_then _ _ _ _ _ _ c.loop-line.invariant.grows grows, blank_more (pending c.read_line.new.input) c.args.from c.loop-line.start blanks (rw start at here)) steps 200000

pub returns-in_err-line-clause-grows : goal.returns-in_err-line-clause-grows
returns-in_err-line-clause-grows g c = grows_then _ _ _ _ _ _ c.loop-line.invariant.grows c.in_err-line.ensures.grows

pub returns-then-line-clause-grows : goal.returns-then-line-clause-grows
returns-then-line-clause-grows g c = grows_then _ _ _ _ _ _ c.loop-line.invariant.grows c.in_ok-line.ensures.grows
