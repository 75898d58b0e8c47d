use Rattle.std.proofs.{Common.{◌≡◌, ◌∷◌, ◌∙◌, ap, sym, arith, length}, lemmas.Bool.{not-false}}
use Rattle.mm_script.{specs.Language.Commands.{pending}, proofs.GrowLemmas.{blank_line, reads_not, reads_pass, reads_then}}
use Rattle.mm_script.proofs.entry.first_line.Goals as goal

pub loop-line-init : goal.loop-line-init
loop-line-init g c = record { reads = reads_not _ _; fewer = omega arith }

pub returns-in_err-line-clause-reads : goal.returns-in_err-line-clause-reads
returns-in_err-line-clause-reads g c = reads_then _ _ _ _ _ _ c.loop-line.invariant.reads c.in_err-line.ensures.grows

pub returns-then-line-gt0-clause-reads : goal.returns-then-line-gt0-clause-reads
returns-then-line-gt0-clause-reads g c = reads_then _ _ _ _ _ _ c.loop-line.invariant.reads c.in_ok-line.ensures.grows

pub loop-line-preserved : goal.loop-line-preserved
loop-line-preserved g c =
    let start : c.in_ok-line.line.start ≡ 0 = c.in_ok-line.ensures.start in
    let here = blank_line (pending c.read_line.new.input) _ c.in_ok-line.line c.in_ok-line.ensures.line (not-false _ c.if-not-line.false) (omega arith) in
    let passed : pending c.read_line.new.input ≡ 10 ∷ pending c.pass.new.self = (rw start at here) ∙ ap (λ xs. 10 ∷ xs) (sym c.pass.ensures) in
    record {
      reads = reads_pass _ _ _ _ _ (reads_then _ _ _ _ _ _ c.loop-line.invariant.reads c.in_ok-line.ensures.grows) passed;
      fewer = omega (arith, c.in_ok-line.ensures.fewer, ap length passed);
    }
