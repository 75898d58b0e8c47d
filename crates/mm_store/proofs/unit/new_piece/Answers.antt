use Rattle.std.proofs.{lemmas.Grind.{common_steps}, Common.{sym, ap, subst, length, arith}}
use Rattle.mm_store.{specs.Code.Units.{IsUnit}, proofs.lemmas.edits.EditLemmas.{if_err}}
use Rattle.mm_store.proofs.unit.new_piece.Goals as goal

pub returns-in_err-unit-clause-err : goal.returns-in_err-unit-clause-err
returns-in_err-unit-clause-err c = grind (arith, common_steps, if_err) steps 200000

pub kept_piece-requires-clause-text : goal.kept_piece-requires-clause-text
kept_piece-requires-clause-text c = record { unit = c.in_ok-unit.ensures.ok.holds; small = grind (arith, c.fits.ensures.0, c.fits.ensures.1, c.len.ensures.value) }

pub returns-in_err-kept_piece-clause-err : goal.returns-in_err-kept_piece-clause-err
returns-in_err-kept_piece-clause-err c = grind (arith, common_steps, if_err) steps 200000

pub returns-clause-unit : goal.returns-clause-unit
returns-clause-unit c = subst (IsUnit c.args.text.now) (sym c.in_ok-kept_piece.ensures.text) c.in_ok-unit.ensures.ok

pub returns-clause-fits : goal.returns-clause-fits
returns-clause-fits c = grind (arith, c.fits.ensures.0, c.fits.ensures.1, ap length c.in_ok-kept_piece.ensures.text, c.len.ensures.value)
