use Rattle.std.proofs.{lemmas.{Grind.{common_steps}, Bool.{false≢true}, Option.{none-some}}, Common.{refl, zero, suc, arith, codes}}
use Rattle.mm_frame.specs.Language.{Base.{AreLabelled}, Examples.{base}}
use Rattle.mm_frame.proofs.examples.frames_are_read_so.Goals as goal

pub returns-clause-own : goal.returns-clause-own
returns-clause-own c = grind (arith, common_steps, false≢true) steps 200000

pub returns-clause-labelled : goal.returns-clause-labelled
returns-clause-labelled c = (labels, λ labelled. let label = labelled 0 refl in none-some label.0 label.1)
  where
    labels : AreLabelled base
    labels zero is = absurd (false≢true is)
    labels (suc zero) is = absurd (false≢true is)
    labels (suc (suc zero)) is = (codes "wp", refl)
    labels (suc (suc (suc zero))) is = (codes "wq", refl)
    labels (suc (suc (suc (suc zero)))) is = (codes "wr", refl)
    labels (suc (suc (suc (suc (suc zero))))) is = (codes "wi", refl)
    labels (suc (suc (suc (suc (suc (suc zero)))))) is = absurd (false≢true is)
    labels (suc (suc (suc (suc (suc (suc (suc zero))))))) is = absurd (false≢true is)
    labels (suc (suc (suc (suc (suc (suc (suc (suc zero)))))))) is = (codes "h", refl)
    labels (suc (suc (suc (suc (suc (suc (suc (suc (suc zero))))))))) is = (codes "th", refl)
    labels (suc (suc (suc (suc (suc (suc (suc (suc (suc (suc zero)))))))))) is = absurd (false≢true is)
    labels (suc (suc (suc (suc (suc (suc (suc (suc (suc (suc (suc zero))))))))))) is = (codes "wx", refl)
    labels (suc (suc (suc (suc (suc (suc (suc (suc (suc (suc (suc (suc zero)))))))))))) is = absurd (false≢true is)
    labels (suc (suc (suc (suc (suc (suc (suc (suc (suc (suc (suc (suc (suc zero))))))))))))) is = (codes "tq", refl)
    labels (suc (suc (suc (suc (suc (suc (suc (suc (suc (suc (suc (suc (suc (suc k)))))))))))))) is = absurd (false≢true is)
