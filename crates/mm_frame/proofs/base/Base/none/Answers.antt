use Rattle.std.{proofs.Common.{ap, sym, subst, arith, [], length}, specs.List.{AllZip}}
use Rattle.mm_frame.{specs.declared.base.Base.TheInside.{Inside}, proofs.lemmas.{base.{AnswerLemmas.{base_told, labels_told}, SaidLabels.{said_labelled}}, frames.FrameNumbers.{kinds_said}}}
use Rattle.mm_statement.specs.Language.Statement.{Says}
use Rattle.mm_frame.proofs.base.Base.none.Goals as goal

pub invariant_of-result : goal.invariant_of-result
invariant_of-result c = let parts = c.parts.ensures [] [] (c.in_ok-draft.ensures [] (λ i j name e f. cc)) in record { rows = parts.kept; labels = labels_told [] [] c.parts.result parts }

pub returns : goal.returns
returns c names files =
    let items = c.new.result.items in
    let built : Inside = record { items = c.new.result; parts = c.parts.result } in
    let each : AllZip (Says files) items [] = subst (λ w. AllZip (Says files) w []) (sym c.new.ensures.items) tt in (
      [],
      record {
        later = λ all distinct more. base_told all [] built distinct (ap length c.new.ensures.items) (omega arith) (said_labelled files items [] each) (kinds_said files items [] each)
            (c.parts.ensures all [] (c.in_ok-draft.ensures all distinct));
        each = each;
      },
    )
