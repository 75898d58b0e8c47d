use Rattle.std.{proofs.{Common.{ℕ, List, refl, sym, subst, arith}, lemmas.Slice.Zip.{AllZip-long}}, specs.List.{AllZip}}
use Rattle.mm_frame.specs.{declared.base.Base.TheInside.{Inside}, Language.{Base.{BaseView}, Answering.{IsBaseBy}}, Code.BaseInside.{answers_of}}
use Rattle.mm_frame.proofs.lemmas.{base.{AnswerLemmas.{base_told, labels_told}, SaidLabels.{said_labelled}}, frames.FrameNumbers.{kinds_said}}
use Rattle.mm_machine.specs.Language.Names.{AreDistinct, Begins}
use Rattle.mm_statement.specs.Language.Statement.{Says}
use Rattle.mm_frame.proofs.base.Base.of_items.Goals as goal

pub invariant_of-result : goal.invariant_of-result
invariant_of-result c =
    let read = c.in_ok-draft.ensures.read in
    let names = c.read_all.new.names in
    let parts = c.parts.ensures names read.0 (read.2 names c.distinct.ensures (λ n name there. there)) in
    record {
      rows = parts.kept;
      labels = labels_told names read.0 c.parts.result parts;
    }

pub returns-clause-base : goal.returns-clause-base
returns-clause-base c =
    let files = c.args.files.now in
    let items = c.args.items.items in
    let read = c.in_ok-draft.ensures.read in
    let each = subst (λ w. AllZip (Says files) w read.0) c.deref.ensures.value read.1 in
    let base : BaseView = read.0 in
    let built : Inside = record { items = c.args.items; parts = c.parts.result } in
    let count = AllZip-long (Says files) items base each in
    let by : (all : List (List ℕ)) → AreDistinct all → Begins c.read_all.new.names all → IsBaseBy all base (answers_of built) = λ all distinct more.
    base_told all base built distinct (sym count) (omega (arith, count, c.requires.few)) (said_labelled files items base each) (kinds_said files items base each)
    (c.parts.ensures all base (read.2 all distinct more)) in
    (refl, (base, each, by c.read_all.new.names c.distinct.ensures (λ n name there. there), by))
