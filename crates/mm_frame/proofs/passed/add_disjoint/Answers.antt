use Rattle.std.proofs.{Common.{◌++◌, ◌∷◌, [], ◌∙◌, ap, sym, subst}, lemmas.Bool.{false≢true}}
use Rattle.mm_statement.specs.Language.Item.{is_kind, Disjoint}
use Rattle.mm_frame.{specs.Code.{KeptDisjointRows.{KnowsPairs}, KeptScope.{taken}}, proofs.lemmas.pairs.DisjointRowLemmas.{pairs_passed, pairs_taken}}
use Rattle.mm_frame.proofs.passed.add_disjoint.Goals.{else-sound-via-then-sound+else-is_disjoint, else-sound-via-else-sound}
use Rattle.mm_frame.proofs.passed.add_disjoint.Goals as goal

pub returns-else-sound : goal.returns-else-sound
returns-else-sound c all before said distinct sounds kind number marks numbers sound known = pairs_passed all before said c.args.item.sound c.args.pairs.now (elim c.else-sound.branch [
  | else-sound-via-then-sound+else-is_disjoint w ↦ λ t. sym (ap (is_kind Disjoint) kind) ∙ sym w.is_disjoint.ensures ∙ w.if-is_disjoint.false
  | else-sound-via-else-sound w ↦ λ t. absurd (false≢true (sym w.if-sound.false ∙ t))
]) known

pub returns-in_ok-add : goal.returns-in_ok-add
returns-in_ok-add c all before said distinct sounds kind number marks numbers sound known =
    let disjoint = sym (ap (is_kind Disjoint) kind) ∙ sym c.is_disjoint.ensures ∙ c.if-is_disjoint.true in
    subst (λ b. KnowsPairs all (before ++ taken b said ∷ []) c.add.new.self) (sym c.if-sound.true)
    (pairs_taken all before said c.args.numbers.now c.args.pairs.now c.add.new.self c.args.blocks.now c.args.item.number distinct (sound c.if-sound.true) disjoint (numbers disjoint) (sym number) marks known c.in_ok-add.ensures)
