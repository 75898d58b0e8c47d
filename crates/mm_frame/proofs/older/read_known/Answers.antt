use Rattle.std.proofs.{Common.{ℕ, List, sym, subst}, lemmas.{Bool.{MatchBool-at_false, MatchBool-at_true}, Result.{on_ok_weaker}}}
use Rattle.mm_statement.specs.Language.Item.{Said}
use Rattle.mm_frame.{specs.Code.{KeptBase.{IsDraft}, Numbers.{AreNameNumbers}}, proofs.lemmas.reading.KnownItems.{numbers_on}}
use Rattle.mm_frame.proofs.older.read_known.Goals as goal

pub returns-then-branch : goal.returns-then-branch
returns-then-branch c =
    let names = c.args.names.now in
    let statement = c.known-statement.result in
    let says = c.known-statement.ensures.says in
    let numbers = c.requires.known.symbols statement says in
    let takes = MatchBool-at_true _ _ c.if-branch.true c.in_ok-take_known.ensures in (
      statement,
      says,
      λ said stands all distinct more.
          takes all said (stands names c.distinct.ensures (λ n name there. there)) (stands all distinct more) numbers (numbers_on names all _ statement.symbols more numbers),
    )

pub returns : goal.returns
returns c =
    let names = c.args.names.now in
    let statement = c.known-statement.result in
    let numbers = c.requires.known.symbols statement c.known-statement.ensures.says in
    let same = MatchBool-at_false _ _ c.if-branch.false c.in_ok-take_known.ensures in
    let aside = λ (all : List (List ℕ)) (said : List Said) (d : IsDraft all said c.args.draft.now). subst (IsDraft all said) (sym same) d in
    let put = λ (all : List (List ℕ)) (m : AreNameNumbers all _ statement.symbols). subst (λ (n : List ℕ). AreNameNumbers all n statement.symbols) (sym c.in_ok-put_numbers.ensures) m in
    on_ok_weaker c.add_numbered.result
    (λ takes. (
      statement,
      c.known-statement.ensures.says,
      λ said stands all distinct more.
          takes all said (aside names said (stands names c.distinct.ensures (λ n name there. there))) (aside all said (stands all distinct more))
          (put names numbers) (put all (numbers_on names all _ statement.symbols more numbers)),
    ))
    c.add_numbered.ensures
