use Rattle.std.{proofs.Common.{rules, ◌≡◌, Option, Some, ℕ, List, subst, IfSome, All}, specs.Borrow.{Bor}}
use Rattle.mm_frame.specs.Language.{Base.{before}, Framing.{active_pairs}}
use Rattle.mm_machine.specs.Language.{Frame.{Symbol, AreSamePairs}, Names.{AreDistinct}, NumberedSymbols.{kept_pairs, AreInOrder, IsPairNumbered, by_number}, Renaming.{renamed_pairs}}
use Rattle.mm_machine.specs.{Language.{CodeLists.{meant_pairs}, Numbering.{unnaming}, RunLaws.{NumbersKeepPairs}}, declared.symbol.NumberedSymbol.{NumberedSymbol}}
use Rattle.mm_verdict.proofs.assertion.active.Goals as goal

abbrev Kept : Type 0
Kept = Bor (List (NumberedSymbol × NumberedSymbol))

-- what is kept is answered
answered : NumbersKeepPairs → (names : List (List ℕ)) (active : List (Symbol × Symbol)) (found : Option Kept) (read : Kept) → AreDistinct names → found ≡ Some read →
    IfSome found (λ pairs. AreSamePairs (kept_pairs names pairs.now) active) → IfSome found (λ pairs. All (IsPairNumbered names) pairs.now) → AreSamePairs (meant_pairs by_number read.now) (renamed_pairs (unnaming names) active)
answered keep names active found read distinct e same numbered =
    keep names distinct read.now active (subst (λ (o : Option Kept). IfSome o (λ pairs. All (IsPairNumbered names) pairs.now)) e numbered)
    (subst (λ (o : Option Kept). IfSome o (λ pairs. AreSamePairs (kept_pairs names pairs.now) active)) e same)

pub returns-clause-same : goal.returns-clause-same
returns-clause-same c names view is proof =
    search (rules, answered c.numbers_keep_pairs.ensures names (active_pairs (before view c.args.number)) c.pairs.result c.unwrap.result is.distinct c.unwrap.ensures (c.pairs.ensures.pairs names view is) (c.pairs.ensures.numbered names view is))

-- what is kept is in order
in_order : (found : Option Kept) (read : Kept) → found ≡ Some read → IfSome found (λ pairs. AreInOrder pairs.now) → AreInOrder read.now
in_order found read e order = subst (λ (o : Option Kept). IfSome o (λ pairs. AreInOrder pairs.now)) e order

pub returns-clause-order : goal.returns-clause-order
returns-clause-order c = c.numbers_keep_order.ensures c.unwrap.result.now (in_order c.pairs.result c.unwrap.result c.unwrap.ensures (c.pairs.ensures.order c.requires.0 c.requires.1))
