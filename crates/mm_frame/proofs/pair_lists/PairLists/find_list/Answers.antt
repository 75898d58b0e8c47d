use Rattle.std.proofs.Common.{◌≡◌, ℕ, Option, Some, None, List, [], IfSome, append-nil, sym, subst, ◌∙◌}
use Rattle.mm_statement.specs.Language.Item.{Said}
use Rattle.mm_frame.specs.{Language.{Sound.{AreSound}, Scope.{active_numbers}, Framing.{active_pairs}}, Code.{LastItems.{is_disjoint_item}, KeptPairLists.{AreListsFor, IsList, listed_for}}}
use Rattle.mm_frame.{specs.Code.KeptSymbols.{AreSymbols}, proofs.lemmas.pairs.PairListLemmas.{whole_front}}
use Rattle.mm_frame.proofs.pair_lists.PairLists.find_list.Goals as goal

pub returns : goal.returns
returns c = by c.list_for.result c.list_for.ensures
  where
    by : (found : Option ℕ) → found ≡ listed_for c.args.self.now c.count_to_last.result
        → IfSome found (λ k. (all : List (List ℕ)) (before : List Said) → AreSound before → AreSymbols all before c.args.expressions.now
        → c.args.disjoints.now ≡ active_numbers is_disjoint_item before → AreListsFor all before c.args.self.now → IsList all c.args.self.now k (active_pairs before))
    by None e = tt
    by (Some k) e = λ all before h a d m.
        let front = c.count_to_last.ensures all before [] a (append-nil c.args.disjoints.now ∙ d) in
        subst (IsList all c.args.self.now k) (whole_front before c.args.disjoints.now c.count_to_last.result h d front) (m c.count_to_last.result k (sym e)).list
