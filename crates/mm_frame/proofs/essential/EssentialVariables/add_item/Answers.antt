use Rattle.std.proofs.Common.{ℕ, ◌∷◌, ◌++◌, ◌<◌, [], List, drop, take, sym, subst, ◌∙◌, length, Contains}
use Rattle.mm_frame.specs.{declared.essential.EssentialVariable.{EssentialVariable}, Language.Scope.{active_numbers}, Code.{LastItems.{is_essential_item, IsRising}, KeptLists.{item_list}}}
use Rattle.mm_frame.{specs.Code.{KeptVariables.{AddsAll, AreVariablesOf}, PairOrder.{is_among}}, proofs.lemmas.frames.HypothesisNumbers.{active_numbers_rise}}
use Rattle.mm_frame.proofs.lemmas.{frames.VariableLemmas.{variables_left, variables_added}, lists.{Members.{in_contains}, Rising.{among_in}}}
use Rattle.mm_machine.specs.declared.symbol.NumberedSymbol.{NumberedSymbol}
use Rattle.mm_frame.proofs.essential.EssentialVariables.add_item.Goals as goal

pub returns-else-is_among : goal.returns-else-is_among
returns-else-is_among c before item old symbols number essentials long expressions are =
    let rising = subst IsRising (sym essentials) (active_numbers_rise is_essential_item (before ++ item ∷ [])) in
    let found = c.args.self.now.found.items in
    let dropped = subst (λ (w : List ℕ). (v : EssentialVariable) → Contains (drop c.left_count-count.result found) v → (n : ℕ) → Contains w n → n < v.number) essentials
    (subst (λ (w : List EssentialVariable). (v : EssentialVariable) → Contains (drop c.left_count-count.result w) v → (n : ℕ) → Contains c.args.essentials.now n → n < v.number) c.deref.ensures.value (c.left_count-count.ensures.dropped rising)) in
    let left = variables_left before item old symbols found c.left_count-count.result long are dropped ((λ i. is_among (sym essentials i) (sym number i)) ∙ sym (c.is_among.ensures rising) ∙ c.if-is_among.false) in
    subst (λ (w : List EssentialVariable). AreVariablesOf c.args.essentials.now c.args.expressions.now w) (sym c.truncate.ensures.items)
    (subst (λ (w : List ℕ). AreVariablesOf w c.args.expressions.now (take c.left_count-count.result found)) (sym essentials)
    (subst (λ (w : List (List NumberedSymbol)). AreVariablesOf (active_numbers is_essential_item (before ++ item ∷ [])) w (take c.left_count-count.result found)) (sym expressions) left))

pub returns-in_ok-add_all : goal.returns-in_ok-add_all
returns-in_ok-add_all c before item old symbols number essentials long expressions are =
    let active = active_numbers is_essential_item (before ++ item ∷ []) in
    let rising = subst IsRising (sym essentials) (active_numbers_rise is_essential_item (before ++ item ∷ [])) in
    let found = c.args.self.now.found.items in
    let new = c.add_all.new.self.found.items in
    let dropped = subst (λ (w : List ℕ). (v : EssentialVariable) → Contains (drop c.left_count-count.result found) v → (n : ℕ) → Contains w n → n < v.number) essentials
    (subst (λ (w : List EssentialVariable). (v : EssentialVariable) → Contains (drop c.left_count-count.result w) v → (n : ℕ) → Contains c.args.essentials.now n → n < v.number) c.deref.ensures.value (c.left_count-count.ensures.dropped rising)) in
    let among = sym (c.is_among.ensures rising) ∙ c.if-is_among.true in
    let there = (λ i. is_among (sym essentials i) (sym number i)) ∙ among in
    let adds = c.in_ok-add_all.ensures rising (in_contains c.args.number c.args.essentials.now (among_in c.args.essentials.now c.args.number among)) in
    let cut = subst (λ (w : List EssentialVariable). AddsAll c.args.essentials.now c.args.number c.at.result.now w new) c.truncate.ensures.items adds in
    let kept = subst (λ (w : List NumberedSymbol). AddsAll c.args.essentials.now c.args.number w (take c.left_count-count.result found) new) (c.at.ensures ∙ (λ i. item_list (expressions i) (number i))) cut in
    let same = subst (λ (w : List ℕ). AddsAll w c.args.number (item_list (old ++ symbols ∷ []) (length before)) (take c.left_count-count.result found) new) essentials kept in
    let here = subst (λ (w : ℕ). AddsAll active w (item_list (old ++ symbols ∷ []) (length before)) (take c.left_count-count.result found) new) number same in
    subst (λ (w : List ℕ). AreVariablesOf w c.args.expressions.now new) (sym essentials)
    (subst (λ (w : List (List NumberedSymbol)). AreVariablesOf active w new) (sym expressions) (variables_added before item old symbols found new c.left_count-count.result long are dropped there here))
