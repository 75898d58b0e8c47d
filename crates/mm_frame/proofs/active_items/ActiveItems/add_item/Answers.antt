use Rattle.std.proofs.{Common.{arith, ℕ, List, true, ◌≡◌, ◌&&◌, ◌∙◌, ap, sym, subst}, lemmas.Grind.{common_steps}}
use Rattle.mm_machine.specs.declared.symbol.NumberedSymbol.{NumberedSymbol}
use Rattle.mm_statement.specs.Language.Item.{is_kind, Disjoint, Essential}
use Rattle.mm_frame.specs.Code.{KeptActiveItems.{changes_active}, KeptScope.{taken}, KeptVariables.{AreVariablesOf}}
use Rattle.mm_frame.proofs.lemmas.{base.BaseLemmas.{essential_sort, disjoint_sort, numbers_still, not_changed}, frames.VariableLemmas.{variables_stay}}
use Rattle.mm_frame.proofs.active_items.ActiveItems.add_item.Goals as goal

pub returns-then-not-changes_active : goal.returns-then-not-changes_active
returns-then-not-changes_active c before said old symbols kind number marks long expressions a =
    let sound = c.args.item.sound in
    let still = λ (s : sound ≡ true). not_changed said.kind sound s (sym (c.changes_active.ensures ∙ ap (λ k. sound && changes_active k) kind) ∙ c.if-not-changes_active.true) in
    let found = c.args.self.now.variables.found.items in
    record {
      essentials = a.essentials ∙ numbers_still (is_kind Essential) essential_sort before said sound (λ s. (let p = still s in (p.0, p.2)));
      disjoints = a.disjoints ∙ numbers_still (is_kind Disjoint) disjoint_sort before said sound (λ s. (let p = still s in (p.1, p.2)));
      variables = subst (λ (w : List (List NumberedSymbol)). AreVariablesOf c.args.self.now.essentials w found) (sym expressions) (variables_stay before c.args.self.now.essentials old symbols found long a.essentials a.variables);
    }

pub returns : goal.returns
returns c before said old symbols kind number marks long expressions a =
    let essentials = c.in_ok-add_item.ensures (is_kind Essential) before said essential_sort kind (c.is_essential.ensures ∙ ap (is_kind Essential) kind) number marks a.essentials in
    let variables = c.in_ok-add_item-2.ensures before (taken c.args.item.sound said) old symbols number (c.as_slice.ensures ∙ essentials) long expressions
    (subst (λ (w : List ℕ). AreVariablesOf w old c.args.self.now.variables.found.items) a.essentials a.variables) in
    grind (arith, common_steps, c.in_ok-add_item-3.ensures (is_kind Disjoint) before said disjoint_sort kind (c.is_disjoint.ensures ∙ ap (is_kind Disjoint) kind) number marks a.disjoints) steps 200000
