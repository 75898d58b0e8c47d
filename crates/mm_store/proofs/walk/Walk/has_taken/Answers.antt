use Rattle.std.proofs.Common.{◌∙◌, sym, subst, Contains}
use Rattle.mm_store.{specs.Language.Walking.{WalkView}, proofs.lemmas.expansion.SetLemmas.{contains_from_test, test_from_contains}}
use Rattle.mm_store.proofs.walk.Walk.has_taken.Goals as goal

pub returns : goal.returns
returns c =
    let names = c.self.inside.names.keys in
    let name = c.args.name.now in (
      λ t. subst (λ (walk : WalkView). Contains walk.names name) c.self.view_is (contains_from_test name names (sym c.contains.ensures ∙ t)),
      λ h. c.contains.ensures ∙ test_from_contains name names (subst (λ (walk : WalkView). Contains walk.names name) (sym c.self.view_is) h),
    )
