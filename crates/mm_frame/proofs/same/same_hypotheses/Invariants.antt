use Rattle.std.proofs.Common.{◌≡◌, ℕ, List, true, All}
use Rattle.mm_frame.{specs.Language.{Base.{BaseView, is_shown_at, hypothesis_at}, Answering.{IsBaseBy}}, proofs.lemmas.frames.SameLemmas.{AreSameTo}}
use Rattle.mm_frame.proofs.same.same_hypotheses.Given as goal

abbrev pub invariant-loop-k : goal.invariant-loop-k
invariant-loop-k l = (names : List (List ℕ)) (base copy : BaseView) → IsBaseBy names base l.one → IsBaseBy names copy l.other
    → All (λ n. is_shown_at base n ≡ true) l.mine → All (λ n. is_shown_at copy n ≡ true) l.yours → AreSameTo (hypothesis_at base) (hypothesis_at copy)
    l.mine l.yours l.k
