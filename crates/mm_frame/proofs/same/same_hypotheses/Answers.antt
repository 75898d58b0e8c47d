use Rattle.std.proofs.lemmas.{Grind.{common_steps}, List.{length-map, Elements.{All-get_or}}, Option.{slice_get-map, slice_get-get_or}, Bool.{false≢true}}
use Rattle.std.proofs.Common.{◌≡◌, true, get_or, refl, ◌∙◌, sym, arith}
use Rattle.mm_frame.{specs.Language.Base.{is_shown_at, hypothesis_at}, proofs.lemmas.frames.SameLemmas.{same_more, same_whole}}
use Rattle.mm_frame.proofs.same.same_hypotheses.Goals as goal

pub returns-then-mine-yours : goal.returns-then-mine-yours
returns-then-mine-yours c names base copy is are a b = grind (arith, common_steps, false≢true, length-map) steps 200000

pub returns-then-not-same_hypothesis : goal.returns-then-not-same_hypothesis
returns-then-not-same_hypothesis c names base copy is are a b =
    let mine = c.args.mine.now in
    let yours = c.args.yours.now in
    let k = c.loop-k.k in
    let p = slice_get-get_or mine k 0 (omega arith) in
    let q = slice_get-get_or yours k 0 (omega arith) in
    let t = All-get_or (λ n. is_shown_at copy n ≡ true) yours k 0 (omega arith) b in (
      λ f. absurd (false≢true f),
      λ e. sym c.if-not-same_hypothesis.true
          ∙ (c.same_hypothesis.ensures names base copy is are (All-get_or (λ n. is_shown_at base n ≡ true) mine k 0 (omega arith) a) t).1
          (grind (arith, common_steps, slice_get-map (hypothesis_at base) mine k, slice_get-map (hypothesis_at copy) yours k) steps 200000),
    )

pub loop-k-preserved : goal.loop-k-preserved
loop-k-preserved c names base copy is are a b =
    let mine = c.args.mine.now in
    let yours = c.args.yours.now in
    let k = c.loop-k.k in
    let p = slice_get-get_or mine k 0 (omega arith) in
    let q = slice_get-get_or yours k 0 (omega arith) in
    let s = All-get_or (λ n. is_shown_at base n ≡ true) mine k 0 (omega arith) a in
    let t = All-get_or (λ n. is_shown_at copy n ≡ true) yours k 0 (omega arith) b in
    same_more (hypothesis_at base) (hypothesis_at copy) mine yours k (get_or mine k 0) (get_or yours k 0) (c.loop-k.invariant names base copy is are a b) p q ((c.same_hypothesis.ensures names base copy is are s t).0 c.if-not-same_hypothesis.false)

pub returns : goal.returns
returns c names base copy is are a b = (λ t. same_whole (hypothesis_at base) (hypothesis_at copy) c.args.mine.now c.args.yours.now (λ m x y l p q. c.loop-k.invariant names base copy is are a b m x y (omega arith) p q) (omega arith), λ e. refl)
