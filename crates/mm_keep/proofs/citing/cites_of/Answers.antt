use Rattle.std.proofs.{Common.{◌<◌, Bool, List, drop, length, sym, ◌∙◌, subst₂, arith}, lemmas.Result.{IfOk-weaker}}
use Rattle.mm_keep.{specs.{Language.Citations.{CitesItem}, Code.Cited.{MarksMore}}, proofs.ChainLemmas.{cites_marked, take_front}}
use Rattle.mm_keep.proofs.citing.cites_of.Goals as goal

pub returns : goal.returns
returns c = IfOk-weaker c.marked.result _ _ (λ numbers those names view is are.
    let fresh = c.in_ok-marks.marks.items in
    let after = c.mark_cites.new.marks in
    let within : c.args.i < length view = omega (arith, c.requires.4, c.requires.3.count, are.count) in
    let cited = c.mark_cites.ensures names view is are in
    let long = sym c.deref_mut.ensures.len ∙ sym cited.count in
    let left = c.deref.ensures.value ∙ take_front after (drop (length after) fresh) c.in_ok-marks.marks.len long in
    let more = subst₂ (λ (old marks : List Bool). MarksMore (CitesItem view c.args.i) old marks) c.deref_mut.ensures.value (sym left) cited in
    cites_marked view c.args.i fresh c.deref.result.now numbers.items within c.in_ok-marks.ensures.count c.in_ok-marks.ensures.none more those) c.marked.ensures
