use Rattle.std.proofs.{Common.{sym, ◌∙◌}, lemmas.Bool.{false≢true}}
use Rattle.mm_proof.proofs.{InStepLemmas.{same_level}, UnnamedLemmas.{not_true}}
use Rattle.mm_proof.proofs.marks.keeps_place.Goals as goal

pub returns-in-Some : goal.returns-in-Some
returns-in-Some c t old are names base copy f g is s =
    let i = c.in-Some.i in
    let j = c.args.j in
    let ordinals = c.args.ordinals.now in
    let both = are names base copy f g in
    (i, record { one_label = (is.old_is i).0 (sym c.in_full_width.ensures ∙ c.in-Some.is); ordinal_is = same_level base copy ordinals.old.items ordinals.new.items i j both.0 both.1 (c.are_same.ensures t) })

pub returns-in-None : goal.returns-in-None
returns-in-None c t old are names base copy f g is shown = absurd (false≢true (sym (not_true c.is_labelled.result t) ∙ c.is_labelled.ensures copy (names, g) ∙ shown))
