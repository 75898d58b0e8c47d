use Rattle.std.proofs.Common.{Some}
use Rattle.mm_proof.proofs.InStepLemmas.{same_level}
use Rattle.mm_proof.proofs.ordinals.end_alike.Goals as goal

pub returns-in-Some-Some : goal.returns-in-Some-Some
returns-in-Some-Some c t names base copy f g =
    let ends = c.in-Some-Some in
    let ordinals = c.args.ordinals.now in
    let both = c.requires names base copy f g in
    record {
      mine = Some ends.mine;
      yours = Some ends.yours;
      was = record { active = λ label n. ends.ensures.active base label n (names, f); ended = λ label n. ends.ensures.ended base label n (names, f) };
      is = record { active = λ label n. ends.ensures'.active copy label n (names, g); ended = λ label n. ends.ensures'.ended copy label n (names, g) };
      alike = same_level base copy ordinals.old.items ordinals.new.items ends.mine ends.yours both.0 both.1 (c.are_same.ensures t);
    }
