use Rattle.std.{proofs.{Common.{◌≡◌, map, refl, sym, ap, ◌∙◌, subst, arith}, lemmas.List.{nil_from_length}}, specs.Ordering.{nat_cmp}}
use Rattle.mm_store.specs.{Code.Kept.{keyed_file, places, standing_count, deletions, deleted_state, weigh, HaveRoom, HaveStarts}, Language.{FilesView.{plain_file, bytes_of}, Pieces.{HeldPiece}}}
use Rattle.mm_store.proofs.lemmas.files.EntryLemmas.{same_view}
use Rattle.std.specs.FinMap as finite
use Rattle.mm_store.proofs.files.Files.new.Goals as goal

pub invariant_of-result : goal.invariant_of-result
invariant_of-result c =
    let none = nil_from_length c.new.result.entries c.new.ensures.len in
    let p = c.new-2.result in
    let empty : p ≡ finite.empty = c.new-2.ensures in
    record {
      once = λ q. ap (λ es. places q (map keyed_file es)) none ∙ sym (ap standing_count (ap (λ p. finite.get p q) empty ∙ finite.get-empty nat_cmp q));
      room = subst (HaveRoom p 0) (sym none) tt;
      known = λ m le. ap (deletions m) empty ∙ (ap (weigh (λ (piece : HeldPiece). deleted_state m piece.state)) (nil_from_length (finite.entries finite.empty) (sym (finite.len-entries finite.empty) ∙ finite.len-empty nat_cmp HeldPiece)));
      counted = sym (ap (λ es. bytes_of (map (plain_file p) (map keyed_file es))) none);
      within = omega arith;
      starts = subst (λ es. HaveStarts (map (plain_file p) (map keyed_file es)) es) (sym none) refl;
    }

pub returns : goal.returns
returns c = same_view _ _ (ap (map keyed_file) (nil_from_length c.new.result.entries c.new.ensures.len)) c.new-2.ensures
