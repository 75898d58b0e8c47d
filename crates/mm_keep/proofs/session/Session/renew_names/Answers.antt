use Rattle.std.proofs.Common.{subst}
use Rattle.mm_proof.specs.mm_frame.Language.Base.{BaseView}
use Rattle.mm_keep.{specs.Code.KeptSession.{AreChecked}, proofs.FoundLemmas.{one_reading}}
use Rattle.mm_keep.proofs.session.Session.renew_names.Goals as goal

pub invariant_of-self : goal.invariant_of-self
invariant_of-self c =
    let inside = c.self.inside in
    let kept = c.self.invariant in
    let built = rw c.deref.ensures.value at c.in-Ok.ensures.base in
    let same =
    one_reading c.files_have_one_database.ensures c.items_are_located.ensures.located inside.files inside.top.items inside.base.items c.in-Ok.base.items kept.base built.0 c.holds_pieces.ensures kept.of_files built.1 in
    record {
      base = built.0;
      of_files = built.1;
      by_names = built.2;
      later = built.3;
      checked = subst (λ (base : BaseView). AreChecked base inside.checked) same kept.checked;
      parked = kept.parked;
    }
