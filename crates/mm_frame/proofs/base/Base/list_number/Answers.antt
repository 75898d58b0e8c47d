use Rattle.std.proofs.Common.{Some, refl, sym, ◌∙◌, ap}
use Rattle.mm_frame.specs.Language.{Answering.{IsBase}, Base.{BaseView, before}, Framing.{active_pairs}}
use Rattle.mm_frame.proofs.lemmas.base.AnswerLemmas.{active_in, list_shared, list_some, number_shared, number_told}
use Rattle.mm_machine.specs.Language.Frame.{AreSamePairs}
use Rattle.mm_frame.proofs.base.Base.list_number.Goals as goal

pub returns : goal.returns
returns c =
    let parts = c.self.inside.parts in
    let answers = c.args.self.now in
    let i = c.args.i in
    let numbers = ap (λ a. a.list_numbers) c.self.view_is in
    let told = λ (base : BaseView) (is : IsBase base answers). active_in is.0 base answers parts.pair_lists parts.pair_numbers (ap (λ a. a.actives) c.self.view_is) is.1 in
    record {
      some = λ base is. list_some parts.pair_lists c.at.result ∙ (told base is i c.at.result c.at.result c.at.ensures refl).some;
      number = number_told parts.pair_numbers answers.list_numbers i c.at.result c.at.ensures numbers;
      same = λ base is. number_shared parts.pair_numbers answers.list_numbers i c.at.result (λ j. AreSamePairs (active_pairs (before base i)) (active_pairs (before base j))) c.at.ensures numbers
          (λ j k mine yours. list_shared is.0 parts.pair_lists base i j k (told base is i (Some k) (Some k) (sym mine) refl) (told base is j (Some k) (Some k) (sym yours) refl));
    }
