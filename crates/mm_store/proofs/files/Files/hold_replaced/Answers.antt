use Rattle.std.proofs.{lemmas.Grind.{common_steps}, Common.{map, refl, ap, ◌∙◌, arith}}
use Rattle.mm_store.proofs.lemmas.{files.{EntryLemmas.{same_view}, KeptLemmas.{kept_beside}, ListLemmas.{plain_same}, PieceLemmas.{stands_held, text_put_other}}, edits.StepLemmas.{replaced_weight}}
use Rattle.mm_store.{proofs.lemmas.expansion.WeightLemmas.{weight_fresh}, specs.{Code.Kept.{keyed_file, standing_count}, Language.Pieces.{Parked, Replaced, HeldPiece}}}
use Rattle.std.specs.FinMap as finite
use Rattle.mm_store.proofs.files.Files.hold_replaced.Goals as goal

pub invariant_of-self-2 : goal.invariant_of-self-2
invariant_of-self-2 c =
    let p = c.self.inside.pieces in
    let k = c.in_ok-key.key in
    let piece : HeldPiece = record { text = c.args.kept.text; state = Parked c.args.number Replaced } in
    let fresh = c.in_ok-key.ensures.fresh in
    kept_beside c.self.invariant c.in_ok-key.ensures.ok (λ q. stands_held p k piece fresh q refl) (λ m. grind (arith, common_steps, replaced_weight, weight_fresh) steps 200000)
    (plain_same p (finite.insert p k piece) k (text_put_other p k piece) (map keyed_file c.self.inside.files.entries) (c.self.invariant.once k ∙ ap standing_count fresh))

pub returns-clause-ok : goal.returns-clause-ok
returns-clause-ok c = grind (arith, common_steps, same_view) steps 200000
