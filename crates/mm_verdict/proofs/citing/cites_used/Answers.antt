use Rattle.std.{proofs.{Common.{rules, arith, ℕ, ◌≡◌, sym, ap, ◌∙◌, drop, min, length}, lemmas.{Grind.{common_steps}, List.{drop_min, take_rest}, Result.{IfOk-weaker}}}, specs.List.{list_any}}
use Rattle.mm_frame.specs.Language.{Base.{BaseView, before, said_at}, Framing.{mandatory_numbers}}
use Rattle.mm_verdict.specs.{Code.{Cited.{names_item, marked_at, item_cites}, DecodedProof.{IsDecodedIn}}, Language.{BaseLabels.{setting_at}, Citing.{cited_words}}}
use Rattle.mm_verdict.{specs.Language.{VerdictAt.{cites_at, mandatory_labels}, DecodedSteps.{decoded_steps}}, proofs.lemmas.base.FrameLemmas.{framed_proof}}
use Rattle.mm_verdict.proofs.lemmas.{citing.{CitedWordLemmas.{cites_compressed, cites_normal}, MarkedLemmas.{cites_alike, listed_behind}}, machine.MarkedLabels.{masked_used}}
use Rattle.mm_verdict.proofs.citing.cites_used.Goals.{In_ok-named}
use Rattle.mm_verdict.proofs.citing.cites_used.Goals as goal

-- the assertions that are left are those that steps name
left_is : (c : In_ok-named) (n from : ℕ) → let labels = c.args.proof.decoding.now.labels.items in
    item_cites (marked_at c.named.new.marks.items) from (drop n labels) ≡ item_cites (λ j. list_any (names_item labels j) c.args.proof.decoding.now.steps.items) from (drop n labels)
left_is c n from = search (rules, cites_alike, listed_behind, masked_used)

-- the words that cite are those of the item's proof
its_cites : (c : In_ok-named) (view : BaseView) → IsDecodedIn c.args.proof view → let proof = c.args.proof in
    cited_words (setting_at view proof.i) proof.words.now (decoded_steps view proof.decoding.now proof.words.now).steps ≡ cites_at view proof.i
its_cites c view is = grind (arith, common_steps) steps 200000

pub returns-then-is_compressed : goal.returns-then-is_compressed
returns-then-is_compressed c = IfOk-weaker c.cited.result _ _ (λ words says view is.
    let proof = c.args.proof in
    let d = proof.decoding.now in
    let numbers = mandatory_numbers (before view proof.i) (said_at view proof.i) in
    let count = ap length (c.mandatory-hypotheses.ensures view is.theorem.base (framed_proof view proof.i is.theorem.is_sound)) in
    let least : c.min.result ≡ min (length numbers) (length d.labels.items) = omega (arith, c.min.ensures, count, ap length c.deref-labels.ensures.value) in
    (rw c.deref-labels.ensures.value at says)
    ∙ ap (item_cites (marked_at c.named.new.marks.items) 1) (take_rest d.labels.items c.min.result ∙ ap (λ n. drop n d.labels.items) least ∙ drop_min (length numbers) d.labels.items)
    ∙ left_is (goal.at.returns-then-is_compressed c).In_ok-named (length numbers) 1
    ∙ cites_compressed view (c.labels_are_own.ensures view is.theorem.said) proof.i numbers proof.words.now d.labels.items d.steps.items (sym c.if-is_compressed.ensures) is.entries is.table
    ∙ its_cites (goal.at.returns-then-is_compressed c).In_ok-named view is) c.cited.ensures

pub returns-else-is_compressed : goal.returns-else-is_compressed
returns-else-is_compressed c = IfOk-weaker c.cited-else-is_compressed.result _ _ (λ words says view is.
    let proof = c.args.proof in
    let d = proof.decoding.now in
    (rw c.deref-labels.ensures.value at says)
    ∙ left_is (goal.at.returns-else-is_compressed c).In_ok-named 0 0
    ∙ cites_normal view (c.labels_are_own.ensures view is.theorem.said) proof.i (mandatory_labels view proof.i) proof.words.now d.labels.items d.steps.items (sym c.if-is_compressed.ensures) is.entries is.table
    ∙ its_cites (goal.at.returns-else-is_compressed c).In_ok-named view is) c.cited-else-is_compressed.ensures

pub mandatory-hypotheses-requires : goal.mandatory-hypotheses-requires
mandatory-hypotheses-requires c = let has = c.requires in (has.0, has.1.theorem.base, framed_proof has.0 c.args.proof.i has.1.theorem.is_sound)
