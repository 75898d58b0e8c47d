use Rattle.std.proofs.{Common.{sym, ◌∙◌}, lemmas.Bool.{false≢true}}
use Rattle.mm_frame.proofs.same.same_frame.Goals as goal

pub returns-then-same_but_pairs : goal.returns-then-same_but_pairs
returns-then-same_but_pairs c base copy is are s t =
    let names = c.args.names.now in
    let parts = (c.same_but_pairs.ensures names base copy is are s t).0 c.if-same_but_pairs.true in
    let pairs = c.same_mandatory_pairs.ensures names base copy is are s t parts.1 in
    (λ b. record { expression = parts.0; hypotheses = parts.1; pairs = pairs.0 b }, λ f. pairs.1 f.pairs)

pub returns-else-same_but_pairs : goal.returns-else-same_but_pairs
returns-else-same_but_pairs c base copy is are s t = (
  λ b. absurd (false≢true (sym c.if-same_but_pairs.false ∙ b)),
  λ f. (c.same_but_pairs.ensures c.args.names.now base copy is are s t).1 (f.expression, f.hypotheses),
)
