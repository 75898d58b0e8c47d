use Rattle.std.{proofs.Common.{◌≡◌, take, false, sym, arith}, specs.List.{prefix_len}}
use Rattle.mm_text.{specs.{Language.Run.{is_solid}, Code.LeftToRight.{has_dollar}}, proofs.PlainLemmas.{plain_run}}
use Rattle.mm_text.proofs.spelling.plain_run_len.Goals.{Joined-else-n-bytes, else-n-bytes-via-else-n-bytes, else-n-bytes-via-then-n-bytes+else-bytes-n-eq36, else-loop-n-test}
use Rattle.mm_text.proofs.spelling.plain_run_len.Goals.{then-loop-n-test+else-is_plain_byte}
use Rattle.mm_text.proofs.spelling.plain_run_len.Goals as goal

-- the bytes that were passed over are a run without a `$`
is_run : (c : Joined-else-n-bytes) → (c.loop-n.n ≡ prefix_len is_solid c.args.bytes.now) × (has_dollar (take c.loop-n.n c.args.bytes.now) ≡ false)
is_run c =
    plain_run c.args.bytes.now c.loop-n.n c.loop-n.invariant.within c.loop-n.invariant.plain (λ more. (
      elim c.loop-n-test.branch [ then-loop-n-test+else-is_plain_byte w ↦ sym w.if-is_plain_byte.ensures | else-loop-n-test w ↦ absurd (omega (arith, w.loop-n-test.false)) ],
      λ dollar. elim c.else-n-bytes.branch [
        | else-n-bytes-via-then-n-bytes+else-bytes-n-eq36 w ↦ w.if-bytes-n-eq36.false dollar
        | else-n-bytes-via-else-n-bytes w ↦ absurd (omega (arith, w.if-n-bytes.false))
      ],
    ))

pub returns-clause-len : goal.returns-clause-len
returns-clause-len c = λ some. (is_run c).0

pub returns-clause-plain : goal.returns-clause-plain
returns-clause-plain c = λ some. (is_run c).1
