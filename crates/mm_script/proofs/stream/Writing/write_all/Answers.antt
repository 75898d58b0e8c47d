use Rattle.std.proofs.{lemmas.{Grind.{common_steps}, List.{take_rest}}, Common.{◌≡◌, ◌≤◌, ◌+◌, ℕ, min, take, arith}, Math.Seq.{take-add}, KnownBytes.{Appends-trans, Appends-kept}}
use Rattle.std.specs.Io.KnownBytes.{Appends}
use Rattle.mm_script.proofs.stream.Writing.write_all.Goals.{in_default-via-in-Ok+else-n-gt0, in_default-via-in_default}
use Rattle.mm_script.proofs.stream.Writing.write_all.Goals as goal

-- one call more
counted_more : (old now new calls : ℕ) → min now 18446744073709551615 ≡ min (min old 18446744073709551615 + calls) 18446744073709551615 → new ≡ min (now + 1) 18446744073709551615
    → min new 18446744073709551615 ≡ min (min old 18446744073709551615 + (calls + 1)) 18446744073709551615
counted_more old now new calls e f = omega (arith, e, f)

pub loop-at-preserved : goal.loop-at-preserved
loop-at-preserved g c =
    let k = c.loop-at.invariant.counted in
    record {
      in_range = grind (arith, c.in-Ok.ensures.bound);
      was_sound = c.loop-at.invariant.was_sound;
      sound = c.loop-at.invariant.sound;
      out = rw (take-add c.loop-at.at c.in-Ok.n c.args.bytes.now) (Appends-trans _ _ _ _ _ c.loop-at.invariant.out (rw (take_rest c.args.bytes.now c.loop-at.at) at c.in-Ok.ensures.bytes));
      counted = (k.0 + 1, counted_more c.args.self.now.calls c.loop-at.self.calls c.saturating_add-self.result k.0 k.1 c.saturating_add-self.ensures, omega (arith, k.2, c.if-n-gt0.true), λ l. omega arith);
    }

pub returns-in_default-clause-calls : goal.returns-in_default-clause-calls
returns-in_default-clause-calls g c sound =
    let k = c.loop-at.invariant.counted in
    let at = c.loop-at.at in
    let bytes = c.args.bytes.now in
    let out = c.loop-at.invariant.out in
    let taken : (n : ℕ) × Appends (g.W.Write.contents c.args.self.now.inner) (g.W.Write.contents c.write.new.self) (take n bytes) × (at ≤ n) = elim c.in_default.branch [
      | in_default-via-in-Ok+else-n-gt0 w ↦ (at + w.in-Ok.n, rw (take-add at w.in-Ok.n bytes) (Appends-trans _ _ _ _ _ out (rw (take_rest bytes at) at w.in-Ok.ensures.bytes)), omega arith)
      | in_default-via-in_default w ↦ (at, Appends-kept _ _ _ _ out w.in_default.ensures.bytes, omega arith)
    ] in
    grind (arith, common_steps, counted_more c.args.self.now.calls c.loop-at.self.calls c.saturating_add-self.result k.0 k.1 c.saturating_add-self.ensures) steps 200000
