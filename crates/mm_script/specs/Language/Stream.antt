-- What a writer that remembers its failure has written, and what such a reader has left.
use Rattle.std.specs.Prelude.{◌≡◌, ◌≤◌, ◌<◌, ◌⊎◌, ◌+◌, ℕ, min, Bool, true, Option, List, Result, OnOk, OnErr, length, take}
use Rattle.std.specs.declared.io.buffered.BufWriter.{BufWriter}
use Rattle.std.specs.Io.Buffered.{writer_inner}
use Rattle.std.specs.Io.KnownBytes.{Appends}
use Rattle.mm_script.specs.declared.read_stream.Reading.{Reading}
use Rattle.mm_script.specs.declared.stream.Writing.{Writing}

-- what the writer within has written, if that can be seen
abbrev pub written : {W : Type 0} → (W → Option (List ℕ)) → Writing W → Option (List ℕ)
written contents writing = contents writing.inner

-- a write has failed
abbrev pub has_failed : {W : Type 0} → Writing W → Bool
has_failed writing = writing.failed

-- what has gone out through a buffer, if that can be seen: what is written, but for what the buffer keeps back
abbrev pub gone_out : {W A : Type 0} → (W → Option (List ℕ)) → Writing (BufWriter W A) → Option (List ℕ)
gone_out contents writing = contents (writer_inner writing.inner)

-- what is written, if it can be seen, grows by some of the first of these bytes
pub record AppendsPart (old new : Option (List ℕ)) (bytes : List ℕ) : Type 0 where
  pub count : ℕ
  pub appends : Appends old new (take count bytes)

-- a write of these bytes fails: a part of them is written
pub record Stops {W : Type 0} (contents : W → Option (List ℕ)) (old new : Writing W) (bytes : List ℕ) : Type 0 where
  pub failed : has_failed new ≡ true
  pub part : AppendsPart (written contents old) (written contents new) bytes

-- these bytes are written after the others; or the answer is an error, and the write of them has failed
pub record Writes {W T E : Type 0} (contents : W → Option (List ℕ)) (old new : Writing W) (result : Result T E) (bytes : List ℕ) : Type 0 where
  pub ok : OnOk result (Appends (written contents old) (written contents new) bytes)
  pub err : OnErr result (Stops contents old new bytes)

-- how many calls of the writer within were made, as far as they are counted: up to 18,446,744,073,709,551,615
abbrev pub calls_made : {W : Type 0} → Writing W → ℕ
calls_made writing = min writing.calls 18446744073709551615

-- this many more calls were made
abbrev pub HasCalled : {W : Type 0} → Writing W → Writing W → ℕ → Type 0
HasCalled old new calls = calls_made new ≡ min (calls_made old + calls) 18446744073709551615

-- a write fails with the last of this many calls: each call before it took at least one byte, and these are written
pub record FailsLast {W : Type 0} (contents : W → Option (List ℕ)) (old new : Writing W) (bytes : List ℕ) (calls : ℕ) : Type 0 where
  pub taken : ℕ
  pub appends : Appends (written contents old) (written contents new) (take taken bytes)
  pub some : 0 < calls
  pub each : calls ≤ taken + 1

-- the calls of a write: none if there are no bytes; each takes at least one byte, except the last of a write that fails
pub record WritesByCalls {W T E : Type 0} (contents : W → Option (List ℕ)) (old new : Writing W) (result : Result T E) (bytes : List ℕ) : Type 0 where
  pub calls : ℕ
  pub made : HasCalled old new calls
  pub most : calls ≤ length bytes
  pub some : 0 < length bytes → 0 < calls
  pub err : OnErr result (FailsLast contents old new bytes calls)

-- what the reader within has left to be read, if that can be seen
abbrev pub unread : {R : Type 0} → (R → Option (List ℕ)) → Reading R → Option (List ℕ)
unread remaining reading = remaining reading.inner

-- how many calls the reader may still make
abbrev pub calls_left : {R : Type 0} → Reading R → ℕ
calls_left reading = reading.left

-- a read has failed
abbrev pub cannot_read : {R : Type 0} → Reading R → Bool
cannot_read reading = reading.failed

-- a read that fails did not give up: it had failed before, or no call was left, or exactly one more call was made
abbrev pub HasTried : {R : Type 0} → Reading R → Reading R → Type 0
HasTried old new = (cannot_read old ≡ true) ⊎ ((calls_left old ≡ 0) ⊎ (calls_left old ≡ calls_left new + 1))
