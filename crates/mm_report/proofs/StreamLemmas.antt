-- How parts of what is written join.
use Rattle.std.proofs.{lemmas.{Grind.{common_steps}, List.{take-append-le, take_min}}, Common.{ℕ, ◌+◌, min, List, ◌++◌, length, take, Option, Result, Ok, sym, subst, arith, IsErr}}
use Rattle.std.{proofs.{KnownBytes.{Appends-trans}, Math.Seq.{take-append-add}}, specs.Io.KnownBytes.{Appends}}
use Rattle.mm_script.specs.{declared.stream.Writing.{Writing}, Language.Stream.{AppendsPart, Stops, Writes, written}}

-- a part of the first bytes
part_front : (a b : Option (List ℕ)) (xs ys : List ℕ) → AppendsPart a b xs → AppendsPart a b (xs ++ ys)
part_front a b xs ys p = grind (arith, common_steps, take-append-le (min p.count (length xs)) xs ys (omega arith), take_min p.count xs) steps 200000

-- all of the first bytes, and a part of those after
pub part_behind : (a b c : Option (List ℕ)) (xs ys : List ℕ) → Appends a b xs → AppendsPart b c ys → AppendsPart a c (xs ++ ys)
part_behind a b c xs ys p q =
    record { count = length xs + q.count; appends = subst (Appends a c) (sym (take-append-add xs ys q.count)) (Appends-trans a b c xs (take q.count ys) p q.appends) }

-- a write that fails in the first bytes
pub stops_front : {W : Type 0} {contents : W → Option (List ℕ)} {a b : Writing W} {xs : List ℕ} (ys : List ℕ) → Stops contents a b xs → Stops contents a b (xs ++ ys)
stops_front {contents = contents} {a = a} {b = b} {xs = xs} ys s = grind (arith, common_steps, part_front (written contents a) (written contents b) xs ys s.part) steps 200000

-- or after them
pub stops_behind : {W : Type 0} (contents : W → Option (List ℕ)) (a b c : Writing W) (xs ys : List ℕ) → Appends (written contents a) (written contents b) xs → Stops contents b c ys → Stops contents a c (xs ++ ys)
stops_behind contents a b c xs ys p s = record { failed = s.failed; part = part_behind (written contents a) (written contents b) (written contents c) xs ys p s.part }

pub stops_then : {W T E : Type 0} {contents : W → Option (List ℕ)} {a b c : Writing W} {done : T} {xs ys : List ℕ} → Writes {T = T} {E = E} contents a b (Ok done) xs → Stops contents b c ys → Stops contents a c (xs ++ ys)
stops_then {contents = contents} {a = a} {b = b} {c = c} {xs = xs} {ys = ys} w s = stops_behind contents a b c xs ys w.ok s

-- the first bytes are written, and then the others
pub writes_behind : {W T E : Type 0} (contents : W → Option (List ℕ)) (a b c : Writing W) (r : Result T E) (xs ys : List ℕ)
    → Appends (written contents a) (written contents b) xs → Writes contents b c r ys → Writes contents a c r (xs ++ ys)
writes_behind contents a b c r xs ys p w = grind (arith, common_steps, stops_behind) steps 200000

pub writes_then : {W T E U F : Type 0} {contents : W → Option (List ℕ)} {a b c : Writing W} {done : U} {r : Result T E} {xs ys : List ℕ}
    → Writes {T = U} {E = F} contents a b (Ok done) xs → Writes contents b c r ys → Writes contents a c r (xs ++ ys)
writes_then {contents = contents} {a = a} {b = b} {c = c} {r = r} {xs = xs} {ys = ys} w v = writes_behind contents a b c r xs ys w.ok v

-- for an answer that is an error
pub writes_stop : {W T E : Type 0} {contents : W → Option (List ℕ)} {a b : Writing W} {r : Result T E} {xs : List ℕ} → IsErr r → Stops contents a b xs → Writes contents a b r xs
writes_stop e s = grind (arith, common_steps) steps 200000
