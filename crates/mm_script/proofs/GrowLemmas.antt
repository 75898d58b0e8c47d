-- Bytes that are read on keep what was in them.
use Rattle.std.proofs.Common.{rules, [], ◌≡◌, ◌≢◌, ℕ, zero, suc, ◌+◌, ◌-◌, ◌<◌, ◌≤◌, true, false, List, ◌∷◌, ◌++◌, append_assoc, length, length-append, take, drop, replicate, refl, sym, ap, ◌∙◌}
use Rattle.std.proofs.{Common.{subst, arith, Option, ◌⊎◌, get_or, Result, Err, eq-eqb, ◌==◌, slice_index, slice_range}, lemmas.Grind.{common_steps}}
use Rattle.std.proofs.{lemmas.List.{append-nil, length-drop, take-append-le, drop-append-le, drop-drop, drop_more, take_all, take_rest, Folds.{drop_split}}, KnownBytes.{Consumes-nil}}
use Rattle.std.{proofs.Math.Seq.{take-add}, specs.{Result.{IsErrAnd, IsErrOf}, Io.KnownBytes.{IsAtEnd}}}
use Rattle.mm_script.specs.{declared.{script_lines.LineAt.{LineAt}, input.Input.{Input}, error.ScriptError.{ScriptError}}, Code.Growing.{InputGrows, HasBlanks, IsLineAt, IsOtherByte}}
use Rattle.mm_script.specs.{Code.Stops.{IsOneLine}, Language.Commands.{pending, ReadsOn}}

pub grows_not : (a : Input) (u : Option (List ℕ)) → InputGrows a a u u
grows_not a u = record { part = []; consumes = Consumes-nil u; are = sym (append-nil (pending a)) }

pub grows_then : (a b c : Input) (u v w : Option (List ℕ)) → InputGrows a b u v → InputGrows b c v w → InputGrows a c u w
grows_then a b c u v w p q = grind (arith, common_steps) steps 200000

pub grown_long : (a b : Input) (u v : Option (List ℕ)) → InputGrows a b u v → length (pending a) ≤ length (pending b)
grown_long a b u v p = omega (arith, ap length p.are, length-append (pending a) p.part)

-- a part of bytes that grow
pub part_grown : (a b : Input) (u v : Option (List ℕ)) (i j : ℕ) → InputGrows a b u v → i ≤ j → j ≤ length (pending a) → slice_range (pending b) i j ≡ slice_range (pending a) i j
part_grown a b u v i j p low within = grind (arith, common_steps, drop-append-le, length-drop, take-append-le) steps 200000

pub rest_grown : (a b : Input) (u v : Option (List ℕ)) (i : ℕ) (p : InputGrows a b u v) → i ≤ length (pending a) → drop i (pending b) ≡ drop i (pending a) ++ p.part
rest_grown a b u v i p within = ap (drop i) p.are ∙ drop-append-le i (pending a) p.part within

pub one_line_more : (xs ys : List ℕ) → IsOneLine xs → IsOneLine ys → IsOneLine (xs ++ ys)
one_line_more [] ys f g = g
one_line_more (x ∷ xs) ys f g = (f.0, one_line_more xs ys f.1 g)

-- no line feed is found among the first bytes
pub none_found : (xs : List ℕ) (n : ℕ) → ((k : ℕ) → k < n → (slice_index xs k == 10) ≡ true → ⊥) → IsOneLine (take n xs)
none_found xs zero h = tt
none_found [] (suc n) h = tt
none_found (x ∷ xs) (suc n) h = (λ (e : x ≡ 10). h 0 (omega arith) (eq-eqb x 10 e), none_found xs n (λ (k : ℕ) (low : k < n) (e : (slice_index xs k == 10) ≡ true). h (suc k) (omega arith) e))

pub rest_of : (seen bytes : List ℕ) (from : ℕ) → seen ≡ bytes → slice_range seen from (length seen) ≡ drop from bytes
rest_of seen bytes from same = take_rest seen from ∙ ap (drop from) same

-- bytes up to the first line feed
pub found_line : (bytes hay : List ℕ) (left : Option (List ℕ)) (start end more : ℕ) → hay ≡ drop end bytes → start ≤ end → end ≤ length bytes
    → IsOneLine (slice_range bytes start end) → ((k : ℕ) → k < more → (slice_index hay k == 10) ≡ true → ⊥) → more < length hay → (slice_index hay more == 10) ≡ true
    → IsLineAt bytes left record { start = start; end = end + more; fed = true }
found_line bytes hay left start end more is low within one none some found =
    grind (arith, common_steps, drop-drop more end bytes, drop_more hay more 0 some, length-drop end bytes, none_found hay more none, take-add (end - start) more (drop start bytes)) steps 200000

-- no line feed up to the end
pub no_feed_left : (bytes hay : List ℕ) (start end : ℕ) → hay ≡ drop end bytes → start ≤ end → IsOneLine (slice_range bytes start end)
    → ((k : ℕ) → k < length hay → (slice_index hay k == 10) ≡ true → ⊥) → IsOneLine (drop start bytes)
no_feed_left bytes hay start end is low one none =
    let all : IsOneLine hay = subst IsOneLine (take_all (length hay) hay (omega arith)) (none_found hay (length hay) none) in
    subst IsOneLine (sym (drop_split bytes start end low ∙ ap (λ (xs : List ℕ). slice_range bytes start end ++ xs) (sym is))) (one_line_more _ _ one all)

pub last_line : (bytes : List ℕ) (left : Option (List ℕ)) (start count : ℕ) → count ≡ length bytes → start ≤ count → IsOneLine (drop start bytes) → IsAtEnd left
    → IsLineAt bytes left record { start = start; end = count; fed = false }
last_line bytes left start count is within one at_end = grind (arith, common_steps, take_rest bytes start) steps 200000

-- another byte here
pub other_byte : (bytes hay : List ℕ) (at byte : ℕ) → hay ≡ bytes → at < length hay → byte ≡ get_or hay at byte → byte ≢ 10 → IsOtherByte bytes at
other_byte bytes hay at byte is some here other = record { byte = byte; more = drop (at + 1) bytes; other = other; are = grind (arith, common_steps, drop_more hay at byte some) steps 200000 }

-- a line feed here
pub feed_here : (bytes hay : List ℕ) (at byte : ℕ) → hay ≡ bytes → at < length hay → byte ≡ get_or hay at byte → byte ≡ 10 → drop at bytes ≡ 10 ∷ drop (at + 1) bytes
feed_here bytes hay at byte is some here feed = grind (arith, common_steps, drop_more hay at byte some) steps 200000

feeds : (n : ℕ) (xs : List ℕ) → replicate n 10 ++ 10 ∷ xs ≡ replicate (suc n) 10 ++ xs
feeds zero xs = refl
feeds (suc n) xs = ap (λ (ys : List ℕ). 10 ∷ ys) (feeds n xs)

-- one empty line more
pub blank_more : (bytes : List ℕ) (from to : ℕ) → HasBlanks bytes from to → drop to bytes ≡ 10 ∷ drop (to + 1) bytes → HasBlanks bytes from (to + 1)
blank_more bytes from to b is = search (rules, feeds (to - from) (drop (to + 1) bytes), length-drop to bytes, length-drop (to + 1) bytes)

pub blanks_grown : (a b : Input) (u v : Option (List ℕ)) (from to : ℕ) → InputGrows a b u v → HasBlanks (pending a) from to → HasBlanks (pending b) from to
blanks_grown a b u v from to p h = grind (arith, common_steps, rest_grown a b u v from p (omega (arith, h.ordered, h.within)), rest_grown a b u v to p h.within, grown_long a b u v p) steps 200000

-- an empty line is where a line is fed and has no bytes
pub blank_line : (bytes : List ℕ) (left : Option (List ℕ)) (line : LineAt) → IsLineAt bytes left line → line.fed ≡ true → line.end ≤ line.start
    → drop line.start bytes ≡ 10 ∷ drop (line.start + 1) bytes
blank_line bytes left line is fed none = grind (arith, common_steps, is.fed fed) steps 200000

-- reading on with nothing passed, and with empty lines passed
pub reads_not : (a : Input) (u : Option (List ℕ)) → ReadsOn a a u u
reads_not a u = record { part = []; consumes = Consumes-nil u; blanks = 0; are = append-nil (pending a) }

pub reads_then : (a b c : Input) (u v w : Option (List ℕ)) → ReadsOn a b u v → InputGrows b c v w → ReadsOn a c u w
reads_then a b c u v w p q =
    grind (arith, common_steps, append_assoc (pending a) p.part q.part, append_assoc (replicate p.blanks 10) (pending b) q.part) steps 200000

pub reads_pass : (a b c : Input) (u v : Option (List ℕ)) → ReadsOn a b u v → pending b ≡ 10 ∷ pending c → ReadsOn a c u v
reads_pass a b c u v p is = record {
  part = p.part;
  consumes = p.consumes;
  blanks = suc p.blanks;
  are = p.are ∙ ap (λ (xs : List ℕ). replicate p.blanks 10 ++ xs) is ∙ feeds p.blanks (pending c);
}

-- an error that is passed on is the same
pub same_error : {T U E : Type 0} (r : Result U E) (x e : E) → IsErrAnd r (λ (y : E). y ≡ x) → r ≡ Err e → IsErrOf {T = T} (Err x) e
same_error r x e f h = grind (arith, common_steps) steps 200000

-- it is none but those that the call may answer
pub other_error : {T U : Type 0} (r : Result U ScriptError) (call : Result T ScriptError) (x a b e : ScriptError) → IsErrAnd r (λ (y : ScriptError). y ≡ x)
    → call ≡ Err x → (call ≡ Err a) ⊎ (call ≡ Err b) → a ≢ e → b ≢ e → r ≡ Err e → ⊥
other_error r call x a b e f is told na nb h = grind (arith, common_steps) steps 200000
