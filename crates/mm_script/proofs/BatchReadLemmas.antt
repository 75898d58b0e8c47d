-- The edits of a batch that are read, one after another.
use Rattle.std.proofs.Common.{[], ◌≡◌, ℕ, ◌+◌, ◌-◌, ◌<◌, ◌≤◌, Bool, true, false, List, ◌∷◌, ◌++◌, append_assoc, map, length, length-append, drop, replicate, refl, sym, ap, ◌∙◌, subst, arith, Option}
use Rattle.std.proofs.{Common.{None, inl, inr, Contains}, lemmas.{Grind.{common_steps}, List.{append-nil, length-drop, length-map, map-append, take_at, Concat.{flat_map-append}}}}
use Rattle.std.{proofs.lemmas.List.Elements.{Contains-append_left, Contains-append_right, Contains-push, Contains-push_cases}, specs.List.{flat_map}}
use Rattle.mm_text.specs.Language.Asked.{Asked, edited_text}
use Rattle.mm_script.specs.declared.{command.{Complete.{Complete}, EditAt.{EditAt, TheVariants.{Insert, Replace, Delete, Move}}}, input.Input.{Input}, script_lines.LineAt.{LineAt}}
use Rattle.mm_script.specs.Code.{Batches.{IsBatchRead, IsBatchFront, IsListedRead}, Growing.{InputGrows, IsLineAt, line_bytes}, Stops.{batch_bytes, batch_line, AreGoodEdits}}
use Rattle.mm_script.specs.Language.Commands.{pending, edit_in, AreEditsIn, IsEditWithin, StopsSo, rest_of_script}
use Rattle.mm_script.{specs.Language.Script.{CutShort, Listed, IsGoodEdit, IsNumber, LastInLine, edit_bytes, edit_line, ended_text, listed_bytes}, proofs.BatchLemmas.{at_end, batch_more, front_bytes}}
use Rattle.mm_script.proofs.{EditLemmas.{bytes_grown, fed_line, unfed_line}, GrowLemmas.{grows_not}, StopLemmas.{batch_line_cut}}
use Rattle.mm_text.specs.Language.Asked as ask

-- the parts of an edit are in the bytes as they grow
pub edit_within_grown : (a b : Input) (u v : Option (List ℕ)) (k : EditAt) → InputGrows a b u v → IsEditWithin (pending a) k → IsEditWithin (pending b) k
edit_within_grown a b u v k grows w = grind (arith, common_steps) steps 200000

pub edit_in_grown : (a b : Input) (u v : Option (List ℕ)) (k : EditAt) → InputGrows a b u v → IsEditWithin (pending a) k → edit_in (pending b) k ≡ edit_in (pending a) k
edit_in_grown a b u v (Insert file at text) grows w = grind (arith, common_steps, bytes_grown a b u v file grows w.0, bytes_grown a b u v text grows w.1) steps 200000
edit_in_grown a b u v (Replace file at text) grows w = grind (arith, common_steps, bytes_grown a b u v file grows w.0, bytes_grown a b u v text grows w.1) steps 200000
edit_in_grown a b u v (Delete file at) grows w = ap (λ (xs : List ℕ). ask.Delete xs at) (bytes_grown a b u v file grows w)
edit_in_grown a b u v (Move file at to) grows w = ap (λ (xs : List ℕ). ask.Move xs at to) (bytes_grown a b u v file grows w)

all_in_grown : (a b : Input) (u v : Option (List ℕ)) (found : List EditAt) → InputGrows a b u v → ((k : EditAt) → Contains found k → IsEditWithin (pending a) k)
    → map (edit_in (pending b)) found ≡ map (edit_in (pending a)) found
all_in_grown a b u v [] grows w = refl
all_in_grown a b u v (k ∷ found) grows w =
    let first : edit_in (pending b) k ≡ edit_in (pending a) k = edit_in_grown a b u v k grows (w k (Contains-append_left (k ∷ []) found k (Contains-push [] k))) in
    let rest : map (edit_in (pending b)) found ≡ map (edit_in (pending a)) found = all_in_grown a b u v found grows (λ (j : EditAt) (c : Contains found j). w j (Contains-append_right (k ∷ []) found j c)) in
    cc

pub good_more : (front : List Listed) (x : Listed) → AreGoodEdits front → IsGoodEdit x.edit → AreGoodEdits (front ++ x ∷ [])
good_more [] x f g = (g, tt)
good_more (y ∷ front) x f g = (f.0, good_more front x f.1 g)

pub last_in_line : (front : List Listed) (x : Listed) → edited_text x.edit ≡ None → LastInLine (front ++ x ∷ [])
last_in_line (y ∷ z ∷ front) x none = last_in_line (z ∷ front) x none
last_in_line _ x none = none

pub edits_counted : (bytes : List ℕ) (found : List EditAt) (front : List Listed) → AreEditsIn bytes found front → length front ≡ length found
edits_counted bytes found front are = omega (arith, ap length are.are, length-map front (λ (one : Listed). one.edit), length-map found (edit_in bytes))

-- some edits of a batch whose line has its line feed
pub batch_front : (bytes : List ℕ) (left : Option (List ℕ)) (n end : ℕ) (found : List EditAt) (fed : Bool) (b : IsBatchRead bytes left n found end fed) → fed ≡ true → length found < n → IsBatchFront bytes n b.front end
batch_front bytes left n end found fed b yes_fed fewer =
    let front = batch_line n ++ 10 ∷ flat_map listed_bytes b.front in
    let is : bytes ≡ front ++ drop end bytes = b.fed_so yes_fed ∙ sym (append_assoc (batch_line n) (10 ∷ flat_map listed_bytes b.front) (drop end bytes)) in
    let long : length front ≡ end = omega (arith, ap length is, length-append front (drop end bytes), length-drop end bytes, b.within) in
    grind (arith, common_steps, edits_counted bytes found b.front b.edits, take_at front (drop end bytes) end long) steps 200000

-- one edit more is read
pub batch_one_more : (a b : Input) (u v : Option (List ℕ)) (n end : ℕ) (found : List EditAt) (fed : Bool) (read : Complete EditAt) → IsBatchRead (pending a) u n found end fed → fed ≡ true → length found < n
    → InputGrows a b u v → IsListedRead (pending b) v end read → (read.fed ≡ false → length found + 1 ≡ n) → IsBatchRead (pending b) v n (found ++ read.found ∷ []) read.end read.fed
batch_one_more a b u v n end found fed read s yes_fed fewer grows r last =
    let bytes = pending b in
    let edit = edit_in bytes read.found in
    let blanks = r.start - end in
    let one : Listed = record { blanks = blanks; edit = edit } in
    let front = s.front ++ one ∷ [] in
    let before = flat_map listed_bytes s.front in
    let empty = replicate blanks 10 in
    let stands : bytes ≡ batch_bytes n s.front blanks (drop r.start bytes) = front_bytes a b u v n s.front end r.start (batch_front (pending a) u n end found fed s yes_fed fewer) grows r.blanks in
    let all : flat_map listed_bytes front ≡ before ++ (empty ++ edit_bytes edit) = flat_map-append listed_bytes s.front (one ∷ []) ∙ ap (λ (xs : List ℕ). before ++ xs) (append-nil (empty ++ edit_bytes edit)) in
    record {
      number = s.number;
      front = front;
      good = good_more s.front one s.good r.edit.good;
      edits = record {
        within = λ j c. elim (Contains-push_cases found read.found j c) [
          | inl before ↦ edit_within_grown a b u v j grows (s.edits.within j before)
          | inr last ↦ subst (IsEditWithin (pending b)) last r.edit.parts
        ];
        are = map-append (λ (one : Listed). one.edit) s.front _
            ∙ ap (λ (xs : List Asked). xs ++ edit_in (pending b) read.found ∷ []) (s.edits.are ∙ sym (all_in_grown a b u v found grows s.edits.within))
            ∙ sym (map-append (edit_in (pending b)) found (read.found ∷ []));
      };
      within = r.edit.within;
      fed_so = grind (arith, common_steps, append_assoc) steps 200000;
      unfed = λ e.
          let parts = r.edit.unfed e in
          let inner : bytes ++ 10 ∷ [] ≡ batch_bytes n s.front blanks (drop r.start bytes ++ 10 ∷ []) = batch_more n s.front blanks bytes (drop r.start bytes) (10 ∷ []) stands in
          let line : drop r.start bytes ++ 10 ∷ [] ≡ edit_bytes edit =
          ap (λ (xs : List ℕ). xs ++ 10 ∷ []) parts.0 ∙ ap (λ (t : Option (List ℕ)). edit_line edit ++ 10 ∷ ended_text t) (sym parts.1) in (
            inner ∙ ap (λ (xs : List ℕ). batch_bytes n s.front blanks xs) line ∙ ap (λ (xs : List ℕ). batch_line n ++ 10 ∷ xs) (sym all),
            last_in_line s.front one parts.1,
            parts.2,
            omega (arith, last e, length-append s.front (one ∷ []), edits_counted (pending a) found s.front s.edits),
            parts.3,
          );
    }

-- the line of a batch
pub batch_begun : (a : Input) (u : Option (List ℕ)) (line : LineAt) (n end : ℕ) → IsLineAt (pending a) u line → line.start ≡ 0 → IsNumber n → line_bytes (pending a) line ≡ batch_line n
    → (line.fed ≡ true → end ≡ line.end + 1) → (line.fed ≡ false → end ≡ line.end) → end ≤ length (pending a) → (line.fed ≡ false → 0 ≡ n) → IsBatchRead (pending a) u n [] end line.fed
batch_begun a u line n end is start number says fed unfed within none =
    let bytes = pending a in
    let here : drop line.start bytes ≡ bytes = ap (λ (k : ℕ). drop k bytes) start in
    record {
      number = number;
      front = [];
      good = tt;
      edits = record { within = λ k c. absurd (omega (arith, c.1)); are = refl };
      within = within;
      fed_so = λ e. grind (arith, common_steps, fed_line a a u u line is (grows_not a u) e, grows_not a u) steps 200000;
      unfed = λ e. grind (arith, common_steps, unfed_line bytes u line is e) steps 200000;
    }

pub batch_line_last : (bytes : List ℕ) (u : Option (List ℕ)) (line : LineAt) (n : ℕ) → IsLineAt bytes u line → line.start ≡ 0 → IsNumber n → line_bytes bytes line ≡ batch_line n → line.fed ≡ false → 0 < n
    → StopsSo (rest_of_script bytes u) CutShort
batch_line_last bytes u line n is start number says unfed some =
    let whole : bytes ≡ batch_line n = sym (ap (λ (k : ℕ). drop k bytes) start) ∙ unfed_line bytes u line is unfed ∙ says in
    at_end (λ (xs : List ℕ). StopsSo xs CutShort) bytes u (is.unfed unfed).1 (subst (λ (xs : List ℕ). StopsSo xs CutShort) (sym whole) (batch_line_cut n number some))

pub fed_by : (b : Bool) (count n : ℕ) → (b ≡ false → count ≡ n) → count < n → b ≡ true
fed_by true count n h fewer = refl
fed_by false count n h fewer = let same : count ≡ n = h refl in absurd (omega arith)
