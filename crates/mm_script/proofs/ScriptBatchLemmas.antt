-- A script that begins with the line of a batch and some of its edits.
use Rattle.std.proofs.Common.{[], ◌≡◌, ◌≢◌, ℕ, zero, suc, ◌+◌, ◌-◌, ◌<◌, List, ◌∷◌, ◌++◌, length, length-append, replicate, refl, sym, ap, ◌∙◌, subst, arith, append_assoc, codes, decimal}
use Rattle.std.{proofs.lemmas.{Grind.{common_steps}, Fmt.{decimal_injective}, List.{append-nil, length-replicate, Concat.{flat_map-append}}}, specs.List.{flat_map}}
use Rattle.mm_text.specs.Language.Asked.{Asked, Delete, edited_text}
use Rattle.mm_script.specs.{Code.Stops.{AreListed, batch_line, batch_bytes, AreGoodEdits}, Language.Commands.{StopsSo}}
use Rattle.mm_script.specs.Language.Script.{Listed, Command, Batch, BadLine, EndsInLine, IsCutShort, IsGood, IsGoodEdit, IsNumber, behind_line, edit_line, ended_text, line_of, listed_bytes}
use Rattle.mm_script.proofs.SplitLemmas.{Lacks, join_lacks}
use Rattle.mm_script.proofs.WordLemmas.{AreSolid, BeginsEdits, edit_head, edit_tag, edits_begin, lack_feeds, listed_parts, same_blanks, small_number, solid_decimal, tag}
use Rattle.mm_script.proofs.{ScriptLemmas.{NoEntry, NoLast}, ScriptLineLemmas.{IsBegun, no_entry_by, no_last_by, some_with, stops_bad}}

-- ---- the line

abbrev batch_words : ℕ → List (List ℕ)
batch_words n = codes "batch" ∷ decimal n ∷ []

batch_solid : (n : ℕ) → IsNumber n → AreSolid (batch_words n)
batch_solid n h = (refl, (solid_decimal n (small_number n h), tt))

pub batch_lacks : (n : ℕ) → IsNumber n → Lacks 10 (batch_line n)
batch_lacks n h = join_lacks 32 10 (batch_words n) (λ (e : 32 ≡ 10). omega arith) (lack_feeds (batch_words n) (batch_solid n h))

pub batch_some : (n : ℕ) → batch_line n ≢ []
batch_some n e = cc

-- a command with this line is a batch of this many edits
pub record IsBatch (n : ℕ) (c : Command) : Type 0 where
  pub edits : List Listed
  pub is : c ≡ Batch edits
  pub count : n ≡ length edits
  pub good : AreGoodEdits edits

pub batch_by_line : (n : ℕ) → IsNumber n → (c : Command) → IsGood c → batch_line n ≡ line_of c → IsBatch n c
batch_by_line n h c g e = grind (arith, common_steps, decimal_injective, edit_tag, small_number, tag) steps 200000

-- an edit has some bytes
pub listed_some : (x : Listed) (xs : List Listed) → 0 < length (flat_map listed_bytes (x ∷ xs))
listed_some x xs = grind (arith, common_steps, edit_head) steps 200000

-- ---- the edit after the whole ones

-- after empty lines comes the line of an edit, which is no empty line
pub feeds_no_line : (m k : ℕ) (e : Asked) (s : List ℕ) → replicate m 10 ≡ replicate k 10 ++ (edit_line e ++ 10 ∷ s) → ⊥
feeds_no_line m k e s q = let p = edit_head e in by m k p.0 (p.1 ++ 10 ∷ s) p.3 (q ∙ ap (λ (w : List ℕ). replicate k 10 ++ (w ++ 10 ∷ s)) p.2)
  where
    by : (m k b : ℕ) (t : List ℕ) → b ≢ 10 → replicate m 10 ≡ replicate k 10 ++ b ∷ t → ⊥
    by zero zero b t n e = cc
    by zero (suc k) b t n e = cc
    by (suc m) zero b t n e = let same : b ≡ 10 = cc in n same
    by (suc m) (suc k) b t n e = let rest : replicate m 10 ≡ replicate k 10 ++ b ∷ t = cc in by m k b t n rest

pub line_behind_feeds : (m k : ℕ) (line v : List ℕ) (e : Asked) (s : List ℕ) → line ≢ [] → Lacks 10 line → replicate m 10 ++ (line ++ v) ≡ replicate k 10 ++ (edit_line e ++ s) → (m ≡ k) × (line ++ v ≡ edit_line e ++ s)
line_behind_feeds m k [] v e s some l q = absurd (some refl)
line_behind_feeds m k (x ∷ line) v e s some l q = grind (arith, common_steps, edit_head e, same_blanks) steps 200000

-- the next edit of a batch, after these
pub record NextEdit (n : ℕ) (front : List Listed) (blanks : ℕ) (w t : List ℕ) (c : Command) : Type 0 where
  pub next : Listed
  pub later : List Listed
  pub is : c ≡ Batch (front ++ next ∷ later)
  pub count : n ≡ length (front ++ next ∷ later)
  pub good : IsGoodEdit next.edit
  pub left : replicate blanks 10 ++ w ≡ replicate next.blanks 10 ++ (edit_line next.edit ++ 10 ∷ (ended_text (edited_text next.edit) ++ (flat_map listed_bytes later ++ t)))

good_tail : (xs ys : List Listed) → AreGoodEdits (xs ++ ys) → AreGoodEdits ys
good_tail [] ys h = h
good_tail (x ∷ xs) ys h = good_tail xs ys h.1

pub next_edit : (n : ℕ) (front : List Listed) (blanks : ℕ) (w t : List ℕ) → AreListed n front → (c : Command) → IsGood c → batch_line n ≡ line_of c
    → flat_map listed_bytes front ++ (replicate blanks 10 ++ w) ≡ behind_line c ++ t → NextEdit n front blanks w t c
next_edit n front blanks w t are c g e k = let f : BeginsEdits front (batch_by_line n are.number c g e).edits (replicate blanks 10 ++ w) t = edits_begin front
    (batch_by_line n are.number c g e).edits (replicate blanks 10 ++ w) t are.good (batch_by_line n are.number c g e).good
    (omega (arith, are.fewer, (batch_by_line n are.number c g e).count)) (k ∙ ap (λ (d : Command). behind_line d ++ t) (batch_by_line n are.number c g e).is) in
    by (batch_by_line n are.number c g e).edits (batch_by_line n are.number c g e).is (batch_by_line n are.number c g e).count
    (batch_by_line n are.number c g e).good f.later f.are f.left
  where
    by : (edits : List Listed) → c ≡ Batch edits → n ≡ length edits → AreGoodEdits edits → (later : List Listed) → edits ≡ front ++ later → replicate blanks 10 ++ w ≡ flat_map listed_bytes later ++ t → NextEdit n front blanks w t c
    by edits is count good [] p q = let l : length edits ≡ length front + 0 = ap length p ∙ length-append front [] in absurd (omega (arith, are.fewer))
    by edits is count good (x ∷ xs) p q = grind (arith, common_steps, good_tail front (x ∷ xs) (subst AreGoodEdits p good), listed_parts x (flat_map listed_bytes xs ++ t)) steps 200000

-- ---- what follows the line of the batch and the edits

abbrev pub inside : List Listed → ℕ → List ℕ → List ℕ
inside front blanks inner = flat_map listed_bytes front ++ (replicate blanks 10 ++ inner)

inside_more : (front : List Listed) (blanks : ℕ) (inner v : List ℕ) → inside front blanks inner ++ v ≡ inside front blanks (inner ++ v)
inside_more front blanks inner v = append_assoc (flat_map listed_bytes front) (replicate blanks 10 ++ inner) v ∙ ap (λ (x : List ℕ). flat_map listed_bytes front ++ x) (append_assoc (replicate blanks 10) inner v)

pub batch_no_entry : (n : ℕ) (front : List Listed) (blanks : ℕ) (inner : List ℕ) → AreListed n front → ((c : Command) (left : List ℕ) → NextEdit n front blanks inner left c → ⊥) → NoEntry (batch_bytes n front blanks inner)
batch_no_entry n front blanks inner are none = no_entry_by (batch_line n) (inside front blanks inner) (batch_lacks n are.number) (batch_some n) (λ c left g e k. none c left (next_edit n front blanks inner left are c g e k))

pub batch_no_last : (n : ℕ) (front : List Listed) (blanks : ℕ) (inner : List ℕ) → AreListed n front → ((c : Command) → EndsInLine c → NextEdit n front blanks (inner ++ 10 ∷ []) [] c → ⊥) → NoLast (batch_bytes n front blanks inner)
batch_no_last n front blanks inner are none = no_last_by (batch_line n) (inside front blanks inner) (batch_lacks n are.number)
    (λ c g ends e k. none c ends (next_edit n front blanks (inner ++ 10 ∷ []) [] are c g e (sym (inside_more front blanks inner (10 ∷ [])) ∙ k ∙ sym (append-nil (behind_line c)))))

batch_bytes_more : (n : ℕ) (front : List Listed) (blanks : ℕ) (inner v : List ℕ) → batch_bytes n front blanks (inner ++ v) ≡ batch_bytes n front blanks inner ++ v
batch_bytes_more n front blanks inner v = ap (λ (w : List ℕ). batch_line n ++ 10 ∷ w) (sym (inside_more front blanks inner v)) ∙ sym (append_assoc (batch_line n) (10 ∷ inside front blanks inner) v)

pub batch_stops_bad : (n : ℕ) (front : List Listed) (blanks : ℕ) (inner : List ℕ) → NoEntry (batch_bytes n front blanks inner)
    → ((missing : List ℕ) → NoEntry (batch_bytes n front blanks (inner ++ 10 ∷ missing))) → StopsSo (batch_bytes n front blanks inner) BadLine
batch_stops_bad n front blanks inner none later = stops_bad (batch_bytes n front blanks inner) (some_with (batch_line n) (inside front blanks inner)) none
    (λ missing. subst NoEntry (batch_bytes_more n front blanks inner (10 ∷ missing)) (later missing))

-- ---- a batch that is cut short

-- an edit that any line can ask for
abbrev pub any_edit : Asked
any_edit = Delete (codes "a") 0

abbrev pub any_listed : Listed
any_listed = record { blanks = 0; edit = any_edit }

pub any_are_good : (n : ℕ) → AreGoodEdits (replicate n any_listed)
any_are_good zero = tt
any_are_good (suc n) = ((grind (arith, common_steps) steps 200000), any_are_good n)

good_join : (xs ys : List Listed) → AreGoodEdits xs → AreGoodEdits ys → AreGoodEdits (xs ++ ys)
good_join [] ys g h = h
good_join (x ∷ xs) ys g h = (g.0, good_join xs ys g.1 h)

-- with a line feed after it, what comes after the edits begins the next one and the empty lines before it
pub batch_is_cut : (n : ℕ) (front : List Listed) (blanks : ℕ) (inner missing : List ℕ) (next : Listed) → AreListed n front → IsGoodEdit next.edit
    → (replicate blanks 10 ++ inner) ++ 10 ∷ missing ≡ listed_bytes next → IsCutShort (batch_bytes n front blanks inner)
batch_is_cut n front blanks inner missing next are good begun = record {
  command = Batch (front ++ next ∷ more);
  good = (subst IsNumber (sym count) are.number, good_join front (next ∷ more) are.good (good, any_are_good (n - (length front + 1))));
  missing = missing ++ flat_map listed_bytes more;
  is = append_assoc (batch_line n) (10 ∷ inside front blanks inner) (10 ∷ (missing ++ flat_map listed_bytes more))
      ∙ ap (λ (w : List ℕ). batch_line n ++ 10 ∷ w) edits ∙ ap (λ (k : ℕ). batch_line k ++ 10 ∷ flat_map listed_bytes (front ++ next ∷ more)) (sym count);
}
  where
    more : List Listed
    more = replicate (n - (length front + 1)) any_listed

    count : length (front ++ next ∷ more) ≡ n
    count = let l : length more ≡ n - (length front + 1) = length-replicate (n - (length front + 1)) any_listed in length-append front (next ∷ more) ∙ omega (arith, are.fewer)

    edits : inside front blanks inner ++ 10 ∷ (missing ++ flat_map listed_bytes more) ≡ flat_map listed_bytes (front ++ next ∷ more)
    edits = append_assoc (flat_map listed_bytes front) (replicate blanks 10 ++ inner) (10 ∷ (missing ++ flat_map listed_bytes more))
        ∙ ap (λ (w : List ℕ). flat_map listed_bytes front ++ w) (sym (append_assoc (replicate blanks 10 ++ inner) (10 ∷ missing) (flat_map listed_bytes more)) ∙ ap (λ (w : List ℕ). w ++ flat_map listed_bytes more) begun)
        ∙ sym (flat_map-append listed_bytes front (next ∷ more))

pub batch_is_cut_in : (n : ℕ) (front : List Listed) (blanks : ℕ) (inner : List ℕ) → AreListed n front → IsBegun inner → IsCutShort (batch_bytes n front blanks inner)
batch_is_cut_in n front blanks inner are b = batch_is_cut n front blanks inner b.missing (record { blanks = blanks; edit = b.edit }) are b.good
    (append_assoc (replicate blanks 10) inner (10 ∷ b.missing) ∙ ap (λ (w : List ℕ). replicate blanks 10 ++ w) b.is)
