-- How a script is divided: in one way; and when a division of it is its reading.
use Rattle.std.proofs.Common.{[], ◌≡◌, ◌⊎◌, ℕ, ◌+◌, ◌<◌, ◌≤◌, Option, Some, None, List, ◌∷◌, ◌++◌, length, length-append, replicate, refl, sym, ap, ◌∙◌, subst, inl, inr, arith, append_assoc}
use Rattle.std.{proofs.lemmas.{Grind.{common_steps}, Bool.{cases_lt}, List.{append-nil, append_cancel_left, append_cancel_right, Concat.{flat_map-append}}}, specs.List.{flat_map}}
use Rattle.mm_script.proofs.{WordLemmas.{words_solid, has_first, same_words_by_line, same_command, line_lacks_feed}, SplitLemmas.{split_at}}
use Rattle.mm_script.specs.Language.Script.{Listed, Command, Change, Batch, Entry, Blank, Given, listed_bytes, edit_line, entry_bytes, IsGoodEntry, IsGood, entries_bytes, line_of, ended_text}
use Rattle.mm_script.specs.{Language.Script.{command_bytes, EndsInLine, LacksFeed, HasEntries, IsLongestReading, AreRead, IsReadSoFar}, Code.Stops.{AreGood}}
use Rattle.mm_text.specs.Language.Asked.{edited_text}

pub blank_no : (d : Command) (s t : List ℕ) → IsGood d → 10 ∷ s ≡ command_bytes d ++ t → ⊥
blank_no d s t h e = grind (arith, common_steps, line_lacks_feed, split_at) steps 200000

pub same_entry : (x y : Entry) (s t : List ℕ) → IsGoodEntry x → IsGoodEntry y → entry_bytes x ++ s ≡ entry_bytes y ++ t → (x ≡ y) × (s ≡ t)
same_entry Blank Blank s t g h e = (refl, cc)
same_entry Blank (Given d) s t g h e = absurd (blank_no d s t h e)
same_entry (Given c) Blank s t g h e = absurd (blank_no c t s g (sym e))
same_entry (Given c) (Given d) s t g h e =
    grind (arith, common_steps, has_first, line_lacks_feed, same_command, same_words_by_line, split_at, words_solid) steps 200000

-- one list is a beginning of the other, and what comes after it begins with the others
pub record IsBeginning (a b : List Entry) (s t : List ℕ) : Type 0 where
  pub more : List Entry
  pub good : AreGood more
  pub longer : a ++ more ≡ b
  pub left : s ≡ entries_bytes more ++ t

pub one_begins : (a b : List Entry) (s t : List ℕ) → AreGood a → AreGood b → entries_bytes a ++ s ≡ entries_bytes b ++ t → IsBeginning a b s t ⊎ IsBeginning b a t s
one_begins [] b s t g h e = inl (record { more = b; good = h; longer = refl; left = e })
one_begins (x ∷ a) [] s t g h e = inr (record { more = x ∷ a; good = g; longer = refl; left = sym e })
one_begins (x ∷ a) (y ∷ b) s t g h e =
    let both : (x ≡ y) × (entries_bytes a ++ s ≡ entries_bytes b ++ t) = grind (arith, common_steps, append_assoc, same_entry) steps 200000 in
    on both.0 (one_begins a b s t g.1 h.1 both.1) where
      on : x ≡ y → IsBeginning a b s t ⊎ IsBeginning b a t s → IsBeginning (x ∷ a) (y ∷ b) s t ⊎ IsBeginning (y ∷ b) (x ∷ a) t s
      on p (inl w) = inl (record { more = w.more; good = w.good; longer = cc; left = w.left })
      on p (inr w) = inr (record { more = w.more; good = w.good; longer = cc; left = w.left })

-- what comes after the entries in the script with one more line feed
pub record IsTail (script : List ℕ) (entries : List Entry) (rest tail : List ℕ) : Type 0 where
  pub joined : script ++ 10 ∷ [] ≡ entries_bytes entries ++ tail
  pub is : (tail ≡ rest ++ 10 ∷ []) ⊎ ((tail ≡ []) × (rest ≡ []))

pub has_tail : (script : List ℕ) (entries : List Entry) (rest : List ℕ) → HasEntries script entries rest → (tail : List ℕ) × IsTail script entries rest tail
has_tail script entries rest d =
    grind (arith, common_steps, append-nil (entries_bytes entries), append_assoc (entries_bytes entries) rest (10 ∷ [])) steps 200000

pub no_more : (a b more : List Entry) → a ++ more ≡ b → length b ≤ length a → more ≡ []
no_more a b more e h = grind (arith, common_steps) steps 200000

pub divisions_agree : (script : List ℕ) (a b : List Entry) (s t : List ℕ) → HasEntries script a s → HasEntries script b t → length a ≤ length b → (more : List Entry) × (a ++ more ≡ b)
divisions_agree script a b s t d f h = on (has_tail script a s d).0 (has_tail script b t f).0 (one_begins a b (has_tail script a s d).0
    (has_tail script b t f).0 d.good f.good (sym (has_tail script a s d).1.joined ∙ (has_tail script b t f).1.joined))
  where
    on : (u v : List ℕ) → IsBeginning a b u v ⊎ IsBeginning b a v u → (more : List Entry) × (a ++ more ≡ b)
    on p0 p1 p2 = grind (arith, common_steps, append-nil, no_more) steps 200000

pub not_both : (bytes s : List ℕ) → (bytes ++ s) ++ 10 ∷ [] ≡ bytes → ⊥
not_both bytes s e = grind (arith, common_steps, length-append (bytes ++ s) (10 ∷ []), length-append bytes s) steps 200000

same_rest : (script : List ℕ) (a b : List Entry) (s t : List ℕ) → a ≡ b → HasEntries script a s → HasEntries script b t → s ≡ t
same_rest script a b s t p d f = grind (arith, common_steps, append_cancel_left, not_both) steps 200000

longest_same : (script : List ℕ) (a b : List Entry) (s t : List ℕ) → HasEntries script a s → HasEntries script b t → length a ≤ length b → length b ≤ length a
    → (a ≡ b) × (s ≡ t)
longest_same script a b s t d f h k =
    let w = divisions_agree script a b s t d f h in
    let same : a ≡ b = sym (append-nil a) ∙ ap (λ (x : List Entry). a ++ x) (sym (no_more a b w.0 w.1 k)) ∙ w.1 in
    (same, same_rest script a b s t same d f)

pub one_reading : (script : List ℕ) (a b : List Entry) (s t : List ℕ) → IsLongestReading script a s → IsLongestReading script b t → (a ≡ b) × (s ≡ t)
one_reading script a b s t r q = longest_same script a b s t r.divided q.divided (q.longest a s r.divided) (r.longest b t q.divided)

-- ---- what is read so far

pub goes_on : (bytes more : List ℕ) (entries all : List Entry) (rest left : List ℕ) → IsReadSoFar bytes entries rest → IsLongestReading (bytes ++ more) all left → (later : List Entry) × (entries ++ later ≡ all)
goes_on bytes more entries all rest left r q =
    let whole : bytes ++ more ≡ entries_bytes entries ++ (rest ++ more) = ap (λ (w : List ℕ). w ++ more) r.are.joined ∙ append_assoc (entries_bytes entries) rest more in
    let d : HasEntries (bytes ++ more) entries (rest ++ more) = record { good = r.are.good; joined = inl whole } in
    divisions_agree (bytes ++ more) entries all (rest ++ more) left d q.divided (q.longest entries (rest ++ more) d)

pub one_so_far : (bytes : List ℕ) (a b : List Entry) (s t : List ℕ) → IsReadSoFar bytes a s → IsReadSoFar bytes b t → (a ≡ b) × (s ≡ t)
one_so_far bytes a b s t r q =
    longest_same bytes a b s t (record { good = r.are.good; joined = inl r.are.joined }) (record { good = q.are.good; joined = inl q.are.joined })
    (q.longest a s r.are) (r.longest b t q.are)

-- the bytes end in a line feed
abbrev pub EndsInFeed : List ℕ → Type 0
EndsInFeed bytes = (front : List ℕ) × (bytes ≡ front ++ 10 ∷ [])

text_ends : (line : List ℕ) (text : Option (List ℕ)) → EndsInFeed (line ++ 10 ∷ ended_text text)
text_ends line None = (line, refl)
text_ends line (Some text) = (line ++ 10 ∷ text, sym (append_assoc line (10 ∷ text) (10 ∷ [])))

ends_behind : (front bytes : List ℕ) → EndsInFeed bytes → EndsInFeed (front ++ bytes)
ends_behind front bytes e = (front ++ e.0, ap (λ (w : List ℕ). front ++ w) e.1 ∙ sym (append_assoc front e.0 (10 ∷ [])))

edits_end : (x : Listed) (xs : List Listed) → EndsInFeed (flat_map listed_bytes (x ∷ xs))
edits_end x [] = subst EndsInFeed (sym (append-nil (listed_bytes x))) (ends_behind (replicate x.blanks 10) (edit_line x.edit ++ 10 ∷ ended_text (edited_text x.edit)) (text_ends (edit_line x.edit) (edited_text x.edit)))
edits_end x (y ∷ xs) = ends_behind (listed_bytes x) (flat_map listed_bytes (y ∷ xs)) (edits_end y xs)

command_ends : (c : Command) → EndsInFeed (command_bytes c)
command_ends (Change edit) = text_ends (edit_line edit) (edited_text edit)
command_ends (Batch (x ∷ xs)) = ends_behind (line_of (Batch (x ∷ xs))) (10 ∷ flat_map listed_bytes (x ∷ xs)) (ends_behind (10 ∷ []) (flat_map listed_bytes (x ∷ xs)) (edits_end x xs))
command_ends c = (line_of c, refl)

pub entry_ends : (x : Entry) → EndsInFeed (entry_bytes x)
entry_ends Blank = ([], refl)
entry_ends (Given c) = command_ends c

entries_end : (x : Entry) (xs : List Entry) → EndsInFeed (entries_bytes (x ∷ xs))
entries_end x [] = let e = entry_ends x in (e.0, append-nil (entry_bytes x) ∙ e.1)
entries_end x (y ∷ xs) = let e = entries_end y xs in (entry_bytes x ++ e.0, ap (λ (w : List ℕ). entry_bytes x ++ w) e.1 ∙ sym (append_assoc (entry_bytes x) e.0 (10 ∷ [])))

pub entry_some : (x : Entry) → 0 < length (entry_bytes x)
entry_some x = let e = entry_ends x in let l : length (entry_bytes x) ≡ length e.0 + 1 = ap length e.1 ∙ length-append e.0 (10 ∷ []) in omega arith

pub same_last : (xs ys : List Entry) (x y : Entry) → xs ++ x ∷ [] ≡ ys ++ y ∷ [] → x ≡ y
same_last [] [] x y e = cc
same_last [] (z ∷ []) x y e = cc
same_last [] (z ∷ w ∷ ys) x y e = cc
same_last (z ∷ []) [] x y e = cc
same_last (z ∷ w ∷ xs) [] x y e = cc
same_last (v ∷ xs) (z ∷ ys) x y e = let rest : xs ++ x ∷ [] ≡ ys ++ y ∷ [] = cc in same_last xs ys x y rest

good_tail : (xs ys : List Entry) → AreGood (xs ++ ys) → AreGood ys
good_tail [] ys h = h
good_tail (x ∷ xs) ys h = good_tail xs ys h.1

-- no entry begins these bytes
abbrev pub NoEntry : List ℕ → Type 0
NoEntry rest = (x : Entry) (left : List ℕ) → IsGoodEntry x → rest ≡ entry_bytes x ++ left → ⊥

-- with a line feed after them they are no command that ends in a line
abbrev pub NoLast : List ℕ → Type 0
NoLast rest = (c : Command) → IsGood c → EndsInLine c → rest ++ 10 ∷ [] ≡ command_bytes c → ⊥

bytes_more : (a : List Entry) (x : Entry) (xs b : List Entry) → a ++ x ∷ xs ≡ b → entries_bytes b ≡ entries_bytes a ++ (entry_bytes x ++ entries_bytes xs)
bytes_more a x xs b e = ap entries_bytes (sym e) ∙ flat_map-append entry_bytes a (x ∷ xs)

longer_no : (script rest : List ℕ) (a b : List Entry) (left : List ℕ) (x : Entry) (xs : List Entry) → script ≡ entries_bytes a ++ rest → NoEntry rest → NoLast rest → IsGoodEntry x → a ++ x ∷ xs ≡ b → HasEntries script b left → ⊥
longer_no script rest a b left x xs is none plain good e d = by d.joined
  where
    tail : LacksFeed script b → rest ++ 10 ∷ [] ≡ entry_bytes x ++ entries_bytes xs
    tail l = append_cancel_left (entries_bytes a) (rest ++ 10 ∷ []) (entry_bytes x ++ entries_bytes xs)
        (sym (append_assoc (entries_bytes a) rest (10 ∷ [])) ∙ ap (λ (w : List ℕ). w ++ 10 ∷ []) (sym is) ∙ l.is ∙ (bytes_more a x xs b e))

    unended : (l : LacksFeed script b) (ys : List Entry) → ys ≡ xs → ⊥
    unended l [] s =
        let same : x ≡ Given l.last = same_last a l.front x (Given l.last) (ap (λ (zs : List Entry). a ++ x ∷ zs) s ∙ e ∙ l.are) in
        let good_last : IsGoodEntry (Given l.last) = subst (λ (z : Entry). IsGoodEntry z) same good in
        plain l.last good_last l.in_line (tail l ∙ ap (λ (zs : List Entry). entry_bytes x ++ entries_bytes zs) (sym s) ∙ append-nil (entry_bytes x)
        ∙ ap entry_bytes same)
    unended l (y ∷ ys) s =
        let f = entries_end y ys in
        none x f.0 good (append_cancel_right rest (entry_bytes x ++ f.0) (10 ∷ []) (tail l ∙ ap (λ (zs : List Entry). entry_bytes x ++ entries_bytes zs)
        (sym s) ∙ ap (λ (w : List ℕ). entry_bytes x ++ w) f.1 ∙ sym (append_assoc (entry_bytes x) f.0 (10 ∷ []))))

    by : (script ≡ entries_bytes b ++ left) ⊎ (LacksFeed script b × (left ≡ [])) → ⊥
    by (inl k) = grind (arith, common_steps, append_assoc, append_cancel_left, good, is, left, (bytes_more a x xs b e)) steps 200000
    by (inr k) = unended k.0 xs refl

-- a list of entries is the longest, if each longer one that begins with it is refused
longest_by : (script : List ℕ) (a : List Entry) (s : List ℕ) → HasEntries script a s
    → ((b : List Entry) (left : List ℕ) (x : Entry) (xs : List Entry) → IsGoodEntry x → a ++ x ∷ xs ≡ b → HasEntries script b left → ⊥) → (b : List Entry) (left : List ℕ) → HasEntries script b left → length b ≤ length a
longest_by script a s d refused b left f = by (cases_lt (length a) (length b))
  where
    on : (more : List Entry) → a ++ more ≡ b → length a < length b → ⊥
    on [] e h = let l : length a + 0 ≡ length b = sym (length-append a []) ∙ ap length e in omega arith
    on (x ∷ xs) e h = refused b left x xs (good_tail a (x ∷ xs) (subst AreGood (sym e) f.good)).0 e f

    by : (length a < length b) ⊎ (length b ≤ length a) → length b ≤ length a
    by (inr h) = h
    by (inl h) = let w = divisions_agree script a b s left d f (omega arith) in absurd (on w.0 w.1 h)

pub reading_ended : (script : List ℕ) (a : List Entry) (rest : List ℕ) → AreGood a → script ≡ entries_bytes a ++ rest → NoEntry rest → NoLast rest → IsLongestReading script a rest
reading_ended script a rest good is none plain =
    let d : HasEntries script a rest = record { good = good; joined = inl is } in
    record { divided = d; longest = longest_by script a rest d (λ b left x xs g e f. longer_no script rest a b left x xs is none plain g e f) }

feed_no : (script : List ℕ) (a b : List Entry) (left : List ℕ) (x : Entry) (xs : List Entry) → script ++ 10 ∷ [] ≡ entries_bytes a → a ++ x ∷ xs ≡ b → HasEntries script b left → ⊥
feed_no script a b left x xs is e d = grind (arith, common_steps, bytes_more, entry_some, length-append) steps 200000

pub reading_unended : (script : List ℕ) (a : List Entry) → AreGood a → LacksFeed script a → IsLongestReading script a []
reading_unended script a good l =
    let d : HasEntries script a [] = record { good = good; joined = inr (l, refl) } in
    record { divided = d; longest = longest_by script a [] d (λ b left x xs g e f. feed_no script a b left x xs l.is e f) }

-- ---- bytes that begin with no entry

-- no entry begins the bytes, whatever follows
pub none_so_far : (bytes : List ℕ) → NoEntry bytes → IsReadSoFar bytes [] bytes
none_so_far bytes none = record { are = record { good = tt; joined = refl }; longest = longest }
  where
    longest : (others : List Entry) (left : List ℕ) → AreRead bytes others left → length others ≤ 0
    longest [] left r = omega arith
    longest (x ∷ xs) left r = absurd (none x (entries_bytes xs ++ left) r.good.0 (r.joined ∙ append_assoc (entry_bytes x) (entries_bytes xs) left))

pub none_is_read : (bytes : List ℕ) → NoEntry bytes → NoLast bytes → IsLongestReading bytes [] bytes
none_is_read bytes none plain = reading_ended bytes [] bytes tt refl none plain

pub good_more : (a b : List Entry) → AreGood a → AreGood b → AreGood (a ++ b)
good_more [] b g h = h
good_more (x ∷ a) b g h = (g.0, good_more a b g.1 h)

-- what is divided after what is read
pub read_more : (bytes : List ℕ) (entries more : List Entry) (rest left : List ℕ) → AreRead bytes entries rest → HasEntries rest more left → HasEntries bytes (entries ++ more) left
read_more bytes entries more rest left r d = record { good = good_more entries more r.good d.good; joined = by d.joined }
  where
    by : (rest ≡ entries_bytes more ++ left) ⊎ (LacksFeed rest more × (left ≡ [])) → (bytes ≡ entries_bytes (entries ++ more) ++ left) ⊎ (LacksFeed bytes (entries ++ more) × (left ≡ []))
    by (inl e) = inl (r.joined ∙ ap (λ (w : List ℕ). entries_bytes entries ++ w) e ∙ sym (append_assoc (entries_bytes entries) (entries_bytes more) left) ∙ ap (λ (w : List ℕ). w ++ left) (sym (flat_map-append entry_bytes entries more)))
    by (inr l) = inr (
      record {
        front = entries ++ l.0.front;
        last = l.0.last;
        are = ap (λ (w : List Entry). entries ++ w) l.0.are ∙ sym (append_assoc entries l.0.front (Given l.0.last ∷ []));
        in_line = l.0.in_line;
        is = ap (λ (w : List ℕ). w ++ 10 ∷ []) r.joined ∙ append_assoc (entries_bytes entries) rest (10 ∷ []) ∙ ap (λ (w : List ℕ). entries_bytes entries ++ w) l.0.is ∙ sym (flat_map-append entry_bytes entries more);
      },
      l.1,
    )

last_of : (x : Entry) (xs : List Entry) → (front : List Entry) × (z : Entry) × (x ∷ xs ≡ front ++ z ∷ [])
last_of x [] = ([], x, refl)
last_of x (y ∷ xs) = let w = last_of y xs in (x ∷ w.0, w.1, ap (λ (zs : List Entry). x ∷ zs) w.2)

-- and what is divided of the rest, if the whole is divided
pub read_less : (bytes : List ℕ) (entries : List Entry) (x : Entry) (xs : List Entry) (rest left : List ℕ) → AreRead bytes entries rest → HasEntries bytes (entries ++ x ∷ xs) left → HasEntries rest (x ∷ xs) left
read_less bytes entries x xs rest left r d = record { good = good_tail entries (x ∷ xs) d.good; joined = by d.joined }
  where
    split : entries_bytes (entries ++ x ∷ xs) ≡ entries_bytes entries ++ entries_bytes (x ∷ xs)
    split = flat_map-append entry_bytes entries (x ∷ xs)

    by : (bytes ≡ entries_bytes (entries ++ x ∷ xs) ++ left) ⊎ (LacksFeed bytes (entries ++ x ∷ xs) × (left ≡ [])) → (rest ≡ entries_bytes (x ∷ xs) ++ left) ⊎ (LacksFeed rest (x ∷ xs) × (left ≡ []))
    by (inl e) = inl (append_cancel_left (entries_bytes entries) rest (entries_bytes (x ∷ xs) ++ left) (sym r.joined ∙ e ∙ ap (λ (w : List ℕ). w ++ left) split ∙ append_assoc (entries_bytes entries) (entries_bytes (x ∷ xs)) left))
    by (inr l) =
        let w = last_of x xs in
        let same : w.1 ≡ Given l.0.last = same_last (entries ++ w.0) l.0.front w.1 (Given l.0.last) (append_assoc entries w.0 (w.1 ∷ []) ∙ ap (λ (zs : List Entry). entries ++ zs) (sym w.2) ∙ l.0.are) in
        grind (arith, common_steps, append_assoc (entries_bytes entries) rest (10 ∷ []), append_cancel_left, split) steps 200000
