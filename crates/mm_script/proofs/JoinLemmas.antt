-- What is read of a script after commands and empty lines that are read.
use Rattle.std.proofs.Common.{[], ◌≡◌, ◌⊎◌, ℕ, ◌+◌, ◌<◌, ◌≤◌, List, ◌∷◌, ◌++◌, length, length-append, refl, sym, ap, ◌∙◌, subst, inl, inr, arith, append_assoc, append-nil}
use Rattle.std.proofs.lemmas.{Grind.{common_steps}, Bool.{cases_lt}, List.Concat.{flat_map-append}}
use Rattle.mm_script.specs.Language.{Commands.{HasNoEntry}, Script.{Command, Entry, Given, entry_bytes, command_bytes, AreRead, HasEntries, IsLongestReading, IsReadSoFar, IsGood, EndsInLine}}
use Rattle.mm_script.proofs.ScriptLemmas.{IsBeginning, NoEntry, NoLast, blank_no, divisions_agree, entry_some, good_more, one_begins, read_less, read_more, reading_ended, reading_unended}

-- entries after entries
pub entries_behind : (bytes : List ℕ) (entries more : List Entry) (rest left : List ℕ) → AreRead bytes entries rest → AreRead rest more left → AreRead bytes (entries ++ more) left
entries_behind bytes entries more rest left are after = grind (arith, common_steps, good_more entries more are.good after.good, flat_map-append entry_bytes entries more) steps 200000

-- what the rest is read as is what follows the commands before it
pub reading_behind : (bytes : List ℕ) (entries more : List Entry) (rest left : List ℕ) → AreRead bytes entries rest → IsLongestReading rest more left
    → IsLongestReading bytes (entries ++ more) left
reading_behind bytes entries more rest left are reading = record { divided = read_more bytes entries more rest left are reading.divided; longest = longest }
  where
    total : length (entries ++ more) ≡ length entries + length more
    total = length-append entries more

    on : (others later : List Entry) (end : List ℕ) → entries ++ later ≡ others → HasEntries bytes others end → length others ≤ length (entries ++ more)
    on others [] end e d = let l : length others ≡ length entries + 0 = ap length (sym e) ∙ length-append entries [] in omega (arith, total)
    on others (x ∷ xs) end e d =
        let inner : HasEntries rest (x ∷ xs) end = read_less bytes entries x xs rest end are (subst (λ (zs : List Entry). HasEntries bytes zs end) (sym e) d) in
        let l : length others ≡ length entries + length (x ∷ xs) = ap length (sym e) ∙ length-append entries (x ∷ xs) in
        let m : length (x ∷ xs) ≤ length more = reading.longest (x ∷ xs) end inner in
        omega (arith, total)

    longest : (others : List Entry) (end : List ℕ) → HasEntries bytes others end → length others ≤ length (entries ++ more)
    longest others end d = by (cases_lt (length others) (length entries))
      where
        by : (length others < length entries) ⊎ (length entries ≤ length others) → length others ≤ length (entries ++ more)
        by (inl h) = omega (arith, total)
        by (inr h) = let w = divisions_agree bytes entries others rest end (grind (arith, common_steps) steps 200000) d h in on others w.0 end w.1 d

pub so_far_behind : (bytes : List ℕ) (entries : List Entry) (rest : List ℕ) → AreRead bytes entries rest → HasNoEntry rest → IsReadSoFar bytes entries rest
so_far_behind bytes entries rest are none = record { are = are; longest = longest }
  where
    longest : (others : List Entry) (left : List ℕ) → AreRead bytes others left → length others ≤ length entries
    longest others left d = by (one_begins entries others rest left are.good d.good (sym are.joined ∙ d.joined))
      where
        by : IsBeginning entries others rest left ⊎ IsBeginning others entries left rest → length others ≤ length entries
        by (inr w) = let l : length entries ≡ length others + length w.more = ap length (sym w.longer) ∙ length-append others w.more in omega arith
        by (inl w) = grind (arith, common_steps, length-append entries w.more, none.longest w.more left (record { good = w.good; joined = w.left })) steps 200000

no_entry : NoEntry []
no_entry x left g e = let m : length (entry_bytes x) + length left ≡ 0 = sym (ap length e ∙ length-append (entry_bytes x) left) in omega (arith, entry_some x)

no_last : NoLast []
no_last c g ends e = blank_no c [] [] g (e ∙ sym (append-nil (command_bytes c)))

-- commands that leave nothing are the reading
pub reading_done : (bytes : List ℕ) (entries : List Entry) → AreRead bytes entries [] → IsLongestReading bytes entries []
reading_done bytes entries are = reading_ended bytes entries [] are.good are.joined no_entry no_last

-- so they are with a last one that has no line feed
pub reading_last : (bytes : List ℕ) (entries : List Entry) (rest : List ℕ) (command : Command) → AreRead bytes entries rest → IsGood command → EndsInLine command
    → rest ++ 10 ∷ [] ≡ command_bytes command → IsLongestReading bytes (entries ++ Given command ∷ []) []
reading_last bytes entries rest command are good in_line is = reading_unended bytes (entries ++ Given command ∷ []) (good_more entries (Given command ∷ []) are.good (good, tt)) (record {
  front = entries;
  last = command;
  are = refl;
  in_line = in_line;
  is = grind (arith, common_steps, append-nil, append_assoc, flat_map-append) steps 200000;
})
