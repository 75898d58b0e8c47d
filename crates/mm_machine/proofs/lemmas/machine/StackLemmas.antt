-- Entries, when the list of symbols changes behind its front.
use Rattle.std.proofs.Common.{rules, ◌≡◌, ℕ, ◌+◌, ◌-◌, ◌<◌, ◌≤◌, Some, List, [], ◌∷◌, ◌++◌, length, map, take, drop, get_or, refl, sym, ◌∙◌, ap, arith, ◌⊎◌, length-append, slice_get, All}
use Rattle.std.proofs.lemmas.{Grind.{common_steps, elements}, List.{length-map, length-take, length-take-le, take_more, map-append, take-map, take_all, get_or-take, drop-map}}
use Rattle.std.proofs.lemmas.{List.Elements.{All-head, All-tail}, Option.{slice_get_within, get_or_from_slice_get, slice_get-get_or, same_Some}}
use Rattle.mm_machine.specs.{Code.{Ranges.{expressions, AreOrderedRanges, Saves}, Flat.{read, read_all, IsEntryWithin}}, Language.{Frame.{Symbol, Frame}, Faults.{last_entries}}}
use Rattle.mm_machine.{specs.declared.pattern.Entry.{Entry}, proofs.lemmas.{machine.ApartLemmas.{range_kept, last_at, front_at}, lists.Members.{contains_at}}}

-- entries that are in the front read the same
pub read_all_kept : (before after : List Symbol) (es : List Entry) → All (λ e. e.end ≤ length before) es → take (length before) after ≡ before → read_all after es ≡ read_all before es
read_all_kept before after [] all kept = refl
read_all_kept before after (e ∷ es) all kept =
    grind (arith, common_steps, read_all_kept before after es (All-tail (λ (e : Entry). e.end ≤ length before) e es all) kept, range_kept before after e kept (All-head (λ (e : Entry). e.end ≤ length before) e es all)) steps 200000

pub ends_of : (n m : ℕ) (es : List Entry) → n ≤ m → All (IsEntryWithin n) es → All (λ e. e.end ≤ m) es
ends_of n m es l all k d i = let w = all k d i in omega arith

pub top_of : {X Y : Type 0} (f : X → Y) (es : List X) (n : ℕ) (x : X) → n < length es → length es ≤ n + 1 → x ≡ get_or es n x → map f es ≡ map f (take n es) ++ f x ∷ []
top_of f es n x l m is = grind (arith, common_steps, take_all (n + 1) es m, take_more es n x l, map-append f (take n es) (get_or es n x ∷ [])) steps 200000

-- the entry on top is saved
pub top_saved : (symbols : List Symbol) (es saved new : List Entry) (n : ℕ) (x : Entry) → n < length es → length es ≤ n + 1 → x ≡ get_or es n x →
    new ≡ saved ++ x ∷ [] → Saves (expressions symbols es saved) (expressions symbols es new)
top_saved symbols es saved new n x l m is e =
    grind (arith, common_steps, map-append (read symbols) saved (x ∷ []), top_of (read symbols) es n x l m is) steps 200000

-- the front reads the same after a cut at its end
cut_kept : (symbols : List Symbol) (f : ℕ) (es : List Entry) → f ≤ length symbols → All (λ e. e.end ≤ f) es → read_all (take f symbols) es ≡ read_all symbols es
cut_kept symbols f es l all = sym (read_all_kept (take f symbols) symbols es (λ k d i. let w = all k d i in let c = length-take-le f symbols l in omega arith) (ap (λ n. take n symbols) (length-take-le f symbols l)))

-- entries that end within the front read the same if the front is the same
pub front_kept : (n : ℕ) (before after : List Symbol) (es : List Entry) → n ≤ length before → take n after ≡ take n before → All (λ e. e.end ≤ n) es → read_all after es ≡ read_all before es
front_kept n before after es l e all =
    let cut = length-take-le n before l in
    read_all_kept (take n before) after es (λ k d i. let w = all k d i in omega (arith, cut)) (ap (λ k. take k after) cut ∙ e) ∙ cut_kept before n es l all

-- the entries before a place end within the front
ends_before : (f below : ℕ) (es : List Entry) → ((i : ℕ) (e : Entry) → i < below → slice_get es i ≡ Some e → (e.end ≤ f) × (e.floor ≤ f)) → All (λ e. e.end ≤ f) (take below es)
ends_before f below es stays k d i = search (rules, get_or-take, length-take, slice_get-get_or)

-- entries up to a place, and one more
pub replaced_by : (before after result : List Symbol) (f below : ℕ) (es next : List Entry) (new : Entry) → f ≤ length before → take f after ≡ take f before
    → ((i : ℕ) (e : Entry) → i < below → slice_get es i ≡ Some e → (e.end ≤ f) × (e.floor ≤ f)) → next ≡ take below es ++ new ∷ [] → read after new ≡ result →
    read_all after next ≡ take below (read_all before es) ++ result ∷ []
replaced_by before after result f below es next new l front stays e is = search (rules, ends_before, take-map, front_kept, map-append)

-- what is at a place of entries that were cut and got one more
cut_or_last : (es : List Entry) (below k : ℕ) (new s : Entry) → below ≤ length es → slice_get (take below es ++ new ∷ []) k ≡ Some s → ((k < below) × (slice_get es k ≡ Some s)) ⊎ ((k ≡ below) × (new ≡ s))
cut_or_last es below k new s l at =
    grind (arith, elements, front_at, get_or-take, get_or_from_slice_get, last_at, length-append, length-take-le, same_Some, slice_get-get_or, slice_get_within) steps 200000

pub whole_replaced : (n m kept f below : ℕ) (es saved next : List Entry) (new : Entry) → AreOrderedRanges n kept es saved → below ≤ length es → kept ≤ f
    → f ≤ m → ((i : ℕ) (e : Entry) → i < below → slice_get es i ≡ Some e → (e.end ≤ f) × (e.floor ≤ f)) → next ≡ take below es ++ new ∷ [] →
    IsEntryWithin m new → new.floor ≡ f → AreOrderedRanges m kept next saved
whole_replaced n m kept f below es saved next new whole l low high front e in_range floor = search (rules, contains_at, cut_or_last, slice_get-get_or)

-- the entries that an assertion takes
pub entries_taken : (frame : Frame) (symbols : List Symbol) (es : List Entry) (below : ℕ) → below + length frame.hypotheses ≡ length es
    → last_entries frame (read_all symbols es) ≡ read_all symbols (drop below es)
entries_taken frame symbols es below e = grind (arith, common_steps, drop-map, length-map) steps 200000

-- the entries that are taken are within the symbols
pub all_taken : (n : ℕ) (es known : List Entry) (k : ℕ) → known ≡ es → All (IsEntryWithin n) es → All (IsEntryWithin n) (take (length known - k) (drop k known))
all_taken n es known k b h = grind (arith, elements) steps 200000

-- the ranges with one entry more, which owns no symbols
pub whole_pushed :
    (n kept : ℕ) (es saved next : List Entry) (new : Entry) → AreOrderedRanges n kept es saved → IsEntryWithin n new → new.floor ≡ n → next ≡ es ++ new ∷ [] →
    AreOrderedRanges n kept next saved
whole_pushed n kept es saved next new whole in_range floor e = grind (arith, elements, contains_at, take_all, whole_replaced) steps 200000
