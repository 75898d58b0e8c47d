-- What a file more makes of the files.
use Rattle.std.proofs.Common.{rules, ◌≡◌, ◌≢◌, is_some, true, ℕ, suc, ◌+◌, ◌≤◌, List, [], ◌∷◌, ◌++◌, Option, None, length, map, refl, ap, ◌∙◌, subst, arith, length-append, Global, Vec, All, position}
use Rattle.std.{proofs.{Common.{Bool, Result, Ok}, lemmas.{Grind.{common_steps}, Bool.Decides.{nat_tests}, List.{length-map, map-append, Elements.{All-nil}, Sums.{sum_by-cons}}}}, specs.Result.{OnOk}}
use Rattle.std.specs.{List.{position_or_len, concat}, Map.{keys_of, lookup}}
use Rattle.mm_text.specs.Language.{Cut.{ArePieces}, Reading.{HasWords}}
use Rattle.mm_store.specs.Code.{Inside.{CanBeKept, ArePut}, Starts.{HasStarts}, Room.{HasRoom}}
use Rattle.mm_store.specs.{Code.Kept.{files_view, keyed_file, times, places, standing_count, deletions, IsRoomy, HaveRoom, HaveStarts, AreFilesKept}, declared.file_text.FileText.{FileText}}
use Rattle.mm_store.specs.{declared.files.Files.TheInside.{Inside}, Language.{Pieces.{HeldPiece, Pieces, standing_piece, text_in, text_under}, FilesView.{File, plain, plain_file, text_of, bytes_of}}}
use Rattle.mm_store.proofs.lemmas.{files.{MapLemmas.{get_put_same, get_put_other}, PieceLemmas.{stands_put}, ListLemmas.{plain_kept}, EntryLemmas.{room_same}}, expansion.WeightLemmas.{weight_fresh}}
use Rattle.std.specs.FinMap as finite

-- pieces that were put: what was there stays
pub put_keeps : (p p' : Pieces) (texts : List (List ℕ)) (keys : List ℕ) → ArePut p texts keys p' → (q : ℕ) → is_some (finite.get p q) ≡ true → finite.get p' q ≡ finite.get p q
put_keeps p p' [] keys put q some = ap (λ m. finite.get m q) put.1
put_keeps p p' (text ∷ texts) keys put q some =
    let k = put.0 in
    let differs : q ≢ k = λ e. absurd (let none : is_some (finite.get p q) ≡ is_some {T = HeldPiece} None = ap (λ q. is_some (finite.get p q)) e ∙ ap is_some put.3 in cc) in
    let other = get_put_other p k (standing_piece text) q differs in
    put_keeps (finite.insert p k (standing_piece text)) p' texts put.1 put.4 q (ap is_some other ∙ some) ∙ other

pub put_texts : (p p' : Pieces) (texts : List (List ℕ)) (keys : List ℕ) → ArePut p texts keys p' → map (text_under p') keys ≡ texts
put_texts p p' [] keys put = ap (map (text_under p')) put.0
put_texts p p' (text ∷ texts) keys put =
    let k = put.0 in
    let p1 = finite.insert p k (standing_piece text) in
    let first = put_keeps p1 p' texts put.1 put.4 k (ap is_some (get_put_same p k (standing_piece text))) ∙ get_put_same p k (standing_piece text) in
    ap (map (text_under p')) put.2 ∙ ap (λ (t : List ℕ). t ∷ map (text_under p') put.1) (ap text_in first) ∙ ap (λ ts. text ∷ ts) (put_texts p1 p' texts put.1 put.4)

pub put_stand : (p p' : Pieces) (texts : List (List ℕ)) (keys : List ℕ) → ArePut p texts keys p' → (q : ℕ) → standing_count (finite.get p' q) ≡ standing_count (finite.get p q) + times q keys
put_stand p p' [] keys put q = omega (arith, ap (λ m. standing_count (finite.get m q)) put.1, ap (times q) put.0)
put_stand p p' (text ∷ texts) keys put q = grind (arith, common_steps, put_stand (finite.insert p put.0 (standing_piece text)) p' texts put.1 put.4 q, stands_put, sum_by-cons) steps 200000

pub put_deletions : (p p' : Pieces) (texts : List (List ℕ)) (keys : List ℕ) → ArePut p texts keys p' → (m : ℕ) → deletions m p' ≡ deletions m p
put_deletions p p' [] keys put m = ap (deletions m) put.1
put_deletions p p' (text ∷ texts) keys put m = grind (arith, common_steps, put_deletions (finite.insert p put.0 (standing_piece text)) p' texts put.1 put.4 m, weight_fresh) steps 200000

pub put_many : (p p' : Pieces) (texts : List (List ℕ)) (keys : List ℕ) → ArePut p texts keys p' → length keys ≡ length texts
put_many p p' [] keys put = ap length put.0
put_many p p' (text ∷ texts) keys put = omega (arith, ap length put.2, put_many (finite.insert p put.0 (standing_piece text)) p' texts put.1 put.4)

pub stands_some : (o : Option HeldPiece) → 1 ≤ standing_count o → is_some o ≡ true
stands_some o some = grind (arith, common_steps) steps 200000

places_more : {Y : Type 0} (e : Vec ℕ Y × FileText) (q : ℕ) (es : List (Vec ℕ Y × FileText)) → places q (map keyed_file (es ++ e ∷ [])) ≡ places q (map keyed_file es) + times q e.1.keys.items
places_more e q [] = omega arith
places_more e q (x ∷ es) = omega (arith, places_more e q es)

room_more : {Y : Type 0} (p : Pieces) (e : Vec ℕ Y × FileText) (start : ℕ) (es : List (Vec ℕ Y × FileText)) → IsRoomy p (start + length es) e.1 → HaveRoom p start es → HaveRoom p start (es ++ e ∷ [])
room_more p e start [] has room = let same : start + 0 ≡ start = omega arith in (subst (λ n. IsRoomy p n e.1) same has, tt)
room_more p e start (x ∷ es) has room = let same : start + suc (length es) ≡ suc start + length es = omega arith in (room.0, room_more p e (suc start) es (subst (λ n. IsRoomy p n e.1) same has) room.1)

starts_more : {Y : Type 0} (file : File) (e : Vec ℕ Y × FileText) (files : List File) (es : List (Vec ℕ Y × FileText)) → HasStarts file.pieces e.1 → HasWords e.1.tail.items [] → HaveStarts files es → HaveStarts (files ++ file ∷ []) (es ++ e ∷ [])
starts_more file e [] (y ∷ es) are tail have = absurd have
starts_more file e (x ∷ files) (y ∷ es) are tail have = (have.0, have.1, starts_more file e files es are tail have.2)
starts_more file e files [] are tail have = grind (arith, common_steps) steps 200000

pub bytes_more : (files : List File) (file : File) → bytes_of (files ++ file ∷ []) ≡ bytes_of files + length (text_of file)
bytes_more [] file = omega arith
bytes_more (x ∷ files) file = omega (arith, bytes_more files file)

module _ (inside : Inside) (kept : AreFilesKept inside) (e : Vec ℕ Global × FileText) (texts : List (List ℕ)) (now : Pieces) (put : ArePut inside.pieces texts e.1.keys.items now) where
  abbrev es : List (Vec ℕ Global × FileText)
  es = inside.files.entries

  abbrev new_file : File
  new_file = record { name = e.0.items; pieces = texts; tail = e.1.tail.items }

  keeps_texts : (q : ℕ) → 1 ≤ places q (map keyed_file es) → text_under now q ≡ text_under inside.pieces q
  keeps_texts q some = ap text_in (put_keeps inside.pieces now texts e.1.keys.items put q (stands_some (finite.get inside.pieces q) (omega (arith, some, kept.once q))))

  pub plain_added : map (plain_file now) (map keyed_file (es ++ e ∷ [])) ≡ map (plain_file inside.pieces) (map keyed_file es) ++ new_file ∷ []
  plain_added = search (rules, keeps_texts, map-append, plain_kept, put_texts) steps 200000

  pub kept_added : (after : Inside) → after.files.entries ≡ es ++ e ∷ [] → after.pieces ≡ now → e.1.deleted ≡ 0 → HasRoom e.1 → HasStarts texts e.1 → HasWords e.1.tail.items []
      → after.bytes ≡ inside.bytes + length (concat texts ++ e.1.tail.items) → after.bytes ≤ 4294967295 → AreFilesKept after
  kept_added after is pieces deleted room starts tail counted within =
      let p = inside.pieces in
      let plain_is : plain (files_view after) ≡ map (plain_file p) (map keyed_file es) ++ new_file ∷ [] =
      ap (λ m. map (plain_file m) (map keyed_file after.files.entries)) pieces ∙ ap (λ es. map (plain_file now) (map keyed_file es)) is ∙ plain_added in
      let same : (m : ℕ) → deletions m now ≡ deletions m p = put_deletions p now texts e.1.keys.items put in
      let none = kept.known (length es) (omega arith) in
      record {
        once = λ q. ap (λ es. places q (map keyed_file es)) is ∙ omega (arith, places_more e q es, kept.once q, put_stand p now texts e.1.keys.items put q, ap (λ m. standing_count (finite.get m q)) pieces);
        room = search (rules, room_more, room_same);
        known = λ m le. ap (deletions m) pieces ∙ same m ∙ kept.known m (omega (arith, le, ap length is, length-append es (e ∷ [])));
        starts = grind (arith, common_steps, starts_more new_file e (map (plain_file p) (map keyed_file es)) es starts tail kept.starts) steps 200000;
        counted = omega (arith, counted, kept.counted, ap bytes_of plain_is, bytes_more (map (plain_file p) (map keyed_file es)) new_file);
        within = within;
      }

pub done_ok : {T E : Type 0} (r : Result T E) (x : T) (P : Type 0) → r ≡ Ok x → OnOk r P → P
done_ok r x P is h = subst (λ r. OnOk r P) is h

absent_from : {K T : Type 0} (test : K → Bool) (es : List (K × T)) → length es ≤ position_or_len test (keys_of es) → lookup test es ≡ None
absent_from test [] le = refl
absent_from test (e ∷ es) le = grind (arith, common_steps, absent_from test es) steps 200000

-- a name without a number has no file
pub no_file : {T : Type 0} (test : Vec ℕ Global → Bool) (es : List (Vec ℕ Global × T)) → position test (keys_of es) ≡ None → lookup test es ≡ None
no_file {T} test es none = grind (arith, common_steps, absent_from, length-map, nat_tests) steps 200000

pub can_be_kept : {X : Type 0} (bytes : X → List ℕ) (pieces : List X) (tail : List ℕ) → ArePieces (map bytes pieces) tail → length (concat (map bytes pieces)) ≤ 4294967295 → All (λ piece. CanBeKept (bytes piece)) pieces
can_be_kept bytes [] tail are small = All-nil (λ piece. CanBeKept (bytes piece))
can_be_kept bytes (piece ∷ pieces) tail are small =
    grind (arith, can_be_kept bytes pieces tail are.2 (omega (arith, (length-append (bytes piece) (concat (map bytes pieces))))), length-append) steps 200000

pub tail_of : (texts : List (List ℕ)) (tail : List ℕ) → ArePieces texts tail → HasWords tail []
tail_of [] tail are = are
tail_of (text ∷ texts) tail are = tail_of texts tail are.2
