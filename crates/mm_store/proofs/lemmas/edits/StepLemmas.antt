-- What each edit and its undoing make of the files.
use Rattle.std.proofs.lemmas.{Grind.{common_steps}, List.{length-map, Sums.{sum_by-cons, sum_by-set, sum_by-insert, sum_by-remove}}, Bool.Decides.{nat_tests}}
use Rattle.std.proofs.Common.{◌≡◌, ◌≢◌, ℕ, suc, ◌+◌, ◌<◌, ◌≤◌, List, [], ◌∷◌, Option, Some, None, is_some, true, length, map, get_or, set, refl, sym, ap, ◌∙◌, arith}
use Rattle.std.specs.List.{insert, remove, sum_by}
use Rattle.mm_store.specs.{Code.{Edited.{with_pieces}, Kept.{one, times, places, standing_count, standing_state, deleted_state, deletions}}, Language.FilesView.{KeyedFile, plain_file, bytes_of}}
use Rattle.mm_store.specs.Language.Pieces.{Standing, Parked, Removal, Replaced, Deleted, HeldPiece, PieceState, Pieces, with_state, text_under, state_in, IsParked, parked_state, parked_count}
use Rattle.mm_store.specs.Language.Undoing.{keys_in, with_keys, moved_list}
use Rattle.mm_store.proofs.lemmas.files.ListLemmas.{size, places_with, places_in, in_files, plain_with, plain_pieces, bytes_with, plain_kept, plain_same, text_within, times_at, with_same}
use Rattle.mm_store.proofs.lemmas.files.PieceLemmas.{get_state_other, text_drop_other, text_put_other, text_state, stands_parked, stands_again, stands_held, stands_settled}
use Rattle.mm_store.proofs.lemmas.expansion.WeightLemmas.{weight_fresh, weight_put, weight_dropped}
use Rattle.std.specs.FinMap as finite

-- a piece of a file is there
pub record Stands (o : Option HeldPiece) : Type 0 where
  pub piece : HeldPiece
  pub is : o ≡ Some piece
  pub state : piece.state ≡ Standing

pub stands : (o : Option HeldPiece) → standing_count o ≡ 1 → Stands o
stands o is = grind (arith, common_steps) steps 200000

pub replaced_weight : (m n : ℕ) → deleted_state m (Parked n Replaced) ≡ 0
replaced_weight m n = grind arith

-- what is under a key of a file
pub key_stands : (fs : List KeyedFile) (p : Pieces) (n at : ℕ) → ((q : ℕ) → places q fs ≡ standing_count (finite.get p q)) → at < length (keys_in fs n) → standing_count (finite.get p (get_or (keys_in fs n) at 0)) ≡ 1
key_stands fs p n at once there = grind (arith, times_at (keys_in fs n) at 0 there, places_in (get_or (keys_in fs n) at 0) fs n) steps 200000

pub map_remove : {X Y : Type 0} (f : X → Y) (xs : List X) (i : ℕ) → map f (remove xs i) ≡ remove (map f xs) i
map_remove f (x ∷ xs) (suc i) = ap (λ ys. f x ∷ ys) (map_remove f xs i)
map_remove f xs i = grind (arith, common_steps) steps 200000

-- a parked piece
pub record IsParkedPiece (o : Option HeldPiece) (n : ℕ) (kind : Removal) : Type 0 where
  pub piece : HeldPiece
  pub is : o ≡ Some piece
  pub state : piece.state ≡ Parked n kind
  pub none : standing_count o ≡ 0

pub parked : (o : Option HeldPiece) (n : ℕ) (kind : Removal) → state_in o ≡ Some (Parked n kind) → IsParkedPiece o n kind
parked o n kind is = grind (arith, common_steps) steps 200000

-- a piece that some edit parked
pub record IsParkedBySome (o : Option HeldPiece) : Type 0 where
  pub file : ℕ
  pub kind : Removal
  pub by : state_in o ≡ Some (Parked file kind)

pub parked_by_some : (o : Option HeldPiece) → parked_count o ≡ 1 → IsParkedBySome o
parked_by_some None is = absurd (omega arith)
parked_by_some (Some piece) is = by_state piece.state refl
  where
    by_state : (state : PieceState) → piece.state ≡ state → IsParkedBySome (Some piece)
    by_state Standing same = absurd (omega (arith, is, ap parked_state same))
    by_state (Parked file kind) same = record { file = file; kind = kind; by = ap Some same }

size_map : {X : Type 0} (f : X → List ℕ) (xs : List X) → size (map f xs) ≡ sum_by (λ x. length (f x)) xs
size_map f [] = refl
size_map f (x ∷ xs) = omega (arith, sum_by-cons length (f x) (map f xs), sum_by-cons (λ x. length (f x)) x xs, size_map f xs)

-- what a step makes of the files: one file has other keys, and there are other pieces; the pieces in files keep their texts
pub record Step (fs : List KeyedFile) (p : Pieces) (n : ℕ) (keys : List ℕ) (now : Pieces) (less more fewer further : ℕ) : Type 0 where
  pub file : n < length fs
  pub once : (q : ℕ) → places q (with_keys fs n keys) ≡ standing_count (finite.get now q)
  pub others : (m : ℕ) → m ≢ n → deletions m now ≡ deletions m p
  pub here : deletions n now + fewer ≡ deletions n p + further
  pub means : map (plain_file now) (with_keys fs n keys) ≡ with_pieces (map (plain_file p) fs) n (map (text_under p) keys)
  pub size : sum_by (λ k. length (text_under p k)) keys + less ≡ sum_by (λ k. length (text_under p k)) (keys_in fs n) + more

pub step_bytes : {fs : List KeyedFile} {p : Pieces} {n : ℕ} {keys : List ℕ} {now : Pieces} {less more fewer further : ℕ} → Step fs p n keys now less more fewer further
    → bytes_of (map (plain_file now) (with_keys fs n keys)) + less ≡ bytes_of (map (plain_file p) fs) + more
step_bytes {fs} {p} {n} {keys} step = grind (arith, common_steps, bytes_with, length-map, plain_pieces, size, size_map) steps 200000

-- another state of one piece
state_weight : (p : Pieces) (k m : ℕ) (piece : HeldPiece) (s : PieceState) → finite.get p k ≡ Some piece
    → deletions m (with_state p k s) + deleted_state m piece.state ≡ deletions m p + deleted_state m s
state_weight p k m piece s is = grind (arith, common_steps, weight_put) steps 200000

-- a file has these keys, and each piece of the files is at one place
pub record IsKeyed (fs : List KeyedFile) (p : Pieces) (n : ℕ) (keys : List ℕ) : Type 0 where
  pub is : keys_in fs n ≡ keys
  pub once : (q : ℕ) → places q fs ≡ standing_count (finite.get p q)

module _ {fs : List KeyedFile} {p : Pieces} {n : ℕ} {keys : List ℕ} (keyed : IsKeyed fs p n keys) where
  is : keys_in fs n ≡ keys
  is = keyed.is

  once : (q : ℕ) → places q fs ≡ standing_count (finite.get p q)
  once = keyed.once

  -- pieces have other states
  restated : (now : Pieces) → ((q : ℕ) → text_under now q ≡ text_under p q) → (ks : List ℕ) → map (plain_file now) (with_keys fs n ks) ≡ with_pieces (map (plain_file p) fs) n (map (text_under p) ks)
  restated now texts ks = plain_kept p now (with_keys fs n ks) (λ q some. texts q) ∙ plain_with p fs n ks

  -- the keys stay, and there are other pieces beside those in files
  pub unmoved : {now : Pieces} {fewer further : ℕ} → n < length fs → ((q : ℕ) → standing_count (finite.get now q) ≡ standing_count (finite.get p q))
      → ((m : ℕ) → m ≢ n → deletions m now ≡ deletions m p) → deletions n now + fewer ≡ deletions n p + further
      → map (plain_file now) fs ≡ map (plain_file p) fs → Step fs p n keys now 0 0 fewer further
  unmoved {now} there stand others here plain =
      let same : with_keys fs n keys ≡ fs = ap (with_keys fs n) (sym is) ∙ with_same fs n in
      record {
        file = there;
        once = λ q. ap (places q) same ∙ once q ∙ sym (stand q);
        others = others;
        here = here;
        means = ap (map (plain_file now)) same ∙ plain ∙ ap (map (plain_file p)) (sym same) ∙ plain_with p fs n keys;
        size = omega (arith, ap (sum_by (λ k. length (text_under p k))) is);
      }

  -- nothing changes
  pub same : n < length fs → Step fs p n keys p 0 0 0 0
  same there = unmoved there (λ q. refl) (λ m differs. refl) refl refl

  -- one of them
  module _ {at here : ℕ} (is_here : here ≡ get_or keys at 0) (there : at < length keys) where
    pub here_stands : standing_count (finite.get p here) ≡ 1
    here_stands = grind (arith, times_at keys at 0 there, places_in here fs n) steps 200000

    was : Stands (finite.get p here)
    was = stands (finite.get p here) here_stands

    pub here_is_some : is_some (finite.get p here) ≡ true
    here_is_some = ap is_some was.is

    file : n < length fs
    file = in_files fs n at (omega (arith, there, ap length is))

    -- its text is no longer than all texts
    pub here_within : length (text_under p here) ≤ bytes_of (map (plain_file p) fs)
    here_within = grind (arith, text_within p fs n at) steps 200000

    -- a deletion
    pub deleted : Step fs p n (remove keys at) (with_state p here (Parked n Deleted)) (length (text_under p here)) 0 0 1
    deleted =
        let weights = λ (m : ℕ). state_weight p here m was.piece (Parked n Deleted) was.is in
        record {
          file = file;
          once = λ q. omega (arith, places_with q fs n (remove keys at) file, ap (times q) is, sum_by-remove (one q) keys at 0 there, ap (one q) is_here, once q, stands_parked p here n Deleted q here_stands);
          others = λ m differs. grind (arith, weights m, ap (deleted_state m) was.state, nat_tests);
          here = grind (arith, weights n, ap (deleted_state n) was.state, nat_tests);
          means = restated _ (text_state p here (Parked n Deleted)) _;
          size = omega (arith, sum_by-remove (λ k. length (text_under p k)) keys at 0 there, ap (λ k. length (text_under p k)) is_here, ap (sum_by (λ k. length (text_under p k))) is);
        }

    -- a move
    pub moved : (to : ℕ) → Step fs p n (moved_list keys at to) p 0 0 0 0
    moved to =
        let put = λ (w : ℕ → ℕ). sum_by-insert w (remove keys at) to (get_or keys at 0) in
        record {
          file = file;
          once = λ q. omega (arith, places_with q fs n (moved_list keys at to) file, ap (times q) is, put (one q), sum_by-remove (one q) keys at 0 there, once q);
          others = λ m differs. refl;
          here = refl;
          means = plain_with p fs n (moved_list keys at to);
          size = omega (arith, put (λ k. length (text_under p k)), sum_by-remove (λ k. length (text_under p k)) keys at 0 there, ap (sum_by (λ k. length (text_under p k))) is);
        }

    -- a parked piece in its place
    module _ (old : ℕ) (is_parked : IsParked p old n Replaced) where
      was_parked : IsParkedPiece (finite.get p old) n Replaced
      was_parked = parked (finite.get p old) n Replaced is_parked

      pub old_differs : old ≢ here
      old_differs e = omega (arith, was_parked.none, ap (λ q. standing_count (finite.get p q)) e, here_stands)

      abbrev without : Pieces
      without = with_state p here (Parked n Replaced)

      left : finite.get without old ≡ finite.get p old
      left = get_state_other p here (Parked n Replaced) old old_differs

      pub old_is_some : is_some (finite.get without old) ≡ true
      old_is_some = ap is_some (left ∙ was_parked.is)

      pub exchanged : Step fs p n (set keys at old) (with_state without old Standing) (length (text_under p here)) (length (text_under p old)) 0 0
      exchanged =
          let out = λ (m : ℕ). state_weight p here m was.piece (Parked n Replaced) was.is in
          let put_back = λ (m : ℕ). state_weight without old m was_parked.piece Standing (left ∙ was_parked.is) in
          let stands_now = λ (q : ℕ). stands_again without old n Deleted q (ap standing_count left ∙ was_parked.none) in
          let same : (m : ℕ) → deletions m (with_state without old Standing) ≡ deletions m p =
          λ m. omega (arith, out m, ap (deleted_state m) was.state, put_back m, ap (deleted_state m) was_parked.state, replaced_weight m n) in
          record {
            file = file;
            once = λ q. omega (arith, places_with q fs n (set keys at old) file, ap (times q) is, sum_by-set (one q) keys at old 0 there, ap (one q) is_here, once q, stands_parked p here n Replaced q here_stands, stands_now q);
            others = λ m differs. same m;
            here = omega (arith, same n);
            means = restated _ (λ q. text_state without old Standing q ∙ text_state p here (Parked n Replaced) q) _;
            size = omega (arith, sum_by-set (λ k. length (text_under p k)) keys at old 0 there, ap (λ k. length (text_under p k)) is_here, ap (sum_by (λ k. length (text_under p k))) is);
          }

  -- a deletion taken back
  module _ (old : ℕ) (is_parked : IsParked p old n Deleted) where
    was_deleted : IsParkedPiece (finite.get p old) n Deleted
    was_deleted = parked (finite.get p old) n Deleted is_parked

    pub deleted_is_some : is_some (finite.get p old) ≡ true
    deleted_is_some = ap is_some was_deleted.is

    pub undeleted : (at : ℕ) → n < length fs → Step fs p n (insert keys at old) (with_state p old Standing) 0 (length (text_under p old)) 1 0
    undeleted at there = record {
      file = there;
      once = λ q. omega (arith, places_with q fs n (insert keys at old) there, ap (times q) is, sum_by-insert (one q) keys at old, once q, stands_again p old n Deleted q was_deleted.none);
      others = λ m differs. grind (arith, common_steps, nat_tests, weight_put) steps 200000;
      here = grind (arith, common_steps, nat_tests, weight_put) steps 200000;
      means = restated _ (text_state p old Standing) _;
      size = omega (arith, sum_by-insert (λ k. length (text_under p k)) keys at old, ap (sum_by (λ k. length (text_under p k))) is);
    }

    pub settled_here : deletions n (finite.remove p old) + 1 ≡ deletions n p
    settled_here = grind (arith, common_steps, nat_tests, weight_dropped) steps 200000

    pub settled : n < length fs → Step fs p n keys (finite.remove p old) 0 0 1 0
    settled there = unmoved there (λ q. stands_settled p old n Deleted q was_deleted.none) (λ m differs. grind (arith, common_steps, nat_tests, weight_dropped) steps 200000)
        (omega (arith, settled_here)) (plain_same p (finite.remove p old) old (text_drop_other p old) fs (once old ∙ was_deleted.none))

  -- a new piece is held
  pub held : (k : ℕ) (piece : HeldPiece) → finite.get p k ≡ None → piece.state ≡ Parked n Deleted → n < length fs → Step fs p n keys (finite.insert p k piece) 0 0 0 1
  held k piece fresh state there = unmoved there (λ q. stands_held p k piece fresh q (ap standing_state state)) (λ m differs. grind (arith, common_steps, nat_tests, weight_fresh) steps 200000)
      (grind (arith, common_steps, nat_tests, weight_fresh) steps 200000) (plain_same p (finite.insert p k piece) k (text_put_other p k piece) fs (once k ∙ ap standing_count fresh))
