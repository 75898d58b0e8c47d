-- A piece is in the text of its file.
use Rattle.std.{proofs.{lemmas.{Grind.{common_steps}, Option.{same_Some}}, Common.{◌≡◌, ℕ, suc, ◌+◌, ◌≤◌, Some, List, ◌∷◌, length, length-append, take, slice_get, arith}}, specs.List.{concat}}
use Rattle.mm_store.specs.Language.{FilesView.{FilesView}, FileFacts.{IsByte}}

-- a text, after those before it, is in all of them joined
lies_in_joined : (texts : List (List ℕ)) (n : ℕ) (text : List ℕ) → slice_get texts n ≡ Some text → length (concat (take n texts)) + length text ≤ length (concat texts)
lies_in_joined (first ∷ texts) (suc n) text there = grind (arith, common_steps, lies_in_joined texts n text there, length-append) steps 200000
lies_in_joined texts n text there = grind (arith, common_steps, length-append, same_Some) steps 200000

pub byte_within : (files : FilesView) (number piece at : ℕ) (text : List ℕ) (offset : ℕ) → IsByte files number piece at text offset → offset ≤ length text
byte_within files number piece at text offset byte = grind (arith, common_steps, length-append, lies_in_joined) steps 200000
