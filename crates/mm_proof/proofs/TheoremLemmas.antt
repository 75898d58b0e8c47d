-- What a theorem of a base is: a statement with a label, an assertion, and what its item says.
use Rattle.std.proofs.{Common.{arith, ◌≡◌, ℕ, zero, suc, true, Some, List, [], ◌∷◌, subst, slice_get}, lemmas.{Grind.{common_steps}, Bool.{false≢true, and_from, and_parts}, Option.{same_Some}}}
use Rattle.std.specs.List.{AllZip}
use Rattle.mm_frame.specs.{mm_store.Language.{FilesView.{FilesView}, FileFacts.{CanBeRead}}, mm_statement.Language.{Item.{Said, item_at}, Statement.{Says}}}
use Rattle.mm_frame.specs.{Language.Base.{BaseView, said_at, is_shown_at, is_framed_at, is_proof_at}, declared.base.Base.{Base}}
use Rattle.mm_verdict.specs.Language.ReadIn.{HasTheorem, IsReadIn}
use Rattle.mm_frame.specs.mm_store.declared.item.Item as store

-- a sound theorem is a sound statement with a label
pub shown_proof : (view : BaseView) (n : ℕ) → is_proof_at view n ≡ true → is_shown_at view n ≡ true
shown_proof view n e = grind (arith, common_steps, and_from, and_parts, false≢true) steps 200000

-- and a sound assertion
pub framed_proof : (view : BaseView) (n : ℕ) → is_proof_at view n ≡ true → is_framed_at view n ≡ true
framed_proof view n e = grind (arith, common_steps, and_from, and_parts, false≢true) steps 200000

-- and that is a sound statement with a label
pub shown_framed : (view : BaseView) (n : ℕ) → is_framed_at view n ≡ true → is_shown_at view n ≡ true
shown_framed view n e = grind (arith, common_steps, and_from, and_parts, false≢true) steps 200000

says_in : (files : FilesView) (found : List store.Item) (said : List Said) (n : ℕ) (item : store.Item) → AllZip (Says files) found said → slice_get found n ≡ Some item → Says files item (item_at said n)
says_in files [] said n item h e = cc
says_in files (x ∷ found) (y ∷ said) zero item h e = subst (λ w. Says files w y) (same_Some x item e) h.0
says_in files (x ∷ found) (y ∷ said) (suc n) item h e = says_in files found said n item h.1 e
says_in files (x ∷ found) [] n item h e = absurd h

-- what its item says
pub says_at : (names : List (List ℕ)) (files : FilesView) (code : Base) (view : BaseView) (n : ℕ) (item : store.Item) → IsReadIn names files code view → slice_get code.items n ≡ Some item → Says files item (said_at view n)
says_at names files code view n item is e = says_in files code.items view n item is.each e

-- that it can be read
pub read_at : (names : List (List ℕ)) (files : FilesView) (code : Base) (n : ℕ) (item : store.Item) → HasTheorem names files code n → slice_get code.items n ≡ Some item → CanBeRead files item
read_at names files code n item has e = (says_at names files code has.0 n item has.1 e).read
