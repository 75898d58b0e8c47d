-- What a base and its files say of one item.
use Rattle.std.{proofs.{Common.{◌≡◌, ℕ, zero, suc, true, Some, List, [], ◌∷◌, slice_get, refl, sym, subst}, lemmas.Option.{get_or_from_slice_get}}, specs.List.{AllZip}}
use Rattle.mm_frame.specs.{mm_store.Language.{FilesView.{FilesView}, FileFacts.{CanBeRead}}, Language.Base.{BaseView, is_proof_at, said_at}, mm_statement.Language.Item.{Said, passed}}
use Rattle.mm_frame.specs.{mm_statement.Language.Statement.{Says}, declared.base.Base.{Base}}
use Rattle.mm_verdict.specs.{Language.ReadIn.{HasTheorem, IsReadIn}, Code.Judged.{IsTheorem}}
use Rattle.mm_frame.specs.mm_store.declared.item.Item as store

zip_at : {A B : Type 0} (R : A → B → Type 0) (xs : List A) (ys : List B) (n : ℕ) (x : A) → AllZip R xs ys → slice_get xs n ≡ Some x → (y : B) × (slice_get ys n ≡ Some y) × R x y
zip_at R [] [] n x a e = cc
zip_at R (w ∷ xs) (z ∷ ys) zero x a e = let f : w ≡ x = cc in (z, refl, subst (λ v. R v z) f a.0)
zip_at R (w ∷ xs) (z ∷ ys) (suc n) x a e = zip_at R xs ys n x a.1 e
zip_at R _ _ n x a e = absurd a

-- what it says
says_at : (names : List (List ℕ)) (files : FilesView) (code : Base) (view : BaseView) (n : ℕ) (item : store.Item) → IsReadIn names files code view → slice_get code.items n ≡ Some item → Says files item (said_at view n)
says_at names files code view n item is e =
    let y = zip_at (Says files) code.items view n item is.each e in
    subst (Says files item) (sym (get_or_from_slice_get view n y.0 passed y.1)) y.2

-- that it can be read
pub read_at : (names : List (List ℕ)) (files : FilesView) (code : Base) (n : ℕ) (item : store.Item) → HasTheorem names files code n → slice_get code.items n ≡ Some item → CanBeRead files item
read_at names files code n item has e = (says_at names files code has.0 n item has.1 e).read

-- the theorem that it is
pub theorem_at :
    (names : List (List ℕ)) (files : FilesView) (code : Base) (n : ℕ) (item : store.Item) (proof : List (List ℕ)) (view : BaseView) → IsReadIn names files code view → is_proof_at view n ≡ true →
    slice_get code.items n ≡ Some item → ((other : Said) → Says files item other → proof ≡ other.proof) → IsTheorem code n proof view
theorem_at names files code n item proof view is sound at only = record { base = (names, is.base); said = is.base.labelled; is_sound = sound; says = sym (only (said_at view n) (says_at names files code view n item is at)) }
