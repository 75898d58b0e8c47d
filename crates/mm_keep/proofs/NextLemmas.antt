-- What a session goes on with.
use Rattle.std.proofs.{Common.{arith, ℕ, List}, lemmas.Grind.{common_steps}}
use Rattle.mm_proof.specs.{mm_store.Language.FilesView.{FilesView}, mm_frame.{Language.{Base.{BaseView}, Older.{IsOlder}}, declared.base.Base.{Base}}, mm_machine.Language.Names.{AreDistinct, Begins}}
use Rattle.mm_keep.specs.Code.{Next.{IsBuilt}, Planned.{AreBothRead}}

-- old names have the same numbers among more
pub both_read : (names all : List (List ℕ)) (files : FilesView) (top : List ℕ) (old new : Base) (view copy : BaseView) → AreDistinct all → Begins names all
    → IsOlder names files old view → IsBuilt all files top new copy → AreBothRead all files old new view copy
both_read names all files top old new view copy distinct grows is built = grind (arith, common_steps, is.later all distinct grows) steps 200000
