use Rattle.std.proofs.Common.{subst}
use Rattle.mm_store.{specs.Language.FileFacts.{HoldsPieces}, proofs.lemmas.files.HoldLemmas.{pieces_held}}
use Rattle.mm_store.proofs.files.Files.holds_pieces.Goals as goal

pub returns : goal.returns
returns c = subst HoldsPieces c.self.view_is (pieces_held c.self.inside c.self.invariant)
