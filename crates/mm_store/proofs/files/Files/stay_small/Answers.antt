use Rattle.std.proofs.Common.{arith, ap}
use Rattle.mm_store.specs.Language.FilesView.{FilesView, bytes_of, plain}
use Rattle.mm_store.proofs.files.Files.stay_small.Goals as goal

pub returns : goal.returns
returns c = omega (arith, c.self.invariant.counted, c.self.invariant.within, ap (λ (view : FilesView). bytes_of (plain view)) c.self.view_is)
