use Rattle.std.{proofs.Common.{◌≡◌, List, [], take}, specs.List.{AllZip}}
use Rattle.mm_machine.specs.Language.Names.{Begins}
use Rattle.mm_statement.specs.Language.Statement.{Says}
use Rattle.mm_frame.specs.Code.{KeptBase.{IsDraftLater}, FromOlder.{AreFirstIf}}
use Rattle.mm_statement.specs.Language.Item as meant
use Rattle.mm_frame.proofs.older.read_each.Given as goal

abbrev pub invariant-loop-item : goal.invariant-loop-item
invariant-loop-item l = Begins l.initial.names l.names × (l.cursor.base.now ≡ l.old) × (said : List meant.Said) × AllZip (Says l.files) (take l.item-index l.items) said
    × (IsDraftLater l.initial.names [] l.initial.draft → IsDraftLater l.names said l.draft × AreFirstIf l.cursor.same l.files l.old said)
