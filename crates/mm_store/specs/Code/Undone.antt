-- From the fields of `Undo` to what a contract sees.
use Rattle.std.specs.Prelude.{ℕ}
use Rattle.mm_store.specs.declared.undo.Action.{Action}
use Rattle.mm_store.specs.declared.undo.Action.TheVariants as code
use Rattle.mm_store.specs.declared.undo.Undo.TheInside.{Inside}
use Rattle.mm_store.specs.Language.Undoing.{EditAction, Inserted, Replaced, Deleted, Moved, UndoView}

abbrev pub action_of : Action → EditAction
action_of (code.Inserted at) = Inserted at
action_of (code.Replaced at key) = Replaced at key
action_of (code.Deleted at key) = Deleted at key
action_of (code.Moved at to) = Moved at to

abbrev pub undo_by : ℕ → Action → UndoView
undo_by file action = record { file = file; action = action_of action }

abbrev pub undo_view : Inside → UndoView
undo_view inside = undo_by inside.file inside.action
