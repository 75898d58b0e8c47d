-- From the fields of `Walk` to what a contract sees.
use Rattle.mm_store.specs.declared.walk.Walk.TheInside.{Inside}
use Rattle.mm_store.specs.Language.Walking.{WalkView}
use Rattle.mm_store.specs.Code.Gains.{names_in}

abbrev pub walk_view : Inside → WalkView
walk_view inside = record { names = names_in inside.names; levels = inside.levels.items; told = inside.told }
