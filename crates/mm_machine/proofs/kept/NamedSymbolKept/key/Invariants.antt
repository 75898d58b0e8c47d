use Rattle.std.proofs.Common.{◌≡◌, ◌<◌, drop}
use Rattle.mm_machine.specs.Language.Keys.{key_from}
use Rattle.mm_machine.proofs.kept.NamedSymbolKept.key.Given as goal

abbrev pub invariant-loop-byte : goal.invariant-loop-byte
invariant-loop-byte l = record {
  within : l.key < 4294967296;
  rest : key_from l.key (drop l.byte-index l.self.name.items) ≡ key_from 0 l.self.name.items;
}
