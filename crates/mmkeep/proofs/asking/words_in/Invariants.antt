use Rattle.std.{proofs.Common.{◌≡◌, map, take}, specs.Prelude.{string_bytes}}
use Rattle.mmkeep.specs.Language.Asking.{said}
use Rattle.mmkeep.proofs.asking.words_in.Given as goal

abbrev pub invariant-loop-argument : goal.invariant-loop-argument
invariant-loop-argument l = said l.words.items ≡ map (λ argument. string_bytes argument) (take l.argument-index l.arguments)
