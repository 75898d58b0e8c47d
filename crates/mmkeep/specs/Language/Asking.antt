-- The words of a command line that are a command.
use Rattle.std.specs.Prelude.{ℕ, List, [], ◌∷◌, map, drop, codes, String, string_bytes}
use Rattle.std.specs.Borrow.{Bor}
use Rattle.mmkeep.specs.declared.arguments.Invocation.{Invocation}
use Rattle.mmkeep.specs.declared.arguments.Invocation.TheVariants.{Verify, Axioms, Session}

-- the words of a command, after the program's name: its verb, the file, and for axioms the label of an assertion
abbrev pub words_of : Invocation → List (List ℕ)
words_of (Verify file) = codes "verify" ∷ file.now ∷ []
words_of (Axioms file label) = codes "axioms" ∷ file.now ∷ label.now ∷ []
words_of (Session file) = codes "session" ∷ file.now ∷ []

-- the top file of a command
abbrev pub file_of : Invocation → List ℕ
file_of (Verify file) = file.now
file_of (Axioms file label) = file.now
file_of (Session file) = file.now

-- the words that are given
abbrev pub said : List (Bor (List ℕ)) → List (List ℕ)
said words = map (λ word. word.now) words

-- the words after the program's name, which is the first argument
abbrev pub given : {Z : Type 0} → List (String Z) → List (List ℕ)
given arguments = drop 1 (map (λ argument. string_bytes argument) arguments)
