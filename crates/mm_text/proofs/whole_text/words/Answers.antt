use Rattle.std.proofs.Common.{List, ℕ, ◌<◌, Result, Ok, Err, IfOk, IfErr, OnOk, All, Vec, Global}
use Rattle.mm_text.specs.{declared.{word.Word.{Word}, fault.TextError.{TextError}}, Language.Reading.{HasWords, IsWordsError, IsTextErrorIn, AreWithin}, Code.LeftToRight.{GivesWords, read_text}}
use Rattle.mm_text.proofs.{ReadingLemmas.{words_of_text, fault_of_text}, PositionLemmas.{are_within, all_below, fault_lies}}
use Rattle.mm_text.specs.declared.fault.TextError.TheVariants as errors
use Rattle.mm_text.proofs.whole_text.words.Goals as goal

given_words : (text : List ℕ) (r : Result (Vec Word Global) TextError) → GivesWords r (read_text text) → IfOk r (λ found. HasWords text found.items)
given_words text (Ok v) h = words_of_text text v.items h
given_words text (Err e) h = tt

given_fault : (text : List ℕ) (r : Result (Vec Word Global) TextError) → GivesWords r (read_text text) → IfErr r (IsWordsError text)
given_fault text (Err (errors.Fault fault)) h = fault_of_text text fault h
given_fault text _ h = tt

pub returns-clause-words : goal.returns-clause-words
returns-clause-words c = given_words c.args.text.now c.read_all.result c.read_all.ensures

pub returns-clause-fault : goal.returns-clause-fault
returns-clause-fault c = given_fault c.args.text.now c.read_all.result c.read_all.ensures

given_within : (text : List ℕ) (r : Result (Vec Word Global) TextError) → IfOk r (λ found. HasWords text found.items) → IfOk r (λ found. AreWithin text found.items)
given_within text (Ok v) h = are_within text v.items h
given_within text (Err e) h = tt

given_ascii : (text : List ℕ) (r : Result (Vec Word Global) TextError) → IfOk r (λ found. HasWords text found.items) → OnOk r (All (λ byte. byte < 127) text)
given_ascii text (Ok v) h = all_below text h.allowed
given_ascii text (Err e) h = tt

pub returns-clause-within : goal.returns-clause-within
returns-clause-within c = given_within c.args.text.now c.read_all.result (returns-clause-words c)

pub returns-clause-ascii : goal.returns-clause-ascii
returns-clause-ascii c = given_ascii c.args.text.now c.read_all.result (returns-clause-words c)

given_place : (text : List ℕ) (r : Result (Vec Word Global) TextError) → IfErr r (IsWordsError text) → IfErr r (IsTextErrorIn text)
given_place text (Err (errors.Fault fault)) h = fault_lies text fault h
given_place text _ h = tt

pub returns-clause-fault_within : goal.returns-clause-fault_within
returns-clause-fault_within c = given_place c.args.text.now c.read_all.result (returns-clause-fault c)
