-- A script that is answered command by command.
use Rattle.std.proofs.Common.{rules, arith, ◌≡◌, ℕ, zero, suc, true, Option, Some, None, unwrap_or, List, [], ◌∷◌, ◌++◌, inl, inr, drop, take, replicate, refl, sym, ap, ◌∙◌, subst, append_assoc}
use Rattle.std.proofs.{Common.{append-nil, ◌≢◌, Result, Err, IfErr, IfSome, IsErrOf}, lemmas.Grind.{common_steps}, KnownBytes.{Appends-nil, Appends-trans, Consumes-nil, Consumes-trans}}
use Rattle.std.specs.{Result.{IsErrAnd}, List.{AllByRecursion}, Io.KnownBytes.{Consumes, IsAtEnd}}
use Rattle.mm_script.specs.declared.{error.ScriptError.{ScriptError}, input.Input.{Input}, command.{CommandAt.{CommandAt}, Complete.{Complete}}, stream.Writing.{Writing}}
use Rattle.mm_script.specs.{declared.read_stream.Reading.{Reading}, Language.Commands.{pending, ReadsOn, IsNextCommand, IsWholeCommand, IsLast, IsWholeOrLast, HasNoEntry, StopsSo, rest_of_script}}
use Rattle.mm_script.specs.Language.Script.{Command, End, Done, CutShort, BadLine, Entry, Blank, Given, IsGood, IsGoodEntry, AreRead, IsLongestReading, LacksFeed, entries_bytes, command_bytes}
use Rattle.mm_script.specs.Language.{Script.{commands_of}, Stream.{cannot_read, unread, written}, ReadingLaws.{CommandsLeaveNothing, ReadingsJoin}}
use Rattle.mm_keep.specs.Language.Sessions.{SessionView}
use Rattle.mm_report.specs.{Code.Answered.{IsAnswered, BeginsAnswer, FailsSo, AnswersSoFar, HasAnswered, StopsAnswering}, Language.Answers.{AreAnswers, IsAnswer}}
use Rattle.mm_report.specs.Language.Scripting.{AnswersScript, AnswersRead, AreFirst, BeginsAnswers}
use Rattle.mm_script.specs.declared.error.ScriptError.TheVariants as errors

-- ---- empty lines, and commands, after entries

blanks_good : (n : ℕ) → AllByRecursion IsGoodEntry (replicate n Blank)
blanks_good zero = tt
blanks_good (suc n) = (tt, blanks_good n)

blank_bytes : (n : ℕ) → entries_bytes (replicate n Blank) ≡ replicate n 10
blank_bytes zero = refl
blank_bytes (suc n) = ap (λ bytes. 10 ∷ bytes) (blank_bytes n)

no_commands : (n : ℕ) → commands_of (replicate n Blank) ≡ []
no_commands zero = refl
no_commands (suc n) = no_commands n

commands_join : (entries : List Entry) (n : ℕ) → commands_of (entries ++ replicate n Blank) ≡ commands_of entries
commands_join [] n = no_commands n
commands_join (Blank ∷ entries) n = commands_join entries n
commands_join (Given command ∷ entries) n = ap (λ commands. command ∷ commands) (commands_join entries n)

-- ---- what is answered so far

-- one command more is answered
pub one_more : (old between new : SessionView) (entries : List Entry) (command : Command) (answers one : List ℕ) → AreAnswers old (commands_of entries) answers between
    → IsAnswer between command one new → AreAnswers old (commands_of (entries ++ Given command ∷ [])) (answers ++ one) new
one_more old between new [] command answers one are answer = search (rules, append-nil one)
one_more old between new (Blank ∷ entries) command answers one are answer = one_more old between new entries command answers one are answer
one_more old between new (Given first ∷ entries) command answers one are answer =
    let rest = one_more are.1 between new entries command are.2 one are.4 answer in
    (are.0, are.1, are.2 ++ one, are.3, rest, ap (λ (w : List ℕ). w ++ one) are.5 ∙ append_assoc are.0 are.2 one)

-- nothing yet
pub none_answered : (session : SessionView) (all before : Option (List ℕ)) → HasAnswered session session all all before before []
none_answered session all before = record {
  first = record {
    bytes = [];
    consumes = Consumes-nil all;
    entries = [];
    rest = [];
    are = record { good = tt; joined = refl };
    answers = [];
    answered = (refl, refl);
    out = Appends-nil before;
  };
  rest = refl;
}

module _ (joins : ReadingsJoin) (done : CommandsLeaveNothing) (old session : SessionView) (all left before after : Option (List ℕ)) where
  -- bytes are read on, and empty lines passed
  pub read_more : (pend now part : List ℕ) (blanks : ℕ) (more : Option (List ℕ)) → Consumes left more part → pend ++ part ≡ replicate blanks 10 ++ now
      → HasAnswered old session all left before after pend → HasAnswered old session all more before after now
  read_more pend now part blanks more consumes are so =
      let entries = so.first.entries in
      let passed = replicate blanks Blank in
      let grown : AreRead (so.first.bytes ++ part) entries (so.first.rest ++ part) = record {
        good = so.first.are.good;
        joined = ap (λ bytes. bytes ++ part) so.first.are.joined ∙ append_assoc (entries_bytes entries) so.first.rest part;
      } in
      let blank : AreRead (so.first.rest ++ part) passed now = record {
        good = blanks_good blanks;
        joined = ap (λ bytes. bytes ++ part) so.rest ∙ are ∙ ap (λ bytes. bytes ++ now) (sym (blank_bytes blanks));
      } in
      record {
        first = record {
          bytes = so.first.bytes ++ part;
          consumes = Consumes-trans all left more so.first.bytes part so.first.consumes consumes;
          entries = entries ++ passed;
          rest = now;
          are = joins.entries (so.first.bytes ++ part) entries passed (so.first.rest ++ part) now grown blank;
          answers = so.first.answers;
          answered = subst (λ commands. AreAnswers old commands so.first.answers session) (sym (commands_join entries blanks)) so.first.answered;
          out = so.first.out;
        };
        rest = refl;
      }

  -- the bytes that are read are the first entries and what is pending
  read_as : (pend : List ℕ) → (so : HasAnswered old session all left before after pend) → AreRead so.first.bytes so.first.entries pend
  read_as pend so = record { good = so.first.are.good; joined = so.first.are.joined ∙ ap (λ rest. entries_bytes so.first.entries ++ rest) so.rest }

  -- what is read with one command more
  more_read : (pend : List ℕ) (command : Command) (end : ℕ) (so : HasAnswered old session all left before after pend) → IsGood command → IsWholeCommand pend command end
      → AreRead so.first.bytes (so.first.entries ++ Given command ∷ []) (drop end pend)
  more_read pend command end so good whole = grind (arith, common_steps, append-nil (command_bytes command), read_as pend so) steps 200000

  -- what is read with a last command, whose line has no line feed
  last_read : (pend : List ℕ) (command : Command) (end : ℕ) (so : HasAnswered old session all left before after pend) → IsGood command → IsLast pend left command end
      → IsLongestReading so.first.bytes (so.first.entries ++ Given command ∷ []) []
  last_read pend command end so good last =
      let feed : LacksFeed pend (Given command ∷ []) = record { front = []; last = command; are = refl; in_line = last.in_line; is = last.are ∙ sym (append-nil (command_bytes command)) } in
      joins.reading so.first.bytes so.first.entries (Given command ∷ []) pend [] (read_as pend so)
      (done pend (Given command ∷ []) (record { good = (good, tt); joined = inr (feed, refl) }))

  -- one command more is answered
  pub whole_answered : (new : SessionView) (now : Option (List ℕ)) (pend : List ℕ) (command : Command) (end : ℕ) → IsGood command → IsWholeCommand pend command end
      → IsAnswered session new command after now → HasAnswered old session all left before after pend → HasAnswered old new all left before now (drop end pend)
  whole_answered new now pend command end good whole one so = record {
    first = record {
      bytes = so.first.bytes;
      consumes = so.first.consumes;
      entries = so.first.entries ++ Given command ∷ [];
      rest = drop end pend;
      are = more_read pend command end so good whole;
      answers = so.first.answers ++ one.answer;
      answered = one_more old session new so.first.entries command so.first.answers one.answer so.first.answered one.is;
      out = Appends-trans before after now so.first.answers one.answer so.first.out one.out;
    };
    rest = refl;
  }

  -- what is read, and what is left after it, is the script
  script_is : (whole : Option (List ℕ)) (bytes : List ℕ) → Consumes whole left bytes → IfSome whole (λ script. rest_of_script bytes left ≡ script)
  script_is None bytes consumes = tt
  script_is (Some script) bytes consumes = grind (arith, common_steps) steps 200000

  -- if nothing is left, that is what is read
  ended_there : (bytes : List ℕ) → IsAtEnd left → bytes ≡ rest_of_script bytes left
  ended_there bytes at_end = grind (arith, common_steps, append-nil bytes) steps 200000

  -- ---- where the script ends

  -- the last command, whose line has no line feed, is answered
  pub last_answered : (new : SessionView) (now : Option (List ℕ)) (pend : List ℕ) (command : Command) (end : ℕ) → IsGood command → IsLast pend left command end
      → IsAnswered session new command after now → HasAnswered old session all left before after pend → AnswersScript old new all Done before now
  last_answered new now pend command end good last one so =
      let entries = so.first.entries ++ Given command ∷ [] in
      record {
        script = rest_of_script so.first.bytes left;
        is_script = script_is all so.first.bytes so.first.consumes;
        answers = so.first.answers ++ one.answer;
        is = record {
          entries = entries;
          rest = [];
          reading = subst (λ bytes. IsLongestReading bytes entries []) (ended_there so.first.bytes last.at_end) (last_read pend command end so good last);
          answered = one_more old session new so.first.entries command so.first.answers one.answer so.first.answered one.is;
          ends = refl;
        };
        out = Appends-trans before after now so.first.answers one.answer so.first.out one.out;
      }

  -- nothing is left
  pub done_answered : (pend : List ℕ) → pend ≡ [] → IsAtEnd left → HasAnswered old session all left before after pend → AnswersScript old session all Done before after
  done_answered pend none at_end so =
      let are = subst (λ rest. AreRead so.first.bytes so.first.entries rest) none (read_as pend so) in
      let reading = done so.first.bytes so.first.entries (record { good = are.good; joined = inl are.joined }) in
      record {
        script = rest_of_script so.first.bytes left;
        is_script = script_is all so.first.bytes so.first.consumes;
        answers = so.first.answers;
        is = record {
          entries = so.first.entries;
          rest = [];
          reading = subst (λ bytes. IsLongestReading bytes so.first.entries []) (ended_there so.first.bytes at_end) reading;
          answered = so.first.answered;
          ends = refl;
        };
        out = so.first.out;
      }

  -- it stops before the bytes that are pending
  pub stop_answered : (pend : List ℕ) (end : End) → StopsSo (rest_of_script pend left) end → HasAnswered old session all left before after pend
      → AnswersScript old session all end before after
  stop_answered pend end stops so =
      let entries = so.first.entries in
      let script = rest_of_script so.first.bytes left in
      let rest = rest_of_script pend left in
      let more = unwrap_or left [] in
      let joined : script ≡ entries_bytes entries ++ rest = ap (λ bytes. bytes ++ more) (read_as pend so).joined ∙ append_assoc (entries_bytes entries) pend more in
      let reading = joins.reading script entries [] rest rest (record { good = so.first.are.good; joined = joined }) stops.reading in
      record {
        script = script;
        is_script = script_is all so.first.bytes so.first.consumes;
        answers = so.first.answers;
        is = record {
          entries = entries;
          rest = rest;
          reading = subst (λ (joined : List Entry). IsLongestReading script joined rest) (append-nil entries) reading;
          answered = so.first.answered;
          ends = stops.ends;
        };
        out = so.first.out;
      }

  -- a read has failed
  pub read_answered : (pend : List ℕ) → HasNoEntry pend → HasAnswered old session all left before after pend → AnswersRead old session all left before after
  read_answered pend none so = record {
    bytes = so.first.bytes;
    consumes = so.first.consumes;
    entries = so.first.entries;
    rest = pend;
    reading = joins.so_far so.first.bytes so.first.entries pend (read_as pend so) none;
    answers = so.first.answers;
    answered = so.first.answered;
    out = so.first.out;
  }

  -- the write of an answer has failed
  begun_by : (new : SessionView) (now : Option (List ℕ)) (pend behind : List ℕ) (command : Command) (so : HasAnswered old session all left before after pend)
      → AreFirst left so.first.bytes (so.first.entries ++ Given command ∷ []) behind → BeginsAnswer session new command after now → BeginsAnswers old new all left before now
  begun_by new now pend behind command so are one = record {
    bytes = so.first.bytes;
    consumes = so.first.consumes;
    entries = so.first.entries;
    last = command;
    rest = behind;
    are = are;
    answers = so.first.answers;
    between = session;
    answered = so.first.answered;
    answer = one.answer;
    is = one.is;
    count = one.out.count;
    out = Appends-trans before after now so.first.answers (take one.out.count one.answer) so.first.out one.out.appends;
  }

  -- that of a whole command
  pub whole_begun : (new : SessionView) (now : Option (List ℕ)) (pend : List ℕ) (command : Command) (end : ℕ) → IsGood command → IsWholeCommand pend command end
      → BeginsAnswer session new command after now → HasAnswered old session all left before after pend → BeginsAnswers old new all left before now
  whole_begun new now pend command end good whole one so = begun_by new now pend (drop end pend) command so (inl (more_read pend command end so good whole)) one

  -- or that of the last one
  pub last_begun : (new : SessionView) (now : Option (List ℕ)) (pend : List ℕ) (command : Command) (end : ℕ) → IsGood command → IsLast pend left command end
      → BeginsAnswer session new command after now → HasAnswered old session all left before after pend → BeginsAnswers old new all left before now
  last_begun new now pend command end good last one so =
      begun_by new now pend [] command so (inr (last.at_end, (last_read pend command end so good last).divided)) one

-- ---- one step of the loop

-- what holds of an error that is passed on
pub if_err_is : {T E : Type 0} (r : Result T E) (P : E → Type 0) (x : E) → IsErrAnd r (λ e. e ≡ x) → P x → IfErr r P
if_err_is r P x is h = grind (arith, common_steps) steps 200000

pub when_err : {T E : Type 0} (r : Result T E) (P : E → Type 0) (x : E) → IfErr r P → IsErrOf r x → P x
when_err {T} {E} r P x h e = subst (λ (s : Result T E). IfErr s P) e h

-- bytes are read on, up to a command or the end
pub reads_on : (joins : ReadingsJoin) (done : CommandsLeaveNothing) (old session : SessionView) (all left before after more : Option (List ℕ)) (input now : Input) → ReadsOn input now left more
    → HasAnswered old session all left before after (pending input) → HasAnswered old session all more before after (pending now)
reads_on joins done old session all left before after more input now reads so = search (rules, read_more)

module _ {R W : Type 0} (joins : ReadingsJoin) (done : CommandsLeaveNothing) (remaining : R → Option (List ℕ)) (contents : W → Option (List ℕ))
    (begun session : SessionView) (all before : Option (List ℕ)) (now : Input) (left : Reading R) (a : Writing W) where
  -- no command is read
  pub next_stops : {T : Type 0} (r : Result T ScriptError) → HasAnswered begun session all (unread remaining left) before (written contents a) (pending now)
      → (IsErrOf r errors.BadLine → StopsSo (rest_of_script (pending now) (unread remaining left)) BadLine)
      → (IsErrOf r errors.Cut → StopsSo (rest_of_script (pending now) (unread remaining left)) CutShort)
      → (IsErrOf r errors.Read → HasNoEntry (pending now)) → (IsErrOf r errors.Read → cannot_read left ≡ true) → (r ≢ Err errors.Write)
      → (e : ScriptError) → r ≡ Err e → StopsAnswering remaining contents begun session all left before a e
  next_stops r so bad cut read failed told errors.BadLine is = stop_answered joins done begun session all (unread remaining left) before (written contents a) (pending now) BadLine (bad is) so
  next_stops r so bad cut read failed told errors.Cut is = stop_answered joins done begun session all (unread remaining left) before (written contents a) (pending now) CutShort (cut is) so
  next_stops r so bad cut read failed told errors.Read is = (read_answered joins done begun session all (unread remaining left) before (written contents a) (pending now) (read is) so, failed is)
  next_stops r so bad cut read failed told errors.Write is = absurd (told is)
  next_stops r so bad cut read failed told errors.Memory is = so.first

  -- the command that is read is not answered, or not in full
  pub answer_stops : (next : Complete CommandAt) (is : IsNextCommand (pending now) (unread remaining left) next) (new : SessionView) (b : Writing W)
      → HasAnswered begun session all (unread remaining left) before (written contents a) (pending now)
      → (e : ScriptError) → FailsSo contents is.command session new a b e → StopsAnswering remaining contents begun new all left before b e
  answer_stops next is new b so errors.Write fails = (
    elim is.whole [
      | inl h ↦ whole_begun joins done begun session all (unread remaining left) before (written contents a) new (written contents b) (pending now) is.command next.end is.good h.1 fails.1 so
      | inr h ↦ last_begun joins done begun session all (unread remaining left) before (written contents a) new (written contents b) (pending now) is.command next.end is.good h.1 fails.1 so
    ],
    fails.0,
  )
  answer_stops next is new b so errors.Memory fails = grind (arith, common_steps) steps 200000
  answer_stops next is new b so _ fails = absurd fails

  -- it is answered
  pub goes_on : (next : Complete CommandAt) (is : IsNextCommand (pending now) (unread remaining left) next) (new : SessionView) (b : Writing W) (input : Input)
      → HasAnswered begun session all (unread remaining left) before (written contents a) (pending now)
      → IsAnswered session new is.command (written contents a) (written contents b)
      → (next.fed ≡ true → pending input ≡ drop next.end (pending now))
      → AnswersSoFar begun new all (unread remaining left) before (written contents b) (pending input) next.fed
  goes_on next is new b input so one passed = by is.whole
    where
      by : IsWholeOrLast (pending now) (unread remaining left) next is.command → AnswersSoFar begun new all (unread remaining left) before (written contents b) (pending input) next.fed
      by (inl h) =
          let whole = whole_answered joins done begun session all (unread remaining left) before (written contents a) new (written contents b) (pending now) is.command next.end is.good h.1 one so in
          let there = subst (λ (bytes : List ℕ). HasAnswered begun new all (unread remaining left) before (written contents b) bytes) (sym (passed h.0)) whole in
          subst (AnswersSoFar begun new all (unread remaining left) before (written contents b) (pending input)) (sym h.0) there
      by (inr h) =
          let last = last_answered joins done begun session all (unread remaining left) before (written contents a) new (written contents b) (pending now) is.command next.end is.good h.1 one so in
          subst (AnswersSoFar begun new all (unread remaining left) before (written contents b) (pending input)) (sym h.0) last
