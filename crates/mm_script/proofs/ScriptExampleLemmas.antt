-- Some scripts are read by the definitions.
use Rattle.std.{proofs.{Common.{◌≡◌, ◌≢◌, ℕ, zero, suc, ◌<◌, Some, List, [], ◌∷◌, ◌++◌, length, take, refl, ap, ◌∙◌, arith, codes, slice_index}, lemmas.Bool.{false≢true}}, specs.Fmt.{digits}}
use Rattle.std.specs.Io.{Buffered.{writer_buffer}, KnownBytes.{append_known}}
use Rattle.mm_text.specs.Language.Asked.{Asked, Insert, Replace, Delete}
use Rattle.mm_script.specs.{Code.Stops.{AreListed, HasTextOf, IsOneLine}, Language.Commands.{StopsSo}}
use Rattle.mm_script.specs.Language.Script.{Command, Change, Batch, Report, Ask, Blank, Given, End, CutShort, BadLine, AreRead, IsGood, IsGoodEdit, IsName, edit_line, line_of}
use Rattle.mm_script.specs.Language.ScriptExamples.{ReadsText, ReadsBatch, ReadsLastEdit, CutsText, CutsFeed, CutsLine, CutsBatch, CutsBatchText, EndsInEdit, EndsAtLine, EndsAtText, WaitsForFeed}
use Rattle.mm_script.specs.Language.{ScriptExamples.{HasTwoCommands, BoundWords, GrowsByTwo, TellsWriter}, ReadingLaws.{IsReadSo}}
use Rattle.mm_script.{specs.declared.command.Question.TheVariants.{Verdict, Axioms, Cites, Users}, proofs.JoinLemmas.{reading_behind, reading_done, reading_last, so_far_behind}}
use Rattle.mm_script.proofs.StopLemmas.{bad_line, batch_bad_last, batch_cut, batch_text_cut, no_feed, text_bad, text_cut, text_line_cut}

name_a : IsName (codes "a.mm")
name_a = record { some = λ (e : codes "a.mm" ≡ []). cc; bytes = refl }

name_d : IsName (codes "d.mm")
name_d = record { some = λ (e : codes "d.mm" ≡ []). cc; bytes = refl }

name_t : IsName (codes "t")
name_t = record { some = λ (e : codes "t" ≡ []). cc; bytes = refl }

name_a1 : IsName (codes "a1")
name_a1 = record { some = λ (e : codes "a1" ≡ []). cc; bytes = refl }

name_th : IsName (codes "th")
name_th = record { some = λ (e : codes "th" ≡ []). cc; bytes = refl }

-- a script that ends like this, after commands or at once
stopped : (script : List ℕ) (end : End) → StopsSo script end → IsReadSo script [] script end
stopped script end s = record { reading = s.reading; ends = s.ends }

pub reads_text : ReadsText
unfolding digits
reads_text = record {
  reading = reading_last _ (Given (Change (Replace (codes "d.mm") 7 (codes "$c a $.\n$c b $."))) ∷ Blank ∷ Given (Ask Verdict (codes "t")) ∷ Given (Ask Users (codes "a1")) ∷ Blank ∷ []) (codes "axioms t") (Ask Axioms (codes "t"))
      (record { good = ((name_d, omega arith, omega arith), (tt, (name_t, (name_a1, (tt, tt))))); joined = refl }) name_t tt refl;
  ends = refl;
}

pub reads_batch : ReadsBatch
unfolding digits
reads_batch = record {
  reading = reading_done _ _ (record { good = ((omega arith, ((name_a, omega arith, omega arith), ((name_a, omega arith, omega arith), tt))), (tt, tt)); joined = refl });
  ends = refl;
}

pub reads_last_edit : ReadsLastEdit
unfolding digits
reads_last_edit = record {
  reading = reading_last _ [] (codes "batch 1\ndelete a.mm 0") (Batch (record { blanks = 0; edit = Delete (codes "a.mm") 0 } ∷ [])) (record { good = tt; joined = refl }) (omega arith, ((name_a, omega arith), tt)) refl refl;
  ends = refl;
}

has_text : (text : List ℕ) → length text < 10 → HasTextOf (Insert (codes "a.mm") 0 text) (length text)
has_text text h = record { good = (name_a, omega arith, omega arith); text = text; is_text = refl; count_is = refl }

pub cuts_text : CutsText
unfolding digits
cuts_text = stopped (codes "insert a.mm 0 9\nabc") CutShort (text_cut (Insert (codes "a.mm") 0 (codes "abcdefghi")) 9 (codes "abc") (has_text (codes "abcdefghi") (omega arith)) (omega arith))

three : StopsSo (codes "insert a.mm 0 3\nabc") CutShort
unfolding digits
three = text_cut (Insert (codes "a.mm") 0 (codes "abc")) 3 (codes "abc") (has_text (codes "abc") (omega arith)) (omega arith)

pub cuts_feed : CutsFeed
cuts_feed = record {
  reading = reading_behind (codes "report\ninsert a.mm 0 3\nabc") (Given Report ∷ []) [] (codes "insert a.mm 0 3\nabc") (codes "insert a.mm 0 3\nabc") (record { good = (tt, tt); joined = refl }) three.reading;
  ends = three.ends;
}

pub cuts_line : CutsLine
unfolding digits
cuts_line = stopped (codes "insert a.mm 0 0") CutShort (text_line_cut (Insert (codes "a.mm") 0 []) 0 (has_text [] (omega arith)))

one_listed : AreListed 2 (record { blanks = 0; edit = Delete (codes "a.mm") 0 } ∷ [])
one_listed = record { number = omega arith; good = ((name_a, omega arith), tt); fewer = omega arith }

pub cuts_batch : CutsBatch
unfolding digits
cuts_batch = stopped (codes "batch 2\ndelete a.mm 0\n\n") CutShort (batch_cut 2 (record { blanks = 0; edit = Delete (codes "a.mm") 0 } ∷ []) 1 one_listed)

pub cuts_batch_text : CutsBatchText
unfolding digits
cuts_batch_text = stopped (codes "batch 1\ninsert a.mm 0 3\nabc") CutShort (batch_text_cut 1 [] 0 (Insert (codes "a.mm") 0 (codes "abc")) 3 (codes "abc")
    (record { number = omega arith; good = tt; fewer = omega arith }) (has_text (codes "abc") (omega arith)) (omega arith))

no_edit : (e : Asked) → IsGoodEdit e → codes "del" ≢ edit_line e
no_edit (Delete file at) g e = omega (arith, ap (λ (w : List ℕ). slice_index w 3) e)
no_edit _ g e = omega (arith, ap (λ (w : List ℕ). slice_index w 0) e)

pub ends_in_edit : EndsInEdit
unfolding digits
ends_in_edit = stopped (codes "batch 2\ndelete a.mm 0\ndel") BadLine (batch_bad_last 2 (record { blanks = 0; edit = Delete (codes "a.mm") 0 } ∷ []) 0 (codes "del") one_listed
    (record { some = λ (e : codes "del" ≡ []). cc; one_line = (λ e. omega arith, (λ e. omega arith, (λ e. omega arith, tt))); no_edit = no_edit }))

no_command : (c : Command) → IsGood c → codes "bogus" ≢ line_of c
no_command (Change (Insert file at text)) g e = omega (arith, ap (λ (w : List ℕ). slice_index w 0) e)
no_command (Ask Verdict label) g e = omega (arith, ap (λ (w : List ℕ). slice_index w 0) e)
no_command (Batch edits) g e = omega (arith, ap (λ (w : List ℕ). slice_index w 1) e)
no_command _ g e = omega (arith, ap (λ (w : List ℕ). slice_index w 0) e)

bogus : StopsSo (codes "bogus\nreport\n") BadLine
bogus = bad_line (codes "bogus") (codes "report\n") (record {
  some = λ (e : codes "bogus" ≡ []). cc;
  one_line = (λ e. omega arith, (λ e. omega arith, (λ e. omega arith, (λ e. omega arith, (λ e. omega arith, tt)))));
  no_command = no_command;
})

pub ends_at_line : EndsAtLine
ends_at_line = record {
  reading = reading_behind (codes "verdict th\nbogus\nreport\n") (Given (Ask Verdict (codes "th")) ∷ []) [] (codes "bogus\nreport\n") (codes "bogus\nreport\n") (record { good = (name_th, tt); joined = refl }) bogus.reading;
  ends = bogus.ends;
}

pub ends_at_text : EndsAtText
unfolding digits
ends_at_text = stopped (codes "insert a.mm 0 3\nabcd\n") BadLine (text_bad (Insert (codes "a.mm") 0 (codes "abc")) 3 (codes "abc") (codes "\n") 100 (has_text (codes "abc") (omega arith)) refl (λ e. omega arith))

-- what is read of these bytes, whatever follows them
front_read : AreRead (codes "report\n\ncites t") (Given Report ∷ Blank ∷ []) (codes "cites t")
front_read = record { good = (tt, (tt, tt)); joined = refl }

one_line : IsOneLine (codes "cites t")
one_line = (λ e. omega arith, (λ e. omega arith, (λ e. omega arith, (λ e. omega arith, (λ e. omega arith, (λ e. omega arith, (λ e. omega arith, tt)))))))

pub waits_for_feed : WaitsForFeed
waits_for_feed = record {
  so_far = so_far_behind (codes "report\n\ncites t") (Given Report ∷ Blank ∷ []) (codes "cites t") front_read (no_feed (codes "cites t") one_line);
  whole = record {
    reading = reading_last (codes "report\n\ncites t") (Given Report ∷ Blank ∷ []) (codes "cites t") (Ask Cites (codes "t")) front_read name_t tt refl;
    ends = refl;
  };
}

pub has_two_commands : HasTwoCommands
has_two_commands = refl

pub bound_words : BoundWords
bound_words = record {
  largest = (name_a, omega arith);
  too_large = λ good. omega (arith, good.1);
  empty = λ good. good.some refl;
  spaced = λ good. false≢true good.bytes;
  broken = λ good. false≢true good.bytes;
}

pub grows_by_two : GrowsByTwo
grows_by_two = record { first = record { count = 2; appends = refl }; other = λ part. other part.count part.appends }
  where
    other : (count : ℕ) → codes "abf" ≡ codes "ab" ++ take count (codes "cdef") → ⊥
    other zero e = cc
    other (suc count) e = omega (arith, ap (λ (w : List ℕ). slice_index w 2) e)

pub tells_writer : TellsWriter
tells_writer = record {
  taken = refl;
  fails = refl;
  kept_back = λ buffer inner back. (
    ap (λ (out : List ℕ). append_known (Some out) (writer_buffer buffer)) inner ∙ ap (λ (out : List ℕ). append_known (Some (codes "ab")) out) back,
    ap (λ (out : List ℕ). Some out) inner,
  );
}
