-- Two files that include each other are loaded, and a third is missing; and a file with a fault is not loaded.
use Rattle.std.specs.Prelude.{◌≡◌, ℕ, List, Option, Some, None, Result, Ok, Err, bytes_eq, codes, if◌then◌else◌}
use Rattle.mm_report.specs.mm_text.declared.fault.TextNumber.TheVariants.{T06}
use Rattle.mm_report.specs.mm_store.Language.FilesView.{File, find_file, text_of}
use Rattle.mm_report.specs.mm_statement.Language.Examples.{looped}
use Rattle.mmkeep.specs.declared.unloaded.Unloaded.TheVariants.{Input}
use Rattle.mmkeep.specs.Language.Loading.{KnownFile, Unknown, NoFile, Bytes, AreLoaded, HasFaultAt, IsUnloaded, Opens}

-- what is known of a name: the text of its file; or that there is none
abbrev pub known_text : Option File → KnownFile
known_text None = NoFile
known_text (Some file) = Bytes (text_of file)

-- a source with the texts of the two files of mm_statement's examples; it lacks `no.mm`, to which the second refers
abbrev pub two_texts : List ℕ → KnownFile
two_texts name = known_text (find_file looped name)

-- From `top.mm` on, these two files are loaded, in this order.
abbrev pub LoopIsLoaded : Type 0
LoopIsLoaded = AreLoaded two_texts (codes "top.mm") looped

-- a source that has one file, with a fault
abbrev pub one_fault : List ℕ → KnownFile
one_fault name = if bytes_eq name (codes "a.mm") then Bytes (codes "$c a $c b $.") else NoFile

-- Its second `$c`, at line 1 and column 6, is the fault T06 there. So the file is not added.
abbrev pub HasFaultThere : Type 0
HasFaultThere = HasFaultAt (codes "$c a $c b $.") (record { line = 1; column = 6 }) T06

-- So loading stops at the top file. A reader is here the bytes that it has left.
abbrev pub FaultStops : Type 0
FaultStops = IsUnloaded {R = List ℕ} (λ bytes. Some bytes) one_fault (codes "a.mm") Input

-- an opening of a name may have this result, if this is known of it. An opened file is here the bytes that it has left, and an error is a
-- number: 12 says that memory has run out
abbrev pub MayOpen : KnownFile → Result (List ℕ) ℕ → Type 0
MayOpen known result = Opens (λ bytes. Some bytes) (λ error. error ≡ 12) known result

-- A file that is there is opened with its bytes, and with no others; it is not opened only if memory has run out. A name without a file is
-- not opened. Of a name of which nothing is known anything may be.
abbrev pub OpensKnown : Type 0
OpensKnown =
    MayOpen (Bytes (codes "$c a $.")) (Ok (codes "$c a $.")) × (MayOpen (Bytes (codes "$c a $.")) (Ok (codes "$c b $.")) → ⊥)
    × MayOpen (Bytes (codes "$c a $.")) (Err 12) × (MayOpen (Bytes (codes "$c a $.")) (Err 2) → ⊥)
    × MayOpen NoFile (Err 2) × (MayOpen NoFile (Ok (codes "$c a $.")) → ⊥) × MayOpen Unknown (Ok (codes "$c a $.")) × MayOpen Unknown (Err 2)
