use Rattle.std.proofs.lemmas.{Grind.{common_steps}, List.{length-map}}
use Rattle.std.{proofs.Common.{◌≡◌, ℕ, ◌+◌, ◌≤◌, List, [], ◌∷◌, ◌++◌, None, length, map, refl, sym, ap, ◌∙◌, subst, arith, length-append, Global, Vec, position}, specs.{List.{concat}, Str.{bytes_eq}}}
use Rattle.std.specs.Map.{keys_of, lookup}
use Rattle.mm_text.specs.declared.pieces.DividedPiece.{DividedPiece}
use Rattle.mm_store.specs.declared.{file_text.FileText.{FileText}, piece_text.PieceText.{PieceText}, files.Files.TheInside.{Inside}}
use Rattle.mm_store.specs.{Language.FilesView.{File, FilesView, plain, plain_file, file_number, bytes_of}, Code.{Inside.{ArePut}, Lines.{AreStarts}, Starts.{HasStarts}, Edited.{with_file}}}
use Rattle.mm_store.{specs.Code.Kept.{keyed_file}, proofs.lemmas.files.{NumberLemmas.{number_is}, StoreLemmas.{parked_all}}}
use Rattle.mm_store.proofs.lemmas.files.AddLemmas.{can_be_kept, tail_of, done_ok, no_file, kept_added, plain_added, put_keeps, put_many}
use Rattle.indexmap.proofs.CallerLemmas.{insert_entry-new}
use Rattle.mm_store.proofs.files.Files.put_last.Goals as goal

-- the bytes of a piece
abbrev bytes_of_piece : DividedPiece → List ℕ
bytes_of_piece piece = piece.text

pub kept_pieces-requires-clause-texts : goal.kept_pieces-requires-clause-texts
kept_pieces-requires-clause-texts c =
    let pieces = c.args.cut.pieces.items in
    let tail = c.args.cut.tail.items in
    let small : length (concat (map bytes_of_piece pieces)) ≤ 4294967295 = omega (arith, c.requires.counted, c.requires.fits, length-append (concat (map bytes_of_piece pieces)) tail) in
    can_be_kept bytes_of_piece pieces tail c.requires.pieces small

pub invariant_of-self-2 : goal.invariant_of-self-2
invariant_of-self-2 c =
    let inside = c.self.inside in
    let texts = map (λ (piece : PieceText). piece.text) c.in_ok-kept.kept.items in
    let keys = c.from_vec.result in
    let put : ArePut inside.pieces texts keys.items c.put_all.new.self = subst (λ ks. ArePut inside.pieces texts ks c.put_all.new.self) (sym c.from_vec.ensures.items) c.in_ok-keys.ensures.ok in
    let missing : position (λ key. bytes_eq c.args.name.now key.items) (keys_of inside.files.entries) ≡ None =
    sym (number_is inside.pieces c.args.name.now inside.files.entries) ∙ ap (λ (v : FilesView). file_number (plain v) c.args.name.now) c.self.view_is ∙ c.requires.missing in
    let none : lookup (λ (key : Vec ℕ Global). bytes_eq c.in_ok-name.name.items key.items) c.reserve.new.self.entries ≡ None = no_file (λ (key : Vec ℕ Global). bytes_eq c.in_ok-name.name.items key.items) c.reserve.new.self.entries
    (ap (λ (name : List ℕ). position (λ (key : Vec ℕ Global). bytes_eq name key.items) (keys_of c.reserve.new.self.entries)) c.in_ok-name.ensures.items
    ∙ ap (λ es. position (λ (key : Vec ℕ Global). bytes_eq c.args.name.now key.items) (keys_of es)) c.reserve.ensures.entries ∙ missing) in
    let value : FileText = record { keys = keys; starts = c.in_ok-starts.starts; tail = c.args.cut.tail; known = c.len-known.result; deleted = 0 } in
    let entries : c.insert.new.self.entries ≡ inside.files.entries ++ (c.in_ok-name.name, value) ∷ [] =
    done_ok c.insert.result c.unwrap.result _ c.unwrap.ensures c.insert.ensures.entries ∙ insert_entry-new (λ x y. bytes_eq x.items y.items) c.reserve.new.self c.in_ok-name.name value none
    ∙ ap (λ (es : List (Vec ℕ Global × FileText)). es ++ (c.in_ok-name.name, value) ∷ []) c.reserve.ensures.entries in
    let after : Inside = record { files = c.insert.new.self; pieces = c.put_all.new.self; bytes = inside.bytes + c.args.bytes } in
    let held : bytes_of (plain c.args.self.now) ≡ inside.bytes = ap (λ (v : FilesView). bytes_of (plain v)) (sym c.self.view_is) ∙ sym c.self.invariant.counted in
    let starts : AreStarts texts c.in_ok-starts.starts.items = subst (λ (ps : List PieceText). AreStarts (map (λ (piece : PieceText). piece.text) ps) c.in_ok-starts.starts.items) c.deref.ensures.value c.in_ok-starts.ensures.starts in
    let count = length-map c.in_ok-kept.kept.items (λ (piece : PieceText). piece.text) in
    let has : HasStarts texts value = record {
      known = omega (arith, c.len-known.ensures, c.in_ok-kept.kept.ok.0, count);
      starts = λ number default le. starts number default (omega (arith, le, c.len-known.ensures, c.in_ok-kept.kept.ok.0, count));
    } in
    let many : length keys.items ≡ length texts = put_many inside.pieces c.put_all.new.self texts keys.items put in
    kept_added inside c.self.invariant (c.in_ok-name.name, value) texts c.put_all.new.self put after entries refl refl
    (record {
      keys = omega (arith, c.from_vec.ensures.len, c.from_vec.ensures.capacity, c.in_ok-keys.keys.ok.1);
      starts = omega (arith, keys.ok.0, many, length-map c.in_ok-kept.kept.items (λ (piece : PieceText). piece.text), c.in_ok-starts.ensures.many, ap length c.deref.ensures.value);
    })
    has (tail_of (map (λ (piece : DividedPiece). piece.text) c.args.cut.pieces.items) c.args.cut.tail.items c.requires.pieces)
    (omega (arith, c.requires.counted, ap (λ (ts : List (List ℕ)). length (concat ts ++ c.args.cut.tail.items)) c.in_ok-kept.ensures.texts)) (omega (arith, held, c.requires.fits))

pub returns-clause-ok : goal.returns-clause-ok
returns-clause-ok c =
    let inside = c.self.inside in
    let texts = map (λ (piece : PieceText). piece.text) c.in_ok-kept.kept.items in
    let keys = c.from_vec.result in
    let put : ArePut inside.pieces texts keys.items c.put_all.new.self = subst (λ ks. ArePut inside.pieces texts ks c.put_all.new.self) (sym c.from_vec.ensures.items) c.in_ok-keys.ensures.ok in
    let missing : position (λ key. bytes_eq c.args.name.now key.items) (keys_of inside.files.entries) ≡ None =
    sym (number_is inside.pieces c.args.name.now inside.files.entries) ∙ ap (λ (v : FilesView). file_number (plain v) c.args.name.now) c.self.view_is ∙ c.requires.missing in
    let none : lookup (λ (key : Vec ℕ Global). bytes_eq c.in_ok-name.name.items key.items) c.reserve.new.self.entries ≡ None = no_file (λ (key : Vec ℕ Global). bytes_eq c.in_ok-name.name.items key.items) c.reserve.new.self.entries
    (ap (λ (name : List ℕ). position (λ (key : Vec ℕ Global). bytes_eq name key.items) (keys_of c.reserve.new.self.entries)) c.in_ok-name.ensures.items
    ∙ ap (λ es. position (λ (key : Vec ℕ Global). bytes_eq c.args.name.now key.items) (keys_of es)) c.reserve.ensures.entries ∙ missing) in
    let value : FileText = record { keys = keys; starts = c.in_ok-starts.starts; tail = c.args.cut.tail; known = c.len-known.result; deleted = 0 } in
    let entries : c.insert.new.self.entries ≡ inside.files.entries ++ (c.in_ok-name.name, value) ∷ [] =
    done_ok c.insert.result c.unwrap.result _ c.unwrap.ensures c.insert.ensures.entries ∙ insert_entry-new (λ x y. bytes_eq x.items y.items) c.reserve.new.self c.in_ok-name.name value none
    ∙ ap (λ (es : List (Vec ℕ Global × FileText)). es ++ (c.in_ok-name.name, value) ∷ []) c.reserve.ensures.entries in
    let e : Vec ℕ Global × FileText = (c.in_ok-name.name, value) in
    ap (λ es. map (plain_file c.put_all.new.self) (map keyed_file es)) entries ∙ plain_added inside c.self.invariant e texts c.put_all.new.self put
    ∙ ap (λ (files : List File). with_file files c.in_ok-name.name.items texts c.args.cut.tail.items) (ap (λ (v : FilesView). plain v) c.self.view_is)
    ∙ ap (λ (name : List ℕ). with_file (plain c.args.self.now) name texts c.args.cut.tail.items) c.in_ok-name.ensures.items
    ∙ ap (λ (ts : List (List ℕ)). with_file (plain c.args.self.now) c.args.name.now ts c.args.cut.tail.items) c.in_ok-kept.ensures.texts

pub returns-clause-keeps : goal.returns-clause-keeps
returns-clause-keeps c =
    let texts = map (λ (piece : PieceText). piece.text) c.in_ok-kept.kept.items in
    let old : c.self.inside.pieces ≡ c.args.self.now.pieces = ap (λ (v : FilesView). v.pieces) c.self.view_is in
    let put : ArePut c.args.self.now.pieces texts c.in_ok-keys.keys.items c.put_all.new.self = subst (λ p. ArePut p texts c.in_ok-keys.keys.items c.put_all.new.self) old c.in_ok-keys.ensures.ok in
    put_keeps c.args.self.now.pieces c.put_all.new.self texts c.in_ok-keys.keys.items put

pub returns-clause-parked : goal.returns-clause-parked
returns-clause-parked c =
    grind (arith, common_steps, parked_all c.self.inside.pieces c.put_all.new.self (map (λ (piece : PieceText). piece.text) c.in_ok-kept.kept.items) c.in_ok-keys.keys.items c.in_ok-keys.ensures.ok) steps 200000
