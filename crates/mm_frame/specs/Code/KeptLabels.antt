-- Labels with the numbers of items, as the code keeps them: short ones by a number that their bytes make, the others by their bytes.
use Rattle.std.specs.Prelude.{ℕ, nat_eq, if◌then◌else◌, Option, List, bytes_eq}
use Rattle.std.specs.HashMap.{get_by}
use Rattle.mm_frame.specs.Code.Codes.{bytes_code, is_coded}
use Rattle.mm_frame.specs.declared.label_numbers.LabelNumbers.{LabelNumbers}

-- the number that is kept of a label
unfoldable pub label_number : LabelNumbers → List ℕ → Option ℕ
label_number labels label =
    if is_coded label then get_by (nat_eq (bytes_code label)) labels.short else get_by (λ key. bytes_eq label key.items) labels.long
