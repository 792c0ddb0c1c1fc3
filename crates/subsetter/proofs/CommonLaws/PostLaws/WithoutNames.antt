-- A header under version 3.0 is kept as it is.
use Rattle.std.proofs.Common.{◌≡◌, ℕ, ◌≤◌, List, [], ◌++◌, length, Some, Ok, refl}
use Rattle.std.specs.Prelude.{take, drop}
use Rattle.std.specs.Int.{w32, to_be_bytes}
use Rattle.std.proofs.lemmas.Bool.{le-leb}
use Rattle.subsetter_base.specs.Bytes.{number}
use Rattle.subsetter_base.proofs.ByteLemmas.{number_at}
use Rattle.subsetter_sfnt.specs.Extras.{without_glyph_names}
use Rattle.subsetter.specs.Common.Post.Plain.{new_post, post_of_table}

header_stays : (rest order : List ℕ) → new_post (Some (to_be_bytes w32 0x00030000 ++ rest)) order ≡ Ok (Some (to_be_bytes w32 0x00030000 ++ rest))
unfolding new_post post_of_table
header_stays rest order =
    let bytes : List ℕ = to_be_bytes w32 0x00030000 ++ rest in
    let v : number bytes 0 4 ≡ Some 0x00030000 = number_at bytes [] (to_be_bytes w32 0x00030000) rest 0 4 0x00030000 refl refl refl refl in
    rw v refl

pub header_kept : (bytes order : List ℕ) → 32 ≤ length bytes → new_post (Some (without_glyph_names bytes)) order ≡ Ok (Some (without_glyph_names bytes))
header_kept bytes order le = rw (le-leb 32 (length bytes) le) (header_stays (take 28 (drop 4 bytes)) order)
