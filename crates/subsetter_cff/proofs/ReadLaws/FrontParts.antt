-- The parts of a table, one step after the other.
use Rattle.std.proofs.Common.{◌≡◌, ℕ, List, Option, Some, None, refl}
use Rattle.std.specs.Option.{option_and_then}
use Rattle.subsetter_cffdata.specs.Indexes.Index.{index_at}
use Rattle.subsetter_type2.specs.Subroutines.{entry_at}
use Rattle.subsetter_cff.specs.Read.Cff.{past_header, name_index, top_index, string_index, subroutine_index, top_dict, name_bytes, cff_parts}
use Rattle.subsetter_base.specs.Bytes.{first_number}
use Rattle.subsetter_cff.specs.Read.FrontView.{front_at}

abbrev Entries : Type 0
Entries = Option (List (Option (List ℕ)) × List ℕ)

after_strings : (bytes start : List ℕ) (h : past_header bytes ≡ Some start) (is : first_number bytes ≡ Some 1) (n t s : List (Option (List ℕ)) × List ℕ) (top : List ℕ) (u : Entries)
    → index_at start ≡ Some n → index_at n.1 ≡ Some t → entry_at t.0 0 ≡ Some top → index_at t.1 ≡ Some s → index_at s.1 ≡ u → cff_parts bytes ≡ front_at bytes start
unfolding cff_parts name_bytes top_dict string_index subroutine_index top_index name_index front_at
after_strings bytes start h is n t s top None a b c d e = rw (is, h, a, b, c, d, e) refl
after_strings bytes start h is n t s top (Some u) a b c d e = rw (is, h, a, b, c, d, e) refl

after_top : (bytes start : List ℕ) (h : past_header bytes ≡ Some start) (is : first_number bytes ≡ Some 1) (n t : List (Option (List ℕ)) × List ℕ) (top : List ℕ) (s : Entries)
    → index_at start ≡ Some n → index_at n.1 ≡ Some t → entry_at t.0 0 ≡ Some top → index_at t.1 ≡ s → cff_parts bytes ≡ front_at bytes start
unfolding cff_parts name_bytes top_dict string_index top_index name_index front_at
after_top bytes start h is n t top None a b c d = rw (is, h, a, b, c, d) refl
after_top bytes start h is n t top (Some s) a b c d = after_strings bytes start h is n t s top (index_at s.1) a b c d refl

after_tops : (bytes start : List ℕ) (h : past_header bytes ≡ Some start) (is : first_number bytes ≡ Some 1) (n t : List (Option (List ℕ)) × List ℕ) (top : Option (List ℕ))
    → index_at start ≡ Some n → index_at n.1 ≡ Some t → entry_at t.0 0 ≡ top → cff_parts bytes ≡ front_at bytes start
unfolding cff_parts name_bytes top_dict top_index name_index front_at
after_tops bytes start h is n t None a b c = rw (is, h, a, b, c) refl
after_tops bytes start h is n t (Some top) a b c = after_top bytes start h is n t top (index_at t.1) a b c refl

after_names : (bytes start : List ℕ) (h : past_header bytes ≡ Some start) (is : first_number bytes ≡ Some 1) (n : List (Option (List ℕ)) × List ℕ) (t : Entries)
    → index_at start ≡ Some n → index_at n.1 ≡ t → cff_parts bytes ≡ front_at bytes start
unfolding cff_parts name_bytes top_dict top_index name_index front_at
after_names bytes start h is n None a b = rw (is, h, a, b) refl
after_names bytes start h is n (Some t) a b = after_tops bytes start h is n t (entry_at t.0 0) a b refl

after_header : (bytes start : List ℕ) (h : past_header bytes ≡ Some start) (is : first_number bytes ≡ Some 1) (n : Entries) → index_at start ≡ n → cff_parts bytes ≡ front_at bytes start
unfolding cff_parts name_bytes name_index front_at
after_header bytes start h is None a = rw (is, h, a) refl
after_header bytes start h is (Some n) a = after_names bytes start h is n (index_at n.1) a refl

in_steps : (bytes : List ℕ) (start : Option (List ℕ)) → past_header bytes ≡ start → first_number bytes ≡ Some 1 → cff_parts bytes ≡ option_and_then (front_at bytes) start
unfolding cff_parts name_bytes
in_steps bytes None h is = rw (is, h) refl
in_steps bytes (Some start) h is = after_header bytes start h is (index_at start) refl

pub parts_are : (bytes : List ℕ) → first_number bytes ≡ Some 1 → cff_parts bytes ≡ option_and_then (front_at bytes) (past_header bytes)
parts_are bytes is = in_steps bytes (past_header bytes) refl is
