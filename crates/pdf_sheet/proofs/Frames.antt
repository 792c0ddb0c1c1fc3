-- The page of a line that is longer than a page takes.
use Rattle.std.proofs.Common.{◌≡◌, ℕ, Bool, true, false, refl, ap, arith}
use Rattle.std.specs.Prelude.{min}
use Rattle.pdf_sheet.specs.Content.{extent, line_frame}

same_extent : (advance : ℕ) → extent (min advance 398000) ≡ extent advance
same_extent advance = omega arith

pub same_frame : (vertical : Bool) (advance : ℕ) → line_frame vertical (min advance 398000) ≡ line_frame vertical advance
same_frame false advance = rw (same_extent advance) refl
same_frame true advance = rw (same_extent advance) refl
