use Rattle.std.proofs.Common.{◌≡◌, ◌++◌, map, drop}
use Rattle.pdf_text.specs.View.{lines_view}
use Rattle.pdf_codes.specs.Codes.{coded, used_of}
use Rattle.pdf_codes.proofs.codes.lines_of.Given as goal

abbrev pub invariant-loop-place : goal.invariant-loop-place
invariant-loop-place l = lines_view l.lines.items ++ coded (map used_of (drop l.place l.entries)) (drop l.place l.codes) ≡ coded (map used_of l.entries) l.codes
