-- Lines that are read one by one: the codes that are left are below the limit.
use Rattle.std.proofs.Common.{ℕ, ◌+◌, ◌≤◌, List, [], ◌∷◌, drop, ap, arith}
use Rattle.std.proofs.lemmas.List.{drop-drop}
use Rattle.pdf_text.specs.View.{lines_view}
use Rattle.pdf_text.specs.declared.cmaps.to_unicode.Mapping.{Mapping}
use Rattle.pdf_codes.specs.Cmaps.Texts.{limit}

limit_tail : (ms : List Mapping) (n : ℕ) → limit (lines_view ms) ≤ n → limit (lines_view (drop 1 ms)) ≤ n
limit_tail [] n h = h
limit_tail (m ∷ ms) n h = omega (arith, h)

pub limit_more : (ms : List Mapping) (i n : ℕ) → limit (lines_view (drop i ms)) ≤ n → limit (lines_view (drop (i + 1) ms)) ≤ n
limit_more ms i n h =
    let next : limit (lines_view (drop 1 (drop i ms))) ≤ n = limit_tail (drop i ms) n h in
    omega (arith, next, ap (λ (l : List Mapping). limit (lines_view l)) (drop-drop 1 i ms))
