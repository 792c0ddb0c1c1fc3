-- The beginning of a span, as it is written.
use Rattle.std.proofs.Common.{◌≡◌, ℕ, List, ◌++◌, sym, ap, ◌∙◌, append_assoc}
use Rattle.std.specs.Prelude.{codes}
use Rattle.pdf_text.proofs.Written.{three_written}

pub span_written : (w ws w1 w2 w3 : List ℕ) → w1 ≡ w ++ codes "/Span << /ActualText <FEFF" → w2 ≡ w1 ++ ws → w3 ≡ w2 ++ codes "> >> BDC\n" → w3 ≡ w ++ (codes "/Span << /ActualText <FEFF" ++ ((ws ++ codes ">") ++ codes " >> BDC\n"))
span_written w ws w1 w2 w3 e f g =
    three_written w (codes "/Span << /ActualText <FEFF") ws (codes "> >> BDC\n") w1 w2 w3 e f g
    ∙ ap (λ (l : List ℕ). w ++ (codes "/Span << /ActualText <FEFF" ++ l)) (sym (append_assoc ws (codes ">") (codes " >> BDC\n")))
