-- What is read of a CMap is what was written.
use Rattle.std.proofs.Common.{◌≡◌, ℕ, ◌<◌, List, [], ◌∷◌, ◌++◌, length, map, refl, sym, ap, ◌∙◌, arith}
use Rattle.std.specs.Prelude.{Option, Some, None, codes, decimal}
use Rattle.std.specs.Option.{option_and_then}
use Rattle.std.proofs.lemmas.List.{length-map}
use Rattle.pdf_text.specs.Cmaps.Blocks.{Row, blocks, rows_in, each_in}
use Rattle.pdf_text.specs.Cmaps.Cmap.{Line, IsLine, line_row, line_in, back, cmap_text, IsReadBack}
use Rattle.pdf_text.specs.Cmaps.Encoding.{Pair, IsPair, pair_row, pair_in, encoding_text, CodesAreRead}
use Rattle.pdf_text.specs.Tokens.{tokens}
use Rattle.pdf_text.proofs.TokenLaws.Tokens.{digits_dark, decimal_digits, decimal_some}
use Rattle.pdf_text.proofs.CmapsLaws.CmapLaws.Units.{line_read, pair_read}
use Rattle.pdf_text.proofs.CmapsLaws.CmapLaws.Tokens.{IsRow, hex_dark, all_dark, front_words, front_tokens, front_is_plain, encoding_words, encoding_tokens, encoding_is_plain}
use Rattle.pdf_text.proofs.CmapsLaws.CmapLaws.Blocks.{all_read, all_said, all_rows}

line_is_row : (l : Line) → IsLine l → IsRow (line_row l)
line_is_row l h = record { code = hex_dark (l.code ∷ []); code_some = omega arith; target = hex_dark l.units; target_some = omega arith }

pub pair_is_row : (p : Pair) → IsPair p → IsRow (pair_row p)
pair_is_row p h =
    let small : p.cid < 65536 = h.cid in
    record { code = hex_dark (p.code ∷ []); code_some = omega arith; target = digits_dark (decimal p.cid) (decimal_digits p.cid (omega arith)); target_some = decimal_some p.cid (omega arith) }

-- the lines of a text whose front says nothing
pub lines_of : {X : Type 0} (kind text : List ℕ) (ws : List (List ℕ)) (f : Row → Option X) (g : X → Row) (xs : List X) → tokens text ≡ ws ++ tokens (blocks kind (length xs) (map g xs) ++ back) → rows_in kind None (ws ++ tokens (blocks kind (length (map g xs)) (map g xs) ++ back)) ≡ Some (map g xs) → each_in f (map g xs) ≡ Some xs → option_and_then (each_in f) (rows_in kind None (tokens text)) ≡ Some xs
lines_of kind text ws f g xs e r s =
    ap (λ (ts : List (List ℕ)). option_and_then (each_in f) (rows_in kind None ts)) e
    ∙ ap (λ (n : ℕ). option_and_then (each_in f) (rows_in kind None (ws ++ tokens (blocks kind n (map g xs) ++ back)))) (sym (length-map xs g))
    ∙ ap (λ (o : Option (List Row)). option_and_then (each_in f) o) r ∙ s

pub cmap_is_read : IsReadBack
cmap_is_read ls h =
    lines_of (codes "bfchar") (cmap_text ls) front_words line_in line_row ls
    (front_tokens (blocks (codes "bfchar") (length ls) (map line_row ls) ++ back))
    (all_read (codes "bfchar") front_words (map line_row ls) (all_dark (codes "bfchar") refl) front_is_plain (all_rows line_row IsLine line_is_row ls h))
    (all_said line_in line_row IsLine line_read ls h)

pub codes_are_read : CodesAreRead
codes_are_read vertical ps h =
    lines_of (codes "cidchar") (encoding_text vertical ps) (encoding_words vertical) pair_in pair_row ps
    (encoding_tokens vertical (blocks (codes "cidchar") (length ps) (map pair_row ps) ++ back))
    (all_read (codes "cidchar") (encoding_words vertical) (map pair_row ps) (all_dark (codes "cidchar") refl) (encoding_is_plain vertical) (all_rows pair_row IsPair pair_is_row ps h))
    (all_said pair_in pair_row IsPair pair_read ps h)
