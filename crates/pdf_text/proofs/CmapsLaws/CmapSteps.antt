-- The whole texts of CMaps, as they are written.
use Rattle.std.proofs.Common.{◌≡◌, ℕ, Bool, List, [], ◌++◌, length, map, sym, ap, ◌∙◌}
use Rattle.std.specs.Prelude.{All, Some, codes}
use Rattle.std.proofs.lemmas.List.{length-map}
use Rattle.pdf_text.specs.declared.cmaps.to_unicode.Mapping.{Mapping}
use Rattle.pdf_text.specs.declared.cmaps.encoding.CidOfCode.{CidOfCode}
use Rattle.pdf_text.specs.Cmaps.Blocks.{Row, blocks}
use Rattle.pdf_text.specs.Cmaps.Cmap.{Line, IsLine, line_row, front, back, cmap_text, mapping_in}
use Rattle.pdf_text.specs.Cmaps.Encoding.{Pair, IsPair, pair_row, encoding_front, encoding_text, codes_in}
use Rattle.pdf_text.specs.View.{line_view, lines_view, mapping_row, pair_view, pairs_view, cid_row}
use Rattle.pdf_text.proofs.CmapsLaws.BlockSteps.{twice}
use Rattle.pdf_text.proofs.CmapsLaws.CmapLaws.Read.{cmap_is_read, codes_are_read}
use Rattle.pdf_text.proofs.Written.{three_after_nothing}

-- the lines of views are those of what is seen
pub as_seen : {X Y : Type 0} (f : X → Y) (g : Y → Row) (kind : List ℕ) (xs : List X) → blocks kind (length xs) (map (λ x. g (f x)) xs) ≡ blocks kind (length (map f xs)) (map g (map f xs))
as_seen f g kind xs =
    ap (λ n. blocks kind n (map (λ x. g (f x)) xs)) (sym (length-map xs f)) ∙ ap (λ (rs : List Row). blocks kind (length (map f xs)) rs) (sym (twice f g xs))

pub all_written : (ms : List Mapping) (empty w1 w2 w3 : List ℕ) → empty ≡ [] → w1 ≡ empty ++ front → w2 ≡ w1 ++ blocks (codes "bfchar") (length ms) (map mapping_row ms) → w3 ≡ w2 ++ back → w3 ≡ cmap_text (lines_view ms)
all_written ms empty w1 w2 w3 n f g h =
    three_after_nothing empty front (blocks (codes "bfchar") (length (lines_view ms)) (map line_row (lines_view ms))) back w1 w2 w3 n f
    (g ∙ ap (λ (t : List ℕ). w1 ++ t) (as_seen line_view line_row (codes "bfchar") ms)) h

pub read_of_text : (ls : List Line) (text : List ℕ) → text ≡ cmap_text ls → All IsLine ls → mapping_in text ≡ Some ls
read_of_text ls text e h = ap mapping_in e ∙ cmap_is_read ls h

pub codes_written : (vertical : Bool) (ms : List CidOfCode) (empty w1 w2 w3 : List ℕ) → empty ≡ [] → w1 ≡ empty ++ encoding_front vertical → w2 ≡ w1 ++ blocks (codes "cidchar") (length ms) (map cid_row ms) → w3 ≡ w2 ++ back → w3 ≡ encoding_text vertical (pairs_view ms)
codes_written vertical ms empty w1 w2 w3 n f g h =
    three_after_nothing empty (encoding_front vertical) (blocks (codes "cidchar") (length (pairs_view ms)) (map pair_row (pairs_view ms))) back w1 w2 w3 n f
    (g ∙ ap (λ (t : List ℕ). w1 ++ t) (as_seen pair_view pair_row (codes "cidchar") ms)) h

pub codes_of_text : (vertical : Bool) (ps : List Pair) (text : List ℕ) → text ≡ encoding_text vertical ps → All IsPair ps → codes_in text ≡ Some ps
codes_of_text vertical ps text e h = ap codes_in e ∙ codes_are_read vertical ps h
