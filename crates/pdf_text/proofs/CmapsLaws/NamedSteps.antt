-- CMaps with a name: their text, and what is read of it.
use Rattle.std.proofs.Common.{◌≡◌, ℕ, zero, suc, ◌+◌, ◌%◌, ◌/◌, Bool, true, false, List, [], ◌∷◌, ◌++◌, length, map, refl, sym, ap, ◌∙◌, append_assoc, arith}
use Rattle.std.specs.Prelude.{All, Some, None, codes}
use Rattle.std.proofs.lemmas.List.{length-map}
use Rattle.std.proofs.lemmas.List.Elements.{All-nil, All-cons, All-append}
use Rattle.pdf_text.specs.declared.cmaps.encoding.CidOfCode.{CidOfCode}
use Rattle.pdf_text.specs.Cmaps.Blocks.{blocks, rows_in, each_in}
use Rattle.pdf_text.specs.Cmaps.Cmap.{back}
use Rattle.pdf_text.specs.Tokens.{tokens}
use Rattle.pdf_text.specs.Cmaps.Encoding.{Pair, IsPair, pair_row, pair_in, codes_in}
use Rattle.pdf_text.specs.Cmaps.CmapName.{name_front, name_back, code_space, code_lines, mode_end, name_of_codes, named_text, NamedCodesAreRead}
use Rattle.pdf_text.specs.SubsetName.{letters, tag_of, digest}
use Rattle.pdf_text.specs.View.{pair_view, pairs_view, cid_row}
use Rattle.pdf_text.proofs.CmapsLaws.CmapSteps.{as_seen}
use Rattle.pdf_text.proofs.TokenLaws.Tokens.{IsDark, dark, first_token}
use Rattle.pdf_text.proofs.CmapsLaws.CmapLaws.Tokens.{is_plain, all_dark}
use Rattle.pdf_text.proofs.CmapsLaws.CmapLaws.Blocks.{all_read, all_said, all_rows}
use Rattle.pdf_text.proofs.CmapsLaws.CmapLaws.Units.{pair_read}
use Rattle.pdf_text.proofs.CmapsLaws.CmapLaws.Read.{pair_is_row, lines_of}
use Rattle.pdf_text.proofs.Written.{three_after_nothing}

-- ---- the text

pub lines_written : (ms : List CidOfCode) (empty w1 w2 w3 : List ℕ) → empty ≡ [] → w1 ≡ empty ++ code_space → w2 ≡ w1 ++ blocks (codes "cidchar") (length ms) (map cid_row ms) → w3 ≡ w2 ++ back → w3 ≡ code_lines (pairs_view ms)
lines_written ms empty w1 w2 w3 n f g h =
    three_after_nothing empty code_space (blocks (codes "cidchar") (length (pairs_view ms)) (map pair_row (pairs_view ms))) back w1 w2 w3 n f
    (g ∙ ap (λ (t : List ℕ). w1 ++ t) (as_seen pair_view pair_row (codes "cidchar") ms)) h

-- ---- the tokens

words_before : List (List ℕ)
words_before = tokens (codes "/CIDInit /ProcSet findresource begin\n12 dict begin\nbegincmap\n/CIDSystemInfo << /Registry (Adobe) /Ordering (Identity) /Supplement 0 >> def\n/CMapName ")

words_after : Bool → List (List ℕ)
words_after true = tokens (codes "def\n/CMapType 1 def\n/WMode 1 def\n1 begincodespacerange\n<0000> <FFFF>\nendcodespacerange\n")
words_after false = tokens (codes "def\n/CMapType 1 def\n1 begincodespacerange\n<0000> <FFFF>\nendcodespacerange\n")

front_read : (rest : List ℕ) → tokens (name_front ++ rest) ≡ words_before ++ tokens (47 ∷ rest)
unfolding name_front words_before
front_read rest = refl

slash_dark : (name : List ℕ) → All IsDark name → All IsDark (47 ∷ name)
slash_dark name h = All-cons IsDark 47 name (dark 47 (omega arith)) h

after_read : (vertical : Bool) (name rest : List ℕ) → All IsDark name → tokens (47 ∷ (name ++ (name_back vertical ++ (code_space ++ rest)))) ≡ (47 ∷ name) ∷ (words_after vertical ++ tokens rest)
unfolding name_back code_space words_after
after_read true name rest h = first_token (47 ∷ name) 32 (codes "def\n/CMapType 1 def\n/WMode 1 def\n1 begincodespacerange\n<0000> <FFFF>\nendcodespacerange\n" ++ rest) (slash_dark name h) (omega arith) refl
after_read false name rest h = first_token (47 ∷ name) 32 (codes "def\n/CMapType 1 def\n1 begincodespacerange\n<0000> <FFFF>\nendcodespacerange\n" ++ rest) (slash_dark name h) (omega arith) refl

words : Bool → List ℕ → List (List ℕ)
words vertical name = words_before ++ ((47 ∷ name) ∷ words_after vertical)

words_are_plain : (vertical : Bool) (name : List ℕ) → is_plain (codes "begincidchar") (words vertical name) ≡ true
unfolding words_before words_after words
words_are_plain true name = refl
words_are_plain false name = refl

text_read : (vertical : Bool) (name rest : List ℕ) → All IsDark name → tokens (name_front ++ (name ++ (name_back vertical ++ (code_space ++ rest)))) ≡ words vertical name ++ tokens rest
unfolding words
text_read vertical name rest h =
    front_read (name ++ (name_back vertical ++ (code_space ++ rest)))
    ∙ ap (λ (ts : List (List ℕ)). words_before ++ ts) (after_read vertical name rest h)
    ∙ sym (append_assoc words_before ((47 ∷ name) ∷ words_after vertical) (tokens rest))

-- ---- the name

letters_dark : (count n : ℕ) → All IsDark (letters count n)
letters_dark zero n = All-nil IsDark
letters_dark (suc count) n = All-cons IsDark (65 + n % 26) (letters count (n / 26)) (dark (65 + n % 26) (omega arith)) (letters_dark count (n / 26))

end_dark : (vertical : Bool) → All IsDark (mode_end vertical)
end_dark true = all_dark (codes "-V") refl
end_dark false = all_dark (codes "-H") refl

name_dark : (vertical : Bool) (ps : List Pair) → All IsDark (name_of_codes vertical ps)
name_dark vertical ps = All-append IsDark (tag_of (code_lines ps)) (mode_end vertical) (letters_dark 6 (digest (code_lines ps))) (end_dark vertical)

-- ---- what is read

pub named_codes_are_read : NamedCodesAreRead
named_codes_are_read vertical ps h =
    lines_of (codes "cidchar") (named_text vertical ps) (words vertical (name_of_codes vertical ps)) pair_in pair_row ps
    (text_read vertical (name_of_codes vertical ps) (blocks (codes "cidchar") (length ps) (map pair_row ps) ++ back) (name_dark vertical ps))
    (all_read (codes "cidchar") (words vertical (name_of_codes vertical ps)) (map pair_row ps) (all_dark (codes "cidchar") refl) (words_are_plain vertical (name_of_codes vertical ps)) (all_rows pair_row IsPair pair_is_row ps h))
    (all_said pair_in pair_row IsPair pair_read ps h)

pub named_codes_of_text : (vertical : Bool) (ps : List Pair) (text : List ℕ) → text ≡ named_text vertical ps → All IsPair ps → codes_in text ≡ Some ps
named_codes_of_text vertical ps text e h = ap codes_in e ∙ named_codes_are_read vertical ps h
