-- Widths, one after another.
use Rattle.std.proofs.Common.{◌≡◌, ◌<◌, ℕ, List, [], ◌∷◌, ◌++◌, length, get_or, Option, Some, None, Result, Ok, Err, ℤ, refl, sym, ap, ◌∙◌, append_assoc, arith}
use Rattle.std.specs.Prelude.{IfSome}
use Rattle.std.proofs.lemmas.List.{append-nil, get_or-map, length-map}
use Rattle.subsetter_base.specs.Bytes.{◌>>=◌}
use Rattle.subsetter_base.specs.Gives.{Fails}
use Rattle.subsetter_base.specs.declared.error.Error.{Error}
use Rattle.subsetter_base.proofs.Results.{with_front}
use Rattle.subsetter_variation.specs.Items.Advances.{advance_or_fault}
use Rattle.subsetter_instance.specs.Glyphs.Known.{AreKnown, IsKnown}
use Rattle.subsetter_instance.proofs.GlyphsLaws.Glyphs.{fails_in}
use Rattle.font_advances.specs.Widths.{each}

abbrev onto : ℕ → Result (List ℕ) Error → Result (List ℕ) Error
onto w r = r >>= λ others. Ok (w ∷ others)

push_front : (front : List ℕ) (w : ℕ) (r : Result (List ℕ) Error) → with_front front (onto w r) ≡ with_front (front ++ w ∷ []) r
push_front front w (Ok others) = ap (λ l. Ok l) (sym (append_assoc front (w ∷ []) others))
push_front front w (Err e) = refl

-- the others follow the first one
abbrev after_first : List ℕ → Result (List ℕ) Error → Result ℕ Error → Result (List ℕ) Error
after_first front others first = with_front front (first >>= λ w. onto w others)

pub each_start : (r : Result (List ℕ) Error) → with_front [] r ≡ r
each_start (Ok others) = refl
each_start (Err e) = refl

pub each_step : (width : ℕ → Result ℕ Error) (front : List ℕ) (g : ℕ) (all rest : List ℕ) (w : ℕ) → all ≡ g ∷ rest → width g ≡ Ok w → with_front front (each width all) ≡ with_front (front ++ w ∷ []) (each width rest)
each_step width front g all rest w e h = ap (λ l. with_front front (each width l)) e ∙ ap (after_first front (each width rest)) h ∙ push_front front w (each width rest)

-- where the first one fails, all do
pub each_fails : (width : ℕ → Result ℕ Error) (front : List ℕ) (g : ℕ) (all rest : List ℕ) (whole : Result (List ℕ) Error) (e : Error) → all ≡ g ∷ rest → with_front front (each width all) ≡ whole → Fails e (width g) → Fails e whole
each_fails width front g all rest whole e h same f =
    fails_in (after_first front (each width rest)) (width g) whole e (λ d. refl) (sym (ap (λ l. with_front front (each width l)) h) ∙ same) f

pub each_end : (width : ℕ → Result ℕ Error) (front : List ℕ) (all : List ℕ) → all ≡ [] → with_front front (each width all) ≡ Ok front
each_end width front all e = ap (λ l. with_front front (each width l)) e ∙ ap (λ l. Ok l) (append-nil front)

-- what is known of a glyph of the list
pub known_is : (table : Option (List ℕ)) (at : List ℤ) (glyphs : List ℕ) (known : List (Result ℤ Error)) (k : ℕ) (o : Option (Result ℤ Error)) → AreKnown table at glyphs known → IfSome o (λ d. (k < length known) × (get_or known k d ≡ d)) → IsKnown table at (get_or glyphs k 0) o
known_is None at glyphs known k o a h = tt
known_is (Some bytes) at glyphs known k None a h = tt
known_is (Some bytes) at glyphs known k (Some d) a h =
    let n : length known ≡ length glyphs = ap length a ∙ length-map glyphs (advance_or_fault bytes at) in
    sym h.1 ∙ ap (λ l. get_or l k d) a ∙ get_or-map (advance_or_fault bytes at) glyphs k 0 d (omega (arith, n, h.0))
