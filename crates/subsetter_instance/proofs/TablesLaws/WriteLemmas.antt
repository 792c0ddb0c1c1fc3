-- Bytes that are written in turn.
use Rattle.std.proofs.Common.{◌≡◌, ℕ, ◌-◌, ◌%◌, List, [], ◌∷◌, ◌++◌, length, Option, Some, None, refl, sym, ap, ◌∙◌, inl, inr, append_assoc, arith}
use Rattle.std.specs.Prelude.{IsTrue, replicate, codes}
use Rattle.std.proofs.lemmas.Bool.{cases_lt}
use Rattle.std.proofs.lemmas.List.{append-nil, length-append}
use Rattle.subsetter_base.specs.Bytes.{aligned}
use Rattle.subsetter_points.specs.declared.outline.Point.{Point}
use Rattle.subsetter_points.specs.Simple.{parts_bytes, parts_fit, simple_bytes, contours}
use Rattle.subsetter_points.proofs.WriteLemmas.{bytes_of_parts}
use Rattle.subsetter_sfnt.specs.Laying.Rows.{FontTables}
use Rattle.subsetter_instance.specs.Glyphs.Drawn.{Drawn}
use Rattle.subsetter_sfnt.specs.Fields.Loca.{loca_bytes}
use Rattle.subsetter_instance.specs.Tables.Written.{glyf_bytes, is_long, offsets_from, hmtx_of, head_bytes, hhea_bytes, maxp_bytes, tables}

-- a description of odd length gets a zero
pub padded_odd : (out new last : List ℕ) (es : List ℕ) (ps : List Point) (start end : ℕ) → IsTrue (parts_fit es ps) → start ≡ length out → new ≡ out ++ simple_bytes (contours 0 es ps) → end ≡ length new → (end - start) % 2 ≡ 1 → last ≡ new ++ 0 ∷ []
    → last ≡ out ++ aligned 2 (parts_bytes es ps)
padded_odd out new last es ps start end fits s is e odd l =
    let p = parts_bytes es ps in
    let written : new ≡ out ++ p = is ∙ ap (λ x. out ++ x) (sym (bytes_of_parts es ps fits)) in
    let one : (2 - length p % 2) % 2 ≡ 1 = omega (arith, s, e, ap length written, length-append out p, odd) in
    l ∙ ap (λ x. x ++ 0 ∷ []) written ∙ append_assoc out p (0 ∷ []) ∙ ap (λ n. out ++ (p ++ replicate n 0)) (sym one)

-- one of even length is whole
pub padded_even : (out new : List ℕ) (es : List ℕ) (ps : List Point) (start end : ℕ) → IsTrue (parts_fit es ps) → start ≡ length out → new ≡ out ++ simple_bytes (contours 0 es ps) → end ≡ length new → ((end - start) % 2 ≡ 1 → ⊥)
    → new ≡ out ++ aligned 2 (parts_bytes es ps)
padded_even out new es ps start end fits s is e even =
    let p = parts_bytes es ps in
    let written : new ≡ out ++ p = is ∙ ap (λ x. out ++ x) (sym (bytes_of_parts es ps fits)) in
    let same : (end - start) % 2 ≡ 0 = elim (cases_lt ((end - start) % 2) 1) [ inl lt ↦ omega arith | inr le ↦ absurd (even (omega arith)) ] in
    let none : (2 - length p % 2) % 2 ≡ 0 = omega (arith, s, e, ap length written, length-append out p, same) in
    written ∙ ap (λ x. out ++ x) (sym (append-nil p)) ∙ ap (λ n. out ++ (p ++ replicate n 0)) (sym none)

-- the tables, each with its bytes
pub font_made : (find : List ℕ → Option (List ℕ)) (head hhea : List ℕ) (n : ℕ) (ds : List Drawn) (all : List (Option Drawn)) (t : FontTables) (g h hh m l p : List ℕ) (name post : Option (List ℕ))
    → t ≡ record { cff = None; cvt = None; fpgm = None; glyf = Some g; head = Some h; hhea = Some hh; hmtx = Some m; loca = Some l; maxp = Some p; name = name; post = post; prep = None }
    → g ≡ glyf_bytes all → h ≡ head_bytes (is_long (glyf_bytes all)) ds head → hh ≡ hhea_bytes n ds hhea → m ≡ hmtx_of all → l ≡ loca_bytes (is_long (glyf_bytes all)) (offsets_from 0 all) → p ≡ maxp_bytes n ds → name ≡ find (codes "name") → post ≡ find (codes "post")
    → t ≡ tables find head hhea n ds all
font_made find head hhea n ds all t g h hh m l p name post is e1 e2 e3 e4 e5 e6 e7 e8 = is ∙ rw (e1, e2, e3, e4, e5, e6, e7, e8) refl
