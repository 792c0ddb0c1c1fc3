-- What is refused of the outlines has a fault of that name, and what is taken has none.
use Rattle.std.proofs.Common.{◌≡◌, ℕ, zero, suc, ◌^◌, ◌<◌, ◌≤◌, Bool, true, false, cond, leb, eqb, List, [], ◌∷◌, length, get_or, take, drop, Option, Some, None, Ok, Err, refl, sym, ap, subst, ◌∙◌, ◌⊎◌, inl, inr, arith}
use Rattle.std.specs.Prelude.{codes, not, Contains, IsSome, is_some}
use Rattle.std.specs.Option.{option_and_then, option_map}
use Rattle.std.specs.List.{list_any}
use Rattle.std.proofs.lemmas.Bool.{leb-false, false≢true, eq-eqb, or_left, or_right}
use Rattle.std.proofs.lemmas.Map.Steps.{le-length_from_below}
use Rattle.std.proofs.lemmas.List.{get_or_default}
use Rattle.subsetter_base.specs.Bytes.{be, range, number}
use Rattle.subsetter_base.specs.declared.error.Error.{Error}
use Rattle.subsetter_base.specs.declared.error.Error.TheVariants.{MalformedFont, OutOfMemory}
use Rattle.subsetter_base.proofs.ByteLemmas.{range-fits}
use Rattle.subsetter_base.proofs.Results.{named_err}
use Rattle.subsetter_base.proofs.Options.{some_not_none, just_is, bind_some}
use Rattle.subsetter_sfnt.specs.Read.{Font, table}
use Rattle.subsetter.specs.Glyf.Read.{Outlines, outlines_in, outlines, outline_in, outline}
use Rattle.subsetter.specs.Glyf.Parts.{Parts, outline_parts}
use Rattle.subsetter.specs.Glyf.Reaching.Reach.{IsReachableBy, IsReachable, IsGlyphOrderBy, IsGlyphOrder}
use Rattle.subsetter.specs.Glyf.Reaching.Closure.{StopsClosure, no_memory, faulty_glyph, all_reached, too_long}
use Rattle.subsetter.specs.Glyf.Plain.{outlines_read, kept_all}
use Rattle.subsetter.specs.Glyf.BareOutlines.Size.{requested_size, requested_sizes, AreLonger}
use Rattle.subsetter.specs.Glyf.Written.{glyf_bytes}
use Rattle.subsetter.specs.Glyf.Fault as faults
use Rattle.subsetter.specs.Glyf.Fault.{HasOutlineFault}
use Rattle.subsetter.proofs.GlyfLaws.Kept.{some_before, not_kept, first_not_kept, kept_at}
use Rattle.subsetter.proofs.GlyfLaws.BareOutlinesLaws.Sizes.{sum_by_part, kept_sizes}
use Rattle.subsetter.proofs.GlyfLaws.ReachingLaws.Unfold.{outline_is}

-- ---- the tables

-- what holds where the tables of the outlines can be read
pub record HasTables (hinting : Bool) (find : List ℕ → Option (List ℕ)) (t : Outlines) : Type 0 where
  pub loca_is : find (codes "loca") ≡ Some t.loca
  pub glyf_is : find (codes "glyf") ≡ Some t.glyf
  pub head_is : find (codes "head") ≡ Some t.head
  pub head_len : 52 ≤ length t.head
  pub asks : t.hinting ≡ hinting

format_there : (head : List ℕ) (n : ℕ) → number head 50 2 ≡ Some n → 52 ≤ length head
format_there head n h = by (range head 50 2) refl h
  where
    by : (o : Option (List ℕ)) → range head 50 2 ≡ o → option_map be o ≡ Some n → 52 ≤ length head
    by None r e = absurd cc
    by (Some part) r e = range-fits head part 50 2 r

abbrev tables_of : Bool → List ℕ → List ℕ → List ℕ → ℕ → Option Outlines
tables_of hinting loca glyf head format = Some (record { loca = loca; glyf = glyf; head = head; long = not (eqb format 0); hinting = hinting })

pub has_tables : (hinting : Bool) (find : List ℕ → Option (List ℕ)) (t : Outlines) → outlines_in hinting find ≡ Some t → HasTables hinting find t
unfolding outlines_in
has_tables hinting find t h =
    let a = bind_some (find (codes "loca")) (λ loca. option_and_then (λ glyf. option_and_then (λ head. option_and_then (λ format. tables_of hinting loca glyf head format) (number head 50 2)) (find (codes "head"))) (find (codes "glyf"))) t h in
    let b = bind_some (find (codes "glyf")) (λ glyf. option_and_then (λ head. option_and_then (λ format. tables_of hinting a.0 glyf head format) (number head 50 2)) (find (codes "head"))) t a.2 in
    let c = bind_some (find (codes "head")) (λ head. option_and_then (λ format. tables_of hinting a.0 b.0 head format) (number head 50 2)) t b.2 in
    let d = bind_some (number c.0 50 2) (λ format. tables_of hinting a.0 b.0 c.0 format) t c.2 in
    let same : record { loca = a.0; glyf = b.0; head = c.0; long = not (eqb d.0 0); hinting = hinting } ≡ t = just_is (record { loca = a.0; glyf = b.0; head = c.0; long = not (eqb d.0 0); hinting = hinting }) t d.2 in
    record {
      loca_is = a.1 ∙ ap (λ (o : Outlines). Some o.loca) same;
      glyf_is = b.1 ∙ ap (λ (o : Outlines). Some o.glyf) same;
      head_is = c.1 ∙ ap (λ (o : Outlines). Some o.head) same;
      head_len = subst (λ (o : Outlines). 52 ≤ length o.head) same (format_there c.0 d.0 d.1);
      asks = sym (ap (λ (o : Outlines). o.hinting) same);
    }

-- ---- what is refused has a fault

no_format : (head : List ℕ) → number head 50 2 ≡ None → length head < 52
no_format head h = by (leb 52 (length head)) refl h
  where
    by : (b : Bool) → leb 52 (length head) ≡ b → option_map be (cond b (Some (take 2 (drop 50 head))) None) ≡ None → length head < 52
    by true t e = absurd cc
    by false t e = leb-false 52 (length head) t

missing : (font : Font) (glyphs : List ℕ) (o1 o2 o3 : Option (List ℕ)) → table font (codes "loca") ≡ o1 → table font (codes "glyf") ≡ o2 → table font (codes "head") ≡ o3 → IsSome (table font (codes "glyf"))
    → option_and_then (λ loca. option_and_then (λ glyf. option_and_then (λ head. option_and_then (λ format. tables_of font.extras.hinting loca glyf head format) (number head 50 2)) o3) o2) o1 ≡ None → HasOutlineFault font glyphs MalformedFont
missing font glyphs None o2 o3 a b c there h = faults.no_loca there a
missing font glyphs (Some l) None o3 a b c there h = absurd (false≢true (ap (λ (o : Option (List ℕ)). is_some o) (sym b) ∙ there))
missing font glyphs (Some l) (Some g) None a b c there h = faults.no_head there c
missing font glyphs (Some l) (Some g) (Some head) a b c there h = by (number head 50 2) refl h
  where
    by : (o : Option ℕ) → number head 50 2 ≡ o → option_and_then (λ format. tables_of font.extras.hinting l g head format) o ≡ None → HasOutlineFault font glyphs MalformedFont
    by None e k = faults.short_head head c (no_format head e)
    by (Some n) e k = absurd cc

no_outlines : (font : Font) (glyphs : List ℕ) → IsSome (table font (codes "glyf")) → outlines font ≡ None → HasOutlineFault font glyphs MalformedFont
unfolding outlines_in
no_outlines font glyphs there h = missing font glyphs (table font (codes "loca")) (table font (codes "glyf")) (table font (codes "head")) refl refl refl there h

-- the tables were refused
pub tables_refused : (font : Font) (glyphs : List ℕ) (e : Error) → IsSome (table font (codes "glyf")) → outlines_read font.extras.hinting (table font) ≡ Err e → HasOutlineFault font glyphs e
tables_refused font glyphs e there h =
    let u = named_err (outlines font) MalformedFont e h in
    subst (HasOutlineFault font glyphs) u.1 (no_outlines font glyphs there u.0)

-- a reached glyph without parts
no_parts : (font : Font) (glyphs : List ℕ) (g : ℕ) (bytes : List ℕ) → IsReachable font glyphs g → outline font g ≡ Some bytes → outline_parts bytes ≡ None → HasOutlineFault font glyphs MalformedFont
unfolding outline_parts
no_parts font glyphs g [] r there h = absurd cc
no_parts font glyphs g (b ∷ []) r there h = faults.one_byte g b r there
no_parts font glyphs g (a ∷ b ∷ bytes) r there h = faults.cut_composite g (a ∷ b ∷ bytes) r there (omega arith) h

glyf_there : (font : Font) (t : Outlines) → outlines font ≡ Some t → IsSome (table font (codes "glyf"))
glyf_there font t read = ap (λ (o : Option (List ℕ)). is_some o) (has_tables font.extras.hinting (table font) t read).glyf_is

-- reached by the outlines of the tables, reached in the font
pub reached_in : (font : Font) (glyphs : List ℕ) (t : Outlines) (g : ℕ) → outlines font ≡ Some t → IsReachableBy (outline_in t) glyphs g → IsReachable font glyphs g
reached_in font glyphs t g read r = subst (λ (o : Option Outlines). IsReachableBy (λ h. option_and_then (λ u. outline_in u h) o) glyphs g) (sym read) r

pub order_in : (font : Font) (glyphs order : List ℕ) (t : Outlines) → outlines font ≡ Some t → IsGlyphOrderBy (outline_in t) glyphs order → IsGlyphOrder font glyphs order
order_in font glyphs order t read o = subst (λ (x : Option Outlines). IsGlyphOrderBy (λ h. option_and_then (λ u. outline_in u h) x) glyphs order) (sym read) o

-- outlines of the tables that are too long, too long in the font
pub longer_in : (font : Font) (glyphs : List ℕ) (t : Outlines) (most : ℕ) → outlines font ≡ Some t → AreLonger t.hinting (outline_in t) glyphs most → AreLonger font.extras.hinting (outline font) glyphs most
longer_in font glyphs t most read l =
    let here : AreLonger font.extras.hinting (outline_in t) glyphs most = subst (λ (b : Bool). AreLonger b (outline_in t) glyphs most) (has_tables font.extras.hinting (table font) t read).asks l in
    subst (λ (o : Option Outlines). AreLonger font.extras.hinting (λ h. option_and_then (λ u. outline_in u h) o) glyphs most) (sym read) here

-- the closure was stopped
pub closure_refused : (font : Font) (glyphs : List ℕ) (t : Outlines) (e : Error) → outlines font ≡ Some t → StopsClosure t glyphs 4294967295 e → (e ≡ OutOfMemory) ⊎ HasOutlineFault font glyphs e
closure_refused font glyphs t e read no_memory = inl refl
closure_refused font glyphs t e read (faulty_glyph g r is) = inr (no_parts font glyphs g is.bytes (reached_in font glyphs t g read r) (outline_is font t g read ∙ is.there) is.faulty)
closure_refused font glyphs t e read (too_long l) = inr (faults.long_outlines (glyf_there font t read) (longer_in font glyphs t 4294967295 read l))
closure_refused font glyphs t e read (all_reached r) = inr (faults.all_reached (glyf_there font t read) (λ g lt. reached_in font glyphs t g read (r g lt)))

-- an outline was refused
pub outlines_refused : (font : Font) (glyphs order : List ℕ) (t : Outlines) (e : Error) → outlines font ≡ Some t → IsGlyphOrder font glyphs order → kept_all t order order ≡ Err e → HasOutlineFault font glyphs e
outlines_refused font glyphs order t e read closed h =
    let first = first_not_kept t order order e h in
    let g = first.0 in
    let r : IsReachable font glyphs g = (closed.members g).0 first.1 in
    let k = not_kept t order g e first.2 in
    subst (HasOutlineFault font glyphs) k.0 (elim k.1 [
      | inl none ↦ faults.no_outline g (glyf_there font t read) r (outline_is font t g read ∙ none)
      | inr bad ↦ no_parts font glyphs g bad.0 r (outline_is font t g read ∙ bad.1) bad.2
    ])

-- ---- what is taken has none

one_has_none : (b : ℕ) → outline_parts (b ∷ []) ≡ None
unfolding outline_parts
one_has_none b = refl

-- 65536 numbers don't fit a list of 65535
any_has : (xs : List ℕ) (q : ℕ) → Contains xs q → list_any (eqb q) xs ≡ true
any_has [] q c = absurd (omega (arith, c.1))
any_has (x ∷ xs) q (zero, lt, is) = or_left (eqb q x) (list_any (eqb q) xs) (eq-eqb q x (sym is))
any_has (x ∷ xs) q (suc k, lt, is) = or_right (eqb q x) (list_any (eqb q) xs) (any_has xs q (k, omega arith, is))

too_many : (order : List ℕ) → length order ≤ 65535 → ((g : ℕ) → g < 65536 → Contains order g) → ⊥
too_many order few all = omega (arith, few, le-length_from_below order 65536 (λ q lt. any_has order q (all q lt)))

module _ (font : Font) (glyphs order : List ℕ) (t : Outlines) (bs : List (List ℕ)) (read : outlines font ≡ Some t) (closed : IsGlyphOrder font glyphs order) (few : length order ≤ 65535) (keeps : kept_all t order order ≡ Ok bs) where
  -- those of some reached glyphs are no longer than the new `glyf`
  pub not_longer : (most : ℕ) (long : Bool) → length (glyf_bytes long bs) ≤ most → AreLonger font.extras.hinting (outline font) glyphs most → ⊥
  not_longer most long small l =
      let sizes = λ (hint : Bool) (o : Option Outlines). requested_sizes hint (λ h. option_and_then (λ u. outline_in u h) o) order in
      let same : sizes font.extras.hinting (outlines font) ≡ requested_sizes t.hinting (outline_in t) order = ap (sizes font.extras.hinting) read ∙ ap (λ (b : Bool). sizes b (Some t)) (sym (has_tables font.extras.hinting (table font) t read).asks) in
      omega (arith, l.longer, sum_by_part (λ g. requested_size font.extras.hinting (outline font g)) l.part order l.once (λ g c. (closed.members g).1 (l.reached g c)), same, kept_sizes t order order bs long keeps, small)

  -- a reached glyph has an outline with parts
  has_parts : (g : ℕ) → IsReachable font glyphs g → (bytes : List ℕ) × (outline font g ≡ Some bytes) × ((p : Parts) × (outline_parts bytes ≡ Some p))
  has_parts g r =
      let at = (closed.members g).1 r in
      let k = kept_at t order order bs at.0 keeps at.1 in
      let is_g : get_or order at.0 0 ≡ g = get_or_default order at.0 0 g at.1 ∙ at.2 in
      (k.bytes, outline_is font t g read ∙ ap (outline_in t) (sym is_g) ∙ k.there, some_before t.hinting (outline_parts k.bytes) k.parts k.parts_are)

  without_parts : (g : ℕ) (bytes : List ℕ) → IsReachable font glyphs g → outline font g ≡ Some bytes → outline_parts bytes ≡ None → ⊥
  without_parts g bytes r there none =
      let k = has_parts g r in
      let same : k.0 ≡ bytes = just_is k.0 bytes (sym k.1 ∙ there) in
      some_not_none (outline_parts k.0) k.2.0 k.2.1 (ap outline_parts same ∙ none)

  pub no_outline_fault : (long : Bool) → length (glyf_bytes long bs) < 2 ^ 32 → (e : Error) → HasOutlineFault font glyphs e → ⊥
  no_outline_fault long small e (faults.no_loca a b) = let h = has_tables font.extras.hinting (table font) t read in some_not_none (table font (codes "loca")) t.loca h.loca_is b
  no_outline_fault long small e (faults.no_head a b) = let h = has_tables font.extras.hinting (table font) t read in some_not_none (table font (codes "head")) t.head h.head_is b
  no_outline_fault long small e (faults.short_head head a b) =
      let h = has_tables font.extras.hinting (table font) t read in
      let same : t.head ≡ head = just_is t.head head (sym h.head_is ∙ a) in
      omega (arith, ap length same, h.head_len, b)
  no_outline_fault long small e (faults.no_outline g a r none) = let k = has_parts g r in some_not_none (outline font g) k.0 k.1 none
  no_outline_fault long small e (faults.one_byte g b r there) = without_parts g (b ∷ []) r there (one_has_none b)
  no_outline_fault long small e (faults.cut_composite g bytes r there le none) = without_parts g bytes r there none
  no_outline_fault long small e (faults.all_reached a r) = too_many order few (λ g lt. (closed.members g).1 (r g lt))
  no_outline_fault long small e (faults.long_outlines a l) = not_longer 4294967295 long (omega (arith, small)) l
