-- What every answer has at least, and the answers that pass a bound.
use Rattle.std.proofs.Common.{◌≡◌, ℕ, ◌-◌, ◌%◌, ◌<◌, ◌≤◌, Bool, true, false, cond, List, [], ◌∷◌, ◌++◌, length, Option, Some, None, Ok, refl, sym, ap, subst, ◌∙◌, arith}
use Rattle.std.specs.Prelude.{codes, IsSome, is_some, IfSome, replicate}
use Rattle.std.specs.Option.{option_and_then, ok_or}
use Rattle.std.specs.List.{AllByRecursion}
use Rattle.std.specs.Str.{bytes_eq}
use Rattle.std.proofs.lemmas.List.{length-append}
use Rattle.std.proofs.lemmas.List.Concat.{flat_map-cons}
use Rattle.std.proofs.lemmas.Grind.{flat_map-append}
use Rattle.subsetter_base.specs.Bytes.{aligned}
use Rattle.subsetter_base.specs.declared.error.Error.TheVariants.{MalformedFont}
use Rattle.subsetter_base.proofs.Options.{just_is}
use Rattle.subsetter_base.proofs.Results.{done_is}
use Rattle.subsetter_sfnt.specs.declared.flavor.FontFlavor.{FontFlavor}
use Rattle.subsetter_sfnt.specs.declared.flavor.FontFlavor.TheVariants.{TrueType, Cff}
use Rattle.subsetter_sfnt.specs.Plain.{file_of}
use Rattle.subsetter_sfnt.specs.Read.{Font, table}
use Rattle.subsetter_sfnt.specs.Laying.Rows.{Row, rows, present, opt, bytes_of}
use Rattle.subsetter_sfnt.specs.Laying.Written.{Table, IsTable, body, file, fits, start_of, kind_word}
use Rattle.subsetter_sfnt.proofs.Laws.LayingLaws.Bound.{has_room}
use Rattle.subsetter_sfnt.proofs.Laws.LayingLaws.Written.{length-file}
use Rattle.subsetter.specs.Answer.{IsAnswer}
use Rattle.subsetter.specs.Bound.{IsBeyond, HasNoAnswerWithin}
use Rattle.subsetter.specs.Glyf.Reaching.Closure.{Finds}
use Rattle.subsetter.specs.Glyf.Plain.{outlines_read}
use Rattle.subsetter.specs.Glyf.Read.{Outlines, outline_in}
use Rattle.subsetter.specs.Glyf.Reaching.Reach.{IsGlyphOrderBy}
use Rattle.subsetter.specs.Glyf.BareOutlines.Size.{requested_size, AreLonger}
use Rattle.subsetter.specs.Glyf.Written.{is_long, glyf_bytes}
use Rattle.subsetter.specs.Laid.{AreMade, of_outlines, of_charstrings}
use Rattle.subsetter.specs.Truetype.Answered.{IsAnswered}
use Rattle.subsetter.specs.Truetype.Plain.{font_of, truetype_tables}
use Rattle.subsetter.proofs.GlyfLaws.ReachingLaws.Found.{same_found}
use Rattle.subsetter.proofs.GlyfLaws.BareOutlinesLaws.Sizes.{sum_by_part, kept_sizes}
use Rattle.subsetter.proofs.TruetypeLaws.Steps.{made_steps, tables_steps, file_steps}
use Rattle.subsetter.proofs.TruetypeLaws.Subset.{laid_is, laid_all}

-- ---- a file is no shorter than a table in it

one_holds : (tag : List ℕ) (o : Option (List ℕ)) (b : List ℕ) (others : List Table) → o ≡ Some b → length b ≤ length (body (opt tag o ++ others))
one_holds tag None b others h = absurd cc
one_holds tag (Some x) b others h =
    let same : x ≡ b = just_is x b h in
    omega (arith, ap length same, ap length (flat_map-cons (λ (t : Table). aligned 4 t.bytes) (record { tag = tag; bytes = x }) others), length-append (aligned 4 x) (body others), length-append x (replicate ((4 - length x % 4) % 4) 0))

pub row_holds : (tag : List ℕ) (rs : List Row) (b : List ℕ) → bytes_of tag rs ≡ Some b → length b ≤ length (body (present rs))
row_holds tag [] b h = absurd cc
row_holds tag (r ∷ rs) b h = by (λ k. row_holds tag rs b k) (bytes_eq r.tag tag) h
  where
    by : (bytes_of tag rs ≡ Some b → length b ≤ length (body (present rs))) → (q : Bool) → cond q r.bytes (bytes_of tag rs) ≡ Some b → length b ≤ length (body (opt r.tag r.bytes ++ present rs))
    by later true k = one_holds r.tag r.bytes b (present rs) k
    by later false k = omega (arith, later k, ap length (flat_map-append (λ (t : Table). aligned 4 t.bytes) (opt r.tag r.bytes) (present rs)), length-append (body (opt r.tag r.bytes)) (body (present rs)))

pub file_holds : (kind : ℕ) (ts : List Table) (out : List ℕ) → AllByRecursion IsTable ts → file_of kind ts ≡ Ok out → length (body ts) ≤ length out
file_holds kind ts out all h = omega (arith, ap length (file_steps kind ts out h).1, length-file kind ts all)

-- ---- an answer as it is made, step by step

module _ (hinting : Bool) (find : List ℕ → Option (List ℕ)) (glyphs : List ℕ) where
  -- outlines of reached glyphs that are too long together
  pub closure_beyond : (t : Outlines) (most : ℕ) → outlines_read hinting find ≡ Ok t → AreLonger t.hinting (outline_in t) glyphs most → (out : List ℕ) → IsAnswered hinting find glyphs out → most < length out
  closure_beyond t most read l out a =
      let same : t ≡ a.source = done_is t a.source (sym read ∙ a.read) in
      let longer : AreLonger a.source.hinting (outline_in a.source) glyphs most = subst (λ (x : Outlines). AreLonger x.hinting (outline_in x) glyphs most) same l in
      let made = tables_steps find a.source a.order a.tables a.tables_are in
      let steps = made_steps find a.source a.order made.0 made.1 in
      let bs = made.0.outlines in
      let glyf = glyf_bytes (is_long bs) bs in
      let all : AllByRecursion IsTable a.tables = subst (λ (ts : List Table). AllByRecursion IsTable ts) made.2 (laid_all find a.source a.order made.0 steps) in
      let within : length glyf ≤ length (body a.tables) = subst (λ (ts : List Table). length glyf ≤ length (body ts)) (sym (laid_is find made.0) ∙ made.2) (row_holds (codes "glyf") (rows (font_of find made.0)) glyf refl) in
      omega (
        arith,
        longer.longer,
        sum_by_part (λ g. requested_size a.source.hinting (outline_in a.source g)) longer.part a.order longer.once (λ g c. (a.is_order.members g).1 (longer.reached g c)),
        kept_sizes a.source a.order a.order bs (is_long bs) steps.kept,
        within,
        file_holds (kind_word TrueType) a.tables out all a.laid_out,
      )

  -- a file that is too long
  pub file_beyond : (t : Outlines) (order : List ℕ) (ts : List Table) (most : ℕ) → outlines_read hinting find ≡ Ok t → Finds t order glyphs [] glyphs → truetype_tables find t order ≡ Ok ts → ((f : List ℕ) → file_of (kind_word TrueType) ts ≡ Ok f → most < length f) → (out : List ℕ) → IsAnswered hinting find glyphs out → most < length out
  file_beyond t order ts most read found made longer out a =
      let same : t ≡ a.source = done_is t a.source (sym read ∙ a.read) in
      let order_is : order ≡ a.order = same_found t order a.order glyphs [] glyphs found (subst (λ (x : Outlines). Finds x a.order glyphs [] glyphs) (sym same) a.found) in
      let tables_are : ts ≡ a.tables = done_is ts a.tables (sym made ∙ ap (λ (x : Outlines). truetype_tables find x order) same ∙ ap (truetype_tables find a.source) order_is ∙ a.tables_are) in
      longer out (ap (file_of (kind_word TrueType)) tables_are ∙ a.laid_out)

-- ---- an answer of a font with `glyf`

no_cff : (o p : Option (List ℕ)) → IsSome o → cond (is_some o) (Some TrueType) (cond (is_some p) (Some Cff) None) ≡ Some Cff → ⊥
no_cff None p h k = absurd cc
no_cff (Some x) p h k = cc

module _ (tokens depth : ℕ) (font : Font) (glyphs : List ℕ) (there : IsSome (table font (codes "glyf"))) where
  answered_by : (out : List ℕ) (a : IsAnswer tokens depth font glyphs out) (kind : FontFlavor) (ts : List Table) → AreMade tokens depth font a.subset.keeps.order ts kind → out ≡ file (kind_word kind) ts → fits (start_of ts) ts ≡ true → IsAnswered font.extras.hinting (table font) glyphs out
  answered_by out a kind ts (of_outlines source r k) bytes room = record {
    source = source;
    read = ap (λ (o : Option Outlines). ok_or o MalformedFont) r;
    order = a.subset.keeps.order;
    is_order = subst (λ (x : Option Outlines). IsGlyphOrderBy (λ h. option_and_then (λ u. outline_in u h) x) glyphs a.subset.keeps.order) r a.subset.keeps.is_order;
    found = a.found source r;
    few = a.subset.keeps.few;
    tables = ts;
    tables_are = k;
    laid_out = has_room (kind_word TrueType) ts room ∙ ap Ok (sym bytes);
  }
  answered_by out a kind ts (of_charstrings source f r k) bytes room = absurd (no_cff (table font (codes "glyf")) (table font (codes "CFF ")) there f)

  pub as_answered : (out : List ℕ) → IsAnswer tokens depth font glyphs out → IsAnswered font.extras.hinting (table font) glyphs out
  as_answered out a = let x = a.subset.layout in answered_by out a a.subset.keeps.kind x.tables x.made x.bytes x.room

  pub is_beyond : (bound : Option ℕ) (most : ℕ) → bound ≡ Some most → ((out : List ℕ) → IsAnswered font.extras.hinting (table font) glyphs out → most < length out) → IsBeyond bound tokens depth font glyphs
  is_beyond bound most set longer = record { most = most; is_set = set; longer = λ out a. longer out (as_answered out a) }

-- ---- what passes a bound isn't within it

pub none_within : (bound : Option ℕ) (tokens depth : ℕ) (font : Font) (glyphs : List ℕ) → IsBeyond bound tokens depth font glyphs → HasNoAnswerWithin bound tokens depth font glyphs
none_within bound tokens depth font glyphs b out within a =
    let le : length out ≤ b.most = subst (λ (o : Option ℕ). IfSome o (λ most. length out ≤ most)) b.is_set within in
    omega (arith, le, b.longer out a)
