-- The tables of a subset with outlines in `glyf` are answered as those of the first font.
use Rattle.std.proofs.Common.{◌≡◌, ℕ, ◌+◌, ◌%◌, ◌^◌, ◌<◌, ◌≤◌, Bool, true, false, List, [], length, get_or, Option, Some, Result, Ok, Err, refl, sym, ap, ◌∙◌, arith}
use Rattle.std.specs.Prelude.{codes, IsSome}
use Rattle.std.specs.Str.{bytes_eq}
use Rattle.std.proofs.lemmas.Bool.{lt-ltb, ltb-true}
use Rattle.std.proofs.lemmas.List.{length-map}
use Rattle.subsetter_base.specs.Bytes.{IsBytes, ◌>>=◌}
use Rattle.subsetter_base.specs.declared.error.Error.{Error}
use Rattle.subsetter_base.proofs.Results.{done_is}
use Rattle.subsetter_sfnt.specs.declared.flavor.FontFlavor.TheVariants.{TrueType}
use Rattle.subsetter_sfnt.specs.Read.{Font, as_font, table}
use Rattle.subsetter_sfnt.specs.Laying.Rows.{rows, present}
use Rattle.subsetter_sfnt.specs.Laying.Written.{Table}
use Rattle.subsetter.specs.Glyf.Parts.{parts_bytes}
use Rattle.subsetter.specs.Glyf.Plain.{renumbered, kept, kept_all}
use Rattle.subsetter_base.specs.Indexes.{new_index}
use Rattle.subsetter.specs.Glyf.Reaching.Reach.{IsGlyphOrder}
use Rattle.subsetter.specs.Glyf.Read.{Outlines}
use Rattle.subsetter.specs.Glyf.Reaching.Unfold.{padded}
use Rattle.subsetter.specs.Glyf.Written.{even_size, is_long, glyf_bytes}
use Rattle.subsetter.specs.Common.Shared.Plain.{SharedTables, shared_of, with_shared}
use Rattle.subsetter.specs.Truetype.Plain.{Made, located, made_of, laid, truetype_tables}
use Rattle.subsetter.proofs.GlyfLaws.Kept.{length-kept_all}
use Rattle.subsetter.proofs.GlyfLaws.ReachingLaws.Unfold.{each_weaker, padded_parts, components_of, small_numbers}
use Rattle.cid_embed.specs.Again.{requests_less}
use Rattle.cid_embed.proofs.AgainLaws.ByKind.{IsOutlineSubset}
use Rattle.cid_embed.proofs.AgainLaws.OrderLaws.Distinct.{apart, sum_some, no_more}
use Rattle.cid_embed.proofs.AgainLaws.OutlinesLaws.Laid
use Rattle.cid_embed.proofs.AgainLaws.Less.{other_table}
use Rattle.cid_embed.proofs.AgainLaws.OrderLaws.Order as places
use Rattle.cid_embed.proofs.AgainLaws.OutlinesLaws.Outlines.{padded_all, padded_bytes, long_again, nth_padded, kept_each, all_there, all_kept, kept_is, parts_composed, length-renumbered, glyf_less, located_less}
use Rattle.cid_embed.proofs.AgainLaws.OrderLaws.Places.{AreAt}
use Rattle.cid_embed.proofs.AgainLaws.TablesLaws.Shared.{shared_again}

-- the result, from the results of the parts
by_parts : (List ℕ → Option (List ℕ)) → Result (List (List ℕ)) Error → (List (List ℕ) → Result SharedTables Error) → Result (List Table) Error
by_parts find outlines shared = (outlines >>= λ bs. located bs >>= λ loca. shared bs >>= λ s. Ok (record { outlines = bs; loca = loca; shared = s })) >>= λ m. Ok (laid find m)

tables_by : (find : List ℕ → Option (List ℕ)) (t : Outlines) (order : List ℕ) → truetype_tables find t order ≡ by_parts find (kept_all t order order) (λ bs. shared_of find TrueType (is_long bs) order)
unfolding truetype_tables made_of by_parts
tables_by find t order = refl

-- programs and outlines as they are laid out
laid_by : (find : List ℕ → Option (List ℕ)) (m : Made) → laid find m ≡ present (rows (record (with_shared m.shared) { cvt = find (codes "cvt "); fpgm = find (codes "fpgm"); glyf = Some (glyf_bytes (is_long m.outlines) m.outlines); loca = Some m.loca; prep = find (codes "prep") }))
unfolding laid
laid_by find m = refl

even_length : List ℕ → ℕ
even_length b = length b + length b % 2

module _ (font : Font) (glyphs out : List ℕ) (bytes : IsBytes font.bytes) (first : IsOutlineSubset font glyphs out) (more M : List ℕ) (second : IsGlyphOrder (as_font out) more M) (inside : (i : ℕ) → i < length M → get_or M i 0 < length first.order) where
  abbrev L : List ℕ
  L = first.order

  abbrev order : List ℕ
  order = places.order font glyphs out bytes first more M second inside

  abbrev t : Outlines
  t = Laid.t font glyphs out first

  abbrev u : Outlines
  u = Laid.afresh font glyphs out first

  abbrev m : Made
  m = Laid.m font glyphs out first

  abbrev at : AreAt first.order M (places.order font glyphs out bytes first more M second inside)
  at = places.are_at font glyphs out bytes first more M second inside

  -- fewer glyphs than numbers
  pub few_order : length order < 2 ^ 16
  few_order = omega (arith, at.size, first.few, no_more (length L) M second.once inside)

  new_outline : (i : ℕ) → i < length M → List ℕ
  new_outline i lt = parts_bytes (renumbered order (places.glyph font glyphs out bytes first more M second inside (get_or M i 0) (inside i lt)).parts)

  kept_new : (i : ℕ) (lt : i < length M) → kept t order (get_or order i 0) ≡ Ok (new_outline i lt)
  unfolding new_outline
  kept_new i lt =
      let k = places.glyph font glyphs out bytes first more M second inside (get_or M i 0) (inside i lt) in
      ap (kept t order) (at.nth i lt) ∙ kept_is t order (get_or L (get_or M i 0) 0) k.bytes k.parts k.there k.parts_are

  -- the outlines of a subset of the first font in the composed order
  found : (cs : List (List ℕ)) × (kept_all t order order ≡ Ok cs)
  found = all_there t order order (λ i lt. (new_outline i (omega (arith, lt, at.size)), kept_new i (omega (arith, lt, at.size))))

  abbrev cs : List (List ℕ)
  cs = found.0

  as_many : length cs ≡ length M
  as_many = omega (arith, length-kept_all t order order cs found.1, at.size)

  new_is : (i : ℕ) (lt : i < length M) → get_or cs i [] ≡ new_outline i lt
  new_is i lt = done_is (get_or cs i []) (new_outline i lt) (sym (kept_each t order order cs i found.1 (omega (arith, lt, at.size))) ∙ kept_new i lt)

  -- those of the subset's subset are these, with the padding of the first
  second_is : (i : ℕ) (lt : i < length M) → kept u M (get_or M i 0) ≡ Ok (padded u.long (new_outline i lt))
  unfolding new_outline
  second_is i lt =
      let j = get_or M i 0 in
      let k = places.glyph font glyphs out bytes first more M second inside j (inside i lt) in
      let q = padded_parts u.long (renumbered L k.parts) in
      let b = padded u.long (get_or m.outlines j []) in
      let each = each_weaker (places.IsComposed font glyphs out bytes first more M second inside) (λ g. new_index M (new_index L g) ≡ new_index order g) (components_of k.parts) (λ g c. places.number_composed font glyphs out bytes first more M second inside g c)
      (places.each_composed font glyphs out bytes first more M second inside i lt) in
      kept_is u M j b q k.copy_is k.copy_parts
      ∙ ap (λ p. Ok (parts_bytes p)) (parts_composed u.long L M order k.parts each) ∙ ap (λ (l : List ℕ). Ok l) (padded_bytes t.hinting u.long order k.bytes k.parts (small_numbers order few_order) k.fit k.parts_are)

  kept_again : kept_all u M M ≡ Ok (padded_all u.long cs)
  kept_again =
      all_kept u M M (padded_all u.long cs) (omega (arith, as_many, length-map cs (padded u.long)))
      (λ i lt. second_is i lt ∙ ap (λ (x : List ℕ). Ok (padded u.long x)) (sym (new_is i lt)) ∙ ap (λ (x : List ℕ). Ok x) (sym (nth_padded u.long cs i (omega (arith, lt, as_many)))))

  -- ---- where the second is long, so is the first

  smaller : even_size cs ≤ even_size m.outlines
  unfolding even_length new_outline
  smaller =
      let len = length-kept_all t L L m.outlines (Laid.s font glyphs out first).kept in
      sum_some even_length m.outlines cs M refl as_many (apart M second.once) (λ i lt. omega (arith, inside i lt, len))
      (λ i lt.
      let k = places.glyph font glyphs out bytes first more M second inside (get_or M i 0) (inside i lt) in
      let same : length (new_outline i lt) ≡ length (get_or m.outlines (get_or M i 0) []) = length-renumbered order L k.parts ∙ ap length k.written in
      ap even_length (new_is i lt) ∙ ap (λ (n : ℕ). n + n % 2) same)

  long_both : is_long cs ≡ true → u.long ≡ true
  long_both h = lt-ltb _ _ (omega (arith, ltb-true _ _ h, smaller))

  -- ---- the tables, also where less is asked for

  some : IsSome (table font (codes "hmtx")) → 0 < length L
  some there = let k = first.shared.metrics there in omega (arith, k.at_least, k.at_most)

  module _ (n g : Bool) where
    abbrev back : List ℕ → Option (List ℕ)
    back = table (requests_less n g (as_font out))

    abbrev find : List ℕ → Option (List ℕ)
    find = table (requests_less n g font)

    shared_same : (last : Bool) → shared_of back TrueType last M ≡ shared_of find TrueType last order
    shared_same = shared_again font (as_font out) bytes TrueType (Laid.long font glyphs out first) L M order (Laid.word font glyphs out first) m.shared (Laid.s font glyphs out first).shared (Laid.shared_back font glyphs out first) some first.few at n g

    program : (tag : List ℕ) → bytes_eq tag (codes "name") ≡ false → bytes_eq tag (codes "post") ≡ false → table (as_font out) tag ≡ table font tag → back tag ≡ find tag
    program tag h k same = other_table n g (as_font out) tag h k ∙ same ∙ sym (other_table n g font tag h k)

    -- what is made with padded outlines is laid out alike
    laid_same : (loca : List ℕ) (s : SharedTables) → laid back (record { outlines = padded_all u.long cs; loca = loca; shared = s }) ≡ laid find (record { outlines = cs; loca = loca; shared = s })
    laid_same loca s =
        let p = first.drawn.programs in
        let ds = padded_all u.long cs in
        let whole : Option (List ℕ) → Option (List ℕ) → List ℕ → Option (List ℕ) → List Table = λ cvt fpgm glyf prep. present (rows (record (with_shared s) { cvt = cvt; fpgm = fpgm; glyf = Some glyf; loca = Some loca; prep = prep })) in
        let glyf : glyf_bytes (is_long ds) ds ≡ glyf_bytes (is_long cs) cs = ap (λ l. glyf_bytes l ds) (long_again u.long cs) ∙ glyf_less u.long (is_long cs) long_both cs in
        laid_by back (record { outlines = ds; loca = loca; shared = s })
        ∙ ap (λ x. whole x (back (codes "fpgm")) (glyf_bytes (is_long ds) ds) (back (codes "prep"))) (program (codes "cvt ") refl refl p.control_values)
        ∙ ap (λ x. whole (find (codes "cvt ")) x (glyf_bytes (is_long ds) ds) (back (codes "prep"))) (program (codes "fpgm") refl refl p.font_program)
        ∙ ap (λ x. whole (find (codes "cvt ")) (find (codes "fpgm")) x (back (codes "prep"))) glyf
        ∙ ap (λ x. whole (find (codes "cvt ")) (find (codes "fpgm")) (glyf_bytes (is_long cs) cs) x) (program (codes "prep") refl refl p.control_program)
        ∙ sym (laid_by find (record { outlines = cs; loca = loca; shared = s }))

    laid_both : (r : Result (List ℕ) Error) (s : Result SharedTables Error) → ((r >>= λ loca. s >>= λ x. Ok (record { outlines = padded_all u.long cs; loca = loca; shared = x })) >>= λ m. Ok (laid back m)) ≡ ((r >>= λ loca. s >>= λ x. Ok (record { outlines = cs; loca = loca; shared = x })) >>= λ m. Ok (laid find m))
    laid_both (Err e) s = refl
    laid_both (Ok loca) (Err e) = refl
    laid_both (Ok loca) (Ok x) = ap (λ (ts : List Table). Ok ts) (laid_same loca x)

    pub tables_same : truetype_tables back u M ≡ truetype_tables find t order
    unfolding by_parts
    tables_same =
        let ds = padded_all u.long cs in
        tables_by back u M
        ∙ ap (λ o. by_parts back o (λ bs. shared_of back TrueType (is_long bs) M)) kept_again
        ∙ ap (λ (r : Result (List ℕ) Error). (r >>= λ loca. shared_of back TrueType (is_long ds) M >>= λ s. Ok (record { outlines = ds; loca = loca; shared = s })) >>= λ x. Ok (laid back x)) (located_less u.long cs long_both)
        ∙ ap (λ (r : Result SharedTables Error). (located cs >>= λ loca. r >>= λ s. Ok (record { outlines = ds; loca = loca; shared = s })) >>= λ x. Ok (laid back x)) (shared_same (is_long ds) ∙ ap (λ l. shared_of find TrueType l order) (long_again u.long cs))
        ∙ laid_both (located cs) (shared_of find TrueType (is_long cs) order)
        ∙ sym (tables_by find t order ∙ ap (λ o. by_parts find o (λ bs. shared_of find TrueType (is_long bs) order)) found.1)
