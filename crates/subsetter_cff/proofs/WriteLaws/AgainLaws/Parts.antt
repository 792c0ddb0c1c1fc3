-- The parts that are made of a table that was laid out are those that are made of the first font.
use Rattle.std.proofs.Common.{◌≡◌, ℕ, ◌<◌, ◌≤◌, true, List, [], ◌∷◌, map, length, Option, Some, refl, ap, arith, ◌∙◌, sym, subst}
use Rattle.std.specs.Prelude.{slice_get, slice_index, unwrap_or, Result, Ok, Err}
use Rattle.std.specs.List.{AllByRecursion}
use Rattle.std.proofs.lemmas.Option.{slice_get-map}
use Rattle.std.proofs.lemmas.List.{length-map}
use Rattle.subsetter_base.specs.Bytes.{◌>>=◌}
use Rattle.subsetter_base.specs.Indexes.{index_of}
use Rattle.subsetter_base.specs.declared.error.Error.{Error}
use Rattle.subsetter_cff.specs.Read.Cff.{Cff, is_cid_keyed}
use Rattle.subsetter_cff.specs.Read.GlyphTrace.{library}
use Rattle.subsetter_cff.specs.Read.Strings.{FontString}
use Rattle.subsetter_cff.specs.Write.Laying.Layout.{FontDict, Parts}
use Rattle.subsetter_cff.specs.Write.Laying.Fits.{Fits}
use Rattle.subsetter_cff.specs.Write.Plain.{KeptGlyph, kept_glyph, kept_glyphs, used_numbers, new_font_dict, new_font_dicts, new_select, new_parts}
use Rattle.subsetter_cff.specs.Write.Again.{composed, AreGlyphs}
use Rattle.subsetter_cff.proofs.ReadLaws.Results.{In, number_there}
use Rattle.subsetter_cff.proofs.WriteLaws.GlyphsLaws.KeptSteps.{length-kept, kept_at, in_used, glyph_steps}
use Rattle.subsetter_cff.proofs.WriteLaws.NewDictsLaws.FontDictSteps.{dict_at}
use Rattle.subsetter_cff.proofs.WriteLaws.LayingLaws.MadeOf.{selects, bytes_of}
use Rattle.subsetter_cff.proofs.WriteLaws.LayingLaws.Fronts.{laid_out}
use Rattle.subsetter_cff.proofs.WriteLaws.AgainLaws.NumberLaws.FontDicts.{dict_again_made}
use Rattle.subsetter_cff.proofs.WriteLaws.AgainLaws.NumberLaws.KeptGlyphs.{is_flat, kept_again, kept_each, kept_these}
use Rattle.subsetter_cff.proofs.WriteLaws.AgainLaws.NumberLaws.Renumbered.{used_ascends, new_number, KeepsOrder, keeps_order}
use Rattle.subsetter_cff.proofs.WriteLaws.AgainLaws.NumberLaws.RenumberedUse.{renumbered, place_again}

pub same_bind : {A B : Type 0} (r s : Result A Error) (f g : A → Result B Error) → r ≡ s → ((x : A) → f x ≡ g x) → r >>= f ≡ s >>= g
same_bind (Ok x) s f g e h = rw (← e) (h x)
same_bind (Err z) s f g e h = rw (← e) refl

all_of : {A B : Type 0} (P : A → Type 0) (Q : B → Type 0) (f : A → B) (xs : List A) → ((x : A) → P x → Q (f x)) → AllByRecursion P xs → AllByRecursion Q (map f xs)
all_of P Q f [] h all = tt
all_of P Q f (x ∷ xs) h all = (h x all.0, all_of P Q f xs h all.1)

pub all_for : {A : Type 0} (P Q : A → Type 0) (xs : List A) → ((x : A) → P x → Q x) → AllByRecursion P xs → AllByRecursion Q xs
all_for P Q [] h all = tt
all_for P Q (x ∷ xs) h all = (h x all.0, all_for P Q xs h all.1)

pub same_bytes : (r : ℕ → ℕ) (ks : List KeptGlyph) → map (λ (k : KeptGlyph). k.bytes) (map (renumbered r) ks) ≡ map (λ (k : KeptGlyph). k.bytes) ks
same_bytes r [] = refl
same_bytes r (k ∷ ks) = ap (λ (l : List (List ℕ)). k.bytes ∷ l) (same_bytes r ks)

pub same_places : (r : ℕ → ℕ) (P : ℕ → Type 0) (order : KeepsOrder r P) (ns : List ℕ) (ks : List KeptGlyph) → AllByRecursion P ns → AllByRecursion (λ (k : KeptGlyph). P k.number) ks
    → map (λ (k : KeptGlyph). unwrap_or (index_of (map r ns) k.number) 0) (map (renumbered r) ks) ≡ map (λ (k : KeptGlyph). unwrap_or (index_of ns k.number) 0) ks
same_places r P order ns [] all all' = refl
same_places r P order ns (k ∷ ks) all all' = rw (place_again r P order ns k.number all'.0 all, same_places r P order ns ks all all'.1) refl

-- font dicts under other numbers
pub dicts_again : (cff out : Cff) (r : ℕ → ℕ) (ns : List ℕ) → AllByRecursion (λ n. new_font_dict out (r n) ≡ new_font_dict cff n) ns → new_font_dicts out (map r ns) ≡ new_font_dicts cff ns
dicts_again cff out r [] all = refl
dicts_again cff out r (n ∷ ns) all = rw (all.0, dicts_again cff out r ns all.1) refl

abbrev pub none_kept : KeptGlyph
none_kept = record { number = 0; bytes = [] }

module _ (cff : Cff) (tokens depth : ℕ) (first : List ℕ) (kept : List KeptGlyph) (kept_is : kept_glyphs cff tokens depth first ≡ Ok kept)
    (copyright notice font_name : Option FontString) (dicts : List FontDict) (dicts_are : new_font_dicts cff (used_numbers kept) ≡ Ok dicts)
    (cid : is_cid_keyed cff ≡ true) (deep : 1 ≤ depth) where
  abbrev pub parts : Parts
  parts = new_parts cff copyright notice font_name dicts (new_select cff (used_numbers kept) kept) kept

  abbrev pub pick : ℕ → KeptGlyph
  pick g = unwrap_or (slice_get kept g) none_kept

  abbrev pub number : ℕ → ℕ
  number = new_number (used_numbers kept)

  pub order : KeepsOrder number (In (used_numbers kept))
  order = keeps_order (used_numbers kept) (used_ascends kept)

  picked : (g : ℕ) (one : KeptGlyph) → slice_get kept g ≡ Some one → pick g ≡ one
  picked g one at = rw at refl

  -- the glyph of the first font
  old_glyph : (g : ℕ) → g < length first → kept_glyph cff tokens depth (slice_index first g) ≡ Ok (pick g)
  old_glyph g lt = let at = kept_at cff tokens depth first kept g kept_is lt in at.made ∙ ap Ok (sym (picked g at.one at.at))

  number_used : (g : ℕ) → g < length first → In (used_numbers kept) (pick g).number
  number_used g lt =
      let at = kept_at cff tokens depth first kept g kept_is lt in
      subst (λ (k : KeptGlyph). In (used_numbers kept) k.number) (sym (picked g at.one at.at)) (in_used kept g at.one at.at)

  number_is : (n i : ℕ) → index_of (used_numbers kept) n ≡ Some i → number n ≡ i
  number_is n i e = rw e refl

  -- that glyph of the table that was laid out
  new_glyph : Fits parts → (g : ℕ) → g < length first → kept_glyph (laid_out parts) tokens depth g ≡ Ok (renumbered number (pick g))
  new_glyph fits g lt =
      let at = kept_at cff tokens depth first kept g kept_is lt in
      let used = in_used kept g at.one at.at in
      let steps = glyph_steps cff tokens depth (slice_index first g) at.one at.made in
      let lt' : g < length parts.char_strings = omega (arith, lt, length-kept cff tokens depth first kept kept_is, length-map kept (λ (k : KeptGlyph). k.bytes)) in
      kept_again parts fits tokens depth g at.one.bytes lt' (slice_get-map (λ (k : KeptGlyph). k.bytes) kept g ∙ bytes_of at.one (slice_get kept g) at.at)
      (is_flat (library cff steps.private) tokens depth steps.charstring at.one.bytes deep steps.flat)
      ∙ ap (λ (n : ℕ). Ok (record { number = n; bytes = at.one.bytes })) (selects cff tokens depth first kept g used.at at.one kept_is at.at used.is ∙ sym (number_is at.one.number used.at used.is))
      ∙ ap (λ (k : KeptGlyph). Ok (renumbered number k)) (sym (picked g at.one at.at))

  pub new_dict : Fits parts → (n : ℕ) → In (used_numbers kept) n → new_font_dict (laid_out parts) (number n) ≡ new_font_dict cff n
  new_dict fits n used =
      let there = dict_at cff (used_numbers kept) dicts used.at n dicts_are (number_there (used_numbers kept) n used.at used.is) in
      ap (new_font_dict (laid_out parts)) (number_is n used.at used.is) ∙ dict_again_made parts fits used.at there.one there.at ∙ sym there.made

  -- ---- of glyphs of the first subset
  module _ (fits : Fits parts) (second : List ℕ) (inside : AreGlyphs first second) where
    pub old_kept : kept_glyphs cff tokens depth (composed first second) ≡ Ok (map pick second)
    old_kept = kept_each cff tokens depth (slice_index first) pick second (all_for _ _ second old_glyph inside)

    pub new_kept : kept_glyphs (laid_out parts) tokens depth second ≡ Ok (map (renumbered number) (map pick second))
    new_kept = kept_these (laid_out parts) tokens depth (renumbered number) pick second (all_for _ _ second (new_glyph fits) inside)

    pub all_used : AllByRecursion (λ (k : KeptGlyph). In (used_numbers kept) k.number) (map pick second)
    all_used = all_of _ _ pick second number_used inside
