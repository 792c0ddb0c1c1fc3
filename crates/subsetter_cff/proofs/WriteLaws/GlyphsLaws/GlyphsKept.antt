-- A glyph of a source in memory.
use Rattle.std.proofs.Common.{◌≡◌, ℕ, zero, suc, ◌+◌, ◌<◌, ◌≤◌, true, List, [], ◌∷◌, ◌++◌, length, map, Option, Some, None, refl, ap, arith, ◌∙◌, sym, subst, append_assoc, length-append, inl, inr}
use Rattle.std.specs.Prelude.{slice_get, slice_index_or, Result, Ok, Err}
use Rattle.std.proofs.lemmas.List.{append-nil}
use Rattle.std.proofs.lemmas.Option.{slice_get-get_or}
use Rattle.std.specs.List.{concat}
use Rattle.std.specs.Option.{option_map, option_and_then, ok_or}
use Rattle.subsetter_base.specs.Bytes.{◌>>=◌}
use Rattle.subsetter_base.specs.Gives.{Fails, following}
use Rattle.subsetter_base.specs.Within.{FailsWithin}
use Rattle.subsetter_base.specs.declared.error.Error.{Error}
use Rattle.subsetter_base.specs.declared.error.Error.TheVariants.{UnknownKind, MalformedFont, Unimplemented, SubsetError, OverflowError, CFFError, OutOfMemory}
use Rattle.subsetter_cffdata.specs.Dicts.Dict.{entries}
use Rattle.subsetter_cffdata.specs.Indexes.Index.{offsets}
use Rattle.subsetter_cffdata.specs.Indexes.IndexView.{items}
use Rattle.subsetter_type2.specs.Flat.{flat_form}
use Rattle.subsetter_type2.specs.Subroutines.{entry_at}
use Rattle.subsetter_cff.specs.declared.read.fd_array.font_dict.FontDict.{FontDict}
use Rattle.subsetter_cff.specs.declared.write.glyphs.kept_glyphs.KeptGlyphs.{KeptGlyphs}
use Rattle.subsetter_cff.specs.declared.read.source.CIDMetadata.{CIDMetadata}
use Rattle.subsetter_cff.specs.declared.read.source.Table.{Table}
use Rattle.subsetter_cff.specs.Read.Cff.{Cff, char_string, is_cid_keyed}
use Rattle.subsetter_cff.specs.Read.FdArray.FontDicts.{selected, font_dict_number, font_dict_of}
use Rattle.subsetter_cff.specs.Read.FdArray.FontDictList.{AreFontDicts}
use Rattle.subsetter_cff.specs.Read.GlyphTrace.{library}
use Rattle.subsetter_cff.specs.Write.Glyphs.KeptView.{texts_of, texts_size, kept_past, AreKept, IsPut, KeepsNext, with_kept}
use Rattle.subsetter_cff.specs.Write.Plain.{KeptGlyph, source_number, kept_glyph, kept_glyphs}
use Rattle.subsetter_cff.specs.Read.FdArray.Private.{Private, private_at, private_of}
use Rattle.subsetter_cff.specs.Read.FdArray.PrivateView.{private_view}
use Rattle.subsetter_cff.specs.Read.Source.{cff_of, IsKeyed, IsSource}
use Rattle.subsetter_cff.specs.Read.Views.{select_view}
use Rattle.subsetter_cff.proofs.ReadLaws.Failing.{fails_on}
use Rattle.subsetter_cff.proofs.ReadLaws.Results.{bind_ok, same_Ok}

-- ---- its font dict
pub keyed_as : (s : Table) (cid : Option CIDMetadata) → IsSource s → s.cid ≡ cid → IsKeyed (cff_of s) cid
keyed_as s cid is e = subst (IsKeyed (cff_of s)) e is.keyed

pub number_without : (s : Table) (glyph : ℕ) → IsSource s → s.cid ≡ None → Some 0 ≡ source_number (cff_of s) glyph
number_without s glyph is e = rw (keyed_as s None is e) refl

pub number_with : (s : Table) (c : CIDMetadata) (glyph : ℕ) → IsSource s → s.cid ≡ Some c → selected (select_view c.select) glyph ≡ source_number (cff_of s) glyph
unfolding font_dict_number
number_with s c glyph is e = let k = keyed_as s (Some c) is e in rw (k.0, k.1.select) refl

-- ---- its private dict
dict_at : (table : List ℕ) (ds : List (List ℕ)) (fs : List FontDict) (n : ℕ) → AreFontDicts table ds fs
    → option_map (λ f. private_view f.private) (slice_get fs n) ≡ option_and_then (private_at table) (slice_get (map entries ds) n)
dict_at table [] [] n are = refl
dict_at table (d ∷ ds) (f ∷ fs) zero are = sym are.0.private
dict_at table (d ∷ ds) (f ∷ fs) (suc n) are = dict_at table ds fs n are.1
dict_at table [] (f ∷ fs) n are = absurd are
dict_at table (d ∷ ds) [] n are = absurd are

pub private_without : (s : Table) (glyph : ℕ) → IsSource s → s.cid ≡ None → Some (private_view s.private) ≡ private_of (cff_of s) glyph
unfolding private_of
private_without s glyph is e = rw (keyed_as s None is e, is.own) refl

numbered : (cff : Cff) (glyph n : ℕ) → is_cid_keyed cff ≡ true → source_number cff glyph ≡ Some n → font_dict_number cff glyph ≡ Some n
numbered cff glyph n keyed e = rw keyed at e

pub private_with : (s : Table) (c : CIDMetadata) (glyph n : ℕ) → IsSource s → s.cid ≡ Some c → source_number (cff_of s) glyph ≡ Some n
    → option_map (λ f. private_view f.private) (slice_get c.font_dicts.items n) ≡ private_of (cff_of s) glyph
unfolding private_of font_dict_of
private_with s c glyph n is e number =
    let k = keyed_as s (Some c) is e in
    rw (k.0, numbered (cff_of s) glyph n k.0 number, k.1.dicts_are) (dict_at (cff_of s).bytes k.1.dicts c.font_dicts.items n k.1.made)

-- ---- its charstring
pub char_string_is : (s : Table) (glyph : ℕ) → IsSource s → entry_at (items s.char_strings) glyph ≡ char_string (cff_of s) glyph
char_string_is s glyph is = rw is.char_strings_are refl

-- ---- one after the other
texts_after : (xs : List (List ℕ)) (y : List ℕ) → concat (xs ++ y ∷ []) ≡ concat xs ++ y
texts_after [] y = append-nil y
texts_after (x ∷ xs) y = rw (texts_after xs y) (sym (append_assoc x (concat xs) y))

ends_after : (from : ℕ) (xs : List (List ℕ)) (y : List ℕ) → offsets from (xs ++ y ∷ []) ≡ offsets from xs ++ (from + length (concat xs) + length y) ∷ []
ends_after from [] y = ap (λ (n : ℕ). n ∷ []) (let e : from + length y ≡ from + 0 + length y = omega arith in e)
ends_after from (x ∷ xs) y =
    rw (ends_after (from + length x) xs y, length-append x (concat xs))
    (ap (λ (n : ℕ). (from + length x) ∷ (offsets (from + length x) xs ++ n ∷ [])) (let e : from + length x + length (concat xs) + length y ≡ from + (length x + length (concat xs)) + length y = omega arith in e))

mapped_after : {A B : Type 0} (f : A → B) (xs : List A) (x : A) → map f (xs ++ x ∷ []) ≡ map f xs ++ f x ∷ []
mapped_after f [] x = refl
mapped_after f (y ∷ xs) x = ap (λ l. f y ∷ l) (mapped_after f xs x)

pub none_kept : (k : KeptGlyphs) → k.numbers.items ≡ [] → k.char_strings.items ≡ [] → k.ends.items ≡ [] → AreKept [] k
none_kept k a b c = record { numbers = a; char_strings = b; ends = c }

pub one_more_kept : (kept : List KeptGlyph) (old new : KeptGlyphs) (g : KeptGlyph) → AreKept kept old → IsPut old new g → AreKept (kept ++ g ∷ []) new
one_more_kept kept old new g are put = record {
  numbers = put.numbers ∙ ap (λ (l : List ℕ). l ++ g.number ∷ []) are.numbers ∙ sym (mapped_after (λ (k : KeptGlyph). k.number) kept g);
  char_strings = put.char_strings ∙ ap (λ (l : List ℕ). l ++ g.bytes) are.char_strings ∙ sym (ap concat (mapped_after (λ (k : KeptGlyph). k.bytes) kept g) ∙ texts_after (texts_of kept) g.bytes);
  ends =
      let size : length new.char_strings.items + 1 ≡ 1 + length (concat (texts_of kept)) + length g.bytes =
      omega (arith, ap length put.char_strings, length-append old.char_strings.items g.bytes, ap length are.char_strings) in
      put.ends ∙ rw (are.ends, size) (sym (ap (offsets 1) (mapped_after (λ (k : KeptGlyph). k.bytes) kept g) ∙ ends_after 1 (texts_of kept) g.bytes));
}

-- ---- glyph by glyph
pub with_none : (r : Result (List KeptGlyph) Error) → with_kept [] r ≡ r
with_none (Ok xs) = refl
with_none (Err e) = refl

moved : (front : List KeptGlyph) (g : KeptGlyph) (r : Result (List KeptGlyph) Error) → with_kept front (r >>= λ rest. Ok (g ∷ rest)) ≡ with_kept (front ++ g ∷ []) r
moved front g (Ok xs) = ap (λ (l : List KeptGlyph). Ok l) (sym (append_assoc front (g ∷ []) xs))
moved front g (Err e) = refl

pub next_kept : (cff : Cff) (tokens depth g : ℕ) (gs : List ℕ) (front : List KeptGlyph) (one : KeptGlyph) (whole : Result (List KeptGlyph) Error)
    → with_kept front (kept_glyphs cff tokens depth (g ∷ gs)) ≡ whole → kept_glyph cff tokens depth g ≡ Ok one → with_kept (front ++ one ∷ []) (kept_glyphs cff tokens depth gs) ≡ whole
next_kept cff tokens depth g gs front one whole same e = sym (moved front one (kept_glyphs cff tokens depth gs)) ∙ rw e at same

pub next_fails : (cff : Cff) (tokens depth g : ℕ) (gs : List ℕ) (front : List KeptGlyph) (e : Error) (whole : Result (List KeptGlyph) Error)
    → with_kept front (kept_glyphs cff tokens depth (g ∷ gs)) ≡ whole → Fails e (kept_glyph cff tokens depth g) → Fails e whole
next_fails cff tokens depth g gs front e whole same h =
    fails_on (kept_glyphs cff tokens depth (g ∷ gs)) (λ more. Ok (front ++ more)) whole e same
    (fails_on (kept_glyph cff tokens depth g) (λ first. kept_glyphs cff tokens depth gs >>= λ rest. Ok (first ∷ rest)) (kept_glyphs cff tokens depth (g ∷ gs)) e refl h)

-- glyphs that pass a bound, and those after them
texts_more : (before more : List KeptGlyph) (one : KeptGlyph) → texts_size before + length one.bytes ≤ texts_size (before ++ one ∷ more)
texts_more [] more one = omega (arith, length-append one.bytes (concat (texts_of more)))
texts_more (k ∷ before) more one = omega (arith, texts_more before more one, length-append k.bytes (concat (texts_of before)), length-append k.bytes (concat (texts_of (before ++ one ∷ more))))

pub next_past : (bound : Option ℕ) (cff : Cff) (tokens depth g : ℕ) (gs : List ℕ) (front : List KeptGlyph) (chars : List ℕ) (e : Error) (whole : Result (List KeptGlyph) Error)
    → with_kept front (kept_glyphs cff tokens depth (g ∷ gs)) ≡ whole → chars ≡ concat (texts_of front) → FailsWithin bound (λ k. length chars + length k.bytes) e (kept_glyph cff tokens depth g) → FailsWithin bound texts_size e whole
next_past bound cff tokens depth g gs front chars e whole same is h = elim h [
  | inl f ↦ inl (next_fails cff tokens depth g gs front e whole same f)
  | inr p ↦ inr (
    p.0,
    record {
      most = p.1.most;
      is_set = p.1.is_set;
      longer = λ all k.
          let a = bind_ok (kept_glyphs cff tokens depth (g ∷ gs)) (λ more. Ok (front ++ more)) all (same ∙ k) in
          let b = bind_ok (kept_glyph cff tokens depth g) (λ first. kept_glyphs cff tokens depth gs >>= λ rest. Ok (first ∷ rest)) a.0 a.1.0 in
          let c = bind_ok (kept_glyphs cff tokens depth gs) (λ rest. Ok (b.0 ∷ rest)) a.0 b.1.1 in
          let here : front ++ b.0 ∷ c.0 ≡ all = ap (λ (l : List KeptGlyph). front ++ l) (same_Ok (b.0 ∷ c.0) a.0 c.1.1) ∙ same_Ok (front ++ a.0) all a.1.1 in
          omega (arith, p.1.longer b.0 b.1.0, texts_more front c.0 b.0, ap texts_size here, ap length is);
    },
  )
]

-- ---- a font dict by its number
nothing_there : (fs : List FontDict) (n : ℕ) → length fs ≤ n → slice_get fs n ≡ None
nothing_there [] n le = refl
nothing_there (f ∷ fs) zero le = absurd (omega arith)
nothing_there (f ∷ fs) (suc n) le = nothing_there fs n (omega arith)

pub no_dict : (here fs : List FontDict) (n : ℕ) → here ≡ fs → length here ≤ n → None ≡ option_map (λ f. private_view f.private) (slice_get fs n)
no_dict here fs n same le = rw (← same, nothing_there here n le) refl

pub dict_there : (here fs : List FontDict) (n : ℕ) (f : FontDict) → here ≡ fs → n < length here → f ≡ slice_index_or here n f → Some (private_view f.private) ≡ option_map (λ f. private_view f.private) (slice_get fs n)
dict_there here fs n f same lt is = rw (← same, slice_get-get_or here n f lt, ← is) refl

-- ---- after others
abbrev put_after : List ℕ → Result KeptGlyph Error → Result KeptGlyph Error
put_after front r = r >>= λ k. Ok (record { number = k.number; bytes = front ++ k.bytes })

last_past : (front : List ℕ) (number : ℕ) (flat : Result (List ℕ) Error)
    → (following front flat >>= λ bytes. Ok (record { number = number; bytes = bytes })) ≡ put_after front (flat >>= λ bytes. Ok (record { number = number; bytes = bytes }))
last_past front number (Ok x) = refl
last_past front number (Err e) = refl

stands_by : (front : List ℕ) (a : Result ℕ Error) (b : Result Private Error) (c : Result (List ℕ) Error) (flat : Private → List ℕ → Result (List ℕ) Error)
    → (a >>= λ number. b >>= λ private. c >>= λ charstring. following front (flat private charstring) >>= λ bytes. Ok (record { number = number; bytes = bytes }))
    ≡ put_after front (a >>= λ number. b >>= λ private. c >>= λ charstring. flat private charstring >>= λ bytes. Ok (record { number = number; bytes = bytes }))
stands_by front (Ok n) (Ok p) (Ok s) flat = last_past front n (flat p s)
stands_by front (Ok n) (Ok p) (Err e) flat = refl
stands_by front (Ok n) (Err e) c flat = refl
stands_by front (Err e) b c flat = refl

kept_stands : (front : List ℕ) (cff : Cff) (tokens depth glyph : ℕ) → kept_past front cff tokens depth glyph ≡ put_after front (kept_glyph cff tokens depth glyph)
unfolding kept_past kept_glyph
kept_stands front cff tokens depth glyph =
    stands_by front (ok_or (source_number cff glyph) MalformedFont) (ok_or (private_of cff glyph) MalformedFont) (ok_or (char_string cff glyph) MalformedFont) (λ private charstring. flat_form (library cff private) tokens depth charstring)

record Front (front : List ℕ) (whole : Result KeptGlyph Error) (k : KeptGlyph) : Type 0 where
  one : KeptGlyph
  is : whole ≡ Ok one
  number : k.number ≡ one.number
  bytes : k.bytes ≡ front ++ one.bytes

front_of_kept : (front : List ℕ) (r : Result KeptGlyph Error) (k : KeptGlyph) → put_after front r ≡ Ok k → Front front r k
front_of_kept front (Ok one) k e =
    let same : ◌≡◌ {A = KeptGlyph} (record { number = one.number; bytes = front ++ one.bytes }) k = cc in
    record { one = one; is = refl; number = sym (ap (λ (x : KeptGlyph). x.number) same); bytes = sym (ap (λ (x : KeptGlyph). x.bytes) same) }
front_of_kept front (Err f) k e = absurd (cc)

not_after : (front : List ℕ) (r : Result KeptGlyph Error) (e : Error) → put_after front r ≡ Err e → r ≡ Err e
not_after front (Ok one) e h = absurd (cc)
not_after front (Err f) e h = let same : f ≡ e = cc in ap (λ (x : Error). Err x) same

err_after : (front : List ℕ) (r : Result KeptGlyph Error) (e : Error) → Fails e (put_after front r) → Fails e r
err_after front r UnknownKind h = not_after front r UnknownKind h
err_after front r MalformedFont h = not_after front r MalformedFont h
err_after front r Unimplemented h = not_after front r Unimplemented h
err_after front r SubsetError h = not_after front r SubsetError h
err_after front r OverflowError h = not_after front r OverflowError h
err_after front r CFFError h = not_after front r CFFError h
err_after front r OutOfMemory h = tt

pub after_refused : (front : List ℕ) (cff : Cff) (tokens depth glyph : ℕ) (e : Error) → Fails e (kept_past front cff tokens depth glyph) → Fails e (kept_glyph cff tokens depth glyph)
after_refused front cff tokens depth glyph e h = err_after front (kept_glyph cff tokens depth glyph) e (subst (λ (r : Result KeptGlyph Error). Fails e r) (kept_stands front cff tokens depth glyph) h)

pub keeps_next : (cff : Cff) (tokens depth glyph : ℕ) (old new : KeptGlyphs) (k : KeptGlyph) → kept_past old.char_strings.items cff tokens depth glyph ≡ Ok k → new.numbers.items ≡ old.numbers.items ++ k.number ∷ [] → new.char_strings.items ≡ k.bytes
    → new.ends.items ≡ old.ends.items ++ (length k.bytes + 1) ∷ [] → KeepsNext cff tokens depth glyph old new
keeps_next cff tokens depth glyph old new k e numbers chars ends =
    let f = front_of_kept old.char_strings.items (kept_glyph cff tokens depth glyph) k (sym (kept_stands old.char_strings.items cff tokens depth glyph) ∙ e) in
    record {
      one = f.one;
      is = f.is;
      put = record {
        numbers = numbers ∙ ap (λ (n : ℕ). old.numbers.items ++ n ∷ []) f.number;
        char_strings = chars ∙ f.bytes;
        ends = ends ∙ ap (λ (l : List ℕ). old.ends.items ++ (length l + 1) ∷ []) (sym chars);
      };
    }

-- a glyph after others that pass a bound
pub after_past : (bound : Option ℕ) (front : List ℕ) (cff : Cff) (tokens depth glyph : ℕ) (e : Error) → FailsWithin bound (λ (k : KeptGlyph). length k.bytes) e (kept_past front cff tokens depth glyph) → FailsWithin bound (λ (k : KeptGlyph). length front + length k.bytes) e (kept_glyph cff tokens depth glyph)
after_past bound front cff tokens depth glyph e h = elim h [
  | inl f ↦ inl (after_refused front cff tokens depth glyph e f)
  | inr p ↦ inr (
    p.0,
    record {
      most = p.1.most;
      is_set = p.1.is_set;
      longer = λ k is. omega (arith, p.1.longer (record { number = k.number; bytes = front ++ k.bytes }) (kept_stands front cff tokens depth glyph ∙ ap (put_after front) is), length-append front k.bytes);
    },
  )
]
