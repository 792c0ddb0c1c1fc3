-- What is checked while a new table is written is what its parts are limited by.
use Rattle.std.proofs.Common.{◌≡◌, ℕ, ◌+◌, ◌<◌, ◌≤◌, ◌^◌, Bool, true, false, cond, ◌⊎◌, List, [], ◌∷◌, ◌++◌, length, refl, ap, arith, inl, inr, ◌∙◌, sym, length-append}
use Rattle.std.specs.Prelude.{◌||◌, nat_lt, Result, Ok, Err}
use Rattle.std.specs.List.{concat, flat_map}
use Rattle.std.proofs.lemmas.Bool.{lt-ltb, ltb-true}
use Rattle.std.proofs.lemmas.List.{length-map}
use Rattle.subsetter_base.specs.Bytes.{◌>>=◌}
use Rattle.subsetter_base.specs.declared.error.Error.{Error}
use Rattle.subsetter_base.specs.declared.error.Error.TheVariants.{OverflowError}
use Rattle.subsetter_cffdata.specs.Dicts.Dict.{dict}
use Rattle.subsetter_cffdata.specs.Indexes.Index.{index}
use Rattle.subsetter_cffdata.specs.Numerals.Numbers.{Number, is_too_long}
use Rattle.subsetter_cff.specs.declared.write.laying.table.TableParts.{TableParts}
use Rattle.subsetter_cff.specs.Write.Laying.Layout.{FontDict, Parts, Offsets, strings, front, nowhere, placed_entries, top_of, charset_bytes, select_bytes, privates, private_bytes, font_dicts_from, font_dicts_of, top_entries, char_strings_offset}
use Rattle.subsetter_cff.specs.Write.Laying.FrontDraft.{named_bytes}
use Rattle.subsetter_cff.specs.Write.Laying.PartsView.{font_dict_view, parts_view, top_by, front_by, select_of_table, HasCharStrings}
use Rattle.subsetter_cff.specs.Read.Opened.{check}
use Rattle.subsetter_cff.specs.Write.Plain.{limited}
use Rattle.subsetter_cff.specs.Write.NewDicts.WrittenNumbers.{any_long, entry_numbers, font_dict_numbers, written_numbers}
use Rattle.subsetter_cff.specs.Write.Laying.TableBy.{front_size, new_dicts}
use Rattle.subsetter_cff.specs.Write.Laying.TableLimits.{limit, short, is_offset, has_index, numbers_limits, front_limits, dict_limits, dicts_limits, pieces_limits, offset_limits, laid_limits, table_limits}
use Rattle.subsetter_cff.proofs.WriteLaws.GlyphsLaws.FlatIndexes.{length-ends}
use Rattle.subsetter_cff.proofs.WriteLaws.LayingLaws.FrontDrafts.{top_split}
use Rattle.subsetter_cff.proofs.WriteLaws.LayingLaws.Places.{length-placed}
use Rattle.subsetter_cff.proofs.ReadLaws.Results.{bind_ok, passed}
use Rattle.subsetter_cff.proofs.WriteLaws.LayingLaws.Sizes.{index_holds, in_front, length-font_dicts_from}
use Rattle.subsetter_cff.proofs.WriteLaws.SourceFits.{short_front, short_back}
use Rattle.subsetter_cff.proofs.WriteLaws.StringsLaws.StringCount.{few_strings}

-- ---- a limit is kept or not
abbrev Either : {A : Type 0} → A → Result A Error → Type 0
Either x r = (r ≡ Ok x) ⊎ (r ≡ Err OverflowError)

limit_either : (b : Bool) → Either tt (limit b)
limit_either true = inl refl
limit_either false = inr refl

then_either : {A : Type 0} (x : A) (r : Result (Unit {0}) Error) (s : Result A Error) → Either tt r → Either x s → Either x (r >>= λ first. s)
then_either x r s (inl e) more = rw e more
then_either x r s (inr e) more = inr (rw e refl)

front_either : (texts : List (List ℕ)) (t : TableParts) → Either tt (front_limits texts t)
unfolding front_limits numbers_limits
front_either texts t =
    let top = top_by texts t in
    then_either tt _ _ (then_either tt _ _ (limit_either (short top.matrix)) (limit_either (short top.box)))
    (then_either tt _ _ (limit_either (is_offset (length (named_bytes top) + 33))) (then_either tt _ _ (limit_either (has_index texts)) (limit_either (is_offset (front_size texts t)))))

dict_either : (place : ℕ) (f : FontDict) → Either tt (dict_limits place f)
unfolding dict_limits
dict_either place f = then_either tt _ _ (limit_either (short (entry_numbers f.private))) (then_either tt _ _ (limit_either (is_offset (place + length (private_bytes f)))) (limit_either (short f.matrix)))

dicts_either : (place : ℕ) (fs : List FontDict) → Either tt (dicts_limits place fs)
dicts_either place [] = inl refl
dicts_either place (f ∷ fs) = then_either tt _ _ (dict_either place f) (dicts_either (place + length (private_bytes f)) fs)

pieces_either : (texts : List (List ℕ)) (t : TableParts) (glyphs size : ℕ) → Either tt (pieces_limits texts t glyphs size)
unfolding pieces_limits
pieces_either texts t glyphs size =
    let place = size + length (charset_bytes glyphs) in
    then_either tt _ _ (limit_either (is_offset place)) (then_either tt _ _ (dicts_either place (new_dicts t)) (limit_either (has_index (font_dicts_from texts place (new_dicts t)))))

places_either : (size charset private select dicts : ℕ) → Either tt (offset_limits size charset private select dicts)
unfolding offset_limits
places_either size charset private select dicts =
    then_either tt _ _ (limit_either (is_offset (size + charset))) (then_either tt _ _ (limit_either (is_offset (size + charset + private)))
    (then_either tt _ _ (limit_either (is_offset (size + charset + private + select))) (limit_either (is_offset (size + charset + private + select + dicts)))))

laid_either : (texts : List (List ℕ)) (t : TableParts) (glyphs size : ℕ) → Either tt (laid_limits texts t glyphs size)
unfolding laid_limits
laid_either texts t glyphs size = then_either tt _ _ (pieces_either texts t glyphs size) (places_either size _ _ _ _)

table_either : (texts : List (List ℕ)) (t : TableParts) (glyphs : ℕ) → Either tt (table_limits texts t glyphs)
unfolding table_limits
table_either texts t glyphs =
    then_either tt _ _ (front_either texts t) (then_either tt _ _ (laid_either texts t glyphs (front_size texts t)) (limit_either (nat_lt (length t.char_strings.items + 1) (2 ^ 32))))

-- ---- the limits of the parts
record Kept (p : Parts) : Type 0 where
  short_numbers : any_long (written_numbers p) ≡ false
  size : length (concat p.char_strings) + 1 < 2 ^ 32
  offset : char_strings_offset p < 2 ^ 31

not_true : (b : Bool) → cond b false true ≡ true → b ≡ false
not_true true e = absurd cc
not_true false e = refl

kept_of : (p q : Parts) → limited p ≡ Ok q → Kept p
unfolding limited
kept_of p q e =
    let b = passed (cond (any_long (written_numbers p)) false true) OverflowError _ q e in
    let c = passed (nat_lt (length (concat p.char_strings) + 1) (2 ^ 32)) OverflowError _ q b.1 in
    let d = passed (nat_lt (char_strings_offset p) (2 ^ 31)) OverflowError _ q c.1 in
    record {
      short_numbers = not_true (any_long (written_numbers p)) b.0;
      size = ltb-true (length (concat p.char_strings) + 1) (2 ^ 32) c.0;
      offset = ltb-true (char_strings_offset p) (2 ^ 31) d.0;
    }

-- they are kept, or they are not
check_either : {A : Type 0} (x : A) (b : Bool) (r : Result A Error) → Either x r → Either x (check b OverflowError r)
check_either x true r more = more
check_either x false r more = inr refl

limited_either : (p : Parts) → Either p (limited p)
unfolding limited
limited_either p =
    check_either p (cond (any_long (written_numbers p)) false true) _
    (check_either p (nat_lt (length (concat p.char_strings) + 1) (2 ^ 32)) _ (check_either p (nat_lt (char_strings_offset p) (2 ^ 31)) _ (inl refl)))

limits_hold : (p : Parts) → Kept p → limited p ≡ Ok p
unfolding limited
limits_hold p k =
    rw (k.short_numbers, lt-ltb (length (concat p.char_strings) + 1) (2 ^ 32) k.size, lt-ltb (char_strings_offset p) (2 ^ 31) k.offset) refl

-- ---- what was checked is kept
is_kept : (b : Bool) (x : Unit {0}) → limit b ≡ Ok x → b ≡ true
is_kept b x e = (passed b OverflowError (Ok tt) x e).0

first_short : (b c : Bool) → (b || c) ≡ false → b ≡ false
first_short true c e = e
first_short false c e = refl

rest_short : (b c : Bool) → (b || c) ≡ false → c ≡ false
rest_short true c e = absurd cc
rest_short false c e = e

both_short : (xs ys : List Number) → any_long xs ≡ false → any_long ys ≡ false → any_long (xs ++ ys) ≡ false
both_short [] ys a b = b
both_short (x ∷ xs) ys a b = rw (first_short (is_too_long x) (any_long xs) a) (both_short xs ys (rest_short (is_too_long x) (any_long xs) a) b)

front_kept : (texts : List (List ℕ)) (t : TableParts) (x : Unit {0}) → front_limits texts t ≡ Ok x → (any_long (top_by texts t).matrix ≡ false) × (any_long (top_by texts t).box ≡ false)
unfolding front_limits numbers_limits
front_kept texts t x e =
    let top = top_by texts t in
    let n = bind_ok (numbers_limits top.matrix top.box) _ x e in
    let a = bind_ok (limit (short top.matrix)) _ n.0 n.1.0 in
    (not_true (any_long top.matrix) (is_kept (short top.matrix) a.0 a.1.0), not_true (any_long top.box) (is_kept (short top.box) n.0 a.1.1))

dict_kept : (place : ℕ) (f : FontDict) (x : Unit {0}) → dict_limits place f ≡ Ok x → any_long (font_dict_numbers f) ≡ false
unfolding dict_limits
dict_kept place f x e =
    let a = bind_ok (limit (short (entry_numbers f.private))) _ x e in
    let b = bind_ok (limit (is_offset (place + length (private_bytes f)))) _ x a.1.1 in
    both_short f.matrix (entry_numbers f.private) (not_true (any_long f.matrix) (is_kept (short f.matrix) x b.1.1)) (not_true (any_long (entry_numbers f.private)) (is_kept (short (entry_numbers f.private)) a.0 a.1.0))

dicts_kept : (place : ℕ) (fs : List FontDict) (x : Unit {0}) → dicts_limits place fs ≡ Ok x → any_long (flat_map font_dict_numbers fs) ≡ false
dicts_kept place [] x e = refl
dicts_kept place (f ∷ fs) x e =
    let a = bind_ok (dict_limits place f) (λ first. dicts_limits (place + length (private_bytes f)) fs) x e in
    both_short (font_dict_numbers f) (flat_map font_dict_numbers fs) (dict_kept place f a.0 a.1.0) (dicts_kept (place + length (private_bytes f)) fs x a.1.1)

pieces_kept : (texts : List (List ℕ)) (t : TableParts) (glyphs size : ℕ) (x : Unit {0}) → pieces_limits texts t glyphs size ≡ Ok x → any_long (flat_map font_dict_numbers (new_dicts t)) ≡ false
unfolding pieces_limits
pieces_kept texts t glyphs size x e =
    let place = size + length (charset_bytes glyphs) in
    let a = bind_ok (limit (is_offset place)) _ x e in
    let b = bind_ok (dicts_limits place (new_dicts t)) _ x a.1.1 in
    dicts_kept place (new_dicts t) b.0 b.1.0

places_kept : (size charset private select dicts : ℕ) (x : Unit {0}) → offset_limits size charset private select dicts ≡ Ok x → size + charset + private + select + dicts < 2 ^ 31
unfolding offset_limits
places_kept size charset private select dicts x e =
    let a = bind_ok (limit (is_offset (size + charset))) _ x e in
    let b = bind_ok (limit (is_offset (size + charset + private))) _ x a.1.1 in
    let c = bind_ok (limit (is_offset (size + charset + private + select))) _ x b.1.1 in
    ltb-true (size + charset + private + select + dicts) (2 ^ 31) (is_kept (is_offset (size + charset + private + select + dicts)) x c.1.1)

-- where the charstrings are
abbrev place_by : List (List ℕ) → TableParts → ℕ → ℕ → ℕ
place_by texts t glyphs size =
    size + length (charset_bytes glyphs) + length (privates (new_dicts t)) + length (select_bytes glyphs (select_of_table t.numbers))
    + length (index (font_dicts_from texts (size + length (charset_bytes glyphs)) (new_dicts t)))

laid_kept : (texts : List (List ℕ)) (t : TableParts) (glyphs size : ℕ) (x : Unit {0}) → laid_limits texts t glyphs size ≡ Ok x → (any_long (flat_map font_dict_numbers (new_dicts t)) ≡ false) × (place_by texts t glyphs size < 2 ^ 31)
unfolding laid_limits
laid_kept texts t glyphs size x e =
    let charset = length (charset_bytes glyphs) in
    let private = length (privates (new_dicts t)) in
    let select = length (select_bytes glyphs (select_of_table t.numbers)) in
    let dicts = length (index (font_dicts_from texts (size + charset) (new_dicts t))) in
    let a = bind_ok (pieces_limits texts t glyphs size) _ x e in
    (pieces_kept texts t glyphs size a.0 a.1.0, places_kept size charset private select dicts x a.1.1)

front_is : (t : TableParts) (cs : List (List ℕ)) → front (parts_view t cs) nowhere ≡ front_by (strings (parts_view t cs)) t nowhere
unfolding front front_by index
front_is t cs = refl

place_is : (t : TableParts) (cs : List (List ℕ)) → char_strings_offset (parts_view t cs) ≡ place_by (strings (parts_view t cs)) t (length cs) (front_size (strings (parts_view t cs)) t)
unfolding front front_by font_dicts_of index
place_is t cs = refl

table_kept : (t : TableParts) (cs : List (List ℕ)) (x : Unit {0}) → t.char_strings.items ≡ concat cs → table_limits (strings (parts_view t cs)) t (length cs) ≡ Ok x → Kept (parts_view t cs)
unfolding table_limits
table_kept t cs x same e =
    let texts = strings (parts_view t cs) in
    let a = bind_ok (front_limits texts t) _ x e in
    let b = bind_ok (laid_limits texts t (length cs) (front_size texts t)) _ x a.1.1 in
    let top = front_kept texts t a.0 a.1.0 in
    let laid = laid_kept texts t (length cs) (front_size texts t) b.0 b.1.0 in
    let size = ltb-true (length t.char_strings.items + 1) (2 ^ 32) (is_kept (nat_lt (length t.char_strings.items + 1) (2 ^ 32)) x b.1.1) in
    record {
      short_numbers = both_short (top_by texts t).matrix ((top_by texts t).box ++ flat_map font_dict_numbers (new_dicts t)) top.0 (both_short (top_by texts t).box (flat_map font_dict_numbers (new_dicts t)) top.1 laid.0);
      size = omega (arith, size, ap length same);
      offset = omega (arith, laid.1, place_is t cs);
    }

-- ---- what is kept passes the checks
holds : (b : Bool) → b ≡ true → limit b ≡ Ok tt
holds b e = rw e refl

goes_on : (r s : Result (Unit {0}) Error) → r ≡ Ok tt → s ≡ Ok tt → (r >>= λ first. s) ≡ Ok tt
goes_on r s a b = rw a b

short_holds : (xs : List Number) → any_long xs ≡ false → limit (short xs) ≡ Ok tt
short_holds xs e = rw e refl

offset_holds : (n : ℕ) → n < 2 ^ 31 → limit (is_offset n) ≡ Ok tt
offset_holds n lt = rw (lt-ltb n (2 ^ 31) lt) refl

index_there : (items : List (List ℕ)) → length items < 65536 → length (index items) < 2 ^ 31 → limit (has_index items) ≡ Ok tt
index_there items few small =
    rw (lt-ltb (length items) 65536 few, lt-ltb (length (concat items) + 1) (2 ^ 32) (omega (arith, index_holds items))) refl

named_in_top : (p : Parts) (o : Offsets) → length (named_bytes (top_of p)) + 33 ≤ length (index (dict (top_entries p o) ∷ []))
named_in_top p o =
    omega (arith, ap length (top_split (top_of p) o), length-append (named_bytes (top_of p)) (dict (placed_entries o)), length-placed o, index_holds (dict (top_entries p o) ∷ []), length-append (dict (top_entries p o)) [])

front_passes : (t : TableParts) (cs : List (List ℕ)) → length t.font_dicts.items ≤ 256 → Kept (parts_view t cs) → front_limits (strings (parts_view t cs)) t ≡ Ok tt
unfolding front_limits numbers_limits
front_passes t cs few k =
    let p = parts_view t cs in
    let following = short_back p.matrix _ k.short_numbers in
    let room = in_front p nowhere in
    let whole : front_size (strings p) t < 2 ^ 31 = omega (arith, k.offset, place_is t cs) in
    let same : length (front p nowhere) ≡ front_size (strings p) t = ap length (front_is t cs) in
    goes_on _ _ (goes_on _ _ (short_holds p.matrix (short_front p.matrix _ k.short_numbers)) (short_holds p.box (short_front p.box _ following)))
    (goes_on _ _ (offset_holds (length (named_bytes (top_of p)) + 33) (omega (arith, named_in_top p nowhere, room, same, whole)))
    (goes_on _ _ (index_there (strings p) (omega (arith, few_strings p, few, length-map t.font_dicts.items font_dict_view)) (omega (arith, room, same, whole)))
    (offset_holds (front_size (strings p) t) whole)))

dict_passes : (place : ℕ) (f : FontDict) → any_long (font_dict_numbers f) ≡ false → place + length (private_bytes f) < 2 ^ 31 → dict_limits place f ≡ Ok tt
unfolding dict_limits
dict_passes place f e lt =
    goes_on _ _ (short_holds (entry_numbers f.private) (short_back f.matrix (entry_numbers f.private) e)) (goes_on _ _ (offset_holds (place + length (private_bytes f)) lt) (short_holds f.matrix (short_front f.matrix (entry_numbers f.private) e)))

dicts_pass : (place : ℕ) (fs : List FontDict) → any_long (flat_map font_dict_numbers fs) ≡ false → place + length (privates fs) < 2 ^ 31 → dicts_limits place fs ≡ Ok tt
dicts_pass place [] e lt = refl
dicts_pass place (f ∷ fs) e lt =
    let size = length-append (private_bytes f) (privates fs) in
    goes_on _ _ (dict_passes place f (short_front (font_dict_numbers f) (flat_map font_dict_numbers fs) e) (omega (arith, lt, size)))
    (dicts_pass (place + length (private_bytes f)) fs (short_back (font_dict_numbers f) (flat_map font_dict_numbers fs) e) (omega (arith, lt, size)))

pieces_pass : (texts : List (List ℕ)) (t : TableParts) (glyphs size : ℕ) → length t.font_dicts.items ≤ 256 → any_long (flat_map font_dict_numbers (new_dicts t)) ≡ false → place_by texts t glyphs size < 2 ^ 31 → pieces_limits texts t glyphs size ≡ Ok tt
unfolding pieces_limits
pieces_pass texts t glyphs size few e lt =
    let place = size + length (charset_bytes glyphs) in
    let items = font_dicts_from texts place (new_dicts t) in
    goes_on _ _ (offset_holds place (omega (arith, lt))) (goes_on _ _ (dicts_pass place (new_dicts t) e (omega (arith, lt)))
    (index_there items (omega (arith, length-font_dicts_from texts place (new_dicts t), length-map t.font_dicts.items font_dict_view, few)) (omega (arith, lt))))

places_pass : (size charset private select dicts : ℕ) → size + charset + private + select + dicts < 2 ^ 31 → offset_limits size charset private select dicts ≡ Ok tt
unfolding offset_limits
places_pass size charset private select dicts lt =
    goes_on _ _ (offset_holds (size + charset) (omega arith)) (goes_on _ _ (offset_holds (size + charset + private) (omega arith))
    (goes_on _ _ (offset_holds (size + charset + private + select) (omega arith)) (offset_holds (size + charset + private + select + dicts) lt)))

laid_passes : (t : TableParts) (cs : List (List ℕ)) → length t.font_dicts.items ≤ 256 → Kept (parts_view t cs) → laid_limits (strings (parts_view t cs)) t (length cs) (front_size (strings (parts_view t cs)) t) ≡ Ok tt
unfolding laid_limits
laid_passes t cs few k =
    let p = parts_view t cs in
    let texts = strings p in
    let dicts = short_back p.box (flat_map font_dict_numbers p.font_dicts) (short_back p.matrix _ k.short_numbers) in
    let place : place_by texts t (length cs) (front_size texts t) < 2 ^ 31 = omega (arith, k.offset, place_is t cs) in
    goes_on _ _ (pieces_pass texts t (length cs) (front_size texts t) few dicts place) (places_pass (front_size texts t) _ _ _ _ place)

table_passes : (t : TableParts) (cs : List (List ℕ)) → t.char_strings.items ≡ concat cs → length t.font_dicts.items ≤ 256 → Kept (parts_view t cs) → table_limits (strings (parts_view t cs)) t (length cs) ≡ Ok tt
unfolding table_limits
table_passes t cs same few k =
    let size : length t.char_strings.items + 1 < 2 ^ 32 = omega (arith, k.size, ap length same) in
    goes_on _ _ (front_passes t cs few k) (goes_on _ _ (laid_passes t cs few k) (holds (nat_lt (length t.char_strings.items + 1) (2 ^ 32)) (lt-ltb (length t.char_strings.items + 1) (2 ^ 32) size)))

-- ---- both
not_both : {A B : Type 0} (x : A) (r : Result A Error) → r ≡ Ok x → r ≡ Err OverflowError → B
not_both x r a b = absurd (let e : ◌≡◌ {A = Result _ Error} (Ok x) (Err OverflowError) = sym a ∙ b in cc)

limits_agree : (t : TableParts) (cs : List (List ℕ)) → t.char_strings.items ≡ concat cs → length t.font_dicts.items < 256 → limited (parts_view t cs) ≡ (table_limits (strings (parts_view t cs)) t (length cs) >>= λ kept. Ok (parts_view t cs))
limits_agree t cs same few =
    let p = parts_view t cs in
    let r = table_limits (strings p) t (length cs) in
    elim (table_either (strings p) t (length cs)) [
      | inl kept ↦ limits_hold p (table_kept t cs tt same kept) ∙ sym (ap (λ (q : Result (Unit {0}) Error). q >>= λ k. Ok p) kept)
      | inr broken ↦ elim (limited_either p) [
        | inl is ↦ not_both tt r (table_passes t cs same (omega (arith, few)) (kept_of p p is)) broken
        | inr isnt ↦ isnt ∙ sym (ap (λ (q : Result (Unit {0}) Error). q >>= λ k. Ok p) broken)
      ]
    ]

same_strings : (t : TableParts) (cs : List (List ℕ)) → strings (parts_view t []) ≡ strings (parts_view t cs)
unfolding strings
same_strings t cs = refl

-- what is checked while a table is written is what its parts are limited by
pub limits_are : (t : TableParts) (cs : List (List ℕ)) → HasCharStrings t cs → length t.font_dicts.items < 256
    → limited (parts_view t cs) ≡ (table_limits (strings (parts_view t [])) t (length t.ends.items) >>= λ kept. Ok (parts_view t cs))
limits_are t cs h few =
    limits_agree t cs h.text few
    ∙ sym (ap (λ (ss : List (List ℕ)). table_limits ss t (length t.ends.items) >>= λ kept. Ok (parts_view t cs)) (same_strings t cs)
    ∙ ap (λ (n : ℕ). table_limits (strings (parts_view t cs)) t n >>= λ kept. Ok (parts_view t cs)) (ap length h.ends ∙ length-ends 1 cs))
