-- A subset of a subset, read afresh.
use Rattle.std.proofs.Common.{◌≡◌, ℕ, zero, suc, ◌<◌, List, [], ◌∷◌, map, length, Option, Some, None, refl, ap, arith, ◌∙◌, sym, subst}
use Rattle.std.specs.Prelude.{slice_get, slice_index, unwrap_or}
use Rattle.std.specs.List.{AllByRecursion}
use Rattle.std.proofs.lemmas.Option.{none-some, same_Some, slice_get_within}
use Rattle.std.proofs.lemmas.List.{length-map}
use Rattle.subsetter_base.specs.Options.{◌>>=◌}
use Rattle.subsetter_cffdata.specs.Reals.Decimals.{Decimal}
use Rattle.subsetter_cffdata.specs.Numerals.Numbers.{Number}
use Rattle.subsetter_cffdata.specs.Numerals.Values.{value}
use Rattle.subsetter_type2.specs.Flat.{flat}
use Rattle.subsetter_type2.specs.Runs.Machine.{Trace}
use Rattle.subsetter_type2.specs.Subroutines.{entry_at}
use Rattle.subsetter_cff.specs.Read.Entries.Lookup.{last_of}
use Rattle.subsetter_cff.specs.Read.Entries.Operators.{font_matrix_operator}
use Rattle.subsetter_cff.specs.Read.Cff.{Cff, char_string, char_strings}
use Rattle.subsetter_cff.specs.Read.Entries.Matrices.{matrix_pair, own_matrix, matrices, stated_matrices, zero_box}
use Rattle.subsetter_cff.specs.Read.GlyphTrace.{glyph_trace}
use Rattle.subsetter_cff.specs.Write.Subset.{Keeps, KeepsGlyph, IsCffSubset}
use Rattle.subsetter_cff.specs.Write.Again.{composed, AreGlyphs, IsComposed, KeepsAllCharStrings}
use Rattle.subsetter_cffdata.proofs.Options.{step}

abbrev keeps_on : {A : Type 0} (a b c : Option A) → Keeps a b → Keeps b c → Keeps a c
keeps_on a b c k l = record { what = l.what; source_is = k.source_is ∙ sym k.copy_is ∙ l.source_is; copy_is = l.copy_is }

-- matrices that are in a table are those that its glyph has
both_stated : (top : List Number) (own : Option (List Number)) (m : List Decimal × List Decimal) → (own >>= λ o. Some (map value top, map value o)) ≡ Some m → matrix_pair (Some top) own ≡ m
both_stated top None m e = absurd (none-some m e)
both_stated top (Some o) m e = same_Some _ _ e

matrices_are : (cff : Cff) (glyph : ℕ) (top : List Number) (own : Option (List Number)) (m : List Decimal × List Decimal) → last_of font_matrix_operator cff.top ≡ Some top → own_matrix cff glyph ≡ Some own
    → (own >>= λ o. Some (map value top, map value o)) ≡ Some m → matrices cff glyph ≡ Some m
unfolding matrices
matrices_are cff glyph top own m there own_there e = rw (there, own_there) (ap Some (both_stated top own m e))

matrices_stated : (cff : Cff) (glyph : ℕ) (m : List Decimal × List Decimal) → stated_matrices cff glyph ≡ Some m → matrices cff glyph ≡ Some m
unfolding stated_matrices
matrices_stated cff glyph m e =
    let s = step (last_of font_matrix_operator cff.top) _ m e in
    let t = step (own_matrix cff glyph) _ m s.1.1 in
    matrices_are cff glyph s.0 t.0 m s.1.0 t.1.0 t.1.1

stated_on : {source out : Option (List Decimal × List Decimal)} (copy : Cff) (middle : ℕ) → Keeps source (stated_matrices copy middle) → Keeps (matrices copy middle) out → Keeps source out
stated_on copy middle k l = record { what = l.what; source_is = k.source_is ∙ sym (matrices_stated copy middle k.what k.copy_is) ∙ l.source_is; copy_is = l.copy_is }

glyph_on : (font copy again : Cff) (tokens depth old middle new : ℕ) → KeepsGlyph font copy tokens depth old middle → KeepsGlyph copy again tokens depth middle new → KeepsGlyph font again tokens depth old new
glyph_on font copy again tokens depth old middle new a b = record {
  drawing = keeps_on _ _ _ a.drawing b.drawing;
  flat_bytes = b.flat_bytes;
  cid = b.cid;
  private = keeps_on _ _ _ a.private b.private;
  private_dict = b.private_dict;
  private_dict_is = b.private_dict_is;
  no_subroutines = b.no_subroutines;
  matrices_kept = stated_on copy middle a.matrices_kept b.matrices_kept;
  font_dict_name_kept = keeps_on _ _ _ a.font_dict_name_kept b.font_dict_name_kept;
}

-- ---- the members of the second list are glyphs of the first subset
entry_inside : (xs : List (Option (List ℕ))) (g : ℕ) (x : List ℕ) → entry_at xs g ≡ Some x → g < length xs
entry_inside xs g x e = let s = step (slice_get xs g) _ x e in slice_get_within xs g s.0 s.1.0

traced_inside : (cff : Cff) (tokens depth g : ℕ) (u : Trace) (xs : List (Option (List ℕ))) → glyph_trace cff tokens depth g ≡ Some u → char_strings cff ≡ Some xs → g < length xs
unfolding glyph_trace
traced_inside cff tokens depth g u xs e are =
    let s = step (char_string cff g) _ u e in
    entry_inside xs g s.0 (sym (rw are refl) ∙ s.1.0)

each_inside : (n : ℕ) (gs : List ℕ) → ((i : ℕ) → i < length gs → slice_index gs i < n) → AllByRecursion (λ g. g < n) gs
each_inside n [] h = tt
each_inside n (g ∷ gs) h = (h 0 (omega arith), each_inside n gs (λ i lt. h (suc i) (omega (arith, lt))))

pub index-map : (f : ℕ → ℕ) (xs : List ℕ) (i : ℕ) → i < length xs → slice_index (map f xs) i ≡ f (slice_index xs i)
index-map f [] i lt = absurd (omega arith)
index-map f (x ∷ xs) zero lt = refl
index-map f (x ∷ xs) (suc i) lt = index-map f xs i (omega arith)

module _ (font copy again : Cff) (tokens depth : ℕ) (first second : List ℕ) (a : IsCffSubset font tokens depth first copy) (b : IsCffSubset copy tokens depth second again) where
  inside : (i : ℕ) → i < length second → slice_index second i < length first
  inside i lt = omega (arith, a.count, traced_inside copy tokens depth (slice_index second i) (b.kept i lt).drawing.what a.charstrings (b.kept i lt).drawing.source_is a.charstrings_are)

  glyph : (i : ℕ) → i < length (composed first second) → KeepsGlyph font again tokens depth (slice_index (composed first second) i) i
  glyph i lt =
      let lt' : i < length second = omega (arith, lt, length-map second (slice_index first)) in
      subst (λ g. KeepsGlyph font again tokens depth g i) (sym (index-map (slice_index first) second i lt'))
      (glyph_on font copy again tokens depth (slice_index first (slice_index second i)) (slice_index second i) i (a.kept (slice_index second i) (inside i lt')) (b.kept i lt'))

  pub both : AreGlyphs first second × IsCffSubset font tokens depth (composed first second) again
  both = (
    each_inside (length first) second inside,
    record {
      charstrings = b.charstrings;
      charstrings_are = b.charstrings_are;
      count = b.count ∙ sym (length-map second (slice_index first));
      kept = glyph;
      keyed = b.keyed;
      no_subroutines = b.no_subroutines;
      names = b.names ∙ a.names;
      copyright = keeps_on _ _ _ a.copyright b.copyright;
      notice = keeps_on _ _ _ a.notice b.notice;
      font_name = keeps_on _ _ _ a.font_name b.font_name;
      box = b.box ∙ ap (λ o. Some (unwrap_or o zero_box)) a.box;
    },
  )

pub is_composed : IsComposed
is_composed font copy again tokens depth first second a b = both font copy again tokens depth first second a b

-- ---- all glyphs in order
there : (xs : List (Option (List ℕ))) (i : ℕ) (x : List ℕ) → entry_at xs i ≡ Some x → slice_get xs i ≡ Some (Some x)
there xs i x e = let s = step (slice_get xs i) _ x e in s.1.0 ∙ ap Some s.1.1

pub same_lists : {A : Type 0} (xs ys : List A) → length xs ≡ length ys → ((i : ℕ) → i < length ys → slice_get xs i ≡ slice_get ys i) → xs ≡ ys
same_lists [] [] e h = refl
same_lists [] (y ∷ ys) e h = absurd (omega (arith, e))
same_lists (x ∷ xs) [] e h = absurd (omega (arith, e))
same_lists (x ∷ xs) (y ∷ ys) e h =
    let head : x ≡ y = same_Some _ _ (h 0 (omega arith)) in
    let tail : xs ≡ ys = same_lists xs ys (omega (arith, e)) (λ i lt. h (suc i) (omega (arith, lt))) in
    rw (head, tail) refl

bytes_there : (cff : Cff) (xs : List (Option (List ℕ))) (i : ℕ) (x : List ℕ) → char_strings cff ≡ Some xs → char_string cff i ≡ Some x → slice_get xs i ≡ Some (Some x)
bytes_there cff xs i x are e = there xs i x (sym (rw are refl) ∙ e)

pub keeps_char_strings : KeepsAllCharStrings
keeps_char_strings font copy again tokens depth first all a they b =
    b.charstrings_are ∙ ap Some (same_lists b.charstrings a.charstrings (b.count ∙ they.count ∙ sym a.count) (λ i lt.
    let lt' : i < length first = omega (arith, lt, a.count) in
    let k = a.kept i lt' in
    let l = subst (λ g. KeepsGlyph copy again tokens depth g i) (they.each i lt') (b.kept i (omega (arith, lt', they.count))) in
    let same : l.drawing.what ≡ k.drawing.what = same_Some _ _ (sym l.drawing.source_is ∙ k.drawing.copy_is) in
    bytes_there again b.charstrings i (flat k.drawing.what) b.charstrings_are (l.flat_bytes ∙ ap (λ u. Some (flat u)) same)
    ∙ sym (bytes_there copy a.charstrings i (flat k.drawing.what) a.charstrings_are k.flat_bytes))) ∙ sym a.charstrings_are
