-- The steps of a subset in memory are those of the plain way.
use Rattle.std.proofs.Common.{◌≡◌, ℕ, suc, ◌<◌, ◌≤◌, List, [], ◌∷◌, ◌++◌, length, Option, refl, ap, arith, ◌∙◌, sym, subst, ◌⊎◌, inl, inr, length-append}
use Rattle.std.proofs.lemmas.List.{length-map}
use Rattle.std.specs.Prelude.{slice_index, Result, Ok, Err, IfOk}
use Rattle.std.specs.List.{AllByRecursion, concat}
use Rattle.subsetter_base.specs.Bytes.{◌>>=◌}
use Rattle.subsetter_base.specs.Gives.{Fails, Gives}
use Rattle.subsetter_base.specs.Within.{FailsWithin, GivesWithin}
use Rattle.subsetter_base.specs.declared.error.Error.{Error}
use Rattle.subsetter_base.specs.declared.error.Error.TheVariants.{OutOfMemory, OverflowError}
use Rattle.subsetter_cffdata.specs.Indexes.Index.{index, offsets}
use Rattle.subsetter_cff.specs.declared.write.glyphs.kept_glyphs.KeptGlyphs.{KeptGlyphs}
use Rattle.subsetter_cff.specs.declared.write.laying.table.TableParts.{TableParts}
use Rattle.subsetter_cff.specs.declared.write.laying.writing.CffPieces.{CffPieces}
use Rattle.subsetter_cff.specs.Read.Cff.{Cff}
use Rattle.subsetter_cff.specs.Write.Glyphs.KeptView.{numbers_of, texts_of, texts_size, AreAllKept}
use Rattle.subsetter_cff.specs.Write.Laying.Layout.{Parts, strings, front, table_offsets, charset_of, privates, select_of, font_dicts_of, cff_table}
use Rattle.subsetter_cff.specs.Write.Laying.PartsBy.{parts_by}
use Rattle.subsetter_cff.specs.Write.Laying.PartsView.{font_dict_view, parts_view, HasCharStrings}
use Rattle.subsetter_cff.specs.Read.Opened.{opened}
use Rattle.subsetter_cff.specs.Write.Plain.{KeptGlyph, kept_glyphs, counted_parts, limited, parts_of, cff_subset}
use Rattle.subsetter_cff.specs.Write.NewDicts.PrivatesBound.{ArePast}
use Rattle.subsetter_cff.specs.Write.Laying.TableBy.{new_dicts, table_by, table_bytes}
use Rattle.subsetter_cff.specs.Write.Laying.TableLimits.{table_limits}
use Rattle.subsetter_cff.proofs.ReadLaws.Failing.{fails_on}
use Rattle.subsetter_cff.proofs.ReadLaws.Results.{bind_ok, same_Ok}
use Rattle.subsetter_cff.proofs.WriteLaws.GlyphsLaws.FlatIndexes.{length-ends}
use Rattle.subsetter_cff.proofs.WriteLaws.GlyphsLaws.KeptSteps.{length-kept}
use Rattle.subsetter_cff.proofs.WriteLaws.LayingLaws.LimitsKept.{limits_are}
use Rattle.subsetter_cff.proofs.WriteLaws.LayingLaws.MadeOf.{parts_steps, answer_steps}
use Rattle.subsetter_cff.proofs.WriteLaws.LayingLaws.Sizes.{index_holds}
use Rattle.subsetter_cff.proofs.WriteLaws.LayingLaws.PartsMade.{parts_for_is, parts_filled, few_dicts}
use Rattle.subsetter_cff.proofs.WriteLaws.LayingLaws.TablesWritten.{table_is_laid_out}

-- ---- numbers are bytes
all_small : (kept : List KeptGlyph) → ((i : ℕ) → slice_index (numbers_of kept) i < 256) → AllByRecursion (λ (k : KeptGlyph). k.number < 256) kept
all_small [] h = tt
all_small (k ∷ kept) h = (h 0, all_small kept (λ i. h (suc i)))

-- ---- what goes on from the parts
abbrev from_parts : Parts → Result (List ℕ) Error
from_parts p = limited p >>= λ q. Ok (cff_table q)

abbrev with_texts : List (List ℕ) → Parts → Parts
with_texts texts p = record p { char_strings = texts }

grouped : {A B C : Type 0} (r : Result A Error) (f : A → Result B Error) (g : B → Result C Error) → ((r >>= f) >>= g) ≡ (r >>= λ x. f x >>= g)
grouped (Ok x) f g = refl
grouped (Err e) f g = refl

-- charstrings, one after the other
pub record HasTexts (texts : List (List ℕ)) (k : KeptGlyphs) : Type 0 where
  pub text : k.char_strings.items ≡ concat texts
  pub ends : k.ends.items ≡ offsets 1 texts

-- where a source was opened and its glyphs are kept
pub record Steps (bytes : List ℕ) (tokens depth : ℕ) (glyphs : List ℕ) (numbers : List ℕ) (k : KeptGlyphs) (cff : Cff) : Type 0 where
  pub texts : List (List ℕ)
  pub shown : HasTexts texts k
  pub whole : cff_subset bytes tokens depth glyphs ≡ (parts_by cff numbers [] >>= λ p. from_parts (with_texts texts p))

after_opening : (bytes : List ℕ) (cff : Cff) (tokens depth : ℕ) (glyphs : List ℕ) → opened bytes ≡ Ok cff → cff_subset bytes tokens depth glyphs ≡ (parts_of cff tokens depth glyphs >>= λ p. Ok (cff_table p))
unfolding cff_subset
after_opening bytes cff tokens depth glyphs e = rw e refl

after_keeping : (cff : Cff) (tokens depth : ℕ) (glyphs : List ℕ) (kept : List KeptGlyph) → kept_glyphs cff tokens depth glyphs ≡ Ok kept → parts_of cff tokens depth glyphs ≡ (counted_parts cff kept >>= limited)
unfolding parts_of
after_keeping cff tokens depth glyphs kept e = rw e refl

pub steps_are : (bytes : List ℕ) (cff : Cff) (tokens depth : ℕ) (glyphs : List ℕ) (k : KeptGlyphs) → opened bytes ≡ Ok cff → AreAllKept cff tokens depth glyphs k → ((i : ℕ) → slice_index k.numbers.items i < 256)
    → Steps bytes tokens depth glyphs k.numbers.items k cff
steps_are bytes cff tokens depth glyphs k e all small =
    let texts = texts_of all.kept in
    let numbers = all.shown.numbers in
    let bytes_small : (i : ℕ) → slice_index (numbers_of all.kept) i < 256 = λ i. (let same : slice_index k.numbers.items i ≡ slice_index (numbers_of all.kept) i = ap (λ (l : List ℕ). slice_index l i) numbers in omega (arith, same, small i)) in
    record {
      texts = texts;
      shown = record { text = all.shown.char_strings; ends = all.shown.ends };
      whole =
          after_opening bytes cff tokens depth glyphs e
          ∙ ap (λ (r : Result Parts Error). r >>= λ p. Ok (cff_table p)) (after_keeping cff tokens depth glyphs all.kept all.are
          ∙ ap (λ (r : Result Parts Error). r >>= limited) (parts_for_is cff all.kept (all_small all.kept bytes_small) ∙ ap (λ (l : List ℕ). parts_by cff l texts) (sym numbers) ∙ parts_filled cff k.numbers.items texts))
          ∙ ap (λ (r : Result Parts Error). r >>= λ p. Ok (cff_table p)) (grouped (parts_by cff k.numbers.items []) (λ p. Ok (with_texts texts p)) limited)
          ∙ grouped (parts_by cff k.numbers.items []) (λ p. limited (with_texts texts p)) (λ p. Ok (cff_table p));
    }

-- ---- each exit
pub opening_fails : (bytes : List ℕ) (tokens depth : ℕ) (glyphs : List ℕ) (e : Error) → Fails e (opened bytes) → Fails e (cff_subset bytes tokens depth glyphs)
unfolding cff_subset
opening_fails bytes tokens depth glyphs e h = fails_on (opened bytes) (λ cff. parts_of cff tokens depth glyphs >>= λ p. Ok (cff_table p)) _ e refl h

keeping_refused : (cff : Cff) (tokens depth : ℕ) (glyphs : List ℕ) (e : Error) → Fails e (kept_glyphs cff tokens depth glyphs) → Fails e (parts_of cff tokens depth glyphs)
unfolding parts_of
keeping_refused cff tokens depth glyphs e h = fails_on (kept_glyphs cff tokens depth glyphs) (λ kept. counted_parts cff kept >>= limited) _ e refl h

pub keeping_fails : (bytes : List ℕ) (cff : Cff) (tokens depth : ℕ) (glyphs : List ℕ) (e : Error) → opened bytes ≡ Ok cff → Fails e (kept_glyphs cff tokens depth glyphs) → Fails e (cff_subset bytes tokens depth glyphs)
keeping_fails bytes cff tokens depth glyphs e o h =
    fails_on (parts_of cff tokens depth glyphs) (λ p. Ok (cff_table p)) _ e (sym (after_opening bytes cff tokens depth glyphs o)) (keeping_refused cff tokens depth glyphs e h)

pub parts_fail : (bytes : List ℕ) (cff : Cff) (tokens depth : ℕ) (glyphs numbers : List ℕ) (k : KeptGlyphs) (e : Error) → Steps bytes tokens depth glyphs numbers k cff → Fails e (parts_by cff numbers [])
    → Fails e (cff_subset bytes tokens depth glyphs)
parts_fail bytes cff tokens depth glyphs numbers k e s h = fails_on (parts_by cff numbers []) (λ p. from_parts (with_texts s.texts p)) (cff_subset bytes tokens depth glyphs) e (sym s.whole) h

-- of a new table
pub few_in_table : (cff : Cff) (numbers : List ℕ) (t : TableParts) → parts_by cff numbers [] ≡ Ok (parts_view t []) → length t.font_dicts.items < 256
few_in_table cff numbers t e = omega (arith, few_dicts cff numbers (parts_view t []) e, length-map t.font_dicts.items font_dict_view)

pub record Made (whole : Result (List ℕ) Error) (t : TableParts) : Type 0 where
  pub texts : List (List ℕ)
  pub has : HasCharStrings t texts
  pub whole_is : whole ≡ from_parts (parts_view t texts)
  pub few : length t.font_dicts.items < 256

pub made_is : (bytes : List ℕ) (cff : Cff) (tokens depth : ℕ) (glyphs numbers : List ℕ) (k : KeptGlyphs) (t : TableParts) → Steps bytes tokens depth glyphs numbers k cff → parts_by cff numbers [] ≡ Ok (parts_view t [])
    → t.char_strings ≡ k.char_strings → t.ends ≡ k.ends → Made (cff_subset bytes tokens depth glyphs) t
made_is bytes cff tokens depth glyphs numbers k t s e a b = record {
  texts = s.texts;
  has = record { text = ap (λ v. v.items) a ∙ s.shown.text; ends = ap (λ v. v.items) b ∙ s.shown.ends };
  whole_is = s.whole ∙ ap (λ (r : Result Parts Error). r >>= λ p. from_parts (with_texts s.texts p)) e;
  few = few_in_table cff numbers t e;
}

checked_first : (whole : Result (List ℕ) Error) (t : TableParts) (m : Made whole t)
    → (table_limits (strings (parts_view t [])) t (length t.ends.items) >>= λ kept. Ok (cff_table (parts_view t m.texts))) ≡ whole
checked_first whole t m =
    sym (m.whole_is ∙ ap (λ (r : Result Parts Error). r >>= λ q. Ok (cff_table q)) (limits_are t m.texts m.has m.few)
    ∙ grouped (table_limits (strings (parts_view t [])) t (length t.ends.items)) (λ kept. Ok (parts_view t m.texts)) (λ q. Ok (cff_table q)))

written_with : (whole : Result (List ℕ) Error) (t : TableParts) (r : Result CffPieces Error) → Made whole t → IfOk r (λ x. table_bytes x ≡ table_by t)
    → Gives (λ (x : CffPieces). tt) r (table_limits (strings (parts_view t [])) t (length t.ends.items)) → Gives table_bytes r whole
written_with whole t (Ok x) m is checked =
    sym (checked_first whole t m) ∙ ap (λ (q : Result (Unit {0}) Error). q >>= λ kept. Ok (cff_table (parts_view t m.texts))) checked
    ∙ ap (λ (l : List ℕ). Ok l) (sym (table_is_laid_out t m.texts m.has) ∙ sym is)
written_with whole t (Err e) m is checked =
    fails_on (table_limits (strings (parts_view t [])) t (length t.ends.items)) (λ kept. Ok (cff_table (parts_view t m.texts))) whole e (checked_first whole t m) checked

pub written_is : (whole : Result (List ℕ) Error) (t : TableParts) (r : Result CffPieces Error) (glyphs : ℕ) → Made whole t → glyphs ≡ length t.ends.items → IfOk r (λ x. table_bytes x ≡ table_by t)
    → Gives (λ (x : CffPieces). tt) r (table_limits (strings (parts_view t [])) t glyphs) → Gives table_bytes r whole
written_is whole t r glyphs m count is checked =
    written_with whole t r m is (subst (λ (n : ℕ). Gives (λ (x : CffPieces). tt) r (table_limits (strings (parts_view t [])) t n)) count checked)

-- as many ends as glyphs
pub count_is : (cff : Cff) (tokens depth : ℕ) (glyphs : List ℕ) (k : KeptGlyphs) (t : TableParts) → AreAllKept cff tokens depth glyphs k → t.ends ≡ k.ends → length t.ends.items ≡ length glyphs
count_is cff tokens depth glyphs k t all e =
    ap (λ v. length v.items) e ∙ ap length all.shown.ends ∙ length-ends 1 (texts_of all.kept) ∙ length-map all.kept (λ (g : KeptGlyph). g.bytes) ∙ length-kept cff tokens depth glyphs all.kept all.are

-- ---- where a bound is passed

-- the charstrings are in the table
texts_in_table : (p : Parts) → length (concat p.char_strings) ≤ length (cff_table p)
unfolding cff_table
texts_in_table p =
    let own = index p.char_strings in
    let dicts = font_dicts_of p in
    let select = select_of p in
    let private = privates p.font_dicts in
    let charset = charset_of p in
    omega (arith, index_holds p.char_strings, length-append dicts own, length-append select (dicts ++ own), length-append private (select ++ (dicts ++ own)), length-append charset (private ++ (select ++ (dicts ++ own))), length-append (front p (table_offsets p)) (charset ++ (private ++ (select ++ (dicts ++ own)))))

-- what is answered has the charstrings of its glyphs
kept_in_table : (bytes : List ℕ) (cff : Cff) (tokens depth : ℕ) (glyphs new : List ℕ) → opened bytes ≡ Ok cff → cff_subset bytes tokens depth glyphs ≡ Ok new → (kept : List KeptGlyph) × (kept_glyphs cff tokens depth glyphs ≡ Ok kept) × (texts_size kept ≤ length new)
kept_in_table bytes cff tokens depth glyphs new o h =
    let a = bind_ok (parts_of cff tokens depth glyphs) (λ p. Ok (cff_table p)) new (sym (after_opening bytes cff tokens depth glyphs o) ∙ h) in
    let answer = answer_steps cff tokens depth glyphs a.0 a.1.0 in
    let s = parts_steps cff answer.kept a.0 answer.made in
    (answer.kept, answer.kept_are, omega (arith, texts_in_table a.0, ap (λ (p : Parts). length (concat p.char_strings)) s.parts_are, ap length (same_Ok (cff_table a.0) new a.1.1)))

-- so what passes a bound with its charstrings passes it
pub keeping_fails_within : (bound : Option ℕ) (bytes : List ℕ) (cff : Cff) (tokens depth : ℕ) (glyphs : List ℕ) (e : Error) → opened bytes ≡ Ok cff → FailsWithin bound texts_size e (kept_glyphs cff tokens depth glyphs) → FailsWithin bound length e (cff_subset bytes tokens depth glyphs)
keeping_fails_within bound bytes cff tokens depth glyphs e o h = elim h [
  | inl f ↦ inl (keeping_fails bytes cff tokens depth glyphs e o f)
  | inr p ↦ inr (
    p.0,
    record {
      most = p.1.most;
      is_set = p.1.is_set;
      longer = λ new is. let k = kept_in_table bytes cff tokens depth glyphs new o is in omega (arith, p.1.longer k.0 k.1, k.2);
    },
  )
]

-- the private dicts are in the table
privates_in_table : (p : Parts) → length (privates p.font_dicts) ≤ length (cff_table p)
unfolding cff_table
privates_in_table p =
    let own = index p.char_strings in
    let dicts = font_dicts_of p in
    let select = select_of p in
    let private = privates p.font_dicts in
    let charset = charset_of p in
    omega (arith, length-append private (select ++ (dicts ++ own)), length-append charset (private ++ (select ++ (dicts ++ own))), length-append (front p (table_offsets p)) (charset ++ (private ++ (select ++ (dicts ++ own)))))

privates_in_whole : (whole : Result (List ℕ) Error) (t : TableParts) (new : List ℕ) (m : Made whole t) → whole ≡ Ok new → length (privates (new_dicts t)) ≤ length new
privates_in_whole whole t new m is =
    let a = bind_ok (table_limits (strings (parts_view t [])) t (length t.ends.items)) (λ kept. Ok (cff_table (parts_view t m.texts))) new (checked_first whole t m ∙ is) in
    omega (arith, privates_in_table (parts_view t m.texts), ap length (same_Ok (cff_table (parts_view t m.texts)) new a.1.1))

-- so what passes a bound with its private dicts passes it
pub privates_fail_within : (bound : Option ℕ) (whole : Result (List ℕ) Error) (t : TableParts) (e : Error) → Made whole t → (e ≡ OutOfMemory) ⊎ ((e ≡ OverflowError) × ArePast bound (new_dicts t)) → FailsWithin bound length e whole
privates_fail_within bound whole t e m h = elim h [
  | inl f ↦ inl (rw f tt)
  | inr p ↦ inr (
    p.0,
    record {
      most = p.1.most;
      is_set = p.1.is_set;
      longer = λ new is. omega (arith, p.1.longer, privates_in_whole whole t new m is);
    },
  )
]

-- what gives it without a bound gives it within one
pub given_within : {X : Type 0} (view : X → List ℕ) (bound : Option ℕ) (r : Result X Error) (read : Result (List ℕ) Error) → Gives view r read → GivesWithin view bound length r read
given_within view bound (Ok x) read h = h
given_within view bound (Err e) read h = inl h
