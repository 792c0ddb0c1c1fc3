-- A new font whose `CFF ` has the advances as its widths, read afresh.
use Rattle.std.proofs.Common.{◌≡◌, ℕ, ◌+◌, ◌<◌, ◌≤◌, Bool, true, false, List, ◌++◌, length, take, drop, Option, Some, None, Result, Ok, Err, refl, sym, ap, subst, ◌∙◌, ◌⊎◌, inl, inr, arith, length-append}
use Rattle.std.specs.Prelude.{codes, unwrap_or, if◌then◌else◌}
use Rattle.std.specs.Int.{w32, to_be_bytes}
use Rattle.std.specs.Option.{option_and_then, option_map}
use Rattle.std.specs.Result.{result_ok}
use Rattle.std.specs.Str.{bytes_eq}
use Rattle.std.proofs.lemmas.List.{length-take}
use Rattle.std.proofs.lemmas.Option.{none-some, same_Some}
use Rattle.subsetter_base.specs.Bytes.{be, number}
use Rattle.subsetter_base.specs.declared.error.Error.{Error}
use Rattle.subsetter_base.specs.declared.error.Error.TheVariants.{OverflowError}
use Rattle.subsetter_base.proofs.ByteLemmas.{range-right}
use Rattle.subsetter_cffdata.proofs.Options.{step}
use Rattle.subsetter_sfnt.specs.Fields.Head.{units_per_em}
use Rattle.subsetter_sfnt.specs.Plain.{file_of}
use Rattle.subsetter_sfnt.specs.Read.{as_font, stored, table, table_in}
use Rattle.subsetter_sfnt.specs.Laying.Rows.{FontTables, bytes_of, present, rows, tags}
use Rattle.subsetter_sfnt.specs.Laying.Written.{Table, file as laid_out, fits, kind_word, start_of, with_adjustment}
use Rattle.subsetter_sfnt.specs.declared.flavor.FontFlavor.{FontFlavor}
use Rattle.subsetter_sfnt.specs.declared.flavor.FontFlavor.TheVariants.{Cff}
use Rattle.subsetter_sfnt.proofs.Laws.Back.{word_of}
use Rattle.subsetter_sfnt.specs.Container.{IsSoundContainer}
use Rattle.subsetter_sfnt.proofs.Laws.Container.{adjusted_again, sound}
use Rattle.subsetter_sfnt.proofs.Laws.LayingLaws.Laid.{head_row_back, row_back}
use Rattle.subsetter_sfnt.proofs.Laws.LayingLaws.Rows.{HasRoom, lookup_row, present_ascends, rows_ascend, rows_few, rows_tables, some_table}
use Rattle.cid_embed.specs.Afresh.{widths_of}
use Rattle.pdf_widths.specs.Tables.{with_widths}
use Rattle.pdf_source.specs.Widened.{tables_with, unadjusted, widened, widened_in}
use Rattle.pdf_source.proofs.Widening.{has_room, unadjusted_is}
use Rattle.pdf_font.proofs.Fresh.{Opens, new_opens}
use Rattle.pdf_font.proofs.KeptBoxes.{IsLaid, same_widths}

-- ---- laid out anew
pub record IsAnew (find : List ℕ → Option (List ℕ)) (advances new : List ℕ) : Type 0 where
  pub cff : List ℕ
  pub cff_is : find (codes "CFF ") ≡ Some cff
  pub wide : List ℕ
  pub wide_is : with_widths cff advances ≡ Some wide
  pub there : List ℕ
  pub there_is : find (codes "head") ≡ Some there
  pub head : List ℕ
  pub head_is : unadjusted there ≡ Some head
  pub fit : fits (start_of (present (rows (tables_with find head wide)))) (present (rows (tables_with find head wide))) ≡ true
  pub is : new ≡ laid_out (kind_word Cff) (present (rows (tables_with find head wide)))

file_made : (ts : List Table) (new : List ℕ) → result_ok (file_of (kind_word Cff) ts) ≡ Some new → (fits (start_of ts) ts ≡ true) × (new ≡ laid_out (kind_word Cff) ts)
unfolding file_of
file_made ts new e = by (fits (start_of ts) ts) refl e
  where
    by : (test : Bool) → fits (start_of ts) ts ≡ test → result_ok (if test then Ok (laid_out (kind_word Cff) ts) else Err OverflowError) ≡ Some new → (fits (start_of ts) ts ≡ true) × (new ≡ laid_out (kind_word Cff) ts)
    by true is h = (is, sym (same_Some _ _ h))
    by false is h = absurd (none-some new h)

anew : (find : List ℕ → Option (List ℕ)) (advances new : List ℕ) → widened_in find advances ≡ Some new → IsAnew find advances new
unfolding widened_in
anew find advances new e =
    let a = step (find (codes "CFF ")) _ new e in
    let b = step (with_widths a.0 advances) _ new a.1.1 in
    let c = step (find (codes "head")) _ new b.1.1 in
    let d = step (unadjusted c.0) _ new c.1.1 in
    let m = file_made (present (rows (tables_with find d.0 b.0))) new d.1.1 in
    record { cff = a.0; cff_is = a.1.0; wide = b.0; wide_is = b.1.0; there = c.0; there_is = c.1.0; head = d.0; head_is = d.1.0; fit = m.0; is = m.1 }

-- ---- unitsPerEm is after the adjustment
units_after : (w : ℕ) (h : List ℕ) → 12 ≤ length h → units_per_em (with_adjustment w h) ≡ number (drop 12 h) 6 2
units_after w h large =
    let front : List ℕ = take 8 h ++ to_be_bytes w32 w in
    let at : 18 ≡ length front + 6 = omega (arith, length-append (take 8 h) (to_be_bytes w32 w), length-take 8 h) in
    ap (λ (n : ℕ). number (front ++ drop 12 h) n 2) at ∙ ap (option_map be) (range-right front (drop 12 h) 6 2)

-- that of a head which was laid out, and of the same with another adjustment
same_units : (v w : ℕ) (first there head : List ℕ) → 12 ≤ length first → there ≡ with_adjustment v first → unadjusted there ≡ Some head → units_per_em (with_adjustment w head) ≡ units_per_em there
same_units v w first there head large is e =
    let u = unadjusted_is there head e in
    ap (λ (l : List ℕ). units_per_em (with_adjustment w l)) (sym u.1)
    ∙ ap units_per_em (adjusted_again w 0 there u.0)
    ∙ ap (λ (l : List ℕ). units_per_em (with_adjustment w l)) is
    ∙ ap units_per_em (adjusted_again w v first large)
    ∙ units_after w first large
    ∙ sym (units_after v first large)
    ∙ ap units_per_em (sym is)

module _ (find : List ℕ → Option (List ℕ)) (advances new : List ℕ) (a : IsAnew find advances new) where
  abbrev ts : FontTables
  ts = tables_with find a.head a.wide

  room : HasRoom ts.head
  room = has_room a.there a.head a.head_is

  some : 0 < length (present (rows ts))
  some = some_table (codes "CFF ") a.wide (present (rows ts)) (lookup_row ts (codes "CFF "))

  laid : IsLaid new Cff
  laid = record { tables = ts; room = room; fit = a.fit; some = some; is = a.is }

  pub row : (tag : List ℕ) → bytes_eq tag (codes "head") ≡ false → table (as_font new) tag ≡ bytes_of tag (rows ts)
  row tag other = ap (λ (l : List ℕ). table (as_font l) tag) a.is ∙ row_back Cff ts room a.fit tag other

  opens : Opens new
  opens = new_opens Cff (tags (present (rows ts))) new (subst (λ (l : List ℕ). IsSoundContainer l (kind_word Cff) (tags (present (rows ts)))) (sym a.is)
      (sound (kind_word Cff) (present (rows ts)) (inr refl) some (rows_few ts) (rows_tables ts room) a.fit (present_ascends 0 (rows ts) (rows_ascend ts))))

  head_back : table (as_font new) (codes "head") ≡ Some (with_adjustment (word_of (kind_word Cff) (present (rows ts))) a.head)
  head_back = ap (λ (l : List ℕ). table (as_font l) (codes "head")) a.is ∙ head_row_back Cff ts room a.fit

-- ---- the same metrics
module _ (kind : FontFlavor) (out : List ℕ) (l : IsLaid out kind) (advances new : List ℕ) (a : IsAnew (table (as_font out)) advances new) where
  abbrev word : ℕ
  word = word_of (kind_word kind) (present (rows l.tables))

  head_there : table (as_font out) (codes "head") ≡ option_map (with_adjustment word) l.tables.head
  head_there = ap (λ (b : List ℕ). table (as_font b) (codes "head")) l.is ∙ head_row_back kind l.tables l.room l.fit

  units_by : (h : Option (List ℕ)) → l.tables.head ≡ h → option_map (with_adjustment word) h ≡ Some a.there → units_per_em (with_adjustment (word_of (kind_word Cff) (present (rows (tables_with (table (as_font out)) a.head a.wide)))) a.head) ≡ units_per_em a.there
  units_by None is e = absurd (none-some a.there e)
  units_by (Some first) is e = same_units word _ first a.there a.head (l.room first is).0 (sym (same_Some _ _ e)) a.head_is

  same_em : option_map units_per_em (table (as_font new) (codes "head")) ≡ option_map units_per_em (table (as_font out) (codes "head"))
  same_em =
      ap (option_map units_per_em) (head_back (table (as_font out)) advances new a)
      ∙ ap Some (units_by l.tables.head refl (sym head_there ∙ a.there_is))
      ∙ sym (ap (option_map units_per_em) a.there_is)

  same_metrics : (n : ℕ) → widths_of (table (as_font new)) n ≡ widths_of (table (as_font out)) n
  same_metrics n = same_widths (table (as_font new)) (table (as_font out)) n (row (table (as_font out)) advances new a (codes "hmtx") refl) same_em (row (table (as_font out)) advances new a (codes "hhea") refl)

-- ---- whether or not it is laid out anew
widened_is : (advances file : List ℕ) (o : Opens file) → widened advances file ≡ unwrap_or (widened_in (table (as_font file)) advances) file
unfolding widened
widened_is advances file o =
    ap (λ (r : Result (List ℕ) Error). unwrap_or (option_and_then (λ (d : List ℕ). widened_in (table_in file d) advances) (result_ok r)) file) o.opens
    ∙ ap (λ (look : List ℕ → Option (List ℕ)). unwrap_or (widened_in look advances) file) o.find

abbrev pub Laid : List ℕ → Type 0
Laid out = (k : FontFlavor) × IsLaid out k

module _ (advances out : List ℕ) (kind : FontFlavor) (o : Opens out) (l : IsLaid out kind) where
  laid_by : (w : Option (List ℕ)) → widened_in (table (as_font out)) advances ≡ w → Laid (unwrap_or w out)
  laid_by None e = (kind, l)
  laid_by (Some new) e = (Cff, laid (table (as_font out)) advances new (anew (table (as_font out)) advances new e))

  pub wide_laid : Laid (widened advances out)
  wide_laid = subst Laid (sym (widened_is advances out o)) (laid_by (widened_in (table (as_font out)) advances) refl)

  widths_by : (n : ℕ) (w : Option (List ℕ)) → widened_in (table (as_font out)) advances ≡ w → widths_of (table (as_font (unwrap_or w out))) n ≡ widths_of (table (as_font out)) n
  widths_by n None e = refl
  widths_by n (Some new) e = same_metrics kind out l advances new (anew (table (as_font out)) advances new e) n

  pub wide_widths : (n : ℕ) → widths_of (table (as_font (widened advances out))) n ≡ widths_of (table (as_font out)) n
  wide_widths n = ap (λ (b : List ℕ). widths_of (table (as_font b)) n) (widened_is advances out o) ∙ widths_by n (widened_in (table (as_font out)) advances) refl

-- ---- its `CFF `
pub record HasCff (advances file old : List ℕ) : Type 0 where
  pub opens : Opens file
  pub cff : List ℕ
  pub cff_is : stored (as_font file) (codes "CFF ") ≡ Some cff
  -- none where the file stayed as it was, as one that would be too long
  pub wide : (cff ≡ old) ⊎ (with_widths old advances ≡ Some cff)

has_by : (advances file copy : List ℕ) (o : Opens file) (w : Option (List ℕ)) → widened_in (table (as_font file)) advances ≡ w → stored (as_font file) (codes "CFF ") ≡ Some copy → HasCff advances (unwrap_or w file) copy
has_by advances file copy o None e is = record { opens = o; cff = copy; cff_is = is; wide = inl refl }
has_by advances file copy o (Some new) e is =
    let find : List ℕ → Option (List ℕ) = table (as_font file) in
    let a = anew find advances new e in
    record {
      opens = opens find advances new a;
      cff = a.wide;
      cff_is = row find advances new a (codes "CFF ") refl;
      wide = inr (ap (λ (l : List ℕ). with_widths l advances) (same_Some _ _ (sym is ∙ a.cff_is)) ∙ a.wide_is);
    }

pub has_cff : (advances file : List ℕ) (o : Opens file) (copy : List ℕ) → stored (as_font file) (codes "CFF ") ≡ Some copy → HasCff advances (widened advances file) copy
has_cff advances file o copy is = subst (λ (l : List ℕ). HasCff advances l copy) (sym (widened_is advances file o)) (has_by advances file copy o (widened_in (table (as_font file)) advances) refl is)
