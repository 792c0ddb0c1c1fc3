-- The plain way to lay out a file, of tables that are looked up.
use Rattle.std.proofs.Common.{◌≡◌, ℕ, ◌≤◌, Bool, List, length, Option, Some, None, Ok, Bor, refl, sym, ap, subst, ◌∙◌}
use Rattle.std.specs.Prelude.{codes, IfSome}
use Rattle.std.specs.Option.{option_copied, ok_or}
use Rattle.std.specs.List.{AllByRecursion}
use Rattle.subsetter_base.specs.declared.error.Error.{Error}
use Rattle.subsetter_base.proofs.Options.{just_is}
use Rattle.subsetter_base.proofs.Results.{done_is}
use Rattle.subsetter_sfnt.specs.declared.flavor.FontFlavor.TheVariants.{TrueType}
use Rattle.subsetter_sfnt.specs.Plain.{file_of}
use Rattle.subsetter_sfnt.specs.Laying.Rows.{FontTables, rows, present}
use Rattle.subsetter_sfnt.specs.Laying.Written.{Table, IsTable, with_adjustment, kind_word}
use Rattle.subsetter_sfnt.proofs.Laws.LayingLaws.Rows.{HasRoom, rows_tables}
use Rattle.subsetter_instance.specs.Source.{Source}
use Rattle.subsetter_instance.specs.Glyphs.Drawn.{Drawn}
use Rattle.subsetter_instance.specs.Tables.Lines.{Lines, with_lines}
use Rattle.subsetter_instance.specs.Plain.{laid}
use Rattle.subsetter_instance.specs.Tables.Written.{by_glyph, glyf_bytes, head_bytes, is_long, tables}
use Rattle.subsetter_instance.proofs.FileLaws.Head.{head_zeros, head_room}

-- a table that was looked up under the name of an error
pub found_by : {A : Type 0} (o : Option (Bor A)) (r : Bor A) (found : Option A) (e : Error) → option_copied o ≡ found → ok_or o e ≡ Ok r → found ≡ Some r.now
found_by None r found e is h = absurd cc
found_by (Some x) r found e is h = sym is ∙ ap (λ (y : Bor _). Some y.now) (done_is x r h)

-- head of an instance has zeros for the adjustment
pub has_room : (long : Bool) (ds : List Drawn) (head : List ℕ) → 52 ≤ length head → HasRoom (Some (head_bytes long ds head))
has_room long ds head le bytes is = subst (λ b. (12 ≤ length b) × (with_adjustment 0 b ≡ b)) (just_is (head_bytes long ds head) bytes is) (head_room long ds head le, head_zeros long ds head le)

module _ (find : List ℕ → Option (List ℕ)) (lines : Lines) (s : Source) (glyphs : List ℕ) (ds : List Drawn) (head : List ℕ) (at_head : find (codes "head") ≡ Some head) where
  -- the tables of the file
  abbrev pub font : FontTables
  font = tables (with_lines find lines) head lines.hhea s.count ds (by_glyph glyphs ds s.count)

  pub laid_is : laid find lines s glyphs ds ≡ file_of (kind_word TrueType) (present (rows font))
  unfolding laid
  laid_is = rw at_head refl

  pub font_tables : 52 ≤ length head → AllByRecursion IsTable (present (rows font))
  font_tables le = rows_tables font (has_room (is_long (glyf_bytes (by_glyph glyphs ds s.count))) ds head le)

  module _ (ts : List Table) (t : FontTables) (n : ℕ) (count : n ≡ s.count) (is : ts ≡ present (rows t)) (made : t ≡ tables (with_lines find lines) head lines.hhea n ds (by_glyph glyphs ds n)) where
    same : ts ≡ present (rows font)
    same = is ∙ ap (λ x. present (rows x)) (made ∙ ap (λ k. tables (with_lines find lines) head lines.hhea k ds (by_glyph glyphs ds k)) count)

    pub all_tables : IfSome (find (codes "head")) (λ h. 52 ≤ length h) → AllByRecursion IsTable ts
    all_tables room = subst (AllByRecursion IsTable) (sym same) (font_tables (subst (λ o. IfSome o (λ h. 52 ≤ length h)) at_head room))

    pub plainly : file_of (kind_word TrueType) ts ≡ laid find lines s glyphs ds
    plainly = ap (file_of (kind_word TrueType)) same ∙ sym laid_is
