-- A file that is laid out of a font's tables, read afresh.
use Rattle.std.proofs.Common.{◌≡◌, ℕ, ◌<◌, true, false, List, length, refl, ap, subst, ◌∙◌, inl, inr}
use Rattle.std.specs.Prelude.{codes}
use Rattle.std.specs.Option.{option_map}
use Rattle.std.specs.List.{AllByRecursion}
use Rattle.std.specs.Str.{bytes_eq}
use Rattle.subsetter_sfnt.specs.declared.flavor.FontFlavor.{FontFlavor}
use Rattle.subsetter_sfnt.specs.declared.flavor.FontFlavor.TheVariants.{TrueType, Cff}
use Rattle.subsetter_sfnt.specs.Container.{IsSoundContainer}
use Rattle.subsetter_sfnt.specs.Read.{as_font, table}
use Rattle.subsetter_sfnt.specs.Laying.Rows.{bytes_of, present, tags, FontTables, rows}
use Rattle.subsetter_sfnt.specs.Laying.Written.{IsTable, with_adjustment, fits, file, start_of, kind_word}
use Rattle.subsetter_sfnt.proofs.Laws.Back.{IsKind, word_of}
use Rattle.subsetter_sfnt.proofs.Laws.Container.{sound, table_of, head_of}
use Rattle.subsetter_sfnt.proofs.Laws.LayingLaws.Rows.{HasRoom, rows_ascend, present_ascends, lookup_row, rows_few, rows_tables, AreAlike, same_tags}

is_kind : (kind : FontFlavor) → IsKind (kind_word kind)
is_kind TrueType = inl refl
is_kind Cff = inr refl

module _ (kind : FontFlavor) (t : FontTables) (room : HasRoom t.head) (fit : fits (start_of (present (rows t))) (present (rows t)) ≡ true) where
  all : AllByRecursion IsTable (present (rows t))
  all = rows_tables t room

  -- each table is found again
  pub row_back : (tag : List ℕ) → bytes_eq tag (codes "head") ≡ false → table (as_font (file (kind_word kind) (present (rows t)))) tag ≡ bytes_of tag (rows t)
  row_back tag other = table_of (kind_word kind) (present (rows t)) (is_kind kind) (rows_few t) all fit tag other ∙ lookup_row t tag

  -- head with its adjustment
  pub head_row_back : table (as_font (file (kind_word kind) (present (rows t)))) (codes "head") ≡ option_map (with_adjustment (word_of (kind_word kind) (present (rows t)))) t.head
  head_row_back = head_of (kind_word kind) (present (rows t)) (is_kind kind) (rows_few t) all fit ∙ ap (option_map (with_adjustment (word_of (kind_word kind) (present (rows t))))) (lookup_row t (codes "head"))

  -- the container of a font that has a table at least
  pub rows_sound : (called : FontTables) → 0 < length (present (rows t)) → AreAlike t called → IsSoundContainer (file (kind_word kind) (present (rows t))) (kind_word kind) (tags (present (rows called)))
  rows_sound called some alike =
      subst (λ (l : List (List ℕ)). IsSoundContainer (file (kind_word kind) (present (rows t))) (kind_word kind) l) (same_tags t called alike)
      (sound (kind_word kind) (present (rows t)) (is_kind kind) some (rows_few t) all fit (present_ascends 0 (rows t) (rows_ascend t)))
