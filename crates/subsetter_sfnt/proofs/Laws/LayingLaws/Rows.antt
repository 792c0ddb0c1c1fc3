-- Tables by rows: a tag, and the bytes of its table if it is there.
use Rattle.std.proofs.Common.{◌≡◌, ℕ, ◌+◌, ◌<◌, ◌≤◌, Bool, true, false, cond, List, [], ◌∷◌, ◌++◌, length, Option, Some, None, refl, sym, ap, subst, lit≤, ◌∙◌, append_assoc, arith}
use Rattle.std.specs.Prelude.{codes, is_some}
use Rattle.std.specs.List.{AllByRecursion}
use Rattle.std.specs.Str.{bytes_eq}
use Rattle.std.proofs.lemmas.Bool.{false≢true}
use Rattle.std.proofs.lemmas.List.{append-nil}
use Rattle.subsetter_base.specs.Bytes.{be}
use Rattle.subsetter_base.proofs.Lists.{bytes_eq_is}
use Rattle.subsetter_sfnt.specs.Container.{AscendFrom}
use Rattle.subsetter_sfnt.specs.Laying.Written.{Table, IsTable, with_adjustment}
use Rattle.subsetter_sfnt.specs.Laying.Rows.{Row, row_tags, bytes_of, opt, present, lookup, tags, FontTables, rows}
use Rattle.subsetter_sfnt.proofs.Laws.Lookups.{lookup_opt_other, lookup_opt, ascend_opt, length_opt}

-- ---- any rows

pub present_ascends : (low : ℕ) (rs : List Row) → AscendFrom low (row_tags rs) → AscendFrom low (tags (present rs))
present_ascends low [] up = tt
present_ascends low (r ∷ rs) up = ascend_opt low r.tag r.bytes (present rs) up.0 (present_ascends (be r.tag + 1) rs up.1)

-- a look-up among the tables is the one among the rows
pub lookup_present : (tag : List ℕ) (low : ℕ) (rs : List Row) → AscendFrom low (row_tags rs) → lookup tag (present rs) ≡ bytes_of tag rs
lookup_present tag low [] up = refl
lookup_present tag low (r ∷ rs) up = by (lookup_present tag (be r.tag + 1) rs up.1) (bytes_eq r.tag tag) refl
  where
    by : lookup tag (present rs) ≡ bytes_of tag rs → (q : Bool) → bytes_eq r.tag tag ≡ q → lookup tag (opt r.tag r.bytes ++ present rs) ≡ cond q r.bytes (bytes_of tag rs)
    by later true h = subst (λ (x : List ℕ). lookup x (opt r.tag r.bytes ++ present rs) ≡ r.bytes) (bytes_eq_is r.tag tag h) (lookup_opt r.tag r.bytes (present rs) (present_ascends (be r.tag + 1) rs up.1))
    by later false h = lookup_opt_other tag r.tag r.bytes (present rs) h ∙ later

pub few_present : (rs : List Row) → length (present rs) ≤ length rs
few_present [] = lit≤ tt
few_present (r ∷ rs) = omega (arith, length_opt r.tag r.bytes (present rs) (length rs) (few_present rs))

-- a tag has four bytes, and bytes under the tag of `head` have zeros for the adjustment
pub record IsRow (r : Row) : Type 0 where
  pub tag_len : length r.tag ≡ 4
  pub room : (bytes : List ℕ) → r.bytes ≡ Some bytes → bytes_eq r.tag (codes "head") ≡ true → (12 ≤ length bytes) × (with_adjustment 0 bytes ≡ bytes)

opt_tables : (tag : List ℕ) (o : Option (List ℕ)) (rest : List Table) → IsRow (record { tag = tag; bytes = o }) → AllByRecursion IsTable rest → AllByRecursion IsTable (opt tag o ++ rest)
opt_tables tag None rest is all = all
opt_tables tag (Some bytes) rest is all = (record { tag_len = is.tag_len; room = is.room bytes refl }, all)

pub present_tables : (rs : List Row) → AllByRecursion IsRow rs → AllByRecursion IsTable (present rs)
present_tables [] all = tt
present_tables (r ∷ rs) all = opt_tables r.tag r.bytes (present rs) all.0 (present_tables rs all.1)

-- the tags of two tables that are there alike
opt_tags : (tag : List ℕ) (o p : Option (List ℕ)) (a b : List Table) → is_some o ≡ is_some p → tags a ≡ tags b → tags (opt tag o ++ a) ≡ tags (opt tag p ++ b)
opt_tags tag None None a b h k = k
opt_tags tag (Some x) (Some y) a b h k = ap (λ (l : List (List ℕ)). tag ∷ l) k
opt_tags tag None (Some y) a b h k = absurd cc
opt_tags tag (Some x) None a b h k = absurd cc

-- ---- the rows of a font

pub rows_ascend : (t : FontTables) → AscendFrom 0 (row_tags (rows t))
rows_ascend t = (lit≤ tt, (lit≤ tt, (lit≤ tt, (lit≤ tt, (lit≤ tt, (lit≤ tt, (lit≤ tt, (lit≤ tt, (lit≤ tt, (lit≤ tt, (lit≤ tt, (lit≤ tt, tt))))))))))))

-- each table, looked up
pub lookup_row : (t : FontTables) (tag : List ℕ) → lookup tag (present (rows t)) ≡ bytes_of tag (rows t)
lookup_row t tag = lookup_present tag 0 (rows t) (rows_ascend t)

pub rows_few : (t : FontTables) → length (present (rows t)) < 16
rows_few t = omega (arith, few_present (rows t))

-- where one is looked up, there is one
pub some_table : (tag bytes : List ℕ) (ts : List Table) → lookup tag ts ≡ Some bytes → 0 < length ts
some_table tag bytes [] h = absurd cc
some_table tag bytes (t ∷ ts) h = omega arith

other_row : (tag : List ℕ) (o : Option (List ℕ)) → length tag ≡ 4 → bytes_eq tag (codes "head") ≡ false → IsRow (record { tag = tag; bytes = o })
other_row tag o len other = record { tag_len = len; room = λ bytes is h. absurd (false≢true (sym other ∙ h)) }

-- `head`, where it is there, has zeros for the adjustment
abbrev pub HasRoom : Option (List ℕ) → Type 0
HasRoom head = (bytes : List ℕ) → head ≡ Some bytes → (12 ≤ length bytes) × (with_adjustment 0 bytes ≡ bytes)

pub rows_tables : (t : FontTables) → HasRoom t.head → AllByRecursion IsTable (present (rows t))
rows_tables t room = present_tables (rows t) (
  other_row (codes "CFF ") t.cff refl refl,
  (
    other_row (codes "cvt ") t.cvt refl refl,
    (
      other_row (codes "fpgm") t.fpgm refl refl,
      (
        other_row (codes "glyf") t.glyf refl refl,
        (
          record { tag_len = refl; room = λ bytes is h. room bytes is },
          (
            other_row (codes "hhea") t.hhea refl refl,
            (
              other_row (codes "hmtx") t.hmtx refl refl,
              (
                other_row (codes "loca") t.loca refl refl,
                (
                  other_row (codes "maxp") t.maxp refl refl,
                  (
                    other_row (codes "name") t.name refl refl,
                    (
                      other_row (codes "post") t.post refl refl,
                      (
                        other_row (codes "prep") t.prep refl refl,
                        tt,
                      ),
                    ),
                  ),
                ),
              ),
            ),
          ),
        ),
      ),
    ),
  ),
)

-- two fonts have the same tables, whatever they hold
pub record AreAlike (t u : FontTables) : Type 0 where
  pub cff : is_some t.cff ≡ is_some u.cff
  pub cvt : is_some t.cvt ≡ is_some u.cvt
  pub fpgm : is_some t.fpgm ≡ is_some u.fpgm
  pub glyf : is_some t.glyf ≡ is_some u.glyf
  pub head : is_some t.head ≡ is_some u.head
  pub hhea : is_some t.hhea ≡ is_some u.hhea
  pub hmtx : is_some t.hmtx ≡ is_some u.hmtx
  pub loca : is_some t.loca ≡ is_some u.loca
  pub maxp : is_some t.maxp ≡ is_some u.maxp
  pub name : is_some t.name ≡ is_some u.name
  pub post : is_some t.post ≡ is_some u.post
  pub prep : is_some t.prep ≡ is_some u.prep

pub same_tags : (t u : FontTables) → AreAlike t u → tags (present (rows t)) ≡ tags (present (rows u))
same_tags t u h =
    opt_tags (codes "CFF ") t.cff u.cff _ _ h.cff (opt_tags (codes "cvt ") t.cvt u.cvt _ _ h.cvt (opt_tags (codes "fpgm") t.fpgm u.fpgm _ _ h.fpgm (opt_tags (codes "glyf") t.glyf u.glyf _ _ h.glyf (opt_tags (codes "head") t.head u.head _ _ h.head (opt_tags (codes "hhea") t.hhea u.hhea _ _ h.hhea
    (opt_tags (codes "hmtx") t.hmtx u.hmtx _ _ h.hmtx (opt_tags (codes "loca") t.loca u.loca _ _ h.loca (opt_tags (codes "maxp") t.maxp u.maxp _ _ h.maxp (opt_tags (codes "name") t.name u.name _ _ h.name (opt_tags (codes "post") t.post u.post _ _ h.post (opt_tags (codes "prep") t.prep u.prep [] [] h.prep refl)))))))))))

-- ---- tables that are put after each other in turn

pub twelve : (w w1 w2 w3 w4 w5 w6 w7 w8 w9 w10 w11 w12 a b c d e f g h i j k l : List Table) → w ≡ [] → w1 ≡ w ++ a → w2 ≡ w1 ++ b → w3 ≡ w2 ++ c → w4 ≡ w3 ++ d → w5 ≡ w4 ++ e → w6 ≡ w5 ++ f → w7 ≡ w6 ++ g → w8 ≡ w7 ++ h → w9 ≡ w8 ++ i → w10 ≡ w9 ++ j → w11 ≡ w10 ++ k → w12 ≡ w11 ++ l
    → w12 ≡ a ++ (b ++ (c ++ (d ++ (e ++ (f ++ (g ++ (h ++ (i ++ (j ++ (k ++ (l ++ [])))))))))))
twelve w w1 w2 w3 w4 w5 w6 w7 w8 w9 w10 w11 w12 a b c d e f g h i j k l h0 h1 h2 h3 h4 h5 h6 h7 h8 h9 h10 h11 h12 =
    rw (h12, h11, h10, h9, h8, h7, h6, h5, h4, h3, h2, h1, h0) (grouped a b c d e f g h i j k l)
  where
    grouped : (a b c d e f g h i j k l : List Table) → [] ++ a ++ b ++ c ++ d ++ e ++ f ++ g ++ h ++ i ++ j ++ k ++ l ≡ a ++ (b ++ (c ++ (d ++ (e ++ (f ++ (g ++ (h ++ (i ++ (j ++ (k ++ (l ++ [])))))))))))
    grouped a b c d e f g h i j k l = simp append_assoc (ap (λ (x : List Table). a ++ (b ++ (c ++ (d ++ (e ++ (f ++ (g ++ (h ++ (i ++ (j ++ (k ++ x))))))))))) (sym (append-nil l)))
