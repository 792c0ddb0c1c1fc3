-- What opening finds, by its steps.
use Rattle.std.proofs.Common.{◌≡◌, ℕ, Bool, true, false, cond, List, Option, Some, None, Result, Ok, Err, refl, sym, ap, subst, ◌∙◌, ◌⊎◌, inl, inr}
use Rattle.std.specs.Prelude.{codes, is_some, IsSome}
use Rattle.std.specs.Option.{option_and_then}
use Rattle.subsetter_base.specs.Bytes.{◌>>=◌, IsBytes}
use Rattle.subsetter_base.specs.declared.error.Error.{Error}
use Rattle.subsetter_base.specs.declared.error.Error.TheVariants.{UnknownKind, Unimplemented}
use Rattle.subsetter_base.proofs.Results.{bind_ok, bind_err, done_is}
use Rattle.subsetter_sfnt.specs.declared.extras.Extras.{Extras}
use Rattle.subsetter_sfnt.specs.declared.face.Face.{Face}
use Rattle.subsetter_sfnt.specs.declared.flavor.FontFlavor.{FontFlavor}
use Rattle.subsetter_sfnt.specs.declared.flavor.FontFlavor.TheVariants as flavors
use Rattle.subsetter_sfnt.specs.declared.opening.Opened.{Opened}
use Rattle.subsetter_sfnt.specs.declared.opening.Outlines.{Outlines}
use Rattle.subsetter_sfnt.specs.declared.opening.Outlines.TheVariants.{TrueType, Cff, Cff2}
use Rattle.subsetter_sfnt.specs.Fault.{HasOpeningFault}
use Rattle.subsetter_sfnt.proofs.Laws.Fault.{opened_refused, opened_records, flavored_refused, opened_clean}
use Rattle.subsetter_sfnt.specs.Extras.{requested, by_hinting, by_names, by_glyph_names}
use Rattle.subsetter_sfnt.specs.FontAt.{font_at}
use Rattle.subsetter_sfnt.specs.Opening.{outlines_by, opened_as, flavor_of, font_opened, IsOpened}
use Rattle.subsetter_sfnt.specs.Plain.{opened, flavored}
use Rattle.subsetter_sfnt.specs.Read.{Font, stored, table_in}

-- ---- the steps

module _ (font : Font) (records : List ℕ) where
  pub found : (outlines : Outlines) → opened font ≡ Ok records → outlines_by (table_in font.bytes records) ≡ Ok outlines → opened_as font ≡ Ok (records, outlines)
  unfolding opened_as
  found outlines o k = rw (o, k) refl

  pub not_found : (e : Error) → opened font ≡ Ok records → outlines_by (table_in font.bytes records) ≡ Err e → opened_as font ≡ Err e
  unfolding opened_as
  not_found e o k = rw (o, k) refl

pub not_opened : (font : Font) (e : Error) → opened font ≡ Err e → opened_as font ≡ Err e
unfolding opened_as
not_opened font e o = rw o refl

-- the kind of outlines after the records
abbrev kind_in : Font → List ℕ → Result (List ℕ × Outlines) Error
kind_in font records = outlines_by (table_in font.bytes records) >>= λ outlines. Ok (records, outlines)

module _ (font : Font) (records : List ℕ) (outlines : Outlines) where
  abbrev Steps : Type 0
  Steps = (opened font ≡ Ok records) × (outlines_by (table_in font.bytes records) ≡ Ok outlines)

  pub by_steps : opened_as font ≡ Ok (records, outlines) → Steps
  unfolding opened_as
  by_steps h =
      let r = bind_ok {A = List ℕ} {B = List ℕ × Outlines} (opened font) (kind_in font) (records, outlines) h in
      let k = bind_ok {A = Outlines} {B = List ℕ × Outlines} (outlines_by (table_in font.bytes r.0)) (λ x. Ok (r.0, x)) (records, outlines) r.2 in
      let same : r.0 ≡ records = ap (λ (p : List ℕ × Outlines). p.0) (done_is {A = List ℕ × Outlines} (r.0, k.0) (records, outlines) k.2) in
      let kind : k.0 ≡ outlines = ap (λ (p : List ℕ × Outlines). p.1) (done_is {A = List ℕ × Outlines} (r.0, k.0) (records, outlines) k.2) in
      (r.1 ∙ ap (λ (d : List ℕ). Ok d) same, ap (λ (d : List ℕ). outlines_by (table_in font.bytes d)) (sym same) ∙ k.1 ∙ ap (λ (x : Outlines). Ok x) kind)

pub by_fault : (font : Font) (e : Error) → opened_as font ≡ Err e → (opened font ≡ Err e) ⊎ ((records : List ℕ) × (opened font ≡ Ok records) × (outlines_by (table_in font.bytes records) ≡ Err e))
unfolding opened_as
by_fault font e h = elim (bind_err {A = List ℕ} {B = List ℕ × Outlines} (opened font) (kind_in font) e h) [ inl o ↦ inl o | inr r ↦ inr (r.0, r.1, no_kind r.0 r.2) ]
  where
    no_kind : (records : List ℕ) → kind_in font records ≡ Err e → outlines_by (table_in font.bytes records) ≡ Err e
    no_kind records k = elim (bind_err {A = Outlines} {B = List ℕ × Outlines} (outlines_by (table_in font.bytes records)) (λ x. Ok (records, x)) e k) [ inl o ↦ o | inr x ↦ absurd (let same = x.2 in cc) ]

-- ---- the kind of outlines doesn't depend on what is asked for

abbrev by_choice : Bool → Bool → Bool → List ℕ → Option (List ℕ) → Option (List ℕ)
by_choice h n g tag found = by_glyph_names g tag (by_names n tag (by_hinting h tag found))

glyf_asked : (h n g : Bool) (found : Option (List ℕ)) → by_choice h n g (codes "glyf") found ≡ found
glyf_asked true true true found = refl
glyf_asked true true false found = refl
glyf_asked true false true found = refl
glyf_asked true false false found = refl
glyf_asked false true true found = refl
glyf_asked false true false found = refl
glyf_asked false false true found = refl
glyf_asked false false false found = refl

cff_asked : (h n g : Bool) (found : Option (List ℕ)) → by_choice h n g (codes "CFF ") found ≡ found
cff_asked true true true found = refl
cff_asked true true false found = refl
cff_asked true false true found = refl
cff_asked true false false found = refl
cff_asked false true true found = refl
cff_asked false true false found = refl
cff_asked false false true found = refl
cff_asked false false false found = refl

cff2_asked : (h n g : Bool) (found : Option (List ℕ)) → by_choice h n g (codes "CFF2") found ≡ found
cff2_asked true true true found = refl
cff2_asked true true false found = refl
cff2_asked true false true found = refl
cff2_asked true false false found = refl
cff2_asked false true true found = refl
cff2_asked false true false found = refl
cff2_asked false false true found = refl
cff2_asked false false false found = refl

-- of what is found
abbrev flavored_by : Option (List ℕ) → Option (List ℕ) → Option (List ℕ) → Result FontFlavor Error
flavored_by glyf cff cff2 = cond (is_some glyf) (Ok flavors.TrueType) (cond (is_some cff) (Ok flavors.Cff) (cond (is_some cff2) (Err Unimplemented) (Err UnknownKind)))

abbrev kind_by : Option (List ℕ) → Option (List ℕ) → Option (List ℕ) → Result Outlines Error
kind_by glyf cff cff2 = cond (is_some glyf) (Ok TrueType) (cond (is_some cff) (Ok Cff) (cond (is_some cff2) (Ok Cff2) (Err UnknownKind)))

agree : (glyf cff cff2 : Option (List ℕ)) → flavored_by glyf cff cff2 ≡ (kind_by glyf cff cff2 >>= flavor_of)
agree (Some a) cff cff2 = refl
agree None (Some b) cff2 = refl
agree None None (Some c) = refl
agree None None None = refl

-- of the outlines that are found those are taken that a file can be written with
pub flavored_is : (x : Extras) (find : List ℕ → Option (List ℕ)) → flavored (requested x find) ≡ (outlines_by find >>= flavor_of)
unfolding flavored outlines_by
flavored_is x find =
    let g = glyf_asked x.hinting x.names x.glyph_names (find (codes "glyf")) in
    let c = cff_asked x.hinting x.names x.glyph_names (find (codes "CFF ")) in
    let d = cff2_asked x.hinting x.names x.glyph_names (find (codes "CFF2")) in
    ap (λ (o : Option (List ℕ)). flavored_by o (requested x find (codes "CFF ")) (requested x find (codes "CFF2"))) g ∙
    ap (λ (o : Option (List ℕ)). flavored_by (find (codes "glyf")) o (requested x find (codes "CFF2"))) c ∙
    ap (λ (o : Option (List ℕ)). flavored_by (find (codes "glyf")) (find (codes "CFF ")) o) d ∙ agree (find (codes "glyf")) (find (codes "CFF ")) (find (codes "CFF2"))

module _ (x : Extras) (find : List ℕ → Option (List ℕ)) where
  pub flavored_of : (outlines : Outlines) → outlines_by find ≡ Ok outlines → flavored (requested x find) ≡ flavor_of outlines
  flavored_of outlines h = flavored_is x find ∙ ap (λ (r : Result Outlines Error). r >>= flavor_of) h

  pub unflavored_of : (e : Error) → outlines_by find ≡ Err e → flavored (requested x find) ≡ Err e
  unflavored_of e h = flavored_is x find ∙ ap (λ (r : Result Outlines Error). r >>= flavor_of) h

-- ---- a face that was parsed, and the kind of its outlines

module _ (bytes : List ℕ) (index : ℕ) (extras : Extras) (face : Face) (here : face.«data».now ≡ bytes) (read : opened (font_at bytes index extras) ≡ Ok face.records.now) where
  abbrev SeenBy : Result Outlines Error → Type 0
  SeenBy r = r ≡ outlines_by (table_in face.«data».now face.records.now)

  moved : (r : Result Outlines Error) → SeenBy r → outlines_by (table_in bytes face.records.now) ≡ r
  moved r seen = ap (λ (b : List ℕ). outlines_by (table_in b face.records.now)) (sym here) ∙ sym seen

  pub is_font : face.extras ≡ extras → font_at face.«data».now index face.extras ≡ font_at bytes index extras
  is_font chosen = ap (λ (b : List ℕ). font_at b index face.extras) here ∙ ap (font_at bytes index) chosen

  pub is_opened : (outlines : Outlines) → face.extras ≡ extras → IsBytes bytes → SeenBy (Ok outlines) → IsOpened (record { face = face; index = index; outlines = outlines })
  is_opened outlines chosen all seen = record {
    finds = ap opened_as (is_font chosen) ∙ found (font_at bytes index extras) face.records.now outlines read (moved (Ok outlines) seen);
    bytes = subst IsBytes (sym here) all;
  }

  pub is_refused : (e : Error) → SeenBy (Err e) → opened_as (font_at bytes index extras) ≡ Err e
  is_refused e seen = not_found (font_at bytes index extras) face.records.now e read (moved (Err e) seen)

-- ---- faults

-- a font that isn't opened has a fault of that name
pub refused : (font : Font) (e : Error) → opened_as font ≡ Err e → HasOpeningFault font e
refused font e h = elim (by_fault font e h) [ inl o ↦ opened_refused font e o | inr r ↦ flavored_refused font r.0 e r.1 (unflavored_of font.extras (table_in font.bytes r.0) e r.2) ]

module _ (font : Font) (records : List ℕ) (outlines : Outlines) (h : opened_as font ≡ Ok (records, outlines)) where
  pub flavored_as : flavored (requested font.extras (table_in font.bytes records)) ≡ flavor_of outlines
  flavored_as = flavored_of font.extras (table_in font.bytes records) outlines (by_steps font records outlines h).1

  pub cff2_refused : outlines ≡ Cff2 → HasOpeningFault font Unimplemented
  cff2_refused is = flavored_refused font records Unimplemented (by_steps font records outlines h).0 (flavored_as ∙ ap flavor_of is)

  -- with outlines that a file can be written with it has none
  pub has_none : (flavor : FontFlavor) → flavor_of outlines ≡ Ok flavor → (e : Error) → HasOpeningFault font e → ⊥
  has_none flavor is e f = opened_clean font records flavor e (by_steps font records outlines h).0 (flavored_as ∙ is) f

-- ---- the tables of outlines

kind_truetype : (glyf cff cff2 : Option (List ℕ)) → kind_by glyf cff cff2 ≡ Ok TrueType → IsSome glyf
kind_truetype (Some a) cff cff2 h = refl
kind_truetype None (Some b) cff2 h = absurd cc
kind_truetype None None (Some c) h = absurd cc
kind_truetype None None None h = absurd cc

kind_cff : (glyf cff cff2 : Option (List ℕ)) → kind_by glyf cff cff2 ≡ Ok Cff → (glyf ≡ None) × IsSome cff
kind_cff (Some a) cff cff2 h = absurd cc
kind_cff None (Some b) cff2 h = (refl, refl)
kind_cff None None (Some c) h = absurd cc
kind_cff None None None h = absurd cc

kind_cff2 : (glyf cff cff2 : Option (List ℕ)) → kind_by glyf cff cff2 ≡ Ok Cff2 → (glyf ≡ None) × (cff ≡ None) × IsSome cff2
kind_cff2 (Some a) cff cff2 h = absurd cc
kind_cff2 None (Some b) cff2 h = absurd cc
kind_cff2 None None (Some c) h = (refl, refl, refl)
kind_cff2 None None None h = absurd cc

kind_none : (glyf cff cff2 : Option (List ℕ)) (e : Error) → kind_by glyf cff cff2 ≡ Err e → (glyf ≡ None) × (cff ≡ None) × (cff2 ≡ None)
kind_none (Some a) cff cff2 e h = absurd cc
kind_none None (Some b) cff2 e h = absurd cc
kind_none None None (Some c) e h = absurd cc
kind_none None None None e h = (refl, refl, refl)

module _ (find : List ℕ → Option (List ℕ)) where
  pub has_glyf : outlines_by find ≡ Ok TrueType → IsSome (find (codes "glyf"))
  unfolding outlines_by
  has_glyf h = kind_truetype (find (codes "glyf")) (find (codes "CFF ")) (find (codes "CFF2")) h

  pub has_cff : outlines_by find ≡ Ok Cff → (find (codes "glyf") ≡ None) × IsSome (find (codes "CFF "))
  unfolding outlines_by
  has_cff h = kind_cff (find (codes "glyf")) (find (codes "CFF ")) (find (codes "CFF2")) h

  pub has_cff2 : outlines_by find ≡ Ok Cff2 → (find (codes "glyf") ≡ None) × (find (codes "CFF ") ≡ None) × IsSome (find (codes "CFF2"))
  unfolding outlines_by
  has_cff2 h = kind_cff2 (find (codes "glyf")) (find (codes "CFF ")) (find (codes "CFF2")) h

  pub lacks_all : (e : Error) → outlines_by find ≡ Err e → (find (codes "glyf") ≡ None) × (find (codes "CFF ") ≡ None) × (find (codes "CFF2") ≡ None)
  unfolding outlines_by
  lacks_all e h = kind_none (find (codes "glyf")) (find (codes "CFF ")) (find (codes "CFF2")) e h

-- ---- the tables of a font that was opened

pub find_is : (font : Font) (records : List ℕ) → opened font ≡ Ok records → table_in font.bytes records ≡ stored font
find_is font records h =
    let by : Option (List ℕ) → List ℕ → Option (List ℕ) = λ o tag. option_and_then (λ directory. table_in font.bytes directory tag) o in
    ap by (sym (opened_records font records h))

pub find_opened : (o : Opened) → IsOpened o → table_in o.face.«data».now o.face.records.now ≡ stored (font_opened o)
find_opened o is = find_is (font_opened o) o.face.records.now (by_steps (font_opened o) o.face.records.now o.outlines is.finds).0
