-- The laws of a subset of a subset, of either kind of outlines.
use Rattle.std.proofs.Common.{◌≡◌, ℕ, ◌≤◌, Bool, true, List, length, Some, sym, subst, ◌∙◌, inl, inr}
use Rattle.subsetter_base.specs.Bytes.{IsBytes}
use Rattle.subsetter_base.specs.declared.error.Error.{Error}
use Rattle.subsetter_base.specs.declared.error.Error.TheVariants.{MalformedFont}
use Rattle.subsetter_cff.specs.Write.Again.{AreAll}
use Rattle.subsetter_sfnt.specs.declared.flavor.FontFlavor.{FontFlavor}
use Rattle.subsetter_sfnt.specs.declared.flavor.FontFlavor.TheVariants.{TrueType, Cff}
use Rattle.subsetter.specs.Fault.{HasFault}
use Rattle.subsetter_sfnt.specs.Read.{Font, as_font, flavor}
use Rattle.cid_embed.specs.Again.{IsTrueTypeOrCidKeyed, KeepsFirst, IsSubsetOfFirst, KeepsCffTable, requests_less, ComposesAfresh, IsComposed, ComposesLessAfresh, IsComposedOfLess, IsKeyedByCids, IsCanonical, KeepsAllCharStrings, HasNoFaultAgain, UnknownIsFault, IsCidKeyed}
use Rattle.cid_embed.proofs.AgainLaws.Basics.{one_found}
use Rattle.cid_embed.proofs.AgainLaws.ByKind.{IsOutlineSubset, IsCharStringSubset, ByKind, with_outlines, with_charstrings, by_kind}
use Rattle.cid_embed.proofs.AgainLaws.OutlinesLaws.CidKeyed.{subset_keyed}
use Rattle.cid_embed.proofs.AgainLaws.OutlinesLaws.CharStringLaws.{charstring_flavor, charstrings_kept, charstrings_composed, charstrings_canonical, charstrings_same, charstrings_sound, unknown_charstring}
use Rattle.cid_embed.proofs.AgainLaws.Less.{flavor_less}
use Rattle.cid_embed.proofs.AgainLaws.OutlinesLaws.Truetype.{outline_flavor, outlines_composed, outlines_canonical, outlines_sound}
use Rattle.cid_embed.proofs.AgainLaws.OutlinesLaws.Unknown.{unknown_outline}

-- a font has outlines of one kind
two_kinds : {A : Type 0} (font : Font) → flavor font ≡ Some TrueType → flavor font ≡ Some Cff → A
two_kinds font h k = absurd (let same = one_found (flavor font) TrueType Cff h k in cc)

keyed : (font : Font) → IsTrueTypeOrCidKeyed font → flavor font ≡ Some Cff → IsCidKeyed font
keyed font (inl t) k = two_kinds font t k
keyed font (inr c) k = c

-- under the names of the orders that the two subsets have
of_first : (tokens depth : ℕ) (font : Font) (L N M O more again : List ℕ) → L ≡ N → M ≡ O → IsSubsetOfFirst tokens depth font L more M again → IsSubsetOfFirst tokens depth font N more O again
of_first tokens depth font L N M O more again a b x = subst (λ l. IsSubsetOfFirst tokens depth font l more O again) a (subst (λ l. IsSubsetOfFirst tokens depth font L more l again) b x)

keeps_first : (tokens depth : ℕ) (font : Font) (L N M O more again : List ℕ) → L ≡ N → M ≡ O → KeepsFirst tokens depth font L more M again → KeepsFirst tokens depth font N more O again
keeps_first tokens depth font L N M O more again a b x = subst (λ l. KeepsFirst tokens depth font l more O again) a (subst (λ l. KeepsFirst tokens depth font L more l again) b x)

module _ (n g : Bool) (tokens depth : ℕ) (font : Font) (glyphs out more again : List ℕ) (bytes : IsBytes font.bytes) (deep : 1 ≤ depth) (some : 1 ≤ length more) (L M : List ℕ) (kind last : FontFlavor) where
  abbrev source : Font
  source = requests_less n g font

  abbrev middle : Font
  middle = requests_less n g (as_font out)

  kind_of_outlines : IsOutlineSubset font glyphs out → flavor middle ≡ Some TrueType
  kind_of_outlines x = flavor_less n g (as_font out) ∙ outline_flavor font glyphs out x

  kind_of_charstrings : IsCharStringSubset tokens depth font glyphs out → flavor middle ≡ Some Cff
  kind_of_charstrings x = flavor_less n g (as_font out) ∙ charstring_flavor tokens depth font glyphs out x

  whole : IsTrueTypeOrCidKeyed font → ByKind tokens depth font glyphs out L kind → ByKind tokens depth middle more again M last → IsSubsetOfFirst tokens depth source L more M again
  whole settled (with_outlines x a p) (with_outlines y b q) =
      let z = outlines_composed n g tokens depth font glyphs out more again bytes x y some in
      of_first tokens depth source x.order L y.order M more again a b (record { subset = z.0; order = z.1 })
  whole settled (with_charstrings x a p) (with_charstrings y b q) =
      let z = charstrings_composed n g tokens depth font glyphs out more again bytes deep x y some (keyed font settled x.kind_is) in
      of_first tokens depth source x.order L y.order M more again a b (record { subset = z.0; order = z.1 })
  whole settled (with_outlines x a p) (with_charstrings y b q) = two_kinds middle (kind_of_outlines x) y.kind_is
  whole settled (with_charstrings x a p) (with_outlines y b q) = two_kinds middle y.kind_is (kind_of_charstrings x)

  afresh : ByKind tokens depth font glyphs out L kind → ByKind tokens depth middle more again M last → KeepsFirst tokens depth source L more M again
  afresh (with_outlines x a p) (with_outlines y b q) =
      let z = outlines_composed n g tokens depth font glyphs out more again bytes x y some in
      keeps_first tokens depth source x.order L y.order M more again a b (record { keeps = z.0.keeps; order = z.1 })
  afresh (with_charstrings x a p) (with_charstrings y b q) =
      let z = charstrings_kept n g tokens depth font glyphs out more again bytes deep x y some in
      keeps_first tokens depth source x.order L y.order M more again a b (record { keeps = z.0; order = z.1 })
  afresh (with_outlines x a p) (with_charstrings y b q) = two_kinds middle (kind_of_outlines x) y.kind_is
  afresh (with_charstrings x a p) (with_outlines y b q) = two_kinds middle y.kind_is (kind_of_charstrings x)

pub is_composed_of_less : IsComposedOfLess
is_composed_of_less n g tokens depth font glyphs out more again bytes deep some settled first second =
    whole n g tokens depth font glyphs out more again bytes deep some first.keeps.order second.keeps.order first.keeps.kind second.keeps.kind settled (by_kind tokens depth font glyphs out first) (by_kind tokens depth (requests_less n g (as_font out)) more again second)

pub composes_less_afresh : ComposesLessAfresh
composes_less_afresh n g tokens depth font glyphs out more again bytes deep some first second =
    afresh n g tokens depth font glyphs out more again bytes deep some first.keeps.order second.keeps.order first.keeps.kind second.keeps.kind (by_kind tokens depth font glyphs out first) (by_kind tokens depth (requests_less n g (as_font out)) more again second)

-- all that the subset has is asked for
pub is_composed : IsComposed
is_composed tokens depth font glyphs out more again bytes deep some settled first second = is_composed_of_less true true tokens depth font glyphs out more again bytes deep some settled first second

pub composes_afresh : ComposesAfresh
composes_afresh tokens depth font glyphs out more again bytes deep some first second = composes_less_afresh true true tokens depth font glyphs out more again bytes deep some first second

pub is_keyed_by_cids : IsKeyedByCids
is_keyed_by_cids tokens depth font glyphs out first = by (by_kind tokens depth font glyphs out first)
  where
    by : ByKind tokens depth font glyphs out first.keeps.order first.keeps.kind → IsTrueTypeOrCidKeyed (as_font out)
    by (with_outlines x a p) = inl (outline_flavor font glyphs out x)
    by (with_charstrings x a p) = inr (subset_keyed tokens depth font glyphs out x)

-- ---- all glyphs in order

same_all : (L N all : List ℕ) → L ≡ N → AreAll (length N) all → AreAll (length L) all
same_all L N all e a = subst (λ l. AreAll (length l) all) (sym e) a

module _ (tokens depth : ℕ) (font : Font) (glyphs out all : List ℕ) (bytes : IsBytes font.bytes) (deep : 1 ≤ depth) (some : 1 ≤ length all) (settled : IsTrueTypeOrCidKeyed font) (L : List ℕ) (a : AreAll (length L) all) (kind last : FontFlavor) where
  same_bytes : (again M : List ℕ) → ByKind tokens depth font glyphs out L kind → ByKind tokens depth (as_font out) all again M last → again ≡ out
  same_bytes again M (with_outlines x e p) (with_outlines y f q) = outlines_canonical font glyphs out bytes x all (same_all x.order L all e a) again y
  same_bytes again M (with_charstrings x e p) (with_charstrings y f q) = charstrings_canonical tokens depth font glyphs out bytes deep x (keyed font settled x.kind_is) all (same_all x.order L all e a) some again y
  same_bytes again M (with_outlines x e p) (with_charstrings y f q) = two_kinds (as_font out) (outline_flavor font glyphs out x) y.kind_is
  same_bytes again M (with_charstrings x e p) (with_outlines y f q) = two_kinds (as_font out) y.kind_is (charstring_flavor tokens depth font glyphs out x)

  sound : (order : List ℕ) (e : Error) → IsBytes out → ByKind tokens depth font glyphs out L kind → HasFault tokens depth (as_font out) all order e → ⊥
  sound order e out_bytes (with_outlines x h p) f = outlines_sound font glyphs out bytes x all (same_all x.order L all h a) tokens depth order e out_bytes f
  sound order e out_bytes (with_charstrings x h p) f = charstrings_sound tokens depth font glyphs out bytes deep x (keyed font settled x.kind_is) all (same_all x.order L all h a) some order e out_bytes f

pub is_canonical : IsCanonical
is_canonical tokens depth font glyphs out all again bytes deep some settled first a second =
    same_bytes tokens depth font glyphs out all bytes deep some settled first.keeps.order a first.keeps.kind second.keeps.kind again second.keeps.order (by_kind tokens depth font glyphs out first) (by_kind tokens depth (as_font out) all again second)

pub no_fault_again : HasNoFaultAgain
no_fault_again tokens depth font glyphs out all order e bytes out_bytes deep some settled first a f =
    sound tokens depth font glyphs out all bytes deep some settled first.keeps.order a first.keeps.kind first.keeps.kind order e out_bytes (by_kind tokens depth font glyphs out first) f

pub keeps_all_charstrings : KeepsAllCharStrings
keeps_all_charstrings tokens depth font glyphs out all again kind first a second = by (by_kind tokens depth font glyphs out first) (by_kind tokens depth (as_font out) all again second)
  where
    by : ByKind tokens depth font glyphs out first.keeps.order first.keeps.kind → ByKind tokens depth (as_font out) all again second.keeps.order second.keeps.kind → KeepsCffTable out again
    by (with_charstrings x e p) (with_charstrings y f q) =
        record { source = x.drawn.copy; source_is = x.drawn.copy_is; copy = y.drawn.copy; copy_is = y.drawn.copy_is; same = charstrings_same tokens depth font glyphs out all again x (same_all x.order first.keeps.order all e a) y }
    by (with_outlines x e p) s = two_kinds font x.kind_is kind
    by (with_charstrings x e p) (with_outlines y f q) = two_kinds (as_font out) y.kind_is (charstring_flavor tokens depth font glyphs out x)

-- ---- glyphs that aren't there

pub unknown_is_fault : UnknownIsFault
unknown_is_fault tokens depth font glyphs out more order g first among past = by (by_kind tokens depth font glyphs out first)
  where
    by : ByKind tokens depth font glyphs out first.keeps.order first.keeps.kind → HasFault tokens depth (as_font out) more order MalformedFont
    by (with_outlines x e p) = unknown_outline tokens depth font glyphs out more order g x among (subst (λ l. length l ≤ g) (sym e) past)
    by (with_charstrings x e p) = unknown_charstring tokens depth font glyphs out more order g x among (subst (λ l. length l ≤ g) (sym e) past)
