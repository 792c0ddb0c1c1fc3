-- The objects of a font as data: each with its number, the entries of its dictionary, and its stream.
use Rattle.std.specs.Prelude.{◌≡◌, ◌<◌, ◌==◌, ◌&&◌, not, nat_lt, ℕ, ◌+◌, Bool, true, false, List, [], ◌∷◌, ◌++◌, map}
use Rattle.std.specs.Prelude.{drop, length, get_or, Option, is_some, codes}
use Rattle.std.specs.Option.{option_copied}
use Rattle.subsetter_base.specs.Indexes.{is_listed}
use Rattle.pdf_text.specs.declared.objects.Object.{Object}
use Rattle.pdf_text.specs.declared.objects.Object.TheVariants.{Font}
use Rattle.pdf_text.specs.declared.parts.FontPart.{FontPart}
use Rattle.pdf_text.specs.declared.parts.PartsError.{PartsError}
use Rattle.pdf_text.specs.declared.parts.PartsError.TheVariants.{InvalidNumbers, Subset}
use Rattle.pdf_text.specs.declared.strings.StringRange.{StringRange}
use Rattle.pdf_text.specs.declared.values.FontValues.{FontValues}
use Rattle.pdf_text.specs.declared.values.References.{References}
use Rattle.pdf_text.specs.Dictionaries.Widths.{IsRefused}
use Rattle.pdf_text.specs.Objects.{bytes_of, entries_of, font_objects, number_of, numbers, object_text, objects_of}
use Rattle.pdf_text.specs.Objects.{value_end, before_cmap, before_set}
use Rattle.pdf_text.specs.Strings.{strings_in}

-- ---- numbers

-- how many objects a font has
abbrev pub part_count : FontValues → ℕ
part_count v = length (objects_of v)

-- each is above 0, and none comes twice
abbrev pub are_distinct : List ℕ → Bool
are_distinct [] = true
are_distinct (n ∷ ns) = nat_lt 0 n && (not (is_listed ns n) && are_distinct ns)

-- numbers for `count` objects (7.3.10)
abbrev pub are_numbers : ℕ → List ℕ → Bool
are_numbers count ns = length ns == count && are_distinct ns

-- the numbers of the objects that others refer to, with a CIDToGIDMap as a stream or without, and with a CIDSet or
-- without
abbrev pub references_in : List ℕ → Bool → Bool → References
references_in ns has_map cid_set = record {
  cid_font = get_or ns 1 0;
  descriptor = get_or ns 2 0;
  program = get_or ns 3 0;
  to_unicode = get_or ns 4 0;
  cid_to_gid_map = get_or ns 5 0;
  cid_set = get_or ns (before_set has_map) 0;
  encoding = get_or ns (before_cmap has_map cid_set) 0;
}

-- ---- parts

pub record Part : Type 0 where
  pub role : Object
  pub number : ℕ
  -- of its dictionary, but for a stream's Length
  pub entries : List ℕ
  pub strings : List StringRange
  pub stream : Option (List ℕ)

abbrev pub part_of : Object → ℕ → FontValues → References → Part
part_of o n v r =
    record {
      role = o;
      number = n;
      entries = entries_of o v r;
      strings = strings_in (entries_of o v r);
      stream = bytes_of o v;
    }

abbrev pub parts_from : List Object → List ℕ → FontValues → References → List Part
parts_from [] ns v r = []
parts_from (o ∷ os) ns v r = part_of o (get_or ns 0 0) v r ∷ parts_from os (drop 1 ns) v r

-- the objects of a font that have these numbers
abbrev pub parts_of : FontValues → List ℕ → List Part
parts_of v ns = parts_from (objects_of v) ns v (references_in ns (is_some v.cid_to_gid_map) (is_some v.cid_set))

-- what the code makes
abbrev pub part_view : FontPart → Part
part_view p =
    record {
      role = p.role;
      number = p.number;
      entries = p.entries.items;
      strings = p.strings.items;
      stream = option_copied p.stream;
    }

abbrev pub parts_view : List FontPart → List Part
parts_view ps = map part_view ps

-- why there are none
abbrev pub HasNoParts : FontValues → List ℕ → PartsError → Type 0
HasNoParts v ns InvalidNumbers = are_numbers (part_count v) ns ≡ false
HasNoParts v ns (Subset e) = (are_numbers (part_count v) ns ≡ true) × IsRefused v.columns e

-- ---- the laws

-- the value of an object: its entries in brackets, for a stream with Length, and its bytes (7.3.8)
abbrev pub part_value : List ℕ → Option (List ℕ) → List ℕ
part_value entries stream = codes "<< " ++ (entries ++ value_end stream)

-- the object with its number
abbrev pub part_text : Part → List ℕ
part_text p = object_text p.number (part_value p.entries p.stream)

-- with numbers from one on the parts are the objects that are written one after the other
abbrev pub PartsAreObjects : Type 0
PartsAreObjects =
    (first : ℕ) (v : FontValues) → map part_text (parts_of v (numbers first 0 (objects_of v))) ≡ font_objects first v

-- others refer to each part by its number
abbrev pub PartsAreReferredTo : Type 0
PartsAreReferredTo =
    (v : FontValues) (ns : List ℕ) (k : ℕ) → k < part_count v
    → number_of (get_or ns 0 0) (references_in ns (is_some v.cid_to_gid_map) (is_some v.cid_set))
    (get_or (objects_of v) k Font)
    ≡ get_or ns k 0
