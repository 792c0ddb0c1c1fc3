-- The indirect objects of a font (ISO 32000-1, 7.3.8 and 7.3.10), and where each begins.
use Rattle.std.specs.Prelude.{◌≡◌, ◌<◌, ℕ, ◌+◌, Bool, true, false, List, [], ◌∷◌, ◌++◌, map, length, get_or, Option}
use Rattle.std.specs.Prelude.{Some, None, is_some, codes, decimal, if◌then◌else◌}
use Rattle.std.specs.List.{concat}
use Rattle.std.specs.Option.{option_copied, option_map}
use Rattle.std.specs.Global.{Vec}
use Rattle.pdf_text.specs.declared.values.OwnCmap.{OwnCmap}
use Rattle.pdf_text.specs.declared.values.FontValues.{FontValues}
use Rattle.pdf_text.specs.declared.values.References.{References}
use Rattle.pdf_text.specs.declared.objects.Object.{Object}
use Rattle.pdf_text.specs.declared.objects.FontDictionaries.{FontDictionaries}
use Rattle.pdf_text.specs.declared.objects.Object.TheVariants.{Font, CidFont, FontDescriptor, FontFile, ToUnicode}
use Rattle.pdf_text.specs.declared.objects.Object.TheVariants.{CidToGidMap, CidSet, Cmap}
use Rattle.pdf_text.specs.Dictionaries.Descriptor.{descriptor_entries}
use Rattle.pdf_text.specs.Dictionaries.Entries.{entry, dictionary}
use Rattle.pdf_text.specs.Dictionaries.Fonts.{font_entries, cid_font_entries}
use Rattle.pdf_text.specs.Dictionaries.Streams.{program_entries, cmap_entries}

-- ---- what an object is

-- the entries of its dictionary, but for a stream's Length
abbrev pub entries_of : Object → FontValues → References → List ℕ
entries_of Font v r = font_entries v r
entries_of CidFont v r = cid_font_entries v r
entries_of FontDescriptor v r = descriptor_entries v r
entries_of FontFile v r = program_entries v.kind (length v.program.now)
entries_of ToUnicode v r = []
entries_of CidToGidMap v r = []
entries_of CidSet v r = []
entries_of Cmap v r = cmap_entries v.encoding (is_some v.columns)

abbrev pub text_of_cmap : Option OwnCmap → Option (List ℕ)
text_of_cmap (Some cmap) = Some cmap.text.now
text_of_cmap None = None

-- the bytes of a stream
abbrev pub bytes_of : Object → FontValues → Option (List ℕ)
bytes_of Font v = None
bytes_of CidFont v = None
bytes_of FontDescriptor v = None
bytes_of FontFile v = Some v.program.now
bytes_of ToUnicode v = Some v.to_unicode.now
bytes_of CidToGidMap v = option_copied v.cid_to_gid_map
bytes_of CidSet v = option_copied v.cid_set
bytes_of Cmap v = text_of_cmap v.encoding

-- the end of a stream's dictionary, and its bytes (7.3.8.1)
abbrev pub stream_end : List ℕ → List ℕ
stream_end bytes =
    entry (codes "Length") (decimal (length bytes)) ++ (codes ">>\nstream\n" ++ (bytes ++ codes "\nendstream"))

abbrev pub value_end : Option (List ℕ) → List ℕ
value_end None = codes ">>"
value_end (Some bytes) = stream_end bytes

abbrev pub value_of : Object → FontValues → References → List ℕ
value_of o v r = codes "<< " ++ (entries_of o v r ++ value_end (bytes_of o v))

-- an indirect object with its number (7.3.10)
abbrev pub object_text : ℕ → List ℕ → List ℕ
object_text n value = decimal n ++ (codes " 0 obj\n" ++ (value ++ codes "\nendobj\n"))

-- ---- which objects there are, and their numbers

abbrev pub when : Bool → Object → List Object
when true o = o ∷ []
when false o = []

abbrev pub objects_by : Bool → Bool → Bool → List Object
objects_by has_map cid_set cmap =
    Font ∷ CidFont ∷ FontDescriptor ∷ FontFile ∷ ToUnicode
    ∷ (when has_map CidToGidMap ++ (when cid_set CidSet ++ when cmap Cmap))

abbrev pub objects_of : FontValues → List Object
objects_of v = objects_by (is_some v.cid_to_gid_map) (is_some v.cid_set) (is_some v.encoding)

-- how many objects such a font has at most: eight with a CIDToGIDMap as a stream, seven without
abbrev pub most_objects : FontValues → ℕ
most_objects v = 7 + length (when (is_some v.cid_to_gid_map) CidToGidMap)

-- how many objects are before a CIDSet, and before a CMap
abbrev pub before_set : Bool → ℕ
before_set has_map = 5 + length (when has_map CidToGidMap)

abbrev pub before_cmap : Bool → Bool → ℕ
before_cmap has_map cid_set = before_set has_map + length (when cid_set CidSet)

abbrev pub references_by : ℕ → Bool → Bool → References
references_by first has_map cid_set =
    record {
      cid_font = first + 1;
      descriptor = first + 2;
      program = first + 3;
      to_unicode = first + 4;
      cid_to_gid_map = first + 5;
      cid_set = first + before_set has_map;
      encoding = first + before_cmap has_map cid_set;
    }

abbrev pub references_from : ℕ → FontValues → References
references_from first v = references_by first (is_some v.cid_to_gid_map) (is_some v.cid_set)

-- the number by which others refer to an object
abbrev pub number_of : ℕ → References → Object → ℕ
number_of first r Font = first
number_of first r CidFont = r.cid_font
number_of first r FontDescriptor = r.descriptor
number_of first r FontFile = r.program
number_of first r ToUnicode = r.to_unicode
number_of first r CidToGidMap = r.cid_to_gid_map
number_of first r CidSet = r.cid_set
number_of first r Cmap = r.encoding

-- the numbers of objects, after `before` others
abbrev pub numbers : ℕ → ℕ → List Object → List ℕ
numbers first before [] = []
numbers first before (o ∷ os) = (first + before) ∷ numbers first (before + 1) os

-- each object is referred to by the number that it has
abbrev pub AreReferredTo : Type 0
AreReferredTo =
    (first : ℕ) (v : FontValues)
    → map (number_of first (references_from first v)) (objects_of v) ≡ numbers first 0 (objects_of v)

-- ---- one after the other

-- with numbers from one on
abbrev pub objects_from : ℕ → List (List ℕ) → List (List ℕ)
objects_from n [] = []
objects_from n (value ∷ values) = object_text n value ∷ objects_from (n + 1) values

-- where each of some texts begins, after `before` bytes
abbrev pub offsets_from : ℕ → List (List ℕ) → List ℕ
offsets_from before [] = []
offsets_from before (t ∷ ts) = before ∷ offsets_from (before + length t) ts

abbrev pub values_of : FontValues → References → List Object → List (List ℕ)
values_of v r os = map (λ o. value_of o v r) os

-- the texts of a font's objects
abbrev pub font_objects : ℕ → FontValues → List (List ℕ)
font_objects first v = objects_from first (values_of v (references_from first v) (objects_of v))

-- ---- the law

-- from one offset of a text to another there is an object: its number, its value, and nothing else
pub record IsObjectAt (text : List ℕ) (offset end n : ℕ) (value : List ℕ) : Type 0 where
  pub before : List ℕ
  pub after : List ℕ
  pub whole : text ≡ before ++ (object_text n value ++ after)
  pub begins : length before ≡ offset
  pub ends : offset + length (object_text n value) ≡ end

-- each object goes from its offset to that of the next, or to the end of the text
abbrev pub AreAt : Type 0
AreAt =
    (first : ℕ) (values : List (List ℕ)) (k : ℕ) → k < length values
    → let ts = objects_from first values in
    IsObjectAt (concat ts) (get_or (offsets_from 0 ts) k 0)
    (get_or (offsets_from 0 ts) (k + 1) (length (concat ts))) (first + k) (get_or values k [])

-- the objects of a font are at the offsets
abbrev pub AreFontObjectsAt : ℕ → FontValues → List ℕ → List ℕ → Type 0
AreFontObjectsAt first v text offsets =
    (k : ℕ) → k < length (objects_of v)
    → IsObjectAt text (get_or offsets k 0) (get_or offsets (k + 1) (length text))
    (first + k) (get_or (values_of v (references_from first v) (objects_of v)) k [])

-- ---- dictionaries alone

-- a dictionary, if it is wanted
abbrev pub IsDictionaryWhen : Bool → List ℕ → Option (Vec ℕ) → Type 0
IsDictionaryWhen wanted entries text =
    option_map (λ (t : Vec ℕ). t.items) text ≡ (if wanted then Some (dictionary entries) else None)

pub record AreDictionaries (v : FontValues) (r : References) (d : FontDictionaries) : Type 0 where
  pub font : d.font.items ≡ dictionary (entries_of Font v r)
  pub cid_font : d.cid_font.items ≡ dictionary (entries_of CidFont v r)
  pub descriptor : d.descriptor.items ≡ dictionary (entries_of FontDescriptor v r)
  pub program : d.program.items ≡ dictionary (entries_of FontFile v r)
  pub to_unicode : d.to_unicode.items ≡ dictionary (entries_of ToUnicode v r)
  pub cid_to_gid_map : IsDictionaryWhen (is_some v.cid_to_gid_map) (entries_of CidToGidMap v r) d.cid_to_gid_map
  pub cid_set : IsDictionaryWhen (is_some v.cid_set) (entries_of CidSet v r) d.cid_set
  pub encoding : IsDictionaryWhen (is_some v.encoding) (entries_of Cmap v r) d.encoding
