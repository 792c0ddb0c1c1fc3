-- The members of a request.
use Rattle.std.specs.Prelude.{ℕ, Bool, true, false, ◌||◌, if◌then◌else◌, List, [], ◌∷◌, Option, Some, None, codes}
use Rattle.std.specs.Str.{bytes_eq}
use Rattle.subset_batch.specs.declared.kinds.Kind.{Kind}
use Rattle.subset_batch.specs.declared.kinds.Kind.TheVariants.{Source, Flag, Single, Multiple}

-- what a value says (section 3): nothing for `false` and `null`, `true`, the text of a string or of a number as it is
-- written, or the texts of an array
pub data Value : Type 0 where
  absent : Value
  present : Value
  text : List ℕ → Value
  texts : List (List ℕ) → Value

pub record Member : Type 0 where
  pub name : List ℕ
  pub value : Value

-- the options without a value
unfoldable pub flag_of : List ℕ → Option Kind
flag_of name =
    if bytes_eq name (codes "widths") then Some Flag
    else if bytes_eq name (codes "no-hinting") then Some Flag
    else if bytes_eq name (codes "no-names") then Some Flag
    else if bytes_eq name (codes "no-glyph-names") then Some Flag
    else if bytes_eq name (codes "small") then Some Flag
    else if bytes_eq name (codes "json") then Some Flag
    else if bytes_eq name (codes "quiet") then Some Flag
    else if bytes_eq name (codes "verbose") then Some Flag
    else if bytes_eq name (codes "vertical") then Some Flag
    else if bytes_eq name (codes "strict") then Some Flag
    else if bytes_eq name (codes "allow-blank") then Some Flag
    else None

-- the options with a value that commas may divide
unfoldable pub list_of : List ℕ → Option Kind
list_of name =
    if bytes_eq name (codes "gids") then Some Multiple
    else if bytes_eq name (codes "unicodes") then Some Multiple
    else if bytes_eq name (codes "at") then Some Multiple
    else if bytes_eq name (codes "limits") then Some Multiple
    else None

-- IN, and the options with another value
unfoldable pub single_of : List ℕ → Option Kind
single_of name =
    if bytes_eq name (codes "in") then Some Source
    else if bytes_eq name (codes "out") then Some Single
    else if bytes_eq name (codes "output-file") then Some Single
    else if bytes_eq name (codes "index") then Some Single
    else if bytes_eq name (codes "face-index") then Some Single
    else if bytes_eq name (codes "text") then Some Single
    else if bytes_eq name (codes "text-file") then Some Single
    else if bytes_eq name (codes "gids-file") then Some Single
    else if bytes_eq name (codes "unicodes-file") then Some Single
    else if bytes_eq name (codes "pdf") then Some Single
    else if bytes_eq name (codes "codes") then Some Single
    else if bytes_eq name (codes "rights") then Some Single
    else None

abbrev pub or_kind : Option Kind → Option Kind → Option Kind
or_kind (Some kind) other = Some kind
or_kind None other = other

-- what a member of this name requests
unfoldable pub kind_of : List ℕ → Option Kind
kind_of name = or_kind (flag_of name) (or_kind (list_of name) (single_of name))

-- whether a value is one that a member of this kind may have
unfoldable pub fits : Kind → Value → Bool
fits kind absent = true
fits Flag present = true
fits Flag (text t) = false
fits Flag (texts ts) = false
fits Multiple present = false
fits Multiple (text t) = true
fits Multiple (texts ts) = true
fits Single present = false
fits Single (text t) = true
fits Single (texts ts) = false
fits Source present = false
fits Source (text t) = true
fits Source (texts ts) = false

-- whether one of the members has this name
abbrev pub has_name : List ℕ → List Member → Bool
has_name name [] = false
has_name name (m ∷ members) = bytes_eq m.name name || has_name name members

-- the first name that a later member has too (section 4: names should be unique)
abbrev pub repeated : List Member → Option (List ℕ)
repeated [] = None
repeated (m ∷ members) = if has_name m.name members then Some m.name else repeated members
