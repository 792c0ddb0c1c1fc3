-- What members request, as the words of a command line: options with their values, and IN after `--`, which is no
-- option whatever it looks like.
use Rattle.std.specs.Prelude.{ℕ, Bool, if◌then◌else◌, List, [], ◌∷◌, ◌++◌, codes}
use Rattle.std.specs.Str.{bytes_eq}
use Rattle.subset_batch.specs.Members.{Value, absent, present, text, texts, Member}

abbrev pub is_input : List ℕ → Bool
is_input name = bytes_eq name (codes "in")

-- the option of a name
abbrev pub option_of : List ℕ → List ℕ
option_of name =
    if bytes_eq name (codes "out") then codes "-o"
    else if bytes_eq name (codes "index") then codes "--face-index"
    else codes "--" ++ name

-- texts with a comma between each two, and this before the first
abbrev pub joined : List ℕ → List (List ℕ) → List ℕ
joined before [] = []
joined before (t ∷ ts) = (before ++ t) ++ joined (codes ",") ts

abbrev pub value_words : List ℕ → Value → List (List ℕ)
value_words option absent = []
value_words option present = option ∷ []
value_words option (text t) = option ∷ t ∷ []
value_words option (texts ts) = option ∷ joined [] ts ∷ []

abbrev pub input_words : Value → List (List ℕ)
input_words absent = []
input_words present = []
input_words (text t) = codes "--" ∷ t ∷ []
input_words (texts ts) = []

abbrev pub words_of : Member → List (List ℕ)
words_of m = if is_input m.name then [] else value_words (option_of m.name) m.value

abbrev pub input_of : Member → List (List ℕ)
input_of m = if is_input m.name then input_words m.value else []

-- the options of members, in order
abbrev pub option_words : List Member → List (List ℕ)
option_words [] = []
option_words (m ∷ members) = words_of m ++ option_words members

-- IN
abbrev pub last_words : List Member → List (List ℕ)
last_words [] = []
last_words (m ∷ members) = input_of m ++ last_words members

abbrev pub request_words : List Member → List (List ℕ)
request_words members = option_words members ++ last_words members
