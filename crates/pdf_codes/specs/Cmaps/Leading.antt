-- Where the codes of a font lead (ISO 32000-1, 9.7.5).
use Rattle.std.specs.Prelude.{◌≡◌, ◌<◌, ℕ, zero, suc, ◌+◌, max, ◌==◌, ◌&&◌, if◌then◌else◌, List, [], ◌∷◌, ◌++◌, length}
use Rattle.std.specs.Prelude.{get_or, Option, Some, None, Bool, true}
use Rattle.std.specs.Option.{option_and_then, option_map}
use Rattle.pdf_text.specs.Cmaps.CmapName.{name_of_codes, named_text}
use Rattle.pdf_text.specs.Cmaps.Encoding.{Pair, codes_in}
use Rattle.pdf_text.specs.declared.cmaps.named.NamedCmap.{NamedCmap}

-- the CID of a code: that of the first pair which has the code
abbrev pub cid_of : List Pair → ℕ → Option ℕ
cid_of [] k = None
cid_of (p ∷ ps) k = if p.code == k then Some p.cid else cid_of ps k

-- a pair for a code that has a CID
abbrev pub pair_of : ℕ → Option ℕ → List Pair
pair_of k None = []
pair_of k (Some cid) = record { code = k; cid = cid } ∷ []

-- the pairs of the next n codes, in their order, from code k on
abbrev pub pairs_from : List Pair → ℕ → ℕ → List Pair
pairs_from ps k zero = []
pairs_from ps k (suc n) = pair_of k (cid_of ps k) ++ pairs_from ps (k + 1) n

-- one more than the greatest code
abbrev pub limit : List Pair → ℕ
limit [] = 0
limit (p ∷ ps) = max (p.code + 1) (limit ps)

-- a pair for each code, ascending
abbrev pub pairs_of_codes : List Pair → List Pair
pairs_of_codes ps = pairs_from ps 0 (limit ps)

-- the CID that a CMap has for a code
abbrev pub cid_in : List ℕ → ℕ → Option ℕ
cid_in cmap k = option_and_then (λ ps. cid_of ps k) (codes_in cmap)

-- ---- the CMap of a font

-- each code with its CID
abbrev pub zipped : List ℕ → List ℕ → List Pair
zipped (k ∷ ks) (cid ∷ cids) = record { code = k; cid = cid } ∷ zipped ks cids
zipped [] cids = []
zipped ks [] = []

-- and code 0 with CID 0
abbrev pub pairs_with : List ℕ → List ℕ → List Pair
pairs_with codes cids = record { code = 0; cid = 0 } ∷ zipped codes cids

-- whether each code is its CID
abbrev pub are_cids : List Pair → Bool
are_cids [] = true
are_cids (p ∷ ps) = p.code == p.cid && are_cids ps

-- none where each code is its CID: then the CMap is `Identity-H` or `Identity-V` (9.7.5.2)
abbrev pub own_cmap : Bool → List Pair → Option (List ℕ)
own_cmap vertical ps = if are_cids ps then None else Some (named_text vertical (pairs_of_codes ps))

abbrev pub own_name : Bool → List Pair → Option (List ℕ)
own_name vertical ps = if are_cids ps then None else Some (name_of_codes vertical (pairs_of_codes ps))

abbrev pub text_of : Option NamedCmap → Option (List ℕ)
text_of cmap = option_map (λ c. c.text.items) cmap

abbrev pub name_of : Option NamedCmap → Option (List ℕ)
name_of cmap = option_map (λ c. c.name.items) cmap

-- the CID that a code leads to: by the CMap, and without one that of its number
abbrev pub cid_of_code : Option (List ℕ) → ℕ → Option ℕ
cid_of_code None k = Some k
cid_of_code (Some cmap) k = cid_in cmap k

-- the code of each entry leads to its CID, and code 0 to CID 0
pub record AreLed (cmap : Option (List ℕ)) (codes cids : List ℕ) : Type 0 where
  pub zeroth : cid_of_code cmap 0 ≡ Some 0
  pub each : (i : ℕ) → i < length codes → cid_of_code cmap (get_or codes i 0) ≡ Some (get_or cids i 0)

-- ---- a table of CIDs by code

abbrev pub table_pairs : ℕ → List (Option ℕ) → List Pair
table_pairs k [] = []
table_pairs k (cid ∷ cids) = pair_of k cid ++ table_pairs (k + 1) cids
