-- The cells of a table: what each says of the dicts that begin there.
use Rattle.std.proofs.Common.{◌≡◌, ℕ, zero, suc, ◌+◌, ◌-◌, ◌<◌, ◌≤◌, Bool, cond, List, [], ◌∷◌, ◌++◌, length, take, drop, Option, Some, None, refl, ap, subst, arith, ◌∙◌, sym, inl, inr, ◌⊎◌}
use Rattle.std.specs.Prelude.{slice_get, MatchOption}
use Rattle.std.specs.Option.{option_map_or, option_or}
use Rattle.std.proofs.lemmas.Bool.{le-leb, lt-leb, cases_lt}
use Rattle.std.proofs.lemmas.List.{length-drop, length-append, drop_all}
use Rattle.std.proofs.lemmas.Option.{none-some, same_Some}
use Rattle.subsetter_cffdata.specs.Numerals.Numbers.{Number}
use Rattle.subsetter_cffdata.specs.Dicts.Dict.{Token, Operand, Operator, token_at, Entry, entry_at, entry_in, entries, limited, operand_limit}
use Rattle.subsetter_cffdata.specs.Dicts.Tokens.{with_operands}
use Rattle.subsetter_cffdata.specs.Views.{operator_of}
use Rattle.subsetter_cffdata.proofs.DictsLaws.Entries.{entries_step}
use Rattle.subsetter_cffdata.proofs.DictsLaws.Shorter.{at_no_token, at_operator, at_operand, token_shorter}
use Rattle.subsetter_cff.specs.declared.read.entries.first_entries.EntryHere.{EntryHere}
use Rattle.subsetter_cff.specs.declared.read.entries.first_entries.Found.{Found}
use Rattle.subsetter_cff.specs.declared.read.entries.first_entries.Cell.{Cell}
use Rattle.subsetter_cff.specs.Read.Entries.FirstEntries.{Saying, only, first_said, last, is_bare, said_within, IsShorter, IsEntryHere, IsCell, AreCells}
use Rattle.subsetter_cff.proofs.ReadLaws.EntriesLaws.Cuts.{cut, entry_cut}

-- ---- the last bytes
pub size_of_last : (bytes : List ℕ) (at : ℕ) → at ≤ length bytes → length (last bytes at) ≡ at
size_of_last bytes at le = omega (arith, length-drop (length bytes - at) bytes)

pub last_from : (bytes : List ℕ) (end : ℕ) → drop end bytes ≡ last bytes (length bytes - end)
last_from bytes end =
    elim (cases_lt (length bytes) end) [
      | inl past ↦ drop_all end bytes (omega arith) ∙ sym (drop_all (length bytes - (length bytes - end)) bytes (omega arith))
      | inr inside ↦ ap (λ (n : ℕ). drop n bytes) (let e : end ≡ length bytes - (length bytes - end) = omega arith in e)
    ]

-- ---- the entries of the first n bytes, by the entry in front
abbrev with_entry : Option (Entry × List ℕ) → List Entry
with_entry o = option_map_or (λ e. limited e.0 ∷ entries e.1) o []

entries_cut : (d : List ℕ) (n : ℕ) (o : Option (Entry × List ℕ)) → n ≤ length d → entry_at d ≡ o → entries (take n d) ≡ with_entry (cut n d o)
entries_cut d n o le is = entries_step (take n d) ∙ ap with_entry ((entry_cut d).is n le ∙ ap (cut n d) is)

cut_off : (d r : List ℕ) (n : ℕ) (e : Entry) → n + length r < length d → with_entry (cut n d (Some (e, r))) ≡ []
cut_off d r n e lt = rw (lt-leb (length d) (n + length r) lt) refl

cut_in : (d r : List ℕ) (n : ℕ) (e : Entry) → length d ≤ n + length r → with_entry (cut n d (Some (e, r))) ≡ limited e ∷ entries (take (n + length r - length d) r)
cut_in d r n e le = rw (le-leb (length d) (n + length r) le) refl

only_few : (xs : List Number) → only (take operand_limit xs) ≡ only xs
only_few [] = refl
only_few (x ∷ []) = refl
only_few (x ∷ y ∷ more) = refl

pub off : (at n : ℕ) (f : Found) → n + f.left < at → None ≡ said_within at n (Some f)
off at n f lt = rw (lt-leb at (n + f.left) lt) refl

pub held : (at n : ℕ) (f : Found) → at ≤ n + f.left → Some f.value ≡ said_within at n (Some f)
held at n f le = rw (le-leb at (n + f.left) le) refl

-- ---- no entry
pub nothing_is : (said : Saying) (bytes : List ℕ) (at : ℕ) → at ≤ length bytes → entry_at (last bytes at) ≡ None → IsCell said bytes at (record { here = None; found = None })
nothing_is said bytes at le none = record {
  here = none;
  first = λ n less. ap (first_said said) (entries_cut (last bytes at) n None (omega (arith, size_of_last bytes at le)) none);
  shorter = tt;
}

-- ---- an entry
record IsEntry (bytes : List ℕ) (at : ℕ) (h : EntryHere) (operands : List Number) : Type 0 where
  is : entry_at (last bytes at) ≡ Some (record { operator = operator_of h.operator; operands = operands }, last bytes h.left)
  bare : h.bare ≡ is_bare operands
  shorter : h.left < at
  inside : at ≤ length bytes

here_of : (bytes : List ℕ) (at : ℕ) (h : EntryHere) (operands : List Number) → IsEntry bytes at h operands → IsEntryHere bytes at h
here_of bytes at h operands e = record { operands = operands; is = e.is; bare = e.bare; shorter = e.shorter }

-- what is said in the first n bytes: by the entry, or else after it
first_off : (said : Saying) (bytes : List ℕ) (at : ℕ) (h : EntryHere) (operands : List Number) (n : ℕ) → IsEntry bytes at h operands → n ≤ at → n + h.left < at
    → first_said said (entries (take n (last bytes at))) ≡ None
first_off said bytes at h operands n e le lt =
    let all = size_of_last bytes at e.inside in
    let rest = size_of_last bytes h.left (let s = e.shorter in let i = e.inside in omega (arith, s, i)) in
    ap (first_said said) (entries_cut (last bytes at) n _ (omega (arith, all, le)) e.is ∙ cut_off (last bytes at) (last bytes h.left) n _ (omega (arith, all, rest, lt)))

first_in : (said : Saying) (bytes : List ℕ) (at : ℕ) (h : EntryHere) (operands : List Number) (n : ℕ) → IsEntry bytes at h operands → n ≤ at → at ≤ n + h.left
    → first_said said (entries (take n (last bytes at))) ≡ option_or (said (operator_of h.operator) (only operands)) (first_said said (entries (take (n + h.left - at) (last bytes h.left))))
first_in said bytes at h operands n e le fits =
    let all = size_of_last bytes at e.inside in
    let rest = size_of_last bytes h.left (let s = e.shorter in let i = e.inside in omega (arith, s, i)) in
    let same : n + length (last bytes h.left) - length (last bytes at) ≡ n + h.left - at = omega (arith, all, rest) in
    ap (first_said said) (entries_cut (last bytes at) n _ (omega (arith, all, le)) e.is ∙ cut_in (last bytes at) (last bytes h.left) n _ (omega (arith, all, rest, fits)))
    ∙ ap (λ (m : ℕ). option_or (said (operator_of h.operator) (only (take operand_limit operands))) (first_said said (entries (take m (last bytes h.left))))) same
    ∙ ap (λ (x : Option Number). option_or (said (operator_of h.operator) x) (first_said said (entries (take (n + h.left - at) (last bytes h.left))))) (only_few operands)

pub said_here : (said : Saying) (bytes : List ℕ) (at : ℕ) (h : EntryHere) (operands : List Number) (v : Option ℕ) → at ≤ length bytes → h.left < at
    → entry_at (last bytes at) ≡ Some (record { operator = operator_of h.operator; operands = operands }, last bytes h.left) → h.bare ≡ is_bare operands
    → said (operator_of h.operator) (only operands) ≡ Some v → IsCell said bytes at (record { here = Some h; found = Some (record { value = v; left = h.left }) })
said_here said bytes at h operands v inside shorter is bare says =
    let e : IsEntry bytes at h operands = record { is = is; bare = bare; shorter = shorter; inside = inside } in
    record {
      here = here_of bytes at h operands e;
      first = λ n le. elim (cases_lt (n + h.left) at) [
        | inl lt ↦ first_off said bytes at h operands n e le lt ∙ off at n (record { value = v; left = h.left }) lt
        | inr fits ↦
            first_in said bytes at h operands n e le fits
            ∙ ap (λ (x : Option (Option ℕ)). option_or x (first_said said (entries (take (n + h.left - at) (last bytes h.left))))) says
            ∙ held at n (record { value = v; left = h.left }) fits
      ];
      shorter = shorter;
    }

after_off : (at left n : ℕ) (o : Option Found) → IsShorter o left → n + left < at → None ≡ said_within at n o
after_off at left n None s lt = refl
after_off at left n (Some f) s lt = off at n f (omega (arith, s, lt))

after_in : (at left n : ℕ) (o : Option Found) → at ≤ n + left → said_within left (n + left - at) o ≡ said_within at n o
after_in at left n None fits = refl
after_in at left n (Some f) fits =
    elim (cases_lt (n + f.left) at) [
      | inl lt ↦ sym (off left (n + left - at) f (omega (arith, lt, fits))) ∙ off at n f lt
      | inr le ↦ sym (held left (n + left - at) f (omega (arith, le, fits))) ∙ held at n f le
    ]

if_shorter : (o : Option Found) (left at : ℕ) → IsShorter o left → left < at → IsShorter o at
if_shorter None left at s lt = tt
if_shorter (Some f) left at s lt = omega (arith, s, lt)

pub said_after : (said : Saying) (bytes : List ℕ) (at : ℕ) (h : EntryHere) (operands : List Number) (c : Cell) → at ≤ length bytes → h.left < at
    → entry_at (last bytes at) ≡ Some (record { operator = operator_of h.operator; operands = operands }, last bytes h.left) → h.bare ≡ is_bare operands
    → said (operator_of h.operator) (only operands) ≡ None → IsCell said bytes h.left c → IsCell said bytes at (record { here = Some h; found = c.found })
said_after said bytes at h operands c inside shorter is bare says following =
    let e : IsEntry bytes at h operands = record { is = is; bare = bare; shorter = shorter; inside = inside } in
    record {
      here = here_of bytes at h operands e;
      first = λ n le. elim (cases_lt (n + h.left) at) [
        | inl lt ↦ first_off said bytes at h operands n e le lt ∙ after_off at h.left n c.found following.shorter lt
        | inr fits ↦
            first_in said bytes at h operands n e le fits
            ∙ ap (λ (x : Option (Option ℕ)). option_or x (first_said said (entries (take (n + h.left - at) (last bytes h.left))))) says
            ∙ following.first (n + h.left - at) (omega (arith, le))
            ∙ after_in at h.left n c.found fits
      ];
      shorter = if_shorter c.found h.left at following.shorter shorter;
    }

-- ---- by the first token
pub no_token : (bytes : List ℕ) (at : ℕ) → token_at (last bytes at) ≡ None → entry_at (last bytes at) ≡ None
no_token bytes at e = at_no_token (last bytes at) e

pub left_shorter : (bytes : List ℕ) (at end : ℕ) (t : Token) → at ≤ length bytes → token_at (last bytes at) ≡ Some (t, drop end bytes) → length bytes - end < at
left_shorter bytes at end t le e =
    let less = token_shorter (last bytes at) (drop end bytes) t e in
    omega (arith, less, size_of_last bytes at le, length-drop end bytes)

pub by_operator : (bytes : List ℕ) (at end : ℕ) (p : List ℕ) → token_at (last bytes at) ≡ Some (Operator p, drop end bytes)
    → entry_at (last bytes at) ≡ Some (record { operator = p; operands = [] }, last bytes (length bytes - end))
by_operator bytes at end p e = at_operator (last bytes at) p (drop end bytes) e ∙ ap (λ (r : List ℕ). Some (record { operator = p; operands = [] }, r)) (last_from bytes end)

pub by_operand : (bytes : List ℕ) (at end : ℕ) (x : Number) (o : Option (Entry × List ℕ)) → token_at (last bytes at) ≡ Some (Operand x, drop end bytes) → entry_at (last bytes (length bytes - end)) ≡ o
    → entry_at (last bytes at) ≡ with_operands (x ∷ []) o
by_operand bytes at end x o e is =
    at_operand (last bytes at) (drop end bytes) x e ∙ ap (λ (r : List ℕ). with_operands (x ∷ []) (entry_at r)) (last_from bytes end) ∙ ap (with_operands (x ∷ [])) is

pub only_bare : (b : Bool) (x : Number) (xs : List Number) → b ≡ is_bare xs → cond b (Some x) None ≡ only (x ∷ xs)
only_bare b x [] e = rw e refl
only_bare b x (y ∷ more) e = rw e refl

-- the entry of a cell
pub none_here : (bytes : List ℕ) (at : ℕ) (o : Option EntryHere) → o ≡ None → MatchOption o (entry_at (last bytes at) ≡ None) (λ h. IsEntryHere bytes at h) → entry_at (last bytes at) ≡ None
none_here bytes at None e is = is
none_here bytes at (Some h) e is = absurd (none-some h (sym e))

pub entry_here : (bytes : List ℕ) (at : ℕ) (o : Option EntryHere) (h : EntryHere) → o ≡ Some h → MatchOption o (entry_at (last bytes at) ≡ None) (λ h. IsEntryHere bytes at h) → IsEntryHere bytes at h
entry_here bytes at None h e is = absurd (none-some h e)
entry_here bytes at (Some k) h e is = subst (λ (x : EntryHere). IsEntryHere bytes at x) (same_Some k h e) is

-- ---- the list of cells
snoc : {X : Type 0} (xs : List X) (x y : X) (i : ℕ) → slice_get (xs ++ x ∷ []) i ≡ Some y → (slice_get xs i ≡ Some y) ⊎ ((i ≡ length xs) × (x ≡ y))
snoc [] x y zero e = inr (refl, same_Some x y e)
snoc [] x y (suc i) e = absurd (none-some y e)
snoc (z ∷ xs) x y zero e = inl e
snoc (z ∷ xs) x y (suc i) e = elim (snoc xs x y i e) [ inl there ↦ inl there | inr here ↦ inr (omega (arith, here.0), here.1) ]

pub one_more : (said : Saying) (bytes : List ℕ) (cells : List Cell) (c : Cell) (n : ℕ) → AreCells said bytes cells n → IsCell said bytes n c → AreCells said bytes (cells ++ c ∷ []) (n + 1)
one_more said bytes cells c n all is = record {
  len = omega (arith, all.len, length-append cells (c ∷ []));
  each = λ at d e. elim (snoc cells c d at e) [
    | inl there ↦ all.each at d there
    | inr here ↦ subst (λ (x : Cell). IsCell said bytes at x) here.1 (subst (λ (i : ℕ). IsCell said bytes i c) (let s : n ≡ at = omega (arith, here.0, all.len) in s) is)
  ];
}

no_bytes : entry_at [] ≡ None
unfolding entry_at entry_in
no_bytes = refl

only_cell : (said : Saying) (bytes : List ℕ) (at : ℕ) (d : Cell) → slice_get (record { here = None; found = None } ∷ []) at ≡ Some d → IsCell said bytes at d
only_cell said bytes zero d e =
    let none : last bytes 0 ≡ [] = drop_all (length bytes - 0) bytes (omega arith) in
    subst (λ (x : Cell). IsCell said bytes 0 x) (same_Some _ d e) (nothing_is said bytes 0 (omega arith) (ap entry_at none ∙ no_bytes))
only_cell said bytes (suc at) d e = absurd (none-some d e)

pub first_cell : (said : Saying) (bytes : List ℕ) → AreCells said bytes (record { here = None; found = None } ∷ []) 1
first_cell said bytes = record {
  len = refl;
  each = λ at d e. only_cell said bytes at d e;
}

pub found_is : (said : Saying) (bytes : List ℕ) (start n : ℕ) (c : Cell) → start + n ≤ length bytes → IsCell said bytes (length bytes - start) c
    → said_within (length bytes - start) n c.found ≡ first_said said (entries (take n (drop start bytes)))
found_is said bytes start n c inside is =
    sym (is.first n (omega arith)) ∙ ap (λ (k : ℕ). first_said said (entries (take n (drop k bytes)))) (let e : length bytes - (length bytes - start) ≡ start = omega arith in e)
