-- What is read of an INDEX depends on its own bytes alone, so these bytes are read again whatever follows them.
use Rattle.std.proofs.Common.{◌≡◌, ℕ, ◌+◌, ◌-◌, ◌*◌, Bool, true, false, cond, eqb, ltb, List, [], ◌∷◌, ◌++◌, take, drop, length, Option, Some, refl, ap, arith, ◌∙◌, sym, subst, append_assoc, length-append}
use Rattle.std.specs.Option.{option_and_then}
use Rattle.std.specs.Int.{is_in_range}
use Rattle.std.proofs.lemmas.Bool.{ltb-false}
use Rattle.std.proofs.lemmas.List.{take-append-drop, take_at, length-take-le}
use Rattle.std.proofs.lemmas.Option.{none-some, same_Some, some_pair_parts}
use Rattle.subsetter_base.specs.Bytes.{be, byte}
use Rattle.subsetter_cffdata.specs.Bytes.{card, part, ReadAgain}
use Rattle.subsetter_cffdata.specs.Indexes.Index.{offset_at, entries, offsets_limit, index_data, index_body, is_no_count, index_of, index_at}
use Rattle.subsetter_cffdata.proofs.NumeralsLaws.Cards.{byte_again, part_again}
use Rattle.subsetter_cffdata.proofs.Options.{step, unless, when}
use Rattle.subsetter_cff.specs.Read.Cff.{past_header, name_index, before, name_bytes}

-- ---- of bytes, those that were read
pub record Local {X : Type 0} (read : List ℕ → Option (X × List ℕ)) (bytes : List ℕ) (x : X) (rest : List ℕ) : Type 0 where
  pub text : List ℕ
  pub is : bytes ≡ text ++ rest
  pub again : ReadAgain read text x

part_of : (n : ℕ) (bytes : List ℕ) (p : List ℕ × List ℕ) → ltb (length bytes) n ≡ false → take n bytes ≡ p.0 → drop n bytes ≡ p.1 → (length p.0 ≡ n) × (bytes ≡ p.0 ++ p.1)
part_of n bytes p long front back =
    (ap length (sym front) ∙ length-take-le n bytes (ltb-false (length bytes) n long), sym (take-append-drop n bytes) ∙ rw (front, back) refl)

-- the parts that are read
pub part_is : (n : ℕ) (bytes : List ℕ) (p : List ℕ × List ℕ) → part n bytes ≡ Some p → (length p.0 ≡ n) × (bytes ≡ p.0 ++ p.1)
unfolding part
part_is n bytes p e =
    let u = unless (ltb (length bytes) n) _ p e in
    let parts = some_pair_parts _ _ _ _ u.1 in
    part_of n bytes p u.0 parts.0 parts.1

card_of : (k : ℕ) (p rest : List ℕ) → length p ≡ k → card k (p ++ rest) ≡ Some (be p, rest)
unfolding card
card_of k p rest len = rw (part_again p k (sym len) rest) refl

-- the INDEX's data
data_of : (size count : ℕ) (offs object_data more : List ℕ) → ltb offsets_limit ((count + 1) * size) ≡ false → length offs ≡ (count + 1) * size → length object_data ≡ offset_at size offs count - 1
    → index_data size count ((offs ++ object_data) ++ more) ≡ Some (cond (eqb (offset_at size offs count) 0) [] (entries size count offs object_data), more)
unfolding index_data
data_of size count offs object_data more few len len' =
    rw (append_assoc offs object_data more, few, part_again offs ((count + 1) * size) (sym len) (object_data ++ more), part_again object_data (offset_at size offs count - 1) (sym len') more) refl

data_made : (size count : ℕ) (bytes : List ℕ) (offs object_data : List ℕ × List ℕ) (x : List (Option (List ℕ)) × List ℕ) → ltb offsets_limit ((count + 1) * size) ≡ false
    → (length offs.0 ≡ (count + 1) * size) × (bytes ≡ offs.0 ++ offs.1) → (length object_data.0 ≡ offset_at size offs.0 count - 1) × (offs.1 ≡ object_data.0 ++ object_data.1)
    → (cond (eqb (offset_at size offs.0 count) 0) [] (entries size count offs.0 object_data.0), object_data.1) ≡ x → Local (index_data size count) bytes x.0 x.1
data_made size count bytes offs object_data x few a b same =
    subst (λ y. Local (index_data size count) bytes y.0 y.1) same
    (record {
      text = offs.0 ++ object_data.0;
      is = a.1 ∙ ap (λ (l : List ℕ). offs.0 ++ l) b.1 ∙ sym (append_assoc offs.0 object_data.0 object_data.1);
      again = λ more. data_of size count offs.0 object_data.0 more few a.0 b.0;
    })

data_local : (size count : ℕ) (bytes : List ℕ) (x : List (Option (List ℕ)) × List ℕ) → index_data size count bytes ≡ Some x → Local (index_data size count) bytes x.0 x.1
unfolding index_data
data_local size count bytes x e =
    let u = unless (ltb offsets_limit ((count + 1) * size)) _ x e in
    let a = step (part ((count + 1) * size) bytes) _ x u.1 in
    let b = step (part (offset_at size a.0.0 count - 1) a.0.1) _ x a.1.1 in
    data_made size count bytes a.0 b.0 x u.0 (part_is ((count + 1) * size) bytes a.0 a.1.0) (part_is (offset_at size a.0.0 count - 1) a.0.1 b.0 b.1.0) (same_Some _ _ b.1.1)

-- its body
body_made : (count size : ℕ) (bytes : List ℕ) (x : List (Option (List ℕ))) (rest : List ℕ) → is_in_range 1 4 size ≡ true → Local (index_data size count) bytes x rest → Local (index_body count) (size ∷ bytes) x rest
unfolding index_body
body_made count size bytes x rest fits l = record { text = size ∷ l.text; is = ap (λ (b : List ℕ). size ∷ b) l.is; again = λ more. rw (byte_again size (l.text ++ more), fits) (l.again more) }

body_local : (count : ℕ) (bytes : List ℕ) (x : List (Option (List ℕ)) × List ℕ) → index_body count bytes ≡ Some x → Local (index_body count) bytes x.0 x.1
unfolding index_body byte
body_local count [] x e = absurd (none-some x e)
body_local count (size ∷ bytes) x e =
    let w = when (is_in_range 1 4 size) _ x e in
    body_made count size bytes x.0 x.1 w.0 (data_local size count bytes x w.1)

-- the whole
none_made : (p rest : List ℕ) → length p ≡ 2 → is_no_count (be p) ≡ true → Local index_at (p ++ rest) [] rest
unfolding index_of
none_made p rest len none = record { text = p; is = refl; again = λ more. rw (card_of 2 p more len, none) refl }

some_made : (p bytes : List ℕ) (x : List (Option (List ℕ))) (rest : List ℕ) → length p ≡ 2 → is_no_count (be p) ≡ false → Local (index_body (be p)) bytes x rest → Local index_at (p ++ bytes) x rest
unfolding index_of
some_made p bytes x rest len some l = record {
  text = p ++ l.text;
  is = ap (λ (b : List ℕ). p ++ b) l.is ∙ sym (append_assoc p l.text rest);
  again = λ more. rw (append_assoc p l.text more, card_of 2 p (l.text ++ more) len, some) (l.again more);
}

by_count : (p bytes : List ℕ) (x : List (Option (List ℕ)) × List ℕ) (b : Bool) → is_no_count (be p) ≡ b → length p ≡ 2 → cond b (Some ([], bytes)) (index_body (be p) bytes) ≡ Some x → Local index_at (p ++ bytes) x.0 x.1
by_count p bytes x true is len e = subst (λ y. Local index_at (p ++ bytes) y.0 y.1) (same_Some _ _ e) (none_made p bytes len is)
by_count p bytes x false is len e = some_made p bytes x.0 x.1 len is (body_local (be p) bytes x e)

index_made : (bytes : List ℕ) (p : List ℕ × List ℕ) (x : List (Option (List ℕ)) × List ℕ) → (length p.0 ≡ 2) × (bytes ≡ p.0 ++ p.1)
    → cond (is_no_count (be p.0)) (Some ([], p.1)) (index_body (be p.0) p.1) ≡ Some x → Local index_at bytes x.0 x.1
index_made bytes p x parts e = subst (λ b. Local index_at b x.0 x.1) (sym parts.1) (by_count p.0 p.1 x (is_no_count (be p.0)) refl parts.0 e)

with_count : (bytes : List ℕ) (p : List ℕ × List ℕ) (c : ℕ × List ℕ) (x : List (Option (List ℕ)) × List ℕ) → (length p.0 ≡ 2) × (bytes ≡ p.0 ++ p.1) → (be p.0, p.1) ≡ c
    → cond (is_no_count c.0) (Some ([], c.1)) (index_body c.0 c.1) ≡ Some x → Local index_at bytes x.0 x.1
with_count bytes p c x parts same e = index_made bytes p x parts (subst (λ d. cond (is_no_count d.0) (Some ([], d.1)) (index_body d.0 d.1) ≡ Some x) (sym same) e)

pub index_local : (bytes : List ℕ) (x : List (Option (List ℕ)) × List ℕ) → index_at bytes ≡ Some x → Local index_at bytes x.0 x.1
unfolding index_of card
index_local bytes x e =
    let a = step (option_and_then (λ p. Some (be p.0, p.1)) (part 2 bytes)) _ x e in
    let b = step (part 2 bytes) _ a.0 a.1.0 in
    with_count bytes b.0 a.0 x (part_is 2 bytes b.0 b.1.0) (same_Some _ _ b.1.1) a.1.1

-- ---- the Name INDEX
text_is : (text rest : List ℕ) → before (text ++ rest) rest ≡ text
text_is text rest = take_at text rest (length (text ++ rest) - length rest) (omega (arith, length-append text rest))

named : (start : List ℕ) (x : List (Option (List ℕ)) × List ℕ) (names : List ℕ) → Local index_at start x.0 x.1 → before start x.1 ≡ names → ReadAgain index_at names x.0
named start x names l e = subst (λ t. ReadAgain index_at t x.0) (sym (text_is l.text x.1) ∙ ap (λ (b : List ℕ). before b x.1) (sym l.is) ∙ e) l.again

-- the bytes of the Name INDEX are those of an INDEX
pub names_again : (bytes names : List ℕ) → name_bytes bytes ≡ Some names → (es : List (Option (List ℕ))) × ReadAgain index_at names es
unfolding name_bytes name_index
names_again bytes names e =
    let a = step (past_header bytes) _ names e in
    let b = step (option_and_then index_at (past_header bytes)) _ names a.1.1 in
    let c = step (past_header bytes) index_at b.0 b.1.0 in
    let same = same_Some _ _ (sym a.1.0 ∙ c.1.0) in
    (b.0.0, named a.0 b.0 names (index_local a.0 b.0 (ap index_at same ∙ c.1.1)) (same_Some _ _ b.1.1))
