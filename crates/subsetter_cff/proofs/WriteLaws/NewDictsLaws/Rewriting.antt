-- Entries of a DICT that are written again, one after the other.
use Rattle.std.proofs.Common.{◌≡◌, ◌≢◌, ℕ, ◌-◌, ◌<◌, ◌≤◌, Bool, true, false, cond, ◌||◌, List, [], ◌∷◌, ◌++◌, map, length, take, Option, Some, None, Result, Ok, Err, refl, ap, ◌∙◌, sym, append_assoc, length-append, arith}
use Rattle.std.specs.List.{list_any}
use Rattle.std.specs.Option.{option_map, option_map_or, option_or}
use Rattle.std.specs.Str.{bytes_eq}
use Rattle.std.proofs.lemmas.Option.{none-some, same_Some}
use Rattle.std.proofs.lemmas.List.{append-nil}
use Rattle.subsetter_base.specs.Bytes.{◌>>=◌}
use Rattle.subsetter_base.specs.Refusals.{first_refusal}
use Rattle.subsetter_base.specs.declared.error.Error.{Error}
use Rattle.subsetter_base.specs.declared.error.Error.TheVariants.{OverflowError}
use Rattle.subsetter_cffdata.specs.declared.numerals.number.Number.{Number as StoredNumber}
use Rattle.subsetter_cffdata.specs.Numerals.Numbers.{Number, is_too_long}
use Rattle.subsetter_cffdata.specs.Dicts.Dict.{Entry, entry_bytes, dict, entry_at, entries, limited, operand_limit}
use Rattle.subsetter_cffdata.specs.Dicts.Operands.{operands_at}
use Rattle.subsetter_cffdata.specs.Dicts.Plain.{plain_at, IsEntryAndRest, plain_entry}
use Rattle.subsetter_cffdata.specs.Dicts.Tokens.{operator_part}
use Rattle.subsetter_cffdata.specs.Views.{number_of}
use Rattle.subsetter_cffdata.proofs.DictsLaws.Entries.{entries_step, entry_shorter}
use Rattle.subsetter_cffdata.proofs.DictsLaws.Plains.{entry_stands, front_of, plain_operator, plain_operands}
use Rattle.subsetter_cff.specs.Write.Laying.Layout.{rewritten_entries}
use Rattle.subsetter_cff.specs.Read.Entries.Lookup.{without}
use Rattle.subsetter_cff.specs.Read.Entries.Operators.{subroutines_operator}
use Rattle.subsetter_cff.specs.Write.NewDicts.Rewritten.{is_refused, written_entries, written_entry, written_if_there, rewritten_private, IsCopied, Rewrites}
use Rattle.subsetter_base.specs.Gives.{following}

-- ---- an entry
refused_or : (b c : Bool) (o : Option Error) → o ≡ cond c (Some OverflowError) None → option_or (cond b (Some OverflowError) None) o ≡ cond (b || c) (Some OverflowError) None
refused_or true c o e = refl
refused_or false c o e = e

pub refusal_is : (xs : List StoredNumber) → first_refusal (λ x. cond (is_too_long (number_of x)) (Some OverflowError) None) xs ≡ cond (list_any is_too_long (map number_of xs)) (Some OverflowError) None
refusal_is [] = refl
refusal_is (x ∷ xs) = refused_or (is_too_long (number_of x)) (list_any is_too_long (map number_of xs)) _ (refusal_is xs)

-- ---- an entry before others
in_front : (b c : Bool) (front here more : List ℕ) → following front (cond (b || c) (Err OverflowError) (Ok (here ++ more)))
    ≡ (following front (cond b (Err OverflowError) (Ok here)) >>= λ new. following new (cond c (Err OverflowError) (Ok more)))
in_front true c front here more = refl
in_front false true front here more = refl
in_front false false front here more = ap (λ (l : List ℕ). Ok l) (sym (append_assoc front here more))

pub entry_in_front : (front : List ℕ) (e : Entry) (es : List Entry) → following front (written_entries (e ∷ es)) ≡ (following front (written_entry e.operator e.operands) >>= λ new. following new (written_entries es))
unfolding written_entries written_entry
entry_in_front front e es = in_front (is_refused e) (list_any is_refused es) front (entry_bytes (plain_entry e.operator e.operands)) (dict (rewritten_entries es))

pub no_entries : (front : List ℕ) → following front (written_entries []) ≡ Ok front
unfolding written_entries
no_entries front = ap (λ (l : List ℕ). Ok l) (append-nil front)

-- ---- the entries of bytes
pub record Found (bytes operator rest : List ℕ) : Type 0 where
  pub entry : Entry
  pub is : entry_at bytes ≡ Some (entry, rest)
  pub same : entry.operator ≡ operator

found_by : (bytes operator rest : List ℕ) (o : Option (Entry × List ℕ)) → entry_at bytes ≡ o → operator_part o ≡ Some (operator, rest) → Found bytes operator rest
found_by bytes operator rest None is h = absurd (none-some (operator, rest) h)
found_by bytes operator rest (Some e) is h =
    let both : (e.0.operator, e.1) ≡ (operator, rest) = same_Some _ _ h in
    record {
      entry = e.0;
      is = is ∙ ap (λ (r : List ℕ × List ℕ). Some (e.0, r.1)) both;
      same = ap (λ (r : List ℕ × List ℕ). r.0) both;
    }

pub found : (bytes operator rest : List ℕ) → operator_part (entry_at bytes) ≡ Some (operator, rest) → Found bytes operator rest
found bytes operator rest h = found_by bytes operator rest (entry_at bytes) refl h

pub shorter : (bytes operator rest : List ℕ) → operator_part (entry_at bytes) ≡ Some (operator, rest) → length rest < length bytes
shorter bytes operator rest h = let f = found bytes operator rest h in entry_shorter bytes (f.entry, rest) f.is

pub entries_are : (bytes rest : List ℕ) (e : Entry) → entry_at bytes ≡ Some (e, rest) → entries bytes ≡ limited e ∷ entries rest
entries_are bytes rest e is = entries_step bytes ∙ ap (λ (o : Option (Entry × List ℕ)). option_map_or (λ e. limited e.0 ∷ entries e.1) o []) is

pub none_left : (o : Option (Entry × List ℕ)) → operator_part o ≡ None → option_map_or (λ e. limited e.0 ∷ entries e.1) o [] ≡ []
none_left None h = refl
none_left (Some e) h = absurd (none-some (e.0.operator, e.1) (sym h))

-- an entry of subroutines is left out
pub left_out : (front bytes operator rest : List ℕ) → operator_part (entry_at bytes) ≡ Some (operator, rest) → bytes_eq operator subroutines_operator ≡ true
    → following front (written_entries (without subroutines_operator (entries bytes))) ≡ following front (written_entries (without subroutines_operator (entries rest)))
left_out front bytes operator rest h out =
    let f = found bytes operator rest h in
    rw (entries_are bytes rest f.entry f.is, f.same, out) refl

taken_as : (front bytes rest : List ℕ) (e : Entry) → entry_at bytes ≡ Some (e, rest) → bytes_eq e.operator subroutines_operator ≡ false
    → (following front (written_if_there e.operator (operands_at operand_limit bytes)) >>= λ new. following new (written_entries (without subroutines_operator (entries rest))))
    ≡ following front (written_entries (without subroutines_operator (entries bytes)))
unfolding operands_at
taken_as front bytes rest e is out =
    rw (entries_are bytes rest e is, is, out) (sym (entry_in_front front (limited e) (without subroutines_operator (entries rest))))

-- any other is written
pub taken : (front bytes operator rest : List ℕ) → operator_part (entry_at bytes) ≡ Some (operator, rest) → bytes_eq operator subroutines_operator ≡ false
    → (following front (written_if_there operator (operands_at operand_limit bytes)) >>= λ new. following new (written_entries (without subroutines_operator (entries rest))))
    ≡ following front (written_entries (without subroutines_operator (entries bytes)))
taken front bytes operator rest h out =
    let f = found bytes operator rest h in
    ap (λ (o : List ℕ). following front (written_if_there o (operands_at operand_limit bytes)) >>= λ new. following new (written_entries (without subroutines_operator (entries rest)))) (sym f.same)
    ∙ taken_as front bytes rest f.entry f.is (ap (λ (l : List ℕ). bytes_eq l subroutines_operator) f.same ∙ out)

pub at_end : (front bytes : List ℕ) → operator_part (entry_at bytes) ≡ None → following front (written_entries (without subroutines_operator (entries bytes))) ≡ Ok front
at_end front bytes h = rw (entries_step bytes, none_left (entry_at bytes) h) (no_entries front)

-- the same, as the parser says it: the buffer's room, and the operands that it shows
pub taken_by : (front bytes operator rest : List ℕ) (limit : ℕ) (xs : List Number) → operator_part (entry_at bytes) ≡ Some (operator, rest) → bytes_eq operator subroutines_operator ≡ false → limit ≡ operand_limit → Some xs ≡ operands_at limit bytes
    → (following front (written_entry operator xs) >>= λ new. following new (written_entries (without subroutines_operator (entries rest))))
    ≡ following front (written_entries (without subroutines_operator (entries bytes)))
taken_by front bytes operator rest limit xs h out room shown =
    ap (λ (o : Option (List Number)). following front (written_if_there operator o) >>= λ new. following new (written_entries (without subroutines_operator (entries rest)))) (shown ∙ ap (λ (n : ℕ). operands_at n bytes) room)
    ∙ taken front bytes operator rest h out

-- ---- entries that stay as they are written
plain_written : (operator bytes rest : List ℕ) (e : IsEntryAndRest operand_limit operator bytes rest) → written_entry operator e.numbers ≡ Ok (entry_bytes (plain_entry operator e.numbers))
unfolding written_entry
plain_written operator bytes rest e = rw e.accepted refl

-- such an entry is copied
plain_taken : (front bytes operator rest : List ℕ) (e : IsEntryAndRest operand_limit operator bytes rest) → operator_part (entry_at bytes) ≡ Some (operator, rest) → bytes_eq operator subroutines_operator ≡ false
    → following (front ++ entry_bytes (plain_entry operator e.numbers)) (written_entries (without subroutines_operator (entries rest))) ≡ following front (written_entries (without subroutines_operator (entries bytes)))
plain_taken front bytes operator rest e h out =
    ap (λ (r : Result (List ℕ) Error). following front r >>= λ new. following new (written_entries (without subroutines_operator (entries rest)))) (sym (plain_written operator bytes rest e))
    ∙ taken_by front bytes operator rest operand_limit e.numbers h out refl (plain_operands operator bytes rest e)

pub copied_none : (bytes : List ℕ) → IsCopied bytes bytes
copied_none bytes = record { text = []; is = refl; copies = λ front. ap (λ (l : List ℕ). following l (rewritten_private bytes)) (append-nil front) }

pub copied_more : (bytes rest operator more : List ℕ) → IsCopied bytes rest → plain_at rest ≡ Some (operator, more) → bytes_eq operator subroutines_operator ≡ false → IsCopied bytes more
unfolding rewritten_private
copied_more bytes rest operator more c h out =
    let e = entry_stands operand_limit rest operator more h in
    let text = entry_bytes (plain_entry operator e.numbers) in
    record {
      text = c.text ++ text;
      is = c.is ∙ ap (λ (l : List ℕ). c.text ++ l) e.is ∙ sym (append_assoc c.text text more);
      copies = λ front.
          ap (λ (l : List ℕ). following l (written_entries (without subroutines_operator (entries more)))) (sym (append_assoc front c.text text))
          ∙ plain_taken (front ++ c.text) rest operator more e (plain_operator rest operator more h) out
          ∙ c.copies front;
    }

pub copied_shorter : (bytes rest : List ℕ) → IsCopied bytes rest → length rest ≤ length bytes
copied_shorter bytes rest c = omega (arith, ap length c.is, length-append c.text rest)

-- they are written as a part of the bytes
pub copied_from : (old bytes rest now : List ℕ) → IsCopied bytes rest → now ≡ old ++ take (length bytes - length rest) bytes → following now (rewritten_private rest) ≡ following old (rewritten_private bytes)
copied_from old bytes rest now c written =
    ap (λ (l : List ℕ). following l (rewritten_private rest)) (written ∙ ap (λ (l : List ℕ). old ++ l) (front_of bytes c.text rest c.is)) ∙ c.copies old

-- a rest that is written on, seen from further in front
pub rewrites_from : (old now bytes rest new : List ℕ) (more : Option (List ℕ)) → following now (rewritten_private rest) ≡ following old (rewritten_private bytes) → length rest ≤ length bytes → Rewrites now rest new more → Rewrites old bytes new more
rewrites_from old now bytes rest new None same le r = sym same ∙ r
rewrites_from old now bytes rest new (Some left) same le r = (r.0 ∙ same, let less = r.1 in omega arith)

-- fewer operands than are asked for are all
all_few : (xs ys : List Number) → xs ≡ take 2 ys → length xs ≢ 2 → xs ≡ take operand_limit ys
all_few xs [] e few = e
all_few xs (a ∷ []) e few = e
all_few xs (a ∷ b ∷ more) e few = absurd (few (ap length e))

few_of : (o : Option (Entry × List ℕ)) (xs : List Number) → Some xs ≡ option_map (λ e. take 2 e.0.operands) o → length xs ≢ 2 → Some xs ≡ option_map (λ e. take operand_limit e.0.operands) o
few_of None xs e few = absurd (none-some xs (sym e))
few_of (Some e) xs h few = ap Some (all_few xs e.0.operands (same_Some _ _ h) few)

pub few_operands : (bytes : List ℕ) (xs : List Number) → Some xs ≡ operands_at 2 bytes → length xs ≢ 2 → Some xs ≡ operands_at operand_limit bytes
unfolding operands_at
few_operands bytes xs e few = few_of (entry_at bytes) xs e few
