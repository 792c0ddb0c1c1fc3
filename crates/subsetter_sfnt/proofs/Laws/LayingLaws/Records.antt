-- Records of a directory, one after another.
use Rattle.std.proofs.Common.{◌≡◌, ℕ, Bool, true, false, cond, leb, suc, ◌+◌, ◌-◌, ◌/◌, ◌<◌, ◌≤◌, List, [], ◌∷◌, length, take, drop, Option, Some, None, refl, sym, ap, ◌∙◌, arith}
use Rattle.std.specs.Option.{option_and_then}
use Rattle.std.specs.Str.{bytes_eq}
use Rattle.std.proofs.lemmas.Bool.{leb-true, leb-false}
use Rattle.std.proofs.lemmas.List.{take-take, drop-take, drop-drop}
use Rattle.subsetter_base.specs.Bytes.{range}
use Rattle.subsetter_sfnt.specs.declared.face.TableRecord.{TableRecord}
use Rattle.subsetter_sfnt.specs.Read.{record_of, directory_records, find_record}

-- a field of a record that was cut out
field : (x : List ℕ) (k m : ℕ) → 4 ≤ m → take 4 (drop k (take (k + m) x)) ≡ take 4 (drop k x)
field x k m h = ap (take 4) (drop-take k m x) ∙ take-take 4 m (drop k x) h

pub record_of-take : (x : List ℕ) → record_of (take 16 x) ≡ record_of x
record_of-take x =
    let t : take 4 (take 16 x) ≡ take 4 x = take-take 4 16 x (omega arith) in
    let c = field x 4 12 (omega arith) in
    let o = field x 8 8 (omega arith) in
    let s = field x 12 4 (omega arith) in
    cc

-- one record, and those after it
pub records-more : (R : List ℕ) (p : ℕ) → p + 16 ≤ length R → directory_records ((length R - p) / 16) (drop p R) ≡ record_of (take 16 (drop p R)) ∷ directory_records ((length R - (p + 16)) / 16) (drop (p + 16) R)
records-more R p h =
    let n : (length R - p) / 16 ≡ suc ((length R - (p + 16)) / 16) = omega arith in
    ap (λ (k : ℕ). directory_records k (drop p R)) n ∙ rw (drop-drop 16 p R, record_of-take (drop p R)) refl

pub records-done : (R : List ℕ) (p : ℕ) → length R < p + 16 → directory_records ((length R - p) / 16) (drop p R) ≡ []
records-done R p h =
    let n : (length R - p) / 16 ≡ 0 = omega arith in
    ap (λ (k : ℕ). directory_records k (drop p R)) n

-- what reading a record at a place says
read_by : (b : Bool) (x : List ℕ) (found : TableRecord) → option_and_then (λ bytes. Some (record_of bytes)) (cond b (Some x) None) ≡ Some found → (b ≡ true) × (found ≡ record_of x)
read_by true x found e = (refl, cc)
read_by false x found e = absurd cc

unread_by : (b : Bool) (x : List ℕ) → option_and_then (λ bytes. Some (record_of bytes)) (cond b (Some x) None) ≡ None → b ≡ false
unread_by true x e = absurd cc
unread_by false x e = refl

pub record Reads (R : List ℕ) (p : ℕ) (found : TableRecord) : Type 0 where
  pub within : p + 16 ≤ length R
  pub more : directory_records ((length R - p) / 16) (drop p R) ≡ found ∷ directory_records ((length R - (p + 16)) / 16) (drop (p + 16) R)

pub reads : (R : List ℕ) (p : ℕ) (found : TableRecord) → option_and_then (λ bytes. Some (record_of bytes)) (range R p 16) ≡ Some found → Reads R p found
reads R p found e =
    let t = read_by (leb (p + 16) (length R)) (take 16 (drop p R)) found e in
    let within : p + 16 ≤ length R = leb-true _ _ t.0 in
    record { within = within; more = records-more R p within ∙ ap (λ (x : TableRecord). x ∷ directory_records ((length R - (p + 16)) / 16) (drop (p + 16) R)) (sym t.1) }

pub reads_none : (R : List ℕ) (p : ℕ) → option_and_then (λ bytes. Some (record_of bytes)) (range R p 16) ≡ None → directory_records ((length R - p) / 16) (drop p R) ≡ []
reads_none R p e = records-done R p (leb-false _ _ (unread_by (leb (p + 16) (length R)) (take 16 (drop p R)) e))

pub found_here : (tag : List ℕ) (rest others : List TableRecord) (found : TableRecord) (total : Option TableRecord) → rest ≡ found ∷ others → bytes_eq found.tag.0 tag ≡ true → find_record tag rest ≡ total → Some found ≡ total
found_here tag rest others found total e t h = sym (ap (find_record tag) e ∙ ap (λ b. cond b (Some found) (find_record tag others)) t) ∙ h

pub found_later : (tag : List ℕ) (rest others : List TableRecord) (found : TableRecord) (total : Option TableRecord) → rest ≡ found ∷ others → bytes_eq found.tag.0 tag ≡ false → find_record tag rest ≡ total → find_record tag others ≡ total
found_later tag rest others found total e t h = sym (ap (find_record tag) e ∙ ap (λ b. cond b (Some found) (find_record tag others)) t) ∙ h
