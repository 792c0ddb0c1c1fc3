-- Records that are read one after another.
use Rattle.std.proofs.Common.{◌≡◌, ℕ, suc, ◌+◌, ◌-◌, ◌<◌, List, [], ◌∷◌, ◌++◌, map, length, ◌≤◌, Option, Some, None, Result, Err, Bool, true, false, if◌then◌else◌, refl, sym, ap, ◌∙◌, append_assoc, arith}
use Rattle.std.specs.Borrow.{Bor}
use Rattle.std.proofs.lemmas.List.{map-append, take_all}
use Rattle.std.specs.Option.{ok_or, option_map, option_and_then, option_or}
use Rattle.subsetter_base.specs.Bytes.{range, number}
use Rattle.subsetter_base.specs.declared.error.Error.{Error}
use Rattle.subsetter_base.proofs.Results.{with_front}
use Rattle.subset_lines.specs.Faces.Axes.{records_at}
use Rattle.subset_lines.specs.Faces.Names.{is_name, first_name, record_if, count_in, best_name, string_of, string_by, string_for}
use Rattle.subsetter_base.specs.Options.{first_of}
use Rattle.subsetter_sfnt.specs.Fields.Name.{name_record_of}
use Rattle.subsetter_sfnt.specs.declared.fields.name.NameRecord.{NameRecord}
use Rattle.subset_lines.specs.declared.faces.names.Kind.{Kind}

-- a member that is read moves to the front
front_more : (front : List (List ℕ)) (x : List ℕ) (o : Option (List (List ℕ))) (e : Error) → with_front front (ok_or (option_map (λ xs. x ∷ xs) o) e) ≡ with_front (front ++ x ∷ []) (ok_or o e)
front_more front x None e = refl
front_more front x (Some xs) e = simp append_assoc

records_step : (front : List (List ℕ)) (n i size : ℕ) (fvar : List ℕ) (at : ℕ) (bytes : List ℕ) (e : Error) → i < n → range fvar at size ≡ Some bytes → with_front front (ok_or (records_at (n - i) size fvar at) e) ≡ with_front (front ++ bytes ∷ []) (ok_or (records_at (n - (i + 1)) size fvar (at + size)) e)
records_step front n i size fvar at bytes e less h =
    let one : n - i ≡ suc (n - (i + 1)) = omega arith in
    rw (one, h) (front_more front bytes (records_at (n - (i + 1)) size fvar (at + size)) e)

-- the same for slices
pub slices_step : (front : List (Bor (List ℕ))) (n i size : ℕ) (fvar : List ℕ) (at : ℕ) (bytes : Bor (List ℕ)) (e : Error) (total : Result (List (List ℕ)) Error) → i < n → range fvar at size ≡ Some bytes.now → with_front (map (λ b. b.now) front) (ok_or (records_at (n - i) size fvar at) e) ≡ total → with_front (map (λ b. b.now) (front ++ bytes ∷ [])) (ok_or (records_at (n - (i + 1)) size fvar (at + size)) e) ≡ total
slices_step front n i size fvar at bytes e total less h t =
    let m = map-append (λ (b : Bor (List ℕ)). b.now) front (bytes ∷ []) in
    ap (λ f. with_front f (ok_or (records_at (n - (i + 1)) size fvar (at + size)) e)) m ∙ (sym (records_step (map (λ b. b.now) front) n i size fvar at bytes.now e less h) ∙ t)

pub records_cut : (front : List (List ℕ)) (n i size : ℕ) (fvar : List ℕ) (at : ℕ) (e : Error) → i < n → range fvar at size ≡ None → with_front front (ok_or (records_at (n - i) size fvar at) e) ≡ Err e
records_cut front n i size fvar at e less h =
    let one : n - i ≡ suc (n - (i + 1)) = omega arith in
    rw (one, h) refl

-- ---- a name

-- the record of twelve bytes is read from their start
pub whole_record : (bytes : List ℕ) → length bytes ≡ 12 → range bytes 0 12 ≡ Some bytes
whole_record bytes twelve =
    let least : length bytes ≤ 12 = omega arith in
    rw (twelve, take_all 12 bytes least) refl

-- one more record to look at
one_more : (n i : ℕ) → i < n → n - i ≡ suc (n - (i + 1))
one_more n i less = omega arith

-- a record comes after those before it
following : (is : Bool) (before : Option NameRecord) (bytes : List ℕ) (rest : Option (List ℕ)) → option_or (option_or before (if is then Some (name_record_of bytes) else None)) (option_map name_record_of rest) ≡ option_or before (option_map name_record_of (if is then Some bytes else rest))
following true None bytes rest = refl
following true (Some r) bytes rest = refl
following false None bytes rest = refl
following false (Some r) bytes rest = refl

pub record_later : (kind : Kind) (n i : ℕ) (table : List ℕ) (at : ℕ) (bytes : List ℕ) (old new total : ℕ → Option NameRecord) → i < n → range table at 12 ≡ Some bytes → ((id : ℕ) → new id ≡ option_or (old id) (record_if kind id bytes)) → ((id : ℕ) → option_or (old id) (option_map name_record_of (first_name kind id (n - i) table at)) ≡ total id) → (id : ℕ) → option_or (new id) (option_map name_record_of (first_name kind id (n - (i + 1)) table (at + 12))) ≡ total id
record_later kind n i table at bytes old new total less h added before id =
    let rest = first_name kind id (n - (i + 1)) table (at + 12) in
    let here : first_name kind id (suc (n - (i + 1))) table at ≡ (if is_name kind id bytes then Some bytes else rest) = rw h refl in
    let now : first_name kind id (n - i) table at ≡ (if is_name kind id bytes then Some bytes else rest) = ap (λ (k : ℕ). first_name kind id k table at) (one_more n i less) ∙ here in
    ap (λ (o : Option NameRecord). option_or o (option_map name_record_of rest)) (added id) ∙ (following (is_name kind id bytes) (old id) bytes rest ∙ (ap (λ (f : Option (List ℕ)). option_or (old id) (option_map name_record_of f)) (sym now) ∙ before id))

or_none : (o : Option NameRecord) → option_or o None ≡ o
or_none None = refl
or_none (Some r) = refl

pub record_cut : (kind : Kind) (n i : ℕ) (table : List ℕ) (at : ℕ) (records total : ℕ → Option NameRecord) → i < n → range table at 12 ≡ None → ((id : ℕ) → option_or (records id) (option_map name_record_of (first_name kind id (n - i) table at)) ≡ total id) → (id : ℕ) → records id ≡ total id
record_cut kind n i table at records total less h before id =
    let cut : first_name kind id (suc (n - (i + 1))) table at ≡ None = rw h refl in
    let none : first_name kind id (n - i) table at ≡ None = ap (λ (k : ℕ). first_name kind id k table at) (one_more n i less) ∙ cut in
    sym (or_none (records id)) ∙ (ap (λ (f : Option (List ℕ)). option_or (records id) (option_map name_record_of f)) (sym none) ∙ before id)

pub records_end : (kind : Kind) (n i : ℕ) (table : List ℕ) (at : ℕ) (records total : ℕ → Option NameRecord) → ¬ (i < n) → ((id : ℕ) → option_or (records id) (option_map name_record_of (first_name kind id (n - i) table at)) ≡ total id) → (id : ℕ) → records id ≡ total id
records_end kind n i table at records total more before id =
    let zero_left : n - i ≡ 0 = omega arith in
    sym (or_none (records id)) ∙ (ap (λ (k : ℕ). option_or (records id) (option_map name_record_of (first_name kind id k table at))) (sym zero_left) ∙ before id)

-- the record of the best kind
pub best_of : (english windows unicode : Option (List ℕ)) (e w u : Option NameRecord) → e ≡ option_map name_record_of english → w ≡ option_map name_record_of windows → u ≡ option_map name_record_of unicode → option_or e (option_or w u) ≡ option_map name_record_of (first_of english (first_of windows unicode))
best_of (Some bytes) windows unicode e w u he hw hu = rw he refl
best_of None (Some bytes) unicode e w u he hw hu = rw (he, hw) refl
best_of None None unicode e w u he hw hu = rw (he, hw) hu

-- ---- the string of a name

pub no_storage : (table : List ℕ) (id : ℕ) → number table 4 2 ≡ None → None ≡ string_for table id
unfolding string_for
no_storage table id h = rw h refl

-- the same by what was read of the record
by_record : (table : List ℕ) (storage : ℕ) (best : Option (List ℕ)) → option_and_then (string_by table storage) (option_map name_record_of best) ≡ option_and_then (string_of table storage) best
by_record table storage None = refl
by_record table storage (Some bytes) = refl

found : (table : List ℕ) (id storage : ℕ) (record_read : Option NameRecord) → number table 4 2 ≡ Some storage → record_read ≡ option_map name_record_of (best_name id (count_in table) table) → option_and_then (string_by table storage) record_read ≡ string_for table id
unfolding string_for
found table id storage record_read h r =
    let string = ap (λ (o : Option NameRecord). option_and_then (string_by table storage) o) r ∙ by_record table storage (best_name id (count_in table) table) in
    rw h string

pub no_record : (table : List ℕ) (id storage : ℕ) → number table 4 2 ≡ Some storage → None ≡ option_map name_record_of (best_name id (count_in table) table) → None ≡ string_for table id
no_record table id storage h r = found table id storage None h r

pub string_found : (table : List ℕ) (id storage : ℕ) (record_read : NameRecord) (string : Option (List ℕ)) → number table 4 2 ≡ Some storage → Some record_read ≡ option_map name_record_of (best_name id (count_in table) table) → string ≡ string_by table storage record_read → string ≡ string_for table id
string_found table id storage record_read string h r s = s ∙ found table id storage (Some record_read) h r
