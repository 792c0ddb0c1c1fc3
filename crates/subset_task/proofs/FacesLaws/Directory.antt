-- A row for each record of a directory.
use Rattle.std.proofs.Common.{◌≡◌, ℕ, ◌-◌, ◌/◌, List, [], ◌∷◌, ◌++◌, length, map, drop, append_assoc, append-nil, Some, None, sym, ap, ◌∙◌}
use Rattle.std.specs.Option.{option_and_then}
use Rattle.subsetter_base.specs.Bytes.{range}
use Rattle.subsetter_sfnt.specs.declared.face.TableRecord.{TableRecord}
use Rattle.subsetter_sfnt.specs.Read.{record_of, directory_records}
use Rattle.subsetter_sfnt.proofs.Laws.LayingLaws.Records.{reads_none}
use Rattle.subset_task.specs.Faces.Tables.{new_row, new_rows}
use Rattle.subset_lines.specs.declared.faces.sizes.TableSize.{TableSize}

-- the records from an offset on
abbrev pub records_from : List ℕ → ℕ → List TableRecord
records_from R p = directory_records ((length R - p) / 16) (drop p R)

pub rows_end : {X : Type 0} (f : TableRecord → X) (R : List ℕ) (p : ℕ) (rows total : List X) → option_and_then (λ bytes. Some (record_of bytes)) (range R p 16) ≡ None → rows ++ map f (records_from R p) ≡ total → rows ≡ total
rows_end f R p rows total h t = sym (append-nil rows) ∙ (ap (λ (rs : List TableRecord). rows ++ map f rs) (sym (reads_none R p h)) ∙ t)

pub rows_later : {X : Type 0} (f : TableRecord → X) (rest others : List TableRecord) (r : TableRecord) (rows new total : List X) → rest ≡ r ∷ others → new ≡ rows ++ f r ∷ [] → rows ++ map f rest ≡ total → new ++ map f others ≡ total
rows_later f rest others r rows new total e n t = ap (λ v. v ++ map f others) n ∙ (append_assoc rows (f r ∷ []) (map f others) ∙ (ap (λ (rs : List TableRecord). rows ++ map f rs) (sym e) ∙ t))

pub news_end : (olds : List TableRecord) (R : List ℕ) (p : ℕ) (rows total : List TableSize) → option_and_then (λ bytes. Some (record_of bytes)) (range R p 16) ≡ None → rows ++ new_rows olds (records_from R p) ≡ total → rows ≡ total
news_end olds R p rows total h t = sym (append-nil rows) ∙ (ap (λ (rs : List TableRecord). rows ++ new_rows olds rs) (sym (reads_none R p h)) ∙ t)

pub news_later : (olds rest others : List TableRecord) (r : TableRecord) (rows new total : List TableSize) → rest ≡ r ∷ others → new ≡ rows ++ new_row olds r → rows ++ new_rows olds rest ≡ total → new ++ new_rows olds others ≡ total
news_later olds rest others r rows new total e n t = ap (λ v. v ++ new_rows olds others) n ∙ (append_assoc rows (new_row olds r) (new_rows olds others) ∙ (ap (λ (rs : List TableRecord). rows ++ new_rows olds rs) (sym e) ∙ t))
