-- The tables of a static font are refused exactly where one of them has a fault.
--   versions_refused, other_hvar_is, other_mvar_is   tables of another version
--   tables_refused, tables_clean                     where the tables aren't read there is a fault, and where they are there is none
use Rattle.std.proofs.Common.{◌≡◌, ℕ, ◌+◌, ◌<◌, ◌≤◌, Bool, true, false, cond, List, length, Option, Some, None, Err, ℤ, refl, sym, ◌∙◌, ◌⊎◌, inl, inr, arith}
use Rattle.std.specs.Prelude.{codes}
use Rattle.std.specs.Int.{w16, cast_signed}
use Rattle.std.specs.Option.{ok_or}
use Rattle.std.proofs.lemmas.Bool.{or_cases, or_left, or_right}
use Rattle.subsetter_base.specs.Bytes.{number, signed_field}
use Rattle.subsetter_base.specs.declared.error.Error.{Error}
use Rattle.subsetter_base.specs.declared.error.Error.TheVariants.{MalformedFont, Unimplemented}
use Rattle.subsetter_base.proofs.ByteLemmas.{number-fits, number-short}
use Rattle.subsetter_base.proofs.Options.{just_is, map_none, map_some, some_not_none}
use Rattle.subsetter_base.proofs.Results.{failed_is, named_err}
use Rattle.subsetter_sfnt.specs.Fields.Head.{units_per_em, y_max}
use Rattle.subsetter_sfnt.specs.Fields.Hhea.{number_of_h_metrics}
use Rattle.subsetter_sfnt.specs.Fields.Maxp.{num_glyphs}
use Rattle.subsetter_variation.specs.Locations.Coordinates.{is_other_version}
use Rattle.subsetter_instance.specs.Faults.CoordinatesFault.{HasOtherVersion}
use Rattle.subsetter_instance.proofs.FaultLaws.Parts.{bind_none, some_is_not}
use Rattle.subsetter_instance.proofs.FaultLaws.Place.{is_other_of, other_is}
use Rattle.subsetter_cff_instance.specs.Fault.{HasSourceFault, no_maxp, no_head, no_hhea, no_hmtx, cut_maxp, cut_head, cut_hhea}
use Rattle.subsetter_cff_instance.specs.Source.{Source, has_other_version, source_in, source_or_fault}
use Rattle.subsetter_cff_instance.proofs.Steps.{SourceSteps}

-- ---- the box of head

-- a coordinate of it that is missing
cut_box : (head : List ℕ) (at : ℕ) → at + 2 ≤ 44 → signed_field (Some head) at ≡ None → length head < 44
cut_box head at le h = let less = number-short head at 2 (map_none (cast_signed w16) (number head at 2) h) in omega arith

pub top_fits : (head : List ℕ) (top : ℤ) → y_max (Some head) ≡ Some top → 44 ≤ length head
top_fits head top h = let n = map_some (cast_signed w16) (number head 42 2) top h in number-fits head 42 2 n.0 n.1

module _ (find : List ℕ → Option (List ℕ)) where
  -- ---- versions

  pub versions_refused : has_other_version find ≡ true → HasOtherVersion find (codes "HVAR") ⊎ HasOtherVersion find (codes "MVAR")
  versions_refused h = elim (or_cases (is_other_version (find (codes "HVAR"))) (is_other_version (find (codes "MVAR"))) h) [ inl k ↦ inl (other_is find (codes "HVAR") k) | inr k ↦ inr (other_is find (codes "MVAR") k) ]

  pub other_hvar_is : HasOtherVersion find (codes "HVAR") → has_other_version find ≡ true
  other_hvar_is f = or_left (is_other_version (find (codes "HVAR"))) (is_other_version (find (codes "MVAR"))) (is_other_of find (codes "HVAR") f)

  pub other_mvar_is : HasOtherVersion find (codes "MVAR") → has_other_version find ≡ true
  other_mvar_is f = or_right (is_other_version (find (codes "HVAR"))) (is_other_version (find (codes "MVAR"))) (is_other_of find (codes "MVAR") f)

  -- ---- the tables

  pub tables_refused : source_in find ≡ None → HasSourceFault find
  unfolding source_in
  tables_refused h =
      elim (bind_none (find (codes "maxp")) _ h) [
        | inl k ↦ no_maxp k
        | inr a ↦ elim (bind_none (num_glyphs a.0) _ a.2) [
          | inl k ↦ cut_maxp a.0 a.1 (number-short a.0 4 2 k)
          | inr b ↦ elim (bind_none (find (codes "head")) _ b.2) [
            | inl k ↦ no_head k
            | inr c ↦ elim (bind_none (units_per_em c.0) _ c.2) [
              | inl k ↦ cut_head c.0 c.1 (let less = number-short c.0 18 2 k in omega arith)
              | inr d ↦ elim (bind_none (y_max (Some c.0)) _ d.2) [
                | inl k ↦ cut_head c.0 c.1 (cut_box c.0 42 (omega arith) k)
                | inr e ↦ elim (bind_none (find (codes "hhea")) _ e.2) [
                  | inl k ↦ no_hhea k
                  | inr f ↦ elim (bind_none (number_of_h_metrics f.0) _ f.2) [
                    | inl k ↦ cut_hhea f.0 f.1 (number-short f.0 34 2 k)
                    | inr g ↦ elim (bind_none (find (codes "hmtx")) _ g.2) [
                      | inl k ↦ no_hmtx k
                      | inr i ↦ absurd (some_is_not _ i.2)
                    ]
                  ]
                ]
              ]
            ]
          ]
        ]
      ]

  -- a table that was read from has as many bytes
  long_enough : (tag bytes other : List ℕ) (n : ℕ) → find tag ≡ Some other → n ≤ length other → find tag ≡ Some bytes → length bytes < n → ⊥
  long_enough tag bytes other n is fits there less = let same : bytes ≡ other = just_is bytes other (sym there ∙ is) in let long : n ≤ length bytes = rw same fits in omega arith

  pub tables_clean : (s : Source) → SourceSteps find s → HasSourceFault find → ⊥
  tables_clean s t (no_maxp none) = some_not_none (find (codes "maxp")) s.maxp t.maxp_is none
  tables_clean s t (no_head none) = some_not_none (find (codes "head")) s.head t.head_is none
  tables_clean s t (no_hhea none) = some_not_none (find (codes "hhea")) t.hhea t.hhea_is none
  tables_clean s t (no_hmtx none) = some_not_none (find (codes "hmtx")) s.hmtx t.hmtx_is none
  tables_clean s t (cut_maxp maxp is less) = long_enough (codes "maxp") maxp s.maxp 6 t.maxp_is (number-fits s.maxp 4 2 s.count t.count_is) is less
  tables_clean s t (cut_head head is less) = long_enough (codes "head") head s.head 44 t.head_is (top_fits s.head t.top t.top_is) is less
  tables_clean s t (cut_hhea hhea is less) = long_enough (codes "hhea") hhea t.hhea 36 t.hhea_is (number-fits t.hhea 34 2 s.number_of_h_metrics t.pairs_are) is less

  -- ---- both

  pub source_refused : (e : Error) → source_or_fault find ≡ Err e → ((has_other_version find ≡ true) × (Unimplemented ≡ e)) ⊎ (HasSourceFault find × (MalformedFont ≡ e))
  source_refused e h = by (has_other_version find) refl h
    where
      by : (b : Bool) → has_other_version find ≡ b → cond b (Err Unimplemented) (ok_or (source_in find) MalformedFont) ≡ Err e → ((has_other_version find ≡ true) × (Unimplemented ≡ e)) ⊎ (HasSourceFault find × (MalformedFont ≡ e))
      by true t k = inl (t, failed_is {A = Source} Unimplemented e k)
      by false t k = let n = named_err (source_in find) MalformedFont e k in inr (tables_refused n.0, n.1)
