-- The tables of an instance are refused exactly where one of them has a fault.
--   versions_refused, other_version_of   tables of another version
--   tables_refused, tables_clean         where the tables aren't read there is a fault, and where they are there is none
use Rattle.std.proofs.Common.{◌≡◌, ℕ, ◌+◌, ◌*◌, ◌<◌, ◌≤◌, Bool, true, false, cond, List, length, drop, Option, Some, None, refl, sym, ap, subst, ◌∙◌, inl, inr, arith}
use Rattle.std.specs.Prelude.{codes, ◌||◌, ◌%◌, ◌==◌, nat_le, if◌then◌else◌}
use Rattle.std.proofs.lemmas.Bool.{cases_lt, eqb-false, eqb-true, leb-false, leb-true, or_cases, or_left, or_right}
use Rattle.subsetter_base.specs.Bytes.{number, range, from_offset}
use Rattle.subsetter_base.specs.declared.error.Error.{Error}
use Rattle.subsetter_base.specs.declared.error.Error.TheVariants.{Unimplemented}
use Rattle.subsetter_base.proofs.ByteLemmas.{number-short, range-fits, range-short}
use Rattle.subsetter_base.proofs.Options.{bind_some, just_is, some_not_none}
use Rattle.subsetter_base.specs.Options.{◌>>=◌}
use Rattle.subsetter_variation.specs.Locations.Coordinates.{is_other_version}
use Rattle.subsetter_variation.specs.Glyphs.Tuples.{Gvar, gvar_table, parts, tuple_size}
use Rattle.subsetter_instance.specs.Source.{Source, has_other_version, source_in, variations_in}
use Rattle.subsetter_instance.specs.Faults.SourceFault.{HasVersionFault, HasGvarFault, HasSourceFault, other_gvar, other_hvar, other_mvar, cut_gvar, other_axes, cut_shared, cut_offsets, far_variations, no_glyf, no_loca, no_head, no_maxp, no_hhea, no_hmtx, cut_head, cut_maxp, cut_hhea, in_gvar}
use Rattle.subsetter_instance.proofs.FaultLaws.Parts.{bind_none, if_none, if_some, not_long, not_short, some_is_not}
use Rattle.subsetter_instance.proofs.FaultLaws.Place.{other_is, is_other_of}
use Rattle.subsetter_instance.proofs.FileLaws.Steps.{SourceSteps, after_count, after_format, after_glyf, after_head, after_hhea, after_hmtx, after_loca, after_maxp, after_pairs, in_turn, made, source_glyf, source_steps}

-- ---- versions

module _ (find : List ℕ → Option (List ℕ)) where
  pub versions_refused : has_other_version find ≡ true → HasVersionFault find Unimplemented
  versions_refused h = elim (or_cases (is_other_version (find (codes "gvar"))) (is_other_version (find (codes "HVAR")) || is_other_version (find (codes "MVAR"))) h) [
    | inl k ↦ other_gvar (other_is find (codes "gvar") k)
    | inr k ↦ elim (or_cases (is_other_version (find (codes "HVAR"))) (is_other_version (find (codes "MVAR"))) k) [
      | inl l ↦ other_hvar (other_is find (codes "HVAR") l)
      | inr l ↦ other_mvar (other_is find (codes "MVAR") l)
    ]
  ]

  pub other_version_of : (e : Error) → HasVersionFault find e → has_other_version find ≡ true
  other_version_of _ (other_gvar f) = or_left (is_other_version (find (codes "gvar"))) (is_other_version (find (codes "HVAR")) || is_other_version (find (codes "MVAR"))) (is_other_of find (codes "gvar") f)
  other_version_of _ (other_hvar f) =
      or_right (is_other_version (find (codes "gvar"))) (is_other_version (find (codes "HVAR")) || is_other_version (find (codes "MVAR")))
      (or_left (is_other_version (find (codes "HVAR"))) (is_other_version (find (codes "MVAR"))) (is_other_of find (codes "HVAR") f))
  other_version_of _ (other_mvar f) =
      or_right (is_other_version (find (codes "gvar"))) (is_other_version (find (codes "HVAR")) || is_other_version (find (codes "MVAR")))
      (or_right (is_other_version (find (codes "HVAR"))) (is_other_version (find (codes "MVAR"))) (is_other_of find (codes "MVAR") f))

-- ---- gvar

module _ (axes : ℕ) (gvar : List ℕ) where
  -- how many bytes an offset has
  abbrev width : ℕ → ℕ
  width flags = if flags % 2 == 1 then 4 else 2

  module _ (axis_count glyph_count flags : ℕ) where
    abbrev table_of : List ℕ → List ℕ → List ℕ → Option Gvar
    table_of shared offsets variations = Some (record { axis_count = axis_count; glyph_count = glyph_count; long = flags % 2 == 1; shared = shared; offsets = offsets; variations = variations })

    abbrev after_offsets : ℕ → List ℕ → List ℕ → Option Gvar
    after_offsets from shared offsets = from_offset gvar from >>= table_of shared offsets

    abbrev after_shared : ℕ → List ℕ → Option Gvar
    after_shared from shared = range gvar 20 ((glyph_count + 1) * width flags) >>= after_offsets from shared

    abbrev after_from : ℕ → ℕ → ℕ → Option Gvar
    after_from count at from = range gvar at (count * tuple_size axis_count) >>= after_shared from

    abbrev after_at : ℕ → ℕ → Option Gvar
    after_at count at = number gvar 16 4 >>= after_from count at

    abbrev after_shared_count : ℕ → Option Gvar
    after_shared_count count = number gvar 8 4 >>= after_at count

    parts_in_turn : parts gvar axis_count glyph_count (flags % 2 == 1) ≡ (number gvar 6 2 >>= after_shared_count)
    parts_in_turn = refl

  abbrev after_flags : ℕ → ℕ → ℕ → Option Gvar
  after_flags axis_count glyph_count flags = number gvar 6 2 >>= after_shared_count axis_count glyph_count flags

  abbrev after_glyph_count : ℕ → ℕ → Option Gvar
  after_glyph_count axis_count glyph_count = number gvar 14 2 >>= after_flags axis_count glyph_count

  abbrev after_axis_count : ℕ → Option Gvar
  after_axis_count axis_count = number gvar 12 2 >>= after_glyph_count axis_count

  table_in_turn : gvar_table gvar ≡ (number gvar 4 2 >>= after_axis_count)
  unfolding gvar_table
  table_in_turn = refl

  parts_refused : (axis_count glyph_count flags : ℕ) → 20 ≤ length gvar → number gvar 4 2 ≡ Some axis_count → number gvar 12 2 ≡ Some glyph_count → number gvar 14 2 ≡ Some flags → after_flags axis_count glyph_count flags ≡ None → HasGvarFault axes gvar
  parts_refused axis_count glyph_count flags long a_is g_is f_is h =
      elim (bind_none (number gvar 6 2) (after_shared_count axis_count glyph_count flags) h) [
        | inl k ↦ absurd (not_short gvar 6 2 (omega arith) k)
        | inr a ↦ elim (bind_none (number gvar 8 4) (after_at axis_count glyph_count flags a.0) a.2) [
          | inl k ↦ absurd (not_short gvar 8 4 (omega arith) k)
          | inr b ↦ elim (bind_none (number gvar 16 4) (after_from axis_count glyph_count flags a.0 b.0) b.2) [
            | inl k ↦ absurd (not_short gvar 16 4 (omega arith) k)
            | inr c ↦ elim (bind_none (range gvar b.0 (a.0 * tuple_size axis_count)) (after_shared axis_count glyph_count flags c.0) c.2) [
              | inl k ↦ cut_shared axis_count a.0 b.0 a_is a.1 b.1 (range-short gvar b.0 (a.0 * tuple_size axis_count) k)
              | inr d ↦ elim (bind_none (range gvar 20 ((glyph_count + 1) * width flags)) (after_offsets axis_count glyph_count flags c.0 d.0) d.2) [
                | inl k ↦ cut_offsets glyph_count flags g_is f_is (range-short gvar 20 ((glyph_count + 1) * width flags) k)
                | inr e ↦ elim (bind_none (from_offset gvar c.0) (table_of axis_count glyph_count flags d.0 e.0) e.2) [
                  | inl k ↦ far_variations c.0 c.1 (no_tail c.0 (nat_le c.0 (length gvar)) refl k)
                  | inr k ↦ absurd cc
                ]
              ]
            ]
          ]
        ]
      ]
    where
      no_tail : (at : ℕ) (b : Bool) → nat_le at (length gvar) ≡ b → cond b (Some (drop at gvar)) None ≡ None → length gvar < at
      no_tail at true t k = absurd cc
      no_tail at false t k = leb-false at (length gvar) t

  table_refused : 20 ≤ length gvar → gvar_table gvar ≡ None → HasGvarFault axes gvar
  table_refused long h =
      elim (bind_none (number gvar 4 2) after_axis_count (sym table_in_turn ∙ h)) [
        | inl k ↦ absurd (not_short gvar 4 2 (omega arith) k)
        | inr a ↦ elim (bind_none (number gvar 12 2) (after_glyph_count a.0) a.2) [
          | inl k ↦ absurd (not_short gvar 12 2 (omega arith) k)
          | inr b ↦ elim (bind_none (number gvar 14 2) (after_flags a.0 b.0) b.2) [
            | inl k ↦ absurd (not_short gvar 14 2 (omega arith) k)
            | inr c ↦ parts_refused a.0 b.0 c.0 long a.1 b.1 c.1 c.2
          ]
        ]
      ]

  -- what was read of the table
  record TableSteps (t : Gvar) : Type 0 where
    axes_are : number gvar 4 2 ≡ Some t.axis_count
    glyph_count : ℕ
    glyph_count_is : number gvar 12 2 ≡ Some glyph_count
    flags : ℕ
    flags_are : number gvar 14 2 ≡ Some flags
    count : ℕ
    count_is : number gvar 6 2 ≡ Some count
    at : ℕ
    at_is : number gvar 8 4 ≡ Some at
    from : ℕ
    from_is : number gvar 16 4 ≡ Some from
    shared : at + count * tuple_size t.axis_count ≤ length gvar
    offsets : 20 + (glyph_count + 1) * width flags ≤ length gvar
    variations : from ≤ length gvar

  table_steps : (t : Gvar) → gvar_table gvar ≡ Some t → TableSteps t
  table_steps t h =
      let a = bind_some (number gvar 4 2) after_axis_count t (sym table_in_turn ∙ h) in
      let b = bind_some (number gvar 12 2) (after_glyph_count a.0) t a.2 in
      let c = bind_some (number gvar 14 2) (after_flags a.0 b.0) t b.2 in
      let d = bind_some (number gvar 6 2) (after_shared_count a.0 b.0 c.0) t c.2 in
      let e = bind_some (number gvar 8 4) (after_at a.0 b.0 c.0 d.0) t d.2 in
      let f = bind_some (number gvar 16 4) (after_from a.0 b.0 c.0 d.0 e.0) t e.2 in
      let g = bind_some (range gvar e.0 (d.0 * tuple_size a.0)) (after_shared a.0 b.0 c.0 f.0) t f.2 in
      let i = bind_some (range gvar 20 ((b.0 + 1) * width c.0)) (after_offsets a.0 b.0 c.0 f.0 g.0) t g.2 in
      let j = bind_some (from_offset gvar f.0) (table_of a.0 b.0 c.0 g.0 i.0) t i.2 in
      let made : Gvar = record { axis_count = a.0; glyph_count = b.0; long = c.0 % 2 == 1; shared = g.0; offsets = i.0; variations = j.0 } in
      let same : a.0 ≡ t.axis_count = ap (λ (x : Gvar). x.axis_count) (just_is made t j.2) in
      record {
        axes_are = a.1 ∙ ap (λ (n : ℕ). Some n) same;
        glyph_count = b.0;
        glyph_count_is = b.1;
        flags = c.0;
        flags_are = c.1;
        count = d.0;
        count_is = d.1;
        at = e.0;
        at_is = e.1;
        from = f.0;
        from_is = f.1;
        shared = subst (λ (n : ℕ). e.0 + d.0 * tuple_size n ≤ length gvar) same (range-fits gvar g.0 e.0 (d.0 * tuple_size a.0) g.1);
        offsets = range-fits gvar i.0 20 ((b.0 + 1) * width c.0) i.1;
        variations = leb-true f.0 (length gvar) (if_some (nat_le f.0 (length gvar)) (Some (drop f.0 gvar)) j.0 j.1).0;
      }

  abbrev for_axes : Gvar → Option (Option Gvar)
  for_axes t = cond (t.axis_count == axes) (Some (Some t)) None

  gvar_refused : variations_in (Some gvar) axes ≡ None → HasGvarFault axes gvar
  gvar_refused h = elim (cases_lt (length gvar) 20) [
    | inl less ↦ cut_gvar less
    | inr long ↦ elim (bind_none (gvar_table gvar) for_axes h) [
      | inl k ↦ table_refused long k
      | inr k ↦ elim (if_none (k.0.axis_count == axes) (Some (Some k.0)) k.2) [
        | inl l ↦ other_axes k.0.axis_count (table_steps k.0 k.1).axes_are (eqb-false k.0.axis_count axes l)
        | inr l ↦ absurd (some_is_not (Some k.0) l.1)
      ]
    ]
  ]

  gvar_clean : (g : Option Gvar) → variations_in (Some gvar) axes ≡ Some g → HasGvarFault axes gvar → ⊥
  gvar_clean g h f =
      let a = bind_some (gvar_table gvar) for_axes g h in
      let b = if_some (a.0.axis_count == axes) (Some (Some a.0)) g a.2 in
      by a.0 (table_steps a.0 a.1) (eqb-true a.0.axis_count axes b.0) f
    where
      by : (t : Gvar) → TableSteps t → t.axis_count ≡ axes → HasGvarFault axes gvar → ⊥
      by t s same (cut_gvar less) = not_long gvar 16 4 s.from less s.from_is
      by t s same (other_axes n is other) = other (just_is n t.axis_count (sym is ∙ s.axes_are) ∙ same)
      by t s same (cut_shared n count at n_is count_is at_is less) =
          let x : n ≡ t.axis_count = just_is n t.axis_count (sym n_is ∙ s.axes_are) in
          let y : count ≡ s.count = just_is count s.count (sym count_is ∙ s.count_is) in
          let z : at ≡ s.at = just_is at s.at (sym at_is ∙ s.at_is) in
          let fits : at + count * tuple_size n ≤ length gvar = rw (x, y, z) s.shared in
          omega arith
      by t s same (cut_offsets count flags count_is flags_are less) =
          let x : count ≡ s.glyph_count = just_is count s.glyph_count (sym count_is ∙ s.glyph_count_is) in
          let y : flags ≡ s.flags = just_is flags s.flags (sym flags_are ∙ s.flags_are) in
          let fits : 20 + (count + 1) * width flags ≤ length gvar = rw (x, y) s.offsets in
          omega arith
      by t s same (far_variations at is less) =
          let x : at ≡ s.from = just_is at s.from (sym is ∙ s.from_is) in
          let fits = s.variations in
          omega arith

-- ---- all tables

module _ (find : List ℕ → Option (List ℕ)) (axes : ℕ) where
  hmtx_refused : (glyf loca : List ℕ) (format count pairs : ℕ) (hmtx : List ℕ) → after_hmtx find axes glyf loca format count pairs hmtx ≡ None → HasSourceFault find axes
  hmtx_refused glyf loca format count pairs hmtx h =
      elim (bind_none (variations_in (find (codes "gvar")) axes) (made find axes glyf loca format count pairs hmtx) h) [
        | inl k ↦ by (find (codes "gvar")) refl k
        | inr k ↦ absurd cc
      ]
    where
      by : (o : Option (List ℕ)) → find (codes "gvar") ≡ o → variations_in o axes ≡ None → HasSourceFault find axes
      by None is k = absurd cc
      by (Some gvar) is k = in_gvar gvar is (gvar_refused axes gvar k)

  count_refused : (glyf loca : List ℕ) (format count : ℕ) → after_count find axes glyf loca format count ≡ None → HasSourceFault find axes
  count_refused glyf loca format count h =
      elim (bind_none (find (codes "hhea")) (after_hhea find axes glyf loca format count) h) [
        | inl k ↦ no_hhea k
        | inr a ↦ elim (bind_none (number a.0 34 2) (after_pairs find axes glyf loca format count) a.2) [
          | inl k ↦ cut_hhea a.0 a.1 (number-short a.0 34 2 k)
          | inr b ↦ elim (bind_none (find (codes "hmtx")) (after_hmtx find axes glyf loca format count b.0) b.2) [
            | inl k ↦ no_hmtx k
            | inr c ↦ hmtx_refused glyf loca format count b.0 c.0 c.2
          ]
        ]
      ]

  pub tables_refused : source_in find axes ≡ None → HasSourceFault find axes
  tables_refused h =
      elim (bind_none (find (codes "glyf")) (after_glyf find axes) (sym (in_turn find axes) ∙ h)) [
        | inl k ↦ no_glyf k
        | inr a ↦ elim (bind_none (find (codes "loca")) (after_loca find axes a.0) a.2) [
          | inl k ↦ no_loca k
          | inr b ↦ elim (bind_none (find (codes "head")) (after_head find axes a.0 b.0) b.2) [
            | inl k ↦ no_head k
            | inr c ↦ elim (bind_none (number c.0 50 2) (after_format find axes a.0 b.0) c.2) [
              | inl k ↦ cut_head c.0 c.1 (number-short c.0 50 2 k)
              | inr d ↦ elim (bind_none (find (codes "maxp")) (after_maxp find axes a.0 b.0 d.0) d.2) [
                | inl k ↦ no_maxp k
                | inr e ↦ elim (bind_none (number e.0 4 2) (after_count find axes a.0 b.0 d.0) e.2) [
                  | inl k ↦ cut_maxp e.0 e.1 (number-short e.0 4 2 k)
                  | inr f ↦ count_refused a.0 b.0 d.0 f.0 f.2
                ]
              ]
            ]
          ]
        ]
      ]

  -- a table that was read from has as many bytes
  long_enough : (tag bytes other : List ℕ) (at n : ℕ) → find tag ≡ Some other → number other at 2 ≡ Some n → find tag ≡ Some bytes → length bytes < at + 2 → ⊥
  long_enough tag bytes other at n is read there less =
      let same : bytes ≡ other = just_is bytes other (sym there ∙ is) in
      not_long bytes at 2 n less (ap (λ (b : List ℕ). number b at 2) same ∙ read)

  pub tables_clean : (s : Source) → source_in find axes ≡ Some s → HasSourceFault find axes → ⊥
  tables_clean s h f = by (source_steps find axes s h) f
    where
      by : SourceSteps find axes s → HasSourceFault find axes → ⊥
      by t (no_glyf none) = let g = source_glyf find axes s h in some_not_none (find (codes "glyf")) g.0 g.1 none
      by t (no_loca none) = some_not_none (find (codes "loca")) t.loca t.loca_is none
      by t (no_head none) = some_not_none (find (codes "head")) t.head t.head_is none
      by t (no_maxp none) = some_not_none (find (codes "maxp")) t.maxp t.maxp_is none
      by t (no_hhea none) = some_not_none (find (codes "hhea")) t.hhea t.hhea_is none
      by t (no_hmtx none) = some_not_none (find (codes "hmtx")) t.hmtx t.hmtx_is none
      by t (cut_head head is less) = long_enough (codes "head") head t.head 50 t.format t.head_is t.format_is is less
      by t (cut_maxp maxp is less) = long_enough (codes "maxp") maxp t.maxp 4 s.count t.maxp_is t.count_is is less
      by t (cut_hhea hhea is less) = long_enough (codes "hhea") hhea t.hhea 34 s.number_of_h_metrics t.hhea_is t.pairs_is is less
      by t (in_gvar gvar is g) = gvar_clean axes gvar t.gvar (ap (λ o. variations_in o axes) (sym is) ∙ t.gvar_is) g
