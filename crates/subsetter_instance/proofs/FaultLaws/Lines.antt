-- The metrics of hhea and post that vary are refused exactly where one of them has a fault.
--   lines_refused, lines_clean   where they aren't made there is a fault, and where they are there is none
use Rattle.std.proofs.Common.{◌≡◌, ℕ, ◌+◌, ◌≤◌, Bool, true, false, cond, List, length, Option, Some, None, Result, Ok, Err, ℤ, refl, sym, ap, subst, ◌∙◌, ◌⊎◌, inl, inr, arith}
use Rattle.std.specs.Prelude.{codes, ◌+ℤ◌, nat_lt}
use Rattle.std.specs.Option.{ok_or}
use Rattle.std.proofs.lemmas.Bool.{ltb-false, ltb-true}
use Rattle.subsetter_base.specs.Bytes.{◌>>=◌, signed_at}
use Rattle.subsetter_base.specs.declared.error.Error.{Error}
use Rattle.subsetter_base.specs.declared.error.Error.TheVariants.{MalformedFont, OverflowError}
use Rattle.subsetter_base.specs.declared.tag.Tag.{Tag}
use Rattle.subsetter_base.proofs.Options.{just_is, some_not_none}
use Rattle.subsetter_base.proofs.Results.{bind_err, bind_ok, done, done_is, failed_is, named_err, named_ok, ok_not_err}
use Rattle.subsetter_points.specs.Simple.{has_16_bits}
use Rattle.subsetter_variation.specs.Items.FontMetrics.{metric_delta}
use Rattle.subsetter_variation.specs.Items.ItemVariations.{whole_or_fault}
use Rattle.subsetter_instance.specs.Glyphs.Drawn.{word_or_fault}
use Rattle.subsetter_instance.specs.Tables.Lines.{Lines, lines_of, moved_hhea, moved_post, slant, slanted, three_lines, varied, varied_hhea, varied_post, varied_post_if, varied_underline}
use Rattle.subsetter_instance.specs.Faults.LinesFault.{HasMetricFault, HasLinesFault, IsLineOfHhea, IsLineOfPost, in_mvar, large_delta, wide_metric, in_hhea, in_post, ascender, descender, line_gap, caret_slope_rise, caret_slope_run, caret_offset, underline_position, underline_thickness}
use Rattle.subsetter_instance.proofs.FaultLaws.ItemLaws.Mvar.{mvar_refused, mvar_clean}
use Rattle.subsetter_instance.proofs.FaultLaws.Rounded.{large_refused, large_stops}
use Rattle.subsetter_instance.proofs.FileLaws.Lines.{line_steps}

module _ (mvar : List ℕ) (at : List ℤ) where
  -- ---- one metric

  wide_refused : (v : ℤ) (e : Error) → word_or_fault v ≡ Err e → (has_16_bits v ≡ false) × (OverflowError ≡ e)
  wide_refused v e h = by (has_16_bits v) h
    where
      by : (b : Bool) → cond b (Ok v) (Err OverflowError) ≡ Err e → (b ≡ false) × (OverflowError ≡ e)
      by true k = absurd cc
      by false k = (refl, failed_is {A = ℤ} OverflowError e k)

  abbrev moved_by : ℤ → ℤ → Result ℤ Error
  moved_by before d = word_or_fault (before +ℤ d)

  module _ (tag table : List ℕ) (offset : ℕ) where
    item_refused : (e : Error) (o : Option ℤ) → metric_delta mvar at tag ≡ o → whole_or_fault o ≡ Err e → HasMetricFault mvar at tag table offset e
    item_refused e None is h = subst (HasMetricFault mvar at tag table offset) (failed_is {A = ℤ} MalformedFont e h) (in_mvar (mvar_refused mvar at tag is))
    item_refused e (Some d) is h = let f = large_refused d e h in subst (HasMetricFault mvar at tag table offset) f.1 (large_delta d is f.0)

    metric_refused : (e : Error) → varied mvar at tag (signed_at table offset) ≡ Err e → HasMetricFault mvar at tag table offset e
    metric_refused e h =
        elim (bind_err (whole_or_fault (metric_delta mvar at tag)) (moved_by (signed_at table offset)) e h) [
          | inl k ↦ item_refused e (metric_delta mvar at tag) refl k
          | inr k ↦ let f = wide_refused (signed_at table offset +ℤ k.0) e k.2 in subst (HasMetricFault mvar at tag table offset) f.1 (wide_metric k.0 k.1 f.0)
        ]

    metric_clean : (v : ℤ) (e : Error) → varied mvar at tag (signed_at table offset) ≡ Ok v → HasMetricFault mvar at tag table offset e → ⊥
    metric_clean v e h f =
        let a = bind_ok (whole_or_fault (metric_delta mvar at tag)) (moved_by (signed_at table offset)) v h in
        by e a.0 a.1 a.2 f
      where
        read : (o : Option ℤ) (d : ℤ) → whole_or_fault o ≡ Ok d → (x : ℤ) × (o ≡ Some x)
        read None d k = absurd cc
        read (Some x) d k = (x, refl)

        by : (e : Error) (d : ℤ) → whole_or_fault (metric_delta mvar at tag) ≡ Ok d → word_or_fault (signed_at table offset +ℤ d) ≡ Ok v → HasMetricFault mvar at tag table offset e → ⊥
        by _ d is fits (in_mvar f) = let x = read (metric_delta mvar at tag) d is in mvar_clean mvar at tag x.0 x.1 f
        by _ d is fits (large_delta x there large) = ok_not_err (whole_or_fault (metric_delta mvar at tag)) d OverflowError is (ap whole_or_fault there ∙ large_stops x large)
        by _ d is fits (wide_metric x there wide) =
            let same : x ≡ d = done_is x d (sym there ∙ is) in
            let stops : word_or_fault (signed_at table offset +ℤ x) ≡ Err OverflowError = ap (λ b. cond b (done (signed_at table offset +ℤ x)) (Err OverflowError)) wide in
            ok_not_err (word_or_fault (signed_at table offset +ℤ d)) v OverflowError fits (ap (λ z. word_or_fault (signed_at table offset +ℤ z)) (sym same) ∙ stops)

  -- ---- hhea

  module _ (hhea : List ℕ) (place : ℕ) (a b c : List ℕ) where
    abbrev third_of : ℤ → ℤ → Result (ℤ × ℤ × ℤ) Error
    third_of first second = varied mvar at c (signed_at hhea (place + 4)) >>= λ third. Ok (first, second, third)

    abbrev second_of : ℤ → Result (ℤ × ℤ × ℤ) Error
    second_of first = varied mvar at b (signed_at hhea (place + 2)) >>= third_of first

    three_refused : (e : Error) → three_lines mvar at hhea place a b c ≡ Err e → HasMetricFault mvar at a hhea place e ⊎ (HasMetricFault mvar at b hhea (place + 2) e ⊎ HasMetricFault mvar at c hhea (place + 4) e)
    unfolding three_lines
    three_refused e h =
        elim (bind_err (varied mvar at a (signed_at hhea place)) second_of e h) [
          | inl k ↦ inl (metric_refused a hhea place e k)
          | inr x ↦ elim (bind_err (varied mvar at b (signed_at hhea (place + 2))) (third_of x.0) e x.2) [
            | inl k ↦ inr (inl (metric_refused b hhea (place + 2) e k))
            | inr y ↦ elim (bind_err (varied mvar at c (signed_at hhea (place + 4))) (λ third. Ok (x.0, y.0, third)) e y.2) [
              | inl k ↦ inr (inr (metric_refused c hhea (place + 4) e k))
              | inr k ↦ let z = k.2 in absurd cc
            ]
          ]
        ]

    pub record ThreeSteps (l : ℤ × ℤ × ℤ) : Type 0 where
      pub first : ℤ
      pub first_is : varied mvar at a (signed_at hhea place) ≡ Ok first
      pub second : ℤ
      pub second_is : varied mvar at b (signed_at hhea (place + 2)) ≡ Ok second
      pub third : ℤ
      pub third_is : varied mvar at c (signed_at hhea (place + 4)) ≡ Ok third
      pub same : l ≡ (first, second, third)

    pub three_steps : (l : ℤ × ℤ × ℤ) → three_lines mvar at hhea place a b c ≡ Ok l → ThreeSteps l
    unfolding three_lines
    three_steps l h =
        let x = bind_ok (varied mvar at a (signed_at hhea place)) second_of l h in
        let y = bind_ok (varied mvar at b (signed_at hhea (place + 2))) (third_of x.0) l x.2 in
        let z = bind_ok (varied mvar at c (signed_at hhea (place + 4))) (λ third. Ok (x.0, y.0, third)) l y.2 in
        record { first = x.0; first_is = x.1; second = y.0; second_is = y.1; third = z.0; third_is = z.1; same = sym (done_is (x.0, y.0, z.0) l z.2) }

  module _ (hhea : List ℕ) where
    record HasLineFault (e : Error) : Type 0 where
      tag : List ℕ
      offset : ℕ
      line : IsLineOfHhea tag offset
      fault : HasMetricFault mvar at tag hhea offset e

    abbrev pub lines : Result (ℤ × ℤ × ℤ) Error
    lines = three_lines mvar at hhea 4 (codes "hasc") (codes "hdsc") (codes "hlgp")

    abbrev pub caret : Result (ℤ × ℤ × ℤ) Error
    caret = three_lines mvar at hhea 18 (codes "hcrs") (codes "hcrn") (codes "hcof")

    abbrev pub with_caret : ℤ × ℤ × ℤ → Result (List ℕ) Error
    with_caret l = caret >>= λ c. Ok (moved_hhea hhea l c)

    hhea_refused : (e : Error) → varied_hhea (Some mvar) at hhea ≡ Err e → HasLineFault e
    unfolding varied_hhea
    hhea_refused e h =
        elim (bind_err lines with_caret e h) [
          | inl k ↦ elim (three_refused hhea 4 (codes "hasc") (codes "hdsc") (codes "hlgp") e k) [
            | inl f ↦ record { tag = codes "hasc"; offset = 4; line = ascender; fault = f }
            | inr l ↦ elim l [ inl f ↦ record { tag = codes "hdsc"; offset = 6; line = descender; fault = f } | inr f ↦ record { tag = codes "hlgp"; offset = 8; line = line_gap; fault = f } ]
          ]
          | inr x ↦ elim (bind_err caret (λ c. Ok (moved_hhea hhea x.0 c)) e x.2) [
            | inl k ↦ elim (three_refused hhea 18 (codes "hcrs") (codes "hcrn") (codes "hcof") e k) [
              | inl f ↦ record { tag = codes "hcrs"; offset = 18; line = caret_slope_rise; fault = f }
              | inr l ↦ elim l [ inl f ↦ record { tag = codes "hcrn"; offset = 20; line = caret_slope_run; fault = f } | inr f ↦ record { tag = codes "hcof"; offset = 22; line = caret_offset; fault = f } ]
            ]
            | inr k ↦ let z = k.2 in absurd cc
          ]
        ]

    hhea_clean : (new tag : List ℕ) (offset : ℕ) (e : Error) → varied_hhea (Some mvar) at hhea ≡ Ok new → IsLineOfHhea tag offset → HasMetricFault mvar at tag hhea offset e → ⊥
    unfolding varied_hhea
    hhea_clean new tag offset e h line f =
        let x = bind_ok lines with_caret new h in
        let y = bind_ok caret (λ c. Ok (moved_hhea hhea x.0 c)) new x.2 in
        by tag offset x.0 y.0 (three_steps hhea 4 (codes "hasc") (codes "hdsc") (codes "hlgp") x.0 x.1) (three_steps hhea 18 (codes "hcrs") (codes "hcrn") (codes "hcof") y.0 y.1) line f
      where
        by : (tag : List ℕ) (offset : ℕ) (l c : ℤ × ℤ × ℤ) → ThreeSteps hhea 4 (codes "hasc") (codes "hdsc") (codes "hlgp") l → ThreeSteps hhea 18 (codes "hcrs") (codes "hcrn") (codes "hcof") c → IsLineOfHhea tag offset → HasMetricFault mvar at tag hhea offset e → ⊥
        by _ _ l c s t ascender f = metric_clean (codes "hasc") hhea 4 s.first e s.first_is f
        by _ _ l c s t descender f = metric_clean (codes "hdsc") hhea 6 s.second e s.second_is f
        by _ _ l c s t line_gap f = metric_clean (codes "hlgp") hhea 8 s.third e s.third_is f
        by _ _ l c s t caret_slope_rise f = metric_clean (codes "hcrs") hhea 18 t.first e t.first_is f
        by _ _ l c s t caret_slope_run f = metric_clean (codes "hcrn") hhea 20 t.second e t.second_is f
        by _ _ l c s t caret_offset f = metric_clean (codes "hcof") hhea 22 t.third e t.third_is f

  -- ---- post

  module _ (post : List ℕ) where
    record HasUnderlineFault (e : Error) : Type 0 where
      tag : List ℕ
      offset : ℕ
      line : IsLineOfPost tag offset
      long : 12 ≤ length post
      fault : HasMetricFault mvar at tag post offset e

    abbrev pub with_position : ℤ → Result (List ℕ) Error
    with_position position = varied mvar at (codes "unds") (signed_at post 10) >>= λ thickness. Ok (moved_post post position thickness)

    underline_refused : (e : Error) → 12 ≤ length post → varied_underline mvar at post ≡ Err e → HasUnderlineFault e
    unfolding varied_underline
    underline_refused e long h =
        elim (bind_err (varied mvar at (codes "undo") (signed_at post 8)) with_position e h) [
          | inl k ↦ record { tag = codes "undo"; offset = 8; line = underline_position; long = long; fault = metric_refused (codes "undo") post 8 e k }
          | inr x ↦ elim (bind_err (varied mvar at (codes "unds") (signed_at post 10)) (λ thickness. Ok (moved_post post x.0 thickness)) e x.2) [
            | inl k ↦ record { tag = codes "unds"; offset = 10; line = underline_thickness; long = long; fault = metric_refused (codes "unds") post 10 e k }
            | inr k ↦ let z = k.2 in absurd cc
          ]
        ]

    post_refused : (e : Error) → varied_post (Some mvar) at post ≡ Err e → HasUnderlineFault e
    post_refused e h = by (nat_lt (length post) 12) refl h
      where
        by : (b : Bool) → nat_lt (length post) 12 ≡ b → cond b (Ok post) (varied_underline mvar at post) ≡ Err e → HasUnderlineFault e
        by true t k = absurd cc
        by false t k = underline_refused e (ltb-false (length post) 12 t) k

    post_clean : (new tag : List ℕ) (offset : ℕ) (e : Error) → varied_post (Some mvar) at post ≡ Ok new → 12 ≤ length post → IsLineOfPost tag offset → HasMetricFault mvar at tag post offset e → ⊥
    unfolding varied_underline
    post_clean new tag offset e h long line f =
        let k = not_shorter (nat_lt (length post) 12) refl h in
        let x = bind_ok (varied mvar at (codes "undo") (signed_at post 8)) with_position new k in
        let y = bind_ok (varied mvar at (codes "unds") (signed_at post 10)) (λ thickness. Ok (moved_post post x.0 thickness)) new x.2 in
        by tag offset x.0 x.1 y.0 y.1 line f
      where
        not_shorter : (b : Bool) → nat_lt (length post) 12 ≡ b → cond b (Ok post) (varied_underline mvar at post) ≡ Ok new → varied_underline mvar at post ≡ Ok new
        not_shorter true t k = let less = ltb-true (length post) 12 t in absurd (omega arith)
        not_shorter false t k = k

        by : (tag : List ℕ) (offset : ℕ) (p : ℤ) → varied mvar at (codes "undo") (signed_at post 8) ≡ Ok p → (q : ℤ) → varied mvar at (codes "unds") (signed_at post 10) ≡ Ok q → IsLineOfPost tag offset → HasMetricFault mvar at tag post offset e → ⊥
        by _ _ p p_is q q_is underline_position f = metric_clean (codes "undo") post 8 p e p_is f
        by _ _ p p_is q q_is underline_thickness f = metric_clean (codes "unds") post 10 q e q_is f

-- ---- both

module _ (find : List ℕ → Option (List ℕ)) (at : List ℤ) where
  post_if_refused : (e : Error) → varied_post_if (find (codes "MVAR")) at (find (codes "post")) ≡ Err e → HasLinesFault find at e
  post_if_refused e h = by (find (codes "MVAR")) (find (codes "post")) refl refl h
    where
      by : (mvar post : Option (List ℕ)) → find (codes "MVAR") ≡ mvar → find (codes "post") ≡ post → varied_post_if mvar at post ≡ Err e → HasLinesFault find at e
      by mvar None m p k = absurd cc
      by None (Some post) m p k = absurd cc
      by (Some mvar) (Some post) m p k = elim (bind_err (varied_post (Some mvar) at post) (λ new. Ok (Some new)) e k) [
        | inl l ↦ let f = post_refused mvar at post e l in in_post mvar post f.tag f.offset m p f.long f.line f.fault
        | inr l ↦ let z = l.2 in absurd cc
      ]

  hhea_if_refused : (hhea : List ℕ) (e : Error) → find (codes "hhea") ≡ Some hhea → varied_hhea (find (codes "MVAR")) at hhea ≡ Err e → HasLinesFault find at e
  unfolding varied_hhea
  hhea_if_refused hhea e is h = by (find (codes "MVAR")) refl h
    where
      by : (mvar : Option (List ℕ)) → find (codes "MVAR") ≡ mvar → varied_hhea mvar at hhea ≡ Err e → HasLinesFault find at e
      by None m k = absurd cc
      by (Some mvar) m k = let f = hhea_refused mvar at hhea e k in in_hhea mvar hhea f.tag f.offset m is f.line f.fault

  pub lines_refused : (settings : List (Tag × ℤ)) (hhea : List ℕ) (e : Error) → find (codes "hhea") ≡ Some hhea → lines_of find settings at ≡ Err e → HasLinesFault find at e
  unfolding lines_of
  lines_refused settings hhea e is h =
      elim (bind_err (ok_or (find (codes "hhea")) MalformedFont) (λ hhea. varied_hhea (find (codes "MVAR")) at hhea >>= λ new. varied_post_if (find (codes "MVAR")) at (find (codes "post")) >>= λ post. Ok (let l : Lines = record { hhea = new; post = slanted (slant find settings at) post } in l)) e h) [
        | inl k ↦ absurd (some_not_none (find (codes "hhea")) hhea is (named_err (find (codes "hhea")) MalformedFont e k).0)
        | inr x ↦ elim (bind_err (varied_hhea (find (codes "MVAR")) at x.0) (λ new. varied_post_if (find (codes "MVAR")) at (find (codes "post")) >>= λ post. Ok (let l : Lines = record { hhea = new; post = slanted (slant find settings at) post } in l)) e x.2) [
          | inl k ↦ hhea_if_refused x.0 e (named_ok (find (codes "hhea")) MalformedFont x.0 x.1) k
          | inr y ↦ elim (bind_err (varied_post_if (find (codes "MVAR")) at (find (codes "post"))) (λ post. Ok (let l : Lines = record { hhea = y.0; post = slanted (slant find settings at) post } in l)) e y.2) [
            | inl k ↦ post_if_refused e k
            | inr k ↦ let z = k.2 in absurd cc
          ]
        ]
      ]

  pub lines_clean : (settings : List (Tag × ℤ)) (l : Lines) (e : Error) → lines_of find settings at ≡ Ok l → HasLinesFault find at e → ⊥
  lines_clean settings l e h (in_hhea mvar hhea tag offset m is line f) =
      let s = line_steps find settings at l h in
      let same : s.hhea ≡ hhea = just_is s.hhea hhea (sym s.hhea_is ∙ is) in
      hhea_clean mvar at hhea l.hhea tag offset e (ap (λ (x : List ℕ). varied_hhea (Some mvar) at x) (sym same) ∙ ap (λ o. varied_hhea o at s.hhea) (sym m) ∙ s.new_is) line f
  lines_clean settings l e h (in_post mvar post tag offset m is long line f) =
      let s = line_steps find settings at l h in
      let k : varied_post_if (Some mvar) at (Some post) ≡ Ok s.post = ap (λ o. varied_post_if o at (Some post)) (sym m) ∙ ap (λ o. varied_post_if (find (codes "MVAR")) at o) (sym is) ∙ s.post_is in
      let new = bind_ok (varied_post (Some mvar) at post) (λ new. Ok (Some new)) s.post k in
      post_clean mvar at post new.0 tag offset e new.1 long line f
