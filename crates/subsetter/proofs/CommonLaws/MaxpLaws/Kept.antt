-- The plain way to `maxp` keeps how many glyphs there are; what it refuses has a fault, and what it makes has none.
use Rattle.std.proofs.Common.{◌≡◌, ℕ, ◌^◌, ◌<◌, ◌≤◌, ltb, Bool, true, false, cond, List, [], ◌++◌, length, drop, Option, Some, None, Ok, Err, refl, sym, ap, subst, ◌∙◌, append_assoc, arith}
use Rattle.std.specs.Prelude.{codes}
use Rattle.std.specs.Int.{w16, w32, to_be_bytes}
use Rattle.std.proofs.lemmas.Bool.{ltb-true, ltb-false}
use Rattle.std.proofs.lemmas.List.{drop_at}
use Rattle.subsetter_base.specs.Bytes.{number}
use Rattle.subsetter_base.specs.declared.error.Error.{Error}
use Rattle.subsetter_base.specs.declared.error.Error.TheVariants.{MalformedFont}
use Rattle.subsetter_base.proofs.ByteLemmas.{be-u16, be-u32, number_at}
use Rattle.subsetter_base.proofs.Results.{done_is, failed_is}
use Rattle.subsetter_base.proofs.Options.{some_not_none, just_is}
use Rattle.subsetter_sfnt.specs.declared.flavor.FontFlavor.{FontFlavor}
use Rattle.subsetter_sfnt.specs.declared.flavor.FontFlavor.TheVariants.{TrueType, Cff}
use Rattle.subsetter.specs.Common.Maxp.Read.{version_of, further_fields, IsMaxProfile, HasMaxProfileFault, short_maxp}
use Rattle.subsetter_sfnt.specs.Fields.Maxp.{num_glyphs}
use Rattle.subsetter.specs.Common.Maxp.Written.{maxp_bytes, maxp_in, maxp_of}

version_small : (flavor : FontFlavor) → version_of flavor < 2 ^ 32
version_small TrueType = omega arith
version_small Cff = omega arith

version_back : (flavor : FontFlavor) (n : ℕ) (source : List ℕ) → number (maxp_bytes flavor n source) 0 4 ≡ Some (version_of flavor)
unfolding maxp_bytes
version_back flavor n source =
    let v = to_be_bytes w32 (version_of flavor) in
    let c = to_be_bytes w16 n in
    let f = further_fields flavor source in
    number_at ((v ++ c) ++ f) [] v (c ++ f) 0 4 (version_of flavor) (append_assoc v c f) refl refl (be-u32 (version_of flavor) (version_small flavor))

count_back : (flavor : FontFlavor) (n : ℕ) (source : List ℕ) → n < 2 ^ 16 → num_glyphs (maxp_bytes flavor n source) ≡ Some n
unfolding maxp_bytes
count_back flavor n source small =
    let v = to_be_bytes w32 (version_of flavor) in
    let c = to_be_bytes w16 n in
    let f = further_fields flavor source in
    number_at ((v ++ c) ++ f) v c f 4 2 n (append_assoc v c f) refl refl (be-u16 n small)

further_back : (flavor : FontFlavor) (n : ℕ) (source : List ℕ) → drop 6 (maxp_bytes flavor n source) ≡ further_fields flavor source
unfolding maxp_bytes
further_back flavor n source = drop_at (to_be_bytes w32 (version_of flavor) ++ to_be_bytes w16 n) (further_fields flavor source) 6 refl

-- ---- what is answered

pub record Steps (find : List ℕ → Option (List ℕ)) (flavor : FontFlavor) (n : ℕ) (maxp : List ℕ) : Type 0 where
  pub source : List ℕ
  pub source_is : find (codes "maxp") ≡ Some source
  pub long : 6 ≤ length source
  pub is : maxp ≡ maxp_bytes flavor n source

steps : (find : List ℕ → Option (List ℕ)) (flavor : FontFlavor) (n : ℕ) (maxp : List ℕ) → maxp_of find flavor n ≡ Ok (Some maxp) → Steps find flavor n maxp
steps find flavor n maxp h = by (find (codes "maxp")) refl h
  where
    tested : (source : List ℕ) (b : Bool) → find (codes "maxp") ≡ Some source → ltb (length source) 6 ≡ b → cond b (Err MalformedFont) (Ok (Some (maxp_bytes flavor n source))) ≡ Ok (Some maxp) → Steps find flavor n maxp
    tested source true at t k = absurd cc
    tested source false at t k =
        record { source = source; source_is = at; long = ltb-false (length source) 6 t; is = sym (just_is (maxp_bytes flavor n source) maxp (done_is (Some (maxp_bytes flavor n source)) (Some maxp) k)) }

    by : (o : Option (List ℕ)) → find (codes "maxp") ≡ o → maxp_in o flavor n ≡ Ok (Some maxp) → Steps find flavor n maxp
    by None at k = absurd cc
    by (Some source) at k = tested source (ltb (length source) 6) at refl k

-- the table that is answered says the number of glyphs
pub is_max_profile : (find out : List ℕ → Option (List ℕ)) (flavor : FontFlavor) (n : ℕ) (maxp : List ℕ) → n < 2 ^ 16 → maxp_of find flavor n ≡ Ok (Some maxp) → out (codes "maxp") ≡ Some maxp → IsMaxProfile find flavor n out
is_max_profile find out flavor n maxp small h at =
    let s = steps find flavor n maxp h in
    record {
      source = s.source;
      source_is = s.source_is;
      maxp = maxp;
      maxp_is = at;
      version = ap (λ (l : List ℕ). number l 0 4) s.is ∙ version_back flavor n s.source;
      count = ap num_glyphs s.is ∙ count_back flavor n s.source small;
      further = ap (λ (l : List ℕ). drop 6 l) s.is ∙ further_back flavor n s.source;
    }

-- the table is written exactly where the source has one
pub no_maxp : (find : List ℕ → Option (List ℕ)) (flavor : FontFlavor) (n : ℕ) → maxp_of find flavor n ≡ Ok None → find (codes "maxp") ≡ None
no_maxp find flavor n h = by (find (codes "maxp")) refl h
  where
    tested : (source : List ℕ) (b : Bool) → cond b (Err MalformedFont) (Ok (Some (maxp_bytes flavor n source))) ≡ Ok None → find (codes "maxp") ≡ None
    tested source true k = absurd cc
    tested source false k = let e = done_is (Some (maxp_bytes flavor n source)) None k in absurd cc

    by : (o : Option (List ℕ)) → find (codes "maxp") ≡ o → maxp_in o flavor n ≡ Ok None → find (codes "maxp") ≡ None
    by None at k = at
    by (Some source) at k = tested source (ltb (length source) 6) k

-- ---- what is refused

-- an error is that of a fault
pub maxp_refused : (find : List ℕ → Option (List ℕ)) (flavor : FontFlavor) (n : ℕ) (e : Error) → maxp_of find flavor n ≡ Err e → HasMaxProfileFault find e
maxp_refused find flavor n e h = by (find (codes "maxp")) refl h
  where
    tested : (source : List ℕ) (b : Bool) → find (codes "maxp") ≡ Some source → ltb (length source) 6 ≡ b → cond b (Err MalformedFont) (Ok (Some (maxp_bytes flavor n source))) ≡ Err e → HasMaxProfileFault find e
    tested source true at t k = subst (HasMaxProfileFault find) (failed_is {A = Option (List ℕ)} MalformedFont e k) (short_maxp source at (ltb-true (length source) 6 t))
    tested source false at t k = absurd cc

    by : (o : Option (List ℕ)) → find (codes "maxp") ≡ o → maxp_in o flavor n ≡ Err e → HasMaxProfileFault find e
    by None at k = absurd cc
    by (Some source) at k = tested source (ltb (length source) 6) at refl k

-- what is answered has none
pub maxp_clean : (find : List ℕ → Option (List ℕ)) (flavor : FontFlavor) (n : ℕ) (x : Option (List ℕ)) (e : Error) → maxp_of find flavor n ≡ Ok x → HasMaxProfileFault find e → ⊥
maxp_clean find flavor n None e h (short_maxp maxp at lt) = some_not_none (find (codes "maxp")) maxp at (no_maxp find flavor n h)
maxp_clean find flavor n (Some out) e h (short_maxp maxp at lt) =
    let s = steps find flavor n out h in
    let same : s.source ≡ maxp = just_is s.source maxp (sym s.source_is ∙ at) in
    omega (arith, ap length same, s.long, lt)
